-- Places by number: the root is number 0, and each other lies below one before it.
use Rattle.std.specs.Prelude.{◌≡◌, ℕ, ◌<◌, ◌≤◌, ◌⊎◌, true, Some, slice_get, List, [], ◌∷◌, ◌++◌, length, get_or}
use Rattle.bitcode_untyped.specs.Walk.{Step, element, key, value, variant, field, Place}
use Rattle.bitcode_serde.specs.Links.{is_among, IsUpTo, children, last_field}
use Rattle.bitcode_serde.specs.declared.links.Links.{Links}
use Rattle.bitcode_serde.specs.declared.places.Below.{Below}
use Rattle.bitcode_serde.specs.declared.step.Step.{Step as CodeStep}
use Rattle.bitcode_serde.specs.declared.step.Step.TheVariants as step

abbrev pub step_of : CodeStep → Step
step_of step.Element = element
step_of step.Key = key
step_of step.Value = value
step_of (step.Variant i) = variant i
step_of (step.Field i) = field i

abbrev pub place_at : List Place → ℕ → Place
place_at ps i = get_or ps i []

abbrev pub places_from : List Place → List Below → List Place
places_from ps [] = ps
places_from ps (b ∷ bs) = places_from (ps ++ (step_of b.step ∷ place_at ps b.above) ∷ []) bs

-- the root, and each place below one before it
abbrev pub places : List Below → List Place
places = places_from ([] ∷ [])

-- i is the number of the place
abbrev pub IsPlace : List Below → ℕ → Place → Type 0
IsPlace bs i p = (i ≤ length bs) × (place_at (places bs) i ≡ p)

-- each place lies below one before it; the first that is met is number 1
abbrev pub LieBelow : List Below → Type 0
LieBelow bs = (i : ℕ) (b : Below) → slice_get bs i ≡ Some b → b.above ≤ i

abbrev pub AreApart : List Place → Type 0
AreApart ps = (i j : ℕ) → i < length ps → j < length ps → place_at ps i ≡ place_at ps j → i ≡ j

-- Each place is a child of the one above it.
abbrev pub AreLinked : List Below → List Links → Type 0
AreLinked bs ls = (i : ℕ) (b : Below) → slice_get bs i ≡ Some b → is_among i (children ls b.above) ≡ true

-- Each child of a place lies below it, and is not past its last field.
abbrev pub LinkBelow : List Below → List Links → Type 0
LinkBelow bs ls = (above i : ℕ) → is_among i (children ls above) ≡ true
    → (i < length bs) × ((b : Below) → slice_get bs i ≡ Some b → (b.above ≡ above) × IsUpTo (last_field ls above) b.step)

-- No place is that one.
abbrev pub IsNew : List Below → Below → Type 0
IsNew bs b = (i : ℕ) → slice_get bs i ≡ Some b → ⊥

-- Nothing was added, or that place behind the others, and it has the number.
abbrev pub IsGrown : List Below → Below → List Below → ℕ → Type 0
IsGrown old b new n = (new ≡ old) ⊎ ((new ≡ old ++ b ∷ []) × (n ≡ length new))
