-- Where places lead, by their numbers.
use Rattle.std.specs.Prelude.{◌≡◌, ℕ, zero, suc, ◌≤◌, ◌==◌, ◌||◌, Bool, false, Option, None, Some, List, [], ◌∷◌, slice_get}
use Rattle.bitcode_serde.specs.declared.step.Step.{Step as CodeStep}
use Rattle.bitcode_serde.specs.declared.step.Step.TheVariants as step
use Rattle.bitcode_serde.specs.declared.links.Links.{Links}

abbrev pub is_among : ℕ → List ℕ → Bool
is_among i [] = false
is_among i (j ∷ js) = (i == j) || is_among i js

-- a step to a field does not go past this field
abbrev pub IsUpTo : ℕ → CodeStep → Type 0
IsUpTo last s = (i : ℕ) → s ≡ step.Field i → i ≤ last

-- ---- of all places, by number

-- the number of the column
abbrev pub column_link : List Links → ℕ → Option ℕ
column_link [] n = None
column_link (l ∷ ls) zero = l.column
column_link (l ∷ ls) (suc n) = column_link ls n

-- the places one step below that were met, each by its index among all places below the root
abbrev pub children : List Links → ℕ → List ℕ
children [] n = []
children (l ∷ ls) zero = l.children.items
children (l ∷ ls) (suc n) = children ls n

-- no later field was met
abbrev pub last_field : List Links → ℕ → ℕ
last_field [] n = 0
last_field (l ∷ ls) zero = l.last_field
last_field (l ∷ ls) (suc n) = last_field ls n

-- Column i stands at place n just where the place has a link to it.
abbrev pub AreFiled : List Links → List ℕ → Type 0
AreFiled ls places =
    (n i : ℕ) → (column_link ls n ≡ Some i → slice_get places i ≡ Some n) × (slice_get places i ≡ Some n → column_link ls n ≡ Some i)
