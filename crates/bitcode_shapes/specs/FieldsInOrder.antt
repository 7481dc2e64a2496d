-- `==` and the order of a tuple or a struct take its fields one after the other: a derive takes the last two fields
-- together, a tuple the first two, and a tuple of two tuples the fields of each. All give the same answers.
use Rattle.std.proofs.Common.{◌≡◌, Bool, List, [], ◌∷◌, ◌++◌, refl, sym, ◌∙◌, ap}
use Rattle.std.specs.Prelude.{◌&&◌}
use Rattle.std.specs.declared.cmp.Ordering.{Ordering}
use Rattle.std.specs.Ordering.{ordering_then}
use Rattle.bitcode_shapes.specs.CompareAlike.{and_nested, then_nested}

module _ {A : Type 0} (next : A → A → A) where
  -- the last two together first
  abbrev pub from_last : A → List A → A
  from_last a [] = a
  from_last a (b ∷ rest) = next a (from_last b rest)

  -- the first two together first
  abbrev pub from_first : A → List A → A
  from_first a [] = a
  from_first a (b ∷ rest) = from_first (next a b) rest

  module _ (nested : (a b c : A) → next a (next b c) ≡ next (next a b) c) where
    first_two : (a b : A) (rest : List A) → from_last a (b ∷ rest) ≡ from_last (next a b) rest
    first_two a b [] = refl
    first_two a b (c ∷ rest) = nested a b (from_last c rest)

    in_order : (a : A) (rest : List A) → from_last a rest ≡ from_first a rest
    in_order a [] = refl
    in_order a (b ∷ rest) = first_two a b rest ∙ in_order (next a b) rest

    halves_in_order : (a : A) (rest : List A) (b : A) (later : List A)
        → from_last a (rest ++ (b ∷ later)) ≡ next (from_first a rest) (from_first b later)
    halves_in_order a [] b later = ap (next a) (in_order b later)
    halves_in_order a (c ∷ rest) b later = first_two a c (rest ++ (b ∷ later)) ∙ halves_in_order (next a c) rest b later

    joined_halves : (a : A) (rest : List A) (b : A) (later : List A)
        → from_first a (rest ++ (b ∷ later)) ≡ next (from_first a rest) (from_first b later)
    joined_halves a rest b later = sym (in_order a (rest ++ (b ∷ later))) ∙ halves_in_order a rest b later

-- of a struct, as those of a tuple
pub ands_in_order : (a : Bool) (rest : List Bool) → from_last ◌&&◌ a rest ≡ from_first ◌&&◌ a rest
ands_in_order = in_order ◌&&◌ and_nested

pub thens_in_order : (a : Ordering) (rest : List Ordering) → from_last ordering_then a rest ≡ from_first ordering_then a rest
thens_in_order = in_order ordering_then then_nested

-- of a struct, as those of two tuples
pub ands_in_halves : (a : Bool) (rest : List Bool) (b : Bool) (later : List Bool)
    → from_last ◌&&◌ a (rest ++ (b ∷ later)) ≡ (from_first ◌&&◌ a rest && from_first ◌&&◌ b later)
ands_in_halves = halves_in_order ◌&&◌ and_nested

pub thens_in_halves : (a : Ordering) (rest : List Ordering) (b : Ordering) (later : List Ordering)
    → from_last ordering_then a (rest ++ (b ∷ later)) ≡ ordering_then (from_first ordering_then a rest) (from_first ordering_then b later)
thens_in_halves = halves_in_order ordering_then then_nested

-- of a tuple, as those of two tuples
pub joined_ands : (a : Bool) (rest : List Bool) (b : Bool) (later : List Bool)
    → from_first ◌&&◌ a (rest ++ (b ∷ later)) ≡ (from_first ◌&&◌ a rest && from_first ◌&&◌ b later)
joined_ands = joined_halves ◌&&◌ and_nested

pub joined_thens : (a : Ordering) (rest : List Ordering) (b : Ordering) (later : List Ordering)
    → from_first ordering_then a (rest ++ (b ∷ later)) ≡ ordering_then (from_first ordering_then a rest) (from_first ordering_then b later)
joined_thens = joined_halves ordering_then then_nested
