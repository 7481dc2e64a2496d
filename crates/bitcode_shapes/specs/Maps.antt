-- The making and equality of maps, by their entries: of several pairs with equal keys, the last one gives the value.
-- Which of the equal keys a map keeps is open.
use Rattle.std.specs.Prelude.{◌≡◌, Bool, Option, Some, None, List, All}
use Rattle.std.specs.List.{IsDistinct}
use Rattle.std.specs.List.Sorted.{IsStrictlySortedBy}
use Rattle.std.specs.declared.cmp.Ordering.{Ordering}
use Rattle.std.specs.Map.{lookup, keys_of, update_all}
use Rattle.bitcode_shapes.specs.Datum.{Datum}
use Rattle.bitcode_shapes.specs.Lists.{MakesSequence}
use Rattle.bitcode_shapes.specs.Pairs.{IsPairValue, MakesPair}

-- both are none, or both are values and the same
abbrev pub SameFound : {X : Type 0} → (X → X → Type 0) → Option X → Option X → Type 0
SameFound same None None = Unit {0}
SameFound same None (Some y) = ⊥
SameFound same (Some x) None = ⊥
SameFound same (Some x) (Some y) = same x y

-- for each key both have no value, or both the same
abbrev pub SameEntries : {K X : Type 0} → (K → K → Bool) → (X → X → Type 0) → List (K × X) → List (K × X) → Type 0
SameEntries {K} eq same entries others = (key : K) → SameFound same (lookup (eq key) entries) (lookup (eq key) others)

-- each key has the value of the last pair with an equal key, among the pairs that the elements make
pub record MakesMap {K X : Type 0} (is_key : K → Type 0) (is_value : X → Type 0) (eq : K → K → Bool) (makes_key : Datum → K → Type 0) (makes_value : Datum → X → Type 0)
    (d : Datum) (entries : List (K × X)) : Type 0 where
  pub pairs : List (K × X)
  pub are : All (IsPairValue is_key is_value) pairs
  pub making : MakesSequence (MakesPair makes_key makes_value) d pairs
  pub found : (key : K) → lookup (eq key) entries ≡ update_all eq (λ _. None) pairs key

-- a map whose entries satisfy their invariants, with its keys in order
pub record IsOrderedMap {K X : Type 0} (is_key : K → Type 0) (is_value : X → Type 0) (cmp : K → K → Ordering) (entries : List (K × X)) : Type 0 where
  pub each : All (IsPairValue is_key is_value) entries
  pub ascending : IsStrictlySortedBy cmp (keys_of entries)

-- a map whose entries satisfy their invariants, with no two equal keys
pub record IsDistinctMap {K X : Type 0} (is_key : K → Type 0) (is_value : X → Type 0) (eq : K → K → Bool) (entries : List (K × X)) : Type 0 where
  pub each : All (IsPairValue is_key is_value) entries
  pub apart : IsDistinct eq (keys_of entries)
