-- The making and equality of sets, by their keys: equal keys count once, and which of them a set keeps is open.
use Rattle.std.specs.Prelude.{◌≡◌, Bool, List, All}
use Rattle.std.specs.Set.{is_member}
use Rattle.std.specs.List.{IsDistinct}
use Rattle.std.specs.List.Sorted.{IsStrictlySortedBy}
use Rattle.std.specs.declared.cmp.Ordering.{Ordering}
use Rattle.bitcode_shapes.specs.Datum.{Datum}
use Rattle.bitcode_shapes.specs.Lists.{MakesSequence}

-- a key is equal to one of the first if and only if it is equal to one of the second
abbrev pub SameMembers : {T : Type 0} → (T → T → Bool) → List T → List T → Type 0
SameMembers {T} eq keys others = (key : T) → is_member eq keys key ≡ is_member eq others key

-- the keys are those of the values that the elements make
pub record MakesSet {T : Type 0} (is_value : T → Type 0) (eq : T → T → Bool) (makes : Datum → T → Type 0) (d : Datum) (keys : List T) : Type 0 where
  pub values : List T
  pub are : All is_value values
  pub making : MakesSequence makes d values
  pub members : SameMembers eq keys values

-- a set whose keys satisfy their invariant and are in order
pub record IsOrderedSet {T : Type 0} (is_value : T → Type 0) (cmp : T → T → Ordering) (keys : List T) : Type 0 where
  pub each : All is_value keys
  pub ascending : IsStrictlySortedBy cmp keys

-- a set whose keys satisfy their invariant, no two of them equal
pub record IsDistinctSet {T : Type 0} (is_value : T → Type 0) (eq : T → T → Bool) (keys : List T) : Type 0 where
  pub each : All is_value keys
  pub apart : IsDistinct eq keys
