-- The listings, making and equality of values with an internal order, such as heaps and hashed sets: the order does not
-- matter, and each element counts as often as it occurs.
use Rattle.std.specs.Prelude.{List}
use Rattle.std.specs.List.Sorted.{IsPermutation}
use Rattle.bitcode_shapes.specs.Datum.{Datum}
use Rattle.bitcode_shapes.specs.Lists.{ListsSequence, MakesSequence, SameSequence}

-- the list of a listing of each element, in any order
pub record ListsInAnyOrder {T : Type 0} (lists : T → Datum → Type 0) (values : List T) (d : Datum) : Type 0 where
  pub order : List T
  pub reordered : IsPermutation values order
  pub listing : ListsSequence lists order d

-- the values, in some order, are made from the elements one by one
pub record MakesInAnyOrder {T : Type 0} (makes : Datum → T → Type 0) (d : Datum) (values : List T) : Type 0 where
  pub order : List T
  pub reordered : IsPermutation values order
  pub making : MakesSequence makes d order

-- the values, in some order, are the same as the others one by one
pub record SameInAnyOrder {T : Type 0} (same : T → T → Type 0) (values others : List T) : Type 0 where
  pub order : List T
  pub reordered : IsPermutation values order
  pub each : SameSequence same order others
