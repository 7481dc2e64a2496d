-- The listings and making of values that hold elements one by one, front to back, as slices and vectors do. The
-- definitions speak about the list of the elements.
use Rattle.std.specs.Prelude.{◌≡◌, List}
use Rattle.std.specs.List.{AllZip}
use Rattle.bitcode_shapes.specs.Datum.{Datum, list, data_of}

-- the list of a listing of each element
pub record ListsSequence {T : Type 0} (lists : T → Datum → Type 0) (values : List T) (d : Datum) : Type 0 where
  pub elements : List Datum
  pub is : d ≡ list (data_of elements)
  pub each : AllZip lists values elements

pub record MakesSequence {T : Type 0} (makes : Datum → T → Type 0) (d : Datum) (values : List T) : Type 0 where
  pub elements : List Datum
  pub is : d ≡ list (data_of elements)
  pub each : AllZip makes elements values

-- as many elements, and the same at each place
abbrev pub SameSequence : {T : Type 0} → (T → T → Type 0) → List T → List T → Type 0
SameSequence same values others = AllZip same values others
