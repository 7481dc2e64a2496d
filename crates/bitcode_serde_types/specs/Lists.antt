-- The content of a list.
use Rattle.std.specs.Prelude.{List, map}
use Rattle.bitcode_shapes.specs.Datum.{Datum, list, data_of}

abbrev pub list_datum : {A : Type 0} → (A → Datum) → List A → Datum
list_datum f xs = list (data_of (map f xs))
