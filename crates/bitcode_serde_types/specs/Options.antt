-- The content of an option.
use Rattle.std.specs.Prelude.{Option, Some, None}
use Rattle.bitcode_shapes.specs.Datum.{Datum, choice, unit}

abbrev pub option_datum : {A : Type 0} → (A → Datum) → Option A → Datum
option_datum datum None = choice 0 unit
option_datum datum (Some a) = choice 1 (datum a)
