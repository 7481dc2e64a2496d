-- The listings and making of the unit: it holds no data.
use Rattle.std.specs.Prelude.{◌≡◌}
use Rattle.bitcode_shapes.specs.Datum.{Datum, unit}

-- the unit holds no data
abbrev pub ListsUnit : {T : Type 0} → T → Datum → Type 0
ListsUnit t d = d ≡ unit

abbrev pub MakesUnit : {T : Type 0} → Datum → T → Type 0
MakesUnit d t = d ≡ unit
