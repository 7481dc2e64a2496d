-- The listings of some fields of a struct, in nested pairs.
use Rattle.bitcode_shapes.specs.Datum.{Datum}
use Rattle.bitcode_shapes.specs.Pairs.{ListsPair}

-- those of the fields of both halves
abbrev pub lists_both : {T : Type 0} → (T → Datum → Type 0) → (T → Datum → Type 0) → T → Datum → Type 0
lists_both first second = λ t d. ListsPair first second (t, t) d
