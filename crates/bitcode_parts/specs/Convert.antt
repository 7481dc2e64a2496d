-- A type whose values are written, or read, as values of another type.
use Rattle.std.proofs.Common.{◌≡◌, ℕ, List, subst}
use Rattle.std.proofs.lemmas.List.Elements.{All-weaker}
use Rattle.bitcode_shapes.specs.Datum.{Datum}
use Rattle.bitcode_shapes.specs.Shape.{Shape, IsOf}
use Rattle.bitcode_coder.specs.Columns.{Columns, CountsFit, beside}
use Rattle.bitcode_coder.specs.Coder.{SurelyOverflows, written_columns}

-- Data of a shape are written to the columns of another shape, and have that shape too.
pub record IsWrittenAs (shape other : Shape) : Type 0 where
  pub columns : (ds : List Datum) → written_columns shape ds ≡ written_columns other ds
  pub data_of : (d : Datum) → IsOf shape d → IsOf other d

-- if values of the other shape surely overflow, so do those of this one
pub surely_as : (shape other : Shape) → IsWrittenAs shape other → (old : Columns) (n : ℕ) → SurelyOverflows other old n → SurelyOverflows shape old n
surely_as shape other as_other old n overflows ds each size fits =
    overflows ds (All-weaker (IsOf shape) (IsOf other) as_other.data_of ds each) size
    (subst (λ written. CountsFit (beside old written)) (as_other.columns ds) fits)
