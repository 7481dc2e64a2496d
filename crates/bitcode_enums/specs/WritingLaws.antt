-- The columns of payloads are those of the shapes.
use Rattle.std.proofs.Common.{◌≡◌, ℕ, suc, [], sym, ◌∙◌, ap, ap₂}
use Rattle.bitcode_shapes.specs.Shape.{Shape, Shapes, shape_and, choice_shape, variant_count}
use Rattle.bitcode_coder.specs.Columns.{Columns, one, two, variants, emptied}
use Rattle.bitcode_coder.specs.Coder.{written_columns}
use Rattle.bitcode_parts.specs.Payloads.{HasPayloads}

pub first_has_payloads : (s : Shape) (ss : Shapes) (a b : Columns) → emptied a ≡ written_columns s [] → ((first : ℕ) → HasPayloads ss first b)
    → (first : ℕ) → HasPayloads (shape_and s ss) first (two a b)
first_has_payloads s ss a b form later first = ap₂ two form (later (suc first))

pub enum_of_shape : (ss : Shapes) (s : Shape) (count : ℕ) (payloads : Columns) → variant_count ss ≡ count → s ≡ choice_shape ss → HasPayloads ss 0 payloads
    → two (one (variants count) []) (emptied payloads) ≡ written_columns s []
enum_of_shape ss s count payloads counted is form = ap₂ (λ n c. two (one (variants n) []) c) (sym counted) form ∙ ap (λ x. written_columns x []) (sym is)
