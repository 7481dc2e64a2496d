-- A datum is known by its parts.
use Rattle.std.proofs.Common.{◌≡◌, ℕ, zero, suc, ap, sym, ◌∙◌}
use Rattle.bitcode_shapes.specs.Datum.{Datum, Data, list, tuple, choice, pair, data_of, elements_in, fields_in, first_in, second_in, variant_in, payload_in, first_of, rest_of}
use Rattle.bitcode_untyped.specs.ShapeTree.{IsList, IsTuple, IsChoice}

pub list_by_parts : (d e : Datum) → IsList d → IsList e → elements_in d ≡ elements_in e → d ≡ e
list_by_parts d e h k q = h ∙ ap (λ ds. list (data_of ds)) q ∙ sym k

pub tuple_by_parts : (d e : Datum) → IsTuple d → IsTuple e → fields_in d ≡ fields_in e → d ≡ e
tuple_by_parts d e h k q = h ∙ ap tuple q ∙ sym k

pub pair_by_parts : (d e : Datum) → d ≡ pair (first_in d) (second_in d) → e ≡ pair (first_in e) (second_in e) → first_in d ≡ first_in e
    → second_in d ≡ second_in e → d ≡ e
pair_by_parts d e h k p q = h ∙ ap (λ x. pair x (second_in d)) p ∙ ap (λ x. pair (first_in e) x) q ∙ sym k

pub choice_by_parts : (d e : Datum) → IsChoice d → IsChoice e → variant_in d ≡ variant_in e → payload_in d ≡ payload_in e → d ≡ e
choice_by_parts d e h k p q = h ∙ ap (λ i. choice i (payload_in d)) p ∙ ap (λ x. choice (variant_in e) x) q ∙ sym k

-- field j; a unit where there is none
abbrev pub field_at : Data → ℕ → Datum
field_at ds zero = first_of ds
field_at ds (suc j) = field_at (rest_of ds) j
