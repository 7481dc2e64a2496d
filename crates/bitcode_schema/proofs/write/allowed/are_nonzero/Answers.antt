-- A value that is 0 ends the loop.
use Rattle.std.proofs.Common.{Some}
use Rattle.bitcode_shapes.specs.Checked.{nonzero_shape}
use Rattle.bitcode_shapes.specs.Shape.{nonzero}
use Rattle.bitcode_schema.specs.Allowing.{AsEntry, IsNonzero}
use Rattle.bitcode_schema.specs.Forms.{leaf_content}
use Rattle.bitcode_schema.specs.Leaves.{int_leaf, width_of, is_signed}
use Rattle.bitcode_schema.proofs.AllowedLemmas.{stranger_here, number_allowed}
use Rattle.bitcode_schema.proofs.LoopLemmas.{all_values}
use Rattle.bitcode_schema.proofs.write.allowed.are_nonzero.Goals as goal

pub returns-then-is_zero : goal.returns-then-is_zero
returns-then-is_zero c kind =
    stranger_here (leaf_content (Some (int_leaf kind))) (nonzero_shape (width_of kind) (is_signed kind)) (λ v. v.now) c.args.values.now c.loop-value.value-index
    c.value-item.result c.loop-value-test.true c.value-item.is
    (λ d is of. number_allowed (width_of kind) (is_signed kind) nonzero d of (c.if-is_zero.ensures kind d is))

pub returns : goal.returns
returns c kind =
    all_values (AsEntry (int_leaf kind) IsNonzero) (λ v. v.now) c.args.values.now c.loop-value.value-index c.loop-value-test.false c.loop-value.auto.value-index-end
    (c.loop-value.invariant kind)
