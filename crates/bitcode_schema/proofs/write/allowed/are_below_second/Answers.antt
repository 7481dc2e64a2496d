-- A second or more ends the loop.
use Rattle.std.proofs.Common.{Some, false}
use Rattle.bitcode_shapes.specs.Checked.{nanosecond_shape, below_second}
use Rattle.bitcode_schema.specs.Allowing.{AsEntry, IsBelowSecond}
use Rattle.bitcode_schema.specs.Forms.{leaf_content}
use Rattle.bitcode_schema.specs.Leaves.{int_leaf}
use Rattle.bitcode_schema.specs.declared.schema.IntKind.TheVariants as int
use Rattle.bitcode_schema.proofs.AllowedLemmas.{stranger_here, number_allowed}
use Rattle.bitcode_schema.proofs.LoopLemmas.{all_values}
use Rattle.bitcode_schema.proofs.write.allowed.are_below_second.Goals as goal

pub returns-then-is_second : goal.returns-then-is_second
returns-then-is_second c =
    stranger_here (leaf_content (Some (int_leaf int.U32))) nanosecond_shape (λ v. v.now) c.args.values.now c.loop-value.value-index
    c.value-item.result c.loop-value-test.true c.value-item.is (λ d is of. c.if-is_second.ensures d is (number_allowed 4 false below_second d of))

pub returns : goal.returns
returns c =
    all_values (AsEntry (int_leaf int.U32) IsBelowSecond) (λ v. v.now) c.args.values.now c.loop-value.value-index c.loop-value-test.false
    c.loop-value.auto.value-index-end c.loop-value.invariant
