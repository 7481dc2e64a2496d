-- A longer text ends the loop.
use Rattle.std.proofs.Common.{Some, None}
use Rattle.bitcode_coder.specs.Columns.{texts}
use Rattle.bitcode_shapes.specs.Shape.{text_shape}
use Rattle.bitcode_untyped.specs.Leaves.{leaf_of}
use Rattle.bitcode_schema.specs.Allowing.{AsEntry, IsShort}
use Rattle.bitcode_schema.specs.Forms.{leaf_content}
use Rattle.bitcode_schema.proofs.AllowedLemmas.{stranger_here, text_short}
use Rattle.bitcode_schema.proofs.LoopLemmas.{all_values}
use Rattle.bitcode_schema.proofs.write.allowed.are_short.Goals as goal

pub returns-then-is_long : goal.returns-then-is_long
returns-then-is_long c =
    stranger_here (leaf_content (Some (leaf_of (texts None)))) (text_shape (Some c.args.limit)) (λ v. v.now) c.args.values.now c.loop-value.value-index
    c.value-item.result c.loop-value-test.true c.value-item.is (λ d is of. c.if-is_long.ensures d is (text_short c.args.limit d of))

pub returns : goal.returns
returns c =
    all_values (AsEntry (leaf_of (texts None)) (IsShort c.args.limit)) (λ v. v.now) c.args.values.now c.loop-value.value-index c.loop-value-test.false
    c.loop-value.auto.value-index-end c.loop-value.invariant
