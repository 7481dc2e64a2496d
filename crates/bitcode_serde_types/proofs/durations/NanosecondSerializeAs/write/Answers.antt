-- The nanoseconds are below one second.
use Rattle.std.proofs.Common.{false, [], subst}
use Rattle.bitcode_coder.specs.Columns.{ints}
use Rattle.bitcode_coder.specs.Spelling.{natural}
use Rattle.bitcode_shapes.specs.Checked.{below_second}
use Rattle.bitcode_serde.specs.Serializing.{Outcome}
use Rattle.bitcode_serde_types.specs.Durations.{nanosecond_tree}
use Rattle.bitcode_serde_types.proofs.NumberLemmas.{allowed_written, below_a_second}
use Rattle.bitcode_serde_types.proofs.durations.NanosecondSerializeAs.write.Goals as goal

pub returns : goal.returns
returns c =
    subst (λ n. Outcome c.args.writer.now nanosecond_tree c.args.place (natural n) [] c.write.result c.write.new.writer) c.into_inner.ensures.value
    (allowed_written (ints 4 false) below_second c.args.writer.now c.args.place _ [] c.write.result c.write.new.writer
    (below_a_second c.into_inner.result c.into_inner.ensures.below) c.write.ensures)
