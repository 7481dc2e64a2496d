use Rattle.std.proofs.Common.{arith, refl}
use Rattle.std.proofs.lemmas.Grind.{common_steps}
use Rattle.bitcode_columns.specs.Histogram.{counted}
use Rattle.bitcode_columns.proofs.TableLemmas.{value_more}
use Rattle.bitcode_columns.proofs.histogram.sums_of.Goals as goal

pub overflow_add-sums-in-loop-value : goal.overflow_add-sums-in-loop-value
unfolding counted
overflow_add-sums-in-loop-value c = omega (arith, c.requires c.loop-value.value (omega arith))

pub overflow_add-sums-in-loop-value-3 : goal.overflow_add-sums-in-loop-value-3
unfolding counted
overflow_add-sums-in-loop-value-3 c = omega (arith, c.requires c.loop-value.value (omega arith))

pub overflow_add-sums-in-loop-value-5 : goal.overflow_add-sums-in-loop-value-5
unfolding counted
overflow_add-sums-in-loop-value-5 c = omega (arith, c.requires c.loop-value.value (omega arith))

pub loop-value-preserved : goal.loop-value-preserved
unfolding counted
loop-value-preserved c = record {
  size = grind (arith, common_steps);
  each = value_more (counted c.args.tables.now) c.loop-value.sums c.loop-value.value _ (omega arith) c.loop-value.invariant.each refl;
}
