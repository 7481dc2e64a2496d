-- The fields so far, and those that are left, are all fields.
use Rattle.std.specs.Prelude.{◌≡◌, ◌++◌}
use Rattle.std.specs.Vec.Iter.{into_iter_items}
use Rattle.bitcode_schema.proofs.make.turns.AsRowTurnsTuple2VecValueVecValueVecValue.turn.Given as goal

abbrev pub invariant-loop-value : goal.invariant-loop-value
invariant-loop-value l = l.row.items ++ into_iter_items l.value-iterator ≡ l.fn.item.0.items ++ l.fn.item.1.items
