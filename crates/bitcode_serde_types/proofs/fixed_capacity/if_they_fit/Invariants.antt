use Rattle.std.proofs.Common.{◌≡◌, ◌++◌}
use Rattle.std.specs.Vec.Iter.{into_iter_items}
use Rattle.bitcode_serde_types.proofs.fixed_capacity.if_they_fit.Given as goal

abbrev pub invariant-loop-value : goal.invariant-loop-value
invariant-loop-value g l = (goal.iterator-loop-value g).can_next l.value-iterator
    × (goal.iterator-loop-value g).is_finite l.value-iterator
    × (l.vec.items ++ into_iter_items l.value-iterator ≡ l.fn.values.items)
