use Rattle.std.proofs.Common.{◌≡◌, ◌≤◌, ◌+◌, ◌-◌, ◌++◌, length, map}
use Rattle.std.specs.List.{AllByRecursion}
use Rattle.std.specs.Prelude.{vec_len, vec_capacity}
use Rattle.bitcode_untyped.specs.View.{datum_of}
use Rattle.bitcode_serde.specs.ReadColumns.{IsCaseOf}
use Rattle.bitcode_serde.proofs.read_column.take_values.Given as goal

abbrev pub invariant-loop-taken : goal.invariant-loop-taken
invariant-loop-taken g l =
    (g.D.HoldsData.held l.initial.column ≡ map datum_of l.values.items ++ g.D.HoldsData.held l.column) × (length l.values.items ≡ l._taken)
    × AllByRecursion (IsCaseOf g.T.Case.kind) l.values.items × (vec_len l.values + (l.count - l._taken) ≤ vec_capacity l.values)
