use Rattle.std.proofs.Common.{◌≡◌, ◌≤◌, ◌+◌, ◌-◌, ◌++◌, ℕ, length, map}
use Rattle.std.specs.List.{AllByRecursion}
use Rattle.std.specs.Prelude.{vec_len, vec_capacity}
use Rattle.bitcode_untyped.specs.View.{datum_of}
use Rattle.bitcode_serde.specs.Indices.{indices_left, index_count}
use Rattle.bitcode_serde.specs.ReadColumns.{IsCaseOf}
use Rattle.bitcode_serde.specs.declared.column.ColumnKind.TheVariants as kind
use Rattle.bitcode_serde.proofs.read_column.take_bytes.Given as goal

abbrev pub invariant-loop-taken : goal.invariant-loop-taken
invariant-loop-taken l =
    (indices_left l.initial.column ≡ map datum_of l.values.items ++ indices_left l.column) × (length l.values.items ≡ l._taken)
    × AllByRecursion (IsCaseOf kind.Bytes) l.values.items × (vec_len l.values + (l.count - l._taken) ≤ vec_capacity l.values)
    × ((index : ℕ) → index_count l.column index ≡ index_count l.initial.column index)
