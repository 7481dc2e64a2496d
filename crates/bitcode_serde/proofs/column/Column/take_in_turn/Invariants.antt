use Rattle.std.proofs.Common.{◌≡◌, ◌++◌, List, length, map}
use Rattle.std.specs.List.{AllByRecursion}
use Rattle.bitcode_shapes.specs.Datum.{Datum}
use Rattle.bitcode_untyped.specs.View.{datum_of}
use Rattle.bitcode_serde.specs.ReadColumns.{kind_of_column, kind_in_code, left, Tallies, IsCaseOf}
use Rattle.bitcode_serde.proofs.column.Column.take_in_turn.Given as goal

abbrev pub invariant-loop-i : goal.invariant-loop-i
invariant-loop-i l =
    (left l.initial.self ≡ map datum_of l.values.items ++ left l.self) × (length l.values.items ≡ l._i)
    × AllByRecursion (IsCaseOf (kind_in_code l.initial.self)) l.values.items × (kind_of_column l.self ≡ kind_of_column l.initial.self)
    × ((entries : List Datum) → Tallies l.initial.self entries → Tallies l.self entries)
