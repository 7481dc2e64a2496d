use Rattle.std.proofs.Common.{◌≡◌, ◌++◌, map, drop}
use Rattle.bitcode_coder.specs.Spelling.{texts_of}
use Rattle.bitcode_serde.specs.Writing.{column_of}
use Rattle.bitcode_serde.proofs.writer.collect_columns.Given as goal

abbrev pub invariant-loop-placed : goal.invariant-loop-placed
invariant-loop-placed l =
    l.out.items ++ texts_of (map column_of (drop l.placed-index l.columns)) ≡ l.initial.out.items ++ texts_of (map column_of l.initial.columns)
