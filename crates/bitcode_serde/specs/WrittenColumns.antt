-- The columns that a writer fills.
use Rattle.std.specs.Prelude.{List, false, None}
use Rattle.bitcode_shapes.specs.Datum.{Datum}
use Rattle.bitcode_coder.specs.Columns.{Kind, ints, lengths}
use Rattle.bitcode_coder.specs.Spelling.{natural}
use Rattle.bitcode_serde.specs.Kinds.{kind_of, written_in}
use Rattle.bitcode_serde.specs.declared.column.ColumnKind.{ColumnKind}
use Rattle.bitcode_serde.specs.declared.column.WrittenColumn.{WrittenColumn}
use Rattle.bitcode_serde.specs.declared.write_column.Entry.{Entry}
use Rattle.bitcode_serde.specs.declared.write_column.Entry.TheVariants as entry

abbrev pub kind_of_entry : Entry → Kind
kind_of_entry (entry.Byte n) = ints 1 false
kind_of_entry (entry.Code n) = ints 4 false
kind_of_entry (entry.Length n) = lengths None

abbrev pub datum_of_entry : Entry → Datum
datum_of_entry (entry.Byte n) = natural n
datum_of_entry (entry.Code n) = natural n
datum_of_entry (entry.Length n) = natural n

-- what the column holds, in the code's words
abbrev pub kind_in_written : WrittenColumn → ColumnKind
kind_in_written c = (written_in c).kind

abbrev pub kind_of_written : WrittenColumn → Kind
kind_of_written c = kind_of (kind_in_written c)

-- what was written so far
abbrev pub entries_of : WrittenColumn → List Datum
entries_of c = (written_in c).entries
