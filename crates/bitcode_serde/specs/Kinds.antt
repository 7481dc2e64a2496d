-- The kinds of columns. Each leaf with a column of its own has a line in every table here.
use Rattle.std.specs.Prelude.{ℕ, pos, true, false, None, List, [], ◌∷◌, map}
use Rattle.std.specs.Float.{binary32, binary64}
use Rattle.bitcode_memory.specs.Fast.{slice_rest, cow_rest, fast_items}
use Rattle.bitcode_float_columns.specs.Split.{split_rest}
use Rattle.bitcode_shapes.specs.Datum.{Datum, text}
use Rattle.bitcode_coder.specs.Columns.{Kind, bools, ints, floats, lengths, texts}
use Rattle.bitcode_coder.specs.Cutting.{cut}
use Rattle.bitcode_coder.specs.Length.{lengths_left, written_lengths}
use Rattle.bitcode_coder.specs.Spelling.{natural, truth}
use Rattle.bitcode_ints.specs.Int.{bytes_data, int_data}
use Rattle.bitcode_floats.specs.Floats.{data_of_floats, data_of_bits, long_bits}
use Rattle.bitcode_serde.specs.Indices.{indices_left}
use Rattle.bitcode_serde.specs.declared.column.ColumnKind.{ColumnKind}
use Rattle.bitcode_serde.specs.declared.column.ColumnKind.TheVariants as kind
use Rattle.bitcode_serde.specs.declared.column.Column.{Column}
use Rattle.bitcode_serde.specs.declared.column.Column.TheVariants as column
use Rattle.bitcode_serde.specs.declared.column.WrittenColumn.{WrittenColumn}
use Rattle.bitcode_serde.specs.declared.column.WrittenColumn.TheVariants as written

abbrev pub kind_of : ColumnKind → Kind
kind_of kind.Bools = bools
kind_of kind.Bytes = ints 1 false
kind_of kind.U16 = ints 2 false
kind_of kind.U32 = ints 4 false
kind_of kind.U64 = ints 8 false
kind_of kind.U128 = ints 16 false
kind_of kind.I8 = ints 1 true
kind_of kind.I16 = ints 2 true
kind_of kind.I32 = ints 4 true
kind_of kind.I64 = ints 8 true
kind_of kind.I128 = ints 16 true
kind_of kind.F32 = floats binary32
kind_of kind.F64 = floats binary64
kind_of kind.Lengths = lengths None
kind_of kind.Texts = texts None

-- where a kind stands among all of them
abbrev pub kind_index : ColumnKind → ℕ
kind_index kind.Bools = 0
kind_index kind.Bytes = 1
kind_index kind.U16 = 2
kind_index kind.U32 = 3
kind_index kind.U64 = 4
kind_index kind.U128 = 5
kind_index kind.I8 = 6
kind_index kind.I16 = 7
kind_index kind.I32 = 8
kind_index kind.I64 = 9
kind_index kind.I128 = 10
kind_index kind.F32 = 11
kind_index kind.F64 = 12
kind_index kind.Lengths = 13
kind_index kind.Texts = 14

-- what a column is of, and entries in it
pub record Holding : Type 0 where
  pub kind : ColumnKind
  pub entries : List Datum

abbrev holding : ColumnKind → List Datum → Holding
holding kind entries = record { kind = kind; entries = entries }

-- the entries that are left to take
abbrev pub left_in : Column → Holding
left_in (column.Bools d) = holding kind.Bools (map truth (cow_rest d.values))
left_in (column.Bytes d) = holding kind.Bytes (indices_left d)
left_in (column.U16 d) = holding kind.U16 (bytes_data 2 false (λ bytes. bytes) (cow_rest d.column.values))
left_in (column.U32 d) = holding kind.U32 (bytes_data 4 false (λ bytes. bytes) (cow_rest d.column.values))
left_in (column.U64 d) = holding kind.U64 (bytes_data 8 false (λ bytes. bytes) (cow_rest d.column.values))
left_in (column.U128 d) = holding kind.U128 (bytes_data 16 false (λ bytes. bytes) (cow_rest d.column.values))
left_in (column.I8 d) = holding kind.I8 (bytes_data 1 true (λ byte. byte ∷ []) (cow_rest d.column.values))
left_in (column.I16 d) = holding kind.I16 (bytes_data 2 true (λ bytes. bytes) (cow_rest d.column.values))
left_in (column.I32 d) = holding kind.I32 (bytes_data 4 true (λ bytes. bytes) (cow_rest d.column.values))
left_in (column.I64 d) = holding kind.I64 (bytes_data 8 true (λ bytes. bytes) (cow_rest d.column.values))
left_in (column.I128 d) = holding kind.I128 (bytes_data 16 true (λ bytes. bytes) (cow_rest d.column.values))
left_in (column.F32 d) = holding kind.F32 (data_of_bits binary32 (split_rest d.bits))
left_in (column.F64 d) = holding kind.F64 (data_of_bits binary64 (long_bits (cow_rest d.values)))
left_in (column.Lengths d) = holding kind.Lengths (map natural (lengths_left d))
left_in (column.Texts d) = holding kind.Texts (map text (cut (lengths_left d.lengths) (slice_rest d.bytes)))

-- the entries that were written so far
abbrev pub written_in : WrittenColumn → Holding
written_in (written.Bools e) = holding kind.Bools (map truth (fast_items e.values))
written_in (written.Bytes e) = holding kind.Bytes (int_data (λ n. pos n) (fast_items e.values))
written_in (written.U16 e) = holding kind.U16 (int_data (λ n. pos n) (fast_items e.column.values))
written_in (written.U32 e) = holding kind.U32 (int_data (λ n. pos n) (fast_items e.column.values))
written_in (written.U64 e) = holding kind.U64 (int_data (λ n. pos n) (fast_items e.column.values))
written_in (written.U128 e) = holding kind.U128 (int_data (λ n. pos n) (fast_items e.column.values))
written_in (written.I8 e) = holding kind.I8 (int_data (λ z. z) (fast_items e.column.values))
written_in (written.I16 e) = holding kind.I16 (int_data (λ z. z) (fast_items e.column.values))
written_in (written.I32 e) = holding kind.I32 (int_data (λ z. z) (fast_items e.column.values))
written_in (written.I64 e) = holding kind.I64 (int_data (λ z. z) (fast_items e.column.values))
written_in (written.I128 e) = holding kind.I128 (int_data (λ z. z) (fast_items e.column.values))
written_in (written.F32 e) = holding kind.F32 (data_of_floats binary32 (fast_items e.values))
written_in (written.F64 e) = holding kind.F64 (map natural (fast_items e.bits))
written_in (written.Lengths e) = holding kind.Lengths (map natural (written_lengths e))
written_in (written.Texts e) = holding kind.Texts (map text (cut (written_lengths e.lengths) (fast_items e.bytes)))
