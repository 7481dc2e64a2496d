-- The columns that a reader has open.
use Rattle.std.specs.Prelude.{◌≡◌, ◌≢◌, ℕ, ◌<◌, false, Some, List, [], ◌∷◌, ◌++◌, length}
use Rattle.bitcode_memory.specs.declared.error.Reason.{Reason}
use Rattle.bitcode_memory.specs.declared.error.Reason.TheVariants.{Eof, InvalidPacking, LengthOverflow, HugeLength, InvalidUtf8, OutOfMemory}
use Rattle.bitcode_shapes.specs.Datum.{Datum}
use Rattle.bitcode_coder.specs.Columns.{Kind, ints}
use Rattle.bitcode_coder.specs.Length.{lengths_sum}
use Rattle.bitcode_coder.specs.Spelling.{SpellsColumn}
use Rattle.bitcode_serde.specs.Indices.{index_count}
use Rattle.bitcode_untyped.specs.Population.{total, count_of}
use Rattle.bitcode_untyped.specs.Leaves.{leaf_of, entry_of}
use Rattle.bitcode_untyped.specs.View.{datum_of}
use Rattle.bitcode_untyped.specs.declared.value.Value.{Value, out-Value}
pub use Rattle.bitcode_serde.specs.Kinds.{kind_of}
use Rattle.bitcode_serde.specs.Kinds.{left_in}
use Rattle.bitcode_serde.specs.declared.column.ColumnKind.{ColumnKind}
use Rattle.bitcode_serde.specs.declared.column.ColumnKind.TheVariants as kind
use Rattle.bitcode_serde.specs.declared.column.Column.{Column}
use Rattle.bitcode_serde.specs.declared.column.Column.TheVariants as column

abbrev pub kind_in_code : Column → ColumnKind
kind_in_code c = (left_in c).kind

abbrev pub kind_of_column : Column → Kind
kind_of_column c = kind_of (kind_in_code c)

-- the entries that are left to take
abbrev pub left : Column → List Datum
left c = (left_in c).entries

-- a length is taken as a number of eight bytes
abbrev pub kind_of_case : ColumnKind → Kind
kind_of_case kind.Lengths = ints 8 false
kind_of_case kind = kind_of kind

-- The value has the case that the entries of such a column have.
abbrev pub IsCaseOf : ColumnKind → Value → Type 0
IsCaseOf kind v = (d : Datum) × (entry_of (out-Value v) ≡ Some (record { leaf = leaf_of (kind_of_case kind); datum = d }))

-- What was counted as the column was read, of entries that it had.
abbrev pub Tallies : Column → List Datum → Type 0
Tallies (column.Bytes d) entries = (index : ℕ) → index < 256 → index_count d index ≡ count_of index entries
Tallies (column.Lengths d) entries = lengths_sum d ≡ total entries
Tallies _ entries = Unit {0}

-- The front of the old input spells so many entries of a column, and the new input is the rest.
pub record ReadsColumn (kind : Kind) (count : ℕ) (old : List ℕ) (entries : List Datum) (new : List ℕ) : Type 0 where
  pub size : length entries ≡ count
  pub piece : List ℕ
  pub whole : old ≡ piece ++ new
  pub spelled : SpellsColumn kind piece entries

-- the reasons for which a column is refused: its entries have no limit, and all numbers are allowed
abbrev pub IsColumnReason : Reason → Type 0
IsColumnReason Eof = Unit {0}
IsColumnReason InvalidPacking = Unit {0}
IsColumnReason LengthOverflow = Unit {0}
IsColumnReason HugeLength = Unit {0}
IsColumnReason InvalidUtf8 = Unit {0}
IsColumnReason OutOfMemory = Unit {0}
IsColumnReason _ = ⊥

-- a refusal other than want of memory comes only where no front of the input spells so many entries
unfoldable pub IsColumnRefusal : Kind → Reason → ℕ → List ℕ → Type 0
IsColumnRefusal kind reason count input =
    IsColumnReason reason × (reason ≢ OutOfMemory → (entries : List Datum) (rest : List ℕ) → ReadsColumn kind count input entries rest → ⊥)

-- The first of the entries that were left was taken, and its value stands behind the others.
pub record AddsTaken (kind : ColumnKind) (left_before left_after : List Datum) (old new : List Value) : Type 0 where
  pub value : Value
  pub added : new ≡ old ++ value ∷ []
  pub taken : left_before ≡ datum_of value ∷ left_after
  pub of_case : IsCaseOf kind value
