-- The laws of a column of each kind, and of the columns of data of each shape.
use Rattle.std.specs.Prelude.{◌≡◌, ℕ, ◌*◌, ◌≤◌, List, [], ◌∷◌, ◌++◌, length, All, ◌↔◌}
use Rattle.bitcode_columns.specs.Reading.{Reads}
use Rattle.bitcode_shapes.specs.Datum.{Datum}
use Rattle.bitcode_shapes.specs.Shape.{Shape, IsOf}
use Rattle.bitcode_coder.specs.Columns.{Kind, Column, CountsFit, IsEntryOf, entry_count, entry_count_of, flat}
use Rattle.bitcode_coder.specs.Transposition.{columns_of, spread}
use Rattle.bitcode_coder.specs.Spelling.{Spells, SpellsColumn, SpellsColumns, SpellsEach, column_bytes, columns_bytes, texts_of, LengthsBelowLimit, LengthsBelowLimitOf}

-- ---- one column

-- The text of entries is read back as the same entries, whatever follows it.
abbrev pub ReadsBackColumn : Kind → Type 0
ReadsBackColumn kind = (entries : List Datum) (rest : List ℕ) → All (IsEntryOf kind) entries → LengthsBelowLimitOf kind entries
    → Reads (SpellsColumn kind) (length entries) (column_bytes kind entries ++ rest) entries rest

-- An empty column has no bytes, and there are at most eight times as many entries as bytes.
pub record ColumnTakesAnEighth (kind : Kind) : Type 0 where
  pub nothing : (piece : List ℕ) → SpellsColumn kind piece [] → piece ≡ []
  pub size_bound : (piece : List ℕ) (entries : List Datum) → SpellsColumn kind piece entries → entry_count_of kind entries ≤ 8 * length piece

-- ---- all columns of a shape

-- The texts of the columns of data, concatenated, are read back as the same data, whatever follows.
abbrev pub ReadsBackData : Shape → Type 0
ReadsBackData shape = (ds : List Datum) (rest : List ℕ) → All (IsOf shape) ds → CountsFit (columns_of shape ds)
    → LengthsBelowLimit (columns_of shape ds) → Reads (Spells shape) (length ds) (texts_of (spread shape ds) ++ rest) ds rest

-- No data have no bytes, and all columns together have at most eight times as many entries as bytes.
pub record DataTakeAnEighth (shape : Shape) : Type 0 where
  pub nothing : (bytes : List ℕ) → Spells shape bytes [] → bytes ≡ []
  pub size_bound : (bytes : List ℕ) (ds : List Datum) → Spells shape bytes ds → entry_count (columns_of shape ds) ≤ 8 * length bytes

-- each column of the first list, followed by that of the second
abbrev pub column_by_column : List Column → List Column → List Column
column_by_column [] others = []
column_by_column (c ∷ cs) [] = c ∷ cs
column_by_column (c ∷ cs) (d ∷ ds) = record { kind = c.kind; entries = c.entries ++ d.entries } ∷ column_by_column cs ds

-- The columns of concatenated lists are the columns of the lists, joined column by column.
abbrev pub JoinsColumnByColumn : Shape → Type 0
JoinsColumnByColumn shape = (ds es : List Datum) → spread shape (ds ++ es) ≡ column_by_column (spread shape ds) (spread shape es)

-- The columns of data as a tree and as a list agree: they are the same columns, with the same texts and spellings.
pub record TreeIsList (shape : Shape) (ds : List Datum) : Type 0 where
  pub columns : flat (columns_of shape ds) ≡ spread shape ds
  pub written : columns_bytes (columns_of shape ds) ≡ texts_of (spread shape ds)
  pub spelled : (bytes : List ℕ) → SpellsColumns (columns_of shape ds) bytes ↔ SpellsEach (spread shape ds) bytes
