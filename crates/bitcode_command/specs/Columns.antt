-- What the bytes of each column of an input are.
use Rattle.std.specs.Prelude.{◌≡◌, ℕ, ◌+◌, None, List, length, replicate}
use Rattle.std.specs.Float.{binary32, binary64}
use Rattle.std.specs.List.{slice_range}
use Rattle.bitcode_shapes.specs.Checked.{char_shape}
use Rattle.bitcode_shapes.specs.Datum.{Datum}
use Rattle.bitcode_shapes.specs.Ints.{int_shape}
use Rattle.bitcode_shapes.specs.Shape.{Shape, unit_shape, bool_shape, float_shape, raw_shape, seq_shape}
use Rattle.bitcode_coder.specs.Spelling.{Spells}
use Rattle.bitcode_schema.specs.Forms.{enum_shape}
use Rattle.bitcode_schema.specs.Leaves.{width_of, is_signed}
use Rattle.bitcode_command.specs.declared.column.Column.{Column}
use Rattle.bitcode_command.specs.declared.column.ColumnKind.{ColumnKind}
use Rattle.bitcode_command.specs.declared.column.ColumnKind.TheVariants.{Bools, Chars, Ints, F32, F64, Lengths, Variants, TextBytes}

-- The data that have one column of the kind: lists of units have their lengths alone, and enums of units their variants.
abbrev pub shape_of_kind : ColumnKind → Shape
shape_of_kind Bools = bool_shape
shape_of_kind Chars = char_shape
shape_of_kind (Ints kind) = int_shape (width_of kind) (is_signed kind)
shape_of_kind F32 = float_shape binary32
shape_of_kind F64 = float_shape binary64
shape_of_kind Lengths = seq_shape None unit_shape
shape_of_kind (Variants count) = enum_shape (replicate count unit_shape)
shape_of_kind TextBytes = raw_shape

-- the bytes spell so many data of the shape, and nothing else
pub record SpellsMany (shape : Shape) (count : ℕ) (bytes : List ℕ) : Type 0 where
  pub found : List Datum
  pub size : length found ≡ count
  pub spelled : Spells shape bytes found

-- In the bytes of the input, those of the column spell its entries: ∥ ∥₁ says that there are such data.
abbrev pub SpellsItsEntries : List ℕ → Column → Type 0
SpellsItsEntries input column =
    ∥ SpellsMany (shape_of_kind column.kind) column.entries (slice_range input column.offset (column.offset + column.extent.size)) ∥₁
