-- The leaves: nodes whose values are entries of one column. Each leaf has a line in the table of nodes, and one in that of
-- values.
use Rattle.std.specs.Prelude.{ℕ, ◌+◌, ◌*◌, Bool, true, false, ◌==◌, ◌&&◌, if◌then◌else◌, Option, Some, None, string_bytes, IsUtf8}
use Rattle.std.specs.Float.{binary32, binary64}
use Rattle.bitcode_shapes.specs.Datum.{Datum, number, text, number_in}
use Rattle.bitcode_shapes.specs.Floats.{float_number}
use Rattle.bitcode_shapes.specs.Shape.{Allowed, any_number, scalar, IsAllowed, IsInWidth, IsFloatOf}
use Rattle.bitcode_coder.specs.Columns.{Kind, bools, ints, floats, texts}
use Rattle.bitcode_coder.specs.Spelling.{natural, truth}
use Rattle.bitcode_untyped.specs.declared.shape.ShapeNode.TheOpen.{ShapeNode-F}
use Rattle.bitcode_untyped.specs.declared.value.Value.TheOpen.{Value-F}

-- what a column holds, and which numbers are allowed
pub record Leaf : Type 0 where
  pub kind : Kind
  pub allowed : Allowed

-- all entries of such a column are allowed
abbrev pub leaf_of : Kind → Leaf
leaf_of kind = record { kind = kind; allowed = any_number }

-- a value, as an entry of the column of its leaf
pub record Entry : Type 0 where
  pub leaf : Leaf
  pub datum : Datum

abbrev entry : Kind → Datum → Option Entry
entry kind datum = Some (record { leaf = leaf_of kind; datum = datum })

-- scalar values, in 4 bytes
abbrev pub char_leaf : Leaf
char_leaf = record { kind = ints 4 false; allowed = scalar }

-- ---- the tables

abbrev pub leaf_of_node : {A : Type 0} → ShapeNode-F A → Option Leaf
leaf_of_node ShapeNode-F.Bool = Some (leaf_of bools)
leaf_of_node ShapeNode-F.U8 = Some (leaf_of (ints 1 false))
leaf_of_node ShapeNode-F.U16 = Some (leaf_of (ints 2 false))
leaf_of_node ShapeNode-F.U32 = Some (leaf_of (ints 4 false))
leaf_of_node ShapeNode-F.U64 = Some (leaf_of (ints 8 false))
leaf_of_node ShapeNode-F.U128 = Some (leaf_of (ints 16 false))
leaf_of_node ShapeNode-F.I8 = Some (leaf_of (ints 1 true))
leaf_of_node ShapeNode-F.I16 = Some (leaf_of (ints 2 true))
leaf_of_node ShapeNode-F.I32 = Some (leaf_of (ints 4 true))
leaf_of_node ShapeNode-F.I64 = Some (leaf_of (ints 8 true))
leaf_of_node ShapeNode-F.I128 = Some (leaf_of (ints 16 true))
leaf_of_node ShapeNode-F.F32 = Some (leaf_of (floats binary32))
leaf_of_node ShapeNode-F.F64 = Some (leaf_of (floats binary64))
leaf_of_node ShapeNode-F.Char = Some char_leaf
leaf_of_node ShapeNode-F.Str = Some (leaf_of (texts None))
leaf_of_node _ = None

abbrev pub entry_of : {A : Type 0} → Value-F A → Option Entry
entry_of (Value-F.Bool b) = entry bools (truth b)
entry_of (Value-F.U8 n) = entry (ints 1 false) (natural n)
entry_of (Value-F.U16 n) = entry (ints 2 false) (natural n)
entry_of (Value-F.U32 n) = entry (ints 4 false) (natural n)
entry_of (Value-F.U64 n) = entry (ints 8 false) (natural n)
entry_of (Value-F.U128 n) = entry (ints 16 false) (natural n)
entry_of (Value-F.I8 z) = entry (ints 1 true) (number z)
entry_of (Value-F.I16 z) = entry (ints 2 true) (number z)
entry_of (Value-F.I32 z) = entry (ints 4 true) (number z)
entry_of (Value-F.I64 z) = entry (ints 8 true) (number z)
entry_of (Value-F.I128 z) = entry (ints 16 true) (number z)
entry_of (Value-F.F32 x) = entry (floats binary32) (number (float_number binary32 x))
entry_of (Value-F.F64 x) = entry (floats binary64) (number (float_number binary64 x))
entry_of (Value-F.Char c) = Some (record { leaf = char_leaf; datum = natural c })
entry_of (Value-F.Str s) = entry (texts None) (text (string_bytes s))
entry_of _ = None

-- ---- by the kind of the column

abbrev pub same_sign : Bool → Bool → Bool
same_sign true true = true
same_sign false false = true
same_sign _ _ = false

abbrev pub same_kind : Kind → Kind → Bool
same_kind bools bools = true
same_kind (ints width signed) (ints other sign) = (width == other) && same_sign signed sign
same_kind (floats binary32) (floats binary32) = true
same_kind (floats binary64) (floats binary64) = true
same_kind (texts None) (texts None) = true
same_kind _ _ = false

abbrev pub same_allowed : Allowed → Allowed → Bool
same_allowed any_number any_number = true
same_allowed scalar scalar = true
same_allowed _ _ = false

-- whether the value is of the leaf
abbrev pub is_of : Option Entry → Option Leaf → Bool
is_of (Some e) (Some leaf) = same_kind e.leaf.kind leaf.kind && same_allowed e.leaf.allowed leaf.allowed
is_of _ _ = false

-- a number for each leaf
abbrev pub kind_number : Kind → ℕ
kind_number bools = 0
kind_number (ints width signed) = 2 * width + (if signed then 1 else 0)
kind_number (texts limit) = 1
kind_number (floats binary32) = 7
kind_number (floats binary64) = 10
kind_number _ = 6

abbrev pub leaf_number : Leaf → ℕ
leaf_number leaf = kind_number leaf.kind + (if same_allowed leaf.allowed any_number then 0 else 100)

-- a number fits its width, a float is of its format, and a text is UTF-8
abbrev pub IsTyped : Kind → Datum → Type 0
IsTyped bools d = Unit {0}
IsTyped (ints width signed) (number z) = IsInWidth width signed z
IsTyped (floats format) d = IsFloatOf format d
IsTyped (texts None) (text bytes) = IsUtf8 bytes
IsTyped _ d = ⊥

abbrev pub IsTypedEntry : Option Entry → Type 0
IsTypedEntry (Some e) = IsTyped e.leaf.kind e.datum × IsAllowed e.leaf.allowed (number_in e.datum)
IsTypedEntry None = Unit {0}
