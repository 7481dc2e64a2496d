-- Worked rows: the shape of each node, and the datum of some values.
use Rattle.std.proofs.Common.{refl}
use Rattle.std.specs.Prelude.{◌≡◌, ℕ, pos, true, false, Option, [], ◌∷◌}
use Rattle.std.specs.Float.{binary32, binary64}
use Rattle.std.specs.declared.alloc.Global.{Global}
use Rattle.std.specs.declared.boxed.Box.{Box}
use Rattle.bitcode_shapes.specs.Datum.{Datum, pair}
use Rattle.bitcode_shapes.specs.Shape.{Shape, unit_shape, never_shape, bool_shape, number_shape, float_shape, text_shape, seq_shape, map_shape, array_shape, pair_shape, choice_shape, no_shapes, shape_and, any_number, nonzero, scalar, between}
use Rattle.bitcode_schema.specs.Forms.{Form, shape_step, fields_shape, fields_datum, enum_shape}
use Rattle.bitcode_schema.specs.declared.schema.IntKind.TheVariants as int
use Rattle.bitcode_schema.specs.declared.schema.SchemaNode.TheOpen.{SchemaNode-F}

abbrev shape_at_layer : SchemaNode-F Form → Shape
shape_at_layer = shape_step

-- ---- nodes without parts

unit_row : shape_at_layer SchemaNode-F.Unit ≡ unit_shape
unit_row = refl

never_row : shape_at_layer SchemaNode-F.Never ≡ never_shape
never_row = refl

bool_row : shape_at_layer SchemaNode-F.Bool ≡ bool_shape
bool_row = refl

char_row : shape_at_layer SchemaNode-F.Char ≡ number_shape 4 false scalar
char_row = refl

u8_row : shape_at_layer (SchemaNode-F.Int int.U8) ≡ number_shape 1 false any_number
u8_row = refl

u16_row : shape_at_layer (SchemaNode-F.Int int.U16) ≡ number_shape 2 false any_number
u16_row = refl

u32_row : shape_at_layer (SchemaNode-F.Int int.U32) ≡ number_shape 4 false any_number
u32_row = refl

u64_row : shape_at_layer (SchemaNode-F.Int int.U64) ≡ number_shape 8 false any_number
u64_row = refl

u128_row : shape_at_layer (SchemaNode-F.Int int.U128) ≡ number_shape 16 false any_number
u128_row = refl

i8_row : shape_at_layer (SchemaNode-F.Int int.I8) ≡ number_shape 1 true any_number
i8_row = refl

i16_row : shape_at_layer (SchemaNode-F.Int int.I16) ≡ number_shape 2 true any_number
i16_row = refl

i32_row : shape_at_layer (SchemaNode-F.Int int.I32) ≡ number_shape 4 true any_number
i32_row = refl

i64_row : shape_at_layer (SchemaNode-F.Int int.I64) ≡ number_shape 8 true any_number
i64_row = refl

i128_row : shape_at_layer (SchemaNode-F.Int int.I128) ≡ number_shape 16 true any_number
i128_row = refl

nonzero_u8_row : shape_at_layer (SchemaNode-F.NonZero int.U8) ≡ number_shape 1 false nonzero
nonzero_u8_row = refl

nonzero_i8_row : shape_at_layer (SchemaNode-F.NonZero int.I8) ≡ number_shape 1 true nonzero
nonzero_i8_row = refl

nonzero_u16_row : shape_at_layer (SchemaNode-F.NonZero int.U16) ≡ number_shape 2 false nonzero
nonzero_u16_row = refl

nonzero_i16_row : shape_at_layer (SchemaNode-F.NonZero int.I16) ≡ number_shape 2 true nonzero
nonzero_i16_row = refl

nonzero_u32_row : shape_at_layer (SchemaNode-F.NonZero int.U32) ≡ number_shape 4 false nonzero
nonzero_u32_row = refl

nonzero_i32_row : shape_at_layer (SchemaNode-F.NonZero int.I32) ≡ number_shape 4 true nonzero
nonzero_i32_row = refl

nonzero_u64_row : shape_at_layer (SchemaNode-F.NonZero int.U64) ≡ number_shape 8 false nonzero
nonzero_u64_row = refl

nonzero_i64_row : shape_at_layer (SchemaNode-F.NonZero int.I64) ≡ number_shape 8 true nonzero
nonzero_i64_row = refl

nonzero_u128_row : shape_at_layer (SchemaNode-F.NonZero int.U128) ≡ number_shape 16 false nonzero
nonzero_u128_row = refl

nonzero_i128_row : shape_at_layer (SchemaNode-F.NonZero int.I128) ≡ number_shape 16 true nonzero
nonzero_i128_row = refl

f32_row : shape_at_layer SchemaNode-F.F32 ≡ float_shape binary32
f32_row = refl

f64_row : shape_at_layer SchemaNode-F.F64 ≡ float_shape binary64
f64_row = refl

text_row : (capacity : Option ℕ) → shape_at_layer (SchemaNode-F.Str capacity) ≡ text_shape capacity
text_row capacity = refl

duration_row : shape_at_layer SchemaNode-F.Duration
    ≡ pair_shape (number_shape 8 false any_number) (number_shape 4 false (between (pos 0) (pos 999999999)))
duration_row = refl

uuid_row : shape_at_layer SchemaNode-F.Uuid ≡ array_shape 16 (number_shape 1 false any_number)
uuid_row = refl

-- ---- nodes with parts

list_row : (capacity : Option ℕ) (b : Box Form Global) → shape_at_layer (SchemaNode-F.List capacity b) ≡ seq_shape capacity b.value.shape
list_row capacity b = refl

map_row : (k v : Box Form Global) → shape_at_layer (SchemaNode-F.Map k v) ≡ map_shape k.value.shape v.value.shape
map_row k v = refl

array_row : (count : ℕ) (b : Box Form Global) → shape_at_layer (SchemaNode-F.Array count b) ≡ array_shape count b.value.shape
array_row count b = refl

option_row : (b : Box Form Global) → shape_at_layer (SchemaNode-F.Option b) ≡ choice_shape (shape_and unit_shape (shape_and b.value.shape no_shapes))
option_row b = refl

result_row : (ok err : Box Form Global)
    → shape_at_layer (SchemaNode-F.Result ok err) ≡ choice_shape (shape_and ok.value.shape (shape_and err.value.shape no_shapes))
result_row ok err = refl

-- ---- fields: a pair of the first half and the rest

module _ (a b c d e : Shape) where
  no_fields : fields_shape [] ≡ unit_shape
  no_fields = refl

  one_field : fields_shape (a ∷ []) ≡ a
  one_field = refl

  two_fields : fields_shape (a ∷ b ∷ []) ≡ pair_shape a b
  two_fields = refl

  three_fields : fields_shape (a ∷ b ∷ c ∷ []) ≡ pair_shape a (pair_shape b c)
  three_fields = refl

  five_fields : fields_shape (a ∷ b ∷ c ∷ d ∷ e ∷ []) ≡ pair_shape (pair_shape a b) (pair_shape c (pair_shape d e))
  five_fields = refl

  -- ---- variants

  no_variants : enum_shape [] ≡ never_shape
  no_variants = refl

  one_variant : enum_shape (a ∷ []) ≡ a
  one_variant = refl

  three_variants : enum_shape (a ∷ b ∷ c ∷ []) ≡ choice_shape (shape_and a (shape_and b (shape_and c no_shapes)))
  three_variants = refl

three_data : (a b c : Datum) → fields_datum (a ∷ b ∷ c ∷ []) ≡ pair a (pair b c)
three_data a b c = refl
