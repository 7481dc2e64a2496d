-- The shape of each node, by its variant.
use Rattle.std.proofs.Common.{◌≡◌, ℕ, ◌≤◌, false, Option, List, [], ◌∷◌, map, length, Vec, Box, Global, refl, sym, ap, ◌∙◌, arith}
use Rattle.std.specs.Float.{binary32, binary64}
use Rattle.std.specs.declared.string.String.{String}
use Rattle.std.proofs.lemmas.List.{length-map}
use Rattle.std.proofs.lemmas.Simd.{map-map}
use Rattle.bitcode_shapes.specs.Checked.{char_shape, nonzero_shape}
use Rattle.bitcode_shapes.specs.Durations.{duration_shape}
use Rattle.bitcode_shapes.specs.Ints.{int_shape}
use Rattle.bitcode_shapes.specs.Shape.{Shape, unit_shape, never_shape, bool_shape, float_shape, text_shape, seq_shape, map_shape, array_shape, choice_shape}
use Rattle.bitcode_enums.specs.ByNumber.{shape_at}
use Rattle.bitcode_schema.specs.Forms.{Form, form_of, form_step, shape_of, shape_step, parts_of, fields_shape, enum_shape, shapes_of}
use Rattle.bitcode_schema.specs.Leaves.{width_of, is_signed}
use Rattle.bitcode_schema.specs.Reading.{fields_of, fields_step, shape_of_fields, variant_shapes, variants_step}
use Rattle.bitcode_schema.specs.declared.schema.IntKind.{IntKind}
use Rattle.bitcode_schema.specs.declared.schema.SchemaNode.{SchemaNode}
use Rattle.bitcode_schema.specs.declared.schema.SchemaNode.TheOpen.{SchemaNode-F}
use Rattle.bitcode_schema.specs.declared.schema.SchemaNode.TheViews.{roll-SchemaNode, out-roll-SchemaNode}
use Rattle.bitcode_schema.specs.declared.schema.SchemaNode.TheFolds.{fold-roll-SchemaNode, map-SchemaNode}
use Rattle.bitcode_schema.specs.declared.schema.SchemaNode.TheVariants as node

-- ---- shapes

shape_rolled : (layer : SchemaNode-F SchemaNode) (n : SchemaNode) → roll-SchemaNode layer ≡ n → shape_of n ≡ shape_step (map-SchemaNode SchemaNode Form form_of layer)
shape_rolled layer n is = ap shape_of (sym is) ∙ ap (λ (form : Form). form.shape) (fold-roll-SchemaNode Form form_step layer)

pub shape-Unit : shape_of node.Unit ≡ unit_shape
shape-Unit = shape_rolled SchemaNode-F.Unit node.Unit node.rolls-Unit

pub shape-Never : shape_of node.Never ≡ never_shape
shape-Never = shape_rolled SchemaNode-F.Never node.Never node.rolls-Never

pub shape-Bool : shape_of node.Bool ≡ bool_shape
shape-Bool = shape_rolled SchemaNode-F.Bool node.Bool node.rolls-Bool

pub shape-Char : shape_of node.Char ≡ char_shape
shape-Char = shape_rolled SchemaNode-F.Char node.Char node.rolls-Char

pub shape-Int : (kind : IntKind) → shape_of (node.Int kind) ≡ int_shape (width_of kind) (is_signed kind)
shape-Int kind = shape_rolled (SchemaNode-F.Int kind) (node.Int kind) (node.rolls-Int kind)

pub shape-NonZero : (kind : IntKind) → shape_of (node.NonZero kind) ≡ nonzero_shape (width_of kind) (is_signed kind)
shape-NonZero kind = shape_rolled (SchemaNode-F.NonZero kind) (node.NonZero kind) (node.rolls-NonZero kind)

pub shape-F32 : shape_of node.F32 ≡ float_shape binary32
shape-F32 = shape_rolled SchemaNode-F.F32 node.F32 node.rolls-F32

pub shape-F64 : shape_of node.F64 ≡ float_shape binary64
shape-F64 = shape_rolled SchemaNode-F.F64 node.F64 node.rolls-F64

pub shape-Str : (capacity : Option ℕ) → shape_of (node.Str capacity) ≡ text_shape capacity
shape-Str capacity = shape_rolled (SchemaNode-F.Str capacity) (node.Str capacity) (node.rolls-Str capacity)

pub shape-Duration : shape_of node.Duration ≡ duration_shape
shape-Duration = shape_rolled SchemaNode-F.Duration node.Duration node.rolls-Duration

pub shape-Uuid : shape_of node.Uuid ≡ array_shape 16 (int_shape 1 false)
shape-Uuid = shape_rolled SchemaNode-F.Uuid node.Uuid node.rolls-Uuid

pub shape-List : (capacity : Option ℕ) (b : Box SchemaNode Global) → shape_of (node.List capacity b) ≡ seq_shape capacity (shape_of b.value)
shape-List capacity b = shape_rolled (SchemaNode-F.List capacity b) (node.List capacity b) (node.rolls-List capacity b)

pub shape-Map : (k v : Box SchemaNode Global) → shape_of (node.Map k v) ≡ map_shape (shape_of k.value) (shape_of v.value)
shape-Map k v = shape_rolled (SchemaNode-F.Map k v) (node.Map k v) (node.rolls-Map k v)

pub shape-Array : (count : ℕ) (b : Box SchemaNode Global) → shape_of (node.Array count b) ≡ array_shape count (shape_of b.value)
shape-Array count b = shape_rolled (SchemaNode-F.Array count b) (node.Array count b) (node.rolls-Array count b)

-- ---- tuples and structs

pub fields-Tuple : (v : Vec SchemaNode Global) → fields_of (node.Tuple v) ≡ v.items
fields-Tuple v = ap fields_of (sym (node.rolls-Tuple v)) ∙ ap fields_step (out-roll-SchemaNode (SchemaNode-F.Tuple v))

pub fields-Struct : (v : Vec (String Global × SchemaNode) Global) → fields_of (node.Struct v) ≡ parts_of v.items
fields-Struct v = ap fields_of (sym (node.rolls-Struct v)) ∙ ap fields_step (out-roll-SchemaNode (SchemaNode-F.Struct v))

pub shape-Tuple : (v : Vec SchemaNode Global) → shape_of (node.Tuple v) ≡ shape_of_fields (fields_of (node.Tuple v))
shape-Tuple v =
    shape_rolled (SchemaNode-F.Tuple v) (node.Tuple v) (node.rolls-Tuple v)
    ∙ ap fields_shape (map-map (λ (form : Form). form.shape) form_of v.items)
    ∙ ap shape_of_fields (sym (fields-Tuple v))

pub shape-Struct : (v : Vec (String Global × SchemaNode) Global) → shape_of (node.Struct v) ≡ shape_of_fields (fields_of (node.Struct v))
shape-Struct v =
    shape_rolled (SchemaNode-F.Struct v) (node.Struct v) (node.rolls-Struct v)
    ∙ ap (λ forms. fields_shape (map (λ (form : Form). form.shape) forms)) (map-map _ _ v.items)
    ∙ ap fields_shape (map-map (λ (form : Form). form.shape) _ v.items ∙ sym (map-map shape_of (λ p. p.1) v.items))
    ∙ ap shape_of_fields (sym (fields-Struct v))

-- ---- choices

pub variants-Option : (b : Box SchemaNode Global) → variant_shapes (node.Option b) ≡ unit_shape ∷ shape_of b.value ∷ []
variants-Option b = ap variant_shapes (sym (node.rolls-Option b)) ∙ ap variants_step (out-roll-SchemaNode (SchemaNode-F.Option b))

pub variants-Result : (a b : Box SchemaNode Global) → variant_shapes (node.Result a b) ≡ shape_of a.value ∷ shape_of b.value ∷ []
variants-Result a b = ap variant_shapes (sym (node.rolls-Result a b)) ∙ ap variants_step (out-roll-SchemaNode (SchemaNode-F.Result a b))

pub variants-Enum : (v : Vec (String Global × SchemaNode) Global) → variant_shapes (node.Enum v) ≡ map shape_of (parts_of v.items)
variants-Enum v = ap variant_shapes (sym (node.rolls-Enum v)) ∙ ap variants_step (out-roll-SchemaNode (SchemaNode-F.Enum v))

pub shape-Option : (b : Box SchemaNode Global) → shape_of (node.Option b) ≡ choice_shape (shapes_of (variant_shapes (node.Option b)))
shape-Option b =
    shape_rolled (SchemaNode-F.Option b) (node.Option b) (node.rolls-Option b) ∙ ap (λ ss. choice_shape (shapes_of ss)) (sym (variants-Option b))

pub shape-Result : (a b : Box SchemaNode Global) → shape_of (node.Result a b) ≡ choice_shape (shapes_of (variant_shapes (node.Result a b)))
shape-Result a b =
    shape_rolled (SchemaNode-F.Result a b) (node.Result a b) (node.rolls-Result a b) ∙ ap (λ ss. choice_shape (shapes_of ss)) (sym (variants-Result a b))

pub shape-Enum : (v : Vec (String Global × SchemaNode) Global) → shape_of (node.Enum v) ≡ enum_shape (variant_shapes (node.Enum v))
shape-Enum v =
    shape_rolled (SchemaNode-F.Enum v) (node.Enum v) (node.rolls-Enum v)
    ∙ ap (λ forms. enum_shape (map (λ (form : Form). form.shape) forms)) (map-map _ _ v.items)
    ∙ ap enum_shape (map-map (λ (form : Form). form.shape) _ v.items ∙ sym (map-map shape_of (λ p. p.1) v.items))
    ∙ ap enum_shape (sym (variants-Enum v))

pub length-Enum : (v : Vec (String Global × SchemaNode) Global) → length (variant_shapes (node.Enum v)) ≡ length v.items
length-Enum v = ap length (variants-Enum v) ∙ length-map (parts_of v.items) shape_of ∙ length-map v.items (λ p. p.1)

pub no_variants : (ss : List Shape) → length ss ≡ 0 → enum_shape ss ≡ never_shape
no_variants [] none = refl
no_variants (s ∷ ss) none = absurd (omega (arith, none))

pub only_variant : (ss : List Shape) → length ss ≡ 1 → enum_shape ss ≡ shape_at 0 (shapes_of ss)
only_variant [] one = absurd (omega (arith, one))
only_variant (s ∷ []) one = refl
only_variant (s ∷ t ∷ ss) one = absurd (omega (arith, one))

pub several_variants : (ss : List Shape) → 2 ≤ length ss → enum_shape ss ≡ choice_shape (shapes_of ss)
several_variants [] some = absurd (omega (arith, some))
several_variants (s ∷ []) some = absurd (omega (arith, some))
several_variants (s ∷ t ∷ ss) some = refl
