-- What a node means: which data its columns hold, and which datum a value holds.
use Rattle.std.specs.Prelude.{ℕ, zero, suc, false, Option, Some, None, List, [], ◌∷◌, map, slice_get}
use Rattle.std.specs.Float.{binary32, binary64}
use Rattle.bitcode_shapes.specs.Checked.{nanosecond_shape, nonzero_shape, char_shape}
use Rattle.bitcode_shapes.specs.Datum.{Datum, unit, list, choice, pair, data_of}
use Rattle.bitcode_shapes.specs.Ints.{int_shape}
use Rattle.bitcode_shapes.specs.Shape.{Shape, Shapes, unit_shape, never_shape, bool_shape, float_shape, text_shape, seq_shape, map_shape, array_shape, pair_shape, choice_shape, no_shapes, shape_and}
use Rattle.bitcode_untyped.specs.Leaves.{Leaf, entry_of}
use Rattle.bitcode_untyped.specs.declared.value.Value.{Value, out-Value}
use Rattle.bitcode_untyped.specs.declared.value.Value.TheOpen.{Value-F}
use Rattle.bitcode_schema.specs.Halves.{halved}
use Rattle.bitcode_schema.specs.Leaves.{width_of, is_signed, int_leaf, case_of, datum_in}
use Rattle.bitcode_schema.specs.declared.schema.IntKind.TheVariants as int
use Rattle.bitcode_schema.specs.declared.schema.SchemaNode.{SchemaNode, fold-SchemaNode}
use Rattle.bitcode_schema.specs.declared.schema.SchemaNode.TheOpen.{SchemaNode-F}

-- ---- values and their data

-- the datum of a value; none if the value has another form
abbrev pub Content : Type 0
Content = Value → Option Datum

abbrev pub changed : {A B : Type 0} → (A → B) → Option A → Option B
changed f (Some a) = Some (f a)
changed f None = None

abbrev pub both : {A B C : Type 0} → (A → B → C) → Option A → Option B → Option C
both f (Some a) (Some b) = Some (f a b)
both f _ _ = None

-- of each of several values
abbrev pub contents : {A : Type 0} → (A → Option Datum) → List A → Option (List Datum)
contents content [] = Some []
contents content (v ∷ vs) = both (λ d ds. d ∷ ds) (content v) (contents content vs)

-- of as many values, each by its own
abbrev pub contents_each : List Content → List Value → Option (List Datum)
contents_each [] [] = Some []
contents_each (content ∷ rest) (v ∷ vs) = both (λ d ds. d ∷ ds) (content v) (contents_each rest vs)
contents_each _ _ = None

abbrev pub list_content : {A : Type 0} → (A → Option Datum) → List A → Option Datum
list_content content values = changed (λ ds. list (data_of ds)) (contents content values)

abbrev pub pair_content : Content → Content → Value × Value → Option Datum
pair_content key value entry = both pair (key entry.0) (value entry.1)

-- fields are nested pairs
abbrev pub fields_datum : List Datum → Datum
fields_datum = halved unit pair

abbrev pub fields_content : List Content → List Value → Option Datum
fields_content fields values = changed fields_datum (contents_each fields values)

-- of a variant and its payload
abbrev pub chosen_content : Option Content → ℕ → Value → Option Datum
chosen_content (Some content) i payload = changed (choice i) (content payload)
chosen_content None i payload = None

abbrev pub choice_content : List Content → ℕ → Value → Option Datum
choice_content variants i payload = chosen_content (slice_get variants i) i payload

-- an enum of one variant holds what its payload holds
abbrev pub enum_content : List Content → ℕ → Value → Option Datum
enum_content (content ∷ []) zero payload = content payload
enum_content (content ∷ []) (suc i) payload = None
enum_content variants i payload = choice_content variants i payload

abbrev pub leaf_content : Option Leaf → Content
leaf_content case value = datum_in case (entry_of (out-Value value))

-- ---- shapes

abbrev pub shapes_of : List Shape → Shapes
shapes_of [] = no_shapes
shapes_of (s ∷ ss) = shape_and s (shapes_of ss)

abbrev pub fields_shape : List Shape → Shape
fields_shape = halved unit_shape pair_shape

abbrev pub enum_shape : List Shape → Shape
enum_shape [] = never_shape
enum_shape (s ∷ []) = s
enum_shape ss = choice_shape (shapes_of ss)

-- ---- nodes

-- the shape of the data, and the datum of a value
pub record Form : Type 0 where
  pub shape : Shape
  pub content : Content

abbrev pub shapes_in : List Form → List Shape
shapes_in forms = map (λ form. form.shape) forms

abbrev pub contents_in : List Form → List Content
contents_in forms = map (λ form. form.content) forms

-- the nodes of named fields or variants
abbrev pub parts_of : {N A : Type 0} → List (N × A) → List A
parts_of named = map (λ part. part.1) named

-- a U64 and a U32
abbrev pub span_contents : List Content
span_contents = leaf_content (Some (int_leaf int.U64)) ∷ leaf_content (Some (int_leaf int.U32)) ∷ []

-- one level, with the form of each node inside in its place
abbrev pub shape_step : SchemaNode-F Form → Shape
shape_step SchemaNode-F.Unit = unit_shape
shape_step SchemaNode-F.Never = never_shape
shape_step SchemaNode-F.Bool = bool_shape
shape_step SchemaNode-F.Char = char_shape
shape_step (SchemaNode-F.Int kind) = int_shape (width_of kind) (is_signed kind)
shape_step (SchemaNode-F.NonZero kind) = nonzero_shape (width_of kind) (is_signed kind)
shape_step SchemaNode-F.F32 = float_shape binary32
shape_step SchemaNode-F.F64 = float_shape binary64
shape_step (SchemaNode-F.Str capacity) = text_shape capacity
shape_step SchemaNode-F.Duration = pair_shape (int_shape 8 false) nanosecond_shape
shape_step SchemaNode-F.Uuid = array_shape 16 (int_shape 1 false)
shape_step (SchemaNode-F.List capacity element) = seq_shape capacity element.value.shape
shape_step (SchemaNode-F.Map key value) = map_shape key.value.shape value.value.shape
shape_step (SchemaNode-F.Array count element) = array_shape count element.value.shape
shape_step (SchemaNode-F.Tuple fields) = fields_shape (shapes_in fields.items)
shape_step (SchemaNode-F.Struct fields) = fields_shape (shapes_in (parts_of fields.items))
shape_step (SchemaNode-F.Option some) = choice_shape (shape_and unit_shape (shape_and some.value.shape no_shapes))
shape_step (SchemaNode-F.Result ok err) = choice_shape (shape_and ok.value.shape (shape_and err.value.shape no_shapes))
shape_step (SchemaNode-F.Enum variants) = enum_shape (shapes_in (parts_of variants.items))

abbrev pub content_step : SchemaNode-F Form → Value-F Value → Option Datum
content_step SchemaNode-F.Unit Value-F.Unit = Some unit
content_step SchemaNode-F.Duration (Value-F.Tuple fields) = fields_content span_contents fields.items
content_step SchemaNode-F.Uuid (Value-F.Seq values) = list_content (leaf_content (Some (int_leaf int.U8))) values.items
content_step (SchemaNode-F.List capacity element) (Value-F.Seq values) = list_content element.value.content values.items
content_step (SchemaNode-F.Map key value) (Value-F.Map pairs) = list_content (pair_content key.value.content value.value.content) pairs.items
content_step (SchemaNode-F.Array count element) (Value-F.Seq values) = list_content element.value.content values.items
content_step (SchemaNode-F.Tuple fields) (Value-F.Tuple values) = fields_content (contents_in fields.items) values.items
content_step (SchemaNode-F.Struct fields) (Value-F.Tuple values) = fields_content (contents_in (parts_of fields.items)) values.items
content_step (SchemaNode-F.Option some) (Value-F.Option None) = Some (choice 0 unit)
content_step (SchemaNode-F.Option some) (Value-F.Option (Some held)) = changed (choice 1) (some.value.content held.value)
content_step (SchemaNode-F.Result ok err) (Value-F.Enum i payload) = choice_content (ok.value.content ∷ err.value.content ∷ []) i payload.value
content_step (SchemaNode-F.Enum variants) (Value-F.Enum i payload) = enum_content (contents_in (parts_of variants.items)) i payload.value
content_step node value = datum_in (case_of node) (entry_of value)

-- the datum of a value, if the value has the form of the node
abbrev pub node_content : SchemaNode-F Form → Content
node_content node value = content_step node (out-Value value)

abbrev pub form_step : SchemaNode-F Form → Form
form_step node = record { shape = shape_step node; content = node_content node }

abbrev pub form_of : SchemaNode → Form
form_of = fold-SchemaNode Form form_step

-- the shape of the data of a node
abbrev pub shape_of : SchemaNode → Shape
shape_of node = (form_of node).shape

-- the datum of a value of a node, if the value has the form of the node; limits and numbers are left to the shape
abbrev pub content_under : SchemaNode → Value → Option Datum
content_under node = (form_of node).content
