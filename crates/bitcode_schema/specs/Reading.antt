-- What reading the columns of a node does, and the parts of nodes that are read one after another.
use Rattle.std.specs.Prelude.{ℕ, ◌-◌, Bool, IsTrue, List, [], ◌∷◌, map, take, drop}
use Rattle.bitcode_columns.specs.Reading.{Reads}
use Rattle.bitcode_shapes.specs.Datum.{Datum}
use Rattle.bitcode_shapes.specs.Shape.{Shape, unit_shape}
use Rattle.bitcode_coder.specs.Spelling.{Spells}
use Rattle.bitcode_coder.specs.Strict.{JudgesData}
use Rattle.bitcode_schema.specs.Forms.{shape_of, parts_of, fields_shape}
use Rattle.bitcode_schema.specs.declared.schema.SchemaNode.{SchemaNode, out-SchemaNode}
use Rattle.bitcode_schema.specs.declared.schema.SchemaNode.TheOpen.{SchemaNode-F}

-- So many data were read. Where strict, the answer is whether the bytes of each column are those that are written.
pub record ReadsData (shape : Shape) (k : ℕ) (strict : Bool) (old new : List ℕ) (written : Bool) : Type 0 where
  pub found : List Datum
  pub read : Reads (Spells shape) k old found new
  pub judged : IsTrue strict → JudgesData shape found written old new

-- the nodes of the fields of a tuple or struct
abbrev pub fields_step : SchemaNode-F SchemaNode → List SchemaNode
fields_step (SchemaNode-F.Tuple fields) = fields.items
fields_step (SchemaNode-F.Struct fields) = parts_of fields.items
fields_step _ = []

abbrev pub fields_of : SchemaNode → List SchemaNode
fields_of node = fields_step (out-SchemaNode node)

-- those from one number to another
abbrev pub fields_between : (from to : ℕ) → SchemaNode → List SchemaNode
fields_between from to node = take (to - from) (drop from (fields_of node))

-- the shape of fields, as one
abbrev pub shape_of_fields : List SchemaNode → Shape
shape_of_fields fields = fields_shape (map shape_of fields)

-- the shapes of the payloads of a node with variants
abbrev pub variants_step : SchemaNode-F SchemaNode → List Shape
variants_step (SchemaNode-F.Option some) = unit_shape ∷ shape_of some.value ∷ []
variants_step (SchemaNode-F.Result ok err) = shape_of ok.value ∷ shape_of err.value ∷ []
variants_step (SchemaNode-F.Enum variants) = map shape_of (parts_of variants.items)
variants_step _ = []

abbrev pub variant_shapes : SchemaNode → List Shape
variant_shapes node = variants_step (out-SchemaNode node)
