-- The shapes of nodes with several nodes in them, by these nodes.
use Rattle.std.proofs.Common.{◌≡◌, map, Box, Vec, Global, ap, ◌∙◌}
use Rattle.std.specs.declared.string.String.{String}
use Rattle.bitcode_shapes.specs.Shape.{unit_shape, choice_shape, no_shapes, shape_and}
use Rattle.bitcode_schema.specs.Forms.{shape_of, parts_of, fields_shape, enum_shape, shapes_of}
use Rattle.bitcode_schema.specs.Reading.{shape_of_fields}
use Rattle.bitcode_schema.specs.declared.schema.SchemaNode.{SchemaNode}
use Rattle.bitcode_schema.specs.declared.schema.SchemaNode.TheVariants as node
use Rattle.bitcode_schema.proofs.ShapeLemmas.{shape-Tuple, shape-Struct, shape-Option, shape-Result, shape-Enum, fields-Tuple, fields-Struct, variants-Option, variants-Result, variants-Enum}

pub tuple_shape : (v : Vec SchemaNode Global) → shape_of (node.Tuple v) ≡ fields_shape (map shape_of v.items)
tuple_shape v = shape-Tuple v ∙ ap shape_of_fields (fields-Tuple v)

pub struct_shape : (v : Vec (String Global × SchemaNode) Global) → shape_of (node.Struct v) ≡ fields_shape (map shape_of (parts_of v.items))
struct_shape v = shape-Struct v ∙ ap shape_of_fields (fields-Struct v)

pub option_shape : (b : Box SchemaNode Global) → shape_of (node.Option b) ≡ choice_shape (shape_and unit_shape (shape_and (shape_of b.value) no_shapes))
option_shape b = shape-Option b ∙ ap (λ ss. choice_shape (shapes_of ss)) (variants-Option b)

pub result_shape : (a b : Box SchemaNode Global)
    → shape_of (node.Result a b) ≡ choice_shape (shape_and (shape_of a.value) (shape_and (shape_of b.value) no_shapes))
result_shape a b = shape-Result a b ∙ ap (λ ss. choice_shape (shapes_of ss)) (variants-Result a b)

pub enum_node_shape : (v : Vec (String Global × SchemaNode) Global) → shape_of (node.Enum v) ≡ enum_shape (map shape_of (parts_of v.items))
enum_node_shape v = shape-Enum v ∙ ap enum_shape (variants-Enum v)
