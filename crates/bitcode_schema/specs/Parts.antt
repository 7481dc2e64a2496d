-- What a value of a node with several nodes in it holds, and what a part of its fields do.
use Rattle.std.specs.Prelude.{ℕ, Option, Some, None, List, length, map, take, drop}
use Rattle.bitcode_shapes.specs.Datum.{Datum, unit, choice}
use Rattle.bitcode_untyped.specs.declared.value.Value.{Value}
use Rattle.bitcode_untyped.specs.declared.value.Value.TheOpen.{Value-F}
use Rattle.bitcode_schema.specs.Choosing.{Payload}
use Rattle.bitcode_schema.specs.Forms.{Content, changed, choice_content, content_under, enum_content, fields_content, shape_of}
use Rattle.bitcode_schema.specs.Views.{payload_in}
use Rattle.bitcode_schema.specs.declared.schema.SchemaNode.{SchemaNode}

abbrev pub unit_content : Value-F Value → Option Datum
unit_content Value-F.Unit = Some unit
unit_content _ = None

abbrev pub option_content : Content → Option Value → Option Datum
option_content content None = Some (choice 0 unit)
option_content content (Some value) = changed (choice 1) (content value)

abbrev pub contents_of : List SchemaNode → List Content
contents_of nodes = map content_under nodes

-- as many fields of a row, from one on
abbrev pub row_content : List Content → ℕ → List Value → Option Datum
row_content contents at row = fields_content contents (take (length contents) (drop at row))

-- the payload of a variant with its number
abbrev pub payload_under : SchemaNode → Payload (ℕ × Value)
payload_under node = record { content = λ e. content_under node (payload_in e); shape = shape_of node }

abbrev pub payloads_under : List SchemaNode → List (Payload (ℕ × Value))
payloads_under nodes = map payload_under nodes

-- of a variant and its payload, among several variants or of any number
abbrev pub choice_under : List Content → ℕ × Value → Option Datum
choice_under contents e = choice_content contents e.0 e.1

abbrev pub enum_under : List Content → ℕ × Value → Option Datum
enum_under contents e = enum_content contents e.0 e.1
