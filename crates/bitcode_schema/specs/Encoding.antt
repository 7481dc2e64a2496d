-- What encoding a value by a schema writes.
use Rattle.std.specs.Prelude.{◌≡◌, ℕ, Some, List, [], ◌∷◌}
use Rattle.bitcode_shapes.specs.Datum.{Datum}
use Rattle.bitcode_shapes.specs.Shape.{IsOf}
use Rattle.bitcode_coder.specs.Columns.{CountsFit}
use Rattle.bitcode_coder.specs.Spelling.{texts_of}
use Rattle.bitcode_coder.specs.Transposition.{columns_of, spread}
use Rattle.bitcode_untyped.specs.declared.value.Value.{Value}
use Rattle.bitcode_schema.specs.Forms.{content_under, shape_of}
use Rattle.bitcode_schema.specs.declared.schema.SchemaNode.{SchemaNode}

-- the value has the form of the node, and its datum keeps to the node's limits
pub record HasDatum (node : SchemaNode) (value : Value) (d : Datum) : Type 0 where
  pub content : content_under node value ≡ Some d
  pub of_shape : IsOf (shape_of node) d

-- no datum of the node is the value's
abbrev pub HasNoDatum : SchemaNode → Value → Type 0
HasNoDatum node value = (d : Datum) → HasDatum node value d → ⊥

-- The bytes are the concatenated texts of the columns of the value's datum, as `encode` writes them for a type of the
-- node's shape.
pub record IsEncodingOf (node : SchemaNode) (value : Value) (bytes : List ℕ) : Type 0 where
  pub datum : Datum
  pub has : HasDatum node value datum
  pub counts : CountsFit (columns_of (shape_of node) (datum ∷ []))
  pub written : bytes ≡ texts_of (spread (shape_of node) (datum ∷ []))
