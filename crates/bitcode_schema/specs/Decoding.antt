-- What decoding a value by a schema returns.
use Rattle.std.specs.Prelude.{◌≡◌, ℕ, ◌<◌, List}
use Rattle.bitcode_memory.specs.declared.error.Reason.{Reason}
use Rattle.bitcode_memory.specs.declared.error.Reason.TheVariants.{OutOfMemory, TooManyNodes}
use Rattle.bitcode_shapes.specs.Datum.{Datum}
use Rattle.bitcode_shapes.specs.Shape.{Shape}
use Rattle.bitcode_coder.specs.Coder.{IsReadingReason}
use Rattle.bitcode_derive.specs.Strict.{IsStrictDecodingOf}
use Rattle.bitcode_derive.specs.Whole.{IsDecodingOf, SpellsDatum}
use Rattle.bitcode_untyped.specs.Nodes.{node_count}
use Rattle.bitcode_untyped.specs.declared.value.Value.{Value}
use Rattle.bitcode_schema.specs.Forms.{content_under, shape_of}
use Rattle.bitcode_schema.specs.Making.{MakesAs}
use Rattle.bitcode_schema.specs.declared.schema.SchemaNode.{SchemaNode}

-- the whole input spells a datum of the node, and it is the value's
abbrev pub IsDecodingUnder : SchemaNode → List ℕ → Value → Type 0
IsDecodingUnder node bytes value = IsDecodingOf (MakesAs (content_under node)) (shape_of node) bytes value

-- the whole input strictly spells a datum of the node, and it is the value's
abbrev pub IsStrictDecodingUnder : SchemaNode → List ℕ → Value → Type 0
IsStrictDecodingUnder node bytes value = IsStrictDecodingOf (MakesAs (content_under node)) (shape_of node) bytes value

-- Why decoding within a limit on nodes fails: an allocation failed; `too many nodes` if the input spells a datum with
-- more nodes; and the other reasons only if the input spells no datum.
pub data IsRefusalWithin (limit : ℕ) (shape : Shape) (reason : Reason) (bytes : List ℕ) : Type 0 where
  no_memory : reason ≡ OutOfMemory → IsRefusalWithin limit shape reason bytes
  too_many : reason ≡ TooManyNodes → (d : Datum) → SpellsDatum shape bytes d → limit < node_count d → IsRefusalWithin limit shape reason bytes
  none_spelled : IsReadingReason reason → ((d : Datum) → SpellsDatum shape bytes d → ⊥) → IsRefusalWithin limit shape reason bytes
