-- Values that are made of data.
use Rattle.std.specs.Prelude.{◌≡◌, ℕ, zero, suc, Option, Some, None, List, [], ◌∷◌, slice_get, slice_index_or, slice_set}
use Rattle.bitcode_columns.specs.Reading.{Reads}
use Rattle.bitcode_shapes.specs.Datum.{Datum}
use Rattle.bitcode_shapes.specs.Shape.{Shape}
use Rattle.bitcode_coder.specs.Spelling.{Spells}
use Rattle.bitcode_enums.specs.ByNumber.{shape_at}
use Rattle.bitcode_schema.specs.Forms.{Content, content_under, parts_of, shapes_of}
use Rattle.bitcode_schema.specs.Parts.{unit_content, contents_of}
use Rattle.bitcode_schema.specs.Reading.{variant_shapes}
use Rattle.bitcode_schema.specs.Views.{Hold}
use Rattle.bitcode_schema.specs.declared.schema.SchemaNode.{SchemaNode, out-SchemaNode}
use Rattle.bitcode_schema.specs.declared.schema.SchemaNode.TheOpen.{SchemaNode-F}
use Rattle.bitcode_untyped.specs.declared.value.Value.{Value, out-Value}

-- the datum is the value's
abbrev pub MakesAs : {A : Type 0} → (A → Option Datum) → Datum → A → Type 0
MakesAs content d item = content item ≡ Some d

-- So many data were read, and the items hold them, one by one.
pub record MakesData {A : Type 0} (shape : Shape) (content : A → Option Datum) (k : ℕ) (old new : List ℕ) (items : List A) : Type 0 where
  pub found : List Datum
  pub read : Reads (Spells shape) k old found new
  pub made : Hold content items found

-- the value was the first of its variant's, and these are left
pub record Deals (variant : ℕ) (value : Value) (old new : List (List Value)) : Type 0 where
  pub left : List Value
  pub first : slice_index_or old variant [] ≡ value ∷ left
  pub rest : new ≡ slice_set old variant left

-- each variant got the next of its payloads
abbrev pub AreDealt : List ℕ → List (List Value) → List (ℕ × Value) → Type 0
AreDealt [] lists choices = choices ≡ []
AreDealt (variant ∷ variants) lists [] = ⊥
AreDealt (variant ∷ variants) lists (choice ∷ choices) =
    (left : List (List Value)) × ((choice.0 ≡ variant) × (Deals variant choice.1 lists left × AreDealt variants left choices))

-- what a value of no fields holds
abbrev pub payload_unit : Content
payload_unit value = unit_content (out-Value value)

-- the contents of the payloads of a node with variants
abbrev pub variant_contents_step : SchemaNode-F SchemaNode → List Content
variant_contents_step (SchemaNode-F.Option some) = payload_unit ∷ content_under some.value ∷ []
variant_contents_step (SchemaNode-F.Result ok err) = content_under ok.value ∷ content_under err.value ∷ []
variant_contents_step (SchemaNode-F.Enum variants) = contents_of (parts_of variants.items)
variant_contents_step _ = []

abbrev pub variant_contents : SchemaNode → List Content
variant_contents node = variant_contents_step (out-SchemaNode node)

-- so many payloads of a variant of the node were read
abbrev pub MakesPayloads : SchemaNode → (variant k : ℕ) → (old new : List ℕ) → List Value → Type 0
MakesPayloads node variant k old new values =
    (content : Content) → slice_get (variant_contents node) variant ≡ Some content
    → MakesData (shape_at variant (shapes_of (variant_shapes node))) content k old new values

-- what an option of that variant holds: variant 0 is none
abbrev pub optional : ℕ → Value → Option Value
optional zero payload = None
optional (suc variant) payload = Some payload
