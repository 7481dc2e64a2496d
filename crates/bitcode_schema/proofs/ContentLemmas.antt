-- The content of a value under each node, by what the value holds.
use Rattle.std.proofs.Common.{◌≡◌, ℕ, Option, Some, None, List, [], ◌∷◌, map, Box, Vec, Global, refl, sym, ap, ◌∙◌}
use Rattle.std.specs.declared.string.String.{String}
use Rattle.std.specs.Float.{binary32, binary64}
use Rattle.std.proofs.lemmas.Simd.{map-map}
use Rattle.bitcode_coder.specs.Columns.{bools, floats, texts}
use Rattle.bitcode_untyped.specs.Leaves.{leaf_of, char_leaf, entry_of}
use Rattle.bitcode_untyped.specs.declared.value.Value.{Value, out-Value}
use Rattle.bitcode_untyped.specs.declared.value.Value.TheOpen.{Value-F}
use Rattle.bitcode_schema.specs.Forms.{Form, list_content, pair_content, fields_content, choice_content, enum_content, span_contents, leaf_content, parts_of, contents_in, content_step, form_step, form_of, content_under}
use Rattle.bitcode_schema.specs.Leaves.{int_leaf, datum_in}
use Rattle.bitcode_schema.specs.Parts.{unit_content, option_content, contents_of}
use Rattle.bitcode_schema.specs.Views.{seq_items, map_pairs, tuple_fields, option_held, enum_held, elements_of, pairs_of, fields_of, option_of, enum_of, under}
use Rattle.bitcode_schema.specs.declared.schema.IntKind.{IntKind}
use Rattle.bitcode_schema.specs.declared.schema.IntKind.TheVariants as int
use Rattle.bitcode_schema.specs.declared.schema.SchemaNode.{SchemaNode}
use Rattle.bitcode_schema.specs.declared.schema.SchemaNode.TheOpen.{SchemaNode-F}
use Rattle.bitcode_schema.specs.declared.schema.SchemaNode.TheViews.{roll-SchemaNode}
use Rattle.bitcode_schema.specs.declared.schema.SchemaNode.TheFolds.{fold-roll-SchemaNode, map-SchemaNode}
use Rattle.bitcode_schema.specs.declared.schema.SchemaNode.TheVariants as node

-- one level of a node, with the forms of the nodes inside
abbrev formed : SchemaNode-F SchemaNode → SchemaNode-F Form
formed layer = map-SchemaNode SchemaNode Form form_of layer

rolled : (layer : SchemaNode-F SchemaNode) (n : SchemaNode) (v : Value) → roll-SchemaNode layer ≡ n → content_under n v ≡ content_step (formed layer) (out-Value v)
rolled layer n v is = ap (λ m. content_under m v) (sym is) ∙ ap (λ (form : Form). form.content v) (fold-roll-SchemaNode Form form_step layer)

-- ---- nodes with nodes in them

pub content-List : (capacity : Option ℕ) (b : Box SchemaNode Global) (v : Value) → content_under (node.List capacity b) v ≡ under (elements_of v) (list_content (content_under b.value))
content-List capacity b v = rolled (SchemaNode-F.List capacity b) (node.List capacity b) v (node.rolls-List capacity b) ∙ seen (out-Value v)
  where
    seen : (w : Value-F Value) → content_step (formed (SchemaNode-F.List capacity b)) w ≡ under (seq_items w) (list_content (content_under b.value))
    seen (Value-F.Seq vs) = refl
    seen _ = refl

pub content-Array : (count : ℕ) (b : Box SchemaNode Global) (v : Value) → content_under (node.Array count b) v ≡ under (elements_of v) (list_content (content_under b.value))
content-Array count b v = rolled (SchemaNode-F.Array count b) (node.Array count b) v (node.rolls-Array count b) ∙ seen (out-Value v)
  where
    seen : (w : Value-F Value) → content_step (formed (SchemaNode-F.Array count b)) w ≡ under (seq_items w) (list_content (content_under b.value))
    seen (Value-F.Seq vs) = refl
    seen _ = refl

pub content-Map : (k e : Box SchemaNode Global) (v : Value) → content_under (node.Map k e) v ≡ under (pairs_of v) (list_content (pair_content (content_under k.value) (content_under e.value)))
content-Map k e v = rolled (SchemaNode-F.Map k e) (node.Map k e) v (node.rolls-Map k e) ∙ seen (out-Value v)
  where
    seen : (w : Value-F Value) → content_step (formed (SchemaNode-F.Map k e)) w ≡ under (map_pairs w) (list_content (pair_content (content_under k.value) (content_under e.value)))
    seen (Value-F.Map pairs) = refl
    seen _ = refl

pub content-Option : (b : Box SchemaNode Global) (v : Value) → content_under (node.Option b) v ≡ under (option_of v) (option_content (content_under b.value))
content-Option b v = rolled (SchemaNode-F.Option b) (node.Option b) v (node.rolls-Option b) ∙ seen (out-Value v)
  where
    seen : (w : Value-F Value) → content_step (formed (SchemaNode-F.Option b)) w ≡ under (option_held w) (option_content (content_under b.value))
    seen (Value-F.Option None) = refl
    seen (Value-F.Option (Some held)) = refl
    seen _ = refl

pub content-Result : (a b : Box SchemaNode Global) (v : Value) → content_under (node.Result a b) v ≡ under (enum_of v) (λ e. choice_content (content_under a.value ∷ content_under b.value ∷ []) e.0 e.1)
content-Result a b v = rolled (SchemaNode-F.Result a b) (node.Result a b) v (node.rolls-Result a b) ∙ seen (out-Value v)
  where
    seen : (w : Value-F Value) → content_step (formed (SchemaNode-F.Result a b)) w ≡ under (enum_held w) (λ e. choice_content (content_under a.value ∷ content_under b.value ∷ []) e.0 e.1)
    seen (Value-F.Enum i payload) = refl
    seen _ = refl

-- ---- nodes with several nodes in them

formed_nodes : (nodes : List SchemaNode) → contents_in (map form_of nodes) ≡ contents_of nodes
formed_nodes nodes = map-map (λ (form : Form). form.content) form_of nodes

formed_parts : (named : List (String Global × SchemaNode)) → contents_in (parts_of (map (λ p. (p.0, form_of p.1)) named)) ≡ contents_of (parts_of named)
formed_parts [] = refl
formed_parts (p ∷ named) = ap (λ cs. content_under p.1 ∷ cs) (formed_parts named)

pub content-Tuple : (nodes : Vec SchemaNode Global) (v : Value) → content_under (node.Tuple nodes) v ≡ under (fields_of v) (fields_content (contents_of nodes.items))
content-Tuple nodes v = rolled (SchemaNode-F.Tuple nodes) (node.Tuple nodes) v (node.rolls-Tuple nodes) ∙ seen (out-Value v)
  where
    seen : (w : Value-F Value) → content_step (formed (SchemaNode-F.Tuple nodes)) w ≡ under (tuple_fields w) (fields_content (contents_of nodes.items))
    seen (Value-F.Tuple values) = ap (λ cs. fields_content cs values.items) (formed_nodes nodes.items)
    seen _ = refl

pub content-Struct : (named : Vec (String Global × SchemaNode) Global) (v : Value)
    → content_under (node.Struct named) v ≡ under (fields_of v) (fields_content (contents_of (parts_of named.items)))
content-Struct named v = rolled (SchemaNode-F.Struct named) (node.Struct named) v (node.rolls-Struct named) ∙ seen (out-Value v)
  where
    seen : (w : Value-F Value) → content_step (formed (SchemaNode-F.Struct named)) w ≡ under (tuple_fields w) (fields_content (contents_of (parts_of named.items)))
    seen (Value-F.Tuple values) = ap (λ cs. fields_content cs values.items) (formed_parts named.items)
    seen _ = refl

pub content-Enum : (named : Vec (String Global × SchemaNode) Global) (v : Value)
    → content_under (node.Enum named) v ≡ under (enum_of v) (λ e. enum_content (contents_of (parts_of named.items)) e.0 e.1)
content-Enum named v = rolled (SchemaNode-F.Enum named) (node.Enum named) v (node.rolls-Enum named) ∙ seen (out-Value v)
  where
    seen : (w : Value-F Value) → content_step (formed (SchemaNode-F.Enum named)) w ≡ under (enum_held w) (λ e. enum_content (contents_of (parts_of named.items)) e.0 e.1)
    seen (Value-F.Enum i payload) = ap (λ cs. enum_content cs i payload.value) (formed_parts named.items)
    seen _ = refl

-- ---- nodes without nodes in them

pub content-Duration : (v : Value) → content_under node.Duration v ≡ under (fields_of v) (fields_content span_contents)
content-Duration v = rolled SchemaNode-F.Duration node.Duration v node.rolls-Duration ∙ seen (out-Value v)
  where
    seen : (w : Value-F Value) → content_step (formed SchemaNode-F.Duration) w ≡ under (tuple_fields w) (fields_content span_contents)
    seen (Value-F.Tuple vs) = refl
    seen _ = refl

pub content-Uuid : (v : Value) → content_under node.Uuid v ≡ under (elements_of v) (list_content (leaf_content (Some (int_leaf int.U8))))
content-Uuid v = rolled SchemaNode-F.Uuid node.Uuid v node.rolls-Uuid ∙ seen (out-Value v)
  where
    seen : (w : Value-F Value) → content_step (formed SchemaNode-F.Uuid) w ≡ under (seq_items w) (list_content (leaf_content (Some (int_leaf int.U8))))
    seen (Value-F.Seq vs) = refl
    seen _ = refl

pub content-Bool : (v : Value) → content_under node.Bool v ≡ leaf_content (Some (leaf_of bools)) v
content-Bool v = rolled SchemaNode-F.Bool node.Bool v node.rolls-Bool ∙ seen (out-Value v)
  where
    seen : (w : Value-F Value) → content_step (formed SchemaNode-F.Bool) w ≡ datum_in (Some (leaf_of bools)) (entry_of w)
    seen w = refl

pub content-Char : (v : Value) → content_under node.Char v ≡ leaf_content (Some (char_leaf)) v
content-Char v = rolled SchemaNode-F.Char node.Char v node.rolls-Char ∙ seen (out-Value v)
  where
    seen : (w : Value-F Value) → content_step (formed SchemaNode-F.Char) w ≡ datum_in (Some (char_leaf)) (entry_of w)
    seen w = refl

pub content-F32 : (v : Value) → content_under node.F32 v ≡ leaf_content (Some (leaf_of (floats binary32))) v
content-F32 v = rolled SchemaNode-F.F32 node.F32 v node.rolls-F32 ∙ seen (out-Value v)
  where
    seen : (w : Value-F Value) → content_step (formed SchemaNode-F.F32) w ≡ datum_in (Some (leaf_of (floats binary32))) (entry_of w)
    seen w = refl

pub content-F64 : (v : Value) → content_under node.F64 v ≡ leaf_content (Some (leaf_of (floats binary64))) v
content-F64 v = rolled SchemaNode-F.F64 node.F64 v node.rolls-F64 ∙ seen (out-Value v)
  where
    seen : (w : Value-F Value) → content_step (formed SchemaNode-F.F64) w ≡ datum_in (Some (leaf_of (floats binary64))) (entry_of w)
    seen w = refl

pub content-Int : (kind : IntKind) (v : Value) → content_under (node.Int kind) v ≡ leaf_content (Some (int_leaf kind)) v
content-Int kind v = rolled (SchemaNode-F.Int kind) (node.Int kind) v (node.rolls-Int kind) ∙ seen (out-Value v)
  where
    seen : (w : Value-F Value) → content_step (formed (SchemaNode-F.Int kind)) w ≡ datum_in (Some (int_leaf kind)) (entry_of w)
    seen w = refl

pub content-NonZero : (kind : IntKind) (v : Value) → content_under (node.NonZero kind) v ≡ leaf_content (Some (int_leaf kind)) v
content-NonZero kind v = rolled (SchemaNode-F.NonZero kind) (node.NonZero kind) v (node.rolls-NonZero kind) ∙ seen (out-Value v)
  where
    seen : (w : Value-F Value) → content_step (formed (SchemaNode-F.NonZero kind)) w ≡ datum_in (Some (int_leaf kind)) (entry_of w)
    seen w = refl

pub content-Str : (capacity : Option ℕ) (v : Value) → content_under (node.Str capacity) v ≡ leaf_content (Some (leaf_of (texts None))) v
content-Str capacity v = rolled (SchemaNode-F.Str capacity) (node.Str capacity) v (node.rolls-Str capacity) ∙ seen (out-Value v)
  where
    seen : (w : Value-F Value) → content_step (formed (SchemaNode-F.Str capacity)) w ≡ datum_in (Some (leaf_of (texts None))) (entry_of w)
    seen w = refl

pub content-Unit : (v : Value) → content_under node.Unit v ≡ unit_content (out-Value v)
content-Unit v = rolled SchemaNode-F.Unit node.Unit v node.rolls-Unit ∙ seen (out-Value v)
  where
    seen : (w : Value-F Value) → content_step (formed SchemaNode-F.Unit) w ≡ unit_content w
    seen Value-F.Unit = refl
    seen _ = refl
