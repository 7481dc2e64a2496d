-- One value of a node.
use Rattle.std.proofs.Common.{◌≡◌, ℕ, All, List, [], ◌∷◌, ◌∙◌}
use Rattle.std.proofs.lemmas.List.Elements.{All-nil, All-cons, All-head}
use Rattle.bitcode_coder.proofs.LawLemmas.{texts_of-spread}
use Rattle.bitcode_coder.specs.Columns.{CountsFit}
use Rattle.bitcode_coder.specs.Spelling.{columns_bytes}
use Rattle.bitcode_coder.specs.Transposition.{columns_of}
use Rattle.bitcode_shapes.specs.Datum.{Datum}
use Rattle.bitcode_shapes.specs.Shape.{IsOf}
use Rattle.bitcode_untyped.specs.declared.value.Value.{Value}
use Rattle.bitcode_schema.specs.Encoding.{HasNoDatum, IsEncodingOf}
use Rattle.bitcode_schema.specs.Forms.{content_under, shape_of}
use Rattle.bitcode_schema.specs.Views.{Hold}
use Rattle.bitcode_schema.specs.Writing.{Writes, HasStranger}
use Rattle.bitcode_schema.specs.declared.schema.SchemaNode.{SchemaNode}

module _ (node : SchemaNode) (value : Value) (bytes : List ℕ) where
  only : (ds : List Datum) → Hold (content_under node) (value ∷ []) ds → All (IsOf (shape_of node)) ds → CountsFit (columns_of (shape_of node) ds)
      → bytes ≡ columns_bytes (columns_of (shape_of node) ds) → IsEncodingOf node value bytes
  only [] held of counts written = absurd held
  only (d ∷ []) held of counts written = record {
    datum = d;
    has = record { content = held.0; of_shape = All-head (IsOf (shape_of node)) d [] of };
    counts = counts;
    written = written ∙ texts_of-spread (shape_of node) (d ∷ []);
  }
  only (d ∷ e ∷ ds) held of counts written = absurd held.1

  pub one_written : Writes (content_under node) (shape_of node) (value ∷ []) [] bytes → IsEncodingOf node value bytes
  one_written w = only w.contents w.are.held w.are.of_shape w.counts w.written

pub one_stranger : (node : SchemaNode) (value : Value) → HasStranger (content_under node) (shape_of node) (value ∷ []) → HasNoDatum node value
one_stranger node value stranger d has =
    stranger (d ∷ []) (record { held = (has.content, tt); of_shape = All-cons (IsOf (shape_of node)) d [] has.of_shape (All-nil (IsOf (shape_of node))) })
