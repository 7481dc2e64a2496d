-- Writing a whole value.
use Rattle.std.proofs.Common.{◌≡◌, ℕ, List, [], get_or, sym, subst, ap, ◌∙◌}
use Rattle.bitcode_memory.specs.declared.error.Reason.{Reason}
use Rattle.bitcode_shapes.specs.Datum.{Datum}
use Rattle.bitcode_coder.specs.Spelling.{texts_of}
use Rattle.bitcode_untyped.specs.Bounds.{IsLimited}
use Rattle.bitcode_untyped.specs.Faults.{faults_of_variant, faults_of, value_faults}
use Rattle.bitcode_untyped.specs.Growing.{put_all}
use Rattle.bitcode_untyped.specs.Laws.{LengthsBelowLimit}
use Rattle.bitcode_untyped.specs.PlaceKinds.{HasKindFrom}
use Rattle.bitcode_untyped.specs.PlacedColumns.{unplaced}
use Rattle.bitcode_untyped.specs.ShapeTree.{ShapeTree, IsOf}
use Rattle.bitcode_untyped.specs.Spelling.{SpellsDatum, datum_text}
use Rattle.bitcode_untyped.specs.View.{datum_of, tree_of, reference_limit}
use Rattle.bitcode_untyped.specs.Walk.{walk}
use Rattle.bitcode_untyped.specs.declared.shape.Shape.{Shape}
use Rattle.bitcode_untyped.specs.declared.shape.ShapeNode.{ShapeNode}
use Rattle.bitcode_untyped.specs.declared.value.Value.{Value}
use Rattle.bitcode_untyped.proofs.GrowingLemmas.{put_all-none}
use Rattle.bitcode_untyped.proofs.LawLemmas.{reads_back_datum}
use Rattle.bitcode_untyped.proofs.SoundTreeLemmas.{sound_shape}
use Rattle.bitcode_serde.specs.Serializing.{IsReadAs}
use Rattle.bitcode_serde.specs.Writing.{written, place_in, Writes, AreOfShape, IsWriterReason, RefusesAt}
use Rattle.bitcode_serde.specs.declared.writer.state.Writer.{Writer}
use Rattle.bitcode_serde.proofs.WholeLemmas.{root_there, only_value}
use Rattle.bitcode_serde.proofs.PlaceLemmas.{root_first}

-- the faults under a shape are those at its root
pub root_faults : (shape : Shape) (table : List ShapeNode) (root : ℕ) (n : ShapeNode) (v : Value) → table ≡ shape.table.items → root ≡ shape.root
    → n ≡ get_or table root n → value_faults shape v ≡ faults_of table v reference_limit n
root_faults shape table root n v t r is =
    ap (faults_of_variant (faults_of shape.table.items v) reference_limit) (root_there shape table root n t r is)
    ∙ ap (λ ns. faults_of ns v reference_limit n) (sym t)

pub whole_written : (s : ShapeTree) (d : Datum) (old new : Writer) → written old ≡ [] → Writes old (walk s (place_in old 0) d) new
    → texts_of (unplaced (written new)) ≡ datum_text s d
whole_written s d old new none w =
    ap (λ cs. texts_of (unplaced cs)) (w.columns ∙ ap (put_all (walk s (place_in old 0) d)) none ∙ ap (λ p. put_all (walk s p d) [])
    (root_first old.places.below.items) ∙ put_all-none (walk s [] d))

pub whole_refused : (s : ShapeTree) (old : Writer) (faults : List Reason) (why : Reason) → written old ≡ [] → RefusesAt old s 0 faults why
    → IsWriterReason why faults
whole_refused s old faults why none h =
    h s (subst (AreOfShape s) (sym none) tt) (λ q kind k. subst (λ p. HasKindFrom s p q kind) (root_first old.places.below.items) k)

pub read_back : (shape : Shape) (bytes : List ℕ) (v : Value) → bytes ≡ datum_text (tree_of shape) (datum_of v) → IsOf (tree_of shape) (datum_of v)
    → value_faults shape v ≡ []
    → IsLimited (tree_of shape) (datum_of v) → LengthsBelowLimit (tree_of shape) (datum_of v) → IsReadAs shape bytes v
read_back shape bytes v e of whole limited lengths =
    let spelled : SpellsDatum (tree_of shape) bytes (datum_of v) =
    subst (λ bs. SpellsDatum (tree_of shape) bs (datum_of v)) (sym e) (reads_back_datum (tree_of shape) (sound_shape shape) (datum_of v) of limited lengths) in
    record { spelled = spelled; only = only_value shape bytes v spelled whole }
