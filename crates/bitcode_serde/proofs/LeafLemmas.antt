-- Reading a value of a node that holds no others.
use Rattle.std.proofs.Common.{◌≡◌, ◌≢◌, ℕ, true, Option, Some, None, List, [], ◌∷◌, refl, ap, sym, subst, ◌∙◌, arith}
use Rattle.std.specs.List.{AllByRecursion, flat_map}
use Rattle.std.specs.Prelude.{Result, IfOk, IfErr}
use Rattle.std.proofs.lemmas.Result.{IfOk-weaker, IfErr-weaker}
use Rattle.bitcode_memory.specs.declared.error.Error.{Error}
use Rattle.bitcode_shapes.specs.Datum.{Datum}
use Rattle.bitcode_coder.specs.Columns.{lengths}
use Rattle.bitcode_untyped.specs.Faults.{faults_of, faults_of_leaf}
use Rattle.bitcode_untyped.specs.Leaves.{Leaf, leaf_of, leaf_of_node, entry_of, is_of, leaf_number}
use Rattle.bitcode_untyped.specs.ShapeTree.{ShapeTree}
use Rattle.bitcode_untyped.specs.View.{datum_of, tree_by}
use Rattle.bitcode_untyped.specs.declared.shape.ShapeNode.{ShapeNode, out-ShapeNode}
use Rattle.bitcode_untyped.specs.declared.shape.ShapeNode.TheOpen.{ShapeNode-F}
use Rattle.bitcode_untyped.specs.declared.value.Value.{Value, out-Value}
use Rattle.bitcode_untyped.proofs.FaultLemmas.{faults-leaf}
use Rattle.bitcode_untyped.proofs.LeafLemmas.{is_no_leaf, leaf_tree_by}
use Rattle.bitcode_serde.specs.ReadColumns.{kind_of, kind_of_case, IsCaseOf}
use Rattle.bitcode_serde.specs.ReadingValues.{HasColumn, ReadsAt, IsRefusalAt, ReadsLeafAt, IsLeafRefusalAt}
use Rattle.bitcode_serde.specs.declared.column.ColumnKind.{ColumnKind}
use Rattle.bitcode_serde.specs.declared.column.ColumnKind.TheVariants as kind
use Rattle.bitcode_serde.specs.declared.reader.Reader.{Reader}
use Rattle.bitcode_serde.proofs.CaseLemmas.{nothing}

module _ (n : ShapeNode) (tree : ShapeTree) (is : (follow : ℕ → ShapeTree) → tree_by follow n ≡ tree) (r : Result Value Error) (place : ℕ) (old : Reader) where
  pub leaf_read_at : (new : Reader) → IfOk r (λ v. ReadsAt tree place old (datum_of v) new) → IfOk r (λ v. ReadsLeafAt n place old (datum_of v) new)
  leaf_read_at new h =
      IfOk-weaker r (λ v. ReadsAt tree place old (datum_of v) new) (λ v. ReadsLeafAt n place old (datum_of v) new)
      (λ v k follow. subst (λ t. ReadsAt t place old (datum_of v) new) (sym (is follow)) k) h

  pub leaf_refused_at : IfErr r (λ e. IsRefusalAt tree place old e.reason) → IfErr r (λ e. IsLeafRefusalAt n place old e.reason)
  leaf_refused_at h =
      IfErr-weaker r (λ e. IsRefusalAt tree place old e.reason) (λ e. IsLeafRefusalAt n place old e.reason)
      (λ e k follow. subst (λ t. IsRefusalAt t place old e.reason) (sym (is follow)) k) h

-- a leaf is itself
same_leaf : (k : ColumnKind) (d : Datum) → is_of (Some (record { leaf = leaf_of (kind_of_case k); datum = d })) (Some (leaf_of (kind_of_case k))) ≡ true
same_leaf kind.Lengths d = refl
same_leaf k d = refl

case_is_kind : (k : ColumnKind) → k ≢ kind.Lengths → kind_of_case k ≡ kind_of k
case_is_kind kind.Lengths values = absurd (values refl)
case_is_kind k values = refl

-- a node that is the leaf of a column
abbrev number_of : Option Leaf → ℕ
number_of (Some leaf) = leaf_number leaf
number_of None = 7

no_lengths : (x : ShapeNode-F ShapeNode) → leaf_of_node x ≡ Some (leaf_of (lengths None)) → ⊥
no_lengths ShapeNode-F.Unit h = let n = ap number_of h in omega (arith, n)
no_lengths _ h = let n = ap number_of h in omega (arith, n)

pub has_column : (n : ShapeNode) (k : ColumnKind) → leaf_of_node (out-ShapeNode n) ≡ Some (leaf_of (kind_of k)) → HasColumn n k
has_column n k there =
    let values : k ≢ kind.Lengths = λ is. no_lengths (out-ShapeNode n) (there ∙ ap (λ (l : ColumnKind). Some (leaf_of (kind_of l))) is) in
    let leaf = leaf_of (kind_of_case k) in
    let at : leaf_of_node (out-ShapeNode n) ≡ Some leaf = there ∙ ap (λ kind. Some (leaf_of kind)) (sym (case_is_kind k values)) in record {
      tree = λ follow. leaf_tree_by follow n (leaf_of (kind_of k)) there;
      values = values;
      whole = λ v is table left. faults-leaf table v left n leaf at ∙ ap (λ o. faults_of_leaf (is_of o (Some leaf))) is.1 ∙ ap faults_of_leaf (same_leaf k is.0);
      other =
          λ v away table left. faults-leaf table v left n leaf at
          ∙ ap faults_of_leaf (is_no_leaf (entry_of (out-Value v)) leaf (λ d is. away (d, is)));
    }

-- values of a node whose values are the entries of a column are without fault
pub leaves_whole : (n : ShapeNode) (kind : ColumnKind) (table : List ShapeNode) (left : ℕ) → HasColumn n kind → (vs : List Value) → AllByRecursion (IsCaseOf kind) vs
    → flat_map (λ v. faults_of table v left n) vs ≡ []
leaves_whole n kind table left has [] h = refl
leaves_whole n kind table left has (v ∷ vs) h =
    nothing (faults_of table v left n) (flat_map (λ v. faults_of table v left n) vs) (has.whole v h.0 table left) (leaves_whole n kind table left has vs h.1)
