-- What holds of each leaf.
use Rattle.std.proofs.Common.{◌≡◌, ℕ, Bool, true, false, ◌&&◌, ◌==◌, Option, Some, None, inl, inr, refl, sym, ap, ◌∙◌}
use Rattle.std.proofs.lemmas.Bool.{cases_Bool, eqb-true}
use Rattle.std.specs.Float.{binary32, binary64}
use Rattle.bitcode_shapes.specs.Datum.{Datum}
use Rattle.bitcode_shapes.specs.Shape.{Allowed, any_number, scalar}
use Rattle.bitcode_coder.specs.Columns.{Kind, bools, ints, floats, texts}
use Rattle.bitcode_untyped.specs.Leaves.{Leaf, Entry, leaf_of_node, entry_of, same_sign, same_kind, same_allowed, is_of}
use Rattle.bitcode_untyped.specs.ShapeTree.{ShapeTree}
use Rattle.bitcode_untyped.specs.View.{datum_step, datum_of_entry, datum_of, tree_by, tree_step, tree_of_leaf}
use Rattle.bitcode_untyped.specs.declared.shape.ShapeNode.{ShapeNode, out-ShapeNode}
use Rattle.bitcode_untyped.specs.declared.shape.ShapeNode.TheOpen.{ShapeNode-F}
use Rattle.bitcode_untyped.specs.declared.shape.ShapeNode.TheViews.{roll-ShapeNode, out-roll-ShapeNode}
use Rattle.bitcode_untyped.specs.declared.shape.ShapeNode.TheFolds.{fold_out-ShapeNode, map-ShapeNode}
use Rattle.bitcode_untyped.specs.declared.value.Value.{Value, out-Value}
use Rattle.bitcode_untyped.specs.declared.value.Value.TheOpen.{Value-F}
use Rattle.bitcode_untyped.specs.declared.value.Value.TheViews.{roll-Value, out-roll-Value}
use Rattle.bitcode_untyped.specs.declared.value.Value.TheFolds.{fold_out-Value, map-Value}

-- ---- one leaf

and_first : (a b : Bool) → (a && b) ≡ true → a ≡ true
and_first true b h = refl
and_first false b h = h

and_second : (a b : Bool) → (a && b) ≡ true → b ≡ true
and_second true b h = h
and_second false b h = cc

sign_is : (a b : Bool) → same_sign a b ≡ true → a ≡ b
sign_is true true h = refl
sign_is false false h = refl
sign_is true false h = cc
sign_is false true h = cc

kind_is : (k l : Kind) → same_kind k l ≡ true → k ≡ l
kind_is bools bools h = refl
kind_is (ints width signed) (ints other sign) h =
    ap (λ w. ints w signed) (eqb-true width other (and_first (width == other) (same_sign signed sign) h))
    ∙ ap (ints other) (sign_is signed sign (and_second (width == other) (same_sign signed sign) h))
kind_is (floats binary32) (floats binary32) h = refl
kind_is (floats binary64) (floats binary64) h = refl
kind_is (floats binary32) (floats binary64) h = cc
kind_is (floats binary64) (floats binary32) h = cc
kind_is (texts None) (texts None) h = refl
kind_is (texts None) (texts (Some n)) h = cc
kind_is (texts (Some n)) _ h = cc
kind_is _ _ h = cc

allowed_is : (a b : Allowed) → same_allowed a b ≡ true → a ≡ b
allowed_is any_number any_number h = refl
allowed_is scalar scalar h = refl
allowed_is _ _ h = cc

pub is_leaf : (e : Entry) (leaf : Leaf) → is_of (Some e) (Some leaf) ≡ true → e.leaf ≡ leaf
is_leaf e leaf h =
    let kinds = kind_is e.leaf.kind leaf.kind (and_first _ (same_allowed e.leaf.allowed leaf.allowed) h) in
    let numbers = allowed_is e.leaf.allowed leaf.allowed (and_second (same_kind e.leaf.kind leaf.kind) _ h) in
    let with_kind : Kind → Leaf = λ k. record { kind = k; allowed = e.leaf.allowed } in
    let with_allowed : Allowed → Leaf = λ a. record { kind = leaf.kind; allowed = a } in
    ap with_kind kinds ∙ ap with_allowed numbers

-- what is no entry of the leaf
pub is_no_leaf : (o : Option Entry) (leaf : Leaf) → ((d : Datum) → o ≡ Some (record { leaf = leaf; datum = d }) → ⊥) → is_of o (Some leaf) ≡ false
is_no_leaf None leaf away = refl
is_no_leaf (Some e) leaf away =
    elim (cases_Bool (is_of (Some e) (Some leaf))) [
      | inl same ↦ absurd (away e.datum (ap (λ (l : Leaf). Some (record { leaf = l; datum = e.datum })) (is_leaf e leaf same)))
      | inr other ↦ other
    ]

-- ---- the datum of a value, and the tree of a node

pub entry_kept : {A B : Type 0} (f : A → B) (y : Value-F A) → entry_of (map-Value A B f y) ≡ entry_of y
entry_kept f (Value-F.Option None) = refl
entry_kept f (Value-F.Option (Some b)) = refl
entry_kept f _ = refl

pub datum_there : (y : Value-F Datum) (e : Entry) → entry_of y ≡ Some e → datum_step y ≡ e.datum
datum_there Value-F.Unit e h = cc
datum_there (Value-F.Bytes v) e h = cc
datum_there (Value-F.Option None) e h = cc
datum_there (Value-F.Option (Some b)) e h = cc
datum_there (Value-F.Seq v) e h = cc
datum_there (Value-F.Map v) e h = cc
datum_there (Value-F.Tuple v) e h = cc
datum_there (Value-F.Enum i b) e h = cc
datum_there _ e h = ap datum_of_entry h

pub leaf_datum : (v : Value) (e : Entry) → entry_of (out-Value v) ≡ Some e → datum_of v ≡ e.datum
leaf_datum v e h = fold_out-Value Datum datum_step v ∙ datum_there _ e (entry_kept datum_of (out-Value v) ∙ h)

tree_there : (follow : ℕ → ShapeTree) (x : ShapeNode-F ShapeTree) (leaf : Leaf) → leaf_of_node x ≡ Some leaf → tree_step follow x ≡ tree_of_leaf (Some leaf)
tree_there follow ShapeNode-F.Unit leaf h = cc
tree_there follow ShapeNode-F.Bytes leaf h = cc
tree_there follow (ShapeNode-F.Option b) leaf h = cc
tree_there follow (ShapeNode-F.Seq b) leaf h = cc
tree_there follow (ShapeNode-F.Map k v) leaf h = cc
tree_there follow (ShapeNode-F.Tuple v) leaf h = cc
tree_there follow (ShapeNode-F.Enum v) leaf h = cc
tree_there follow (ShapeNode-F.Ref i) leaf h = cc
tree_there follow _ leaf h = ap tree_of_leaf h

leaf_kept : {A B : Type 0} (f : A → B) (x : ShapeNode-F A) → leaf_of_node (map-ShapeNode A B f x) ≡ leaf_of_node x
leaf_kept f (ShapeNode-F.Seq b) = refl
leaf_kept f _ = refl

pub leaf_layer : {A : Type 0} (f : A → ShapeTree) (follow : ℕ → ShapeTree) (x : ShapeNode-F A) (leaf : Leaf) → leaf_of_node x ≡ Some leaf
    → tree_step follow (map-ShapeNode A ShapeTree f x) ≡ tree_of_leaf (Some leaf)
leaf_layer f follow x leaf h = tree_there follow _ leaf (leaf_kept f x ∙ h)

pub leaf_tree_by : (follow : ℕ → ShapeTree) (n : ShapeNode) (leaf : Leaf) → leaf_of_node (out-ShapeNode n) ≡ Some leaf → tree_by follow n ≡ tree_of_leaf (Some leaf)
leaf_tree_by follow n leaf h = fold_out-ShapeNode ShapeTree (tree_step follow) n ∙ leaf_layer (tree_by follow) follow (out-ShapeNode n) leaf h

-- ---- a variant of values or nodes, as the layer that it rolls up

pub rolled_entry : (x : Value-F Value) (v : Value) → roll-Value x ≡ v → entry_of (out-Value v) ≡ entry_of x
rolled_entry x v is = ap (λ w. entry_of (out-Value w)) (sym is) ∙ ap entry_of (out-roll-Value x)

pub rolled_node : (x : ShapeNode-F ShapeNode) (n : ShapeNode) → roll-ShapeNode x ≡ n → leaf_of_node (out-ShapeNode n) ≡ leaf_of_node x
rolled_node x n is = ap (λ m. leaf_of_node (out-ShapeNode m)) (sym is) ∙ ap leaf_of_node (out-roll-ShapeNode x)
