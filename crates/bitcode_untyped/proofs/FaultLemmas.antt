-- The faults of a value at a node, by the variant of both.
use Rattle.std.proofs.Common.{◌≡◌, ℕ, suc, List, [], ◌∷◌, ◌++◌, map, Some, None, Vec, Box, Global, slice_get, sym, ◌∙◌, ap, nat_lt, if◌then◌else◌}
use Rattle.std.specs.List.{flat_map}
use Rattle.std.proofs.lemmas.List.Folds.{flat_map-map}
use Rattle.bitcode_memory.specs.declared.error.Reason.TheVariants.{TooManyVariants, NotOfTheShape, NestedTooDeep}
use Rattle.bitcode_untyped.specs.Faults.{follow, follow_entry, Judge, faults_of_fields, faults_of_variant, faults_of_leaf, faults_by, faults_of, faults_step, faults_at}
use Rattle.bitcode_untyped.specs.Leaves.{Leaf, leaf_of_node, entry_of, is_of}
use Rattle.bitcode_untyped.specs.declared.shape.ShapeNode.{ShapeNode, out-ShapeNode}
use Rattle.bitcode_untyped.specs.declared.shape.ShapeNode.TheOpen.{ShapeNode-F}
use Rattle.bitcode_untyped.specs.declared.shape.ShapeNode.TheVariants as node
use Rattle.bitcode_untyped.specs.declared.value.Value.{Value, out-Value}
use Rattle.bitcode_untyped.specs.declared.value.Value.TheOpen.{Value-F}
use Rattle.bitcode_untyped.specs.declared.value.Value.TheFolds.{fold-roll-Value, fold_out-Value, map-Value}
use Rattle.bitcode_untyped.specs.declared.value.Value.TheVariants as value
use Rattle.bitcode_untyped.proofs.LeafLemmas.{entry_kept}
use Rattle.bitcode_untyped.proofs.FollowLemmas.{follow-leaf, follow-Unit, follow-Bytes, follow-Option, follow-Seq, follow-Map, follow-Tuple, follow-Enum, follow-Ref}

module _ (table : List ShapeNode) where
  -- what a value says of itself, whatever it is
  abbrev pub judged : Value → Value-F Judge
  judged v = map-Value Value Judge (faults_of table) (out-Value v)

  pub faults_at-follow : (v : Value) (left : ℕ) (n : ShapeNode) → faults_of table v left n ≡ faults_at (judged v) (follow left table n)
  faults_at-follow v left n = ap (λ (f : Judge). f left n) (fold_out-Value Judge (faults_step table) v)

  -- ---- references

  pub faults-deepest : (v : Value) (i : ℕ) → faults_of table v 0 (node.Ref i) ≡ NestedTooDeep ∷ []
  faults-deepest v i = faults_at-follow v 0 (node.Ref i) ∙ ap (faults_at (judged v)) (follow-Ref table 0 i)

  pub faults-Ref : (v : Value) (left i : ℕ) (n : ShapeNode) → slice_get table i ≡ Some n → faults_of table v (suc left) (node.Ref i) ≡ faults_of table v left n
  faults-Ref v left i n there =
      faults_at-follow v (suc left) (node.Ref i)
      ∙ ap (faults_at (judged v)) (follow-Ref table (suc left) i ∙ ap (follow_entry (follow left table)) there)
      ∙ sym (faults_at-follow v left n)

  pub faults-away : (v : Value) (left i : ℕ) → slice_get table i ≡ None → faults_of table v (suc left) (node.Ref i) ≡ NotOfTheShape ∷ []
  faults-away v left i away =
      faults_at-follow v (suc left) (node.Ref i)
      ∙ ap (faults_at (judged v)) (follow-Ref table (suc left) i ∙ ap (follow_entry (follow left table)) away)

  -- ---- leaves

  faults_there : (y : Value-F Judge) (left : ℕ) (x : ShapeNode-F ShapeNode) (leaf : Leaf) → leaf_of_node x ≡ Some leaf
      → faults_by y left x ≡ faults_of_leaf (is_of (entry_of y) (Some leaf))
  faults_there y left ShapeNode-F.Unit leaf h = cc
  faults_there y left ShapeNode-F.Bytes leaf h = cc
  faults_there y left (ShapeNode-F.Option b) leaf h = cc
  faults_there y left (ShapeNode-F.Seq b) leaf h = cc
  faults_there y left (ShapeNode-F.Map k v) leaf h = cc
  faults_there y left (ShapeNode-F.Tuple v) leaf h = cc
  faults_there y left (ShapeNode-F.Enum v) leaf h = cc
  faults_there y left (ShapeNode-F.Ref i) leaf h = cc
  faults_there (Value-F.Option None) left x leaf h = ap (λ o. faults_of_leaf (is_of None o)) h
  faults_there (Value-F.Option (Some w)) left x leaf h = ap (λ o. faults_of_leaf (is_of None o)) h
  faults_there y left x leaf h = ap (λ o. faults_of_leaf (is_of (entry_of y) o)) h

  pub faults-leaf : (v : Value) (left : ℕ) (n : ShapeNode) (leaf : Leaf) → leaf_of_node (out-ShapeNode n) ≡ Some leaf
      → faults_of table v left n ≡ faults_of_leaf (is_of (entry_of (out-Value v)) (Some leaf))
  faults-leaf v left n leaf h =
      faults_at-follow v left n ∙ ap (faults_at (judged v)) (follow-leaf table left n leaf h) ∙ faults_there (judged v) left (out-ShapeNode n) leaf h
      ∙ ap (λ o. faults_of_leaf (is_of o (Some leaf))) (entry_kept (faults_of table) (out-Value v))

  -- ---- the same cases

  pub faults-Unit : (left : ℕ) → faults_of table value.Unit left node.Unit ≡ []
  faults-Unit left =
      ap (λ v. faults_of table v left node.Unit) (sym value.rolls-Unit)
      ∙ ap (λ (f : Judge). f left node.Unit) (fold-roll-Value Judge (faults_step table) Value-F.Unit)
      ∙ ap (faults_at (map-Value Value Judge (faults_of table) Value-F.Unit)) (follow-Unit table left)

  pub faults-Bytes : (left : ℕ) (v : Vec ℕ Global) → faults_of table (value.Bytes v) left node.Bytes ≡ []
  faults-Bytes left v =
      ap (λ v. faults_of table v left node.Bytes) (sym (value.rolls-Bytes v))
      ∙ ap (λ (f : Judge). f left node.Bytes) (fold-roll-Value Judge (faults_step table) (Value-F.Bytes v))
      ∙ ap (faults_at (map-Value Value Judge (faults_of table) (Value-F.Bytes v))) (follow-Bytes table left)

  pub faults-None : (left : ℕ) (b : Box ShapeNode Global) → faults_of table (value.Option None) left (node.Option b) ≡ []
  faults-None left b =
      ap (λ v. faults_of table v left (node.Option b)) (sym (value.rolls-Option None))
      ∙ ap (λ (f : Judge). f left (node.Option b)) (fold-roll-Value Judge (faults_step table) (Value-F.Option None))
      ∙ ap (faults_at (map-Value Value Judge (faults_of table) (Value-F.Option None))) (follow-Option table left b)

  pub faults-Some : (left : ℕ) (w : Box Value Global) (b : Box ShapeNode Global)
      → faults_of table (value.Option (Some w)) left (node.Option b) ≡ faults_of table w.value left b.value
  faults-Some left w b =
      ap (λ v. faults_of table v left (node.Option b)) (sym (value.rolls-Option (Some w)))
      ∙ ap (λ (f : Judge). f left (node.Option b)) (fold-roll-Value Judge (faults_step table) (Value-F.Option (Some w)))
      ∙ ap (faults_at (map-Value Value Judge (faults_of table) (Value-F.Option (Some w)))) (follow-Option table left b)

  pub faults-Seq : (left : ℕ) (v : Vec Value Global) (b : Box ShapeNode Global)
      → faults_of table (value.Seq v) left (node.Seq b) ≡ flat_map (λ w. faults_of table w left b.value) v.items
  faults-Seq left v b =
      ap (λ v. faults_of table v left (node.Seq b)) (sym (value.rolls-Seq v))
      ∙ ap (λ (f : Judge). f left (node.Seq b)) (fold-roll-Value Judge (faults_step table) (Value-F.Seq v))
      ∙ ap (faults_at (map-Value Value Judge (faults_of table) (Value-F.Seq v))) (follow-Seq table left b)
      ∙ flat_map-map (λ (f : Judge). f left b.value) (faults_of table) v.items

  pub faults-Tuple : (left : ℕ) (v : Vec Value Global) (ns : Vec ShapeNode Global)
      → faults_of table (value.Tuple v) left (node.Tuple ns) ≡ faults_of_fields (map (faults_of table) v.items) left ns.items
  faults-Tuple left v ns =
      ap (λ v. faults_of table v left (node.Tuple ns)) (sym (value.rolls-Tuple v))
      ∙ ap (λ (f : Judge). f left (node.Tuple ns)) (fold-roll-Value Judge (faults_step table) (Value-F.Tuple v))
      ∙ ap (faults_at (map-Value Value Judge (faults_of table) (Value-F.Tuple v))) (follow-Tuple table left ns)

  pub faults-Enum : (left : ℕ) (i : ℕ) (w : Box Value Global) (ns : Vec ShapeNode Global)
      → faults_of table (value.Enum i w) left (node.Enum ns) ≡ (if nat_lt 255 i then TooManyVariants ∷ [] else faults_of_variant (faults_of table w.value) left (slice_get ns.items i))
  faults-Enum left i w ns =
      ap (λ v. faults_of table v left (node.Enum ns)) (sym (value.rolls-Enum i w))
      ∙ ap (λ (f : Judge). f left (node.Enum ns)) (fold-roll-Value Judge (faults_step table) (Value-F.Enum i w))
      ∙ ap (faults_at (map-Value Value Judge (faults_of table) (Value-F.Enum i w))) (follow-Enum table left ns)

  pub faults-Map : (left : ℕ) (v : Vec (Value × Value) Global) (k : Box ShapeNode Global) (s : Box ShapeNode Global)
      → faults_of table (value.Map v) left (node.Map k s) ≡ flat_map (λ e. faults_of table e.0 left k.value ++ faults_of table e.1 left s.value) v.items
  faults-Map left v k s =
      ap (λ v. faults_of table v left (node.Map k s)) (sym (value.rolls-Map v))
      ∙ ap (λ (f : Judge). f left (node.Map k s)) (fold-roll-Value Judge (faults_step table) (Value-F.Map v))
      ∙ ap (faults_at (map-Value Value Judge (faults_of table) (Value-F.Map v))) (follow-Map table left k s)
      ∙ flat_map-map _ _ v.items
