-- The tree of a node is that of what stands there once its references are followed.
use Rattle.std.proofs.Common.{◌≡◌, ℕ, zero, suc, List, [], ◌∷◌, slice_get, refl, ◌∙◌}
use Rattle.bitcode_untyped.specs.Faults.{Followed, stands, too_deep, nowhere, follow, follow_by, follow_entry}
use Rattle.bitcode_untyped.specs.ShapeTree.{ShapeTree, never_tree}
use Rattle.bitcode_untyped.specs.View.{tree_step, entry_tree, followed, tree_of_node}
use Rattle.bitcode_untyped.specs.declared.shape.ShapeNode.{ShapeNode, out-ShapeNode}
use Rattle.bitcode_untyped.specs.declared.shape.ShapeNode.TheOpen.{ShapeNode-F}
use Rattle.bitcode_untyped.specs.declared.shape.ShapeNode.TheFolds.{fold_out-ShapeNode, map-ShapeNode}
use Rattle.bitcode_untyped.proofs.FollowLemmas.{reference}
use Rattle.bitcode_untyped.proofs.FollowedLemmas.{followed-zero, followed-suc}

module _ (table : List ShapeNode) where
  -- the tree of one level
  abbrev pub layer_tree : ℕ → ShapeNode-F ShapeNode → ShapeTree
  layer_tree left x = tree_step (followed left table) (map-ShapeNode ShapeNode ShapeTree (tree_of_node left table) x)

  abbrev pub tree_there : Followed → ShapeTree
  tree_there (stands left x) = layer_tree left x
  tree_there too_deep = never_tree
  tree_there nowhere = never_tree

  layer_there : (left : ℕ) → ((i : ℕ) → followed left table i ≡ tree_there (reference table left i)) → (x : ShapeNode-F ShapeNode)
      → layer_tree left x ≡ tree_there (follow_by (reference table left) left x)
  layer_there left refer (ShapeNode-F.Ref i) = refer i
  layer_there left refer _ = refl

  entry_there_too : (left : ℕ) → ((n : ShapeNode) → tree_of_node left table n ≡ tree_there (follow left table n)) → (ns : List ShapeNode) (i : ℕ)
      → entry_tree (followed left table) ns i ≡ tree_there (follow_entry (follow left table) (slice_get ns i))
  entry_there_too left is [] i = refl
  entry_there_too left is (n ∷ ns) zero = is n
  entry_there_too left is (n ∷ ns) (suc i) = entry_there_too left is ns i

  pub tree_of_follow : (left : ℕ) (n : ShapeNode) → tree_of_node left table n ≡ tree_there (follow left table n)
  tree_of_follow zero n =
      fold_out-ShapeNode ShapeTree (tree_step (followed 0 table)) n ∙ layer_there 0 (λ i. followed-zero table i) (out-ShapeNode n)
  tree_of_follow (suc left) n =
      fold_out-ShapeNode ShapeTree (tree_step (followed (suc left) table)) n
      ∙ layer_there (suc left) (λ i. followed-suc left table i ∙ entry_there_too left (tree_of_follow left) table i) (out-ShapeNode n)
