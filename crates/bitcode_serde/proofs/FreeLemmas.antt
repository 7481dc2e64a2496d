-- Data without a column.
use Rattle.std.proofs.Common.{◌≡◌, ℕ, ◌+◌, ◌&&◌, true, List, [], ◌∷◌, map, refl, ap, sym, subst, ◌∙◌}
use Rattle.std.specs.List.{list_all}
use Rattle.std.proofs.lemmas.Bool.{and_parts}
use Rattle.bitcode_untyped.specs.Bounds.{column_free, all_free}
use Rattle.bitcode_shapes.specs.Datum.{Datum, Data, first_of, rest_of, fields_in}
use Rattle.bitcode_untyped.specs.Machine.{State, Takes}
use Rattle.bitcode_untyped.specs.Reads.{ReadsDatum}
use Rattle.bitcode_untyped.specs.Runs.{Runs}
use Rattle.bitcode_untyped.specs.ShapeTree.{ShapeTree, ShapeTrees, unit_tree, never_tree, leaf_tree, seq_tree, map_tree, tuple_tree, choice_tree, noted_tree, no_trees, tree_and}
use Rattle.bitcode_untyped.specs.Walk.{Place, field_place, walk, walk_fields}
use Rattle.bitcode_untyped.specs.View.{tree_by, trees_of}
use Rattle.bitcode_untyped.specs.declared.shape.ShapeNode.{ShapeNode}

-- ---- several nodes have no column exactly where none of them has one

pub all_free-trees_of : (follow : ℕ → ShapeTree) (ns : List ShapeNode)
    → all_free (trees_of (map (tree_by follow) ns)) ≡ list_all (λ n. column_free (tree_by follow n)) ns
all_free-trees_of follow [] = refl
all_free-trees_of follow (n ∷ ns) = ap (λ b. column_free (tree_by follow n) && b) (all_free-trees_of follow ns)

-- ---- they stand anywhere

mutual
  no_walk : (s : ShapeTree) (p : Place) (d : Datum) → column_free s ≡ true → walk s p d ≡ []
  no_walk unit_tree p d h = refl
  no_walk never_tree p d h = cc
  no_walk (leaf_tree kind allowed) p d h = cc
  no_walk (seq_tree s) p d h = cc
  no_walk (map_tree k v) p d h = cc
  no_walk (choice_tree ss) p d h = cc
  no_walk (tuple_tree ss) p d h = no_walks ss (field_place ss p) 0 (fields_in d) h
  no_walk (noted_tree note s) p d h = no_walk s p d h

  no_walks : (ss : ShapeTrees) (at : ℕ → Place) (i : ℕ) (ds : Data) → all_free ss ≡ true → walk_fields ss at i ds ≡ []
  no_walks no_trees at i ds h = refl
  no_walks (tree_and s ss) at i ds h =
      let k = and_parts (column_free s) (all_free ss) h in
      rw (no_walk s (at i) (first_of ds) k.0) (no_walks ss at (i + 1) (rest_of ds) k.1)

pub free_elsewhere : (s : ShapeTree) (p q : Place) (a : State) (d : Datum) (b : State) → column_free s ≡ true → ReadsDatum s p a d b → ReadsDatum s q a d b
free_elsewhere s p q a d b free r = record {
  is = r.is;
  runs = subst (λ uses. Runs Takes a uses b) (no_walk s p d free ∙ sym (no_walk s q d free)) r.runs;
}
