-- Which columns the data of a shape have.
use Rattle.std.specs.Prelude.{◌≡◌, ℕ, zero, suc, ◌⊎◌, ◌∷◌}
use Rattle.bitcode_coder.specs.Columns.{Kind}
use Rattle.bitcode_untyped.specs.ShapeTree.{ShapeTree, unit_tree, never_tree, leaf_tree, seq_tree, map_tree, tuple_tree, choice_tree, noted_tree, ShapeTrees, no_trees, tree_and}
use Rattle.bitcode_untyped.specs.Walk.{element, key, value, variant, Place, length_kind, index_kind, field_place}

-- The shape, standing at p, has a column of kind k at q.
abbrev mutual
  pub HasKindFrom : ShapeTree → Place → Place → Kind → Type 0
  HasKindFrom unit_tree p q k = ⊥
  HasKindFrom never_tree p q k = ⊥
  HasKindFrom (leaf_tree l allowed) p q k = (q ≡ p) × (k ≡ l)
  HasKindFrom (seq_tree s) p q k = ((q ≡ p) × (k ≡ length_kind)) ⊎ HasKindFrom s (element ∷ p) q k
  HasKindFrom (map_tree s v) p q k = ((q ≡ p) × (k ≡ length_kind)) ⊎ (HasKindFrom s (key ∷ p) q k ⊎ HasKindFrom v (value ∷ p) q k)
  HasKindFrom (tuple_tree ss) p q k = (j : ℕ) × HasKindAt ss j (field_place ss p j) q k
  HasKindFrom (choice_tree ss) p q k = ((q ≡ p) × (k ≡ index_kind)) ⊎ ((j : ℕ) × HasKindAt ss j (variant j ∷ p) q k)
  HasKindFrom (noted_tree note s) p q k = HasKindFrom s p q k

  pub HasKindAt : ShapeTrees → ℕ → Place → Place → Kind → Type 0
  HasKindAt no_trees j p q k = ⊥
  HasKindAt (tree_and s ss) zero p q k = HasKindFrom s p q k
  HasKindAt (tree_and s ss) (suc j) p q k = HasKindAt ss j p q k
