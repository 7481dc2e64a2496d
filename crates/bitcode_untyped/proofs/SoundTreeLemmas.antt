-- The tree of every shape is sound: its kinds are of columns that there are.
use Rattle.std.proofs.Common.{◌≡◌, ℕ, zero, suc, Bool, true, false, ◌||◌, ◌==◌, Option, Some, None, List, [], ◌∷◌, map, refl, sym, ◌∙◌, ap, subst, inl, inr}
use Rattle.std.proofs.lemmas.Bool.{eqb-true}
use Rattle.std.proofs.lemmas.Bool.Decides.{eqb_tells}
use Rattle.bitcode_shapes.specs.Shape.{IsNumberWidth}
use Rattle.bitcode_coder.specs.Columns.{Kind, bools, ints, floats, texts, IsSoundKind}
use Rattle.bitcode_untyped.specs.Leaves.{Leaf, leaf_of_node}
use Rattle.bitcode_untyped.specs.ShapeTree.{ShapeTree, IsSound, AreSound}
use Rattle.bitcode_untyped.specs.View.{tree_by, tree_step, tree_of_leaf, trees_of, entry_tree, followed, tree_of_node, tree_of}
use Rattle.bitcode_untyped.specs.declared.shape.Shape.{Shape}
use Rattle.bitcode_untyped.specs.declared.shape.ShapeNode.{ShapeNode}
use Rattle.bitcode_untyped.specs.declared.shape.ShapeNode.TheOpen.{ShapeNode-F}
use Rattle.bitcode_untyped.specs.declared.shape.ShapeNode.TheFolds.{fold-roll-ShapeNode, ind-ShapeNode, map-ShapeNode}

abbrev pub is_width : ℕ → Bool
is_width w = w == 1 || w == 2 || w == 4 || w == 8 || w == 16

width_is : (w : ℕ) → is_width w ≡ true → IsNumberWidth w
width_is w h =
    elim (eqb_tells w 1) [
      | inl one ↦ inl one.1
      | inr n1 ↦ elim (eqb_tells w 2) [
        | inl two ↦ inr (inl two.1)
        | inr n2 ↦ elim (eqb_tells w 4) [
          | inl four ↦ inr (inr (inl four.1))
          | inr n4 ↦ elim (eqb_tells w 8) [
            | inl eight ↦ inr (inr (inr (inl eight.1)))
            | inr n8 ↦ inr (inr (inr (inr (eqb-true w 16 (rw (n1.0, n2.0, n4.0, n8.0) at h)))))
          ]
        ]
      ]
    ]

-- whether a leaf has such a column, of a width that there is
abbrev pub is_kind : Kind → Bool
is_kind bools = true
is_kind (ints width signed) = is_width width
is_kind (floats format) = true
is_kind (texts limit) = true
is_kind _ = false

pub kind_sound : (kind : Kind) → is_kind kind ≡ true → IsSoundKind kind
kind_sound bools h = tt
kind_sound (ints width signed) h = width_is width h
kind_sound (floats format) h = tt
kind_sound (texts limit) h = tt
kind_sound _ h = cc

abbrev is_sound : Option Leaf → Bool
is_sound (Some leaf) = is_kind leaf.kind
is_sound None = true

leaf_sound : (l : Option Leaf) → is_sound l ≡ true → IsSound (tree_of_leaf l)
leaf_sound (Some leaf) h = kind_sound leaf.kind h
leaf_sound None h = tt

module _ (follow : ℕ → ShapeTree) (below : (i : ℕ) → IsSound (follow i)) where
  abbrev Good : ShapeNode → Type 0
  Good n = IsSound (tree_by follow n)

  abbrev Known : Type 0
  Known = (n : ShapeNode) × Good n

  abbrev node_of : Known → ShapeNode
  node_of e = e.0

  all_sound : (ns : List Known) → AreSound (trees_of (map (tree_by follow) (map node_of ns)))
  all_sound [] = tt
  all_sound (n ∷ ns) = (n.1, all_sound ns)

  sound_layer : (y : ShapeNode-F Known)
      → IsSound (tree_step follow (map-ShapeNode ShapeNode ShapeTree (tree_by follow) (map-ShapeNode Known ShapeNode node_of y)))
  sound_layer ShapeNode-F.Unit = tt
  sound_layer ShapeNode-F.Bytes = inl refl
  sound_layer (ShapeNode-F.Option b) = (tt, (b.value.1, tt))
  sound_layer (ShapeNode-F.Seq b) = b.value.1
  sound_layer (ShapeNode-F.Map k v) = (k.value.1, v.value.1)
  sound_layer (ShapeNode-F.Tuple v) = all_sound v.items
  sound_layer (ShapeNode-F.Enum v) = all_sound v.items
  sound_layer (ShapeNode-F.Ref i) = below i
  sound_layer y = leaf_sound (leaf_of_node y) refl

  pub sound_node : (n : ShapeNode) → IsSound (tree_by follow n)
  sound_node = ind-ShapeNode Good (λ x y is.
      let e = fold-roll-ShapeNode ShapeTree (tree_step follow) x in
      subst IsSound (ap (λ z. tree_step follow (map-ShapeNode ShapeNode ShapeTree (tree_by follow) z)) is ∙ sym e) (sound_layer y))

  pub sound_entry : (table : List ShapeNode) (i : ℕ) → IsSound (entry_tree follow table i)
  sound_entry [] i = tt
  sound_entry (n ∷ ns) zero = sound_node n
  sound_entry (n ∷ ns) (suc i) = sound_entry ns i

pub sound_followed : (left : ℕ) (table : List ShapeNode) (i : ℕ) → IsSound (followed left table i)
unfolding followed
sound_followed zero table i = tt
sound_followed (suc left) table i = sound_entry (followed left table) (sound_followed left table) table i

pub sound_tree_of_node : (left : ℕ) (table : List ShapeNode) (n : ShapeNode) → IsSound (tree_of_node left table n)
sound_tree_of_node left table n = sound_node (followed left table) (sound_followed left table) n

pub sound_shape : (shape : Shape) → IsSound (tree_of shape)
sound_shape shape = sound_followed _ shape.table.items shape.root
