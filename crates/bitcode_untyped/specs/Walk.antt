-- The walk of a datum under a shape: which entry is met at which place, in order. A length or an index comes before
-- what lies in it, a key before its value, and parts go from left to right.
use Rattle.std.specs.Prelude.{ℕ, zero, suc, ◌+◌, None, false, List, [], ◌∷◌, ◌++◌}
use Rattle.std.specs.List.{flat_map}
use Rattle.bitcode_shapes.specs.Datum.{Datum, Data, first_of, rest_of, fields_in, elements_in, first_in, second_in, variant_in, payload_in}
use Rattle.bitcode_coder.specs.Columns.{Kind, ints, lengths}
use Rattle.bitcode_coder.specs.Transposition.{length_entry, variant_entry}
use Rattle.bitcode_untyped.specs.ShapeTree.{ShapeTree, ShapeTrees, unit_tree, never_tree, leaf_tree, seq_tree, map_tree, tuple_tree, choice_tree, noted_tree, no_trees, tree_and}

-- from a value to a part of it
pub data Step : Type 0 where
  element : Step
  key : Step
  value : Step
  variant : ℕ → Step
  field : ℕ → Step

-- A place is the way to it from the root, its last step first.
abbrev pub Place : Type 0
Place = List Step

-- an entry of the column of a place
pub record Use : Type 0 where
  pub place : Place
  pub kind : Kind
  pub entry : Datum

abbrev pub use_at : Place → Kind → Datum → Use
use_at p kind entry = record { place = p; kind = kind; entry = entry }

-- the columns of lists and of choices
abbrev pub length_kind : Kind
length_kind = lengths None

abbrev pub index_kind : Kind
index_kind = ints 1 false

-- The field of a tuple of one stands at the tuple's own place.
abbrev pub field_place : ShapeTrees → Place → ℕ → Place
field_place (tree_and s no_trees) p i = p
field_place ss p i = field i ∷ p

abbrev mutual
  pub walk : ShapeTree → Place → Datum → List Use
  walk unit_tree p d = []
  walk never_tree p d = []
  walk (leaf_tree kind allowed) p d = use_at p kind d ∷ []
  walk (seq_tree s) p d = use_at p length_kind (length_entry d) ∷ flat_map (walk s (element ∷ p)) (elements_in d)
  walk (map_tree k v) p d =
      use_at p length_kind (length_entry d) ∷ flat_map (λ e. walk k (key ∷ p) (first_in e) ++ walk v (value ∷ p) (second_in e)) (elements_in d)
  walk (tuple_tree ss) p d = walk_fields ss (field_place ss p) 0 (fields_in d)
  walk (choice_tree ss) p d = use_at p index_kind (variant_entry d) ∷ walk_variant ss (variant_in d) (variant (variant_in d) ∷ p) (payload_in d)
  walk (noted_tree note s) p d = walk s p d

  -- fields from the i-th on
  pub walk_fields : ShapeTrees → (ℕ → Place) → ℕ → Data → List Use
  walk_fields no_trees at i ds = []
  walk_fields (tree_and s ss) at i ds = walk s (at i) (first_of ds) ++ walk_fields ss at (i + 1) (rest_of ds)

  -- the payload of variant i
  pub walk_variant : ShapeTrees → ℕ → Place → Datum → List Use
  walk_variant no_trees i p d = []
  walk_variant (tree_and s ss) zero p d = walk s p d
  walk_variant (tree_and s ss) (suc i) p d = walk_variant ss i p d
