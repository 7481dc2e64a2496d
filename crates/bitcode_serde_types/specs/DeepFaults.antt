-- The one fault that a value of a Rust type may have: it nests too deep.
use Rattle.std.specs.Prelude.{ℕ, zero, suc, List, [], ◌∷◌, ◌++◌}
use Rattle.std.specs.List.{flat_map}
use Rattle.bitcode_memory.specs.declared.error.Reason.{Reason}
use Rattle.bitcode_memory.specs.declared.error.Reason.TheVariants.{NestedTooDeep}
use Rattle.bitcode_shapes.specs.Datum.{Datum, Data, first_of, rest_of, fields_in, elements_in, first_in, second_in, variant_in, payload_in}
use Rattle.bitcode_untyped.specs.ShapeTree.{ShapeTree, ShapeTrees, unit_tree, never_tree, leaf_tree, seq_tree, map_tree, tuple_tree, choice_tree, noted_tree, no_trees, tree_and}

-- the faults of a datum: one for each reference too many, which leads to a tree that nothing is of
abbrev mutual
  pub deep_faults : ShapeTree → Datum → List Reason
  deep_faults unit_tree d = []
  deep_faults never_tree d = NestedTooDeep ∷ []
  deep_faults (leaf_tree kind allowed) d = []
  deep_faults (seq_tree s) d = flat_map (deep_faults s) (elements_in d)
  deep_faults (map_tree k v) d = flat_map (λ e. deep_faults k (first_in e) ++ deep_faults v (second_in e)) (elements_in d)
  deep_faults (tuple_tree ss) d = deep_faults_of_fields ss (fields_in d)
  deep_faults (choice_tree ss) d = deep_faults_of_variant ss (variant_in d) (payload_in d)
  deep_faults (noted_tree note s) d = deep_faults s d

  -- those of the fields of a tuple
  pub deep_faults_of_fields : ShapeTrees → Data → List Reason
  deep_faults_of_fields no_trees ds = []
  deep_faults_of_fields (tree_and s ss) ds = deep_faults s (first_of ds) ++ deep_faults_of_fields ss (rest_of ds)

  -- those of the payload of variant i
  pub deep_faults_of_variant : ShapeTrees → ℕ → Datum → List Reason
  deep_faults_of_variant no_trees i d = []
  deep_faults_of_variant (tree_and s ss) zero d = deep_faults s d
  deep_faults_of_variant (tree_and s ss) (suc i) d = deep_faults_of_variant ss i d
