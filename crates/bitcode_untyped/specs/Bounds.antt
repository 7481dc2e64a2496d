-- How much a datum may hold, for its columns.
use Rattle.std.specs.Prelude.{◌≡◌, ℕ, zero, suc, ◌+◌, ◌≤◌, true, length}
use Rattle.std.specs.List.{AllByRecursion}
use Rattle.bitcode_shapes.specs.Datum.{Datum, Data, list, tuple, choice, no_data, datum_and, list_of, first_of, rest_of, elements_in, fields_in, first_in, second_in, variant_in, payload_in}
pub use Rattle.bitcode_untyped.specs.ShapeTree.{column_free, all_free}
use Rattle.bitcode_untyped.specs.ShapeTree.{ShapeTree, ShapeTrees, unit_tree, never_tree, leaf_tree, seq_tree, map_tree, tuple_tree, choice_tree, noted_tree, no_trees, tree_and}

-- the elements and pairs of all lists and maps in it
abbrev mutual
  pub element_count : Datum → ℕ
  element_count (list ds) = length (list_of ds) + element_counts ds
  element_count (tuple ds) = element_counts ds
  element_count (choice i d) = element_count d
  element_count _ = 0

  pub element_counts : Data → ℕ
  element_counts no_data = 0
  element_counts (datum_and d ds) = element_count d + element_counts ds

-- how many elements or keys without a column are read, in one list or map
abbrev pub free_limit : ℕ
free_limit = 65536

abbrev pub WithinFreeLimit : ShapeTree → Datum → Type 0
WithinFreeLimit s d = column_free s ≡ true → length (elements_in d) ≤ free_limit

-- Each list of elements without a column, and each map of keys without one, is within the limit.
abbrev mutual
  pub IsLimited : ShapeTree → Datum → Type 0
  IsLimited unit_tree d = Unit {0}
  IsLimited never_tree d = Unit {0}
  IsLimited (leaf_tree kind allowed) d = Unit {0}
  IsLimited (seq_tree s) d = WithinFreeLimit s d × AllByRecursion (IsLimited s) (elements_in d)
  IsLimited (map_tree k v) d =
      WithinFreeLimit k d × AllByRecursion (λ e. IsLimited k (first_in e) × IsLimited v (second_in e)) (elements_in d)
  IsLimited (tuple_tree ss) d = AreLimited ss (fields_in d)
  IsLimited (choice_tree ss) d = IsLimitedVariant ss (variant_in d) (payload_in d)
  IsLimited (noted_tree note s) d = IsLimited s d

  pub AreLimited : ShapeTrees → Data → Type 0
  AreLimited no_trees ds = Unit {0}
  AreLimited (tree_and s ss) ds = IsLimited s (first_of ds) × AreLimited ss (rest_of ds)

  pub IsLimitedVariant : ShapeTrees → ℕ → Datum → Type 0
  IsLimitedVariant no_trees i d = Unit {0}
  IsLimitedVariant (tree_and s ss) zero d = IsLimited s d
  IsLimitedVariant (tree_and s ss) (suc i) d = IsLimitedVariant ss i d
