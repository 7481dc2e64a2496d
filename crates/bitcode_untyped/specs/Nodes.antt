-- How many nodes a datum has: the units, numbers, texts, lists, tuples and choices in it, itself among them.
use Rattle.std.specs.Prelude.{ℕ, ◌+◌}
use Rattle.bitcode_shapes.specs.Datum.{Datum, Data, list, tuple, choice, no_data, datum_and}

abbrev mutual
  pub node_count : Datum → ℕ
  node_count (list ds) = 1 + node_counts ds
  node_count (tuple ds) = 1 + node_counts ds
  node_count (choice i d) = 1 + node_count d
  node_count _ = 1

  pub node_counts : Data → ℕ
  node_counts no_data = 0
  node_counts (datum_and d ds) = node_count d + node_counts ds
