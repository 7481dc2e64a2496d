-- Data without a column, of a sound shape, are read from nothing.
use Rattle.std.proofs.Common.{◌≡◌, ℕ, ◌+◌, true, false}
use Rattle.std.proofs.lemmas.Bool.{and_parts}
use Rattle.bitcode_shapes.specs.Datum.{Datum, Data, unit, tuple, no_data, datum_and}
use Rattle.bitcode_untyped.specs.Bounds.{column_free, all_free}
use Rattle.bitcode_untyped.specs.Machine.{State}
use Rattle.bitcode_untyped.specs.Reads.{ReadsDatum, ReadsFields}
use Rattle.bitcode_untyped.specs.ShapeTree.{ShapeTree, unit_tree, never_tree, leaf_tree, seq_tree, map_tree, tuple_tree, choice_tree, noted_tree, ShapeTrees, no_trees, tree_and, IsSound, AreSound}
use Rattle.bitcode_untyped.specs.Walk.{Place, field_place}
use Rattle.bitcode_untyped.proofs.ReadLemmas.{unit_read, tuple_read, fields_none, fields_and}

-- the one datum of a shape without a column
abbrev mutual
  pub free_datum : ShapeTree → Datum
  free_datum (tuple_tree ss) = tuple (free_data ss)
  free_datum (noted_tree note s) = free_datum s
  free_datum _ = unit

  pub free_data : ShapeTrees → Data
  free_data no_trees = no_data
  free_data (tree_and s ss) = datum_and (free_datum s) (free_data ss)

mutual
  pub free_read : (s : ShapeTree) (p : Place) (a : State) → IsSound s → column_free s ≡ true → ReadsDatum s p a (free_datum s) a
  free_read unit_tree p a sound h = unit_read p a
  free_read never_tree p a sound h = cc
  free_read (leaf_tree kind allowed) p a sound h = cc
  free_read (seq_tree s) p a sound h = cc
  free_read (map_tree k v) p a sound h = cc
  free_read (choice_tree ss) p a sound h = cc
  free_read (tuple_tree ss) p a sound h = tuple_read ss p a (free_data ss) a (free_fields_read ss (field_place ss p) 0 a sound h)
  free_read (noted_tree note s) p a sound h = let e : column_free s ≡ false = sound.1 in cc

  pub free_fields_read : (ss : ShapeTrees) (at : ℕ → Place) (i : ℕ) (a : State) → AreSound ss → all_free ss ≡ true → ReadsFields ss at i a (free_data ss) a
  free_fields_read no_trees at i a sound h = fields_none at i a
  free_fields_read (tree_and s ss) at i a sound h =
      let k = and_parts (column_free s) (all_free ss) h in
      fields_and at s ss i a a a (free_datum s) (free_data ss) (free_read s (at i) a sound.0 k.0) (free_fields_read ss at (i + 1) a sound.1 k.1)
