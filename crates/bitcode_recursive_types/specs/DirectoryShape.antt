-- The shapes of `Directory`, `Entry`, and the content of their values. Written by `scripts/second_format`.
use Rattle.std.specs.Prelude.{ℕ, zero, suc, string_bytes}
use Rattle.bitcode_serde_types.specs.Written.{Datum, unit, number, text, list, tuple, choice, no_data, datum_and, data_of, width_8, natural, ShapeTree, ShapeTrees, unit_tree, never_tree, natural_tree, integer_tree, text_tree, seq_tree, tuple_tree, choice_tree, no_trees, tree_and, IsSound, KeepsAll}
use Rattle.bitcode_recursive_types.specs.declared.directory.Directory.{Directory, fold-Directory}
use Rattle.bitcode_recursive_types.specs.declared.directory.Entry.{Entry, fold-Entry}
use Rattle.bitcode_recursive_types.specs.declared.directory.Entry.TheOpen.{Entry-F, Directory-F}

abbrev mutual
  pub directory_tree : ℕ → ShapeTree
  directory_tree zero = never_tree
  directory_tree (suc left) = tuple_tree (tree_and text_tree (tree_and (seq_tree (entry_tree left)) no_trees))

  pub entry_tree : ℕ → ShapeTree
  entry_tree zero = never_tree
  entry_tree (suc left) = choice_tree (tree_and (natural_tree 8) (tree_and (directory_tree left) (tree_and unit_tree (tree_and (tuple_tree (tree_and text_tree (tree_and (integer_tree 8) no_trees))) no_trees))))

-- the fields of `Directory`
abbrev pub directory_trees : ℕ → ShapeTrees
directory_trees left = (tree_and text_tree (tree_and (seq_tree (entry_tree left)) no_trees))

-- what each variant holds of `Entry`
abbrev pub entry_trees : ℕ → ShapeTrees
entry_trees left = (tree_and (natural_tree 8) (tree_and (directory_tree left) (tree_and unit_tree (tree_and (tuple_tree (tree_and text_tree (tree_and (integer_tree 8) no_trees))) no_trees))))

-- one level, with the content of each value inside in its place
abbrev pub entry_step : Entry-F Datum Datum → Datum
entry_step (Entry-F.File x0) = choice 0 (natural x0)
entry_step (Entry-F.Folder x0) = choice 1 x0
entry_step Entry-F.Nothing = choice 2 unit
entry_step (Entry-F.Link x0 x1) = choice 3 (tuple (datum_and (text (string_bytes x0)) (datum_and (number x1) no_data)))

abbrev pub directory_step : Directory-F Datum Datum → Datum
directory_step t = tuple (datum_and (text (string_bytes t.name)) (datum_and (list (data_of t.entries.items)) no_data))

abbrev pub directory_datum : Directory → Datum
directory_datum = fold-Directory Datum Datum entry_step directory_step

abbrev pub entry_datum : Entry → Datum
entry_datum = fold-Entry Datum Datum entry_step directory_step

mutual
  pub directory_sound : (left : ℕ) → IsSound (directory_tree left)
  directory_sound zero = tt
  directory_sound (suc left) = (tt, ((entry_sound left), tt))

  pub entry_sound : (left : ℕ) → IsSound (entry_tree left)
  entry_sound zero = tt
  entry_sound (suc left) = (width_8, ((directory_sound left), (tt, ((tt, (width_8, tt)), tt))))

-- a value keeps all that was read: no map or heap is in it
mutual
  pub directory_plain : (left : ℕ) → KeepsAll (directory_tree left)
  directory_plain zero = tt
  directory_plain (suc left) = (tt, ((entry_plain left), tt))

  pub entry_plain : (left : ℕ) → KeepsAll (entry_tree left)
  entry_plain zero = tt
  entry_plain (suc left) = (tt, ((directory_plain left), (tt, ((tt, (tt, tt)), tt))))
