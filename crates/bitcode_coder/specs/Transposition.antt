-- The columns of a list of data of a shape: all instances of a field together.
use Rattle.std.specs.Prelude.{ℕ, zero, suc, pos, List, [], ◌∷◌, ◌++◌, length, map, filter, None, ◌==◌}
use Rattle.std.specs.List.{flat_map}
use Rattle.bitcode_shapes.specs.Datum.{Datum, number, elements_in, first_in, second_in, variant_in, payload_in}
use Rattle.bitcode_shapes.specs.Shape.{Shape, Shapes, unit_shape, never_shape, bool_shape, number_shape, float_shape, text_shape, raw_shape, seq_shape, map_shape, array_shape, pair_shape, choice_shape, admitted_shape, no_shapes, shape_and, variant_count}
use Rattle.bitcode_coder.specs.Columns.{Kind, Column, Columns, bools, ints, floats, lengths, texts, raws, variants, no_columns, one, two, arrays}

abbrev pub length_entry : Datum → Datum
length_entry d = number (pos (length (elements_in d)))

abbrev pub variant_entry : Datum → Datum
variant_entry d = number (pos (variant_in d))

-- the elements of all the lists, joined
abbrev pub joined : List Datum → List Datum
joined ds = flat_map elements_in ds

-- the payloads of one variant
abbrev pub payloads : ℕ → List Datum → List Datum
payloads index ds = map payload_in (filter (λ d. variant_in d == index) ds)

-- any number of arrays without elements is possible
abbrev pub array_columns : ℕ → ℕ → Columns → Columns
array_columns zero count elements = elements
array_columns (suc size) count elements = arrays (suc size) count elements

abbrev mutual
  -- as a tree
  pub columns_of : Shape → List Datum → Columns
  columns_of unit_shape ds = no_columns
  columns_of never_shape ds = no_columns
  columns_of bool_shape ds = one bools ds
  columns_of (number_shape width signed allowed) ds = one (ints width signed) ds
  columns_of (float_shape format) ds = one (floats format) ds
  columns_of (text_shape limit) ds = one (texts limit) ds
  columns_of raw_shape ds = one raws ds
  columns_of (seq_shape limit element) ds = two (one (lengths limit) (map length_entry ds)) (columns_of element (joined ds))
  columns_of (map_shape key value) ds =
      two (one (lengths None) (map length_entry ds)) (two (columns_of key (map first_in (joined ds))) (columns_of value (map second_in (joined ds))))
  columns_of (array_shape size element) ds = array_columns size (length ds) (columns_of element (joined ds))
  columns_of (pair_shape first second) ds = two (columns_of first (map first_in ds)) (columns_of second (map second_in ds))
  columns_of (choice_shape shapes) ds = two (one (variants (variant_count shapes)) (map variant_entry ds)) (payload_columns shapes 0 ds)
  columns_of (admitted_shape admits shape) ds = columns_of shape ds

  pub payload_columns : Shapes → ℕ → List Datum → Columns
  payload_columns no_shapes index ds = no_columns
  payload_columns (shape_and s ss) index ds = two (columns_of s (payloads index ds)) (payload_columns ss (suc index) ds)

abbrev pub column : Kind → List Datum → List Column
column kind entries = record { kind = kind; entries = entries } ∷ []

abbrev mutual
  -- as a list
  pub spread : Shape → List Datum → List Column
  spread unit_shape ds = []
  spread never_shape ds = []
  spread bool_shape ds = column bools ds
  spread (number_shape width signed allowed) ds = column (ints width signed) ds
  spread (float_shape format) ds = column (floats format) ds
  spread (text_shape limit) ds = column (texts limit) ds
  spread raw_shape ds = column raws ds
  spread (seq_shape limit element) ds = column (lengths limit) (map length_entry ds) ++ spread element (joined ds)
  spread (map_shape key value) ds =
      column (lengths None) (map length_entry ds) ++ (spread key (map first_in (joined ds)) ++ spread value (map second_in (joined ds)))
  spread (array_shape size element) ds = spread element (joined ds)
  spread (pair_shape first second) ds = spread first (map first_in ds) ++ spread second (map second_in ds)
  spread (choice_shape shapes) ds = column (variants (variant_count shapes)) (map variant_entry ds) ++ payload_spread shapes 0 ds
  spread (admitted_shape admits shape) ds = spread shape ds

  pub payload_spread : Shapes → ℕ → List Datum → List Column
  payload_spread no_shapes index ds = []
  payload_spread (shape_and s ss) index ds = spread s (payloads index ds) ++ payload_spread ss (suc index) ds
