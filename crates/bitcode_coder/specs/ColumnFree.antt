-- Elements without columns. They occupy no bytes, so the number of bytes does not bound their number.
use Rattle.std.specs.Prelude.{ℕ, zero, suc, ◌+◌, ◌-◌, ◌^◌, Bool, true, false, ◌||◌, if◌then◌else◌, min, List, length, map}
use Rattle.bitcode_shapes.specs.Datum.{Datum, first_in, second_in}
use Rattle.bitcode_shapes.specs.Shape.{Shape, Shapes, unit_shape, never_shape, bool_shape, number_shape, float_shape, text_shape, raw_shape, seq_shape, map_shape, array_shape, pair_shape, choice_shape, admitted_shape, no_shapes, shape_and}
use Rattle.bitcode_coder.specs.Transposition.{joined, payloads}

-- each datum of the shape gives some column an entry; otherwise none does, and the data have no columns
abbrev pub has_entry : Shape → Bool
has_entry unit_shape = false
has_entry (array_shape zero element) = false
has_entry (array_shape (suc size) element) = has_entry element
has_entry (pair_shape first second) = has_entry first || has_entry second
has_entry (admitted_shape admits shape) = has_entry shape
has_entry _ = true

-- so many, if they have no columns
abbrev pub count_if_free : Bool → ℕ → ℕ
count_if_free has_entries count = if has_entries then 0 else count

abbrev mutual
  -- how many elements without columns there are in all the data of a shape: elements of lists, sets and arrays, and keys
  -- of maps
  pub free_count : Shape → List Datum → ℕ
  free_count unit_shape ds = 0
  free_count never_shape ds = 0
  free_count bool_shape ds = 0
  free_count (number_shape width signed allowed) ds = 0
  free_count (float_shape format) ds = 0
  free_count (text_shape limit) ds = 0
  free_count raw_shape ds = 0
  free_count (seq_shape limit element) ds = count_if_free (has_entry element) (length (joined ds)) + free_count element (joined ds)
  free_count (map_shape key value) ds =
      count_if_free (has_entry key) (length (joined ds)) + (free_count key (map first_in (joined ds)) + free_count value (map second_in (joined ds)))
  free_count (array_shape size element) ds = count_if_free (has_entry element) (length (joined ds)) + free_count element (joined ds)
  free_count (pair_shape first second) ds = free_count first (map first_in ds) + free_count second (map second_in ds)
  free_count (choice_shape shapes) ds = free_in_payloads shapes 0 ds
  free_count (admitted_shape admits shape) ds = free_count shape ds

  -- those in the payloads of the variants from an index on
  pub free_in_payloads : Shapes → ℕ → List Datum → ℕ
  free_in_payloads no_shapes index ds = 0
  free_in_payloads (shape_and s ss) index ds = free_count s (payloads index ds) + free_in_payloads ss (suc index) ds

-- a count as a decoder tells it, which does not go on after 2^128 - 1
abbrev pub saturated : ℕ → ℕ
saturated n = min (2 ^ 128 - 1) n
