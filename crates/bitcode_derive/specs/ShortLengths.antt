-- Shapes whose lengths are short: those without lengths, and, for few bytes, those whose elements all give some column an
-- entry, since a column has at most eight entries a byte.
use Rattle.std.specs.Prelude.{Bool, true, false, ◌&&◌, ◌||◌}
use Rattle.bitcode_shapes.specs.Shape.{Shape, Shapes, seq_shape, map_shape, array_shape, pair_shape, choice_shape, admitted_shape, no_shapes, shape_and, text_shape}
use Rattle.bitcode_coder.specs.ColumnFree.{has_entry}

-- each element of each list has an entry in some column, and so has each key or value of each pair of a map
abbrev mutual
  pub elements_have_entries : Shape → Bool
  elements_have_entries (seq_shape limit element) = has_entry element && elements_have_entries element
  elements_have_entries (map_shape key value) = (has_entry key || has_entry value) && (elements_have_entries key && elements_have_entries value)
  elements_have_entries (array_shape size element) = elements_have_entries element
  elements_have_entries (pair_shape first second) = elements_have_entries first && elements_have_entries second
  elements_have_entries (choice_shape shapes) = payloads_have_entries shapes
  elements_have_entries (admitted_shape admits shape) = elements_have_entries shape
  elements_have_entries _ = true

  pub payloads_have_entries : Shapes → Bool
  payloads_have_entries no_shapes = true
  payloads_have_entries (shape_and s ss) = elements_have_entries s && payloads_have_entries ss

-- there is no text, list, set or map in a datum of the shape
abbrev mutual
  pub has_no_lengths : Shape → Bool
  has_no_lengths (text_shape limit) = false
  has_no_lengths (seq_shape limit element) = false
  has_no_lengths (map_shape key value) = false
  has_no_lengths (array_shape size element) = has_no_lengths element
  has_no_lengths (pair_shape first second) = has_no_lengths first && has_no_lengths second
  has_no_lengths (choice_shape shapes) = payloads_have_no_lengths shapes
  has_no_lengths (admitted_shape admits shape) = has_no_lengths shape
  has_no_lengths _ = true

  pub payloads_have_no_lengths : Shapes → Bool
  payloads_have_no_lengths no_shapes = true
  payloads_have_no_lengths (shape_and s ss) = has_no_lengths s && payloads_have_no_lengths ss
