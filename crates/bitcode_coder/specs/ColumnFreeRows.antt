-- Worked examples: which elements have no columns, and how many there are.
use Rattle.std.specs.Prelude.{◌≡◌, ℕ, true, false, pos, List, [], ◌∷◌, None, refl}
use Rattle.bitcode_shapes.specs.Datum.{Datum, unit, number, list, choice, pair, data_of}
use Rattle.bitcode_shapes.specs.Shape.{Shape, unit_shape, number_shape, seq_shape, map_shape, array_shape, pair_shape, choice_shape, no_shapes, shape_and, any_number}
use Rattle.bitcode_coder.specs.ColumnFree.{has_entry, free_count}

abbrev count_in : Shape → Datum → ℕ
count_in shape d = free_count shape (d ∷ [])

abbrev byte_shape : Shape
byte_shape = number_shape 1 false any_number

abbrev byte : ℕ → Datum
byte value = number (pos value)

abbrev list_of_each : List Datum → Datum
list_of_each ds = list (data_of ds)

a_byte : has_entry byte_shape ≡ true
a_byte = refl

-- a list has a length
a_list : has_entry (seq_shape None unit_shape) ≡ true
a_list = refl

an_empty_array : has_entry (array_shape 0 byte_shape) ≡ false
an_empty_array = refl

three_units : count_in (seq_shape None unit_shape) (list_of_each (unit ∷ unit ∷ unit ∷ [])) ≡ 3
three_units = refl

two_bytes : count_in (seq_shape None byte_shape) (list_of_each (byte 1 ∷ byte 2 ∷ [])) ≡ 0
two_bytes = refl

two_empty_arrays : count_in (seq_shape None (array_shape 0 byte_shape)) (list_of_each (list_of_each [] ∷ list_of_each [] ∷ [])) ≡ 2
two_empty_arrays = refl

-- the array is an element too
units_of_an_array : count_in (seq_shape None (array_shape 3 unit_shape)) (list_of_each (list_of_each (unit ∷ unit ∷ unit ∷ []) ∷ [])) ≡ 4
units_of_an_array = refl

-- a pair of which one field has a column has one
pairs_of_units : count_in (seq_shape None (pair_shape unit_shape unit_shape)) (list_of_each (pair unit unit ∷ pair unit unit ∷ [])) ≡ 2
pairs_of_units = refl

pairs_with_a_byte : count_in (seq_shape None (pair_shape unit_shape byte_shape)) (list_of_each (pair unit (byte 1) ∷ [])) ≡ 0
pairs_with_a_byte = refl

-- of a map the keys count, and not the values
unit_keys : count_in (map_shape unit_shape byte_shape) (list_of_each (pair unit (byte 7) ∷ [])) ≡ 1
unit_keys = refl

unit_values : count_in (map_shape byte_shape unit_shape) (list_of_each (pair (byte 7) unit ∷ [])) ≡ 0
unit_values = refl

-- a payload is no element, but elements inside it count
a_payload : count_in (choice_shape (shape_and unit_shape (shape_and unit_shape no_shapes))) (choice 1 unit) ≡ 0
a_payload = refl

units_of_a_payload : count_in (choice_shape (shape_and unit_shape (shape_and (seq_shape None unit_shape) no_shapes))) (choice 1 (list_of_each (unit ∷ unit ∷ []))) ≡ 2
units_of_a_payload = refl
