-- Worked examples: the only text of the columns of some data, which a strict read accepts, computed from the
-- definitions.
use Rattle.std.specs.Prelude.{◌≡◌, ℕ, false, pos, List, [], ◌∷◌, None, map, refl}
use Rattle.bitcode_memory.specs.LittleEndian.{raw_text}
use Rattle.bitcode_columns.specs.Digits.{digits_text}
use Rattle.bitcode_columns.specs.Tagged.{tagged_text}
use Rattle.bitcode_columns.specs.ByteColumn.{byte_text}
use Rattle.bitcode_columns.specs.BoolColumn.{bool_text}
use Rattle.bitcode_columns.specs.IntColumn.{int_text}
use Rattle.bitcode_shapes.specs.Datum.{Datum, number, list, pair, data_of}
use Rattle.bitcode_shapes.specs.Shape.{Shape, number_shape, seq_shape, map_shape, bool_shape, any_number}
use Rattle.bitcode_coder.specs.LengthColumn.{length_bytes}
use Rattle.bitcode_coder.specs.Transposition.{spread}
use Rattle.bitcode_coder.specs.Spelling.{texts_of}

abbrev text_of : Shape → Datum → List ℕ
text_of shape d = texts_of (spread shape (d ∷ []))

abbrev n : ℕ → Datum
n value = number (pos value)

abbrev byte_shape : Shape
byte_shape = number_shape 1 false any_number

abbrev bytes : List ℕ → Datum
bytes values = list (data_of (map n values))

-- so [2] and [255] are different bytes
a_flag : text_of bool_shape (n 1) ≡ 1 ∷ []
unfolding bool_text int_text byte_text tagged_text digits_text raw_text
a_flag = refl

-- neither raw nor shifted
a_word : text_of (number_shape 4 false any_number) (n 255) ≡ 4 ∷ 255 ∷ []
unfolding int_text byte_text tagged_text digits_text raw_text
a_word = refl

-- the length is a byte of its own, not a large length after an escape
two_bytes : text_of (seq_shape None byte_shape) (bytes (0 ∷ 1 ∷ [])) ≡ 2 ∷ 0 ∷ 1 ∷ []
unfolding length_bytes int_text byte_text tagged_text digits_text raw_text
two_bytes = refl

-- in base two, not in base three
five_zeros : text_of (seq_shape None byte_shape) (bytes (0 ∷ 0 ∷ 0 ∷ 0 ∷ 0 ∷ [])) ≡ 5 ∷ 10 ∷ 0 ∷ []
unfolding length_bytes int_text byte_text tagged_text digits_text raw_text
five_zeros = refl

-- a duplicate key is spelled as it is: what the pairs make does not matter to their columns
one_key_twice : text_of (map_shape byte_shape byte_shape) (list (data_of (pair (n 1) (n 5) ∷ pair (n 1) (n 6) ∷ []))) ≡ 2 ∷ 1 ∷ 1 ∷ 5 ∷ 6 ∷ []
unfolding length_bytes int_text byte_text tagged_text digits_text raw_text
one_key_twice = refl
