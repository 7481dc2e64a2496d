-- Worked examples: what is written for lengths and for data of some shapes, computed from the definitions.
use Rattle.std.specs.Prelude.{◌≡◌, ℕ, true, false, pos, negsuc, List, [], ◌∷◌, Some, None, map, refl}
use Rattle.bitcode_memory.specs.LittleEndian.{raw_text}
use Rattle.bitcode_columns.specs.Digits.{digits_text}
use Rattle.bitcode_columns.specs.Tagged.{tagged_text}
use Rattle.bitcode_columns.specs.ByteColumn.{byte_text}
use Rattle.bitcode_columns.specs.BoolColumn.{bool_text}
use Rattle.bitcode_columns.specs.IntColumn.{int_text}
use Rattle.bitcode_shapes.specs.Datum.{Datum, number, list, pair, data_of}
use Rattle.bitcode_shapes.specs.Shape.{Shape, number_shape, seq_shape, array_shape, pair_shape, bool_shape, any_number}
use Rattle.bitcode_coder.specs.ChunkWidth.{doubled_elements, first_elements}
use Rattle.bitcode_coder.specs.LengthColumn.{length_bytes}
use Rattle.bitcode_coder.specs.Transposition.{columns_of}
use Rattle.bitcode_coder.specs.Spelling.{columns_bytes}

abbrev text_of : Shape → Datum → List ℕ
text_of shape d = columns_bytes (columns_of shape (d ∷ []))

abbrev n : ℕ → Datum
n value = number (pos value)

abbrev minus_one : Datum
minus_one = number (negsuc 0)

abbrev byte_shape : Shape
byte_shape = number_shape 1 false any_number

abbrev bytes : List ℕ → Datum
bytes values = list (data_of (map n values))

-- 255 refers to the large length that follows
an_escape : length_bytes (1 ∷ 255 ∷ 2 ∷ []) ≡ 0 ∷ 1 ∷ 255 ∷ 2 ∷ 6 ∷ 255 ∷ []
unfolding length_bytes int_text byte_text tagged_text digits_text raw_text
an_escape = refl

array_of_three : text_of (array_shape 3 byte_shape) (bytes (0 ∷ 1 ∷ 2 ∷ [])) ≡ 8 ∷ 21 ∷ []
unfolding int_text byte_text tagged_text digits_text raw_text
array_of_three = refl

pair_of_longs : text_of (pair_shape (number_shape 8 false any_number) (number_shape 8 true any_number)) (pair (n 0) (n 1)) ≡ 6 ∷ 0 ∷ 6 ∷ 1 ∷ []
unfolding int_text byte_text tagged_text digits_text raw_text
pair_of_longs = refl

bool_and_short : text_of (pair_shape bool_shape (number_shape 2 false any_number)) (pair (n 1) (n 7)) ≡ 1 ∷ 7 ∷ 0 ∷ []
unfolding bool_text int_text byte_text tagged_text digits_text raw_text
bool_and_short = refl

seven_shorts : text_of (seq_shape None (number_shape 2 true any_number))
    (list (data_of (n 0 ∷ minus_one ∷ n 0 ∷ minus_one ∷ n 0 ∷ minus_one ∷ n 0 ∷ []))) ≡ 7 ∷ 1 ∷ 255 ∷ 255 ∷ 10 ∷ 85 ∷ []
unfolding length_bytes int_text byte_text tagged_text digits_text raw_text
seven_shorts = refl

five_shorts : text_of (seq_shape None (number_shape 2 true any_number)) (list (data_of (n 0 ∷ minus_one ∷ n 0 ∷ minus_one ∷ n 0 ∷ [])))
    ≡ 5 ∷ 0 ∷ 0 ∷ 0 ∷ 255 ∷ 255 ∷ 0 ∷ 0 ∷ 255 ∷ 255 ∷ 0 ∷ 0 ∷ []
unfolding length_bytes int_text byte_text tagged_text digits_text raw_text
five_shorts = refl

-- the least of all seventeen entries is the last one
seventeen_shorts : text_of (seq_shape None (number_shape 2 false any_number))
    (list (data_of (n 300 ∷ n 300 ∷ n 300 ∷ n 300 ∷ n 300 ∷ n 300 ∷ n 300 ∷ n 300 ∷ n 300 ∷ n 300 ∷ n 300 ∷ n 300 ∷ n 300 ∷ n 300 ∷ n 300
    ∷ n 300 ∷ n 299 ∷ []))) ≡ 17 ∷ 1 ∷ 43 ∷ 1 ∷ 10 ∷ 255 ∷ 255 ∷ 0 ∷ []
unfolding length_bytes int_text byte_text tagged_text digits_text raw_text
seventeen_shorts = refl

lists_of_bytes : text_of (seq_shape None (seq_shape None byte_shape)) (list (data_of (bytes [] ∷ bytes (1 ∷ 2 ∷ 3 ∷ []) ∷ [])))
    ≡ 2 ∷ 0 ∷ 3 ∷ 6 ∷ 57 ∷ []
unfolding length_bytes int_text byte_text tagged_text digits_text raw_text
lists_of_bytes = refl

-- slices begin with as many elements as have 8 bytes together, and with at least one; empty elements count as one byte
first_of_bytes : first_elements 1 ≡ Some 8
first_of_bytes = refl

first_of_triples : first_elements 3 ≡ Some 2
first_of_triples = refl

first_of_large : first_elements 20 ≡ Some 1
first_of_large = refl

first_of_nothing : first_elements 0 ≡ Some 8
first_of_nothing = refl

-- and are doubled up to 64 bytes, and no further
doubled_to_64_bytes : doubled_elements 4 (Some 8) ≡ Some 16
doubled_to_64_bytes = refl

doubled_past_64_bytes : doubled_elements 4 (Some 16) ≡ None
doubled_past_64_bytes = refl

doubled_of_large : doubled_elements 20 (Some 1) ≡ Some 2
doubled_of_large = refl

never_doubled_again : doubled_elements 1 None ≡ None
never_doubled_again = refl
