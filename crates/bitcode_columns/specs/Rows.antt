-- Worked examples: columns with known bytes, computed from the definitions.
use Rattle.std.specs.Prelude.{◌≡◌, true, pos, negsuc, [], ◌∷◌, Some, None, refl}
use Rattle.bitcode_memory.specs.declared.error.Reason.TheVariants.{Eof, InvalidPacking}
use Rattle.bitcode_memory.specs.LittleEndian.{raw_text}
use Rattle.bitcode_columns.specs.Digits.{digits_text}
use Rattle.bitcode_columns.specs.Tagged.{tagged_text}
use Rattle.bitcode_columns.specs.BoolColumn.{bool_text}
use Rattle.bitcode_columns.specs.ByteColumn.{byte_text}
use Rattle.bitcode_columns.specs.VariantColumn.{variant_text}
use Rattle.bitcode_columns.specs.IntColumn.{int_text}
use Rattle.bitcode_columns.specs.Reading.{bytes_fault, ints_fault, variants_fault}

-- ---- written

three_small_bytes : byte_text (pos 0 ∷ pos 1 ∷ pos 2 ∷ []) ≡ 8 ∷ 21 ∷ []
unfolding byte_text tagged_text digits_text
three_small_bytes = refl

one_to_seven : byte_text (pos 1 ∷ pos 2 ∷ pos 3 ∷ pos 4 ∷ pos 5 ∷ pos 6 ∷ pos 7 ∷ []) ≡ 2 ∷ 33 ∷ 67 ∷ 101 ∷ 7 ∷ []
unfolding byte_text tagged_text digits_text
one_to_seven = refl

-- tag 1: base 16 and a least byte; then the digits 0 to 6, two in a byte
seven_from_201 : byte_text (pos 201 ∷ pos 202 ∷ pos 203 ∷ pos 204 ∷ pos 205 ∷ pos 206 ∷ pos 207 ∷ []) ≡ 1 ∷ 201 ∷ 16 ∷ 50 ∷ 84 ∷ 6 ∷ []
unfolding byte_text tagged_text digits_text
seven_from_201 = refl

-- five entries are too few for differences from the least one
five_from_201 : byte_text (pos 201 ∷ pos 202 ∷ pos 203 ∷ pos 204 ∷ pos 205 ∷ []) ≡ 0 ∷ 201 ∷ 202 ∷ 203 ∷ 204 ∷ 205 ∷ []
unfolding byte_text tagged_text digits_text
five_from_201 = refl

around_zero : byte_text (negsuc 2 ∷ negsuc 1 ∷ negsuc 0 ∷ pos 0 ∷ pos 1 ∷ pos 2 ∷ pos 3 ∷ []) ≡ 1 ∷ 253 ∷ 16 ∷ 50 ∷ 84 ∷ 6 ∷ []
unfolding byte_text tagged_text digits_text
around_zero = refl

-- tag 1: one byte each and a least entry, 65535 for -1; then a byte column in base 2, tag 10
seven_shorts : int_text 2 (pos 0 ∷ negsuc 0 ∷ pos 0 ∷ negsuc 0 ∷ pos 0 ∷ negsuc 0 ∷ pos 0 ∷ []) ≡ 1 ∷ 255 ∷ 255 ∷ 10 ∷ 85 ∷ []
unfolding int_text byte_text tagged_text digits_text raw_text
seven_shorts = refl

five_shorts : int_text 2 (pos 0 ∷ negsuc 0 ∷ pos 0 ∷ negsuc 0 ∷ pos 0 ∷ []) ≡ 0 ∷ 0 ∷ 0 ∷ 255 ∷ 255 ∷ 0 ∷ 0 ∷ 255 ∷ 255 ∷ 0 ∷ 0 ∷ []
unfolding int_text byte_text tagged_text digits_text raw_text
five_shorts = refl

-- the least of seventeen entries is the last one
seventeen_shorts : int_text 2 (pos 300 ∷ pos 300 ∷ pos 300 ∷ pos 300 ∷ pos 300 ∷ pos 300 ∷ pos 300 ∷ pos 300 ∷ pos 300
    ∷ pos 300 ∷ pos 300 ∷ pos 300 ∷ pos 300 ∷ pos 300 ∷ pos 300 ∷ pos 300 ∷ pos 299 ∷ []) ≡ 1 ∷ 43 ∷ 1 ∷ 10 ∷ 255 ∷ 255 ∷ 0 ∷ []
unfolding int_text byte_text tagged_text digits_text raw_text
seventeen_shorts = refl

one_short : int_text 2 (pos 7 ∷ []) ≡ 7 ∷ 0 ∷ []
unfolding int_text raw_text
one_short = refl

one_word_of_a_byte : int_text 4 (pos 255 ∷ []) ≡ 4 ∷ 255 ∷ []
unfolding int_text byte_text tagged_text raw_text
one_word_of_a_byte = refl

one_word_of_two : int_text 4 (pos 65535 ∷ []) ≡ 2 ∷ 255 ∷ 255 ∷ []
unfolding int_text byte_text tagged_text raw_text
one_word_of_two = refl

one_whole_word : int_text 4 (pos 65536 ∷ []) ≡ 0 ∷ 0 ∷ 0 ∷ 1 ∷ 0 ∷ []
unfolding int_text byte_text tagged_text raw_text
one_whole_word = refl

one_negative_word : int_text 4 (negsuc 0 ∷ []) ≡ 0 ∷ 255 ∷ 255 ∷ 255 ∷ 255 ∷ []
unfolding int_text byte_text tagged_text raw_text
one_negative_word = refl

one_long : int_text 8 (pos 0 ∷ []) ≡ 6 ∷ 0 ∷ []
unfolding int_text byte_text tagged_text raw_text
one_long = refl

last_of_six_variants : variant_text 6 (5 ∷ []) ≡ 5 ∷ []
unfolding variant_text digits_text
last_of_six_variants = refl

true_once : bool_text (true ∷ []) ≡ 1 ∷ []
unfolding bool_text digits_text
true_once = refl

-- ---- rejected

unknown_tag : bytes_fault 5 (255 ∷ []) ≡ Some InvalidPacking
unknown_tag = refl

no_least_byte : bytes_fault 5 (1 ∷ []) ≡ Some Eof
no_least_byte = refl

high_tag : ints_fault 4 1 (5 ∷ 0 ∷ []) ≡ Some InvalidPacking
high_tag = refl

no_number : ints_fault 4 1 (4 ∷ []) ≡ Some Eof
no_number = refl

shifted_word : ints_fault 4 1 (3 ∷ 1 ∷ 0 ∷ 0 ∷ 0 ∷ 254 ∷ []) ≡ None
shifted_word = refl

no_sixth_of_five : variants_fault 5 1 (5 ∷ []) ≡ Some InvalidPacking
no_sixth_of_five = refl

sixth_of_six : variants_fault 6 1 (5 ∷ []) ≡ None
sixth_of_six = refl

no_variant : variants_fault 6 1 [] ≡ Some Eof
no_variant = refl
