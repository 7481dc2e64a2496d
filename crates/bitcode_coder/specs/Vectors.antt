-- Columns of lengths and of texts that the Rust crate wrote. The definitions yield the same bytes.
use Rattle.std.specs.Prelude.{◌≡◌, [], ◌∷◌, refl}
use Rattle.bitcode_memory.specs.LittleEndian.{raw_text}
use Rattle.bitcode_columns.specs.Digits.{digits_text}
use Rattle.bitcode_columns.specs.Tagged.{tagged_text}
use Rattle.bitcode_columns.specs.ByteColumn.{byte_text}
use Rattle.bitcode_columns.specs.IntColumn.{int_text}
use Rattle.bitcode_coder.specs.LengthColumn.{length_bytes}
use Rattle.bitcode_coder.specs.TextColumn.{texts_bytes}

length_1 : length_bytes (15 ∷ []) ≡ 15 ∷ []
unfolding length_bytes int_text byte_text tagged_text digits_text raw_text
length_1 = refl

length_2 : length_bytes (255 ∷ []) ≡ 255 ∷ 6 ∷ 255 ∷ []
unfolding length_bytes int_text byte_text tagged_text digits_text raw_text
length_2 = refl

length_3 : length_bytes (4294967295 ∷ []) ≡ 255 ∷ 2 ∷ 255 ∷ 255 ∷ 255 ∷ 255 ∷ []
unfolding length_bytes int_text byte_text tagged_text digits_text raw_text
length_3 = refl

length_4 : length_bytes (18446744073709551615 ∷ []) ≡ 255 ∷ 0 ∷ 255 ∷ 255 ∷ 255 ∷ 255 ∷ 255 ∷ 255 ∷ 255 ∷ 255 ∷ []
unfolding length_bytes int_text byte_text tagged_text digits_text raw_text
length_4 = refl

length_5 : length_bytes (256 ∷ 1 ∷ []) ≡ 255 ∷ 1 ∷ 4 ∷ 0 ∷ 1 ∷ []
unfolding length_bytes int_text byte_text tagged_text digits_text raw_text
length_5 = refl

length_6 : length_bytes (300 ∷ 509 ∷ []) ≡ 255 ∷ 255 ∷ 4 ∷ 44 ∷ 1 ∷ 253 ∷ 1 ∷ []
unfolding length_bytes int_text byte_text tagged_text digits_text raw_text
length_6 = refl

length_7 : length_bytes (0 ∷ 15 ∷ 15 ∷ []) ≡ 2 ∷ 240 ∷ 15 ∷ []
unfolding length_bytes int_text byte_text tagged_text digits_text raw_text
length_7 = refl

length_8 : length_bytes (1 ∷ 255 ∷ 2 ∷ []) ≡ 0 ∷ 1 ∷ 255 ∷ 2 ∷ 6 ∷ 255 ∷ []
unfolding length_bytes int_text byte_text tagged_text digits_text raw_text
length_8 = refl

length_9 : length_bytes (14 ∷ 0 ∷ 0 ∷ 15 ∷ 16 ∷ []) ≡ 0 ∷ 14 ∷ 0 ∷ 0 ∷ 15 ∷ 16 ∷ []
unfolding length_bytes int_text byte_text tagged_text digits_text raw_text
length_9 = refl

length_10 : length_bytes (16 ∷ 18446744073709551615 ∷ 254 ∷ 510 ∷ 18446744073709551615 ∷ []) ≡ 0 ∷ 16 ∷ 255 ∷ 254 ∷ 255 ∷ 255 ∷ 0 ∷ 255 ∷ 255 ∷ 255 ∷ 255 ∷ 255 ∷ 255 ∷ 255 ∷ 255 ∷ 254 ∷ 1 ∷ 0 ∷ 0 ∷ 0 ∷ 0 ∷ 0 ∷ 0 ∷ 255 ∷ 255 ∷ 255 ∷ 255 ∷ 255 ∷ 255 ∷ 255 ∷ 255 ∷ []
unfolding length_bytes int_text byte_text tagged_text digits_text raw_text
length_10 = refl

length_11 : length_bytes (0 ∷ 1 ∷ 1 ∷ 1 ∷ 0 ∷ 1 ∷ []) ≡ 10 ∷ 46 ∷ []
unfolding length_bytes int_text byte_text tagged_text digits_text raw_text
length_11 = refl

length_12 : length_bytes (0 ∷ 4294967296 ∷ 1 ∷ 254 ∷ 300 ∷ 16 ∷ []) ≡ 0 ∷ 0 ∷ 255 ∷ 1 ∷ 254 ∷ 255 ∷ 16 ∷ 0 ∷ 0 ∷ 0 ∷ 0 ∷ 0 ∷ 1 ∷ 0 ∷ 0 ∷ 0 ∷ 44 ∷ 1 ∷ 0 ∷ 0 ∷ 0 ∷ 0 ∷ 0 ∷ 0 ∷ []
unfolding length_bytes int_text byte_text tagged_text digits_text raw_text
length_12 = refl

text_1 : texts_bytes ((2 ∷ 74 ∷ 8 ∷ 102 ∷ 15 ∷ 44 ∷ []) ∷ []) ≡ 6 ∷ 2 ∷ 74 ∷ 8 ∷ 102 ∷ 15 ∷ 44 ∷ []
unfolding texts_bytes length_bytes int_text byte_text tagged_text digits_text raw_text
text_1 = refl

text_2 : texts_bytes ((87 ∷ []) ∷ (86 ∷ 98 ∷ 39 ∷ 47 ∷ 58 ∷ 77 ∷ []) ∷ []) ≡ 1 ∷ 6 ∷ 87 ∷ 86 ∷ 98 ∷ 39 ∷ 47 ∷ 58 ∷ 77 ∷ []
unfolding texts_bytes length_bytes int_text byte_text tagged_text digits_text raw_text
text_2 = refl

text_3 : texts_bytes ((240 ∷ 159 ∷ 152 ∷ 128 ∷ 244 ∷ 143 ∷ 191 ∷ 191 ∷ []) ∷ (244 ∷ 143 ∷ 191 ∷ 191 ∷ []) ∷ []) ≡ 8 ∷ 4 ∷ 240 ∷ 159 ∷ 152 ∷ 128 ∷ 244 ∷ 143 ∷ 191 ∷ 191 ∷ 244 ∷ 143 ∷ 191 ∷ 191 ∷ []
unfolding texts_bytes length_bytes int_text byte_text tagged_text digits_text raw_text
text_3 = refl

text_4 : texts_bytes ((123 ∷ 54 ∷ 46 ∷ 115 ∷ 52 ∷ 116 ∷ 87 ∷ 106 ∷ []) ∷ (3 ∷ 97 ∷ 57 ∷ 119 ∷ 3 ∷ 113 ∷ 104 ∷ 95 ∷ []) ∷ (37 ∷ 12 ∷ 126 ∷ 46 ∷ 10 ∷ 59 ∷ 94 ∷ 89 ∷ []) ∷ []) ≡ 2 ∷ 136 ∷ 8 ∷ 123 ∷ 54 ∷ 46 ∷ 115 ∷ 52 ∷ 116 ∷ 87 ∷ 106 ∷ 3 ∷ 97 ∷ 57 ∷ 119 ∷ 3 ∷ 113 ∷ 104 ∷ 95 ∷ 37 ∷ 12 ∷ 126 ∷ 46 ∷ 10 ∷ 59 ∷ 94 ∷ 89 ∷ []
unfolding texts_bytes length_bytes int_text byte_text tagged_text digits_text raw_text
text_4 = refl

text_5 : texts_bytes (([]) ∷ ([]) ∷ ([]) ∷ ([]) ∷ []) ≡ 10 ∷ 0 ∷ []
unfolding texts_bytes length_bytes int_text byte_text tagged_text digits_text raw_text
text_5 = refl

text_6 : texts_bytes ((223 ∷ 191 ∷ []) ∷ (206 ∷ 177 ∷ []) ∷ (223 ∷ 191 ∷ 194 ∷ 128 ∷ []) ∷ (223 ∷ 191 ∷ 195 ∷ 169 ∷ 223 ∷ 191 ∷ []) ∷ (206 ∷ 177 ∷ 195 ∷ 169 ∷ []) ∷ []) ≡ 2 ∷ 34 ∷ 100 ∷ 4 ∷ 223 ∷ 191 ∷ 206 ∷ 177 ∷ 223 ∷ 191 ∷ 194 ∷ 128 ∷ 223 ∷ 191 ∷ 195 ∷ 169 ∷ 223 ∷ 191 ∷ 206 ∷ 177 ∷ 195 ∷ 169 ∷ []
unfolding texts_bytes length_bytes int_text byte_text tagged_text digits_text raw_text
text_6 = refl

text_7 : texts_bytes ((115 ∷ []) ∷ (122 ∷ []) ∷ (121 ∷ []) ∷ (206 ∷ 177 ∷ []) ∷ (240 ∷ 159 ∷ 152 ∷ 128 ∷ []) ∷ (238 ∷ 128 ∷ 128 ∷ []) ∷ []) ≡ 5 ∷ 1 ∷ 64 ∷ 11 ∷ 115 ∷ 122 ∷ 121 ∷ 206 ∷ 177 ∷ 240 ∷ 159 ∷ 152 ∷ 128 ∷ 238 ∷ 128 ∷ 128 ∷ []
unfolding texts_bytes length_bytes int_text byte_text tagged_text digits_text raw_text
text_7 = refl
