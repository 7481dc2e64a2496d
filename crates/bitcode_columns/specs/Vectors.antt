-- Columns that the Rust crate wrote. The definitions yield the same bytes.
use Rattle.std.specs.Prelude.{◌≡◌, true, false, pos, negsuc, [], ◌∷◌, refl}
use Rattle.bitcode_memory.specs.LittleEndian.{raw_text}
use Rattle.bitcode_columns.specs.Digits.{digits_text}
use Rattle.bitcode_columns.specs.Tagged.{tagged_text}
use Rattle.bitcode_columns.specs.BoolColumn.{bool_text}
use Rattle.bitcode_columns.specs.ByteColumn.{byte_text}
use Rattle.bitcode_columns.specs.VariantColumn.{variant_text}
use Rattle.bitcode_columns.specs.IntColumn.{int_text}

bool_1 : bool_text (false ∷ false ∷ []) ≡ 0 ∷ []
unfolding bool_text digits_text
bool_1 = refl

bool_2 : bool_text (true ∷ true ∷ true ∷ true ∷ []) ≡ 15 ∷ []
unfolding bool_text digits_text
bool_2 = refl

bool_3 : bool_text (false ∷ true ∷ true ∷ true ∷ false ∷ true ∷ []) ≡ 46 ∷ []
unfolding bool_text digits_text
bool_3 = refl

bool_4 : bool_text (true ∷ true ∷ true ∷ true ∷ true ∷ true ∷ true ∷ true ∷ []) ≡ 255 ∷ []
unfolding bool_text digits_text
bool_4 = refl

bool_5 : bool_text (false ∷ false ∷ false ∷ false ∷ false ∷ false ∷ false ∷ false ∷ false ∷ false ∷ []) ≡ 0 ∷ 0 ∷ []
unfolding bool_text digits_text
bool_5 = refl

u8_1 : int_text 1 (pos 241 ∷ []) ≡ 241 ∷ []
unfolding int_text byte_text tagged_text digits_text raw_text
u8_1 = refl

u8_2 : int_text 1 (pos 128 ∷ pos 126 ∷ pos 128 ∷ []) ≡ 0 ∷ 128 ∷ 126 ∷ 128 ∷ []
unfolding int_text byte_text tagged_text digits_text raw_text
u8_2 = refl

u8_3 : int_text 1 (pos 3 ∷ pos 31 ∷ pos 34 ∷ pos 34 ∷ []) ≡ 0 ∷ 3 ∷ 31 ∷ 34 ∷ 34 ∷ []
unfolding int_text byte_text tagged_text digits_text raw_text
u8_3 = refl

u8_4 : int_text 1 (pos 200 ∷ pos 200 ∷ pos 201 ∷ pos 201 ∷ pos 201 ∷ []) ≡ 0 ∷ 200 ∷ 200 ∷ 201 ∷ 201 ∷ 201 ∷ []
unfolding int_text byte_text tagged_text digits_text raw_text
u8_4 = refl

u8_5 : int_text 1 (pos 206 ∷ pos 208 ∷ pos 210 ∷ pos 208 ∷ pos 200 ∷ []) ≡ 0 ∷ 206 ∷ 208 ∷ 210 ∷ 208 ∷ 200 ∷ []
unfolding int_text byte_text tagged_text digits_text raw_text
u8_5 = refl

u8_6 : int_text 1 (pos 204 ∷ pos 202 ∷ pos 200 ∷ pos 203 ∷ pos 204 ∷ pos 200 ∷ []) ≡ 3 ∷ 200 ∷ 16 ∷ 27 ∷ []
unfolding int_text byte_text tagged_text digits_text raw_text
u8_6 = refl

u8_7 : int_text 1 (pos 38 ∷ pos 215 ∷ pos 255 ∷ pos 0 ∷ pos 120 ∷ pos 204 ∷ []) ≡ 0 ∷ 38 ∷ 215 ∷ 255 ∷ 0 ∷ 120 ∷ 204 ∷ []
unfolding int_text byte_text tagged_text digits_text raw_text
u8_7 = refl

u8_8 : int_text 1 (pos 203 ∷ pos 202 ∷ pos 203 ∷ pos 204 ∷ pos 200 ∷ pos 204 ∷ pos 203 ∷ pos 203 ∷ pos 204 ∷ []) ≡ 3 ∷ 200 ∷ 123 ∷ 148 ∷ 165 ∷ []
unfolding int_text byte_text tagged_text digits_text raw_text
u8_8 = refl

i8_1 : int_text 1 (negsuc 4 ∷ []) ≡ 251 ∷ []
unfolding int_text byte_text tagged_text digits_text raw_text
i8_1 = refl

i8_2 : int_text 1 (negsuc 125 ∷ negsuc 125 ∷ negsuc 123 ∷ []) ≡ 0 ∷ 130 ∷ 130 ∷ 132 ∷ []
unfolding int_text byte_text tagged_text digits_text raw_text
i8_2 = refl

i8_3 : int_text 1 (negsuc 46 ∷ pos 127 ∷ negsuc 82 ∷ pos 127 ∷ []) ≡ 0 ∷ 209 ∷ 127 ∷ 173 ∷ 127 ∷ []
unfolding int_text byte_text tagged_text digits_text raw_text
i8_3 = refl

i8_4 : int_text 1 (negsuc 116 ∷ negsuc 114 ∷ negsuc 116 ∷ negsuc 115 ∷ negsuc 115 ∷ []) ≡ 0 ∷ 139 ∷ 141 ∷ 139 ∷ 140 ∷ 140 ∷ []
unfolding int_text byte_text tagged_text digits_text raw_text
i8_4 = refl

i8_5 : int_text 1 (pos 100 ∷ pos 102 ∷ pos 100 ∷ pos 100 ∷ pos 101 ∷ []) ≡ 0 ∷ 100 ∷ 102 ∷ 100 ∷ 100 ∷ 101 ∷ []
unfolding int_text byte_text tagged_text digits_text raw_text
i8_5 = refl

i8_6 : int_text 1 (negsuc 122 ∷ negsuc 122 ∷ negsuc 125 ∷ negsuc 125 ∷ negsuc 122 ∷ negsuc 125 ∷ []) ≡ 5 ∷ 130 ∷ 15 ∷ 3 ∷ []
unfolding int_text byte_text tagged_text digits_text raw_text
i8_6 = refl

i8_7 : int_text 1 (pos 0 ∷ pos 1 ∷ pos 0 ∷ pos 1 ∷ pos 0 ∷ pos 0 ∷ pos 0 ∷ pos 1 ∷ pos 0 ∷ []) ≡ 10 ∷ 138 ∷ 0 ∷ []
unfolding int_text byte_text tagged_text digits_text raw_text
i8_7 = refl

i8_8 : int_text 1 (pos 72 ∷ pos 75 ∷ pos 75 ∷ pos 72 ∷ pos 74 ∷ pos 75 ∷ pos 73 ∷ pos 75 ∷ pos 72 ∷ []) ≡ 5 ∷ 72 ∷ 60 ∷ 222 ∷ 0 ∷ []
unfolding int_text byte_text tagged_text digits_text raw_text
i8_8 = refl

u16_1 : int_text 2 (pos 65535 ∷ []) ≡ 255 ∷ 255 ∷ []
unfolding int_text byte_text tagged_text digits_text raw_text
u16_1 = refl

u16_2 : int_text 2 (pos 200 ∷ pos 200 ∷ pos 206 ∷ []) ≡ 2 ∷ 0 ∷ 200 ∷ 200 ∷ 206 ∷ []
unfolding int_text byte_text tagged_text digits_text raw_text
u16_2 = refl

u16_3 : int_text 2 (pos 1 ∷ pos 2 ∷ pos 3 ∷ pos 3 ∷ pos 1 ∷ []) ≡ 2 ∷ 6 ∷ 249 ∷ 1 ∷ []
unfolding int_text byte_text tagged_text digits_text raw_text
u16_3 = refl

u16_4 : int_text 2 (pos 200 ∷ pos 202 ∷ pos 213 ∷ pos 214 ∷ pos 215 ∷ []) ≡ 2 ∷ 0 ∷ 200 ∷ 202 ∷ 213 ∷ 214 ∷ 215 ∷ []
unfolding int_text byte_text tagged_text digits_text raw_text
u16_4 = refl

u16_5 : int_text 2 (pos 512 ∷ pos 256 ∷ pos 406 ∷ pos 307 ∷ pos 350 ∷ []) ≡ 0 ∷ 0 ∷ 2 ∷ 0 ∷ 1 ∷ 150 ∷ 1 ∷ 51 ∷ 1 ∷ 94 ∷ 1 ∷ []
unfolding int_text byte_text tagged_text digits_text raw_text
u16_5 = refl

u16_6 : int_text 2 (pos 15 ∷ pos 0 ∷ pos 8 ∷ pos 12 ∷ pos 1 ∷ pos 9 ∷ []) ≡ 2 ∷ 2 ∷ 15 ∷ 200 ∷ 145 ∷ []
unfolding int_text byte_text tagged_text digits_text raw_text
u16_6 = refl

u16_7 : int_text 2 (pos 266 ∷ pos 332 ∷ pos 205 ∷ pos 337 ∷ pos 455 ∷ pos 200 ∷ []) ≡ 1 ∷ 200 ∷ 0 ∷ 0 ∷ 66 ∷ 132 ∷ 5 ∷ 137 ∷ 255 ∷ 0 ∷ []
unfolding int_text byte_text tagged_text digits_text raw_text
u16_7 = refl

u16_8 : int_text 2 (pos 6 ∷ pos 1 ∷ pos 6 ∷ pos 4 ∷ pos 5 ∷ pos 4 ∷ pos 4 ∷ pos 2 ∷ pos 4 ∷ []) ≡ 2 ∷ 3 ∷ 1 ∷ 185 ∷ 135 ∷ 117 ∷ []
unfolding int_text byte_text tagged_text digits_text raw_text
u16_8 = refl

i16_1 : int_text 2 (pos 256 ∷ []) ≡ 0 ∷ 1 ∷ []
unfolding int_text byte_text tagged_text digits_text raw_text
i16_1 = refl

i16_2 : int_text 2 (negsuc 32511 ∷ negsuc 32509 ∷ negsuc 32511 ∷ []) ≡ 0 ∷ 0 ∷ 129 ∷ 2 ∷ 129 ∷ 0 ∷ 129 ∷ []
unfolding int_text byte_text tagged_text digits_text raw_text
i16_2 = refl

i16_3 : int_text 2 (pos 127 ∷ pos 127 ∷ pos 127 ∷ pos 126 ∷ pos 127 ∷ []) ≡ 2 ∷ 0 ∷ 127 ∷ 127 ∷ 127 ∷ 126 ∷ 127 ∷ []
unfolding int_text byte_text tagged_text digits_text raw_text
i16_3 = refl

i16_4 : int_text 2 (pos 255 ∷ pos 259 ∷ pos 256 ∷ pos 258 ∷ pos 259 ∷ []) ≡ 0 ∷ 255 ∷ 0 ∷ 3 ∷ 1 ∷ 0 ∷ 1 ∷ 2 ∷ 1 ∷ 3 ∷ 1 ∷ []
unfolding int_text byte_text tagged_text digits_text raw_text
i16_4 = refl

i16_5 : int_text 2 (pos 0 ∷ pos 0 ∷ pos 0 ∷ pos 0 ∷ pos 0 ∷ pos 0 ∷ []) ≡ 2 ∷ 10 ∷ 0 ∷ []
unfolding int_text byte_text tagged_text digits_text raw_text
i16_5 = refl

i16_6 : int_text 2 (negsuc 32753 ∷ negsuc 32751 ∷ negsuc 32756 ∷ negsuc 32753 ∷ negsuc 32756 ∷ negsuc 32752 ∷ []) ≡ 1 ∷ 11 ∷ 128 ∷ 4 ∷ 33 ∷ 147 ∷ []
unfolding int_text byte_text tagged_text digits_text raw_text
i16_6 = refl

i16_7 : int_text 2 (pos 194 ∷ pos 256 ∷ pos 0 ∷ pos 39 ∷ pos 129 ∷ pos 242 ∷ []) ≡ 0 ∷ 194 ∷ 0 ∷ 0 ∷ 1 ∷ 0 ∷ 0 ∷ 39 ∷ 0 ∷ 129 ∷ 0 ∷ 242 ∷ 0 ∷ []
unfolding int_text byte_text tagged_text digits_text raw_text
i16_7 = refl

i16_8 : int_text 2 (negsuc 32766 ∷ negsuc 32766 ∷ negsuc 32765 ∷ negsuc 32764 ∷ negsuc 32766 ∷ negsuc 32764 ∷ negsuc 32767 ∷ negsuc 32766 ∷ negsuc 32766 ∷ []) ≡ 1 ∷ 0 ∷ 128 ∷ 6 ∷ 229 ∷ 77 ∷ 1 ∷ []
unfolding int_text byte_text tagged_text digits_text raw_text
i16_8 = refl

u32_1 : int_text 4 (pos 4294967295 ∷ []) ≡ 0 ∷ 255 ∷ 255 ∷ 255 ∷ 255 ∷ []
unfolding int_text byte_text tagged_text digits_text raw_text
u32_1 = refl

u32_2 : int_text 4 (pos 11 ∷ pos 26 ∷ pos 11 ∷ []) ≡ 4 ∷ 0 ∷ 11 ∷ 26 ∷ 11 ∷ []
unfolding int_text byte_text tagged_text digits_text raw_text
u32_2 = refl

u32_3 : int_text 4 (pos 4 ∷ pos 4 ∷ pos 2 ∷ pos 4 ∷ pos 0 ∷ []) ≡ 4 ∷ 4 ∷ 100 ∷ 4 ∷ []
unfolding int_text byte_text tagged_text digits_text raw_text
u32_3 = refl

u32_4 : int_text 4 (pos 255 ∷ pos 0 ∷ pos 83 ∷ pos 10 ∷ pos 161 ∷ []) ≡ 4 ∷ 0 ∷ 255 ∷ 0 ∷ 83 ∷ 10 ∷ 161 ∷ []
unfolding int_text byte_text tagged_text digits_text raw_text
u32_4 = refl

u32_5 : int_text 4 (pos 1 ∷ pos 1 ∷ pos 1 ∷ pos 1 ∷ pos 1 ∷ pos 1 ∷ []) ≡ 4 ∷ 10 ∷ 63 ∷ []
unfolding int_text byte_text tagged_text digits_text raw_text
u32_5 = refl

u32_6 : int_text 4 (pos 257 ∷ pos 255 ∷ pos 255 ∷ pos 257 ∷ pos 256 ∷ pos 255 ∷ []) ≡ 3 ∷ 255 ∷ 0 ∷ 0 ∷ 0 ∷ 8 ∷ 137 ∷ 0 ∷ []
unfolding int_text byte_text tagged_text digits_text raw_text
u32_6 = refl

u32_7 : int_text 4 (pos 43639 ∷ pos 39250 ∷ pos 65535 ∷ pos 0 ∷ pos 33381 ∷ pos 15762 ∷ []) ≡ 2 ∷ 119 ∷ 170 ∷ 82 ∷ 153 ∷ 255 ∷ 255 ∷ 0 ∷ 0 ∷ 101 ∷ 130 ∷ 146 ∷ 61 ∷ []
unfolding int_text byte_text tagged_text digits_text raw_text
u32_7 = refl

u32_8 : int_text 4 (pos 5 ∷ pos 4 ∷ pos 3 ∷ pos 0 ∷ pos 0 ∷ pos 6 ∷ pos 0 ∷ pos 4 ∷ pos 5 ∷ []) ≡ 4 ∷ 2 ∷ 69 ∷ 3 ∷ 96 ∷ 64 ∷ 5 ∷ []
unfolding int_text byte_text tagged_text digits_text raw_text
u32_8 = refl

i32_1 : int_text 4 (negsuc 2147483646 ∷ []) ≡ 0 ∷ 1 ∷ 0 ∷ 0 ∷ 128 ∷ []
unfolding int_text byte_text tagged_text digits_text raw_text
i32_1 = refl

i32_2 : int_text 4 (negsuc 199 ∷ negsuc 199 ∷ negsuc 198 ∷ []) ≡ 0 ∷ 56 ∷ 255 ∷ 255 ∷ 255 ∷ 56 ∷ 255 ∷ 255 ∷ 255 ∷ 57 ∷ 255 ∷ 255 ∷ 255 ∷ []
unfolding int_text byte_text tagged_text digits_text raw_text
i32_2 = refl

i32_3 : int_text 4 (pos 200 ∷ pos 204 ∷ pos 200 ∷ pos 200 ∷ pos 204 ∷ []) ≡ 4 ∷ 0 ∷ 200 ∷ 204 ∷ 200 ∷ 200 ∷ 204 ∷ []
unfolding int_text byte_text tagged_text digits_text raw_text
i32_3 = refl

i32_4 : int_text 4 (negsuc 2147483642 ∷ negsuc 2147483642 ∷ negsuc 2147483646 ∷ negsuc 2147483644 ∷ negsuc 2147483644 ∷ []) ≡ 0 ∷ 5 ∷ 0 ∷ 0 ∷ 128 ∷ 5 ∷ 0 ∷ 0 ∷ 128 ∷ 1 ∷ 0 ∷ 0 ∷ 128 ∷ 3 ∷ 0 ∷ 0 ∷ 128 ∷ 3 ∷ 0 ∷ 0 ∷ 128 ∷ []
unfolding int_text byte_text tagged_text digits_text raw_text
i32_4 = refl

i32_5 : int_text 4 (pos 14336 ∷ pos 33902 ∷ pos 65662 ∷ pos 126 ∷ pos 24612 ∷ []) ≡ 0 ∷ 0 ∷ 56 ∷ 0 ∷ 0 ∷ 110 ∷ 132 ∷ 0 ∷ 0 ∷ 126 ∷ 0 ∷ 1 ∷ 0 ∷ 126 ∷ 0 ∷ 0 ∷ 0 ∷ 36 ∷ 96 ∷ 0 ∷ 0 ∷ []
unfolding int_text byte_text tagged_text digits_text raw_text
i32_5 = refl

i32_6 : int_text 4 (negsuc 2147483389 ∷ negsuc 2147483390 ∷ negsuc 2147483390 ∷ negsuc 2147483391 ∷ negsuc 2147483388 ∷ negsuc 2147483391 ∷ []) ≡ 3 ∷ 0 ∷ 1 ∷ 0 ∷ 128 ∷ 6 ∷ 22 ∷ 3 ∷ []
unfolding int_text byte_text tagged_text digits_text raw_text
i32_6 = refl

i32_7 : int_text 4 (negsuc 65274 ∷ negsuc 65529 ∷ negsuc 65512 ∷ negsuc 65274 ∷ negsuc 65379 ∷ negsuc 65509 ∷ []) ≡ 3 ∷ 6 ∷ 0 ∷ 255 ∷ 255 ∷ 0 ∷ 255 ∷ 0 ∷ 17 ∷ 255 ∷ 150 ∷ 20 ∷ []
unfolding int_text byte_text tagged_text digits_text raw_text
i32_7 = refl

i32_8 : int_text 4 (negsuc 2147483391 ∷ negsuc 2147483389 ∷ negsuc 2147483389 ∷ negsuc 2147483391 ∷ negsuc 2147483389 ∷ negsuc 2147483389 ∷ negsuc 2147483390 ∷ negsuc 2147483391 ∷ negsuc 2147483389 ∷ []) ≡ 3 ∷ 0 ∷ 1 ∷ 0 ∷ 128 ∷ 8 ∷ 186 ∷ 59 ∷ []
unfolding int_text byte_text tagged_text digits_text raw_text
i32_8 = refl

u64_1 : int_text 8 (pos 4 ∷ pos 0 ∷ []) ≡ 6 ∷ 4 ∷ 0 ∷ []
unfolding int_text byte_text tagged_text digits_text raw_text
u64_1 = refl

u64_2 : int_text 8 (pos 16 ∷ pos 0 ∷ pos 3 ∷ []) ≡ 6 ∷ 0 ∷ 16 ∷ 0 ∷ 3 ∷ []
unfolding int_text byte_text tagged_text digits_text raw_text
u64_2 = refl

u64_3 : int_text 8 (pos 11 ∷ pos 11 ∷ pos 11 ∷ pos 11 ∷ pos 11 ∷ []) ≡ 6 ∷ 2 ∷ 187 ∷ 187 ∷ 11 ∷ []
unfolding int_text byte_text tagged_text digits_text raw_text
u64_3 = refl

u64_4 : int_text 8 (pos 266 ∷ pos 269 ∷ pos 271 ∷ pos 255 ∷ pos 257 ∷ []) ≡ 4 ∷ 10 ∷ 1 ∷ 13 ∷ 1 ∷ 15 ∷ 1 ∷ 255 ∷ 0 ∷ 1 ∷ 1 ∷ []
unfolding int_text byte_text tagged_text digits_text raw_text
u64_4 = refl

u64_5 : int_text 8 (pos 2 ∷ pos 2 ∷ pos 1 ∷ pos 2 ∷ pos 2 ∷ pos 2 ∷ []) ≡ 6 ∷ 9 ∷ 1 ∷ 59 ∷ []
unfolding int_text byte_text tagged_text digits_text raw_text
u64_5 = refl

u64_6 : int_text 8 (pos 142 ∷ pos 126 ∷ pos 128 ∷ pos 128 ∷ pos 136 ∷ pos 133 ∷ []) ≡ 6 ∷ 0 ∷ 142 ∷ 126 ∷ 128 ∷ 128 ∷ 136 ∷ 133 ∷ []
unfolding int_text byte_text tagged_text digits_text raw_text
u64_6 = refl

u64_7 : int_text 8 (pos 57675 ∷ pos 11371 ∷ pos 65546 ∷ pos 11 ∷ pos 39544 ∷ pos 14875 ∷ []) ≡ 3 ∷ 11 ∷ 0 ∷ 0 ∷ 0 ∷ 0 ∷ 0 ∷ 0 ∷ 0 ∷ 64 ∷ 225 ∷ 96 ∷ 44 ∷ 255 ∷ 255 ∷ 0 ∷ 0 ∷ 109 ∷ 154 ∷ 16 ∷ 58 ∷ []
unfolding int_text byte_text tagged_text digits_text raw_text
u64_7 = refl

u64_8 : int_text 8 (pos 5 ∷ pos 6 ∷ pos 6 ∷ pos 1 ∷ pos 4 ∷ pos 5 ∷ pos 6 ∷ pos 6 ∷ pos 1 ∷ []) ≡ 6 ∷ 3 ∷ 1 ∷ 214 ∷ 162 ∷ 35 ∷ []
unfolding int_text byte_text tagged_text digits_text raw_text
u64_8 = refl

i64_1 : int_text 8 (negsuc 2 ∷ []) ≡ 0 ∷ 253 ∷ 255 ∷ 255 ∷ 255 ∷ 255 ∷ 255 ∷ 255 ∷ 255 ∷ []
unfolding int_text byte_text tagged_text digits_text raw_text
i64_1 = refl

i64_2 : int_text 8 (negsuc 9223372036854710277 ∷ negsuc 9223372036854710275 ∷ negsuc 9223372036854710274 ∷ []) ≡ 0 ∷ 250 ∷ 255 ∷ 0 ∷ 0 ∷ 0 ∷ 0 ∷ 0 ∷ 128 ∷ 252 ∷ 255 ∷ 0 ∷ 0 ∷ 0 ∷ 0 ∷ 0 ∷ 128 ∷ 253 ∷ 255 ∷ 0 ∷ 0 ∷ 0 ∷ 0 ∷ 0 ∷ 128 ∷ []
unfolding int_text byte_text tagged_text digits_text raw_text
i64_2 = refl

i64_3 : int_text 8 (pos 0 ∷ pos 6 ∷ pos 13 ∷ pos 13 ∷ pos 15 ∷ []) ≡ 6 ∷ 2 ∷ 96 ∷ 221 ∷ 15 ∷ []
unfolding int_text byte_text tagged_text digits_text raw_text
i64_3 = refl

i64_4 : int_text 8 (negsuc 251 ∷ negsuc 250 ∷ negsuc 254 ∷ negsuc 251 ∷ negsuc 250 ∷ []) ≡ 0 ∷ 4 ∷ 255 ∷ 255 ∷ 255 ∷ 255 ∷ 255 ∷ 255 ∷ 255 ∷ 5 ∷ 255 ∷ 255 ∷ 255 ∷ 255 ∷ 255 ∷ 255 ∷ 255 ∷ 1 ∷ 255 ∷ 255 ∷ 255 ∷ 255 ∷ 255 ∷ 255 ∷ 255 ∷ 4 ∷ 255 ∷ 255 ∷ 255 ∷ 255 ∷ 255 ∷ 255 ∷ 255 ∷ 5 ∷ 255 ∷ 255 ∷ 255 ∷ 255 ∷ 255 ∷ 255 ∷ 255 ∷ []
unfolding int_text byte_text tagged_text digits_text raw_text
i64_4 = refl

i64_5 : int_text 8 (negsuc 9223372033786359028 ∷ negsuc 9223372032559808510 ∷ negsuc 9223372036854775806 ∷ negsuc 9223372036213942974 ∷ negsuc 9223372036758819348 ∷ []) ≡ 0 ∷ 11 ∷ 83 ∷ 228 ∷ 182 ∷ 0 ∷ 0 ∷ 0 ∷ 128 ∷ 1 ∷ 0 ∷ 0 ∷ 0 ∷ 1 ∷ 0 ∷ 0 ∷ 128 ∷ 1 ∷ 0 ∷ 0 ∷ 0 ∷ 0 ∷ 0 ∷ 0 ∷ 128 ∷ 65 ∷ 85 ∷ 50 ∷ 38 ∷ 0 ∷ 0 ∷ 0 ∷ 128 ∷ 235 ∷ 45 ∷ 184 ∷ 5 ∷ 0 ∷ 0 ∷ 0 ∷ 128 ∷ []
unfolding int_text byte_text tagged_text digits_text raw_text
i64_5 = refl

i64_6 : int_text 8 (negsuc 9223372036854775548 ∷ negsuc 9223372036854775551 ∷ negsuc 9223372036854775548 ∷ negsuc 9223372036854775550 ∷ negsuc 9223372036854775550 ∷ negsuc 9223372036854775549 ∷ []) ≡ 5 ∷ 0 ∷ 1 ∷ 0 ∷ 0 ∷ 0 ∷ 0 ∷ 0 ∷ 128 ∷ 6 ∷ 115 ∷ 9 ∷ []
unfolding int_text byte_text tagged_text digits_text raw_text
i64_6 = refl

i64_7 : int_text 8 (negsuc 80 ∷ negsuc 61 ∷ negsuc 171 ∷ negsuc 59 ∷ pos 1 ∷ negsuc 254 ∷ []) ≡ 3 ∷ 1 ∷ 255 ∷ 255 ∷ 255 ∷ 255 ∷ 255 ∷ 255 ∷ 255 ∷ 174 ∷ 0 ∷ 193 ∷ 0 ∷ 83 ∷ 0 ∷ 195 ∷ 0 ∷ 0 ∷ 1 ∷ 0 ∷ 0 ∷ []
unfolding int_text byte_text tagged_text digits_text raw_text
i64_7 = refl

i64_8 : int_text 8 (negsuc 10 ∷ negsuc 10 ∷ negsuc 10 ∷ negsuc 8 ∷ negsuc 9 ∷ negsuc 8 ∷ negsuc 8 ∷ negsuc 8 ∷ negsuc 10 ∷ []) ≡ 5 ∷ 245 ∷ 255 ∷ 255 ∷ 255 ∷ 255 ∷ 255 ∷ 255 ∷ 255 ∷ 8 ∷ 135 ∷ 26 ∷ []
unfolding int_text byte_text tagged_text digits_text raw_text
i64_8 = refl

u128_1 : int_text 16 ([]) ≡ []
unfolding int_text byte_text tagged_text digits_text raw_text
u128_1 = refl

u128_2 : int_text 16 (pos 11 ∷ pos 13 ∷ pos 27 ∷ []) ≡ 8 ∷ 0 ∷ 11 ∷ 13 ∷ 27 ∷ []
unfolding int_text byte_text tagged_text digits_text raw_text
u128_2 = refl

u128_3 : int_text 16 (pos 11 ∷ pos 13 ∷ pos 11 ∷ pos 11 ∷ pos 14 ∷ []) ≡ 8 ∷ 2 ∷ 219 ∷ 187 ∷ 14 ∷ []
unfolding int_text byte_text tagged_text digits_text raw_text
u128_3 = refl

u128_4 : int_text 16 (pos 256 ∷ pos 256 ∷ pos 262 ∷ pos 256 ∷ pos 259 ∷ []) ≡ 6 ∷ 0 ∷ 1 ∷ 0 ∷ 1 ∷ 6 ∷ 1 ∷ 0 ∷ 1 ∷ 3 ∷ 1 ∷ []
unfolding int_text byte_text tagged_text digits_text raw_text
u128_4 = refl

u128_5 : int_text 16 (pos 13455539100576178913 ∷ pos 18446744073709551872 ∷ pos 256 ∷ pos 16479892737785909668 ∷ pos 13083793518393971898 ∷ []) ≡ 0 ∷ 225 ∷ 226 ∷ 56 ∷ 127 ∷ 133 ∷ 173 ∷ 187 ∷ 186 ∷ 0 ∷ 0 ∷ 0 ∷ 0 ∷ 0 ∷ 0 ∷ 0 ∷ 0 ∷ 0 ∷ 1 ∷ 0 ∷ 0 ∷ 0 ∷ 0 ∷ 0 ∷ 0 ∷ 1 ∷ 0 ∷ 0 ∷ 0 ∷ 0 ∷ 0 ∷ 0 ∷ 0 ∷ 0 ∷ 1 ∷ 0 ∷ 0 ∷ 0 ∷ 0 ∷ 0 ∷ 0 ∷ 0 ∷ 0 ∷ 0 ∷ 0 ∷ 0 ∷ 0 ∷ 0 ∷ 0 ∷ 164 ∷ 209 ∷ 68 ∷ 124 ∷ 33 ∷ 87 ∷ 180 ∷ 228 ∷ 0 ∷ 0 ∷ 0 ∷ 0 ∷ 0 ∷ 0 ∷ 0 ∷ 0 ∷ 186 ∷ 84 ∷ 110 ∷ 82 ∷ 226 ∷ 248 ∷ 146 ∷ 181 ∷ 0 ∷ 0 ∷ 0 ∷ 0 ∷ 0 ∷ 0 ∷ 0 ∷ 0 ∷ []
unfolding int_text byte_text tagged_text digits_text raw_text
u128_5 = refl

u128_6 : int_text 16 (pos 197 ∷ pos 125 ∷ pos 32 ∷ pos 255 ∷ pos 0 ∷ pos 91 ∷ []) ≡ 8 ∷ 0 ∷ 197 ∷ 125 ∷ 32 ∷ 255 ∷ 0 ∷ 91 ∷ []
unfolding int_text byte_text tagged_text digits_text raw_text
u128_6 = refl

u128_7 : int_text 16 (pos 5950 ∷ pos 50782 ∷ pos 65736 ∷ pos 200 ∷ pos 61761 ∷ pos 20594 ∷ []) ≡ 4 ∷ 62 ∷ 23 ∷ 0 ∷ 0 ∷ 94 ∷ 198 ∷ 0 ∷ 0 ∷ 200 ∷ 0 ∷ 1 ∷ 0 ∷ 200 ∷ 0 ∷ 0 ∷ 0 ∷ 65 ∷ 241 ∷ 0 ∷ 0 ∷ 114 ∷ 80 ∷ 0 ∷ 0 ∷ []
unfolding int_text byte_text tagged_text digits_text raw_text
u128_7 = refl

u128_8 : int_text 16 (pos 126 ∷ pos 128 ∷ pos 127 ∷ pos 129 ∷ pos 127 ∷ pos 128 ∷ pos 126 ∷ pos 126 ∷ pos 129 ∷ []) ≡ 8 ∷ 5 ∷ 126 ∷ 216 ∷ 9 ∷ 3 ∷ []
unfolding int_text byte_text tagged_text digits_text raw_text
u128_8 = refl

i128_1 : int_text 16 (pos 1156444867 ∷ []) ≡ 4 ∷ 195 ∷ 242 ∷ 237 ∷ 68 ∷ []
unfolding int_text byte_text tagged_text digits_text raw_text
i128_1 = refl

i128_2 : int_text 16 (negsuc 197 ∷ negsuc 199 ∷ negsuc 199 ∷ []) ≡ 0 ∷ 58 ∷ 255 ∷ 255 ∷ 255 ∷ 255 ∷ 255 ∷ 255 ∷ 255 ∷ 255 ∷ 255 ∷ 255 ∷ 255 ∷ 255 ∷ 255 ∷ 255 ∷ 255 ∷ 56 ∷ 255 ∷ 255 ∷ 255 ∷ 255 ∷ 255 ∷ 255 ∷ 255 ∷ 255 ∷ 255 ∷ 255 ∷ 255 ∷ 255 ∷ 255 ∷ 255 ∷ 255 ∷ 56 ∷ 255 ∷ 255 ∷ 255 ∷ 255 ∷ 255 ∷ 255 ∷ 255 ∷ 255 ∷ 255 ∷ 255 ∷ 255 ∷ 255 ∷ 255 ∷ 255 ∷ 255 ∷ []
unfolding int_text byte_text tagged_text digits_text raw_text
i128_2 = refl

i128_3 : int_text 16 (pos 259 ∷ pos 256 ∷ pos 257 ∷ pos 258 ∷ pos 257 ∷ []) ≡ 6 ∷ 3 ∷ 1 ∷ 0 ∷ 1 ∷ 1 ∷ 1 ∷ 2 ∷ 1 ∷ 1 ∷ 1 ∷ []
unfolding int_text byte_text tagged_text digits_text raw_text
i128_3 = refl

i128_4 : int_text 16 (negsuc 170141183460469231731687303715884105727 ∷ negsuc 170141183460469231731687303715884105725 ∷ negsuc 170141183460469231731687303715884105724 ∷ negsuc 170141183460469231731687303715884105723 ∷ negsuc 170141183460469231731687303715884105721 ∷ []) ≡ 0 ∷ 0 ∷ 0 ∷ 0 ∷ 0 ∷ 0 ∷ 0 ∷ 0 ∷ 0 ∷ 0 ∷ 0 ∷ 0 ∷ 0 ∷ 0 ∷ 0 ∷ 0 ∷ 128 ∷ 2 ∷ 0 ∷ 0 ∷ 0 ∷ 0 ∷ 0 ∷ 0 ∷ 0 ∷ 0 ∷ 0 ∷ 0 ∷ 0 ∷ 0 ∷ 0 ∷ 0 ∷ 128 ∷ 3 ∷ 0 ∷ 0 ∷ 0 ∷ 0 ∷ 0 ∷ 0 ∷ 0 ∷ 0 ∷ 0 ∷ 0 ∷ 0 ∷ 0 ∷ 0 ∷ 0 ∷ 128 ∷ 4 ∷ 0 ∷ 0 ∷ 0 ∷ 0 ∷ 0 ∷ 0 ∷ 0 ∷ 0 ∷ 0 ∷ 0 ∷ 0 ∷ 0 ∷ 0 ∷ 0 ∷ 128 ∷ 6 ∷ 0 ∷ 0 ∷ 0 ∷ 0 ∷ 0 ∷ 0 ∷ 0 ∷ 0 ∷ 0 ∷ 0 ∷ 0 ∷ 0 ∷ 0 ∷ 0 ∷ 128 ∷ []
unfolding int_text byte_text tagged_text digits_text raw_text
i128_4 = refl

i128_5 : int_text 16 (pos 1 ∷ pos 1 ∷ pos 0 ∷ pos 1 ∷ pos 0 ∷ pos 0 ∷ []) ≡ 8 ∷ 10 ∷ 11 ∷ []
unfolding int_text byte_text tagged_text digits_text raw_text
i128_5 = refl

i128_6 : int_text 16 (negsuc 124 ∷ negsuc 121 ∷ negsuc 125 ∷ negsuc 124 ∷ negsuc 121 ∷ negsuc 121 ∷ []) ≡ 7 ∷ 130 ∷ 255 ∷ 255 ∷ 255 ∷ 255 ∷ 255 ∷ 255 ∷ 255 ∷ 255 ∷ 255 ∷ 255 ∷ 255 ∷ 255 ∷ 255 ∷ 255 ∷ 255 ∷ 4 ∷ 25 ∷ 169 ∷ []
unfolding int_text byte_text tagged_text digits_text raw_text
i128_6 = refl

i128_7 : int_text 16 (negsuc 4294929899 ∷ negsuc 4294966283 ∷ negsuc 4294953141 ∷ negsuc 4294901743 ∷ negsuc 4294967279 ∷ negsuc 4294963502 ∷ []) ≡ 3 ∷ 16 ∷ 0 ∷ 0 ∷ 0 ∷ 255 ∷ 255 ∷ 255 ∷ 255 ∷ 255 ∷ 255 ∷ 255 ∷ 255 ∷ 255 ∷ 255 ∷ 255 ∷ 255 ∷ 4 ∷ 146 ∷ 0 ∷ 0 ∷ 228 ∷ 3 ∷ 0 ∷ 0 ∷ 58 ∷ 55 ∷ 0 ∷ 0 ∷ 0 ∷ 0 ∷ 1 ∷ 0 ∷ 0 ∷ 0 ∷ 0 ∷ 0 ∷ 193 ∷ 14 ∷ 0 ∷ 0 ∷ []
unfolding int_text byte_text tagged_text digits_text raw_text
i128_7 = refl

i128_8 : int_text 16 (negsuc 254 ∷ negsuc 254 ∷ negsuc 254 ∷ negsuc 254 ∷ negsuc 254 ∷ negsuc 254 ∷ negsuc 254 ∷ negsuc 254 ∷ negsuc 254 ∷ []) ≡ 7 ∷ 1 ∷ 255 ∷ 255 ∷ 255 ∷ 255 ∷ 255 ∷ 255 ∷ 255 ∷ 255 ∷ 255 ∷ 255 ∷ 255 ∷ 255 ∷ 255 ∷ 255 ∷ 255 ∷ 10 ∷ 0 ∷ 0 ∷ []
unfolding int_text byte_text tagged_text digits_text raw_text
i128_8 = refl

variant2_1 : variant_text 2 ([]) ≡ []
unfolding variant_text digits_text
variant2_1 = refl

variant2_2 : variant_text 2 (0 ∷ 1 ∷ 0 ∷ []) ≡ 2 ∷ []
unfolding variant_text digits_text
variant2_2 = refl

variant2_3 : variant_text 2 (0 ∷ 0 ∷ 0 ∷ 1 ∷ 0 ∷ 0 ∷ []) ≡ 8 ∷ []
unfolding variant_text digits_text
variant2_3 = refl

variant2_4 : variant_text 2 (1 ∷ 1 ∷ 1 ∷ 1 ∷ 1 ∷ 1 ∷ 1 ∷ []) ≡ 127 ∷ []
unfolding variant_text digits_text
variant2_4 = refl

variant2_5 : variant_text 2 (0 ∷ 1 ∷ 0 ∷ 0 ∷ 0 ∷ 0 ∷ 0 ∷ 1 ∷ 1 ∷ 1 ∷ []) ≡ 130 ∷ 3 ∷ []
unfolding variant_text digits_text
variant2_5 = refl

variant3_1 : variant_text 3 ([]) ≡ []
unfolding variant_text digits_text
variant3_1 = refl

variant3_2 : variant_text 3 (2 ∷ 1 ∷ []) ≡ 5 ∷ []
unfolding variant_text digits_text
variant3_2 = refl

variant3_3 : variant_text 3 (0 ∷ 1 ∷ 0 ∷ 1 ∷ []) ≡ 30 ∷ []
unfolding variant_text digits_text
variant3_3 = refl

variant3_4 : variant_text 3 (2 ∷ 0 ∷ 0 ∷ 2 ∷ 0 ∷ 0 ∷ []) ≡ 56 ∷ 0 ∷ []
unfolding variant_text digits_text
variant3_4 = refl

variant3_5 : variant_text 3 (1 ∷ 1 ∷ 1 ∷ 0 ∷ 0 ∷ 1 ∷ 0 ∷ []) ≡ 13 ∷ 1 ∷ []
unfolding variant_text digits_text
variant3_5 = refl

variant3_6 : variant_text 3 (2 ∷ 2 ∷ 0 ∷ 2 ∷ 2 ∷ 1 ∷ 0 ∷ 0 ∷ 2 ∷ []) ≡ 224 ∷ 55 ∷ []
unfolding variant_text digits_text
variant3_6 = refl

variant5_1 : variant_text 5 (3 ∷ 4 ∷ []) ≡ 27 ∷ []
unfolding variant_text digits_text
variant5_1 = refl

variant5_2 : variant_text 5 (3 ∷ 1 ∷ 2 ∷ []) ≡ 81 ∷ []
unfolding variant_text digits_text
variant5_2 = refl

variant5_3 : variant_text 5 (0 ∷ 4 ∷ 3 ∷ 1 ∷ 3 ∷ []) ≡ 132 ∷ 19 ∷ []
unfolding variant_text digits_text
variant5_3 = refl

variant5_4 : variant_text 5 (0 ∷ 4 ∷ 1 ∷ 3 ∷ 4 ∷ 0 ∷ 2 ∷ []) ≡ 60 ∷ 27 ∷ 2 ∷ []
unfolding variant_text digits_text
variant5_4 = refl

variant5_5 : variant_text 5 (4 ∷ 2 ∷ 0 ∷ 0 ∷ 1 ∷ 2 ∷ 2 ∷ 4 ∷ []) ≡ 16 ∷ 78 ∷ 26 ∷ []
unfolding variant_text digits_text
variant5_5 = refl

variant5_6 : variant_text 5 (2 ∷ 3 ∷ 4 ∷ 2 ∷ 2 ∷ 3 ∷ 3 ∷ 3 ∷ 4 ∷ 3 ∷ []) ≡ 164 ∷ 122 ∷ 165 ∷ 3 ∷ []
unfolding variant_text digits_text
variant5_6 = refl

variant6_1 : variant_text 6 ([]) ≡ []
unfolding variant_text digits_text
variant6_1 = refl

variant6_2 : variant_text 6 (2 ∷ 3 ∷ []) ≡ 20 ∷ []
unfolding variant_text digits_text
variant6_2 = refl

variant6_3 : variant_text 6 (4 ∷ 2 ∷ 5 ∷ 0 ∷ []) ≡ 196 ∷ 0 ∷ []
unfolding variant_text digits_text
variant6_3 = refl

variant6_4 : variant_text 6 (4 ∷ 5 ∷ 2 ∷ 1 ∷ 4 ∷ 4 ∷ []) ≡ 106 ∷ 169 ∷ []
unfolding variant_text digits_text
variant6_4 = refl

variant6_5 : variant_text 6 (1 ∷ 1 ∷ 5 ∷ 2 ∷ 3 ∷ 3 ∷ 5 ∷ []) ≡ 187 ∷ 128 ∷ 5 ∷ []
unfolding variant_text digits_text
variant6_5 = refl

variant6_6 : variant_text 6 (0 ∷ 3 ∷ 1 ∷ 3 ∷ 0 ∷ 4 ∷ 0 ∷ 1 ∷ 2 ∷ []) ≡ 54 ∷ 147 ∷ 78 ∷ []
unfolding variant_text digits_text
variant6_6 = refl

variant17_1 : variant_text 17 (4 ∷ []) ≡ 4 ∷ []
unfolding variant_text digits_text
variant17_1 = refl

variant17_2 : variant_text 17 (8 ∷ 7 ∷ 10 ∷ []) ≡ 8 ∷ 7 ∷ 10 ∷ []
unfolding variant_text digits_text
variant17_2 = refl

variant17_3 : variant_text 17 (9 ∷ 6 ∷ 3 ∷ 13 ∷ []) ≡ 9 ∷ 6 ∷ 3 ∷ 13 ∷ []
unfolding variant_text digits_text
variant17_3 = refl

variant17_4 : variant_text 17 (15 ∷ 13 ∷ 14 ∷ 15 ∷ 7 ∷ 15 ∷ []) ≡ 15 ∷ 13 ∷ 14 ∷ 15 ∷ 7 ∷ 15 ∷ []
unfolding variant_text digits_text
variant17_4 = refl

variant17_5 : variant_text 17 (16 ∷ 16 ∷ 16 ∷ 16 ∷ 16 ∷ 16 ∷ 16 ∷ 16 ∷ []) ≡ 16 ∷ 16 ∷ 16 ∷ 16 ∷ 16 ∷ 16 ∷ 16 ∷ 16 ∷ []
unfolding variant_text digits_text
variant17_5 = refl

variant17_6 : variant_text 17 (15 ∷ 4 ∷ 9 ∷ 2 ∷ 2 ∷ 9 ∷ 11 ∷ 13 ∷ 9 ∷ []) ≡ 15 ∷ 4 ∷ 9 ∷ 2 ∷ 2 ∷ 9 ∷ 11 ∷ 13 ∷ 9 ∷ []
unfolding variant_text digits_text
variant17_6 = refl
