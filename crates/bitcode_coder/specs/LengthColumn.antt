-- A length column is an unsigned byte column, followed by a 64-bit unsigned integer column. A byte below 255 is a
-- length. Each 255 refers to the next of the large lengths that follow, which a reader accepts whatever they are.
use Rattle.std.specs.Prelude.{◌≡◌, ℕ, ◌<◌, ◌≤◌, min, pos, Option, Some, None, List, [], ◌∷◌, ◌++◌, length, map, filter, sum, All, MatchBool, nat_lt, nat_le, ◌==◌, if◌then◌else◌, count_by}
use Rattle.bitcode_columns.specs.ByteColumn.{SpellsBytes, byte_text}
use Rattle.bitcode_columns.specs.IntColumn.{SpellsInts, int_text}

-- the byte that announces a large length
abbrev pub escape : ℕ
escape = 255

-- read lengths sum to less than this
abbrev pub length_limit : ℕ
length_limit = 2251799813685247

abbrev pub first_large : List ℕ → ℕ
first_large [] = 0
first_large (n ∷ ns) = n

abbrev pub other_large : List ℕ → List ℕ
other_large [] = []
other_large (n ∷ ns) = ns

-- the lengths of short bytes, where the large ones replace the escapes in order
abbrev pub lengths_from : List ℕ → List ℕ → List ℕ
lengths_from [] large = []
lengths_from (byte ∷ bytes) large =
    if byte == escape then first_large large ∷ lengths_from bytes (other_large large) else byte ∷ lengths_from bytes large

-- A limit below 255 applies to the bytes, so that every escape exceeds it; a greater limit applies to the lengths.
abbrev pub KeepsCap : Option ℕ → List ℕ → List ℕ → Type 0
KeepsCap None bytes lengths = Unit {0}
KeepsCap (Some limit) bytes lengths = MatchBool (nat_lt limit escape) (All (λ byte. byte ≤ limit) bytes) (All (λ n. n ≤ limit) lengths)

-- Accepted.
pub record SpellsLengths (limit : Option ℕ) (piece lengths : List ℕ) : Type 0 where
  pub short_piece : List ℕ
  pub large_piece : List ℕ
  pub short : List ℕ
  pub large : List ℕ
  pub whole : piece ≡ short_piece ++ large_piece
  pub short_spelled : SpellsBytes short_piece short
  pub large_spelled : SpellsInts 8 large_piece large
  pub large_count : length large ≡ count_by (λ byte. byte == escape) short
  pub joined : lengths ≡ lengths_from short large
  pub below_limit : sum lengths < length_limit
  pub keeps_cap : KeepsCap limit short lengths

-- Written, whatever the sum.
unfoldable pub length_bytes : List ℕ → List ℕ
length_bytes lengths =
    byte_text (map (λ n. pos (min n escape)) lengths) ++ int_text 8 (map pos (filter (λ n. nat_le escape n) lengths))
