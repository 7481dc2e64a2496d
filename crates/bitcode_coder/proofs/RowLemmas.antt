-- Worked rows at the limit of a length column's sum: one length just below it is read, and the limit itself is not.
use Rattle.std.proofs.Common.{◌≡◌, ℕ, ◌^◌, ◌<◌, List, [], ◌∷◌, ◌++◌, length, sum, eqb, refl, sym, ap, ◌∙◌, subst, arith, inl, lit<, lit≤}
use Rattle.std.specs.Prelude.{None, count_by}
use Rattle.std.proofs.lemmas.List.Elements.{All-nil, All-cons}
use Rattle.bitcode_memory.specs.LittleEndian.{SpellsRaw, raw_text}
use Rattle.bitcode_columns.specs.ByteColumn.{SpellsBytes}
use Rattle.bitcode_columns.specs.IntColumn.{SpellsInts}
use Rattle.bitcode_columns.proofs.ByteColumnLemmas.{SpellsBytes-unambiguous}
use Rattle.bitcode_columns.proofs.IntColumnLemmas.{SpellsInts-unambiguous}
use Rattle.bitcode_coder.specs.LengthColumn.{SpellsLengths, lengths_from, length_limit, escape}
use Rattle.bitcode_coder.proofs.LengthLemmas.{length-lengths_from}

escape_read : SpellsBytes (255 ∷ []) (255 ∷ [])
escape_read = inl (lit≤ tt, refl)

raw_long : (n : ℕ) (bytes : List ℕ) → n < 256 ^ 8 → raw_text 8 (n ∷ []) ≡ bytes → SpellsRaw 8 bytes (n ∷ [])
raw_long n bytes h e = record { whole = sym e; fit = All-cons (λ m. m < 256 ^ 8) n [] h (All-nil (λ m. m < 256 ^ 8)) }

below_bytes : raw_text 8 (2251799813685246 ∷ []) ≡ 254 ∷ 255 ∷ 255 ∷ 255 ∷ 255 ∷ 255 ∷ 7 ∷ 0 ∷ []
unfolding raw_text
below_bytes = refl

limit_bytes : raw_text 8 (2251799813685247 ∷ []) ≡ 255 ∷ 255 ∷ 255 ∷ 255 ∷ 255 ∷ 255 ∷ 7 ∷ 0 ∷ []
unfolding raw_text
limit_bytes = refl

below_read : SpellsInts 8 (0 ∷ 254 ∷ 255 ∷ 255 ∷ 255 ∷ 255 ∷ 255 ∷ 7 ∷ 0 ∷ []) (2251799813685246 ∷ [])
below_read = record {
  tag = 0;
  least_bytes = [];
  body = 254 ∷ 255 ∷ 255 ∷ 255 ∷ 255 ∷ 255 ∷ 7 ∷ 0 ∷ [];
  narrow = 2251799813685246 ∷ [];
  known = lit≤ tt;
  least_size = refl;
  whole = refl;
  narrowed = raw_long 2251799813685246 _ (lit< tt) below_bytes;
  widened = refl;
}

limit_read : SpellsInts 8 (0 ∷ 255 ∷ 255 ∷ 255 ∷ 255 ∷ 255 ∷ 255 ∷ 7 ∷ 0 ∷ []) (2251799813685247 ∷ [])
limit_read = record {
  tag = 0;
  least_bytes = [];
  body = 255 ∷ 255 ∷ 255 ∷ 255 ∷ 255 ∷ 255 ∷ 7 ∷ 0 ∷ [];
  narrow = 2251799813685247 ∷ [];
  known = lit≤ tt;
  least_size = refl;
  whole = refl;
  narrowed = raw_long 2251799813685247 _ (lit< tt) limit_bytes;
  widened = refl;
}

-- just below the limit
pub greatest_length : SpellsLengths None (255 ∷ 0 ∷ 254 ∷ 255 ∷ 255 ∷ 255 ∷ 255 ∷ 255 ∷ 7 ∷ 0 ∷ []) (2251799813685246 ∷ [])
greatest_length = record {
  short_piece = 255 ∷ [];
  large_piece = 0 ∷ 254 ∷ 255 ∷ 255 ∷ 255 ∷ 255 ∷ 255 ∷ 7 ∷ 0 ∷ [];
  short = 255 ∷ [];
  large = 2251799813685246 ∷ [];
  whole = refl;
  short_spelled = escape_read;
  large_spelled = below_read;
  large_count = refl;
  joined = refl;
  below_limit = lit< tt;
  keeps_cap = tt;
}

-- at the limit nothing is read
pub no_huge_length : (lengths : List ℕ) → length lengths ≡ 1 → SpellsLengths None (255 ∷ 0 ∷ 255 ∷ 255 ∷ 255 ∷ 255 ∷ 255 ∷ 255 ∷ 7 ∷ 0 ∷ []) lengths → ⊥
no_huge_length lengths size s =
    let one : length s.short ≡ 1 = sym (length-lengths_from s.short s.large) ∙ (sym (ap length s.joined) ∙ size) in
    let first = SpellsBytes-unambiguous.unambiguous s.short_piece (255 ∷ []) s.short (255 ∷ []) s.large_piece
    (0 ∷ 255 ∷ 255 ∷ 255 ∷ 255 ∷ 255 ∷ 255 ∷ 7 ∷ 0 ∷ []) s.short_spelled escape_read one (sym s.whole) in
    let count : length s.large ≡ 1 = s.large_count ∙ ap (λ bytes. count_by (λ byte. eqb byte escape) bytes) first.0 in
    let second = (SpellsInts-unambiguous 8).unambiguous s.large_piece (0 ∷ 255 ∷ 255 ∷ 255 ∷ 255 ∷ 255 ∷ 255 ∷ 7 ∷ 0 ∷ []) s.large (2251799813685247 ∷ [])
    [] [] s.large_spelled limit_read count (ap (λ bytes. bytes ++ []) first.1) in
    let are : lengths ≡ 2251799813685247 ∷ [] = s.joined ∙ (ap (λ bytes. lengths_from bytes s.large) first.0 ∙ ap (λ large. lengths_from (255 ∷ []) large) second.0) in
    let below : 2251799813685247 < length_limit = subst (λ ls. sum ls < length_limit) are s.below_limit in
    absurd (omega arith)
