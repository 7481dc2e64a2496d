-- The column of 8-byte floats that keep their whole width is their bits behind the tag 0.
use Rattle.std.proofs.Common.{◌≡◌, ℕ, zero, suc, eqb, ◌||◌, ◌&&◌, ◌+◌, ◌-◌, ◌*◌, ◌/◌, ◌%◌, ◌^◌, ◌<◌, ◌≤◌, ℤ, pos, false, List, [], ◌∷◌, ◌++◌, length, map, take, drop, append_assoc, All, refl, sym, ap, ap₂, ◌∙◌, subst, arith, inl, inr}
use Rattle.std.specs.Prelude.{to_bits, nat_lt, ◌-ℤ◌, unsigned_abs}
use Rattle.std.specs.Float.{Float, binary64}
use Rattle.std.specs.Simd.Lanes.{Each1, digits_l, number_l}
use lib.Dec.{T}
use lib.Ieee.{fits}
use lib.Ieee.Bits.{to_bits-lt}
use Rattle.std.proofs.Math.Nat.{suc-add, suc-mul, mul_assoc, pow-succ'}
use Rattle.std.proofs.Math.Seq.{take-add}
use Rattle.std.specs.Simd.{first_chunks}
use lib.ListN.{get_or}
use Rattle.std.proofs.lemmas.Bool.{cond-true, cond_both, ltb-true, lt-ltb, ne_eqb}
use Rattle.std.proofs.lemmas.Int.{ints}
use Rattle.std.proofs.lemmas.List.{length-map, length-take, map-append, drop-drop}
use Rattle.std.proofs.lemmas.List.Elements.{All-map, All-take}
use Rattle.std.proofs.lemmas.List.Concat.{flat_map-append}
use Rattle.std.proofs.lemmas.Simd.{map-map}
use Rattle.bitcode_memory.specs.IntWidths.{IsWidth}
use Rattle.bitcode_memory.specs.Ints.{IsNumber, residue, least, greatest}
use Rattle.bitcode_memory.specs.LittleEndian.{number_bytes, raw_text}
use Rattle.bitcode_columns.specs.IntColumn.{int_text, width_for}
use Rattle.bitcode_columns.proofs.TaggedLemmas.{greatest_among}
use Rattle.bitcode_int_columns.specs.Narrowing.{shifted_width}
use Rattle.bitcode_int_columns.proofs.AppendLemmas.{int_text_tagged, raw_residues, tagged_plain}
use Rattle.bitcode_int_columns.proofs.SampleLemmas.{sample_tells, none_narrower}

-- the digits of a number that begins with a narrower one
digits_after : (width more low high : ℕ) → low < 256 ^ width
    → digits_l 256 (width + more) (low + 256 ^ width * high) ≡ number_bytes width low ++ digits_l 256 more high
digits_after zero more low high small = ap₂ (digits_l 256) (omega arith) (omega (arith, small))
digits_after (suc width) more low high small =
    let p : ℕ = 256 ^ width * high in
    let split : low + 256 ^ suc width * high ≡ low + 256 * p =
    ap (λ m. low + m * high) (pow-succ' 256 width) ∙ ap (λ m. low + m) (mul_assoc 256 (256 ^ width) high) in
    let first : (low + 256 * p) % 256 ≡ low % 256 = omega arith in
    let others : (low + 256 * p) / 256 ≡ low / 256 + p = omega arith in
    ap₂ (digits_l 256) (suc-add width more) split
    ∙ ap₂ (λ x xs. x ∷ xs) first
    (ap (digits_l 256 (width + more)) others ∙ digits_after width more (low / 256) high (omega (arith, small, pow-succ' 256 width)))

-- the bytes of four numbers, in order
pub bytes_of_four : (numbers : List ℕ) → length numbers ≡ 4 → Each1 (λ n. n < 2 ^ 64) numbers → digits_l 256 32 (number_l (2 ^ 64) numbers) ≡ raw_text 8 numbers
unfolding raw_text
bytes_of_four [] four fit = absurd (omega arith)
bytes_of_four (a ∷ []) four fit = absurd (omega arith)
bytes_of_four (a ∷ b ∷ []) four fit = absurd (omega arith)
bytes_of_four (a ∷ b ∷ c ∷ []) four fit = absurd (omega arith)
bytes_of_four (a ∷ b ∷ c ∷ d ∷ []) four fit =
    digits_after 8 24 a _ fit.0 ∙ ap (λ bytes. number_bytes 8 a ++ bytes)
    (digits_after 8 16 b _ fit.1.0 ∙ ap (λ bytes. number_bytes 8 b ++ bytes)
    (digits_after 8 8 c _ fit.1.1.0 ∙ ap (λ bytes. number_bytes 8 c ++ bytes)
    (digits_after 8 0 d 0 fit.1.1.1.0)))
bytes_of_four (a ∷ b ∷ c ∷ d ∷ e ∷ more) four fit = absurd (omega arith)

pub bits_join : (xs ys : List Float) → raw_text 8 (map (λ x. to_bits binary64 x) (xs ++ ys))
    ≡ raw_text 8 (map (λ x. to_bits binary64 x) xs) ++ raw_text 8 (map (λ x. to_bits binary64 x) ys)
unfolding raw_text
bits_join xs ys =
    ap (raw_text 8) (map-append (λ x. to_bits binary64 x) xs ys)
    ∙ flat_map-append (number_bytes 8) (map (λ x. to_bits binary64 x) xs) (map (λ x. to_bits binary64 x) ys)

-- ---- four numbers that lie far apart

width_far : (n : ℕ) → 256 ^ 4 ≤ n → n < 256 ^ 8 → width_for n ≡ 8
width_far n far below =
    cond_both (nat_lt n (256 ^ 1)) 1 _ (λ w. w ≡ 8) (λ e. absurd (omega (arith, far, ltb-true _ _ e))) λ no_byte.
    cond_both (nat_lt n (256 ^ 2)) 2 _ (λ w. w ≡ 8) (λ e. absurd (omega (arith, far, ltb-true _ _ e))) λ no_two.
    cond_both (nat_lt n (256 ^ 4)) 4 _ (λ w. w ≡ 8) (λ e. absurd (omega (arith, far, ltb-true _ _ e))) λ no_four.
    cond-true _ _ _ (lt-ltb _ _ below)

apart : (low high : ℕ) → low ≤ high → unsigned_abs (pos high -ℤ pos low) ≡ high - low
apart low high order = omega (arith, ints, order)

abbrev number : Float → ℤ
number x = pos (to_bits binary64 x)

abbrev bits : List Float → List ℕ
bits xs = map (λ x. to_bits binary64 x) xs

pub whole_text : (xs : List Float) (low high : ℕ) → All (λ x. to_bits binary64 x < 256 ^ 8) xs → 4 ≤ length xs
    → pos low ≡ least (map pos (bits (take 4 xs))) → pos high ≡ greatest (map pos (bits (take 4 xs)))
    → 4294967296 ≤ high - low
    → int_text 8 (map (λ x. pos (to_bits binary64 x)) xs) ≡ 0 ∷ raw_text 8 (bits xs)
whole_text xs low high numbers some is_low is_high far =
    let is_width : IsWidth 8 = inr (inr (inr (inl refl))) in
    let entries : List ℤ = map number xs in
    let here : map pos (bits (take 4 xs)) ≡ map number (take 4 xs) = map-map pos (λ x. to_bits binary64 x) (take 4 xs) in
    let count : 1 ≤ length (take 4 xs) = omega (arith, some, length-take 4 xs) in
    let below : high < 256 ^ 8 =
    subst (IsNumber 8 false) (sym (is_high ∙ ap greatest here))
    (greatest_among (IsNumber 8 false) (map number (take 4 xs)) (omega (arith, count, length-map (take 4 xs) number))
    (All-map (IsNumber 8 false) number (take 4 xs) (All-take (λ x. to_bits binary64 x < 256 ^ 8) 4 xs numbers))) in
    let wide : shifted_width (pos low) (pos high) ≡ 8 =
    ap width_for (apart low high (omega (arith, far))) ∙ width_far (high - low) (omega (arith, far)) (omega (arith, below)) in
    let tells = sample_tells number xs (take 4 xs) 4 8 (shifted_width (pos low) (pos high)) false (pos low) (pos high) is_width (omega (arith, some)) numbers refl
    count (is_low ∙ ap least here) (is_high ∙ ap greatest here) refl wide in
    int_text_tagged 8 entries (λ one. omega (arith, one))
    (ap (λ b. b || (eqb 8 2 && eqb (length entries) 1)) (ne_eqb (length entries) 0 (λ none. omega (arith, some, none, length-map xs number))))
    ∙ sym (tagged_plain number xs 8 8 8 false (least entries) (greatest entries) [] _ is_width (omega (arith, some)) numbers refl refl (sym tells.0) (sym tells.1)
    (none_narrower (length xs) 8) refl)
    ∙ ap (λ text. 0 ∷ text) (raw_residues 8 8 0 false number xs refl refl numbers ∙ ap (raw_text 8) (map-map (residue 8) number xs))

-- ---- the bits of floats fit eight bytes

pub bits_fit : (floats : List Float) → Each1 (λ x. T (fits binary64 x)) floats → Each1 (λ n. n < 2 ^ 64) (map (λ x. to_bits binary64 x) floats)
bits_fit [] held = tt
bits_fit (x ∷ floats) held = (to_bits-lt binary64 x held.0, bits_fit floats held.1)

-- ---- block by block

abbrev text : List Float → List ℕ
text xs = raw_text 8 (bits xs)

block_at : (size k i : ℕ) (xs d : List Float) → i < k → get_or (first_chunks size k xs) i d ≡ take size (drop (i * size) xs)
block_at size zero i xs d h = absurd (omega arith)
block_at size (suc k) zero xs d h = let e : zero * size ≡ 0 = omega arith in rw e
block_at size (suc k) (suc i) xs d h =
    let e : suc i * size ≡ size + i * size = omega (arith, suc-mul i size) in
    block_at size k i (drop size xs) d (omega arith) ∙ ap (take size) (drop-drop (i * size) size xs ∙ ap (λ n. drop n xs) (sym e))

-- the texts of one block more
pub block_more : (xs : List Float) (count i : ℕ) (d : List Float) (blocks : List (List Float)) (start so_far next : List ℕ) → blocks ≡ first_chunks 64 count xs
    → i < count → so_far ≡ start ++ text (take (64 * i) xs) → next ≡ so_far ++ text (get_or blocks i d) → next ≡ start ++ text (take (64 * (i + 1)) xs)
block_more xs count i d blocks start so_far next are here before after =
    let at : ℕ = 64 * i in
    let block : get_or blocks i d ≡ take 64 (drop at xs) =
    ap (λ ys. get_or ys i d) are ∙ block_at 64 count i xs d here ∙ ap (λ n. take 64 (drop n xs)) (omega arith) in
    let more : take (64 * (i + 1)) xs ≡ take at xs ++ get_or blocks i d =
    ap (λ n. take n xs) (omega arith) ∙ take-add at 64 xs ∙ ap (λ ys. take at xs ++ ys) (sym block) in
    after ∙ ap (λ front. front ++ text (get_or blocks i d)) before
    ∙ append_assoc start (text (take at xs)) (text (get_or blocks i d))
    ∙ ap (λ behind. start ++ behind) (sym (bits_join (take at xs) (get_or blocks i d)) ∙ ap text (sym more))
