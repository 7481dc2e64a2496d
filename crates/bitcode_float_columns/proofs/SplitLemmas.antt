-- Columns of the bits of 4-byte floats.
use Rattle.std.proofs.Common.{◌≡◌, ℕ, zero, suc, ◌+◌, ◌-◌, ◌*◌, ◌/◌, ◌%◌, ◌^◌, ◌<◌, ◌≤◌, Bool, List, [], ◌∷◌, ◌++◌, length, map, get_or, take, drop, All, IsTrue, MatchBool, true, false, refl, sym, ap, ap₂, ◌∙◌, subst, arith, append_assoc, length-append}
use Rattle.std.specs.Prelude.{◌↔◌, to_bits}
use Rattle.std.specs.Simd.Lanes.{Each1, pick_l, digits_l, number_l}
use Rattle.std.specs.Float.{Float, binary32}
use lib.Dec.{T}
use lib.Ieee.{fits}
use lib.Ieee.Bits.{to_bits-lt}
use Rattle.std.proofs.lemmas.Bool.{false≢true}
use Rattle.std.proofs.Math.Seq.{take-add, take-append_seam, drop-append_seam}
use Rattle.std.proofs.lemmas.List.Concat.{flat_map-append}
use Rattle.std.proofs.lemmas.List.{map-append, length-map, length-take, length-drop, take-append-drop}
use Rattle.std.proofs.lemmas.List.Elements.{All-nil, All-cons, All-head, All-tail, All-map, All-take, All-drop}
use Rattle.std.proofs.lemmas.Simd.{map-map, get_or_narrower, get_or_wider}
use Rattle.bitcode_memory.specs.LittleEndian.{number_bytes, raw_text}
use Rattle.bitcode_columns.specs.Laws.{IsReadOnce, TakesAnEighth, IsFaultOf}
use Rattle.bitcode_columns.specs.Reading.{Reads, missing}
use Rattle.bitcode_columns.proofs.RawLemmas.{length-raw_text, SpellsRaw-unambiguous, missing_short}
use Rattle.bitcode_columns.proofs.FrontLemmas.{append_split}
use Rattle.bitcode_float_columns.specs.FloatColumn.{canonical, low_of, top_of, split_text, SpellsSplit}
use Rattle.bitcode_float_columns.specs.Split.{joined_bits}
use Rattle.bitcode_float_columns.proofs.CanonicalLemmas.{canonical_each, each_canonical}

-- ---- one number

pub low_bytes : (n : ℕ) → (n % 256) ∷ (n / 256 % 256) ∷ (n / 65536 % 256) ∷ [] ≡ number_bytes 3 (low_of n)
low_bytes n =
    let a : n % 256 ≡ n % 16777216 % 256 = omega arith in
    let b : n / 256 % 256 ≡ n % 16777216 / 256 % 256 = omega arith in
    let c : n / 65536 % 256 ≡ n % 16777216 / 256 / 256 % 256 = omega arith in
    ap₂ (λ x xs. x ∷ xs) a (ap₂ (λ x xs. x ∷ xs) b (ap (λ x. x ∷ []) c))

same_bits : (a b : ℕ) → low_of a ≡ low_of b → top_of a ≡ top_of b → a ≡ b
same_bits a b low top = omega arith

bits_again : (xs ys : List ℕ) → map low_of xs ≡ map low_of ys → map top_of xs ≡ map top_of ys → xs ≡ ys
bits_again [] [] lows tops = refl
bits_again [] (y ∷ ys) lows tops = cc lows
bits_again (x ∷ xs) [] lows tops = cc lows
bits_again (x ∷ xs) (y ∷ ys) lows tops =
    let low : low_of x ≡ low_of y = cc lows in
    let top : top_of x ≡ top_of y = cc tops in
    let more_lows : map low_of xs ≡ map low_of ys = cc lows in
    let more_tops : map top_of xs ≡ map top_of ys = cc tops in
    let first : x ≡ y = same_bits x y low top in
    let rest : xs ≡ ys = bits_again xs ys more_lows more_tops in
    cc

lows_fit : (bits : List ℕ) → All (λ n. n < 256 ^ 3) (map low_of bits)
lows_fit bits = All-map (λ n. n < 256 ^ 3) low_of bits (λ k d inside. omega arith)

-- the low bytes of floats, and then their top bytes
pub split_joined : (floats : List Float) (start reserved middle end : List ℕ) → reserved ≡ start
    → middle ≡ reserved ++ raw_text 3 (map (λ x. low_of (to_bits binary32 x)) floats)
    → end ≡ middle ++ map (λ x. top_of (to_bits binary32 x)) floats → end ≡ start ++ split_text (map (λ x. to_bits binary32 x) floats)
unfolding split_text
split_joined floats start reserved middle end kept lows tops =
    let bits = λ (x : Float). to_bits binary32 x in
    tops ∙ ap (λ m. m ++ map (λ x. top_of (to_bits binary32 x)) floats) (lows ∙ ap (λ r. r ++ raw_text 3 (map (λ x. low_of (to_bits binary32 x)) floats)) kept)
    ∙ append_assoc start (raw_text 3 (map (λ x. low_of (to_bits binary32 x)) floats)) (map (λ x. top_of (to_bits binary32 x)) floats)
    ∙ ap (λ b. start ++ b) (ap₂ (λ x y. raw_text 3 x ++ y) (sym (map-map low_of bits floats)) (sym (map-map top_of bits floats)))

-- ---- four at a time

-- the bits of floats fit four bytes
pub bits_fit : (floats : List Float) → Each1 (λ x. T (fits binary32 x)) floats → Each1 (λ n. n < 2 ^ 32) (map (λ x. to_bits binary32 x) floats)
bits_fit [] held = tt
bits_fit (x ∷ floats) held = (to_bits-lt binary32 x held.0, bits_fit floats held.1)

top_byte : (n : ℕ) → n < 2 ^ 32 → n / 256 ^ 3 % 256 ≡ top_of n
top_byte n fits = omega arith

-- the bytes of four numbers, in the order of their text
pub text_of_bytes : (bits : List ℕ) → length bits ≡ 4 → Each1 (λ n. n < 2 ^ 32) bits
    → pick_l 0 (digits_l 256 16 (number_l (2 ^ 32) bits)) (0 ∷ 1 ∷ 2 ∷ 4 ∷ 5 ∷ 6 ∷ 8 ∷ 9 ∷ 10 ∷ 12 ∷ 13 ∷ 14 ∷ 3 ∷ 7 ∷ 11 ∷ 15 ∷ []) ≡ split_text bits
unfolding split_text raw_text
text_of_bytes [] four fit = absurd (omega arith)
text_of_bytes (a ∷ []) four fit = absurd (omega arith)
text_of_bytes (a ∷ b ∷ []) four fit = absurd (omega arith)
text_of_bytes (a ∷ b ∷ c ∷ []) four fit = absurd (omega arith)
text_of_bytes (a ∷ b ∷ c ∷ d ∷ e ∷ bits) four fit = absurd (omega arith)
text_of_bytes (a ∷ b ∷ c ∷ d ∷ []) four fit =
    let bits = a ∷ b ∷ c ∷ d ∷ [] in
    let at = λ (j i : ℕ) (h : i < 4) (k : 4 * j + i < 16). get_or_narrower (2 ^ 32) 4 256 16 bits j i refl fit h k in
    let a0s : a / 256 ^ 0 % 256 ≡ low_of a % 256 = omega arith in
    let a0 = at 0 0 (omega arith) (omega arith) ∙ a0s in
    let a1s : a / 256 ^ 1 % 256 ≡ low_of a / 256 % 256 = omega arith in
    let a1 = at 0 1 (omega arith) (omega arith) ∙ a1s in
    let a2s : a / 256 ^ 2 % 256 ≡ low_of a / 256 / 256 % 256 = omega arith in
    let a2 = at 0 2 (omega arith) (omega arith) ∙ a2s in
    let b0s : b / 256 ^ 0 % 256 ≡ low_of b % 256 = omega arith in
    let b0 = at 1 0 (omega arith) (omega arith) ∙ b0s in
    let b1s : b / 256 ^ 1 % 256 ≡ low_of b / 256 % 256 = omega arith in
    let b1 = at 1 1 (omega arith) (omega arith) ∙ b1s in
    let b2s : b / 256 ^ 2 % 256 ≡ low_of b / 256 / 256 % 256 = omega arith in
    let b2 = at 1 2 (omega arith) (omega arith) ∙ b2s in
    let c0s : c / 256 ^ 0 % 256 ≡ low_of c % 256 = omega arith in
    let c0 = at 2 0 (omega arith) (omega arith) ∙ c0s in
    let c1s : c / 256 ^ 1 % 256 ≡ low_of c / 256 % 256 = omega arith in
    let c1 = at 2 1 (omega arith) (omega arith) ∙ c1s in
    let c2s : c / 256 ^ 2 % 256 ≡ low_of c / 256 / 256 % 256 = omega arith in
    let c2 = at 2 2 (omega arith) (omega arith) ∙ c2s in
    let d0s : d / 256 ^ 0 % 256 ≡ low_of d % 256 = omega arith in
    let d0 = at 3 0 (omega arith) (omega arith) ∙ d0s in
    let d1s : d / 256 ^ 1 % 256 ≡ low_of d / 256 % 256 = omega arith in
    let d1 = at 3 1 (omega arith) (omega arith) ∙ d1s in
    let d2s : d / 256 ^ 2 % 256 ≡ low_of d / 256 / 256 % 256 = omega arith in
    let d2 = at 3 2 (omega arith) (omega arith) ∙ d2s in
    let a3s : a / 256 ^ 3 % 256 ≡ top_of a = top_byte a fit.0 in
    let a3 = at 0 3 (omega arith) (omega arith) ∙ a3s in
    let b3s : b / 256 ^ 3 % 256 ≡ top_of b = top_byte b fit.1.0 in
    let b3 = at 1 3 (omega arith) (omega arith) ∙ b3s in
    let c3s : c / 256 ^ 3 % 256 ≡ top_of c = top_byte c fit.1.1.0 in
    let c3 = at 2 3 (omega arith) (omega arith) ∙ c3s in
    let d3s : d / 256 ^ 3 % 256 ≡ top_of d = top_byte d fit.1.1.1.0 in
    let d3 = at 3 3 (omega arith) (omega arith) ∙ d3s in
    ap₂ (λ x xs. x ∷ xs) a0 (ap₂ (λ x xs. x ∷ xs) a1 (ap₂ (λ x xs. x ∷ xs) a2 (ap₂ (λ x xs. x ∷ xs) b0 (
    ap₂ (λ x xs. x ∷ xs) b1 (ap₂ (λ x xs. x ∷ xs) b2 (ap₂ (λ x xs. x ∷ xs) c0 (ap₂ (λ x xs. x ∷ xs) c1 (
    ap₂ (λ x xs. x ∷ xs) c2 (ap₂ (λ x xs. x ∷ xs) d0 (ap₂ (λ x xs. x ∷ xs) d1 (ap₂ (λ x xs. x ∷ xs) d2 (
    ap₂ (λ x xs. x ∷ xs) a3 (ap₂ (λ x xs. x ∷ xs) b3 (ap₂ (λ x xs. x ∷ xs) c3 (ap (λ x. x ∷ []) d3)))))))))))))))

module _ {A B : Type 0} (text : List A → List B) (joins : (xs ys : List A) → text (xs ++ ys) ≡ text xs ++ text ys) (xs : List A) (start : List B) where
  -- the texts of four more
  pub four_more : (block : ℕ) (four : List A) (so_far next : List B) → four ≡ take 4 (drop (4 * block) xs) → so_far ≡ start ++ text (take (4 * block) xs)
      → next ≡ so_far ++ text four → next ≡ start ++ text (take (4 * (block + 1)) xs)
  four_more block four so_far next are before after =
      let count : 4 * block + 4 ≡ 4 * (block + 1) = omega arith in
      let more : take (4 * (block + 1)) xs ≡ take (4 * block) xs ++ four =
      ap (λ n. take n xs) (sym count) ∙ take-add (4 * block) 4 xs ∙ ap (λ ys. take (4 * block) xs ++ ys) (sym are) in
      after ∙ ap (λ b. b ++ text four) before ∙ append_assoc start (text (take (4 * block) xs)) (text four)
      ∙ ap (λ b. start ++ b) (sym (joins (take (4 * block) xs) four) ∙ ap text (sym more))

  -- and the text of those behind the last four
  pub then_others : (count : ℕ) (rest : List A) (so_far next : List B) → rest ≡ drop count xs → so_far ≡ start ++ text (take count xs)
      → next ≡ so_far ++ text rest → next ≡ start ++ text xs
  then_others count rest so_far next are before after =
      after ∙ ap (λ b. b ++ text rest) before ∙ append_assoc start (text (take count xs)) (text rest)
      ∙ ap (λ b. start ++ b) (sym (joins (take count xs) rest) ∙ ap text (ap (λ r. take count xs ++ r) are ∙ take-append-drop count xs))

pub lows_join : (xs ys : List Float) → raw_text 3 (map (λ x. low_of (to_bits binary32 x)) (xs ++ ys))
    ≡ raw_text 3 (map (λ x. low_of (to_bits binary32 x)) xs) ++ raw_text 3 (map (λ x. low_of (to_bits binary32 x)) ys)
unfolding raw_text
lows_join xs ys =
    ap (raw_text 3) (map-append (λ x. low_of (to_bits binary32 x)) xs ys)
    ∙ flat_map-append (number_bytes 3) (map (λ x. low_of (to_bits binary32 x)) xs) (map (λ x. low_of (to_bits binary32 x)) ys)

-- ---- the laws

pub length-split_text : (bits : List ℕ) → length (split_text bits) ≡ 4 * length bits
unfolding split_text
length-split_text bits =
    omega (
      arith,
      length-append (raw_text 3 (map low_of bits)) (map top_of bits),
      length-raw_text 3 (map low_of bits),
      length-map bits low_of,
      length-map bits top_of,
    )

-- ---- the text of four floats

pub length_of_text : (four : List Float) (text : List ℕ) → length four ≡ 4 → text ≡ split_text (map (λ x. to_bits binary32 x) four) → length text ≡ 16
length_of_text four text size is =
    omega (arith, ap length is, length-split_text (map (λ x. to_bits binary32 x) four), length-map four (λ x. to_bits binary32 x))

-- the parts of the text of four floats
pub lows_of_text : (four : List Float) (text : List ℕ) → length four ≡ 4 → text ≡ split_text (map (λ x. to_bits binary32 x) four)
    → take 12 text ≡ raw_text 3 (map (λ x. low_of (to_bits binary32 x)) four)
unfolding split_text
lows_of_text four text size is =
    let bits = map (λ x. to_bits binary32 x) four in
    let front = raw_text 3 (map low_of bits) in
    let front_size : length front ≡ 12 = omega (arith, length-raw_text 3 (map low_of bits), length-map bits low_of, length-map four (λ x. to_bits binary32 x)) in
    ap (take 12) is ∙ ap (λ n. take n (front ++ map top_of bits)) (sym front_size) ∙ take-append_seam front (map top_of bits)
    ∙ ap (raw_text 3) (map-map low_of (λ x. to_bits binary32 x) four)

pub tops_of_text : (four : List Float) (text : List ℕ) → length four ≡ 4 → text ≡ split_text (map (λ x. to_bits binary32 x) four)
    → drop 12 text ≡ map (λ x. top_of (to_bits binary32 x)) four
unfolding split_text
tops_of_text four text size is =
    let bits = map (λ x. to_bits binary32 x) four in
    let front = raw_text 3 (map low_of bits) in
    let front_size : length front ≡ 12 = omega (arith, length-raw_text 3 (map low_of bits), length-map bits low_of, length-map four (λ x. to_bits binary32 x)) in
    ap (drop 12) is ∙ ap (λ n. drop n (front ++ map top_of bits)) (sym front_size) ∙ drop-append_seam front (map top_of bits)
    ∙ map-map top_of (λ x. to_bits binary32 x) four

split_once : (xs ys rest left : List ℕ) → length xs ≡ length ys → split_text xs ++ rest ≡ split_text ys ++ left → (xs ≡ ys) × (rest ≡ left)
unfolding split_text
split_once xs ys rest left same e =
    let front_x = raw_text 3 (map low_of xs) in
    let front_y = raw_text 3 (map low_of ys) in
    let counts : length (map low_of xs) ≡ length (map low_of ys) = length-map xs low_of ∙ same ∙ sym (length-map ys low_of) in
    let tops : length (map top_of xs) ≡ length (map top_of ys) = length-map xs top_of ∙ same ∙ sym (length-map ys top_of) in
    let lows = (SpellsRaw-unambiguous 3).unambiguous front_x front_y (map low_of xs) (map low_of ys) (map top_of xs ++ rest) (map top_of ys ++ left)
    (record { whole = refl; fit = lows_fit xs }) (record { whole = refl; fit = lows_fit ys }) counts
    (sym (append_assoc front_x (map top_of xs) rest) ∙ e ∙ append_assoc front_y (map top_of ys) left) in
    let behind = append_split (map top_of xs) (map top_of ys) rest left tops lows.1 in
    (bits_again xs ys lows.0 behind.0, behind.1)

pub SpellsSplit-unambiguous : IsReadOnce SpellsSplit
SpellsSplit-unambiguous = record {
  unambiguous = λ piece other entries others rest left s t same e.
      split_once entries others rest left same (ap (λ x. x ++ rest) (sym s.whole) ∙ e ∙ ap (λ x. x ++ left) t.whole);
}

no_bytes : (piece : List ℕ) → length piece ≡ 0 → piece ≡ []
no_bytes [] e = refl
no_bytes (x ∷ piece) e = absurd (omega arith)

pub SpellsSplit-size_bound : TakesAnEighth SpellsSplit
SpellsSplit-size_bound = record {
  nothing = λ piece s. no_bytes piece (omega (arith, ap length s.whole, length-split_text []));
  size_bound = λ piece entries s. omega (arith, ap length s.whole, length-split_text entries);
}

pub missing-refuses_split : IsFaultOf (λ count input. missing (count * 4) input) SpellsSplit
missing-refuses_split = record {
  refused = λ count input reason fault piece entries rest s size whole.
      omega (
        arith,
        missing_short (count * 4) input reason fault,
        ap length whole,
        length-append piece rest,
        ap length s.whole,
        length-split_text entries,
      );
}

pub split_text-read : (bits rest : List ℕ) → All (λ b. b < 256 ^ 4) bits → Reads SpellsSplit (length bits) (split_text bits ++ rest) bits rest
split_text-read bits rest fit = record { size = refl; piece = split_text bits; whole = refl; spelled = record { whole = refl; fit = fit } }

-- ---- reading

join_low : (a b c top : ℕ) → a < 256 → b < 256 → c < 256 → number_bytes 3 (low_of (a + 256 * b + 256 ^ 2 * c + 256 ^ 3 * top)) ≡ a ∷ b ∷ c ∷ []
join_low a b c top ha hb hc =
    let low : low_of (a + 256 * b + 256 ^ 2 * c + 256 ^ 3 * top) ≡ a + 256 * b + 256 ^ 2 * c = omega arith in
    let first : (a + 256 * b + 256 ^ 2 * c) % 256 ≡ a = omega arith in
    let second : (a + 256 * b + 256 ^ 2 * c) / 256 % 256 ≡ b = omega arith in
    let third : (a + 256 * b + 256 ^ 2 * c) / 256 / 256 % 256 ≡ c = omega arith in
    ap (number_bytes 3) low ∙ ap₂ (λ x xs. x ∷ xs) first (ap₂ (λ x xs. x ∷ xs) second (ap (λ x. x ∷ []) third))

join_top : (a b c top : ℕ) → a < 256 → b < 256 → c < 256 → top_of (a + 256 * b + 256 ^ 2 * c + 256 ^ 3 * top) ≡ top
join_top a b c top ha hb hc = omega arith

join_fits : (a b c top : ℕ) → a < 256 → b < 256 → c < 256 → top < 256 → a + 256 * b + 256 ^ 2 * c + 256 ^ 3 * top < 256 ^ 4
join_fits a b c top ha hb hc ht = omega arith

abbrev pub AreBytes : List ℕ → Type 0
AreBytes bytes = All (λ b. b < 256) bytes

head_below : (b : ℕ) (bytes : List ℕ) → AreBytes (b ∷ bytes) → b < 256
head_below b bytes below = All-head (λ b. b < 256) b bytes below

tail_below : (b : ℕ) (bytes : List ℕ) → AreBytes (b ∷ bytes) → AreBytes bytes
tail_below b bytes below = All-tail (λ b. b < 256) b bytes below

-- what low bytes and top bytes spell
record Joined (lows tops bits : List ℕ) : Type 0 where
  count : length bits ≡ length tops
  are_lows : raw_text 3 (map low_of bits) ≡ lows
  are_tops : map top_of bits ≡ tops
  fit : All (λ b. b < 256 ^ 4) bits

joined : (lows tops : List ℕ) → length lows ≡ 3 * length tops → AreBytes lows → AreBytes tops → Joined lows tops (joined_bits lows tops)
unfolding raw_text
joined [] [] same ls ts = record { count = refl; are_lows = refl; are_tops = refl; fit = All-nil (λ b. b < 256 ^ 4) }
joined [] (top ∷ tops) same ls ts = absurd (omega arith)
joined (a ∷ []) tops same ls ts = absurd (omega arith)
joined (a ∷ b ∷ []) tops same ls ts = absurd (omega arith)
joined (a ∷ b ∷ c ∷ lows) [] same ls ts = absurd (omega arith)
joined (a ∷ b ∷ c ∷ lows) (top ∷ tops) same ls ts =
    let after_a = tail_below a (b ∷ c ∷ lows) ls in
    let after_b = tail_below b (c ∷ lows) after_a in
    let ha = head_below a (b ∷ c ∷ lows) ls in
    let hb = head_below b (c ∷ lows) after_a in
    let hc = head_below c lows after_b in
    let ht = head_below top tops ts in
    let rest = joined lows tops (omega arith) (tail_below c lows after_b) (tail_below top tops ts) in
    let bits = joined_bits lows tops in
    record {
      count = ap suc rest.count;
      are_lows = ap₂ (λ x y. x ++ y) (join_low a b c top ha hb hc) rest.are_lows;
      are_tops = ap₂ (λ x y. x ∷ y) (join_top a b c top ha hb hc) rest.are_tops;
      fit = All-cons (λ b. b < 256 ^ 4) (a + 256 * b + 256 ^ 2 * c + 256 ^ 3 * top) bits (join_fits a b c top ha hb hc ht) rest.fit;
    }

-- one more is taken from the front of what is left
pub taken_next : {A B : Type 0} (made : A → B) (i : ℕ) (xs ys : List A) (x : A) → drop i xs ≡ x ∷ ys
    → (map made (take (suc i) xs) ≡ map made (take i xs) ++ (made x ∷ [])) × (drop (suc i) xs ≡ ys)
taken_next made zero [] ys x e = cc e
taken_next made zero (z ∷ xs) ys x e =
    let same : z ≡ x = cc e in
    let rest : xs ≡ ys = cc e in
    (ap (λ a. made a ∷ []) same, rest)
taken_next made (suc i) [] ys x e = cc e
taken_next made (suc i) (z ∷ xs) ys x e =
    let behind = taken_next made i xs ys x e in
    (ap (λ bs. made z ∷ bs) behind.0, behind.1)

-- the bytes of the first bits
pub record Front (lows tops : List ℕ) : Type 0 where
  pub low : ℕ
  pub middle : ℕ
  pub high : ℕ
  pub top : ℕ
  pub other_lows : List ℕ
  pub other_tops : List ℕ
  pub of_lows : lows ≡ low ∷ middle ∷ high ∷ other_lows
  pub of_tops : tops ≡ top ∷ other_tops

pub front_of : (lows tops : List ℕ) → 0 < length (joined_bits lows tops) → Front lows tops
front_of [] tops some = absurd (omega arith)
front_of (a ∷ []) tops some = absurd (omega arith)
front_of (a ∷ b ∷ []) tops some = absurd (omega arith)
front_of (a ∷ b ∷ c ∷ lows) [] some = absurd (omega arith)
front_of (a ∷ b ∷ c ∷ lows) (top ∷ tops) some =
    record { low = a; middle = b; high = c; top = top; other_lows = lows; other_tops = tops; of_lows = refl; of_tops = refl }

-- the first bits, and the others
pub next_bits : (lows tops low others left : List ℕ) (top bits : ℕ) → 3 ≤ length lows → low ≡ take 3 lows → others ≡ drop 3 lows → tops ≡ top ∷ left
    → bits ≡ get_or low 0 0 + 256 * get_or low 1 0 + 256 ^ 2 * get_or low 2 0 + 256 ^ 3 * top → joined_bits lows tops ≡ bits ∷ joined_bits others left
next_bits [] tops low others left top bits some low_is others_are tops_are bits_is = absurd (omega arith)
next_bits (a ∷ []) tops low others left top bits some low_is others_are tops_are bits_is = absurd (omega arith)
next_bits (a ∷ b ∷ []) tops low others left top bits some low_is others_are tops_are bits_is = absurd (omega arith)
next_bits (a ∷ b ∷ c ∷ lows) tops low others left top bits some low_is others_are tops_are bits_is =
    let first : get_or low 0 0 ≡ a = ap (λ l. get_or l 0 0) low_is in
    let second : get_or low 1 0 ≡ b = ap (λ l. get_or l 1 0) low_is in
    let third : get_or low 2 0 ≡ c = ap (λ l. get_or l 2 0) low_is in
    let same : a + 256 * b + 256 ^ 2 * c + 256 ^ 3 * top ≡ bits = omega (arith, bits_is, first, second, third) in
    ap (joined_bits (a ∷ b ∷ c ∷ lows)) tops_are ∙ ap₂ (λ x xs. x ∷ xs) same (ap (λ o. joined_bits o left) (sym others_are))

pub others_of : (lows tops : List ℕ) (f : Front lows tops) → length (joined_bits lows tops) ≡ suc (length (joined_bits f.other_lows f.other_tops))
others_of lows tops f = ap length (ap₂ joined_bits f.of_lows f.of_tops)

-- ---- four at once

-- sixteen low bytes and four top bytes, each top byte behind its three low bytes, are four numbers
abbrev pub AreFour : List ℕ → List ℕ → List ℕ → List ℕ → Type 0
AreFour seen four lows tops =
    digits_l (2 ^ 32) 4 (number_l 256 (pick_l 0
    (take 16 seen ++ get_or four 0 0 ∷ get_or four 1 0 ∷ get_or four 2 0 ∷ get_or four 3 0 ∷ 0 ∷ 0 ∷ 0 ∷ 0 ∷ 0 ∷ 0 ∷ 0 ∷ 0 ∷ 0 ∷ 0 ∷ 0 ∷ 0 ∷ [])
    (0 ∷ 1 ∷ 2 ∷ 16 ∷ 3 ∷ 4 ∷ 5 ∷ 17 ∷ 6 ∷ 7 ∷ 8 ∷ 18 ∷ 9 ∷ 10 ∷ 11 ∷ 19 ∷ [])))
    ≡ take 4 (joined_bits lows tops)

each_below : (bytes : List ℕ) → AreBytes bytes → Each1 (λ b. b < 256) bytes
each_below [] below = tt
each_below (b ∷ bytes) below = (head_below b bytes below, each_below bytes (tail_below b bytes below))

written_out : (l0 l1 l2 l3 l4 l5 l6 l7 l8 l9 l10 l11 l12 l13 l14 l15 : ℕ) (lows : List ℕ) (t0 t1 t2 t3 : ℕ) (tops : List ℕ)
    → Each1 (λ b. b < 256) (l0 ∷ l1 ∷ l2 ∷ l3 ∷ l4 ∷ l5 ∷ l6 ∷ l7 ∷ l8 ∷ l9 ∷ l10 ∷ l11 ∷ l12 ∷ l13 ∷ l14 ∷ l15 ∷ lows) → Each1 (λ b. b < 256) (t0 ∷ t1 ∷ t2 ∷ t3 ∷ tops)
    → AreFour (l0 ∷ l1 ∷ l2 ∷ l3 ∷ l4 ∷ l5 ∷ l6 ∷ l7 ∷ l8 ∷ l9 ∷ l10 ∷ l11 ∷ l12 ∷ l13 ∷ l14 ∷ l15 ∷ lows) (t0 ∷ t1 ∷ t2 ∷ t3 ∷ []) (l0 ∷ l1 ∷ l2 ∷ l3 ∷ l4 ∷ l5 ∷ l6 ∷ l7 ∷ l8 ∷ l9 ∷ l10 ∷ l11 ∷ l12 ∷ l13 ∷ l14 ∷ l15 ∷ lows) (t0 ∷ t1 ∷ t2 ∷ t3 ∷ tops)
written_out l0 l1 l2 l3 l4 l5 l6 l7 l8 l9 l10 l11 l12 l13 l14 l15 lows t0 t1 t2 t3 tops hl ht =
    let picked : List ℕ = l0 ∷ l1 ∷ l2 ∷ t0 ∷ l3 ∷ l4 ∷ l5 ∷ t1 ∷ l6 ∷ l7 ∷ l8 ∷ t2 ∷ l9 ∷ l10 ∷ l11 ∷ t3 ∷ [] in
    let fit : Each1 (λ b. b < 256) picked = (hl.0, (hl.1.0, (hl.1.1.0, (ht.0, (hl.1.1.1.0, (hl.1.1.1.1.0, (hl.1.1.1.1.1.0, (ht.1.0, (hl.1.1.1.1.1.1.0, (hl.1.1.1.1.1.1.1.0, (hl.1.1.1.1.1.1.1.1.0, (ht.1.1.0, (hl.1.1.1.1.1.1.1.1.1.0, (hl.1.1.1.1.1.1.1.1.1.1.0, (hl.1.1.1.1.1.1.1.1.1.1.1.0, (ht.1.1.1.0, tt)))))))))))))))) in
    let at = λ (j : ℕ) (h : j < 4). get_or_wider 256 4 (2 ^ 32) 4 picked j refl fit h in
    let n0 : l0 + 256 * (l1 + 256 * (l2 + 256 * (t0 + 256 * 0))) ≡ l0 + 256 * l1 + 256 ^ 2 * l2 + 256 ^ 3 * t0 = omega arith in
    let n1 : l3 + 256 * (l4 + 256 * (l5 + 256 * (t1 + 256 * 0))) ≡ l3 + 256 * l4 + 256 ^ 2 * l5 + 256 ^ 3 * t1 = omega arith in
    let n2 : l6 + 256 * (l7 + 256 * (l8 + 256 * (t2 + 256 * 0))) ≡ l6 + 256 * l7 + 256 ^ 2 * l8 + 256 ^ 3 * t2 = omega arith in
    let n3 : l9 + 256 * (l10 + 256 * (l11 + 256 * (t3 + 256 * 0))) ≡ l9 + 256 * l10 + 256 ^ 2 * l11 + 256 ^ 3 * t3 = omega arith in
    ap₂ (λ x xs. x ∷ xs) (at 0 (omega arith) ∙ n0) (ap₂ (λ x xs. x ∷ xs) (at 1 (omega arith) ∙ n1)
    (ap₂ (λ x xs. x ∷ xs) (at 2 (omega arith) ∙ n2) (ap (λ x. x ∷ []) (at 3 (omega arith) ∙ n3))))

-- enough bytes are there
pub record Six (lows tops : List ℕ) : Type 0 where
  l0 : ℕ
  l1 : ℕ
  l2 : ℕ
  l3 : ℕ
  l4 : ℕ
  l5 : ℕ
  l6 : ℕ
  l7 : ℕ
  l8 : ℕ
  l9 : ℕ
  l10 : ℕ
  l11 : ℕ
  l12 : ℕ
  l13 : ℕ
  l14 : ℕ
  l15 : ℕ
  others : List ℕ
  t0 : ℕ
  t1 : ℕ
  t2 : ℕ
  t3 : ℕ
  left : List ℕ
  of_lows : lows ≡ l0 ∷ l1 ∷ l2 ∷ l3 ∷ l4 ∷ l5 ∷ l6 ∷ l7 ∷ l8 ∷ l9 ∷ l10 ∷ l11 ∷ l12 ∷ l13 ∷ l14 ∷ l15 ∷ others
  of_tops : tops ≡ t0 ∷ t1 ∷ t2 ∷ t3 ∷ left

six_of : (lows tops : List ℕ) → 6 ≤ length (joined_bits lows tops) → Six lows tops
six_of lows tops six =
    let f0 = front_of lows tops (omega (arith, six)) in
    let o0 = others_of lows tops f0 in
    let f1 = front_of f0.other_lows f0.other_tops (omega (arith, six, o0)) in
    let o1 = others_of f0.other_lows f0.other_tops f1 in
    let f2 = front_of f1.other_lows f1.other_tops (omega (arith, six, o0, o1)) in
    let o2 = others_of f1.other_lows f1.other_tops f2 in
    let f3 = front_of f2.other_lows f2.other_tops (omega (arith, six, o0, o1, o2)) in
    let o3 = others_of f2.other_lows f2.other_tops f3 in
    let f4 = front_of f3.other_lows f3.other_tops (omega (arith, six, o0, o1, o2, o3)) in
    let o4 = others_of f3.other_lows f3.other_tops f4 in
    let f5 = front_of f4.other_lows f4.other_tops (omega (arith, six, o0, o1, o2, o3, o4)) in
    let o5 = others_of f4.other_lows f4.other_tops f5 in
    let lows5 : f4.other_lows ≡ f5.low ∷ f5.middle ∷ f5.high ∷ f5.other_lows = f5.of_lows in
    let lows4 : f3.other_lows ≡ f4.low ∷ f4.middle ∷ f4.high ∷ f5.low ∷ f5.middle ∷ f5.high ∷ f5.other_lows = f4.of_lows ∙ ap (λ r. f4.low ∷ f4.middle ∷ f4.high ∷ r) lows5 in
    let lows3 : f2.other_lows ≡ f3.low ∷ f3.middle ∷ f3.high ∷ f4.low ∷ f4.middle ∷ f4.high ∷ f5.low ∷ f5.middle ∷ f5.high ∷ f5.other_lows = f3.of_lows ∙ ap (λ r. f3.low ∷ f3.middle ∷ f3.high ∷ r) lows4 in
    let lows2 : f1.other_lows ≡ f2.low ∷ f2.middle ∷ f2.high ∷ f3.low ∷ f3.middle ∷ f3.high ∷ f4.low ∷ f4.middle ∷ f4.high ∷ f5.low ∷ f5.middle ∷ f5.high ∷ f5.other_lows = f2.of_lows ∙ ap (λ r. f2.low ∷ f2.middle ∷ f2.high ∷ r) lows3 in
    let lows1 : f0.other_lows ≡ f1.low ∷ f1.middle ∷ f1.high ∷ f2.low ∷ f2.middle ∷ f2.high ∷ f3.low ∷ f3.middle ∷ f3.high ∷ f4.low ∷ f4.middle ∷ f4.high ∷ f5.low ∷ f5.middle ∷ f5.high ∷ f5.other_lows = f1.of_lows ∙ ap (λ r. f1.low ∷ f1.middle ∷ f1.high ∷ r) lows2 in
    let lows0 : lows ≡ f0.low ∷ f0.middle ∷ f0.high ∷ f1.low ∷ f1.middle ∷ f1.high ∷ f2.low ∷ f2.middle ∷ f2.high ∷ f3.low ∷ f3.middle ∷ f3.high ∷ f4.low ∷ f4.middle ∷ f4.high ∷ f5.low ∷ f5.middle ∷ f5.high ∷ f5.other_lows = f0.of_lows ∙ ap (λ r. f0.low ∷ f0.middle ∷ f0.high ∷ r) lows1 in
    let tops3 : f2.other_tops ≡ f3.top ∷ f3.other_tops = f3.of_tops in
    let tops2 : f1.other_tops ≡ f2.top ∷ f3.top ∷ f3.other_tops = f2.of_tops ∙ ap (λ r. f2.top ∷ r) tops3 in
    let tops1 : f0.other_tops ≡ f1.top ∷ f2.top ∷ f3.top ∷ f3.other_tops = f1.of_tops ∙ ap (λ r. f1.top ∷ r) tops2 in
    let tops0 : tops ≡ f0.top ∷ f1.top ∷ f2.top ∷ f3.top ∷ f3.other_tops = f0.of_tops ∙ ap (λ r. f0.top ∷ r) tops1 in
    record {
      l0 = f0.low;
      l1 = f0.middle;
      l2 = f0.high;
      l3 = f1.low;
      l4 = f1.middle;
      l5 = f1.high;
      l6 = f2.low;
      l7 = f2.middle;
      l8 = f2.high;
      l9 = f3.low;
      l10 = f3.middle;
      l11 = f3.high;
      l12 = f4.low;
      l13 = f4.middle;
      l14 = f4.high;
      l15 = f5.low;
      others = f5.middle ∷ f5.high ∷ f5.other_lows;
      t0 = f0.top;
      t1 = f1.top;
      t2 = f2.top;
      t3 = f3.top;
      left = f3.other_tops;
      of_lows = lows0;
      of_tops = tops0;
    }

pub sizes_of_six : (lows tops : List ℕ) → 6 ≤ length (joined_bits lows tops) → (16 ≤ length lows) × (4 ≤ length tops)
sizes_of_six lows tops six =
    let s = six_of lows tops six in
    (omega (arith, ap length s.of_lows), omega (arith, ap length s.of_tops))

pub are_four : (seen four lows tops : List ℕ) → 6 ≤ length (joined_bits lows tops) → AreBytes lows → AreBytes tops → seen ≡ lows → four ≡ take 4 tops
    → AreFour seen four lows tops
are_four seen four lows tops six lows_below tops_below seen_is four_is =
    let s = six_of lows tops six in
    let ls : List ℕ = s.l0 ∷ s.l1 ∷ s.l2 ∷ s.l3 ∷ s.l4 ∷ s.l5 ∷ s.l6 ∷ s.l7 ∷ s.l8 ∷ s.l9 ∷ s.l10 ∷ s.l11 ∷ s.l12 ∷ s.l13 ∷ s.l14 ∷ s.l15 ∷ s.others in
    let ts : List ℕ = s.t0 ∷ s.t1 ∷ s.t2 ∷ s.t3 ∷ s.left in
    let front : List ℕ = s.t0 ∷ s.t1 ∷ s.t2 ∷ s.t3 ∷ [] in
    let hl = each_below ls (subst AreBytes s.of_lows lows_below) in
    let ht = each_below ts (subst AreBytes s.of_tops tops_below) in
    let here : four ≡ front = four_is ∙ ap (take 4) s.of_tops in
    let there : seen ≡ ls = seen_is ∙ s.of_lows in
    let out : AreFour ls front ls ts = written_out s.l0 s.l1 s.l2 s.l3 s.l4 s.l5 s.l6 s.l7 s.l8 s.l9 s.l10 s.l11 s.l12 s.l13 s.l14 s.l15 s.others s.t0 s.t1 s.t2 s.t3 s.left hl ht in
    subst (λ x. AreFour x four lows tops) (sym there) (subst (λ f. AreFour ls f lows tops) (sym here)
    (subst (λ xs. AreFour ls front xs tops) (sym s.of_lows) (subst (λ ys. AreFour ls front ls ys) (sym s.of_tops) out)))

pub four_behind : (lows tops : List ℕ) → 6 ≤ length (joined_bits lows tops) → joined_bits (drop 12 lows) (drop 4 tops) ≡ drop 4 (joined_bits lows tops)
four_behind lows tops six =
    let s = six_of lows tops six in
    ap₂ (λ ls ts. joined_bits (drop 12 ls) (drop 4 ts)) s.of_lows s.of_tops ∙ ap (drop 4) (sym (ap₂ joined_bits s.of_lows s.of_tops))

pub split_reads : (count : ℕ) (old lows behind tops new : List ℕ) → AreBytes old → count * 4 ≤ length old
    → lows ≡ take (count * 3) old → behind ≡ drop (count * 3) old → tops ≡ take count behind → new ≡ drop count behind
    → Reads SpellsSplit count old (joined_bits lows tops) new
unfolding split_text
split_reads count old lows behind tops new below enough lows_are behind_is tops_are new_is =
    let lows_size : length lows ≡ count * 3 = omega (arith, ap length lows_are, length-take (count * 3) old) in
    let behind_size : length behind ≡ length old - count * 3 = omega (arith, ap length behind_is, length-drop (count * 3) old) in
    let tops_size : length tops ≡ count = omega (arith, ap length tops_are, length-take count behind) in
    let lows_below : AreBytes lows = subst AreBytes (sym lows_are) (All-take (λ b. b < 256) (count * 3) old below) in
    let behind_below : AreBytes behind = subst AreBytes (sym behind_is) (All-drop (λ b. b < 256) (count * 3) old below) in
    let tops_below : AreBytes tops = subst AreBytes (sym tops_are) (All-take (λ b. b < 256) count behind behind_below) in
    let are = joined lows tops (omega arith) lows_below tops_below in
    record {
      size = are.count ∙ tops_size;
      piece = lows ++ tops;
      whole =
          sym (take-append-drop (count * 3) old)
          ∙ ap₂ (λ x y. x ++ y) (sym lows_are) (sym behind_is ∙ sym (take-append-drop count behind) ∙ ap₂ (λ x y. x ++ y) (sym tops_are) (sym new_is))
          ∙ sym (append_assoc lows tops new);
      spelled = record { whole = ap₂ (λ x y. x ++ y) (sym are.are_lows) (sym are.are_tops); fit = are.fit };
    }

-- ---- strict reading

answer_of : {A : Type 0} (b : Bool) → MatchBool b A (A → ⊥) → A → IsTrue b
answer_of true told a = refl
answer_of false told a = absurd (told a)

fact_of : {A : Type 0} (b : Bool) → MatchBool b A (A → ⊥) → IsTrue b → A
fact_of true told is = told
fact_of false told is = absurd (false≢true is)

pub split_judged : (written : Bool) (count : ℕ) (old bits new : List ℕ) → Reads SpellsSplit count old bits new
    → MatchBool written (All (λ b. canonical binary32 b ≡ b) bits) (All (λ b. canonical binary32 b ≡ b) bits → ⊥)
    → (IsTrue written ↔ (old ≡ split_text (map (canonical binary32) bits) ++ new))
split_judged written count old bits new read told = (
  λ is. read.whole ∙ ap (λ p. p ++ new) (read.spelled.whole ∙ ap split_text (sym (canonical_each binary32 bits (fact_of written told is)))),
  λ same.
      let both = split_once bits (map (canonical binary32) bits) new new (sym (length-map bits (canonical binary32)))
      (sym (read.whole ∙ ap (λ p. p ++ new) read.spelled.whole) ∙ same) in
      answer_of written told (each_canonical binary32 bits (sym both.0)),
)
