-- Packed digits are read back, in one way.
use Rattle.std.proofs.Common.{◌≡◌, ℕ, zero, suc, ◌+◌, ◌*◌, ◌/◌, ◌%◌, ◌^◌, ◌<◌, ◌≤◌, List, [], ◌∷◌, ◌++◌, length, take, drop, get_or, All, ltb, Some, None, arith, ap, refl, sym, ◌∙◌, ⊎_elim}
use Rattle.std.specs.Int.{div_ceil}
use Rattle.std.proofs.Math.Nat.{pow-zero, pow-succ', div-one, add-mul-mod_self_left, mod-eq_of_lt, div-div-eq-div-mul, add-mul-div_left, div-eq_of_lt, mod-lt, mul-le-mul_left, le-mul_of_pos_right, lt_of_mul-lt-mul_right}
use Rattle.std.proofs.lemmas.Nat.{mul-add-lt, div_below, div-add-mod'}
use Rattle.std.proofs.lemmas.Bool.{cond_both, ltb-true, cases_Bool, cond-false}
use Rattle.std.proofs.lemmas.Grind.{div_ceil_times, same_number_lists}
use Rattle.std.proofs.lemmas.List.{length-append, length-take, length-drop, get_or-take, get_or-drop, take_at, append_cancel_left, nil_from_length}
use Rattle.std.proofs.lemmas.List.Elements.{All-head, All-tail, All-take, All-drop}
use Rattle.std.proofs.lemmas.List.FromFn.{length-map-range_with_len, get_or-map-range_with_len}
use Rattle.bitcode_memory.specs.declared.error.Reason.{Reason}
use Rattle.bitcode_columns.specs.declared.pack.Base.{Base}
use Rattle.bitcode_columns.specs.declared.pack.Base.TheVariants.{Whole, Sixteen, Six, Four, Three, Two}
use Rattle.bitcode_columns.specs.Digits.{radix, digits_in_byte, base_for, digit, number_with_digits, SpellsDigits, digits_text}
use Rattle.bitcode_columns.specs.Reading.{missing, digits_fault}
use Rattle.bitcode_columns.specs.Laws.{IsReadOnce, TakesAnEighth, IsFaultOf}

digit_first : (base d number : ℕ) → d < base → digit base (d + base * number) 0 ≡ d
digit_first base d number h =
    ap (λ n. n % base) (ap (λ p. (d + base * number) / p) (pow-zero base) ∙ div-one (d + base * number))
    ∙ add-mul-mod_self_left d base number
    ∙ mod-eq_of_lt h

digit_later : (base d number place : ℕ) → d < base → digit base (d + base * number) (suc place) ≡ digit base number place
digit_later base d number place h =
    ap (λ n. n % base)
    (ap (λ p. (d + base * number) / p) (pow-succ' base place)
    ∙ sym (div-div-eq-div-mul (d + base * number) base (base ^ place))
    ∙ ap (λ n. n / base ^ place) (add-mul-div_left d number (omega arith) ∙ ap (λ n. n + number) (div-eq_of_lt h) ∙ omega arith))

-- digits below the radix: each is found again, and their number is below the radix to their count
pub digit-number_with_digits : (radix : ℕ) (digits : List ℕ) (place : ℕ) → 1 ≤ radix → All (λ d. d < radix) digits → place < length digits
    → digit radix (number_with_digits radix digits) place ≡ get_or digits place 0
digit-number_with_digits base [] place positive h inside = absurd (omega arith)
digit-number_with_digits base (d ∷ digits) zero positive h inside = digit_first base d (number_with_digits base digits) (All-head (λ d. d < base) d digits h)
digit-number_with_digits base (d ∷ digits) (suc place) positive h inside =
    digit_later base d (number_with_digits base digits) place (All-head (λ d. d < base) d digits h)
    ∙ digit-number_with_digits base digits place positive (All-tail (λ d. d < base) d digits h) (omega arith)

pub number_with_digits_below : (radix : ℕ) (digits : List ℕ) → All (λ d. d < radix) digits → number_with_digits radix digits < radix ^ length digits
number_with_digits_below base [] h = omega (arith, pow-zero base)
number_with_digits_below base (d ∷ digits) h =
    omega (
      arith,
      pow-succ' base (length digits),
      mul-add-lt (number_with_digits base digits) base d (base ^ length digits)
          (number_with_digits_below base digits (All-tail (λ d. d < base) d digits h)) (All-head (λ d. d < base) d digits h),
    )

pub base_for_above : (greatest : ℕ) → greatest < 256 → greatest < radix (base_for greatest)
base_for_above greatest h =
    cond_both (ltb greatest 2) Two _ (λ b. greatest < radix b) (λ e. ltb-true _ _ e) λ not_two.
    cond_both (ltb greatest 3) Three _ (λ b. greatest < radix b) (λ e. ltb-true _ _ e) λ not_three.
    cond_both (ltb greatest 4) Four _ (λ b. greatest < radix b) (λ e. ltb-true _ _ e) λ not_four.
    cond_both (ltb greatest 6) Six _ (λ b. greatest < radix b) (λ e. ltb-true _ _ e) λ not_six.
    cond_both (ltb greatest 16) Sixteen Whole (λ b. greatest < radix b) (λ e. ltb-true _ _ e) λ not_sixteen. h

pub some_digits : (base : Base) → (1 ≤ digits_in_byte base) × (digits_in_byte base ≤ 8) × (1 ≤ radix base)
some_digits Whole = omega arith
some_digits Sixteen = omega arith
some_digits Six = omega arith
some_digits Four = omega arith
some_digits Three = omega arith
some_digits Two = omega arith

digits_text_at : (base : Base) (entries : List ℕ) (byte : ℕ) → byte < div_ceil (length entries) (digits_in_byte base)
    → get_or (digits_text base entries) byte 0 ≡ number_with_digits (radix base) (take (digits_in_byte base) (drop (byte * digits_in_byte base) entries))
unfolding digits_text
digits_text_at base entries byte h =
    get_or-map-range_with_len (λ b. number_with_digits (radix base) (take (digits_in_byte base) (drop (b * digits_in_byte base) entries)))
    0 (div_ceil (length entries) (digits_in_byte base)) byte byte 0 h (omega arith)

pub size-digits_text : (base : Base) (entries : List ℕ) → length (digits_text base entries) ≡ div_ceil (length entries) (digits_in_byte base)
unfolding digits_text
size-digits_text base entries =
    length-map-range_with_len (λ b. number_with_digits (radix base) (take (digits_in_byte base) (drop (b * digits_in_byte base) entries)))
    0 (div_ceil (length entries) (digits_in_byte base))

-- the byte of an entry is one of them
pub byte_inside : (i count digits : ℕ) → 1 ≤ digits → i < count → i / digits < div_ceil count digits
byte_inside i count digits some h = div_below i digits (div_ceil count digits) some (omega (arith, div_ceil_times count digits some))

piece_at : (digits : ℕ) (entries : List ℕ) (i : ℕ) → 1 ≤ digits → i < length entries
    → (i % digits < length (take digits (drop (i / digits * digits) entries)))
    × (get_or (take digits (drop (i / digits * digits) entries)) (i % digits) 0 ≡ get_or entries i 0)
piece_at digits entries i some h = (
  omega (arith, length-take digits (drop (i / digits * digits) entries), length-drop (i / digits * digits) entries, div-add-mod' i digits, mod-lt i some),
  get_or-take digits (drop (i / digits * digits) entries) (i % digits) 0 (mod-lt i some)
      ∙ get_or-drop (i / digits * digits) entries (i % digits) 0
      ∙ ap (λ k. get_or entries k 0) (div-add-mod' i digits),
)

pub digits_text-spells : (base : Base) (entries : List ℕ) → All (λ e. e < radix base) entries → SpellsDigits base (digits_text base entries) entries
digits_text-spells base entries h = record {
  size = size-digits_text base entries;
  each = λ i inside.
      let at = piece_at (digits_in_byte base) entries i (some_digits base).0 inside in
      sym (ap (λ byte. digit (radix base) byte (i % digits_in_byte base))
      (digits_text_at base entries (i / digits_in_byte base) (byte_inside i (length entries) (digits_in_byte base) (some_digits base).0 inside))
      ∙ digit-number_with_digits (radix base) (take (digits_in_byte base) (drop (i / digits_in_byte base * digits_in_byte base) entries)) (i % digits_in_byte base)
      (some_digits base).2
      (All-take (λ e. e < radix base) (digits_in_byte base) _ (All-drop (λ e. e < radix base) (i / digits_in_byte base * digits_in_byte base) entries h))
      at.0
      ∙ at.1);
}

-- so many bytes are no more than any number of bytes that has a digit for each
div_ceil_at_most : (count digits bytes : ℕ) → 1 ≤ digits → count ≤ bytes * digits → div_ceil count digits ≤ bytes
div_ceil_at_most count digits bytes some h =
    let below : div_ceil count digits < bytes + 1 = lt_of_mul-lt-mul_right digits (omega (arith, div_ceil_times count digits some)) in
    omega arith

pub length-digits_text : (base : Base) (entries : List ℕ) → length (digits_text base entries) ≤ length entries
length-digits_text base entries =
    omega (
      arith,
      size-digits_text base entries,
      div_ceil_at_most (length entries) (digits_in_byte base) (length entries) (some_digits base).0
          (le-mul_of_pos_right (length entries) (some_digits base).0),
    )

-- two splits of a list at one length
pub same_parts : (piece other rest left : List ℕ) → length piece ≡ length other → piece ++ rest ≡ other ++ left → (piece ≡ other) × (rest ≡ left)
same_parts piece other rest left size whole =
    (same, append_cancel_left other rest left (ap (λ front. front ++ rest) (sym same) ∙ whole))
  where
    same : piece ≡ other
    same = sym (take_at piece rest (length piece) refl) ∙ ap (take (length piece)) whole ∙ take_at other left (length piece) (sym size)

pub SpellsDigits-unambiguous : (base : Base) → IsReadOnce (SpellsDigits base)
SpellsDigits-unambiguous base = record {
  unambiguous = λ piece other entries others rest left s t counts split.
      let parts = same_parts piece other rest left (s.size ∙ ap (λ n. div_ceil n (digits_in_byte base)) counts ∙ sym t.size) split in (
        same_number_lists entries others counts (λ i inside.
            s.each i inside
            ∙ ap (λ bytes. digit (radix base) (get_or bytes (i / digits_in_byte base) 0) (i % digits_in_byte base)) parts.0
            ∙ sym (t.each i (omega arith))),
        parts.1,
      );
}

pub SpellsDigits-size_bound : (base : Base) → TakesAnEighth (SpellsDigits base)
SpellsDigits-size_bound base = record {
  nothing = λ piece s. nil_from_length piece (omega (arith, s.size, div_ceil_at_most 0 (digits_in_byte base) 0 (some_digits base).0 (omega arith)));
  size_bound = λ piece entries s.
      omega (
        arith,
        s.size,
        div_ceil_times (length entries) (digits_in_byte base) (some_digits base).0,
        mul-le-mul_left (div_ceil (length entries) (digits_in_byte base)) (some_digits base).1,
      );
}

-- an input of which a fault is named is too short
pub missing_short : (wanted : ℕ) (input : List ℕ) (reason : Reason) → missing wanted input ≡ Some reason → length input < wanted
missing_short wanted input reason named =
    ⊎_elim (λ short. ltb-true _ _ short)
    (λ enough. let none : missing wanted input ≡ None = cond-false _ _ _ enough in absurd (cc))
    (cases_Bool (ltb (length input) wanted))

pub digits_fault-refuses : (base : Base) → IsFaultOf (digits_fault base) (SpellsDigits base)
digits_fault-refuses base = record {
  refused = λ count input reason named piece entries rest s counts whole.
      omega (
        arith,
        missing_short (div_ceil count (digits_in_byte base)) input reason named,
        s.size,
        ap (λ n. div_ceil n (digits_in_byte base)) counts,
        ap length whole,
        length-append piece rest,
      );
}
