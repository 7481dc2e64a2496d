-- Columns of variants are read and written as digits, and an entry that is no variant is refused.
use Rattle.std.proofs.Common.{◌≡◌, ℕ, ◌-◌, ◌/◌, ◌%◌, ◌^◌, ◌<◌, ◌≤◌, ◌++◌, Bool, true, false, cond, ltb, Some, None, List, length, map, take, get_or, All, refl, sym, ap, ◌∙◌, subst, inr, arith, length-append}
use Rattle.std.proofs.Math.ListN.{get_or-append}
use Rattle.std.proofs.Math.Nat.{mod-lt}
use Rattle.std.proofs.Math.Seq.{take-append_seam}
use Rattle.std.proofs.lemmas.List.{get_or_default}
use Rattle.std.specs.Int.{div_ceil}
use Rattle.std.specs.List.{list_all, range_with_len}
use Rattle.std.proofs.lemmas.Bool.{cond-true, cond-false, ltb-true, lt-ltb, le-ltb}
use Rattle.std.proofs.lemmas.Grind.{same_number_lists}
use Rattle.std.proofs.lemmas.List.Elements.{All-weaker}
use Rattle.std.proofs.lemmas.List.Folds.{list_all-map}
use Rattle.std.proofs.lemmas.List.FromFn.{length-map-range_with_len, get_or-map-range_with_len}
use Rattle.std.proofs.lemmas.List.Sums.{AllPass-from_list_all, list_all-from_AllPass}
use Rattle.bitcode_memory.specs.declared.error.Reason.{Reason}
use Rattle.bitcode_memory.specs.declared.error.Reason.TheVariants.{InvalidPacking}
use Rattle.bitcode_columns.specs.declared.pack.Base.{Base}
use Rattle.bitcode_columns.specs.Digits.{radix, digits_in_byte, base_for, digit, digits_text, SpellsDigits}
use Rattle.bitcode_columns.specs.Reading.{Reads, NamesVariantFault, variants_fault}
use Rattle.bitcode_columns.specs.VariantColumn.{SpellsVariants, variant_text}
use Rattle.bitcode_columns.specs.Laws.{IsReadOnce, TakesAnEighth, IsFaultOf}
use Rattle.bitcode_columns.proofs.DigitLemmas.{some_digits, byte_inside, SpellsDigits-unambiguous, SpellsDigits-size_bound, digits_text-spells, base_for_above}

-- ---- written

pub variant_text-is : (variants : ℕ) (entries : List ℕ) → variant_text variants entries ≡ digits_text (base_for (variants - 1)) entries
unfolding variant_text
variant_text-is variants entries = refl

pub digits_text-variants : (variants : ℕ) (entries : List ℕ) (base : Base) → base ≡ base_for (variants - 1)
    → digits_text base entries ≡ variant_text variants entries
digits_text-variants variants entries base is = ap (λ b. digits_text b entries) is ∙ sym (variant_text-is variants entries)

pub variants_are_digits : (variants : ℕ) (entries : List ℕ) → 2 ≤ variants → variants ≤ 256 → All (λ entry. entry < variants) entries
    → All (λ entry. entry < radix (base_for (variants - 1))) entries
variants_are_digits variants entries some few known =
    All-weaker (λ entry. entry < variants) (λ entry. entry < radix (base_for (variants - 1)))
    (λ entry below. omega (arith, base_for_above (variants - 1) (omega arith))) entries known

-- ---- read

-- whether all entries are variants
abbrev pub are_variants : ℕ → List ℕ → Bool
are_variants variants entries = list_all (λ entry. ltb entry variants) entries

pub known_variants : (variants : ℕ) (entries : List ℕ) → are_variants variants entries ≡ true → All (λ entry. entry < variants) entries
known_variants variants entries all =
    All-weaker (λ entry. ltb entry variants ≡ true) (λ entry. entry < variants) (λ entry is. ltb-true entry variants is) entries
    (AllPass-from_list_all (λ entry. ltb entry variants) entries all)

variants_known : (variants : ℕ) (entries : List ℕ) → All (λ entry. entry < variants) entries → are_variants variants entries ≡ true
variants_known variants entries known =
    list_all-from_AllPass (λ entry. ltb entry variants) entries
    (All-weaker (λ entry. entry < variants) (λ entry. ltb entry variants ≡ true) (λ entry below. lt-ltb entry variants below) entries known)

-- entries are digits of the base that they stand in
pub entries_are_digits : (base : Base) (bytes entries : List ℕ) → SpellsDigits base bytes entries → All (λ entry. entry < radix base) entries
entries_are_digits base bytes entries spelled = λ i d inside.
    let few = digits_in_byte base in
    let some : 0 < radix base = omega (arith, (some_digits base).2) in
    subst (λ entry. entry < radix base) (sym (get_or_default entries i d 0 inside ∙ spelled.each i inside))
    (mod-lt (get_or bytes (i / few) 0 / radix base ^ (i % few)) some)

-- digits below a bound that none reaches
pub digits_known : (variants radix : ℕ) (entries : List ℕ) → radix ≤ variants → All (λ entry. entry < radix) entries → are_variants variants entries ≡ true
digits_known variants radix entries high digits =
    variants_known variants entries (All-weaker (λ entry. entry < radix) (λ entry. entry < variants) (λ entry below. omega arith) entries digits)

-- what was read are the bytes before the rest
pub packed_spells : (base : Base) (count : ℕ) (old entries rest : List ℕ) → Reads (SpellsDigits base) count old entries rest → (size : ℕ)
    → size ≡ length old - length rest → SpellsDigits base (take size old) entries
packed_spells base count old entries rest read size is =
    let piece : size ≡ length read.piece = omega (arith, ap length read.whole, length-append read.piece rest) in
    subst (λ bytes. SpellsDigits base bytes entries)
    (sym (ap (take size) read.whole ∙ ap (λ n. take n (read.piece ++ rest)) piece ∙ take-append_seam read.piece rest)) read.spelled

module _ (variants count : ℕ) (input entries rest : List ℕ) (read : Reads (SpellsDigits (base_for (variants - 1))) count input entries rest) where
  base : Base
  base = base_for (variants - 1)

  size : length read.piece ≡ div_ceil count (digits_in_byte base)
  unfolding base
  size = read.spelled.size ∙ ap (λ n. div_ceil n (digits_in_byte base)) read.size

  pub bytes_enough : div_ceil count (digits_in_byte (base_for (variants - 1))) ≤ length input
  unfolding base
  bytes_enough = omega (arith, size, ap length read.whole, length-append read.piece rest)

  digit_in : ℕ → ℕ
  digit_in i = digit (radix (base_for (variants - 1))) (get_or input (i / digits_in_byte (base_for (variants - 1))) 0) (i % digits_in_byte (base_for (variants - 1)))

  -- the entries are the digits of the input
  entries_in_input : entries ≡ map digit_in (range_with_len 0 count)
  unfolding base digit_in
  entries_in_input =
      same_number_lists entries (map digit_in (range_with_len 0 count)) (read.size ∙ sym (length-map-range_with_len digit_in 0 count))
      (λ i inside.
      let few = digits_in_byte base in
      let below : i < count = omega (arith, read.size) in
      let of_piece : i / few < length read.piece = omega (arith, size, byte_inside i count few (some_digits base).0 below) in
      read.spelled.each i inside
      ∙ ap (λ byte. digit (radix base) byte (i % few)) (sym (ap (λ bytes. get_or bytes (i / few) 0) read.whole ∙ get_or-append read.piece rest 0 (i / few) of_piece))
      ∙ sym (get_or-map-range_with_len digit_in 0 count i i 0 below (omega arith)))

  -- the fault of digits that are there
  pub variants_fault-of_digits : variants_fault variants count input ≡ cond (are_variants variants entries) None (Some InvalidPacking)
  unfolding base digit_in
  variants_fault-of_digits =
      cond-false _ _ _ (le-ltb (length input) (div_ceil count (digits_in_byte base)) bytes_enough)
      ∙ ap (λ b. cond b None (Some InvalidPacking))
      (sym (ap (are_variants variants) entries_in_input ∙ list_all-map (λ entry. ltb entry variants) digit_in (range_with_len 0 count)))

  pub names_unknown : (reason : Reason) → reason ≡ InvalidPacking → are_variants variants entries ≡ false → NamesVariantFault reason variants count input
  names_unknown reason is unknown = inr (variants_fault-of_digits ∙ cond-false _ _ _ unknown ∙ ap Some (sym is))

-- ---- laws

pub SpellsVariants-unambiguous : (variants : ℕ) → IsReadOnce (SpellsVariants variants)
SpellsVariants-unambiguous variants = record {
  unambiguous = λ piece other entries others rest left s t same e.
      (SpellsDigits-unambiguous (base_for (variants - 1))).unambiguous piece other entries others rest left s.digits t.digits same e;
}

pub SpellsVariants-size_bound : (variants : ℕ) → TakesAnEighth (SpellsVariants variants)
SpellsVariants-size_bound variants = record {
  nothing = λ piece s. (SpellsDigits-size_bound (base_for (variants - 1))).nothing piece s.digits;
  size_bound = λ piece entries s. (SpellsDigits-size_bound (base_for (variants - 1))).size_bound piece entries s.digits;
}

pub variant_text-spells : (variants : ℕ) (entries : List ℕ) → 2 ≤ variants → variants ≤ 256 → All (λ entry. entry < variants) entries
    → SpellsVariants variants (variant_text variants entries) entries
unfolding variant_text
variant_text-spells variants entries some few known = record {
  digits = digits_text-spells (base_for (variants - 1)) entries (variants_are_digits variants entries some few known);
  known = known;
}

pub variants_fault-refuses : (variants : ℕ) → IsFaultOf (variants_fault variants) (SpellsVariants variants)
variants_fault-refuses variants = record {
  refused = λ count input reason named piece entries rest s counts whole.
      let read : Reads (SpellsDigits (base_for (variants - 1))) count input entries rest = record { size = counts; piece = piece; whole = whole; spelled = s.digits } in
      let none : variants_fault variants count input ≡ None =
      variants_fault-of_digits variants count input entries rest read ∙ cond-true _ _ _ (variants_known variants entries s.known) in
      absurd (cc);
}
