-- The laws of byte columns.
use Rattle.std.proofs.Common.{◌≡◌, ℕ, ◌+◌, ◌*◌, ◌/◌, ◌<◌, ◌≤◌, leb, ltb, Option, List, ◌++◌, length, map, ℤ, refl, sym, ap, ◌∙◌, subst, inl, inr, ⊎_elim, arith, le_refl, length-append, mul-le-mul_left, div-add-mod'}
use Rattle.std.specs.Prelude.{◌-ℤ◌, unsigned_abs}
use Rattle.std.specs.Int.{div_ceil}
use Rattle.std.proofs.lemmas.Bool.{cond_both, cond-true, cond-false, le-leb, lt-leb, leb-true, leb-false, ltb-true, and_parts}
use Rattle.std.proofs.lemmas.List.{length-map}
use Rattle.std.proofs.lemmas.List.Elements.{All-weaker}
use Rattle.std.proofs.lemmas.List.FromFn.{length-map-range_with_len}
use Rattle.bitcode_memory.specs.declared.error.Reason.{Reason}
use Rattle.bitcode_columns.specs.declared.pack.Base.{Base}
use Rattle.bitcode_columns.specs.declared.pack.Base.TheVariants.{Whole, Sixteen, Six, Four, Three, Two}
use Rattle.bitcode_memory.specs.LittleEndian.{number_bytes}
use Rattle.bitcode_memory.specs.Ints.{residue, least}
use Rattle.bitcode_columns.specs.Digits.{radix, digits_in_byte, base_for, SpellsDigits, digits_text}
use Rattle.bitcode_columns.specs.Tagged.{plain_level, shifted_level, is_shifted, plain_text, shifted_text, tagged_text}
use Rattle.bitcode_columns.specs.ByteColumn.{level_of_base, base_at_level, highest_byte_tag, SpellsAtByteLevel, SpellsBytes, byte_level_for, text_at_byte_level, byte_text}
use Rattle.bitcode_columns.specs.Reading.{missing, digits_fault, tagged_fault, bytes_fault}
use Rattle.bitcode_columns.specs.Laws.{IsReadOnce, TakesAnEighth, IsFaultOf, IsReadBack, TakesAtMostOneMore}
use Rattle.bitcode_columns.proofs.FrontLemmas.{append_split}
use Rattle.bitcode_columns.proofs.DigitLemmas.{base_for_above, digits_text-spells, length-digits_text, SpellsDigits-unambiguous, SpellsDigits-size_bound, digits_fault-refuses}
use Rattle.bitcode_memory.proofs.LittleEndianLemmas.{length-number_bytes}
use Rattle.bitcode_columns.proofs.RawLemmas.{missing_short}
use Rattle.bitcode_columns.proofs.TaggedLemmas.{HoldsData, SpellsTagged-unambiguous, SpellsTagged-size_bound, tagged_fault-refuses, tagged_text-spells}

pub SpellsBytes-unambiguous : IsReadOnce SpellsBytes
SpellsBytes-unambiguous = record {
  unambiguous = λ piece other entries others rest left s t same e.
      ⊎_elim
      (λ bare. ⊎_elim
      (λ plain. append_split entries others rest left same (ap (λ x. x ++ rest) (sym bare.1) ∙ (e ∙ ap (λ x. x ++ left) plain.1)))
      (λ tagged. absurd (omega (arith, bare.0, tagged.0))) t)
      (λ tagged. ⊎_elim
      (λ bare. absurd (omega (arith, bare.0, tagged.0)))
      (λ too. (SpellsTagged-unambiguous 1 highest_byte_tag SpellsAtByteLevel (λ level. SpellsDigits-unambiguous (base_at_level level))).unambiguous
      piece other entries others rest left tagged.1 too.1 same e) t)
      s;
}

pub SpellsBytes-size_bound : TakesAnEighth SpellsBytes
SpellsBytes-size_bound = record {
  nothing = λ piece s. ⊎_elim (λ bare. bare.1) (λ tagged. absurd (omega (arith, tagged.0))) s;
  size_bound = λ piece entries s. ⊎_elim
      (λ bare. omega (arith, ap length bare.1))
      (λ tagged. SpellsTagged-size_bound 1 highest_byte_tag SpellsAtByteLevel
      (λ level body narrow within at_level. (SpellsDigits-size_bound (base_at_level level)).size_bound body narrow at_level) piece entries tagged.1)
      s;
}

pub bytes_fault-refuses : IsFaultOf bytes_fault SpellsBytes
bytes_fault-refuses = record {
  refused = λ count input reason fault piece entries rest s size whole.
      let tagged_part : Option Reason = tagged_fault 1 highest_byte_tag (λ level. digits_fault (base_at_level level) count) input in
      ⊎_elim
      (λ bare. let few : count ≤ 2 = omega (arith, bare.0) in
      omega (
        arith,
        ap length whole,
        length-append piece rest,
        ap length bare.1,
        missing_short count input reason (sym (cond-true (leb count 2) (missing count input) tagged_part (le-leb count 2 few)) ∙ fault),
      ))
      (λ tagged. (tagged_fault-refuses 1 highest_byte_tag SpellsAtByteLevel (λ many level. digits_fault (base_at_level level) many)
      (λ level. digits_fault-refuses (base_at_level level))).refused
      count input reason (sym (cond-false (leb count 2) (missing count input) tagged_part (lt-leb count 2 (omega (arith, tagged.0)))) ∙ fault)
      piece entries rest tagged.1 size whole)
      s;
}

-- ---- written

level_low : (base : Base) → 2 * level_of_base base ≤ 10
level_low Whole = omega arith
level_low Sixteen = omega arith
level_low Six = omega arith
level_low Four = omega arith
level_low Three = omega arith
level_low Two = omega arith

base_at_level-level_of_base : (base : Base) → base_at_level (level_of_base base) ≡ base
base_at_level-level_of_base Whole = refl
base_at_level-level_of_base Sixteen = refl
base_at_level-level_of_base Six = refl
base_at_level-level_of_base Four = refl
base_at_level-level_of_base Three = refl
base_at_level-level_of_base Two = refl

byte_levels_hold : HoldsData 1 highest_byte_tag SpellsAtByteLevel byte_level_for text_at_byte_level
byte_levels_hold = record {
  low = λ bound. level_low (base_for bound);
  whole = λ numbers h. digits_text-spells Whole numbers h;
  narrowed = λ bound numbers small h.
      subst (λ base. SpellsDigits base (digits_text base numbers) numbers) (sym (base_at_level-level_of_base (base_for bound)))
      (digits_text-spells (base_for bound) numbers
      (All-weaker (λ n. n ≤ bound) (λ n. n < radix (base_for bound)) (λ n le. omega (arith, base_for_above bound small)) numbers h));
}

pub byte_text-spells : IsReadBack 1 SpellsBytes byte_text
unfolding byte_text
byte_text-spells = record {
  back = λ signed entries h.
      cond_both (leb (length entries) 2) (map (residue 1) entries) (tagged_text 1 byte_level_for text_at_byte_level entries)
      (λ text. SpellsBytes text (map (residue 1) entries))
      (λ few. inl (omega (arith, leb-true (length entries) 2 few, length-map entries (residue 1)), refl))
      (λ more. let many : 2 < length entries = leb-false (length entries) 2 more in
      inr (
        omega (arith, length-map entries (residue 1)),
        tagged_text-spells 1 highest_byte_tag SpellsAtByteLevel byte_level_for text_at_byte_level byte_levels_hold signed entries (le_refl 1) (omega arith) h,
      ));
}

-- ---- how long

length-digits_text_exact : (base : Base) (entries : List ℕ) → length (digits_text base entries) ≡ div_ceil (length entries) (digits_in_byte base)
unfolding digits_text
length-digits_text_exact base entries = length-map-range_with_len _ 0 (div_ceil (length entries) (digits_in_byte base))

half_at_most : (n digits : ℕ) → 2 ≤ digits → 2 * div_ceil n digits ≤ n + 1
half_at_most n digits h = omega (arith, div-add-mod' n digits, mul-le-mul_left (n / digits) h)

two_in_byte : (level : ℕ) → 1 ≤ level → 2 ≤ digits_in_byte (base_at_level level)
two_in_byte level h =
    let P : Base → Type 0 = λ base. 2 ≤ digits_in_byte base in
    cond_both (ltb level 1) _ _ P (λ none. absurd (omega (arith, ltb-true level 1 none))) (λ some.
    cond_both (ltb level 2) _ _ P (λ e. omega arith) (λ e.
    cond_both (ltb level 3) _ _ P (λ e. omega arith) (λ e.
    cond_both (ltb level 4) _ _ P (λ e. omega arith) (λ e.
    cond_both (ltb level 5) _ _ P (λ e. omega arith) (λ e. omega arith)))))

-- of more than five entries the shifted text is at most half as long, and three bytes
pub byte_text_at_most : (entries : List ℤ) → length (byte_text entries) ≤ length entries + 1
unfolding byte_text tagged_text
byte_text_at_most entries =
    let low : ℤ = least entries in
    let level : ℕ = shifted_level byte_level_for entries in
    let distances : List ℕ = map (λ e. unsigned_abs (e -ℤ low)) entries in
    let P : List ℕ → Type 0 = λ text. length text ≤ length entries + 1 in
    cond_both (leb (length entries) 2) (map (residue 1) entries) (tagged_text 1 byte_level_for text_at_byte_level entries) P
    (λ few. omega (arith, length-map entries (residue 1)))
    (λ more. cond_both (is_shifted byte_level_for entries) (shifted_text 1 byte_level_for text_at_byte_level entries) (plain_text 1 byte_level_for text_at_byte_level entries) P
    (λ shifted.
    let tests = and_parts (ltb 5 (length entries)) (ltb (plain_level byte_level_for entries) level) shifted in
    let many : 5 < length entries = ltb-true 5 (length entries) tests.0 in
    let high : 1 ≤ level = omega (arith, ltb-true _ _ tests.1) in
    omega (
      arith,
      length-append (number_bytes 1 (residue 1 low)) (text_at_byte_level level distances),
      length-number_bytes 1 (residue 1 low),
      length-digits_text_exact (base_at_level level) distances,
      half_at_most (length distances) (digits_in_byte (base_at_level level)) (two_in_byte level high),
      length-map entries (λ e. unsigned_abs (e -ℤ low)),
    ))
    (λ plain. omega (arith, length-digits_text (base_at_level (plain_level byte_level_for entries)) (map (residue 1) entries), length-map entries (residue 1))))

pub length-byte_text : TakesAtMostOneMore 1 byte_text
length-byte_text = record { at_most = λ signed entries h. omega (arith, byte_text_at_most entries) }
