-- The laws of integer columns, at each width.
use Rattle.std.proofs.Common.{◌≡◌, ℕ, ◌+◌, ◌-◌, ◌*◌, ◌/◌, ◌^◌, ◌<◌, ◌≤◌, Bool, true, false, cond, eqb, ltb, ◌||◌, ◌&&◌, ℤ, pos, List, [], ◌++◌, length, get_or, map, All, MatchBool, refl, sym, ap, ◌∙◌, subst, inl, inr, ⊎_elim, ◌⊎◌, arith, length-append, map-id, mul-le-mul_left, mul-le-mul_right, mul-div_cancel, div-mul-le_self, div-le_self, div-one}
use Rattle.std.specs.Prelude.{◌-ℤ◌, unsigned_abs}
use Rattle.std.proofs.Math.Nat.{pow-le-pow_right}
use Rattle.std.proofs.lemmas.Bool.{cond_both, eqb-true, eqb-false, ltb-true, ltb-false, and_parts, or_parts, cases_lt}
use Rattle.std.proofs.lemmas.Nat.{pow_pos, pow-add, pow_below, le-div}
use Rattle.std.proofs.lemmas.List.{length-map}
use Rattle.std.proofs.lemmas.List.Elements.{All-map, All-weaker}
use Rattle.std.proofs.lemmas.Simd.{map-map}
use Rattle.bitcode_memory.specs.LittleEndian.{number_bytes, SpellsRaw, raw_text}
use Rattle.bitcode_memory.specs.Ints.{IsNumber, residue, least}
use Rattle.bitcode_columns.specs.Tagged.{plain_level, shifted_level, is_shifted, plain_text, shifted_text, tagged_text}
use Rattle.bitcode_columns.specs.ByteColumn.{SpellsBytes, byte_text}
use Rattle.bitcode_memory.specs.IntWidths.{IsWidth}
use Rattle.bitcode_columns.specs.IntColumn.{halvings, highest_int_tag, width_at_level, IntForm, bytes_form, bare_form, tagged_form, int_form, SpellsNarrow, SpellsAtIntLevel, SpellsIntsAs, SpellsInts, width_for, int_level_for, narrow_text, text_at_int_level, int_text_as, int_text}
use Rattle.bitcode_columns.specs.Reading.{missing, bytes_fault, narrow_fault, ints_fault_as, ints_fault}
use Rattle.bitcode_columns.specs.Laws.{IsReadOnce, TakesAnEighth, IsFaultOf, IsReadBack, TakesAtMostOneMore}
use Rattle.bitcode_memory.proofs.IntLemmas.{residue_below}
use Rattle.bitcode_memory.proofs.LittleEndianLemmas.{length-number_bytes}
use Rattle.bitcode_columns.proofs.RawLemmas.{length-raw_text, SpellsRaw-unambiguous, SpellsRaw-size_bound, missing-refuses_raw}
use Rattle.bitcode_columns.proofs.TaggedLemmas.{HoldsData, SpellsTagged-unambiguous, SpellsTagged-size_bound, tagged_fault-refuses, tagged_text-spells}
use Rattle.bitcode_columns.proofs.ByteColumnLemmas.{SpellsBytes-unambiguous, SpellsBytes-size_bound, bytes_fault-refuses, byte_text-spells, byte_text_at_most}

-- ---- read once

either_once : (b : Bool) (SpellsThen SpellsElse : List ℕ → List ℕ → Type 0) → IsReadOnce SpellsThen → IsReadOnce SpellsElse
    → IsReadOnce (λ bytes numbers. MatchBool b (SpellsThen bytes numbers) (SpellsElse bytes numbers))
either_once true SpellsThen SpellsElse x y = x
either_once false SpellsThen SpellsElse x y = y

as_once : (form : IntForm) (width : ℕ) → IsReadOnce (SpellsIntsAs form width)
as_once bytes_form width = SpellsBytes-unambiguous
as_once bare_form width = SpellsRaw-unambiguous width
as_once tagged_form width = SpellsTagged-unambiguous width (highest_int_tag width) (SpellsAtIntLevel width)
    (λ level. either_once (eqb (width_at_level width level) 1) SpellsBytes (SpellsRaw (width_at_level width level))
    SpellsBytes-unambiguous (SpellsRaw-unambiguous (width_at_level width level)))

pub SpellsInts-unambiguous : (width : ℕ) → IsReadOnce (SpellsInts width)
SpellsInts-unambiguous width = record {
  unambiguous = λ piece other entries others rest left s t same e.
      (as_once (int_form width (length entries)) width).unambiguous piece other entries others rest left s
      (subst (λ count. SpellsIntsAs (int_form width count) width other others) (sym same) t) same e;
}

-- ---- an eighth

pub at_width : (P : ℕ → Type 0) → P 1 → P 2 → P 4 → P 8 → P 16 → (width : ℕ) → IsWidth width → P width
at_width P p1 p2 p4 p8 p16 width (inl e) = subst P (sym e) p1
at_width P p1 p2 p4 p8 p16 width (inr (inl e)) = subst P (sym e) p2
at_width P p1 p2 p4 p8 p16 width (inr (inr (inl e))) = subst P (sym e) p4
at_width P p1 p2 p4 p8 p16 width (inr (inr (inr (inl e)))) = subst P (sym e) p8
at_width P p1 p2 p4 p8 p16 width (inr (inr (inr (inr e)))) = subst P (sym e) p16

pub halvings_exact : (width : ℕ) → IsWidth width → 2 ^ halvings width ≡ width
halvings_exact = at_width (λ width. 2 ^ halvings width ≡ width) refl refl refl refl refl

pub some_width : (width : ℕ) → IsWidth width → 1 ≤ width
some_width = at_width (λ width. 1 ≤ width) (omega arith) (omega arith) (omega arith) (omega arith) (omega arith)

narrow_positive : (width level : ℕ) → IsWidth width → level ≤ halvings width → 1 ≤ width_at_level width level
narrow_positive width level is_width h =
    le-div 1 width (2 ^ level) (pow_pos level)
    (omega (arith, pow-le-pow_right {n = 2} (omega arith) {i = level} {j = halvings width} h, halvings_exact width is_width))

either_eighth : (b : Bool) (width : ℕ) → 1 ≤ width → (bytes numbers : List ℕ) → MatchBool b (SpellsBytes bytes numbers) (SpellsRaw width bytes numbers)
    → length numbers ≤ 8 * length bytes
either_eighth true width positive bytes numbers s = SpellsBytes-size_bound.size_bound bytes numbers s
either_eighth false width positive bytes numbers s = (SpellsRaw-size_bound width positive).size_bound bytes numbers s

as_eighth : (form : IntForm) (width : ℕ) → IsWidth width → (piece entries : List ℕ) → SpellsIntsAs form width piece entries → length entries ≤ 8 * length piece
as_eighth bytes_form width is_width piece entries s = SpellsBytes-size_bound.size_bound piece entries s
as_eighth bare_form width is_width piece entries s = (SpellsRaw-size_bound width (some_width width is_width)).size_bound piece entries s
as_eighth tagged_form width is_width piece entries s = SpellsTagged-size_bound width (highest_int_tag width) (SpellsAtIntLevel width)
    (λ level body narrow within at_level. either_eighth (eqb (width_at_level width level) 1) (width_at_level width level)
    (narrow_positive width level is_width (omega arith)) body narrow at_level)
    piece entries s

nothing_of : (b : Bool) (width : ℕ) (piece : List ℕ) → SpellsIntsAs (cond b bytes_form bare_form) width piece [] → piece ≡ []
unfolding raw_text
nothing_of true width piece s = SpellsBytes-size_bound.nothing piece s
nothing_of false width piece s = s.whole

pub SpellsInts-size_bound : (width : ℕ) → IsWidth width → TakesAnEighth (SpellsInts width)
SpellsInts-size_bound width is_width = record {
  nothing = λ piece s. nothing_of (eqb width 1) width piece s;
  size_bound = λ piece entries s. as_eighth (int_form width (length entries)) width is_width piece entries s;
}

-- ---- refused

either_refuses : (b : Bool) (width : ℕ) → IsFaultOf (λ count input. cond b (bytes_fault count input) (missing (count * width) input))
    (λ bytes numbers. MatchBool b (SpellsBytes bytes numbers) (SpellsRaw width bytes numbers))
either_refuses true width = bytes_fault-refuses
either_refuses false width = missing-refuses_raw width

as_refuses : (form : IntForm) (width : ℕ) → IsFaultOf (λ count input. ints_fault_as form width count input) (SpellsIntsAs form width)
as_refuses bytes_form width = bytes_fault-refuses
as_refuses bare_form width = missing-refuses_raw width
as_refuses tagged_form width = tagged_fault-refuses width (highest_int_tag width) (SpellsAtIntLevel width)
    (λ count level. narrow_fault count (width_at_level width level))
    (λ level. either_refuses (eqb (width_at_level width level) 1) (width_at_level width level))

pub ints_fault-refuses : (width : ℕ) → IsFaultOf (ints_fault width) (SpellsInts width)
ints_fault-refuses width = record {
  refused = λ count input reason fault piece entries rest s size whole.
      (as_refuses (int_form width count) width).refused count input reason fault piece entries rest
      (subst (λ n. SpellsIntsAs (int_form width n) width piece entries) size s) size whole;
}

-- ---- read back

pos_residues : (numbers : List ℕ) → map (residue 1) (map pos numbers) ≡ numbers
pos_residues numbers = map-map (residue 1) pos numbers ∙ map-id numbers

either_spells : (b : Bool) (width : ℕ) (numbers : List ℕ) → (b ≡ true → SpellsBytes (byte_text (map pos numbers)) numbers) → SpellsRaw width (raw_text width numbers) numbers
    → MatchBool b (SpellsBytes (cond b (byte_text (map pos numbers)) (raw_text width numbers)) numbers)
    (SpellsRaw width (cond b (byte_text (map pos numbers)) (raw_text width numbers)) numbers)
either_spells true width numbers bytes raw = bytes refl
either_spells false width numbers bytes raw = raw

narrow_text-spells : (width : ℕ) (numbers : List ℕ) → All (λ n. n < 256 ^ width) numbers → SpellsNarrow width (narrow_text width numbers) numbers
narrow_text-spells width numbers h = either_spells (eqb width 1) width numbers
    (λ one. let small : All (λ n. n < 256 ^ 1) numbers = subst (λ w. All (λ n. n < 256 ^ w) numbers) (eqb-true width 1 one) h in
    subst (λ ns. SpellsBytes (byte_text (map pos numbers)) ns) (pos_residues numbers)
    (byte_text-spells.back false (map pos numbers) (All-map (IsNumber 1 false) pos numbers small)))
    (record { whole = refl; fit = h })

-- a width above a narrower one is at least the next
next_width : (width : ℕ) → IsWidth width → (1 < width → 2 ≤ width) × (2 < width → 4 ≤ width) × (4 < width → 8 ≤ width) × (8 < width → 16 ≤ width)
next_width = at_width (λ width. (1 < width → 2 ≤ width) × (2 < width → 4 ≤ width) × (4 < width → 8 ≤ width) × (8 < width → 16 ≤ width))
    (omega arith) (omega arith) (omega arith) (omega arith) (omega arith)

narrower : (width narrow bound : ℕ) → bound < 256 ^ width → 256 ^ narrow ≤ bound → narrow < width
narrower width narrow bound h k = ⊎_elim (λ below. below)
    (λ above. absurd (omega (arith, pow-le-pow_right {n = 256} (omega arith) {i = width} {j = narrow} above)))
    (cases_lt narrow width)

-- the width for a number is a width that holds it, and none that does is below it
pub width_for_fits : (width bound : ℕ) → IsWidth width → bound < 256 ^ width
    → IsWidth (width_for bound) × (bound < 256 ^ width_for bound) × (width_for bound ≤ width)
width_for_fits width bound is_width h =
    let P : ℕ → Type 0 = λ w. IsWidth w × (bound < 256 ^ w) × (w ≤ width) in
    let next = next_width width is_width in
    cond_both (ltb bound (256 ^ 1)) _ _ P (λ t. (inl refl, ltb-true _ _ t, some_width width is_width)) (λ f1.
    cond_both (ltb bound (256 ^ 2)) _ _ P (λ t. (inr (inl refl), ltb-true _ _ t, next.0 (narrower width 1 bound h (ltb-false _ _ f1)))) (λ f2.
    cond_both (ltb bound (256 ^ 4)) _ _ P (λ t. (inr (inr (inl refl)), ltb-true _ _ t, next.1 (narrower width 2 bound h (ltb-false _ _ f2)))) (λ f4.
    cond_both (ltb bound (256 ^ 8)) _ _ P (λ t. (inr (inr (inr (inl refl))), ltb-true _ _ t, next.2 (narrower width 4 bound h (ltb-false _ _ f4)))) (λ f8.
    let wide : 16 ≤ width = next.3 (narrower width 8 bound h (ltb-false _ _ f8)) in
    let most : width ≤ 16 = at_width (λ w. w ≤ 16) (omega arith) (omega arith) (omega arith) (omega arith) (omega arith) width is_width in
    let whole : width ≡ 16 = omega arith in
    (inr (inr (inr (inr refl))), subst (λ w. bound < 256 ^ w) whole h, wide)))))

pub halvings_order : (narrow width : ℕ) → IsWidth narrow → IsWidth width → narrow ≤ width → halvings narrow ≤ halvings width
halvings_order narrow width is_narrow is_width h = ⊎_elim
    (λ above. absurd (omega (arith, pow_below (halvings width) (halvings narrow) above, halvings_exact narrow is_narrow, halvings_exact width is_width)))
    (λ below. below)
    (cases_lt (halvings width) (halvings narrow))

-- the level between two widths leads from one to the other
pub width_at_level_between : (width narrow : ℕ) → IsWidth width → IsWidth narrow → narrow ≤ width
    → width_at_level width (halvings width - halvings narrow) ≡ narrow
width_at_level_between width narrow is_width is_narrow h =
    let level : ℕ = halvings width - halvings narrow in
    let order : halvings narrow ≤ halvings width = halvings_order narrow width is_narrow is_width h in
    let split : width ≡ narrow * 2 ^ level =
    sym (halvings_exact width is_width) ∙ (ap (λ n. 2 ^ n) (omega arith) ∙ (pow-add 2 (halvings narrow) level
    ∙ ap (λ n. n * 2 ^ level) (halvings_exact narrow is_narrow))) in
    ap (λ n. n / 2 ^ level) split ∙ mul-div_cancel narrow (pow_pos level)

int_levels_hold : (width : ℕ) → IsWidth width → HoldsData width (highest_int_tag width) (SpellsAtIntLevel width) (int_level_for width) (text_at_int_level width)
int_levels_hold width is_width = record {
  low = λ bound. omega arith;
  whole = λ numbers h. narrow_text-spells (width_at_level width 0) numbers (subst (λ w. All (λ n. n < 256 ^ w) numbers) (sym (div-one width)) h);
  narrowed = λ bound numbers small h.
      let fits = width_for_fits width bound is_width small in
      let same : width_at_level width (int_level_for width bound) ≡ width_for bound = width_at_level_between width (width_for bound) is_width fits.0 fits.2 in
      let below : bound < 256 ^ width_at_level width (int_level_for width bound) = subst (λ w. bound < 256 ^ w) (sym same) fits.1 in
      narrow_text-spells (width_at_level width (int_level_for width bound)) numbers
      (All-weaker (λ n. n ≤ bound) (λ n. n < 256 ^ width_at_level width (int_level_for width bound)) (λ n le. omega arith) numbers h);
}

pub int_text-spells : (width : ℕ) → IsWidth width → IsReadBack width (SpellsInts width) (int_text width)
unfolding int_text
int_text-spells width is_width = record {
  back = λ signed entries h.
      let residues : List ℕ = map (residue width) entries in
      let P : IntForm → Type 0 = λ form. SpellsIntsAs form width (int_text_as form width entries) residues in
      let count : ℕ = length entries in
      let bare : Bool = eqb count 0 || (eqb width 2 && eqb count 1) in
      let spelled : P (int_form width count) =
      cond_both (eqb width 1) bytes_form (cond bare bare_form tagged_form) P
      (λ one. subst (λ w. All (IsNumber w signed) entries → SpellsBytes (byte_text entries) (map (residue w) entries)) (sym (eqb-true width 1 one))
      (byte_text-spells.back signed entries) h)
      (λ wide. cond_both bare bare_form tagged_form P
      (λ few. record {
        whole = refl;
        fit = All-map (λ n. n < 256 ^ width) (residue width) entries (λ k d i. residue_below width signed (get_or entries k d) (h k d i));
      })
      (λ many. tagged_text-spells width (highest_int_tag width) (SpellsAtIntLevel width) (int_level_for width) (text_at_int_level width)
      (int_levels_hold width is_width) signed entries (some_width width is_width)
      (omega (arith, eqb-false count 0 (or_parts (eqb count 0) (eqb width 2 && eqb count 1) many).0)) h)) in
      subst (λ n. SpellsIntsAs (int_form width n) width (int_text_as (int_form width count) width entries) residues) (sym (length-map entries (residue width))) spelled;
}

-- ---- how long

narrow_text_at_most : (width : ℕ) (numbers : List ℕ)
    → (length (narrow_text width numbers) ≤ length numbers * width) ⊎ (length (narrow_text width numbers) ≤ length numbers + 1)
narrow_text_at_most width numbers =
    cond_both (eqb width 1) (byte_text (map pos numbers)) (raw_text width numbers)
    (λ text. (length text ≤ length numbers * width) ⊎ (length text ≤ length numbers + 1))
    (λ one. inr (omega (arith, byte_text_at_most (map pos numbers), length-map numbers pos)))
    (λ wide. inl (omega (arith, length-raw_text width numbers)))

half_width : (width level : ℕ) → 1 ≤ level → 2 * width_at_level width level ≤ width
half_width width level high = omega (
  arith,
  div-mul-le_self width (2 ^ level),
  mul-le-mul_left (width / 2 ^ level) (pow-le-pow_right {n = 2} (omega arith) {i = 1} {j = level} high),
)

tagged_at_most : (width : ℕ) (entries : List ℤ) → 2 ≤ width → 1 ≤ length entries
    → length (tagged_text width (int_level_for width) (text_at_int_level width) entries) ≤ width * length entries + 1
unfolding tagged_text
tagged_at_most width entries wide some =
    let count : ℕ = length entries in
    let low : ℤ = least entries in
    let level : ℕ = shifted_level (int_level_for width) entries in
    let plain_width : ℕ = width_at_level width (plain_level (int_level_for width) entries) in
    let distances : List ℕ = map (λ e. unsigned_abs (e -ℤ low)) entries in
    cond_both (is_shifted (int_level_for width) entries) (shifted_text width (int_level_for width) (text_at_int_level width) entries)
    (plain_text width (int_level_for width) (text_at_int_level width) entries)
    (λ text. length text ≤ width * count + 1)
    (λ shifted.
    let tests = and_parts (ltb 5 count) (ltb (plain_level (int_level_for width) entries) level) shifted in
    let many : 5 < count = ltb-true 5 count tests.0 in
    let high : 1 ≤ level = omega (arith, ltb-true _ _ tests.1) in
    let front : length (number_bytes width (residue width low) ++ text_at_int_level width level distances)
    ≡ width + length (text_at_int_level width level distances) =
    length-append (number_bytes width (residue width low)) (text_at_int_level width level distances)
    ∙ ap (λ n. n + length (text_at_int_level width level distances)) (length-number_bytes width (residue width low)) in
    let sizes : length distances ≡ count = length-map entries (λ e. unsigned_abs (e -ℤ low)) in
    ⊎_elim
    (λ raw. omega (
      arith,
      front,
      raw,
      ap (λ n. n * width_at_level width level) sizes,
      mul-le-mul_left count (half_width width level high),
      mul-le-mul_right width many,
    ))
    (λ bytes. omega (arith, front, bytes, sizes, mul-le-mul_left count wide, mul-le-mul_right width many))
    (narrow_text_at_most (width_at_level width level) distances))
    (λ plain. ⊎_elim
    (λ raw. omega (arith, raw, ap (λ n. n * plain_width) (length-map entries (residue width)), mul-le-mul_left count (div-le_self width (2 ^ plain_level (int_level_for width) entries))))
    (λ bytes. omega (arith, bytes, length-map entries (residue width), mul-le-mul_left count wide))
    (narrow_text_at_most plain_width (map (residue width) entries)))

pub length-int_text : (width : ℕ) → IsWidth width → TakesAtMostOneMore width (int_text width)
unfolding int_text
length-int_text width is_width = record {
  at_most = λ signed entries h.
      let count : ℕ = length entries in
      let bare : Bool = eqb count 0 || (eqb width 2 && eqb count 1) in
      let P : IntForm → Type 0 = λ form. length (int_text_as form width entries) ≤ width * count + 1 in
      cond_both (eqb width 1) bytes_form (cond bare bare_form tagged_form) P
      (λ one. omega (arith, byte_text_at_most entries, ap (λ w. w * count) (eqb-true width 1 one)))
      (λ wide. cond_both bare bare_form tagged_form P
      (λ few. omega (arith, length-raw_text width (map (residue width) entries), ap (λ n. n * width) (length-map entries (residue width))))
      (λ many. tagged_at_most width entries (omega (arith, some_width width is_width, eqb-false width 1 wide))
      (omega (arith, eqb-false count 0 (or_parts (eqb count 0) (eqb width 2 && eqb count 1) many).0))));
}
