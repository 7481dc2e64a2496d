-- What holds of the narrow numbers at each level holds of a tagged column.
use Rattle.std.proofs.Common.{◌≡◌, ℕ, zero, suc, ◌+◌, ◌-◌, ◌*◌, ◌%◌, ◌^◌, ◌<◌, ◌≤◌, Bool, true, false, ltb, ℤ, pos, negsuc, Option, Some, List, [], ◌∷◌, ◌++◌, length, map, drop, get_or, All, refl, sym, ap, ◌∙◌, subst, ⊎_elim, arith, append_assoc, length-append, mul-one, mul-zero, add-zero, mod-eq_of_lt, pow-suc}
use Rattle.std.specs.Prelude.{◌-ℤ◌, ◌≤ℤ◌, unsigned_abs, int_lt}
use Rattle.std.proofs.lemmas.Bool.{true≢false, le-ltb, ltb-true, and_parts, cond_both}
use Rattle.std.proofs.lemmas.Int.{ints, fold-int_min_reached, fold-int_max_reached}
use Rattle.std.proofs.lemmas.List.{length-map, drop_at}
use Rattle.std.proofs.lemmas.List.Elements.{All-head, All-tail, All-contains, All-map}
use Rattle.bitcode_memory.specs.declared.error.Reason.{Reason}
use Rattle.bitcode_memory.specs.LittleEndian.{little_endian, number_bytes}
use Rattle.bitcode_memory.specs.Ints.{IsNumber, residue, least, greatest}
use Rattle.bitcode_columns.specs.Tagged.{level_of_tag, SpellsTagged, plain_level, shifted_level, is_shifted, plain_text, shifted_text, tagged_text}
use Rattle.bitcode_columns.specs.Reading.{tagged_fault}
use Rattle.bitcode_columns.specs.Laws.{IsReadOnce, IsFaultOf}
use Rattle.bitcode_columns.proofs.FrontLemmas.{append_split, map_further}
use Rattle.bitcode_memory.proofs.IntLemmas.{residue_below, residue_from, least_below, greatest_above, distances_below, residues_below}
use Rattle.bitcode_memory.proofs.LittleEndianLemmas.{length-number_bytes, little_endian-number_bytes}

-- as many entries as narrow numbers
length_tagged : (width highest : ℕ) (SpellsNarrow : ℕ → List ℕ → List ℕ → Type 0) (piece entries : List ℕ)
    → (s : SpellsTagged width highest SpellsNarrow piece entries) → length entries ≡ length s.narrow
length_tagged width highest SpellsNarrow piece entries s =
    ap length s.widened ∙ length-map s.narrow (λ n. (n + little_endian s.least_bytes) % 256 ^ width)

pub SpellsTagged-unambiguous : (width highest : ℕ) (SpellsNarrow : ℕ → List ℕ → List ℕ → Type 0)
    → ((level : ℕ) → IsReadOnce (SpellsNarrow level)) → IsReadOnce (SpellsTagged width highest SpellsNarrow)
SpellsTagged-unambiguous width highest SpellsNarrow narrow = record {
  unambiguous = λ piece other entries others rest left s t same e.
      let joined : s.tag ∷ ((s.least_bytes ++ s.body) ++ rest) ≡ t.tag ∷ ((t.least_bytes ++ t.body) ++ left) =
      ap (λ x. x ++ rest) (sym s.whole) ∙ (e ∙ ap (λ x. x ++ left) t.whole) in
      let tags : s.tag ≡ t.tag = cc joined in
      let behind : (s.least_bytes ++ s.body) ++ rest ≡ (t.least_bytes ++ t.body) ++ left = cc joined in
      let parts = append_split s.least_bytes t.least_bytes (s.body ++ rest) (t.body ++ left)
      (s.least_size ∙ (ap (λ tag. width * (tag % 2)) tags ∙ sym t.least_size))
      (sym (append_assoc s.least_bytes s.body rest) ∙ (behind ∙ append_assoc t.least_bytes t.body left)) in
      let at_level : SpellsNarrow (level_of_tag t.tag) s.body s.narrow =
      subst (λ tag. SpellsNarrow (level_of_tag tag) s.body s.narrow) tags s.narrowed in
      let sizes : length s.narrow ≡ length t.narrow = sym (length_tagged width highest SpellsNarrow piece entries s)
      ∙ (same ∙ length_tagged width highest SpellsNarrow other others t) in
      let read : (s.narrow ≡ t.narrow) × (rest ≡ left) =
      (narrow (level_of_tag t.tag)).unambiguous s.body t.body s.narrow t.narrow rest left at_level t.narrowed sizes parts.1 in
      let wide : (low : List ℕ) → List ℕ → List ℕ = λ low numbers. map (λ n. (n + little_endian low) % 256 ^ width) numbers in
      (s.widened ∙ (ap (wide s.least_bytes) read.0 ∙ (ap (λ low. wide low t.narrow) parts.0 ∙ sym t.widened)), read.1);
}

pub SpellsTagged-size_bound : (width highest : ℕ) (SpellsNarrow : ℕ → List ℕ → List ℕ → Type 0)
    → ((level : ℕ) (body narrow : List ℕ) → 2 * level ≤ highest + 1 → SpellsNarrow level body narrow → length narrow ≤ 8 * length body)
    → (piece entries : List ℕ) → SpellsTagged width highest SpellsNarrow piece entries → length entries ≤ 8 * length piece
SpellsTagged-size_bound width highest SpellsNarrow narrow piece entries s =
    let known : s.tag ≤ highest = s.known in
    let within : 2 * level_of_tag s.tag ≤ highest + 1 = omega arith in
    omega (
      arith,
      length_tagged width highest SpellsNarrow piece entries s,
      narrow (level_of_tag s.tag) s.body s.narrow within s.narrowed,
      ap length s.whole,
      length-append s.least_bytes s.body,
    )

pub tagged_fault-refuses : (width highest : ℕ) (SpellsNarrow : ℕ → List ℕ → List ℕ → Type 0) (narrow_fault : ℕ → ℕ → List ℕ → Option Reason)
    → ((level : ℕ) → IsFaultOf (λ count input. narrow_fault count level input) (SpellsNarrow level))
    → IsFaultOf (λ count input. tagged_fault width highest (λ level. narrow_fault count level) input) (SpellsTagged width highest SpellsNarrow)
tagged_fault-refuses width highest SpellsNarrow narrow_fault narrow = record {
  refused = λ count input reason fault piece entries rest s size whole.
      let opened : input ≡ s.tag ∷ ((s.least_bytes ++ s.body) ++ rest) = whole ∙ ap (λ x. x ++ rest) s.whole in
      let refused : tagged_fault width highest (λ level. narrow_fault count level) (s.tag ∷ ((s.least_bytes ++ s.body) ++ rest)) ≡ Some reason = rw opened at fault in
      let low : ltb highest s.tag ≡ false = le-ltb highest s.tag s.known in
      let within : ltb (length ((s.least_bytes ++ s.body) ++ rest)) (width * (s.tag % 2)) ≡ false =
      le-ltb (length ((s.least_bytes ++ s.body) ++ rest)) (width * (s.tag % 2))
      (omega (arith, s.least_size, length-append (s.least_bytes ++ s.body) rest, length-append s.least_bytes s.body)) in
      let dropped : drop (width * (s.tag % 2)) ((s.least_bytes ++ s.body) ++ rest) ≡ s.body ++ rest =
      ap (drop (width * (s.tag % 2))) (append_assoc s.least_bytes s.body rest) ∙ drop_at s.least_bytes (s.body ++ rest) (width * (s.tag % 2)) s.least_size in
      let below : narrow_fault count (level_of_tag s.tag) (s.body ++ rest) ≡ Some reason = rw (low, within, dropped) at refused in
      (narrow (level_of_tag s.tag)).refused count (s.body ++ rest) reason below s.body s.narrow rest s.narrowed
      (sym (length_tagged width highest SpellsNarrow piece entries s) ∙ size) refl;
}

-- numbers of the width stand whole at level 0, and numbers up to a bound at its level
pub record HoldsData (width highest : ℕ) (SpellsNarrow : ℕ → List ℕ → List ℕ → Type 0) (level_for : ℕ → ℕ) (narrow_text : ℕ → List ℕ → List ℕ) : Type 0 where
  pub low : (bound : ℕ) → 2 * level_for bound ≤ highest
  pub whole : (numbers : List ℕ) → All (λ n. n < 256 ^ width) numbers → SpellsNarrow 0 (narrow_text 0 numbers) numbers
  pub narrowed : (bound : ℕ) (numbers : List ℕ) → bound < 256 ^ width → All (λ n. n ≤ bound) numbers
      → SpellsNarrow (level_for bound) (narrow_text (level_for bound) numbers) numbers

pub least_among : (P : ℤ → Type 0) (entries : List ℤ) → 1 ≤ length entries → All P entries → P (least entries)
least_among P [] some h = absurd (omega arith)
least_among P (entry ∷ entries) some h =
    ⊎_elim (λ first. subst P (sym first) (All-head P entry entries h)) (λ later. All-contains P entries (least (entry ∷ entries)) (All-tail P entry entries h) later)
    (fold-int_min_reached entry entries (least (entry ∷ entries)) refl)

pub greatest_among : (P : ℤ → Type 0) (entries : List ℤ) → 1 ≤ length entries → All P entries → P (greatest entries)
greatest_among P [] some h = absurd (omega arith)
greatest_among P (entry ∷ entries) some h =
    ⊎_elim (λ first. subst P (sym first) (All-head P entry entries h)) (λ later. All-contains P entries (greatest (entry ∷ entries)) (All-tail P entry entries h) later)
    (fold-int_max_reached entry entries (greatest (entry ∷ entries)) refl)

-- two numbers of a width are less than 256 ^ width apart
pub apart_below : (width : ℕ) (signed : Bool) (low high : ℤ) → 1 ≤ width → IsNumber width signed low → IsNumber width signed high
    → low ≤ℤ high → unsigned_abs (high -ℤ low) < 256 ^ width
apart_below width false (pos a) (pos b) positive in_low in_high h = omega (arith, ints)
apart_below width false (pos a) (negsuc b) positive in_low in_high h = absurd in_high
apart_below width false (negsuc a) b positive in_low in_high h = absurd in_low
apart_below width true (pos a) (pos b) positive in_low in_high h = omega (arith, ints)
apart_below width true (pos a) (negsuc b) positive in_low in_high h = omega (arith, ints)
apart_below zero true (negsuc a) (pos b) positive in_low in_high h = absurd (omega arith)
apart_below (suc width) true (negsuc a) (pos b) positive in_low in_high h = omega (arith, ints, pow-suc 256 width)
apart_below width true (negsuc a) (negsuc b) positive in_low in_high h = omega (arith, ints)

pub abs_below : (width : ℕ) (signed : Bool) (z : ℤ) → pos 0 ≤ℤ z → IsNumber width signed z → unsigned_abs z < 256 ^ width
abs_below width false (pos n) h in_z = in_z
abs_below width true (pos n) h in_z = omega arith
abs_below width signed (negsuc n) h in_z = absurd (omega (arith, ints))

shifted_text-spells : (width highest : ℕ) (SpellsNarrow : ℕ → List ℕ → List ℕ → Type 0) (level_for : ℕ → ℕ) (narrow_text : ℕ → List ℕ → List ℕ)
    → HoldsData width highest SpellsNarrow level_for narrow_text
    → (signed : Bool) (entries : List ℤ) → 1 ≤ width → 1 ≤ length entries → All (IsNumber width signed) entries → 1 ≤ shifted_level level_for entries
    → SpellsTagged width highest SpellsNarrow (shifted_text width level_for narrow_text entries) (map (residue width) entries)
shifted_text-spells width highest SpellsNarrow level_for narrow_text holds signed entries positive some h high =
    let low : ℤ = least entries in
    let span : ℕ = unsigned_abs (greatest entries -ℤ low) in
    let level : ℕ = level_for span in
    let distances : List ℕ = map (λ e. unsigned_abs (e -ℤ low)) entries in
    let in_low : IsNumber width signed low = least_among (IsNumber width signed) entries some h in
    let in_top : IsNumber width signed (greatest entries) = greatest_among (IsNumber width signed) entries some h in
    let order : low ≤ℤ greatest entries = least_among (λ e. e ≤ℤ greatest entries) entries some (greatest_above entries) in
    let odd : (2 * level - 1) % 2 ≡ 1 = omega arith in
    let same_level : level_of_tag (2 * level - 1) ≡ level = omega arith in
    let back : little_endian (number_bytes width (residue width low)) ≡ residue width low =
    little_endian-number_bytes width (residue width low) (residue_below width signed low in_low) in
    let spelled : SpellsNarrow level (narrow_text level distances) distances =
    holds.narrowed span distances (apart_below width signed low (greatest entries) positive in_low in_top order) (distances_below entries) in
    record {
      tag = 2 * level - 1;
      least_bytes = number_bytes width (residue width low);
      body = narrow_text level distances;
      narrow = distances;
      known = omega (arith, holds.low span);
      least_size = length-number_bytes width (residue width low) ∙ (sym (mul-one width) ∙ ap (λ n. width * n) (sym odd));
      whole = refl;
      narrowed = subst (λ l. SpellsNarrow l (narrow_text level distances) distances) (sym same_level) spelled;
      widened = map_further (residue width) (λ e. unsigned_abs (e -ℤ low)) (λ n. (n + little_endian (number_bytes width (residue width low))) % 256 ^ width) entries
          (λ k d i. ap (λ n. (unsigned_abs (get_or entries k d -ℤ low) + n) % 256 ^ width) back
          ∙ residue_from width signed low (get_or entries k d) in_low (h k d i) (least_below entries k d i));
    }

pub not_negative : (z : ℤ) → int_lt z (pos 0) ≡ false → pos 0 ≤ℤ z
not_negative (pos n) e = omega (arith, ints)
not_negative (negsuc n) e = absurd (true≢false e)

pub above_not_negative : (low high : ℤ) → pos 0 ≤ℤ low → low ≤ℤ high → pos 0 ≤ℤ high
above_not_negative low high h k = omega (arith, ints)

plain_text-spells : (width highest : ℕ) (SpellsNarrow : ℕ → List ℕ → List ℕ → Type 0) (level_for : ℕ → ℕ) (narrow_text : ℕ → List ℕ → List ℕ)
    → HoldsData width highest SpellsNarrow level_for narrow_text
    → (signed : Bool) (entries : List ℤ) → 1 ≤ length entries → All (IsNumber width signed) entries
    → SpellsTagged width highest SpellsNarrow (plain_text width level_for narrow_text entries) (map (residue width) entries)
plain_text-spells width highest SpellsNarrow level_for narrow_text holds signed entries some h =
    cond_both (int_lt (least entries) (pos 0)) 0 (level_for (unsigned_abs (greatest entries)))
    (λ level. SpellsTagged width highest SpellsNarrow (2 * level ∷ narrow_text level (map (residue width) entries)) (map (residue width) entries))
    (λ negative. at_level 0 (omega arith) (holds.whole (map (residue width) entries) residues))
    (λ natural. at_level (level_for (unsigned_abs (greatest entries))) (holds.low (unsigned_abs (greatest entries)))
    (holds.narrowed (unsigned_abs (greatest entries)) (map (residue width) entries)
    (abs_below width signed (greatest entries) (top natural) (greatest_among (IsNumber width signed) entries some h))
    (residues_below width entries (bottom natural))))
  where
    residues : All (λ n. n < 256 ^ width) (map (residue width) entries)
    residues = All-map (λ n. n < 256 ^ width) (residue width) entries (λ k d i. residue_below width signed (get_or entries k d) (h k d i))

    bottom : int_lt (least entries) (pos 0) ≡ false → pos 0 ≤ℤ least entries
    bottom natural = not_negative (least entries) natural

    top : int_lt (least entries) (pos 0) ≡ false → pos 0 ≤ℤ greatest entries
    top natural = above_not_negative (least entries) (greatest entries) (bottom natural)
        (least_among (λ e. e ≤ℤ greatest entries) entries some (greatest_above entries))

    at_level : (level : ℕ) → 2 * level ≤ highest → SpellsNarrow level (narrow_text level (map (residue width) entries)) (map (residue width) entries)
        → SpellsTagged width highest SpellsNarrow (2 * level ∷ narrow_text level (map (residue width) entries)) (map (residue width) entries)
    at_level level low spelled =
        let even : (2 * level) % 2 ≡ 0 = omega arith in
        let same_level : level_of_tag (2 * level) ≡ level = omega arith in
        record {
          tag = 2 * level;
          least_bytes = [];
          body = narrow_text level (map (residue width) entries);
          narrow = map (residue width) entries;
          known = low;
          least_size = sym (mul-zero width) ∙ ap (λ n. width * n) (sym even);
          whole = refl;
          narrowed = subst (λ l. SpellsNarrow l (narrow_text level (map (residue width) entries)) (map (residue width) entries)) (sym same_level) spelled;
          widened = map_further (residue width) (residue width) (λ n. (n + 0) % 256 ^ width) entries
              (λ k d i. ap (λ n. n % 256 ^ width) (add-zero (residue width (get_or entries k d)))
              ∙ mod-eq_of_lt (residue_below width signed (get_or entries k d) (h k d i)));
        }

-- (at width 0 the numbers 0 and -1 are too far apart)
pub tagged_text-spells : (width highest : ℕ) (SpellsNarrow : ℕ → List ℕ → List ℕ → Type 0) (level_for : ℕ → ℕ) (narrow_text : ℕ → List ℕ → List ℕ)
    → HoldsData width highest SpellsNarrow level_for narrow_text
    → (signed : Bool) (entries : List ℤ) → 1 ≤ width → 1 ≤ length entries → All (IsNumber width signed) entries
    → SpellsTagged width highest SpellsNarrow (tagged_text width level_for narrow_text entries) (map (residue width) entries)
unfolding tagged_text
tagged_text-spells width highest SpellsNarrow level_for narrow_text holds signed entries positive some h =
    cond_both (is_shifted level_for entries) (shifted_text width level_for narrow_text entries) (plain_text width level_for narrow_text entries)
    (λ text. SpellsTagged width highest SpellsNarrow text (map (residue width) entries))
    (λ shifted. shifted_text-spells width highest SpellsNarrow level_for narrow_text holds signed entries positive some h
    (omega (arith, ltb-true _ _ (and_parts (ltb 5 (length entries)) (ltb (plain_level level_for entries) (shifted_level level_for entries)) shifted).1)))
    (λ plain. plain_text-spells width highest SpellsNarrow level_for narrow_text holds signed entries some h)
