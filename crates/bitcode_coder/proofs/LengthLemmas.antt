-- The laws of length columns.
use Rattle.std.proofs.Common.{◌≡◌, ℕ, suc, ◌^◌, ◌<◌, ◌≤◌, min, Bool, true, false, eqb, leb, ltb, MatchBool, cond, pos, Option, Some, None, List, [], ◌∷◌, ◌++◌, length, map, drop, All, sum, refl, sym, ap, ◌∙◌, subst, inl, inr, ⊎_elim, arith}
use Rattle.std.specs.Prelude.{filter, count_by}
use Rattle.std.proofs.lemmas.Bool.{cond-true, cond-false, cases_Bool, eq-eqb, ne_eqb, leb-true, leb-false, ltb-true, MatchBool-at_true, MatchBool-at_false}
use Rattle.std.proofs.lemmas.List.{map-id, append_assoc, length-append, nil_from_length}
use Rattle.std.proofs.lemmas.List.Elements.{All-map, All-weaker, All-filter, All-head, All-tail}
use Rattle.std.proofs.lemmas.List.Sums.{length-filter, get_or-le-sum_by, sum_by-cons, sum_by-take-drop}
use Rattle.std.proofs.lemmas.Simd.{map-map}
use Rattle.bitcode_columns.specs.Laws.{IsReadOnce, TakesAnEighth}
use Rattle.bitcode_memory.specs.Ints.{IsNumber, residue}
use Rattle.bitcode_columns.specs.ByteColumn.{SpellsBytes, byte_text}
use Rattle.bitcode_memory.specs.IntWidths.{IsWidth}
use Rattle.bitcode_columns.specs.IntColumn.{SpellsInts, int_text}
use Rattle.bitcode_columns.proofs.ByteColumnLemmas.{SpellsBytes-unambiguous, SpellsBytes-size_bound, byte_text-spells}
use Rattle.bitcode_columns.proofs.IntColumnLemmas.{SpellsInts-unambiguous, SpellsInts-size_bound, int_text-spells}
use Rattle.bitcode_shapes.specs.Shape.{IsWithin}
use Rattle.bitcode_coder.specs.LengthColumn.{SpellsLengths, KeepsCap, escape, lengths_from, first_large, other_large, length_bytes, length_limit}

eight_bytes : IsWidth 8
eight_bytes = inr (inr (inr (inl refl)))

-- as many lengths as short bytes
pub length-lengths_from : (bytes large : List ℕ) → length (lengths_from bytes large) ≡ length bytes
length-lengths_from [] large = refl
length-lengths_from (byte ∷ bytes) large =
    ⊎_elim
    (λ is. ap length (cond-true (eqb byte escape) (first_large large ∷ lengths_from bytes (other_large large)) (byte ∷ lengths_from bytes large) is)
    ∙ ap suc (length-lengths_from bytes (other_large large)))
    (λ not. ap length (cond-false (eqb byte escape) (first_large large ∷ lengths_from bytes (other_large large)) (byte ∷ lengths_from bytes large) not)
    ∙ ap suc (length-lengths_from bytes large))
    (cases_Bool (eqb byte escape))

as_many : (limit : Option ℕ) (piece lengths : List ℕ) (s : SpellsLengths limit piece lengths) → length lengths ≡ length s.short
as_many limit piece lengths s = ap length s.joined ∙ length-lengths_from s.short s.large

pub SpellsLengths-unambiguous : (limit : Option ℕ) → IsReadOnce (SpellsLengths limit)
SpellsLengths-unambiguous limit = record {
  unambiguous = λ piece other entries others rest left s t same e.
      let split : s.short_piece ++ (s.large_piece ++ rest) ≡ t.short_piece ++ (t.large_piece ++ left) =
      sym (append_assoc s.short_piece s.large_piece rest)
      ∙ (ap (λ front. front ++ rest) (sym s.whole) ∙ (e ∙ (ap (λ front. front ++ left) t.whole ∙ append_assoc t.short_piece t.large_piece left))) in
      let short = SpellsBytes-unambiguous.unambiguous s.short_piece t.short_piece s.short t.short (s.large_piece ++ rest) (t.large_piece ++ left)
      s.short_spelled t.short_spelled (sym (as_many limit piece entries s) ∙ (same ∙ as_many limit other others t)) split in
      let large = (SpellsInts-unambiguous 8).unambiguous s.large_piece t.large_piece s.large t.large rest left s.large_spelled t.large_spelled
      (s.large_count ∙ (ap (count_by (λ byte. eqb byte escape)) short.0 ∙ sym t.large_count)) short.1 in
      (s.joined ∙ (ap (λ bytes. lengths_from bytes s.large) short.0 ∙ (ap (lengths_from t.short) large.0 ∙ sym t.joined)), large.1);
}

pub SpellsLengths-size_bound : (limit : Option ℕ) → TakesAnEighth (SpellsLengths limit)
SpellsLengths-size_bound limit = record {
  nothing = λ piece s.
      let no_short : s.short ≡ [] = nil_from_length s.short (sym (as_many limit piece [] s)) in
      let no_large : s.large ≡ [] = nil_from_length s.large (s.large_count ∙ ap (count_by (λ byte. eqb byte escape)) no_short) in
      let short_none : s.short_piece ≡ [] = SpellsBytes-size_bound.nothing s.short_piece (subst (SpellsBytes s.short_piece) no_short s.short_spelled) in
      let large_none : s.large_piece ≡ [] = (SpellsInts-size_bound 8 eight_bytes).nothing s.large_piece (subst (SpellsInts 8 s.large_piece) no_large s.large_spelled) in
      s.whole ∙ (ap (λ front. front ++ s.large_piece) short_none ∙ large_none);
  size_bound = λ piece entries s.
      omega (
        arith,
        as_many limit piece entries s,
        SpellsBytes-size_bound.size_bound s.short_piece s.short s.short_spelled,
        ap length s.whole,
        length-append s.short_piece s.large_piece,
      );
}

-- ---- written

-- an escape stands exactly for a large length
escape_is : (n : ℕ) → eqb (min n escape) escape ≡ leb escape n
escape_is n =
    ⊎_elim
    (λ large. eq-eqb (min n escape) escape (omega (arith, leb-true escape n large)) ∙ sym large)
    (λ small. ne_eqb (min n escape) escape (λ same. omega (arith, leb-false escape n small)) ∙ sym small)
    (cases_Bool (leb escape n))

escapes : (lengths : List ℕ) → length (filter (λ byte. eqb byte escape) (map (λ n. min n escape) lengths)) ≡ length (filter (λ n. leb escape n) lengths)
escapes [] = refl
escapes (n ∷ lengths) =
    ⊎_elim
    (λ large. let test : eqb (min n escape) escape ≡ true = escape_is n ∙ large in
    rw (test, large, escapes lengths))
    (λ small. let test : eqb (min n escape) escape ≡ false = escape_is n ∙ small in
    rw (test, small, escapes lengths))
    (cases_Bool (leb escape n))

-- the lengths are found from what is written
pub found : (lengths : List ℕ) → lengths_from (map (λ n. min n escape) lengths) (filter (λ n. leb escape n) lengths) ≡ lengths
found [] = refl
found (n ∷ lengths) =
    ⊎_elim
    (λ large. let test : eqb (min n escape) escape ≡ true = escape_is n ∙ large in
    rw (test, large, found lengths))
    (λ small. let test : eqb (min n escape) escape ≡ false = escape_is n ∙ small in
    let same : min n escape ≡ n = omega (arith, leb-false escape n small) in
    rw (test, small, found lengths, same))
    (cases_Bool (leb escape n))

either_way : (b : Bool) (P Q : Type 0) → P → Q → MatchBool b P Q
either_way true P Q p q = p
either_way false P Q p q = q

keeps : (limit : Option ℕ) (lengths : List ℕ) → All (IsWithin limit) lengths → KeepsCap limit (map (λ n. min n escape) lengths) lengths
keeps None lengths within = tt
keeps (Some limit) lengths within =
    either_way (ltb limit escape) (All (λ byte. byte ≤ limit) (map (λ n. min n escape) lengths)) (All (λ n. n ≤ limit) lengths)
    (All-map (λ byte. byte ≤ limit) (λ n. min n escape) lengths (All-weaker (λ n. n ≤ limit) (λ n. min n escape ≤ limit) (λ n h. omega arith) lengths within))
    within

pub length_bytes-spells : (limit : Option ℕ) (lengths : List ℕ) → sum lengths < length_limit → All (IsWithin limit) lengths
    → SpellsLengths limit (length_bytes lengths) lengths
unfolding length_bytes
length_bytes-spells limit lengths below within = record {
  short_piece = byte_text (map (λ n. pos (min n escape)) lengths);
  large_piece = int_text 8 (map pos (filter (λ n. leb escape n) lengths));
  short = map (λ n. min n escape) lengths;
  large = filter (λ n. leb escape n) lengths;
  whole = refl;
  short_spelled = subst (SpellsBytes (byte_text (map (λ n. pos (min n escape)) lengths))) (map-map (residue 1) (λ n. pos (min n escape)) lengths)
      (byte_text-spells.back false (map (λ n. pos (min n escape)) lengths)
      (All-map (IsNumber 1 false) (λ n. pos (min n escape)) lengths (λ k d inside. omega arith)));
  large_spelled = subst (SpellsInts 8 (int_text 8 (map pos (filter (λ n. leb escape n) lengths))))
      (map-map (residue 8) pos (filter (λ n. leb escape n) lengths) ∙ map-id (filter (λ n. leb escape n) lengths))
      ((int_text-spells 8 eight_bytes).back false (map pos (filter (λ n. leb escape n) lengths))
      (All-map (IsNumber 8 false) pos (filter (λ n. leb escape n) lengths)
      (All-filter (λ n. leb escape n) (λ n. n < 256 ^ 8) lengths (λ k d inside. omega (arith, get_or-le-sum_by (λ n. n) lengths k d inside)))));
  large_count = sym (escapes lengths) ∙ length-filter (λ byte. eqb byte escape) (map (λ n. min n escape) lengths);
  joined = sym (found lengths);
  below_limit = below;
  keeps_cap = keeps limit lengths within;
}

-- ---- without large lengths

-- bytes none of which is an escape are the lengths
pub no_escapes : (bytes large : List ℕ) → count_by (λ byte. eqb byte escape) bytes ≡ 0 → lengths_from bytes large ≡ bytes
no_escapes [] large none = refl
no_escapes (byte ∷ bytes) large none =
    let counted = sum_by-cons (λ b. cond (eqb b escape) 1 0) byte bytes in
    ⊎_elim
    (λ is. absurd (omega (arith, none, counted, cond-true {A = ℕ} (eqb byte escape) 1 0 is)))
    (λ not. cond-false (eqb byte escape) _ _ not ∙ ap (λ more. byte ∷ more) (no_escapes bytes large (omega (arith, none, counted, cond-false {A = ℕ} (eqb byte escape) 1 0 not))))
    (cases_Bool (eqb byte escape))

-- none is one behind some of them either
pub no_escapes_behind : (n : ℕ) (bytes : List ℕ) → count_by (λ byte. eqb byte escape) bytes ≡ 0 → count_by (λ byte. eqb byte escape) (drop n bytes) ≡ 0
no_escapes_behind n bytes none = omega (arith, none, sum_by-take-drop (λ b. cond (eqb b escape) 1 0) bytes n)

-- ---- limited

-- bytes that are no escapes are the lengths
without_escapes : (bytes large : List ℕ) → All (λ byte. byte < escape) bytes → lengths_from bytes large ≡ bytes
without_escapes [] large below = refl
without_escapes (byte ∷ bytes) large below =
    cond-false (eqb byte escape) _ _ (ne_eqb byte escape (λ same. omega (arith, All-head (λ b. b < escape) byte bytes below)))
    ∙ ap (λ more. byte ∷ more) (without_escapes bytes large (All-tail (λ b. b < escape) byte bytes below))

-- where a limit is kept, the lengths are within it
pub cap_within : (limit : ℕ) (bytes large : List ℕ) → KeepsCap (Some limit) bytes (lengths_from bytes large) → All (λ n. n ≤ limit) (lengths_from bytes large)
cap_within limit bytes large keeps =
    ⊎_elim
    (λ small. let each : All (λ byte. byte ≤ limit) bytes = MatchBool-at_true _ _ small keeps in
    let below : All (λ byte. byte < escape) bytes =
    All-weaker (λ byte. byte ≤ limit) (λ byte. byte < escape) (λ byte h. omega (arith, ltb-true limit escape small)) bytes each in
    subst (All (λ n. n ≤ limit)) (sym (without_escapes bytes large below)) each)
    (λ not. MatchBool-at_false _ _ not keeps)
    (cases_Bool (ltb limit escape))

-- a piece spells the same lengths under any limit that they keep
pub other_limit : {limit : Option ℕ} {piece lengths : List ℕ} (other : Option ℕ) (s : SpellsLengths limit piece lengths) → KeepsCap other s.short lengths
    → SpellsLengths other piece lengths
other_limit other s keeps = record {
  short_piece = s.short_piece;
  large_piece = s.large_piece;
  short = s.short;
  large = s.large;
  whole = s.whole;
  short_spelled = s.short_spelled;
  large_spelled = s.large_spelled;
  large_count = s.large_count;
  joined = s.joined;
  below_limit = s.below_limit;
  keeps_cap = keeps;
}

-- lengths that are spelled under a limit are within it
pub SpellsLengths-within : {limit : ℕ} {piece lengths : List ℕ} → SpellsLengths (Some limit) piece lengths → All (λ n. n ≤ limit) lengths
SpellsLengths-within {limit} s =
    subst (All (λ n. n ≤ limit)) (sym s.joined) (cap_within limit s.short s.large (subst (KeepsCap (Some limit) s.short) s.joined s.keeps_cap))
