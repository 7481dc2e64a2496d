-- Residues, and the least and greatest entry.
use Rattle.std.proofs.Common.{◌≡◌, ℕ, zero, suc, ◌+◌, ◌-◌, ◌*◌, ◌%◌, ◌^◌, ◌<◌, ◌≤◌, Bool, true, false, ltb, ℤ, pos, negsuc, List, [], ◌∷◌, map, All, arith, ap, refl, ◌∙◌}
use Rattle.std.specs.Prelude.{◌-ℤ◌, ◌≤ℤ◌, unsigned_abs}
use Rattle.std.proofs.Math.Nat.{one-le-pow, pow-suc, mod-eq_of_lt, add-mod_right}
use Rattle.std.proofs.lemmas.Bool.{cond-true, cond-false, lt-ltb, le-ltb, cond_both, ltb-true, ltb-false}
use Rattle.std.proofs.lemmas.Int.{ints, fold-int_min_bounds, fold-int_max_bounds}
use Rattle.std.proofs.lemmas.List.Elements.{All-nil, All-cons, All-map}
use borrow.Author.Differences.{down}
use Rattle.bitcode_memory.specs.Ints.{IsNumber, residue, number_of, least, greatest}

pub some_residues : (width : ℕ) → 1 ≤ 256 ^ width
some_residues width = one-le-pow width 256 (omega arith)

pub even_residues : (width : ℕ) → 1 ≤ width → (half : ℕ) × (256 ^ width ≡ 2 * half)
even_residues zero positive = absurd (omega arith)
even_residues (suc width) positive = (256 ^ width * 128, omega (arith, pow-suc 256 width))

-- (at width 0 the numbers 0 and -1 have one residue)
pub number_of-residue : (width : ℕ) (signed : Bool) (z : ℤ) → 1 ≤ width → IsNumber width signed z → number_of width signed (residue width z) ≡ z
number_of-residue width false (pos n) positive h = refl
number_of-residue width false (negsuc n) positive h = absurd h
number_of-residue width true (pos n) positive h = cond-true _ _ _ (lt-ltb _ _ h)
number_of-residue width true (negsuc n) positive h =
    cond-false _ _ _ (le-ltb (2 * (256 ^ width - suc n)) (256 ^ width) (omega (arith, even.1))) ∙ ap negsuc (omega (arith, even.1))
  where
    even : (half : ℕ) × (256 ^ width ≡ 2 * half)
    even = even_residues width positive

pub residue-number_of : (width : ℕ) (signed : Bool) (n : ℕ) → n < 256 ^ width → residue width (number_of width signed n) ≡ n
residue-number_of width false n h = refl
residue-number_of width true n h =
    cond_both (ltb (2 * n) (256 ^ width)) (pos n) (negsuc (256 ^ width - suc n)) (λ z. residue width z ≡ n) (λ low. refl) (λ high. omega arith)

pub IsNumber-number_of : (width : ℕ) (signed : Bool) (n : ℕ) → 1 ≤ width → n < 256 ^ width → IsNumber width signed (number_of width signed n)
IsNumber-number_of width false n positive h = h
IsNumber-number_of width true n positive h =
    cond_both (ltb (2 * n) (256 ^ width)) (pos n) (negsuc (256 ^ width - suc n)) (IsNumber width true)
    (λ low. ltb-true _ _ low) (λ high. omega (arith, ltb-false _ _ high))

pub residue_below : (width : ℕ) (signed : Bool) (z : ℤ) → IsNumber width signed z → residue width z < 256 ^ width
residue_below width false (pos n) h = h
residue_below width false (negsuc n) h = absurd h
residue_below width true (pos n) h = omega arith
residue_below width true (negsuc n) h = omega (arith, some_residues width)

down_below : (width : ℕ) (signed : Bool) (z : ℤ) → IsNumber width signed z → down z ≤ 256 ^ width
down_below width false (pos n) h = omega arith
down_below width false (negsuc n) h = absurd h
down_below width true (pos n) h = omega arith
down_below width true (negsuc n) h = omega arith

residue_between : (width : ℕ) (low z : ℤ) → residue width z < 256 ^ width → down low ≤ 256 ^ width → low ≤ℤ z
    → (unsigned_abs (z -ℤ low) + residue width low) % 256 ^ width ≡ residue width z
residue_between width (pos a) (pos b) below down h =
    ap (λ n. n % 256 ^ width) (omega (arith, ints)) ∙ mod-eq_of_lt below
residue_between width (pos a) (negsuc b) below down h = absurd (omega (arith, ints))
residue_between width (negsuc a) (pos b) below down h =
    ap (λ n. n % 256 ^ width) {x = unsigned_abs (pos b -ℤ negsuc a) + residue width (negsuc a)} {y = b + 256 ^ width} (omega (arith, ints)) ∙ add-mod_right b (256 ^ width) ∙ mod-eq_of_lt below
residue_between width (negsuc a) (negsuc b) below down h =
    ap (λ n. n % 256 ^ width) (omega (arith, ints)) ∙ mod-eq_of_lt below

-- an entry is its distance from a lower one, and that one, modulo 256 ^ width
pub residue_from : (width : ℕ) (signed : Bool) (low z : ℤ) → IsNumber width signed low → IsNumber width signed z → low ≤ℤ z
    → (unsigned_abs (z -ℤ low) + residue width low) % 256 ^ width ≡ residue width z
residue_from width signed low z in_low in_z h =
    residue_between width low z (residue_below width signed z in_z) (down_below width signed low in_low) h

pub least_below : (entries : List ℤ) → All (λ e. least entries ≤ℤ e) entries
least_below [] = All-nil (λ e. least [] ≤ℤ e)
least_below (entry ∷ entries) =
    let b = fold-int_min_bounds entry entries (least (entry ∷ entries)) refl in
    All-cons (λ e. least (entry ∷ entries) ≤ℤ e) entry entries b.0 b.1

pub greatest_above : (entries : List ℤ) → All (λ e. e ≤ℤ greatest entries) entries
greatest_above [] = All-nil (λ e. e ≤ℤ greatest [])
greatest_above (entry ∷ entries) =
    let b = fold-int_max_bounds entry entries (greatest (entry ∷ entries)) refl in
    All-cons (λ e. e ≤ℤ greatest (entry ∷ entries)) entry entries b.0 b.1

pub distance_below : (low e high : ℤ) → low ≤ℤ e → e ≤ℤ high → unsigned_abs (e -ℤ low) ≤ unsigned_abs (high -ℤ low)
distance_below low e high h k = omega (arith, ints)

-- the distances from the least entry are at most that of the greatest one
pub distances_below : (entries : List ℤ) → All (λ n. n ≤ unsigned_abs (greatest entries -ℤ least entries)) (map (λ e. unsigned_abs (e -ℤ least entries)) entries)
distances_below entries =
    All-map (λ n. n ≤ unsigned_abs (greatest entries -ℤ least entries)) (λ e. unsigned_abs (e -ℤ least entries)) entries
    (λ k d h. distance_below _ _ _ (least_below entries k d h) (greatest_above entries k d h))

pub residue_at_most : (width : ℕ) (low e high : ℤ) → pos 0 ≤ℤ low → low ≤ℤ e → e ≤ℤ high → residue width e ≤ unsigned_abs high
residue_at_most width low (pos n) high at_least h k = omega (arith, ints)
residue_at_most width low (negsuc n) high at_least h k = absurd (omega (arith, ints))

-- where no entry is negative, the residues are at most the greatest
pub residues_below : (width : ℕ) (entries : List ℤ) → pos 0 ≤ℤ least entries → All (λ n. n ≤ unsigned_abs (greatest entries)) (map (residue width) entries)
residues_below width entries h =
    All-map (λ n. n ≤ unsigned_abs (greatest entries)) (residue width) entries
    (λ k d i. residue_at_most width _ _ _ h (least_below entries k d i) (greatest_above entries k d i))
