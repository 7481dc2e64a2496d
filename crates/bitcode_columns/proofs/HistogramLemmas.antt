-- The counts of entries add up to how many there are.
use Rattle.std.proofs.Common.{◌≡◌, ℕ, zero, suc, ◌+◌, ◌<◌, Bool, cond, ltb, eqb, List, [], ◌∷◌, length, map, All, refl, sym, ap, subst, ◌∙◌, arith, add-one}
use Rattle.std.specs.List.{count_by, range_with_len, sum, sum_by}
use Rattle.std.proofs.lemmas.Bool.Decides.{nat_tests}
use Rattle.std.proofs.lemmas.Bool.{lt-ltb, le-ltb, cond-true, cond-false}
use Rattle.std.proofs.lemmas.Grind.{same_number_lists}
use Rattle.std.proofs.lemmas.List.{map-id}
use Rattle.std.proofs.lemmas.List.Elements.{All-head, All-tail}
use Rattle.std.proofs.lemmas.List.FromFn.{length-map-range_with_len, get_or-map-range_with_len, sum_by-map-range_with_len_more}
use Rattle.std.proofs.lemmas.List.Sums.{sum-map, sum_by-cons}
use Rattle.bitcode_columns.specs.Histogram.{AreCounts, count_of}

one : Bool → ℕ
one b = cond b 1 0

abbrev is_below : ℕ → ℕ → Bool
is_below bound entry = ltb entry bound

count_by-cons : (p : ℕ → Bool) (entry : ℕ) (entries : List ℕ) → count_by p (entry ∷ entries) ≡ one (p entry) + count_by p entries
unfolding one
count_by-cons p entry entries = sum_by-cons (λ e. cond (p e) 1 0) entry entries

one_below : (entry bound : ℕ) → one (ltb entry (bound + 1)) ≡ one (ltb entry bound) + one (eqb entry bound)
unfolding one
one_below entry bound = grind (arith, nat_tests)

below_more : (bound : ℕ) (entries : List ℕ) → count_by (is_below (bound + 1)) entries ≡ count_by (is_below bound) entries + count_of bound entries
below_more bound [] = refl
below_more bound (entry ∷ entries) =
    let rest : count_by (is_below (bound + 1)) entries ≡ count_by (is_below bound) entries + count_of bound entries = below_more bound entries in
    omega (
      arith,
      one_below entry bound,
      rest,
      count_by-cons (is_below (bound + 1)) entry entries,
      count_by-cons (is_below bound) entry entries,
      count_by-cons (λ e. eqb e bound) entry entries,
    )

one_no : (entry : ℕ) → one (ltb entry 0) ≡ 0
unfolding one
one_no entry = cond-false _ _ _ (le-ltb entry 0 (omega arith))

below_none : (entries : List ℕ) → count_by (is_below 0) entries ≡ 0
below_none [] = refl
below_none (entry ∷ entries) = omega (arith, below_none entries, one_no entry, count_by-cons (is_below 0) entry entries)

one_yes : (entry bound : ℕ) → entry < bound → one (ltb entry bound) ≡ 1
unfolding one
one_yes entry bound below = cond-true _ _ _ (lt-ltb entry bound below)

all_below : (bound : ℕ) (entries : List ℕ) → All (λ e. e < bound) entries → count_by (is_below bound) entries ≡ length entries
all_below bound [] h = refl
all_below bound (entry ∷ entries) h =
    omega (
      arith,
      one_yes entry bound (All-head (λ e. e < bound) entry entries h),
      all_below bound entries (All-tail (λ e. e < bound) entry entries h),
      count_by-cons (is_below bound) entry entries,
    )

sum_of_counts : (entries : List ℕ) (bound : ℕ)
    → sum_by (λ n. n) (map (λ value. count_of value entries) (range_with_len 0 bound)) ≡ count_by (is_below bound) entries
sum_of_counts entries zero = sym (below_none entries)
sum_of_counts entries (suc bound) =
    let count : ℕ → ℕ = λ value. count_of value entries in
    let more = sum_by-map-range_with_len_more (λ n. n) count 0 bound bound (omega arith) in
    let at : ℕ → Type 0 = λ n. sum_by (λ m. m) (map count (range_with_len 0 n)) ≡ count_by (is_below n) entries in
    subst at (add-one bound) (omega (arith, more, sum_of_counts entries bound, below_more bound entries))

pub sum-counts : (bound : ℕ) (entries counts : List ℕ) → AreCounts bound entries counts → All (λ entry. entry < bound) entries → sum counts ≡ length entries
sum-counts bound entries counts are known =
    let count : ℕ → ℕ = λ value. count_of value entries in
    let listed = map count (range_with_len 0 bound) in
    let same : counts ≡ listed =
    same_number_lists counts listed (are.size ∙ sym (length-map-range_with_len count 0 bound))
    (λ value inside.
    let below : value < bound = omega (arith, are.size) in
    are.each value below ∙ sym (get_or-map-range_with_len count 0 bound value value 0 below (omega arith))) in
    ap sum same ∙ ap sum (sym (map-id listed)) ∙ sum-map (λ n. n) listed ∙ sum_of_counts entries bound ∙ all_below bound entries known
