-- Bytes counted in four tables.
use Rattle.std.proofs.Common.{◌≡◌, ℕ, zero, suc, ◌+◌, ◌*◌, ◌<◌, ◌≤◌, cond, eqb, List, ◌++◌, length, replicate, take, drop, get_or, set, refl, sym, ap, ◌∙◌, arith}
use Rattle.std.specs.Simd.{first_chunks}
use Rattle.std.proofs.Math.Seq.{take-add}
use Rattle.std.proofs.lemmas.Bool.Decides.{nat_tests}
use Rattle.std.proofs.lemmas.Grind.{get_or-set_at}
use Rattle.std.proofs.lemmas.List.{get_or-set_other, drop-drop, take-append-drop, length-take}
use Rattle.std.proofs.lemmas.List.Sums.{sum_by-append, count_by-le-length, count_by_more_yes, count_by_more_no}
use Rattle.bitcode_columns.specs.Histogram.{count_of, counted}

is : ℕ → ℕ → ℕ
is a b = cond (eqb a b) 1 0

one_more : (xs : List ℕ) (i j new : ℕ) → i < length xs → new ≡ get_or xs i 0 + 1 → get_or (set xs i new) j 0 ≡ get_or xs j 0 + is j i
unfolding is
one_more xs i j new inside more = grind (arith, nat_tests, get_or-set_at, get_or-set_other)

one_place : (table byte value place : ℕ) → table < 4 → byte < 256 → value < 256 → place ≡ table * 256 + byte
    → is value place + is (256 + value) place + is (512 + value) place + is (768 + value) place ≡ is byte value
unfolding is
one_place table byte value place t b v at = grind (arith, nat_tests)

pub counted_more : (tables : List ℕ) (table byte value place new : ℕ) → length tables ≡ 1024 → table < 4 → byte < 256 → value < 256
    → place ≡ table * 256 + byte → new ≡ get_or tables place 0 + 1 → counted (set tables place new) value ≡ counted tables value + cond (eqb byte value) 1 0
unfolding counted is
counted_more tables table byte value place new size t b v at more =
    omega (
      arith,
      one_more tables place value new (omega arith) more,
      one_more tables place (256 + value) new (omega arith) more,
      one_more tables place (512 + value) new (omega arith) more,
      one_more tables place (768 + value) new (omega arith) more,
      one_place table byte value place t b v at,
    )

pub count_of_more : (value : ℕ) (xs : List ℕ) (i d : ℕ) → i < length xs
    → count_of value (take (i + 1) xs) ≡ count_of value (take i xs) + cond (eqb (get_or xs i d) value) 1 0
count_of_more value xs i d h =
    grind (arith, nat_tests, count_by_more_yes (λ entry. eqb entry value) xs i d h, count_by_more_no (λ entry. eqb entry value) xs i d h)

pub count_of-append : (value : ℕ) (xs ys : List ℕ) → count_of value (xs ++ ys) ≡ count_of value xs + count_of value ys
count_of-append value xs ys = sum_by-append (λ e. cond (eqb e value) 1 0) xs ys

pub get_or-first_chunks : (size k i : ℕ) (xs d : List ℕ) → i < k → get_or (first_chunks size k xs) i d ≡ take size (drop (i * size) xs)
get_or-first_chunks size zero i xs d h = absurd (omega arith)
get_or-first_chunks size (suc k) zero xs d h = let e : zero * size ≡ 0 = omega arith in rw e
get_or-first_chunks size (suc k) (suc i) xs d h =
    let e : suc i * size ≡ size + i * size = omega arith in
    get_or-first_chunks size k i (drop size xs) d (omega arith) ∙ ap (take size) (drop-drop (i * size) size xs ∙ ap (λ n. drop n xs) (sym e))

-- the block behind those that are counted is counted
pub block_counted : (value size blocks i : ℕ) (bytes block d : List ℕ) → i < blocks → block ≡ get_or (first_chunks size blocks bytes) i d
    → count_of value (take (i * size) bytes) + count_of value block ≡ count_of value (take ((i + 1) * size) bytes)
block_counted value size blocks i bytes block d h at =
    let e : (i + 1) * size ≡ i * size + size = omega arith in
    let b : block ≡ take size (drop (i * size) bytes) = at ∙ get_or-first_chunks size blocks i bytes d h in
    sym (ap (λ n. count_of value (take n bytes)) e ∙ ap (count_of value) (take-add (i * size) size bytes)
    ∙ count_of-append value (take (i * size) bytes) (take size (drop (i * size) bytes))
    ∙ ap (λ xs. count_of value (take (i * size) bytes) + count_of value xs) (sym b))

-- the blocks and what is behind them are all
pub rest_counted : (value size blocks i : ℕ) (bytes rest : List ℕ) → i ≡ blocks → rest ≡ drop (blocks * size) bytes
    → count_of value (take (i * size) bytes) + count_of value rest ≡ count_of value bytes
rest_counted value size blocks i bytes rest all behind =
    ap (λ n. count_of value (take (n * size) bytes) + count_of value rest) all
    ∙ ap (λ xs. count_of value (take (blocks * size) bytes) + count_of value xs) behind
    ∙ sym (count_of-append value (take (blocks * size) bytes) (drop (blocks * size) bytes))
    ∙ ap (count_of value) (take-append-drop (blocks * size) bytes)

-- a front has as many of them at most as it is long
pub count_of_front : (value : ℕ) (xs : List ℕ) (i : ℕ) → i ≤ length xs → count_of value (take i xs) ≤ i
count_of_front value xs i h = omega (arith, count_by-le-length (λ entry. eqb entry value) (take i xs), length-take i xs)

-- what one table counts is no more than the four count together
pub in_one_place : (tables : List ℕ) (table byte : ℕ) → table < 4 → byte < 256 → get_or tables (table * 256 + byte) 0 ≤ counted tables byte
unfolding counted
in_one_place tables zero byte t b = grind arith
in_one_place tables (suc zero) byte t b = grind arith
in_one_place tables (suc (suc zero)) byte t b = grind arith
in_one_place tables (suc (suc (suc zero))) byte t b = grind arith
in_one_place tables (suc (suc (suc (suc table)))) byte t b = absurd (omega arith)

pub no_count : (size i none : ℕ) → get_or (replicate size none) i none ≡ none
no_count zero i none = refl
no_count (suc size) zero none = refl
no_count (suc size) (suc i) none = no_count size i none

pub no_counts : (size value : ℕ) → counted (replicate size 0) value ≡ 0
unfolding counted
no_counts size value =
    omega (arith, no_count size value 0, no_count size (256 + value) 0, no_count size (512 + value) 0, no_count size (768 + value) 0)

-- one more place of a list is filled
pub value_more : (f : ℕ → ℕ) (xs : List ℕ) (i new : ℕ) → i < length xs → ((value : ℕ) → value < i → get_or xs value 0 ≡ f value) → new ≡ f i
    → (value : ℕ) → value < i + 1 → get_or (set xs i new) value 0 ≡ f value
value_more f xs i new h before is value below = grind (arith, nat_tests, get_or-set_at, get_or-set_other, before value)
