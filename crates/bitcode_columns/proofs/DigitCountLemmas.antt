-- The digits of packed bytes, counted byte by byte.
use Rattle.std.proofs.Common.{◌≡◌, ℕ, zero, suc, ◌+◌, ◌*◌, ◌/◌, ◌%◌, ◌^◌, ◌<◌, ◌≤◌, Bool, true, false, cond, eqb, ltb, List, [], ◌∷◌, length, map, take, drop, min, get_or, set, All, refl, sym, ap, ◌∙◌, subst, arith}
use Rattle.std.specs.List.{range_with_len, sum_by}
use Rattle.std.proofs.Math.ListN.{length-set}
use Rattle.std.proofs.Math.Seq.{take-add, take-suc}
use Rattle.std.proofs.Math.Nat.{add-mul, mul-add, mul_comm, mul-le-mul_left, div-mul-le_self}
use Rattle.std.proofs.lemmas.Bool.Decides.{nat_tests}
use Rattle.std.proofs.lemmas.Grind.{same_number_lists, get_or-set_at}
use Rattle.std.proofs.lemmas.List.{get_or-take, get_or-drop, get_or-set_other, length-take, length-drop, take_all, take-append-drop}
use Rattle.std.proofs.lemmas.List.Elements.{All-head, All-tail}
use Rattle.std.proofs.lemmas.List.FromFn.{length-map-range_with_len, get_or-map-range_with_len}
use Rattle.std.proofs.lemmas.List.Sums.{sum_by-cons, sum_by_push}
use Rattle.std.proofs.lemmas.Nat.{div-mul-add, mod-mul-add}
use Rattle.bitcode_columns.specs.declared.pack.Base.{Base}
use Rattle.bitcode_columns.specs.Digits.{radix, digits_in_byte, digit, SpellsDigits}
use Rattle.bitcode_columns.specs.Histogram.{count_of}
use Rattle.bitcode_columns.specs.DigitCounts.{digits_of, digits_counted}
use Rattle.bitcode_columns.proofs.TableLemmas.{count_of-append, count_of_more, count_of_front, rest_counted}

-- ---- the bytes below a bound

pub of_below : (ℕ → ℕ) → ℕ → List ℕ → ℕ
of_below w bound xs = sum_by (λ x. cond (ltb x bound) (w x) 0) xs

cond_times : (b : Bool) (n : ℕ) → cond b 1 0 * n ≡ cond b n 0
cond_times true n = omega arith
cond_times false n = omega arith

times_cond : (b : Bool) (n : ℕ) → n * cond b 1 0 ≡ cond b n 0
times_cond true n = omega arith
times_cond false n = omega arith

one_below : (w : ℕ → ℕ) (x bound : ℕ) → cond (ltb x (bound + 1)) (w x) 0 ≡ cond (ltb x bound) (w x) 0 + cond (eqb x bound) (w bound) 0
one_below w x bound = grind (arith, nat_tests)

pub below_none : (w : ℕ → ℕ) (xs : List ℕ) → of_below w 0 xs ≡ 0
unfolding of_below
below_none w [] = refl
below_none w (x ∷ xs) =
    let none : cond (ltb x 0) (w x) 0 ≡ 0 = grind (arith, nat_tests) in
    omega (arith, none, below_none w xs, sum_by-cons (λ y. cond (ltb y 0) (w y) 0) x xs)

pub below_more : (w : ℕ → ℕ) (bound : ℕ) (xs : List ℕ) → of_below w (bound + 1) xs ≡ of_below w bound xs + count_of bound xs * w bound
unfolding of_below
below_more w bound [] = let e : 0 * w bound ≡ 0 = omega arith in omega (arith, e)
below_more w bound (x ∷ xs) =
    omega (
      arith,
      below_more w bound xs,
      one_below w x bound,
      sum_by-cons (λ y. cond (ltb y (bound + 1)) (w y) 0) x xs,
      sum_by-cons (λ y. cond (ltb y bound) (w y) 0) x xs,
      ap (λ n. n * w bound) (sum_by-cons (λ y. cond (eqb y bound) 1 0) x xs),
      add-mul (cond (eqb x bound) 1 0) (count_of bound xs) (w bound),
      cond_times (eqb x bound) (w bound),
    )

pub below_least : (w : ℕ → ℕ) (bound : ℕ) (xs : List ℕ) → of_below w bound xs ≤ sum_by w xs
unfolding of_below
below_least w bound [] = omega arith
below_least w bound (x ∷ xs) =
    let here : cond (ltb x bound) (w x) 0 ≤ w x = grind (arith, nat_tests) in
    omega (arith, here, below_least w bound xs, sum_by-cons (λ y. cond (ltb y bound) (w y) 0) x xs, sum_by-cons w x xs)

pub below_all : (w : ℕ → ℕ) (bound : ℕ) (xs : List ℕ) → All (λ x. x < bound) xs → of_below w bound xs ≡ sum_by w xs
unfolding of_below
below_all w bound [] h = refl
below_all w bound (x ∷ xs) h =
    let inside : x < bound = All-head (λ y. y < bound) x xs h in
    let here : cond (ltb x bound) (w x) 0 ≡ w x = grind (arith, nat_tests) in
    omega (
      arith,
      here,
      below_all w bound xs (All-tail (λ y. y < bound) x xs h),
      sum_by-cons (λ y. cond (ltb y bound) (w y) 0) x xs,
      sum_by-cons w x xs,
    )

-- ---- the entries of whole bytes

byte_of_entries : (base : Base) (bytes entries : List ℕ) (i : ℕ) → SpellsDigits base bytes entries → (i + 1) * digits_in_byte base ≤ length entries
    → take (digits_in_byte base) (drop (i * digits_in_byte base) entries) ≡ digits_of base (get_or bytes i 0)
unfolding digits_of
byte_of_entries base bytes entries i spelled fits =
    let d = digits_in_byte base in
    let next : (i + 1) * d ≡ i * d + d = omega (arith, add-mul i 1 d) in
    let size : length (take d (drop (i * d) entries)) ≡ d = omega (arith, length-take d (drop (i * d) entries), length-drop (i * d) entries) in
    same_number_lists (take d (drop (i * d) entries)) (map (digit (radix base) (get_or bytes i 0)) (range_with_len 0 d))
    (size ∙ sym (length-map-range_with_len (digit (radix base) (get_or bytes i 0)) 0 d))
    (λ j inside.
    let small : j < d = omega (arith, size) in
    get_or-take d (drop (i * d) entries) j 0 small
    ∙ get_or-drop (i * d) entries j 0
    ∙ spelled.each (i * d + j) (omega arith)
    ∙ ap (λ n. digit (radix base) (get_or bytes n 0) ((i * d + j) % d)) (div-mul-add i d j small)
    ∙ ap (λ n. digit (radix base) (get_or bytes i 0) n) (mod-mul-add i d j small)
    ∙ sym (get_or-map-range_with_len (digit (radix base) (get_or bytes i 0)) 0 d j j 0 small (omega arith)))

pub whole_bytes_counted : (base : Base) (value : ℕ) (bytes entries : List ℕ) (i : ℕ) → SpellsDigits base bytes entries → i * digits_in_byte base ≤ length entries
    → i ≤ length bytes → count_of value (take (i * digits_in_byte base) entries) ≡ digits_counted base value (take i bytes)
unfolding digits_counted
whole_bytes_counted base value bytes entries zero spelled fits inside =
    ap (λ n. count_of value (take n entries)) {y = 0} (omega arith)
whole_bytes_counted base value bytes entries (suc i) spelled fits inside =
    let d = digits_in_byte base in
    let next : suc i * d ≡ i * d + d = omega (arith, add-mul i 1 d, ap (λ n. n * d) {x = suc i} {y = i + 1} (omega arith)) in
    let before : count_of value (take (i * d) entries) ≡ digits_counted base value (take i bytes) =
    whole_bytes_counted base value bytes entries i spelled (omega arith) (omega arith) in
    ap (λ n. count_of value (take n entries)) next
    ∙ ap (count_of value) (take-add (i * d) d entries)
    ∙ count_of-append value (take (i * d) entries) (take d (drop (i * d) entries))
    ∙ ap (λ n. n + count_of value (take d (drop (i * d) entries))) before
    ∙ ap (λ xs. digits_counted base value (take i bytes) + count_of value xs)
    (byte_of_entries base bytes entries i spelled (omega (arith, add-mul i 1 d)))
    ∙ sym (ap (sum_by (λ byte. count_of value (digits_of base byte))) (take-suc bytes i 0 (omega arith))
    ∙ sum_by_push (λ byte. count_of value (digits_of base byte)) (take i bytes) (get_or bytes i 0))

-- ---- a byte that stands several times

length-digits_of : (base : Base) (byte : ℕ) → length (digits_of base byte) ≡ digits_in_byte base
unfolding digits_of
length-digits_of base byte = length-map-range_with_len (digit (radix base) byte) 0 (digits_in_byte base)

digit_at : (base : Base) (byte place : ℕ) → place < digits_in_byte base → get_or (digits_of base byte) place 0 ≡ digit (radix base) byte place
unfolding digits_of
digit_at base byte place inside =
    get_or-map-range_with_len (digit (radix base) byte) 0 (digits_in_byte base) place place 0 inside (omega arith)

-- one more digit is counted so many times
pub times_more : (base : Base) (byte place digit times value : ℕ) → place < digits_in_byte base → digit ≡ byte / radix base ^ place % radix base
    → times * count_of value (take (place + 1) (digits_of base byte)) ≡ times * count_of value (take place (digits_of base byte)) + cond (eqb digit value) times 0
times_more base byte place digit times value inside is =
    let digits = digits_of base byte in
    let here : get_or digits place 0 ≡ digit = digit_at base byte place inside ∙ sym is in
    let more : count_of value (take (place + 1) digits) ≡ count_of value (take place digits) + cond (eqb digit value) 1 0 =
    count_of_more value digits place 0 (omega (arith, length-digits_of base byte)) ∙ ap (λ d. count_of value (take place digits) + cond (eqb d value) 1 0) here in
    let product : times * cond (eqb digit value) 1 0 ≡ cond (eqb digit value) times 0 = times_cond (eqb digit value) times in
    ap (λ n. times * n) more ∙ mul-add times (count_of value (take place digits)) (cond (eqb digit value) 1 0)
    ∙ ap (λ n. times * count_of value (take place digits) + n) product

pub front_counts : (value place : ℕ) (xs : List ℕ) → count_of value (take place xs) ≤ count_of value xs
front_counts value place xs =
    omega (arith, count_of-append value (take place xs) (drop place xs), ap (count_of value) (take-append-drop place xs))

pub times_fit : (base : Base) (byte place digit times : ℕ) → place < digits_in_byte base → digit ≡ byte / radix base ^ place % radix base
    → times * count_of digit (take place (digits_of base byte)) + times ≤ times * count_of digit (digits_of base byte)
times_fit base byte place digit times inside is =
    let one : cond (eqb digit digit) times 0 ≡ times = grind (arith, nat_tests) in
    omega (
      arith,
      one,
      times_more base byte place digit times digit inside is,
      mul-le-mul_left times (front_counts digit (place + 1) (digits_of base byte)),
    )

pub added : (xs : List ℕ) (i value times : ℕ) → i < length xs
    → get_or (set xs i (get_or xs i 0 + times)) value 0 ≡ get_or xs value 0 + cond (eqb i value) times 0
added xs i value times inside = grind (arith, nat_tests, get_or-set_at, get_or-set_other)

pub added_size : (xs : List ℕ) (i new n : ℕ) → length xs ≡ n → length (set xs i new) ≡ n
added_size xs i new n size = simp length-set size

pub not_added : (bound i value times : ℕ) → bound ≤ i → value < bound → cond (eqb i value) times 0 ≡ 0
not_added bound i value times high below = grind (arith, nat_tests)

pub all_places : (base : Base) (byte place : ℕ) → digits_in_byte base ≤ place → take place (digits_of base byte) ≡ digits_of base byte
all_places base byte place all = take_all place (digits_of base byte) (omega (arith, length-digits_of base byte))

-- whole bytes are among all
pub whole_inside : (base : Base) (bytes entries : List ℕ) → SpellsDigits base bytes entries
    → (length entries / digits_in_byte base * digits_in_byte base ≤ length entries) × (length entries / digits_in_byte base ≤ length bytes)
whole_inside base bytes entries spelled =
    let d = digits_in_byte base in
    let size : length bytes ≡ length entries / d + min 1 (length entries % d) = spelled.size in
    (div-mul-le_self (length entries) d, omega arith)

-- ---- whole bytes and the entries behind them

module _ (base : Base) (value : ℕ) (bytes entries : List ℕ) (d whole : ℕ) (spelled : SpellsDigits base bytes entries) (d_is : d ≡ digits_in_byte base)
    (whole_is : whole ≡ length entries / d) where
  whole_of : whole ≡ length entries / digits_in_byte base
  whole_of = whole_is ∙ ap (λ n. length entries / n) d_is

  fits : whole * digits_in_byte base ≤ length entries
  fits = subst (λ n. n * digits_in_byte base ≤ length entries) (sym whole_of) (whole_inside base bytes entries spelled).0

  pub whole_there : whole ≤ length bytes
  whole_there = subst (λ n. n ≤ length bytes) (sym whole_of) (whole_inside base bytes entries spelled).1

  pub whole_behind : whole * d ≤ length entries
  whole_behind = subst (λ n. whole * n ≤ length entries) (sym d_is) fits

  pub whole_digits : digits_in_byte base * length (take whole bytes) ≤ length entries
  whole_digits =
      let size : length (take whole bytes) ≡ whole = omega (arith, length-take whole bytes, whole_there) in
      let product : digits_in_byte base * length (take whole bytes) ≡ whole * digits_in_byte base = ap (λ n. digits_in_byte base * n) size ∙ mul_comm (digits_in_byte base) whole in
      omega (arith, product, fits)

  counted_front : count_of value (take (whole * digits_in_byte base) entries) ≡ digits_counted base value (take whole bytes)
  counted_front = whole_bytes_counted base value bytes entries whole spelled fits whole_there

  pub whole_few : digits_counted base value (take whole bytes) ≤ length entries
  whole_few = omega (arith, counted_front, count_of_front value entries (whole * digits_in_byte base) fits, fits)

  pub whole_and_rest : digits_counted base value (take whole bytes) + count_of value (drop (whole * d) entries) ≡ count_of value entries
  whole_and_rest =
      ap (λ n. n + count_of value (drop (whole * d) entries)) (sym counted_front)
      ∙ ap (λ k. count_of value (take (whole * digits_in_byte base) entries) + count_of value (drop (whole * k) entries)) d_is
      ∙ rest_counted value (digits_in_byte base) whole whole entries (drop (whole * digits_in_byte base) entries) refl refl
