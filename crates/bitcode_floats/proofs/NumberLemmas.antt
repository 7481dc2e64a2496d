-- Floats that are no NaNs, four at a time. A lane is marked where one of them is a NaN.
use Rattle.std.proofs.Common.{◌≡◌, ℕ, suc, ◌+◌, ◌-◌, ◌*◌, ◌%◌, ◌^◌, ◌≤◌, Bool, true, false, cond, List, [], ◌∷◌, ◌++◌, length, map, take, drop, All, refl, sym, ap, ap₂, ◌∙◌, subst, arith}
use Rattle.std.specs.Prelude.{bit_or, not}
use Rattle.std.specs.Simd.Lanes.{Each1, zip2, mask_l}
use Rattle.std.specs.Float.{Float, NotNan}
use Rattle.std.specs.Float.Ieee.{is_nan, ne}
use lib.Dec.{leb, eqb}
use lib.Lanes.{top}
use mir.Syntax.{w64}
use mir.Val.{bits}
use Rattle.std.proofs.lemmas.Bool.{eqb-true, leb-false, leb-true, true≢false}
use Rattle.std.proofs.lemmas.Nat.{le_or_l, le_or_r}
use Rattle.std.proofs.Math.Seq.{take-add}
use Rattle.std.proofs.lemmas.List.{length-map, drop-drop}
use Rattle.std.proofs.lemmas.List.Elements.{All-nil, All-cons, All-append}
use Rattle.std.proofs.lemmas.Simd.{mask_l-mod}
use Rattle.bitcode_float_columns.proofs.LaneLemmas.{asked_of_all, marks_of_floats, is_number}

-- no lane of two is marked where none of their `bit_or` is
no_mark : (b : Bool) (rest : ℕ) → cond b 1 0 + 2 * rest ≡ 0 → (b ≡ false) × (rest ≡ 0)
no_mark true rest e = absurd (omega arith)
no_mark false rest e = (refl, omega arith)

is_below : (h a b : ℕ) → a ≤ b → leb (2 ^ h) b ≡ false → leb (2 ^ h) a ≡ false
is_below h a b le e = decide (leb (2 ^ h) a) refl
  where
    decide : (m : Bool) → leb (2 ^ h) a ≡ m → leb (2 ^ h) a ≡ false
    decide true is = absurd (omega (arith, le, leb-true _ _ is, leb-false _ _ e))
    decide false is = is

unmarked : (h : ℕ) (xs ys : List ℕ) → length xs ≡ length ys → mask_l (map (top h) (zip2 bit_or xs ys)) ≡ 0
    → (mask_l (map (top h) xs) ≡ 0) × (mask_l (map (top h) ys) ≡ 0)
unmarked h [] [] same e = (refl, refl)
unmarked h [] (y ∷ ys) same e = absurd (omega (arith, same))
unmarked h (x ∷ xs) [] same e = absurd (omega (arith, same))
unmarked h (x ∷ xs) (y ∷ ys) same e =
    let here = no_mark (top h (bit_or x y)) (mask_l (map (top h) (zip2 bit_or xs ys))) e in
    let more = unmarked h xs ys (omega (arith, same)) here.1 in (
      ap₂ (λ b n. cond b 1 0 + 2 * n) (is_below h x (bit_or x y) (le_or_l x y) here.0) more.0,
      ap₂ (λ b n. cond b 1 0 + 2 * n) (is_below h y (bit_or x y) (le_or_r x y) here.0) more.1,
    )

abbrev marked : List Float → List ℕ
marked xs = zip2 (λ a b. cond (ne a b) (2 ^ bits w64 - 1) 0) xs xs

length_zipped : {A B : Type 0} (f : A → A → B) (xs ys : List A) → length xs ≡ length ys → length (zip2 f xs ys) ≡ length xs
length_zipped f [] ys same = refl
length_zipped f (x ∷ xs) [] same = absurd (omega (arith, same))
length_zipped f (x ∷ xs) (y ∷ ys) same = ap (λ n. suc n) (length_zipped f xs ys (omega (arith, same)))

all_of_each : (xs : List Float) → Each1 NotNan xs → All NotNan xs
all_of_each [] each = All-nil NotNan
all_of_each (x ∷ xs) each = All-cons NotNan x xs each.0 (all_of_each xs each.1)

numbers : (xs : List Float) → length xs ≡ 4 → mask_l (map (top 63) (marked xs)) ≡ 0 → All NotNan xs
numbers xs four none =
    all_of_each xs (asked_of_all is_nan xs NotNan is_number (omega (arith, four)) (marks_of_floats w64 xs) (ap (λ m. m % 2 ^ 64) none))

is_zero : (m : ℕ) → not (not (eqb m 0)) ≡ true → m ≡ 0
is_zero m held = decide (eqb m 0) refl held
  where
    decide : (b : Bool) → eqb m 0 ≡ b → not (not b) ≡ true → m ≡ 0
    decide true is held = eqb-true m 0 is
    decide false is held = absurd (true≢false (sym held))

pub numbers_of_four : (a b c d : List Float) → length a ≡ 4 → length b ≡ 4 → length c ≡ 4 → length d ≡ 4
    → not (not (eqb (mask_l (map (top 63) (zip2 bit_or (zip2 bit_or (marked a) (marked b)) (zip2 bit_or (marked c) (marked d)))) % 2 ^ 64) 0)) ≡ true
    → All NotNan (a ++ b ++ c ++ d)
numbers_of_four a b c d a4 b4 c4 d4 held =
    let size : (xs : List Float) → length (marked xs) ≡ length xs = λ xs. length_zipped (λ x y. cond (ne x y) (2 ^ bits w64 - 1) 0) xs xs refl in
    let front : List ℕ = zip2 bit_or (marked a) (marked b) in
    let back : List ℕ = zip2 bit_or (marked c) (marked d) in
    let ab : length (marked a) ≡ length (marked b) = omega (arith, size a, size b, a4, b4) in
    let cd : length (marked c) ≡ length (marked d) = omega (arith, size c, size d, c4, d4) in
    let front4 : length front ≡ 4 = omega (arith, length_zipped bit_or (marked a) (marked b) ab, size a, a4) in
    let back4 : length back ≡ 4 = omega (arith, length_zipped bit_or (marked c) (marked d) cd, size c, c4) in
    let lanes : List Bool = map (top 63) (zip2 bit_or front back) in
    let few : length lanes ≤ 64 = omega (arith, length-map (zip2 bit_or front back) (top 63), length_zipped bit_or front back (front4 ∙ sym back4), front4) in
    let none : mask_l lanes ≡ 0 = sym (mask_l-mod lanes 64 few) ∙ is_zero (mask_l lanes % 2 ^ 64) held in
    let two = unmarked 63 front back (front4 ∙ sym back4) none in
    let in_front = unmarked 63 (marked a) (marked b) ab two.0 in
    let in_back = unmarked 63 (marked c) (marked d) cd two.1 in
    All-append NotNan (a ++ b ++ c) d
    (All-append NotNan (a ++ b) c (All-append NotNan a b (numbers a a4 in_front.0) (numbers b b4 in_front.1)) (numbers c c4 in_back.0))
    (numbers d d4 in_back.1)

-- sixteen floats more
pub sixteen_more : (xs : List Float) (i : ℕ) (a b c d : List Float) → a ≡ take 4 (drop (16 * i) xs) → b ≡ take 4 (drop (16 * i + 4) xs)
    → c ≡ take 4 (drop (16 * i + 8) xs) → d ≡ take 4 (drop (16 * i + 12) xs)
    → All NotNan (take (16 * i) xs) → All NotNan (a ++ b ++ c ++ d) → All NotNan (take (16 * (i + 1)) xs)
sixteen_more xs i a b c d is_a is_b is_c is_d before here =
    let n : ℕ = 16 * i in
    let rest : List Float = drop n xs in
    let apart : take 16 rest ≡ a ++ b ++ c ++ d =
    take-add 12 4 rest
    ∙ ap₂ (λ ys zs. ys ++ take 4 zs)
    (take-add 8 4 rest ∙ ap₂ (λ ys zs. ys ++ take 4 zs) (take-add 4 4 rest ∙ ap (λ zs. take 4 rest ++ take 4 zs) (drop-drop 4 n xs)) (drop-drop 8 n xs))
    (drop-drop 12 n xs)
    ∙ sym (ap₂ (λ ys zs. ys ++ zs) (ap₂ (λ ys zs. ys ++ zs) (ap₂ (λ ys zs. ys ++ zs) is_a is_b) is_c) is_d) in
    let whole : take (16 * (i + 1)) xs ≡ take n xs ++ take 16 rest = ap (λ k. take k xs) (omega arith) ∙ take-add n 16 xs in
    subst (All NotNan) (sym whole) (All-append NotNan (take n xs) (take 16 rest) before (subst (All NotNan) (sym apart) here))
