-- Several floats at once. A lane is marked where its float is a NaN: another value stands there before the bits are
-- taken, and the bits of the NaN afterwards.
use Rattle.std.proofs.Common.{◌≡◌, ℕ, ◌+◌, ◌*◌, ◌-◌, ◌%◌, ◌^◌, ◌≤◌, Bool, true, false, cond, List, [], ◌∷◌, length, map, refl, sym, ap, ap₂, ◌∙◌, subst, arith}
use Rattle.std.specs.Prelude.{from_bits, bit_and, not}
use Rattle.std.specs.Simd.Lanes.{Each1, zip2, sel_l, mask_l}
use Rattle.std.specs.Float.{Float, Format, binary32, binary64, nan, inf, fin}
use Rattle.std.specs.Float.Ieee.{is_nan, ne, nan_bits, to_bits, of_bits}
use lib.Dec.{T, ltb}
use lib.ListN.{replicate, length-map}
use lib.Ieee.{hid, ones, top}
use lib.Ieee.Bits.{nan_bits_is, nan_bits_above}
use lib.Ieee.Compare.{differs_from_itself, nan_differs}
use lib.Lanes.{top as mark_top}
use mir.Syntax.{Width}
use mir.Val.{bits, hbits}
use Rattle.std.proofs.lemmas.Simd.{tops_compared, mask_l-mod}
use Rattle.std.proofs.lemmas.Float.{not_nan_f32_bits, not_nan_f64_bits}
use Rattle.std.proofs.lemmas.Nat.{and_mask}
use Rattle.std.proofs.lemmas.Bool.{true≢false}

-- Of the lanes xs, `ms` marks those of which `marks` holds. One value stands in the place of each marked one.
module _ {A : Type 0} (marks : A → Bool) (xs : List A) where
  -- a result is f of its lane, where c is that at each marked one
  pub replaced : {B : Type 0} (f : A → B) (c : B) (d : A) → ((a : A) → marks a ≡ true → c ≡ f a) → {ms : List Bool} {cs : List B} {ds : List A}
      → ms ≡ map marks xs → cs ≡ replicate (length xs) c → ds ≡ replicate (length xs) d → sel_l ms cs (map f (sel_l ms ds xs)) ≡ map f xs
  replaced f c d marked {ms} {cs} {ds} marks_are cs_are ds_are =
      ap₂ (λ m r. sel_l m r (map f (sel_l m ds xs))) marks_are cs_are
      ∙ ap (λ r. sel_l (map marks xs) (replicate (length xs) c) (map f (sel_l (map marks xs) r xs))) ds_are ∙ each xs
    where
      lane : (x : A) (b : Bool) → marks x ≡ b → cond b c (f (cond b d x)) ≡ f x
      lane x true e = marked x e
      lane x false e = refl

      each : (xs : List A) → sel_l (map marks xs) (replicate (length xs) c) (map f (sel_l (map marks xs) (replicate (length xs) d) xs)) ≡ map f xs
      each [] = refl
      each (x ∷ xs) = ap₂ (λ y ys. y ∷ ys) (lane x (marks x) refl) (each xs)

  -- what is asked of each lane holds of the value in the place of marked ones, and of any other
  pub asked : (P : A → Type 0) (d : A) → P d → ((a : A) → marks a ≡ false → P a)
      → {ms : List Bool} {ds : List A} → ms ≡ map marks xs → ds ≡ replicate (length xs) d → Each1 P (sel_l ms ds xs)
  asked P d held other {ms} {ds} marks_are ds_are =
      subst (λ m. Each1 P (sel_l m ds xs)) (sym marks_are) (subst (λ r. Each1 P (sel_l (map marks xs) r xs)) (sym ds_are) (each xs))
    where
      lane : (x : A) (b : Bool) → marks x ≡ b → P (cond b d x)
      lane x true e = held
      lane x false e = other x e

      each : (xs : List A) → Each1 P (sel_l (map marks xs) (replicate (length xs) d) xs)
      each [] = tt
      each (x ∷ xs) = (lane x (marks x) refl, each xs)

  -- where none is marked, it holds of all
  pub asked_of_all : (P : A → Type 0) → ((a : A) → marks a ≡ false → P a) → length xs ≤ 64
      → {ms : List Bool} → ms ≡ map marks xs → mask_l ms % 2 ^ 64 ≡ 0 → Each1 P xs
  asked_of_all P other few marks_are none =
      each xs (sym (mask_l-mod (map marks xs) 64 (omega (arith, length-map xs marks))) ∙ ap (λ m. mask_l m % 2 ^ 64) (sym marks_are) ∙ none)
    where
      no_bit : (b : Bool) (rest : ℕ) → cond b 1 0 + 2 * rest ≡ 0 → (b ≡ false) × (rest ≡ 0)
      no_bit true rest e = absurd (omega arith)
      no_bit false rest e = (refl, omega arith)

      each : (xs : List A) → mask_l (map marks xs) ≡ 0 → Each1 P xs
      each [] e = tt
      each (x ∷ xs) e =
          let here = no_bit (marks x) (mask_l (map marks xs)) e in
          (other x here.0, each xs here.1)

-- ---- NaNs

nan_only : (x : Float) → is_nan x ≡ true → x ≡ nan
unfolding is_nan
nan_only nan e = refl
nan_only (inf s) e = absurd (true≢false (sym e))
nan_only (fin s m k) e = absurd (true≢false (sym e))

self_ne : (x : Float) → ne x x ≡ is_nan x
unfolding is_nan
self_ne x = is_self (ne x x) (is_nan x) refl refl
  where
    is_self : (a b : Bool) → ne x x ≡ a → is_nan x ≡ b → a ≡ b
    is_self true true e n = refl
    is_self false false e n = refl
    is_self true false e n = absurd (true≢false (sym (ap is_nan (differs_from_itself x (subst T (sym e) tt))) ∙ n))
    is_self false true e n = absurd (true≢false (sym nan_differs ∙ ap (λ y. ne y y) (sym (nan_only x n)) ∙ e))

-- a float is marked where it differs from itself
pub marks_of_floats : (w : Width) (xs : List Float) → map (mark_top (hbits w)) (zip2 (λ a b. cond (ne a b) (2 ^ bits w - 1) 0) xs xs) ≡ map is_nan xs
marks_of_floats w xs = tops_compared w ne xs xs ∙ selves xs
  where
    selves : (xs : List Float) → zip2 ne xs xs ≡ map is_nan xs
    selves [] = refl
    selves (x ∷ xs) = ap₂ (λ y ys. y ∷ ys) (self_ne x) (selves xs)

pub is_number : (x : Float) → is_nan x ≡ false → T (not (is_nan x))
is_number x e = subst (λ b. T (not b)) (sym e) tt

pub is_number_bits : (f : Format) (n : ℕ) → nan_bits f n ≡ false → T (not (nan_bits f n))
is_number_bits f n e = subst (λ b. T (not b)) (sym e) tt

-- the bits of a NaN, and the NaN with them
pub bits_of_nan_32 : (x : Float) → is_nan x ≡ true → 0x7fc00000 ≡ to_bits binary32 x
unfolding to_bits
bits_of_nan_32 x e = ap (to_bits binary32) (sym (nan_only x e))

pub bits_of_nan_64 : (x : Float) → is_nan x ≡ true → 0x7ff8000000000000 ≡ to_bits binary64 x
unfolding to_bits
bits_of_nan_64 x e = ap (to_bits binary64) (sym (nan_only x e))

pub nan_of_bits_32 : from_bits binary32 0x7fc00000 ≡ nan
unfolding of_bits
nan_of_bits_32 = refl

-- 0 is none
pub zero_is_number : (f : Format) → T (not (nan_bits f 0)) → T (not (is_nan (from_bits f 0)))
zero_is_number f number = subst (λ b. T (not b)) (nan_bits_is f 0) number

pub zero_bits_32 : T (not (nan_bits binary32 0))
zero_bits_32 = not_nan_f32_bits 0 (omega arith)

pub zero_bits_64 : T (not (nan_bits binary64 0))
zero_bits_64 = not_nan_f64_bits 0 (omega arith)

pub nan_with_bits : (f : Format) (n : ℕ) → nan_bits f n ≡ true → nan ≡ from_bits f n
nan_with_bits f n e = sym (nan_only (from_bits f n) (sym (nan_bits_is f n) ∙ e))

-- bits are marked where they are those of a NaN
pub marks_of_bits : (w : Width) (f : Format) (high : ℕ) (xs : List ℕ) → length xs ≡ 4 → high ≡ ones f * hid f → top f ≡ 2 ^ hbits w
    → map (mark_top (hbits w)) (zip2 (λ a b. cond (ltb a b) (2 ^ bits w - 1) 0) (replicate 4 high) (zip2 bit_and xs (replicate 4 (2 ^ hbits w - 1))))
    ≡ map (nan_bits f) xs
marks_of_bits w f high xs four above sizes =
    tops_compared w ltb (replicate 4 high) (zip2 bit_and xs (replicate 4 (2 ^ hbits w - 1)))
    ∙ ap (λ n. zip2 ltb (replicate n high) (zip2 bit_and xs (replicate n (2 ^ hbits w - 1)))) (sym four) ∙ each xs
  where
    each : (xs : List ℕ) → zip2 ltb (replicate (length xs) high) (zip2 bit_and xs (replicate (length xs) (2 ^ hbits w - 1))) ≡ map (nan_bits f) xs
    each [] = refl
    each (x ∷ xs) =
        ap₂ (λ y ys. y ∷ ys)
        (ap (λ n. ltb high n) (and_mask x (hbits w)) ∙ ap₂ (λ m n. ltb m (x % n)) above (sym sizes) ∙ sym (nan_bits_above f x))
        (each xs)
