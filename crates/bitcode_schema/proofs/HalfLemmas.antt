-- Parts of lists, and several things as one, by halves.
use Rattle.std.proofs.Common.{◌≡◌, ℕ, zero, suc, ◌-◌, ◌/◌, ◌<◌, ◌≤◌, List, [], ◌∷◌, length, take, drop, refl, ap₂, arith, length-drop}
use Rattle.std.proofs.lemmas.List.{length-take-le}
use Rattle.std.proofs.Math.Nat.{div-lt_self}
use Rattle.bitcode_schema.specs.Halves.{halved_within, halved}

-- ---- halves of numbers

pub half_less : (n : ℕ) → 1 < n → n / 2 < n
half_less n h = div-lt_self (omega (arith, h)) (omega arith)

pub half_some : (n : ℕ) → 1 < n → 0 < n / 2
half_some n h = omega (arith, h)

-- ---- halves

module _ {A : Type 0} (none : A) (both : A → A → A) where
  -- by any number of halvings that suffices
  pub enough_halvings : (xs : List A) (most more : ℕ) → length xs ≤ most → length xs ≤ more → halved_within none both xs most ≡ halved_within none both xs more
  enough_halvings [] most more h k = refl
  enough_halvings (x ∷ []) most more h k = refl
  enough_halvings (x ∷ y ∷ xs) zero more h k = absurd (omega (arith, h))
  enough_halvings (x ∷ y ∷ xs) (suc most) zero h k = absurd (omega (arith, k))
  enough_halvings (x ∷ y ∷ xs) (suc most) (suc more) h k =
      let all = x ∷ y ∷ xs in
      let some : 1 < length all = omega arith in
      let half = length all / 2 in
      let less : half < length all = half_less (length all) some in
      let there : 0 < half = half_some (length all) some in
      let front : length (take half all) ≡ half = length-take-le half all (omega (arith, less)) in
      let back : length (drop half all) ≡ length all - half = length-drop half all in
      ap₂ both
      (enough_halvings (take half all) most more (omega (arith, front, less, h)) (omega (arith, front, less, k)))
      (enough_halvings (drop half all) most more (omega (arith, back, there, h)) (omega (arith, back, there, k)))

  pub halved_pair : (xs : List A) → 1 < length xs → halved none both xs ≡ both (halved none both (take (length xs / 2) xs)) (halved none both (drop (length xs / 2) xs))
  halved_pair [] some = absurd (omega (arith, some))
  halved_pair (x ∷ []) some = absurd (omega (arith, some))
  halved_pair (x ∷ y ∷ xs) some =
      let all = x ∷ y ∷ xs in
      let half = length all / 2 in
      let less : half < length all = half_less (length all) some in
      let there : 0 < half = half_some (length all) some in
      let front : length (take half all) ≡ half = length-take-le half all (omega (arith, less)) in
      let back : length (drop half all) ≡ length all - half = length-drop half all in
      ap₂ both
      (enough_halvings (take half all) (suc (length xs)) (length (take half all)) (omega (arith, front, less)) (omega arith))
      (enough_halvings (drop half all) (suc (length xs)) (length (drop half all)) (omega (arith, back, there)) (omega arith))
