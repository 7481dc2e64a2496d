-- The record of an enum without payloads that is a key: its `==` and its order give the answers of its variants'
-- numbers.
use Rattle.std.proofs.Common.{◌≡◌, ℕ, zero, suc, Bool, true, false, Some, List, [], ◌∷◌, refl, subst}
use Rattle.std.specs.Prelude.{◌&&◌, nat_eq, slice_get}
use Rattle.std.specs.Cmp.{booleans_Decides}
use Rattle.std.specs.Ordering.{nat_cmp}
use Rattle.std.specs.declared.cmp.Ordering.{Ordering}
use Rattle.std.specs.declared.cmp.Ordering.TheVariants.{Less, Equal, Greater}
use mathlib.Core.Bool.{beq}
use Rattle.bitcode_shapes.specs.BareVariants.{AreSomeInOrder}
use Rattle.bitcode_shapes.specs.DataKinds.{bare_data}
use Rattle.bitcode_shapes.specs.DataOf.{DataOf, key_as}
use Rattle.bitcode_shapes.specs.LawfulPairs.{both}

-- whether two answers of an order are one
abbrev pub same_order : Ordering → Ordering → Bool
same_order Less Less = true
same_order Less Equal = false
same_order Less Greater = false
same_order Equal Less = false
same_order Equal Equal = true
same_order Equal Greater = false
same_order Greater Less = false
same_order Greater Equal = false
same_order Greater Greater = true

one_order : (o p : Ordering) → same_order o p ≡ true → o ≡ p
one_order Less Less h = refl
one_order Less Equal h = absurd cc
one_order Less Greater h = absurd cc
one_order Equal Less h = absurd cc
one_order Equal Equal h = refl
one_order Equal Greater h = absurd cc
one_order Greater Less h = absurd cc
one_order Greater Equal h = absurd cc
one_order Greater Greater h = refl

-- whether a test holds of each element
abbrev pub holds_of_each : {T : Type 0} → (T → Bool) → List T → Bool
holds_of_each test [] = true
holds_of_each test (t ∷ rest) = test t && holds_of_each test rest

holds_at : {T : Type 0} (test : T → Bool) (ts : List T) (i : ℕ) (t : T) → holds_of_each test ts ≡ true → slice_get ts i ≡ Some t → test t ≡ true
holds_at test [] i t each is = absurd cc
holds_at test (u ∷ rest) zero t each is =
    let one : u ≡ t = cc in
    subst (λ v. test v ≡ true) one (both (test u) (holds_of_each test rest) each).0
holds_at test (u ∷ rest) (suc i) t each is = holds_at test rest i t (both (test u) (holds_of_each test rest) each).1 is

-- whether a test of two holds of each two of the values; of values in hand it computes
abbrev pub holds_of_pairs : {T : Type 0} → (T → T → Bool) → List T → Bool
holds_of_pairs test values = holds_of_each (λ t. holds_of_each (test t) values) values

module _ {T : Type 0} (variant : T → ℕ) (values : List T) where
  -- each value stands at the number of its variant
  abbrev pub AreNumbered : Type 0
  AreNumbered = (t : T) → slice_get values (variant t) ≡ Some t

  holds_of : (test : T → T → Bool) → holds_of_pairs test values ≡ true → AreNumbered → (t u : T) → test t u ≡ true
  holds_of test each numbered t u =
      holds_at (test t) values (variant u) u (holds_at (λ v. holds_of_each (test v) values) values (variant t) t each (numbered t)) (numbered u)

  module _ (eq : T → T → Bool) where
    -- whether `==` answers as that of the numbers
    abbrev pub is_eq_of_numbers : T → T → Bool
    is_eq_of_numbers t u = beq (eq t u) (nat_eq (variant t) (variant u))

    pub eq_of_numbers : holds_of_pairs is_eq_of_numbers values ≡ true → AreNumbered → (t u : T) → eq t u ≡ nat_eq (variant t) (variant u)
    eq_of_numbers each numbered t u = (booleans_Decides (eq t u) (nat_eq (variant t) (variant u))).0 (holds_of is_eq_of_numbers each numbered t u)

  module _ (cmp : T → T → Ordering) where
    -- whether the order answers as that of the numbers
    abbrev pub is_cmp_of_numbers : T → T → Bool
    is_cmp_of_numbers t u = same_order (cmp t u) (nat_cmp (variant t) (variant u))

    pub cmp_of_numbers : holds_of_pairs is_cmp_of_numbers values ≡ true → AreNumbered → (t u : T) → cmp t u ≡ nat_cmp (variant t) (variant u)
    cmp_of_numbers each numbered t u = one_order (cmp t u) (nat_cmp (variant t) (variant u)) (holds_of is_cmp_of_numbers each numbered t u)

abbrev pub bare_key : {T : Type 0} (count : ℕ) (variant : T → ℕ) (values : List T) → AreSomeInOrder variant values count → AreNumbered variant values
    → (eq : T → T → Bool) (cmp : T → T → Ordering)
    → holds_of_pairs (is_eq_of_numbers variant values eq) values ≡ true → holds_of_pairs (is_cmp_of_numbers variant values cmp) values ≡ true → DataOf T
bare_key count variant values in_order numbered eq cmp each_eq each_cmp =
    key_as (bare_data count variant values in_order numbered) eq cmp (eq_of_numbers variant values eq each_eq numbered) (cmp_of_numbers variant values cmp each_cmp numbered)
