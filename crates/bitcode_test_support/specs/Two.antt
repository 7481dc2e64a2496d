-- An enum of two variants stands for one payload or the other.
use Rattle.std.proofs.Common.{◌≡◌, ℕ, ℤ, refl, inl, inr, lit≤}
use Rattle.std.specs.Prelude.{◌⊎◌}
use Rattle.bitcode.specs.ByHand.{DataOf, data_as, plain_data, choice_lawful, choice_makeable, first_lawful, first_makeable, last_lawful, last_makeable}
use Rattle.bitcode.specs.ByHand.{choice_same_arrays, first_same_arrays, last_same_arrays, choices_same_data, first_same_data, last_same_data, variants_exact}
use Rattle.bitcode_test_support.specs.declared.by_hand.two.Two.{Two}
use Rattle.bitcode_test_support.specs.declared.by_hand.two.Two.TheVariants.{A, B}

abbrev pub two_variant : Two → ℕ ⊎ ℤ
two_variant (A a) = inl a
two_variant (B b) = inr b

abbrev pub two_found : (v : ℕ ⊎ ℤ) → (t : Two) × (two_variant t ≡ v)
two_found (inl a) = (A a, refl)
two_found (inr b) = (B b, refl)

pub two_again : (t : Two) → (two_found (two_variant t)).0 ≡ t
two_again (A a) = refl
two_again (B b) = refl

-- what is known of the enum, from what is known of its payloads
abbrev pub two_data : DataOf ℕ → DataOf ℤ → DataOf Two
two_data a b =
    data_as two_variant two_found two_again
    (plain_data
    (choice_lawful (lit≤ tt) (lit≤ tt) (first_lawful a.lawful (last_lawful b.lawful))) (choice_makeable (first_makeable a.makeable (last_makeable b.makeable)))
    (choice_same_arrays (first_same_arrays a.same_arrays (last_same_arrays b.same_arrays)))
    (choices_same_data (first_same_data a.same_data (last_same_data b.same_data))) (variants_exact a.are_exact b.are_exact))
