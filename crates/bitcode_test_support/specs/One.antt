-- The one variant stands for its field.
use Rattle.std.proofs.Common.{◌≡◌, ℕ, refl}
use Rattle.bitcode_test_support.specs.declared.by_hand.one.One.{One}
use Rattle.bitcode_test_support.specs.declared.by_hand.one.One.TheVariants.{A}

abbrev pub one_field : One → ℕ
one_field (A a) = a

abbrev pub one_found : (a : ℕ) → (t : One) × (one_field t ≡ a)
one_found a = (A a, refl)

pub one_again : (t : One) → (one_found (one_field t)).0 ≡ t
one_again (A a) = refl
