-- Variants whose payloads correspond to those of lawful variants are lawful, and so is an enum of some lawful variants.
use Rattle.std.proofs.Common.{◌≡◌, ℕ, ◌<◌, ◌≤◌, Bool, sym, subst, inl, inr, lit<, arith}
use Rattle.std.specs.Prelude.{◌⊎◌}
use Rattle.bitcode_shapes.specs.Datum.{Datum}
use Rattle.bitcode_shapes.specs.Shape.{Shape, Shapes, no_shapes, shape_and, choice_shape, variant_count}
use Rattle.bitcode_shapes.specs.BareVariants.{AreSomeVariants}
use Rattle.bitcode_shapes.specs.Choices.{ListsChoice}
use Rattle.bitcode_shapes.specs.Lawful.{Lawful}
use Rattle.bitcode_shapes.specs.LawfulBareVariants.{at_least_two, at_most_256}
use Rattle.bitcode_shapes.specs.LawfulChoices.{LawfulVariants, MakeableVariants, choice_lawful}
use Rattle.bitcode_shapes.specs.ArrayCounts.{VariantsListSameArrays}
use Rattle.bitcode_shapes.specs.SameData.{VariantsHoldSameData}
use Rattle.bitcode_enums.specs.ByNumber.{index_either}

-- ---- variants are numbered below their count

pub below_last : (s : Shape) → 0 < variant_count (shape_and s no_shapes)
below_last s = lit< tt

pub below_either : {A R : Type 0} (s : Shape) (ss : Shapes) (index : R → ℕ) → ((r : R) → index r < variant_count ss)
    → (v : A ⊎ R) → index_either index v < variant_count (shape_and s ss)
below_either s ss index below (inl a) = omega arith
below_either s ss index below (inr r) = let later = below r in omega arith

-- ---- payloads that correspond to others

module _ {T U : Type 0} (stands_for : T → U) {shapes : Shapes} {is_value : U → Type 0} {lists : U → ℕ → Datum → Type 0} {same : U → U → Type 0} where
  pub variants_image_lawful : {order : Bool} → LawfulVariants shapes is_value lists same order
      → LawfulVariants shapes (λ t. is_value (stands_for t)) (λ t i d. lists (stands_for t) i d) (λ t u. same (stands_for t) (stands_for u)) order
  variants_image_lawful l = record {
    sound = l.sound;
    listed = λ t h. l.listed (stands_for t) h;
    of_shape = λ t i d h m. l.of_shape (stands_for t) i d h m;
    one_listing = λ o t i j d e h m n. l.one_listing o (stands_for t) i j d e h m n;
    reflexive = λ t h. l.reflexive (stands_for t) h;
    symmetric = λ t u h i s. l.symmetric (stands_for t) (stands_for u) h i s;
    transitive = λ t u v h i j s r. l.transitive (stands_for t) (stands_for u) (stands_for v) h i j s r;
  }

  pub variants_image_makeable : {makes : ℕ → Datum → U → Type 0} → ((u : U) → (t : T) × (stands_for t ≡ u))
      → MakeableVariants shapes is_value lists same makes
      → MakeableVariants shapes (λ t. is_value (stands_for t)) (λ t i d. lists (stands_for t) i d) (λ t u. same (stands_for t) (stands_for u)) (λ i d t. makes i d (stands_for t))
  variants_image_makeable {makes = makes} find m = record {
    made = λ g i d o s.
        let inner = m.made g i d o s in
        let found = find inner.0 in
        (found.0, (subst is_value (sym found.1) inner.1.0, subst (makes i d) (sym found.1) inner.1.1));
    unambiguous = λ i d t u h j x y. m.unambiguous i d (stands_for t) (stands_for u) h j x y;
    remade = λ t u i d h j l x. m.remade (stands_for t) (stands_for u) i d h j l x;
  }

pub variants_image_same_arrays : {T U : Type 0} (stands_for : T → U) {shapes : Shapes} {is_value : U → Type 0} {lists : U → ℕ → Datum → Type 0}
    → VariantsListSameArrays shapes is_value lists
    → VariantsListSameArrays shapes (λ t. is_value (stands_for t)) (λ t i d. lists (stands_for t) i d)
variants_image_same_arrays stands_for of_image = record { at = λ t i j d e h l m. of_image.at (stands_for t) i j d e h l m }

pub variants_image_same_data : {T U : Type 0} (stands_for : T → U) {determined : Bool} {is_value : U → Type 0} {lists : U → ℕ → Datum → Type 0} {same : U → U → Type 0}
    {makes : ℕ → Datum → U → Type 0} → VariantsHoldSameData determined is_value lists same makes
    → VariantsHoldSameData determined (λ t. is_value (stands_for t)) (λ t i d. lists (stands_for t) i d) (λ t u. same (stands_for t) (stands_for u))
    (λ i d t. makes i d (stands_for t))
variants_image_same_data stands_for of_image = record {
  at = λ o t u i j d e h k s l m. of_image.at o (stands_for t) (stands_for u) i j d e h k s l m;
  made = λ o t i d h. of_image.made o (stands_for t) i d h;
}

-- ---- choices with a number of variants that enums may have

pub some_choices_lawful : {T : Type 0} {shapes : Shapes} {is_value : T → Type 0} {lists : T → ℕ → Datum → Type 0} {same : T → T → Type 0} {order : Bool} {count : ℕ}
    → variant_count shapes ≡ count → AreSomeVariants count → LawfulVariants shapes is_value lists same order
    → Lawful (choice_shape shapes) is_value (ListsChoice lists) same order
some_choices_lawful {count = count} is some variants =
    choice_lawful (subst (λ n. 2 ≤ n) (sym is) (at_least_two count some)) (subst (λ n. n ≤ 256) (sym is) (at_most_256 count some)) variants
