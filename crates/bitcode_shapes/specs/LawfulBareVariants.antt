-- An enum without payloads is lawful if its variants are numbered from 0.
use Rattle.std.proofs.Common.{◌≡◌, ℕ, zero, suc, ◌+◌, ◌<◌, ◌≤◌, true, List, [], ◌∷◌, map, refl, sym, ◌∙◌, ap, subst, arith}
use Rattle.std.specs.Prelude.{leb}
use Rattle.std.specs.List.{range_with_len}
use Rattle.std.proofs.lemmas.Bool.{leb-true}
use Rattle.bitcode_shapes.specs.Datum.{Datum, choice, unit}
use Rattle.bitcode_shapes.specs.Shape.{IsOfVariant, AreSound, variant_count}
use Rattle.bitcode_shapes.specs.Lawful.{Lawful, Makeable}
use Rattle.bitcode_shapes.specs.LawfulPairs.{both}
use Rattle.bitcode_shapes.specs.BareVariants.{unit_shapes, bare_shape, ListsBare, MakesBare, SameBare, AreInOrder, AreSomeVariants}

pub count-unit_shapes : (count : ℕ) → variant_count (unit_shapes count) ≡ count
count-unit_shapes zero = refl
count-unit_shapes (suc count) = ap suc (count-unit_shapes count)

sound-unit_shapes : (count : ℕ) → AreSound (unit_shapes count)
sound-unit_shapes zero = tt
sound-unit_shapes (suc count) = (tt, sound-unit_shapes count)

pub of_bare_variant : (count variant : ℕ) → variant < count → IsOfVariant (unit_shapes count) variant unit
of_bare_variant zero variant below = absurd (omega arith)
of_bare_variant (suc count) zero below = refl
of_bare_variant (suc count) (suc variant) below = of_bare_variant count variant (omega arith)

bare_variant_of : (count variant : ℕ) (d : Datum) → IsOfVariant (unit_shapes count) variant d → (variant < count) × (d ≡ unit)
bare_variant_of zero variant d is = absurd is
bare_variant_of (suc count) zero d is = (omega arith, is)
bare_variant_of (suc count) (suc variant) d is =
    let found = bare_variant_of count variant d is in
    (let below = found.0 in omega arith, found.1)

same_variant : {i j : ℕ} → choice i unit ≡ choice j unit → i ≡ j
same_variant h = cc

pub at_least_two : (count : ℕ) → AreSomeVariants count → 2 ≤ count
at_least_two count some = leb-true 2 count (both (leb 2 count) (leb count 256) some).0

pub at_most_256 : (count : ℕ) → AreSomeVariants count → count ≤ 256
at_most_256 count some = leb-true count 256 (both (leb 2 count) (leb count 256) some).1

module _ {T : Type 0} (variant : T → ℕ) where
  -- the value of a variant, in a list of values whose variants are consecutive
  found_from : (values : List T) (first count i : ℕ) → map variant values ≡ range_with_len first count → i < count → (t : T) × (variant t ≡ first + i)
  found_from values first zero i are below = absurd (omega arith)
  found_from [] first (suc count) i are below = absurd cc
  found_from (t ∷ values) first (suc count) zero are below = (t, let is : variant t ≡ first = cc in is ∙ omega arith)
  found_from (t ∷ values) first (suc count) (suc i) are below =
      let later : map variant values ≡ range_with_len (first + 1) count = cc in
      let found = found_from values (first + 1) count i later (omega arith) in
      (found.0, found.1 ∙ omega arith)

  found_at : (values : List T) {count : ℕ} → AreInOrder variant values count → (i : ℕ) → i < count → (t : T) × (variant t ≡ i)
  found_at values {count} are i below =
      let found = found_from values 0 count i are below in
      (found.0, found.1 ∙ omega arith)

  pub bare_lawful : {count : ℕ} → AreSomeVariants count → Lawful (bare_shape count) (λ t. variant t < count) (ListsBare variant) (SameBare variant) true
  bare_lawful {count} some = record {
    sound = (
      subst (λ n. 2 ≤ n) (sym (count-unit_shapes count)) (at_least_two count some),
      subst (λ n. n ≤ 256) (sym (count-unit_shapes count)) (at_most_256 count some),
      sound-unit_shapes count,
    );
    listed = λ t h. (choice (variant t) unit, refl);
    of_shape = λ t d h l. record { index = variant t; payload = unit; is = l; is_variant = of_bare_variant count (variant t) h };
    one_listing = λ o t d e h l m. l ∙ sym m;
    reflexive = λ t h. refl;
    symmetric = λ t u h i e. sym e;
    transitive = λ t u v h i j e f. e ∙ f;
  }

  pub bare_makeable : {count : ℕ} (values : List T) → AreInOrder variant values count
      → Makeable (bare_shape count) (λ t. variant t < count) (ListsBare variant) (SameBare variant) (MakesBare variant)
  bare_makeable {count} values are = record {
    made = λ g d o s.
        let known = bare_variant_of count o.index o.payload o.is_variant in
        let found = found_at values are o.index known.0 in
        (found.0, (subst (λ i. i < count) (sym found.1) known.0, o.is ∙ ap (choice o.index) known.1 ∙ ap (λ i. choice i unit) (sym found.1)));
    unambiguous = λ d t u h i m n. same_variant (sym m ∙ n);
    remade = λ t u d h i l m. same_variant (sym l ∙ m);
  }
