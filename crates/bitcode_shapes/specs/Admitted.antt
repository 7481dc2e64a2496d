-- A type whose own check admits only some of the values of another type, such as a struct whose constructor checks its
-- fields. The check is part of the shape: it says which data of the fields the type has.
use Rattle.std.proofs.Common.{◌≡◌, ℕ, Bool, true, false, ℤ, pos, refl, sym, ◌∙◌, ap, ap₂, subst}
use Rattle.std.specs.Prelude.{◌==◌, if◌then◌else◌, IsTrue}
use Rattle.bitcode_shapes.specs.Datum.{Datum, number_in, natural_in, first_in, second_in}
use Rattle.bitcode_shapes.specs.Shape.{admitted_shape}
use Rattle.bitcode_shapes.specs.CompareAlike.{images_alike}
use Rattle.bitcode_shapes.specs.DataOf.{DataOf, data_of}
use Rattle.bitcode_shapes.specs.Ints.{MakesNumber, bool_number}
use Rattle.bitcode_shapes.specs.Pairs.{IsPairValue, MakesPair}
use Rattle.bitcode_shapes.specs.SameData.{images_same_data}
use Rattle.bitcode_shapes.specs.SameIsOne.{inexact}

-- ---- the value that a datum makes, as a function

pub record ReadsBack {P : Type 0} (is_value : P → Type 0) (makes : Datum → P → Type 0) : Type 0 where
  pub value : Datum → P
  pub is : (p : P) (d : Datum) → is_value p → makes d p → value d ≡ p

abbrev pub natural_back : {is_value : ℕ → Type 0} → ReadsBack is_value (MakesNumber pos)
natural_back = record { value = natural_in; is = λ n d h m. ap natural_in m }

abbrev pub integer_back : {is_value : ℤ → Type 0} → ReadsBack is_value (MakesNumber (λ z. z))
integer_back = record { value = number_in; is = λ z d h m. ap number_in m }

pub one_or_zero : (b : Bool) → ((if b then 1 else 0) == 1) ≡ b
one_or_zero true = refl
one_or_zero false = refl

abbrev pub bool_back : {is_value : Bool → Type 0} → ReadsBack is_value (MakesNumber bool_number)
bool_back = record { value = λ d. natural_in d == 1; is = λ b d h m. ap (λ e. natural_in e == 1) m ∙ one_or_zero b }

abbrev pub pair_back : {A B : Type 0} {is_a : A → Type 0} {is_b : B → Type 0} {makes_a : Datum → A → Type 0} {makes_b : Datum → B → Type 0}
    → ReadsBack is_a makes_a → ReadsBack is_b makes_b → ReadsBack (IsPairValue is_a is_b) (MakesPair makes_a makes_b)
pair_back first second = record {
  value = λ d. (first.value (first_in d), second.value (second_in d));
  is = λ p d h m.
      ap₂ (λ a b. (a, b)) (ap (λ e. first.value (first_in e)) m.is ∙ first.is p.0 m.first h.0 m.makes_first)
      (ap (λ e. second.value (second_in e)) m.is ∙ second.is p.1 m.second h.1 m.makes_second);
}

-- for a tuple, by the pairs that it corresponds to
abbrev pub tuple_back : {T P : Type 0} (parts : T → P) (of_parts : (p : P) → (t : T) × (parts t ≡ p)) → ((t : T) → (of_parts (parts t)).0 ≡ t)
    → {is_value : P → Type 0} {makes : Datum → P → Type 0} → ReadsBack is_value makes → ReadsBack (λ t. is_value (parts t)) (λ d t. makes d (parts t))
tuple_back parts of_parts one_to_one back = record {
  value = λ d. (of_parts (back.value d)).0;
  is = λ t d h m. ap (λ p. (of_parts p).0) (back.is (parts t) d h m) ∙ one_to_one t;
}

-- ---- the data of a type with a check

-- what a check of values says of data
abbrev pub admits : {P : Type 0} {is_value : P → Type 0} {makes : Datum → P → Type 0} → ReadsBack is_value makes → (P → Bool) → Datum → Bool
admits back takes d = takes (back.value d)

module _ {T P : Type 0} (fields : T → P) (takes : P → Bool) (of : DataOf P) (determined : IsTrue of.determined) (back : ReadsBack of.is_value of.makes)
    (whole : (t : T) → takes (fields t) ≡ true) where
  pub admitted_listing : (t : T) (d : Datum) → of.is_value (fields t) → of.lists (fields t) d → admits back takes d ≡ true
  admitted_listing t d h l = ap takes (back.is (fields t) d h ((of.same_data.made determined (fields t) d h).0 l)) ∙ whole t

  -- its values are those of the fields that the check takes
  abbrev pub admitted_data : ((p : P) → takes p ≡ true → (t : T) × (fields t ≡ p)) → DataOf T
  admitted_data build =
      data_of {shape = admitted_shape (admits back takes) of.shape}
      (record {
        sound = of.lawful.sound;
        listed = λ t h. of.lawful.listed (fields t) h;
        of_shape = λ t d h l. (of.lawful.of_shape (fields t) d h l, admitted_listing t d h l);
        one_listing = λ o t d e h l m. of.lawful.one_listing o (fields t) d e h l m;
        reflexive = λ t h. of.lawful.reflexive (fields t) h;
        symmetric = λ t u h i s. of.lawful.symmetric (fields t) (fields u) h i s;
        transitive = λ t u v h i j s r. of.lawful.transitive (fields t) (fields u) (fields v) h i j s r;
      })
      (record {
        made = λ g d o s.
            let inner = of.makeable.made g d o.0 s in
            let found = build inner.0 (sym (ap takes (back.is inner.0 d inner.1.0 inner.1.1)) ∙ o.1) in
            (found.0, (subst of.is_value (sym found.1) inner.1.0, subst (of.makes d) (sym found.1) inner.1.1));
        unambiguous = λ d t u h i x y. of.makeable.unambiguous d (fields t) (fields u) h i x y;
        remade = λ t u d h i l x. of.makeable.remade (fields t) (fields u) d h i l x;
      })
      (record { at = λ t d e h l m way. of.same_arrays.at (fields t) d e h l m way }) (images_same_data fields of.same_data) inexact
      (images_alike fields of.alike) (λ t u h i s. of.tells (fields t) (fields u) h i s)

-- the admitted value that a datum makes
pub admits-takes : {P : Type 0} {is_value : P → Type 0} {makes : Datum → P → Type 0} (back : ReadsBack is_value makes) (takes : P → Bool) (p : P) (d : Datum)
    → is_value p → makes d p → admits back takes d ≡ takes p
admits-takes back takes p d h m = ap takes (back.is p d h m)
