-- Types for which `same` implies equality in every respect: numbers, tuples, arrays, options, results and enums of such
-- types, and types that correspond to one of these. Texts are not among them: two equal texts can have different
-- capacities.
use Rattle.std.proofs.Common.{◌≡◌, ℕ, Bool, true, false, ℤ, pos, Some, List, [], ◌∷◌, inl, inr, refl, sym, ◌∙◌, ap, ap₂}
use Rattle.std.specs.Prelude.{All, IsTrue, ◌&&◌, ◌⊎◌, slice_get}
use Rattle.std.proofs.lemmas.List.Elements.{All-head, All-tail}
use Rattle.bitcode_shapes.specs.BareVariants.{SameBare}
use Rattle.bitcode_shapes.specs.Choices.{IsVariantValue, SameVariant}
use Rattle.bitcode_shapes.specs.Ints.{bool_number, SameNumber}
use Rattle.bitcode_shapes.specs.LawfulPairs.{both}
use Rattle.bitcode_shapes.specs.Lists.{SameSequence}
use Rattle.bitcode_shapes.specs.Pairs.{IsPairValue, SamePair}

-- values that are the same are equal in every respect
abbrev pub SameIsOne : {T : Type 0} → (T → Type 0) → (T → T → Type 0) → Type 0
SameIsOne {T} is_value same = (t u : T) → is_value t → is_value u → same t u → t ≡ u

pub naturals_are_one : (is_value : ℕ → Type 0) → SameIsOne is_value (SameNumber pos)
naturals_are_one is_value m n h i same = cc

pub integers_are_one : (is_value : ℤ → Type 0) → SameIsOne is_value (SameNumber (λ (z : ℤ). z))
integers_are_one is_value y z h i same = same

bool_is_one : (b c : Bool) → bool_number b ≡ bool_number c → b ≡ c
bool_is_one true true same = refl
bool_is_one true false same = cc
bool_is_one false true same = cc
bool_is_one false false same = refl

pub bools_are_one : (is_value : Bool → Type 0) → SameIsOne is_value (SameNumber bool_number)
bools_are_one is_value b c h i same = bool_is_one b c same

pub pairs_are_one : {A B : Type 0} {is_a : A → Type 0} {is_b : B → Type 0} {same_a : A → A → Type 0} {same_b : B → B → Type 0}
    → SameIsOne is_a same_a → SameIsOne is_b same_b → SameIsOne (IsPairValue is_a is_b) (SamePair same_a same_b)
pairs_are_one first second t u h i same =
    let a : t.0 ≡ u.0 = first t.0 u.0 h.0 i.0 same.0 in
    let b : t.1 ≡ u.1 = second t.1 u.1 h.1 i.1 same.1 in
    ap (λ x. (x, t.1)) a ∙ ap (λ y. (u.0, y)) b

some_once : {T : Type 0} {t u : T} → Some t ≡ Some u → t ≡ u
some_once e = cc

-- for an enum without payloads: a value is the one at the index of its variant
pub bares_are_one : {T : Type 0} (is_value : T → Type 0) (variant : T → ℕ) (values : List T) → ((t : T) → slice_get values (variant t) ≡ Some t)
    → SameIsOne is_value (SameBare variant)
bares_are_one is_value variant values one_to_one t u h i same =
    some_once (sym (one_to_one t) ∙ ap (slice_get values) same ∙ one_to_one u)

-- for a type whose values correspond one to one to those of another: `value_of` gives the value for given parts
pub images_are_one : {T P : Type 0} (parts : T → P) (value_of : P → T) → ((t : T) → value_of (parts t) ≡ t)
    → {is_value : P → Type 0} {same : P → P → Type 0} → SameIsOne is_value same
    → SameIsOne (λ t. is_value (parts t)) (λ t u. same (parts t) (parts u))
images_are_one parts value_of one_to_one are_one t u h i same =
    sym (one_to_one t) ∙ ap value_of (are_one (parts t) (parts u) h i same) ∙ one_to_one u

-- ---- by a mark that combinators pass on

-- if the mark is true, values that are the same are equal in every respect
pub record AreExact {T : Type 0} (exact : Bool) (is_value : T → Type 0) (same : T → T → Type 0) : Type 0 where
  pub at : IsTrue exact → SameIsOne is_value same

pub inexact : {T : Type 0} {is_value : T → Type 0} {same : T → T → Type 0} → AreExact false is_value same
inexact = record { at = λ o t u h i s. absurd cc }

pub exactly : {T : Type 0} {is_value : T → Type 0} {same : T → T → Type 0} → ((t u : T) → is_value t → is_value u → same t u → t ≡ u) → AreExact true is_value same
exactly are_one = record { at = λ o. are_one }

-- for the unit
pub ones_exact : AreExact true (λ (t : Unit {0}). Unit {0}) (λ t u. Unit {0})
ones_exact = record { at = λ o t u h i s. refl }

pub pairs_exact : {A B : Type 0} {a b : Bool} {is_a : A → Type 0} {is_b : B → Type 0} {same_a : A → A → Type 0} {same_b : B → B → Type 0}
    → AreExact a is_a same_a → AreExact b is_b same_b → AreExact (a && b) (IsPairValue is_a is_b) (SamePair same_a same_b)
pairs_exact {a = a} {b = b} first second = record { at = λ o. pairs_are_one (first.at (both a b o).0) (second.at (both a b o).1) }

pub images_exact : {T P : Type 0} {exact : Bool} (parts : T → P) (value_of : P → T) → ((t : T) → value_of (parts t) ≡ t)
    → {is_value : P → Type 0} {same : P → P → Type 0} → AreExact exact is_value same
    → AreExact exact (λ t. is_value (parts t)) (λ t u. same (parts t) (parts u))
images_exact parts value_of one_to_one of = record { at = λ o. images_are_one parts value_of one_to_one (of.at o) }

-- of lists themselves: those of arrays
module _ {T : Type 0} {exact : Bool} {is_value : T → Type 0} {same : T → T → Type 0} (element : AreExact exact is_value same) where
  each_exact : IsTrue exact → (ts us : List T) → All is_value ts → All is_value us → SameSequence same ts us → ts ≡ us
  each_exact o [] [] h i s = refl
  each_exact o [] (u ∷ us) h i s = absurd s
  each_exact o (t ∷ ts) [] h i s = absurd s
  each_exact o (t ∷ ts) (u ∷ us) h i s =
      ap₂ (λ first rest. first ∷ rest) (element.at o t u (All-head is_value t ts h) (All-head is_value u us i) s.0)
      (each_exact o ts us (All-tail is_value t ts h) (All-tail is_value u us i) s.1)

  pub lists_exact : (is_whole : List T → Type 0) → ((ts : List T) → is_whole ts → All is_value ts) → AreExact exact is_whole (SameSequence same)
  lists_exact is_whole each = record { at = λ o ts us h i s. each_exact o ts us (each ts h) (each us i) s }

-- a payload of the first variant, or of one of the rest
module _ {A B : Type 0} {a b : Bool} {is_a : A → Type 0} {is_b : B → Type 0} {same_a : A → A → Type 0} {same_b : B → B → Type 0}
    (first : AreExact a is_a same_a) (rest : AreExact b is_b same_b) where
  in_variant : IsTrue (a && b) → (t u : A ⊎ B) → IsVariantValue is_a is_b t → IsVariantValue is_a is_b u → SameVariant same_a same_b t u → t ≡ u
  in_variant o (inl x) (inl y) h i s = ap inl (first.at (both a b o).0 x y h i s)
  in_variant o (inl x) (inr y) h i s = absurd s
  in_variant o (inr x) (inl y) h i s = absurd s
  in_variant o (inr x) (inr y) h i s = ap inr (rest.at (both a b o).1 x y h i s)

  pub variants_exact : AreExact (a && b) (IsVariantValue is_a is_b) (SameVariant same_a same_b)
  variants_exact = record { at = in_variant }
