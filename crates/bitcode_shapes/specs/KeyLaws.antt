-- `==` calls values equal that are the same, for each kind of type.
use Rattle.std.proofs.Common.{◌≡◌, ℕ, Bool, true, false, ℤ, pos, Some, None, Ok, Err, List, [], ◌∷◌, refl}
use Rattle.std.specs.Prelude.{All, nat_eq}
use Rattle.std.specs.Cmp.{unsigned_Decides, signed_Decides}
use Rattle.std.specs.Cmp.Lexicographic.{pointwise, bytes_decides}
use Rattle.std.specs.Option.{option_eq}
use Rattle.std.specs.Ordering.{int_eq}
use Rattle.std.specs.Result.{result_eq}
use Rattle.std.proofs.lemmas.Bool.{and_from}
use Rattle.std.proofs.lemmas.List.Elements.{All-head, All-tail}
use mathlib.Core.Bool.{beq}
use Rattle.bitcode_shapes.specs.BareVariants.{SameBare}
use Rattle.bitcode_shapes.specs.Choices.{IsVariantValue, SameVariant, option_variant, result_variant}
use Rattle.bitcode_shapes.specs.DataOf.{TellsEqual}
use Rattle.bitcode_shapes.specs.Ints.{bool_number, SameNumber}
use Rattle.bitcode_shapes.specs.Lists.{SameSequence}
use Rattle.bitcode_shapes.specs.Texts.{SameText}

-- ---- numbers and texts

pub bools_equal : (is_value : Bool → Type 0) → TellsEqual is_value (SameNumber bool_number) beq
bools_equal is_value true true h i s = refl
bools_equal is_value true false h i s = cc
bools_equal is_value false true h i s = cc
bools_equal is_value false false h i s = refl

pub natural_once : {m n : ℕ} → pos m ≡ pos n → m ≡ n
natural_once e = cc

module _ {T : Type 0} (is_value : T → Type 0) where
  pub naturals_equal : (value : T → ℕ) → TellsEqual is_value (SameNumber (λ t. pos (value t))) (λ t u. nat_eq (value t) (value u))
  naturals_equal value t u h i s = (unsigned_Decides (value t) (value u)).1 (natural_once s)

  pub integers_equal : (value : T → ℤ) → TellsEqual is_value (SameNumber value) (λ t u. int_eq (value t) (value u))
  integers_equal value t u h i s = (signed_Decides (value t) (value u)).1 s

  pub texts_equal : (bytes : T → List ℕ) → TellsEqual is_value (SameText bytes) (λ t u. pointwise nat_eq (bytes t) (bytes u))
  texts_equal bytes t u h i s = (bytes_decides (bytes t) (bytes u)).1 s

  -- for an enum without payloads
  pub bares_equal : (variant : T → ℕ) → TellsEqual is_value (SameBare variant) (λ t u. nat_eq (variant t) (variant u))
  bares_equal variant t u h i s = (unsigned_Decides (variant t) (variant u)).1 s

-- ---- values that hold elements one by one

module _ {T : Type 0} {is_value : T → Type 0} {same : T → T → Type 0} {eq : T → T → Bool} (tells : TellsEqual is_value same eq) where
  elements_equal : TellsEqual (All is_value) (SameSequence same) (pointwise eq)
  elements_equal [] [] h i s = refl
  elements_equal [] (u ∷ us) h i s = absurd s
  elements_equal (t ∷ ts) [] h i s = absurd s
  elements_equal (t ∷ ts) (u ∷ us) h i s =
      and_from (eq t u) (pointwise eq ts us) (tells t u (All-head is_value t ts h) (All-head is_value u us i) s.0)
      (elements_equal ts us (All-tail is_value t ts h) (All-tail is_value u us i) s.1)

  pub sequences_equal : {C : Type 0} (items : C → List T) (is_whole : C → Type 0) → ((c : C) → is_whole c → All is_value (items c))
      → TellsEqual is_whole (λ b c. SameSequence same (items b) (items c)) (λ b c. pointwise eq (items b) (items c))
  sequences_equal items is_whole each b c h i s = elements_equal (items b) (items c) (each b h) (each c i) s

-- ---- options and results

pub options_equal : {T : Type 0} {is_value : T → Type 0} {same : T → T → Type 0} {eq : T → T → Bool} → TellsEqual is_value same eq
    → TellsEqual (λ o. IsVariantValue (λ (t : Unit {0}). Unit {0}) is_value (option_variant o))
    (λ o p. SameVariant (λ (t u : Unit {0}). Unit {0}) same (option_variant o) (option_variant p)) (option_eq eq)
options_equal tells None None h i s = refl
options_equal tells None (Some u) h i s = absurd s
options_equal tells (Some t) None h i s = absurd s
options_equal tells (Some t) (Some u) h i s = tells t u h i s

pub results_equal : {A B : Type 0} {is_a : A → Type 0} {is_b : B → Type 0} {same_a : A → A → Type 0} {same_b : B → B → Type 0} {eq_a : A → A → Bool} {eq_b : B → B → Bool}
    → TellsEqual is_a same_a eq_a → TellsEqual is_b same_b eq_b
    → TellsEqual (λ r. IsVariantValue is_a is_b (result_variant r)) (λ q r. SameVariant same_a same_b (result_variant q) (result_variant r)) (result_eq eq_a eq_b)
results_equal tells_a tells_b (Ok a) (Ok b) h i s = tells_a a b h i s
results_equal tells_a tells_b (Ok a) (Err b) h i s = absurd s
results_equal tells_a tells_b (Err a) (Ok b) h i s = absurd s
results_equal tells_a tells_b (Err a) (Err b) h i s = tells_b a b h i s
