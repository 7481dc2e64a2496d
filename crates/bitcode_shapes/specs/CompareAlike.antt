-- `==` and `cmp` of each kind of type agree: `cmp` is a total order, and `==` holds exactly if `cmp` answers `Equal`.
use Rattle.std.proofs.Common.{◌≡◌, ℕ, Bool, true, false, ℤ, Option, Some, None, Ok, Err, List, refl, sym, ◌∙◌, ap, subst, true≢false}
use Rattle.std.specs.Prelude.{◌&&◌, nat_eq}
use Rattle.std.specs.declared.cmp.Ordering.{Ordering}
use Rattle.std.specs.declared.cmp.Ordering.TheVariants.{Less, Equal, Greater}
use Rattle.std.specs.declared.result.Result.{Result}
use Rattle.std.specs.Ordering.{is_eq, is_lt, nat_cmp, int_cmp, int_eq, bool_cmp, ordering_then, ordering_reverse}
use Rattle.std.specs.Option.{option_eq, option_cmp}
use Rattle.std.specs.Result.{result_eq, result_cmp}
use Rattle.std.specs.Cmp.{IsEquivalence, IsTotalOrder, bool_cmp_total, unsigned_ties, both_tied}
use Rattle.std.specs.Cmp.Lexicographic.{pointwise, slice_cmp, lists_ties, texts_ties, options_total}
use Rattle.std.proofs.lemmas.Cmp.{nat_cmp_total, int_cmp_total, nat_list_cmp_total, eq_by_cmp_equiv, on_total, then_total, lists_total}
use mathlib.Core.Bool.{beq}

-- what `==` and `cmp` promise about each other
pub record CompareAlike {T : Type 0} (eq : T → T → Bool) (cmp : T → T → Ordering) : Type 0 where
  pub total : IsTotalOrder cmp
  pub matches_eq : (x y : T) → eq x y ≡ is_eq (cmp x y)

-- then `==` is an equivalence
pub equivalence_of : {T : Type 0} {eq : T → T → Bool} {cmp : T → T → Ordering} → CompareAlike eq cmp → IsEquivalence eq
equivalence_of alike =
    let tied = eq_by_cmp_equiv alike.total in
    record {
      refl = λ x. alike.matches_eq x x ∙ tied.refl x;
      symm = λ x y. alike.matches_eq x y ∙ tied.symm x y ∙ sym (alike.matches_eq y x);
      congr = λ x y z e. alike.matches_eq x z ∙ tied.congr x y z (sym (alike.matches_eq x y) ∙ e) ∙ sym (alike.matches_eq y z);
    }

-- ---- values that correspond to those of another type

pub images_alike : {T U : Type 0} {eq : U → U → Bool} {cmp : U → U → Ordering} (stands_for : T → U) → CompareAlike eq cmp
    → CompareAlike (λ t u. eq (stands_for t) (stands_for u)) (λ t u. cmp (stands_for t) (stands_for u))
images_alike stands_for alike = record {
  total = on_total stands_for alike.total;
  matches_eq = λ t u. alike.matches_eq (stands_for t) (stands_for u);
}

-- ---- types of one value, numbers, and texts

pub ones_alike : {T : Type 0} → CompareAlike (λ (t u : T). true) (λ t u. Equal)
ones_alike = record {
  total = record { antisymm = λ x y. refl; trans = λ x y z p q. p; congr = λ x y z p. refl };
  matches_eq = λ x y. refl;
}

-- `==` holds exactly if the order answers `Equal`
bools_tied : (b c : Bool) → beq b c ≡ is_eq (bool_cmp b c)
bools_tied true true = refl
bools_tied true false = refl
bools_tied false true = refl
bools_tied false false = refl

pub bools_alike : CompareAlike beq bool_cmp
bools_alike = record { total = bool_cmp_total; matches_eq = bools_tied }

pub naturals_alike : {T : Type 0} (value : T → ℕ) → CompareAlike (λ t u. nat_eq (value t) (value u)) (λ t u. nat_cmp (value t) (value u))
naturals_alike value = images_alike value (record { total = nat_cmp_total; matches_eq = unsigned_ties })

pub integers_alike : {T : Type 0} (value : T → ℤ) → CompareAlike (λ t u. int_eq (value t) (value u)) (λ t u. int_cmp (value t) (value u))
integers_alike value = images_alike value (record { total = int_cmp_total; matches_eq = λ x y. refl })

pub texts_alike : {T : Type 0} (bytes : T → List ℕ)
    → CompareAlike (λ t u. pointwise nat_eq (bytes t) (bytes u)) (λ t u. slice_cmp nat_cmp (bytes t) (bytes u))
texts_alike bytes = images_alike bytes (record { total = nat_list_cmp_total; matches_eq = texts_ties })

-- ---- values that hold elements one by one

-- element by element from the first, and a sequence is less than its extensions
pub sequences_alike : {T C : Type 0} {eq : T → T → Bool} {cmp : T → T → Ordering} (items : C → List T) → CompareAlike eq cmp
    → CompareAlike (λ b c. pointwise eq (items b) (items c)) (λ b c. slice_cmp cmp (items b) (items c))
sequences_alike {cmp = cmp} items alike = images_alike items (record { total = lists_total alike.total; matches_eq = lists_ties cmp alike.matches_eq })

-- ---- the fields of tuples and structs, from the first

-- by the first field, and if that is equal, by the next
pub both_alike : {T : Type 0} {eq eq_next : T → T → Bool} {cmp cmp_next : T → T → Ordering} → CompareAlike eq cmp → CompareAlike eq_next cmp_next
    → CompareAlike (λ t u. eq t u && eq_next t u) (λ t u. ordering_then (cmp t u) (cmp_next t u))
both_alike {eq = eq} {eq_next} {cmp} {cmp_next} alike next = record {
  total = then_total alike.total next.total;
  matches_eq = λ t u. both_tied (eq t u) (eq_next t u) (cmp t u) (cmp_next t u) (alike.matches_eq t u) (next.matches_eq t u);
}

-- ---- options and results

module _ {T : Type 0} {eq : T → T → Bool} {cmp : T → T → Ordering} (alike : CompareAlike eq cmp) where
  options_tied : (o p : Option T) → option_eq eq o p ≡ is_eq (option_cmp cmp o p)
  options_tied None None = refl
  options_tied None (Some u) = refl
  options_tied (Some t) None = refl
  options_tied (Some t) (Some u) = alike.matches_eq t u

  pub options_alike : CompareAlike (option_eq eq) (option_cmp cmp)
  options_alike = record { total = options_total alike.total; matches_eq = options_tied }

-- if one is greater, it is not less
not_less : {A : Type 0} → Greater ≡ Less → A
not_less e = absurd (true≢false (sym (ap is_lt e)))

module _ {A B : Type 0} {eq_a : A → A → Bool} {eq_b : B → B → Bool} {cmp_a : A → A → Ordering} {cmp_b : B → B → Ordering}
    (ok : CompareAlike eq_a cmp_a) (err : CompareAlike eq_b cmp_b) where
  -- each `Ok` is less than each `Err`
  abbrev Compared : Result A B → Result A B → Ordering
  Compared = result_cmp cmp_a cmp_b

  results_tied : (q r : Result A B) → result_eq eq_a eq_b q r ≡ is_eq (Compared q r)
  results_tied (Ok a) (Ok b) = ok.matches_eq a b
  results_tied (Ok a) (Err b) = refl
  results_tied (Err a) (Ok b) = refl
  results_tied (Err a) (Err b) = err.matches_eq a b

  results_turned : (q r : Result A B) → Compared q r ≡ ordering_reverse (Compared r q)
  results_turned (Ok a) (Ok b) = ok.total.antisymm a b
  results_turned (Ok a) (Err b) = refl
  results_turned (Err a) (Ok b) = refl
  results_turned (Err a) (Err b) = err.total.antisymm a b

  results_chain : (q r s : Result A B) → Compared q r ≡ Less → Compared r s ≡ Less → Compared q s ≡ Less
  results_chain (Ok a) (Ok b) (Ok c) e f = ok.total.trans a b c e f
  results_chain (Ok a) (Err b) (Ok c) e f = not_less f
  results_chain (Ok a) r (Err c) e f = refl
  results_chain (Err a) (Ok b) s e f = not_less e
  results_chain (Err a) (Err b) (Ok c) e f = not_less f
  results_chain (Err a) (Err b) (Err c) e f = err.total.trans a b c e f

  results_congr : (q r s : Result A B) → Compared q r ≡ Equal → Compared q s ≡ Compared r s
  results_congr (Ok a) (Ok b) (Ok c) e = ok.total.congr a b c e
  results_congr (Ok a) (Ok b) (Err c) e = refl
  results_congr (Ok a) (Err b) s e = absurd (true≢false (sym (ap is_eq e)))
  results_congr (Err a) (Ok b) s e = absurd (true≢false (sym (ap is_eq e)))
  results_congr (Err a) (Err b) (Ok c) e = refl
  results_congr (Err a) (Err b) (Err c) e = err.total.congr a b c e

  pub results_alike : CompareAlike (result_eq eq_a eq_b) Compared
  results_alike = record { total = record { antisymm = results_turned; trans = results_chain; congr = results_congr }; matches_eq = results_tied }

-- ---- types whose `==` and `cmp` give the answers of another `==` and `cmp`

-- two that are written differently promise the same
pub alike_as : {T : Type 0} {eq eq_of : T → T → Bool} {cmp cmp_of : T → T → Ordering} → CompareAlike eq_of cmp_of
    → ((t u : T) → eq t u ≡ eq_of t u) → ((t u : T) → cmp t u ≡ cmp_of t u) → CompareAlike eq cmp
alike_as alike same_eq same_cmp = record {
  total = subst IsTotalOrder (λ i t u. sym (same_cmp t u) i) alike.total;
  matches_eq = λ t u. same_eq t u ∙ alike.matches_eq t u ∙ ap is_eq (sym (same_cmp t u));
}

-- ---- three answers, the last two or the first two together first

pub and_nested : (a b c : Bool) → (a && (b && c)) ≡ ((a && b) && c)
and_nested true b c = refl
and_nested false b c = refl

pub then_nested : (p q r : Ordering) → ordering_then p (ordering_then q r) ≡ ordering_then (ordering_then p q) r
then_nested Less q r = refl
then_nested Equal q r = refl
then_nested Greater q r = refl
