-- Asking a constructor about data, one after another.
use Rattle.std.proofs.Common.{◌≡◌, Bool, true, false, ℕ, ◌+◌, ◌-◌, ◌<◌, ◌≤◌, Option, Some, None, List, [], ◌∷◌, ◌++◌, length, All, refl, sym, ◌∙◌, ap, subst, arith, length-append, append-nil, append_assoc}
use Rattle.std.specs.Prelude.{MatchOption}
use Rattle.std.specs.Option.{is_some}
use Rattle.std.proofs.lemmas.List.{nil_from_length}
use Rattle.std.proofs.lemmas.List.Elements.{All-nil, All-push, All-head, All-tail}
use Rattle.std.proofs.lemmas.Bool.{false≢true}
use Rattle.bitcode_shapes.specs.Datum.{Datum}
use Rattle.bitcode_structs.specs.CheckedFields.{admitted_front, TakesAdmitted}

-- what an answer of the constructor says
pub taken : {T A : Type 0} (N : Type 0) (M : T → Type 0) (result : Option T) → is_some result ≡ true → MatchOption result N (λ t. A × M t) → A
taken N M None is made = absurd cc
taken N M (Some t) is made = made.0

pub not_taken : {T N : Type 0} (M : T → Type 0) (result : Option T) → is_some result ≡ false → MatchOption result N M → N
not_taken M None is made = made
not_taken M (Some t) is made = absurd cc

module _ (admits : Datum → Bool) where
  pub takes_none : (ds : List Datum) → TakesAdmitted admits 0 ds ds
  takes_none ds = record { taken = []; whole = refl; size = refl; each = All-nil (λ d. admits d ≡ true) }

  -- some datum is left
  pub one_left : (i n : ℕ) (old new : List Datum) → TakesAdmitted admits i old new → length old ≡ n → i < n → 0 < length new
  one_left i n old new t size more = omega (arith, ap (λ l. length l) t.whole, length-append t.taken new, t.size, size, more)

  pub takes_more : (i : ℕ) (old mid new : List Datum) (d : Datum) → TakesAdmitted admits i old mid → mid ≡ d ∷ new → admits d ≡ true → TakesAdmitted admits (i + 1) old new
  takes_more i old mid new d t is admitted = record {
    taken = t.taken ++ d ∷ [];
    whole = t.whole ∙ ap (λ l. t.taken ++ l) is ∙ sym (append_assoc t.taken (d ∷ []) new);
    size = omega (arith, length-append t.taken (d ∷ []), t.size);
    each = All-push (λ e. admits e ≡ true) t.taken d t.each admitted;
  }

  pub takes_all : (i n : ℕ) (old new : List Datum) → TakesAdmitted admits i old new → length old ≡ n → n ≤ i → All (λ d. admits d ≡ true) old
  takes_all i n old new t size all =
      let none : new ≡ [] = nil_from_length new (omega (arith, ap (λ l. length l) t.whole, length-append t.taken new, t.size, size, all)) in
      subst (All (λ d. admits d ≡ true)) (sym (t.whole ∙ ap (λ l. t.taken ++ l) none ∙ append-nil t.taken)) t.each

  last_of : (xs ys : List Datum) (d : Datum) → All (λ e. admits e ≡ true) (xs ++ d ∷ ys) → admits d ≡ true
  last_of [] ys d h = All-head (λ e. admits e ≡ true) d ys h
  last_of (x ∷ xs) ys d h = last_of xs ys d (All-tail (λ e. admits e ≡ true) x (xs ++ d ∷ ys) h)

  pub takes_broken : (i : ℕ) (old mid new : List Datum) (d : Datum) → TakesAdmitted admits i old mid → mid ≡ d ∷ new → admits d ≡ false
      → All (λ e. admits e ≡ true) old → ⊥
  takes_broken i old mid new d t is refused each =
      false≢true (sym refused ∙ last_of t.taken new d (subst (All (λ e. admits e ≡ true)) (t.whole ∙ ap (λ l. t.taken ++ l) is) each))

  -- data that are all admitted are all held
  pub whole_front : (ds : List Datum) → All (λ d. admits d ≡ true) ds → admitted_front admits ds ≡ ds
  whole_front [] h = refl
  whole_front (d ∷ ds) h =
      rw (All-head (λ e. admits e ≡ true) d ds h) (ap (λ l. d ∷ l) (whole_front ds (All-tail (λ e. admits e ≡ true) d ds h)))
