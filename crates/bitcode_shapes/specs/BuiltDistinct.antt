-- Entries with distinct keys, built one by one: a pair replaces the entry with an equal key.
use Rattle.std.proofs.Common.{◌≡◌, Bool, true, false, cond, Option, Some, List, [], ◌∷◌, refl, ◌∙◌, ap}
use Rattle.std.specs.Prelude.{All}
use Rattle.std.specs.Cmp.{IsEquivalence}
use Rattle.std.specs.List.{AllByRecursion, IsDistinct}
use Rattle.std.specs.Map.{lookup, keys_of, update, update_all}
use Rattle.std.proofs.lemmas.Bool.{cond_both}
use Rattle.std.proofs.lemmas.List.Elements.{All-cons, All-head, All-tail}

module _ {K X : Type 0} (eq : K → K → Bool) where
  -- the entries whose keys are not equal to k
  abbrev without : K → List (K × X) → List (K × X)
  without k [] = []
  without k (e ∷ es) = cond (eq k e.0) (without k es) (e ∷ without k es)

  all_without : (P : K → Type 0) (k : K) (es : List (K × X)) → AllByRecursion P (keys_of es) → AllByRecursion P (keys_of (without k es))
  all_without P k [] h = tt
  all_without P k (e ∷ es) h =
      cond_both (eq k e.0) (without k es) (e ∷ without k es) (λ l. AllByRecursion P (keys_of l))
      (λ same. all_without P k es h.1) (λ other. (h.0, all_without P k es h.1))

  apart_without : (k : K) (es : List (K × X)) → AllByRecursion (λ y. eq k y ≡ false) (keys_of (without k es))
  apart_without k [] = tt
  apart_without k (e ∷ es) =
      cond_both (eq k e.0) (without k es) (e ∷ without k es) (λ l. AllByRecursion (λ y. eq k y ≡ false) (keys_of l))
      (λ same. apart_without k es) (λ other. (other, apart_without k es))

  distinct_without : (k : K) (es : List (K × X)) → IsDistinct eq (keys_of es) → IsDistinct eq (keys_of (without k es))
  unfolding IsDistinct
  distinct_without k [] h = tt
  distinct_without k (e ∷ es) h =
      cond_both (eq k e.0) (without k es) (e ∷ without k es) (λ l. IsDistinct eq (keys_of l))
      (λ same. distinct_without k es h.1) (λ other. (all_without (λ y. eq e.0 y ≡ false) k es h.0, distinct_without k es h.1))

  module _ (P : K × X → Type 0) where
    kept_without : (k : K) (es : List (K × X)) → All P es → All P (without k es)
    kept_without k [] h = h
    kept_without k (e ∷ es) h =
        cond_both (eq k e.0) (without k es) (e ∷ without k es) (All P)
        (λ same. kept_without k es (All-tail P e es h)) (λ other. All-cons P e (without k es) (All-head P e es h) (kept_without k es (All-tail P e es h)))

  -- the pairs, put one after another
  abbrev pub all_put : List (K × X) → List (K × X) → List (K × X)
  all_put es [] = es
  all_put es (p ∷ ps) = all_put (p ∷ without p.0 es) ps

  pub all_distinct : (es ps : List (K × X)) → IsDistinct eq (keys_of es) → IsDistinct eq (keys_of (all_put es ps))
  unfolding IsDistinct
  all_distinct es [] h = h
  all_distinct es (p ∷ ps) h = all_distinct (p ∷ without p.0 es) ps (apart_without p.0 es, distinct_without p.0 es h)

  pub all_kept : (P : K × X → Type 0) (es ps : List (K × X)) → All P es → All P ps → All P (all_put es ps)
  all_kept P es [] h i = h
  all_kept P es (p ∷ ps) h i =
      all_kept P (p ∷ without p.0 es) ps (All-cons P p (without p.0 es) (All-head P p ps i) (kept_without P p.0 es h)) (All-tail P p ps i)

pub none_distinct : {K : Type 0} (eq : K → K → Bool) → IsDistinct eq []
unfolding IsDistinct
none_distinct eq = tt

module _ {K X : Type 0} {eq : K → K → Bool} (laws : IsEquivalence eq) where
  -- a lookup of another key finds what it found before
  found_without : (k q : K) (es : List (K × X)) → eq k q ≡ false → lookup (eq q) (without eq k es) ≡ lookup (eq q) es
  found_without k q [] other = refl
  found_without k q (e ∷ es) other = by (eq k e.0) (eq q e.0) refl refl (found_without k q es other)
    where
      by : (a b : Bool) → eq k e.0 ≡ a → eq q e.0 ≡ b → lookup (eq q) (without eq k es) ≡ lookup (eq q) es
          → lookup (eq q) (cond a (without eq k es) (e ∷ without eq k es)) ≡ cond b (Some e.1) (lookup (eq q) es)
      by true true p r h = absurd (apart (laws.congr k e.0 q p ∙ laws.symm e.0 q ∙ r))
        where
          apart : eq k q ≡ true → ⊥
          apart same = absurd cc
      by true false p r h = h
      by false true p r h = ap (λ b. cond b (Some e.1) (lookup (eq q) (without eq k es))) r
      by false false p r h = ap (λ b. cond b (Some e.1) (lookup (eq q) (without eq k es))) r ∙ h

  found_put : (p : K × X) (q : K) (es : List (K × X)) → lookup (eq q) (p ∷ without eq p.0 es) ≡ cond (eq p.0 q) (Some p.1) (lookup (eq q) es)
  found_put p q es = ap (λ b. cond b (Some p.1) (lookup (eq q) (without eq p.0 es))) (laws.symm q p.0) ∙ by (eq p.0 q) refl
    where
      by : (b : Bool) → eq p.0 q ≡ b → cond b (Some p.1) (lookup (eq q) (without eq p.0 es)) ≡ cond b (Some p.1) (lookup (eq q) es)
      by true e = refl
      by false e = found_without p.0 q es e

  pub all_found : (f : K → Option X) (q : K) (es ps : List (K × X)) → lookup (eq q) es ≡ f q → lookup (eq q) (all_put eq es ps) ≡ update_all eq f ps q
  all_found f q es [] e = e
  all_found f q es (p ∷ ps) e =
      all_found (update eq f p.0 (Some p.1)) q (p ∷ without eq p.0 es) ps (found_put p q es ∙ ap (λ rest. cond (eq p.0 q) (Some p.1) rest) e)
