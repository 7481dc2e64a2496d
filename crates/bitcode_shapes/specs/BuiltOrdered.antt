-- Ordered keys and entries, built one by one as an ordered set or map inserts them.
use Rattle.std.proofs.Common.{◌≡◌, Bool, true, false, cond, Option, Some, None, List, [], ◌∷◌, refl, sym, ◌∙◌, ap, subst}
use Rattle.std.specs.Prelude.{All}
use Rattle.std.specs.declared.cmp.Ordering.{Ordering}
use Rattle.std.specs.declared.cmp.Ordering.TheVariants.{Less, Equal, Greater}
use Rattle.std.specs.Ordering.{match_ordering, is_eq, eq_by_cmp, ordering_reverse}
use Rattle.std.specs.Cmp.{IsTotalOrder}
use Rattle.std.specs.List.{AllByRecursion}
use Rattle.std.specs.List.Sorted.{IsStrictlySortedBy}
use Rattle.std.specs.Map.{lookup, keys_of, values_of, update, update_all}
use Rattle.std.specs.BTreeSet.{insert_key}
use Rattle.std.specs.BTreeMap.{insert_entry}
use Rattle.std.proofs.lemmas.List.Elements.{All-head, All-tail}
use Rattle.std.proofs.lemmas.Cmp.{eq_by_cmp_equiv}
use Rattle.std.proofs.lemmas.Map.Views.{All-keys-insert_entry, All-values-insert_entry}

-- ---- keys

module _ {K : Type 0} {R : K → K → Ordering} (o : IsTotalOrder R) where
  pub below_more : (k x : K) (xs : List K) → R k x ≡ Less → AllByRecursion (λ y. R x y ≡ Less) xs → AllByRecursion (λ y. R k y ≡ Less) xs
  below_more k x [] less a = tt
  below_more k x (y ∷ ys) less a = (o.trans k x y less a.0, below_more k x ys less a.1)

  below_inserted : (z k : K) (xs : List K) → R z k ≡ Less → AllByRecursion (λ y. R z y ≡ Less) xs → AllByRecursion (λ y. R z y ≡ Less) (insert_key R xs k)
  below_inserted z k [] less a = (less, tt)
  below_inserted z k (x ∷ xs) less a = by (R k x) (below_inserted z k xs less a.1)
    where
      by : (r : Ordering) → AllByRecursion (λ y. R z y ≡ Less) (insert_key R xs k)
          → AllByRecursion (λ y. R z y ≡ Less) (match_ordering r (k ∷ x ∷ xs) (x ∷ xs) (x ∷ insert_key R xs k))
      by Less h = (less, a)
      by Equal h = a
      by Greater h = (a.0, h)

  pub sorted_inserted : (k : K) (xs : List K) → IsStrictlySortedBy R xs → IsStrictlySortedBy R (insert_key R xs k)
  unfolding IsStrictlySortedBy
  sorted_inserted k [] s = (tt, tt)
  sorted_inserted k (x ∷ xs) s = by (R k x) refl (sorted_inserted k xs s.1)
    where
      by : (r : Ordering) → R k x ≡ r → IsStrictlySortedBy R (insert_key R xs k)
          → IsStrictlySortedBy R (match_ordering r (k ∷ x ∷ xs) (x ∷ xs) (x ∷ insert_key R xs k))
      by Less p h = ((p, below_more k x xs p s.0), s)
      by Equal p h = s
      by Greater p h = (below_inserted x k xs (o.antisymm x k ∙ ap ordering_reverse p) s.0, h)

-- ---- entries

-- the two comparisons of one lookup, with the other key first
one_of_two : {X : Type 0} (a b : Bool) (v w : X) (rest : Option X) → (a ≡ true → b ≡ true → ⊥) → cond b (Some w) (cond a (Some v) rest) ≡ cond a (Some v) (cond b (Some w) rest)
one_of_two true true v w rest apart = absurd (apart refl refl)
one_of_two true false v w rest apart = refl
one_of_two false true v w rest apart = refl
one_of_two false false v w rest apart = refl

replaced : {X : Type 0} (a b : Bool) (v w : X) (rest : Option X) → a ≡ b → cond b (Some v) rest ≡ cond a (Some v) (cond b (Some w) rest)
replaced true true v w rest e = refl
replaced true false v w rest e = absurd cc
replaced false true v w rest e = absurd cc
replaced false false v w rest e = refl

module _ {K X : Type 0} {R : K → K → Ordering} (o : IsTotalOrder R) where
  keys_inserted : (k : K) (v : X) (es : List (K × X)) → keys_of (insert_entry R es k v) ≡ insert_key R (keys_of es) k
  keys_inserted k v [] = refl
  keys_inserted k v (e ∷ es) = by (R k e.0) (keys_inserted k v es)
    where
      by : (r : Ordering) → keys_of (insert_entry R es k v) ≡ insert_key R (keys_of es) k
          → keys_of (match_ordering r ((k, v) ∷ e ∷ es) ((e.0, v) ∷ es) (e ∷ insert_entry R es k v))
          ≡ match_ordering r (k ∷ e.0 ∷ keys_of es) (e.0 ∷ keys_of es) (e.0 ∷ insert_key R (keys_of es) k)
      by Less h = refl
      by Equal h = refl
      by Greater h = ap (λ ks. e.0 ∷ ks) h

  found_inserted : (k : K) (v : X) (es : List (K × X)) (q : K)
      → lookup (eq_by_cmp R q) (insert_entry R es k v) ≡ cond (eq_by_cmp R k q) (Some v) (lookup (eq_by_cmp R q) es)
  found_inserted k v [] q = ap (λ b. cond b (Some v) None) ((eq_by_cmp_equiv o).symm q k)
  found_inserted k v (e ∷ es) q = by (R k e.0) refl (found_inserted k v es q)
    where
      by : (r : Ordering) → R k e.0 ≡ r → lookup (eq_by_cmp R q) (insert_entry R es k v) ≡ cond (eq_by_cmp R k q) (Some v) (lookup (eq_by_cmp R q) es)
          → lookup (eq_by_cmp R q) (match_ordering r ((k, v) ∷ e ∷ es) ((e.0, v) ∷ es) (e ∷ insert_entry R es k v))
          ≡ cond (eq_by_cmp R k q) (Some v) (cond (eq_by_cmp R q e.0) (Some e.1) (lookup (eq_by_cmp R q) es))
      by Less p h = ap (λ b. cond b (Some v) (cond (eq_by_cmp R q e.0) (Some e.1) (lookup (eq_by_cmp R q) es))) ((eq_by_cmp_equiv o).symm q k)
      by Equal p h = replaced (eq_by_cmp R k q) (eq_by_cmp R q e.0) v e.1 (lookup (eq_by_cmp R q) es) ((eq_by_cmp_equiv o).congr k e.0 q (ap is_eq p) ∙ (eq_by_cmp_equiv o).symm e.0 q)
      by Greater p h =
          ap (λ rest. cond (eq_by_cmp R q e.0) (Some e.1) rest) h
          ∙ one_of_two (eq_by_cmp R k q) (eq_by_cmp R q e.0) v e.1 (lookup (eq_by_cmp R q) es) (λ here there. apart (sym ((eq_by_cmp_equiv o).congr q e.0 k there) ∙ (eq_by_cmp_equiv o).symm q k ∙ here) p)
        where
          apart : eq_by_cmp R e.0 k ≡ true → R k e.0 ≡ Greater → ⊥
          apart one more = let other : eq_by_cmp R k e.0 ≡ true = (eq_by_cmp_equiv o).symm k e.0 ∙ one in absurd cc

pub none_sorted : {K : Type 0} (R : K → K → Ordering) → IsStrictlySortedBy R []
unfolding IsStrictlySortedBy
none_sorted R = tt

-- ---- entries of many pairs

module _ {K X : Type 0} {R : K → K → Ordering} (o : IsTotalOrder R) where
  abbrev pub all_inserted : List (K × X) → List (K × X) → List (K × X)
  all_inserted es [] = es
  all_inserted es (p ∷ ps) = all_inserted (insert_entry R es p.0 p.1) ps

  pub all_sorted : (es ps : List (K × X)) → IsStrictlySortedBy R (keys_of es) → IsStrictlySortedBy R (keys_of (all_inserted es ps))
  all_sorted es [] s = s
  all_sorted es (p ∷ ps) s =
      all_sorted (insert_entry R es p.0 p.1) ps
      (subst (IsStrictlySortedBy R) (sym (keys_inserted o p.0 p.1 es)) (sorted_inserted o p.0 (keys_of es) s))

  pub all_found : (f : K → Option X) (q : K) (es ps : List (K × X)) → lookup (eq_by_cmp R q) es ≡ f q
      → lookup (eq_by_cmp R q) (all_inserted es ps) ≡ update_all (eq_by_cmp R) f ps q
  all_found f q es [] e = e
  all_found f q es (p ∷ ps) e =
      all_found (update (eq_by_cmp R) f p.0 (Some p.1)) q (insert_entry R es p.0 p.1) ps
      (found_inserted o p.0 p.1 es q ∙ ap (λ rest. cond (eq_by_cmp R p.0 q) (Some p.1) rest) e)

  module _ (is_key : K → Type 0) (is_value : X → Type 0) where
    pub all_keys : (es ps : List (K × X)) → All is_key (keys_of es) → All is_key (keys_of ps) → All is_key (keys_of (all_inserted es ps))
    all_keys es [] h i = h
    all_keys es (p ∷ ps) h i =
        all_keys (insert_entry R es p.0 p.1) ps (All-keys-insert_entry R p.0 p.1 is_key es h (All-head is_key p.0 (keys_of ps) i)) (All-tail is_key p.0 (keys_of ps) i)

    pub all_values : (es ps : List (K × X)) → All is_value (values_of es) → All is_value (values_of ps) → All is_value (values_of (all_inserted es ps))
    all_values es [] h i = h
    all_values es (p ∷ ps) h i =
        all_values (insert_entry R es p.0 p.1) ps (All-values-insert_entry R p.0 p.1 is_value es h (All-head is_value p.1 (values_of ps) i)) (All-tail is_value p.1 (values_of ps) i)
