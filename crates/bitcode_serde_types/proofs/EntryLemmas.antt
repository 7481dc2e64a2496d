-- The entries of a map into which pairs were inserted in turn, by what look-ups find in it.
use Rattle.std.proofs.Common.{◌≡◌, ◌≢◌, ◌⊎◌, inl, inr, zero, suc, Bool, true, false, cond, Option, Some, None, List, [], ◌∷◌, map, refl, ap, sym, subst, ◌∙◌, arith}
use Rattle.std.specs.declared.cmp.Ordering.{Ordering}
use Rattle.std.specs.declared.cmp.Ordering.TheVariants.{Less, Equal, Greater}
use Rattle.std.specs.Cmp.{IsPartialOrder}
use Rattle.std.specs.Ordering.{is_eq, eq_by_cmp}
use Rattle.std.specs.Prelude.{Decides}
use Rattle.std.specs.List.{AllByRecursion, Contains, IsDistinct}
use Rattle.std.specs.Map.{lookup, keys_of, update, update_all}
use Rattle.bitcode_shapes.specs.Datum.{Datum, pair, first_in}
use Rattle.bitcode_serde_types.specs.Keys.{TellsKeys}
use Rattle.bitcode_serde_types.specs.Pairs.{pair_datum}
use Rattle.bitcode_serde_types.specs.Restates.{HasNoKey, IsLast, HasKeysOnce, AreEntriesOf}

not_equal : (b : Bool) → (b ≡ true → ⊥) → b ≡ false
not_equal true h = absurd (h refl)
not_equal false h = refl

contains_map : {A B : Type 0} (f : A → B) (xs : List A) (x : A) → Contains xs x → Contains (map f xs) (f x)
contains_map f [] x h = absurd (let none = h.1 in omega (arith, none))
contains_map f (y ∷ ys) x (zero, lt, is) = (0, omega arith, ap f is)
contains_map f (y ∷ ys) x (suc n, lt, is) =
    let r = contains_map f ys x (n, omega (arith, lt), is) in (suc r.0, omega (arith, r.1), r.2)

module _ {K X : Type 0} (eq : K → K → Bool) (key : K → Datum) (value : X → Datum) (t : TellsKeys eq key) where
  abbrev content : K × X → Datum
  content = pair_datum key value

  apart : (a b : K) → eq a b ≡ false → key a ≢ key b
  apart a b h e = let k = t.tells a b e in cc

  unequal : (a b : K) → key a ≢ key b → eq a b ≡ false
  unequal a b h = not_equal (eq a b) (λ e. h (t.same a b e))

  -- where no pair has the key, the map stays as it is there
  untouched : (q : K) (f : K → Option X) (xs : List (K × X)) → HasNoKey (key q) (map content xs) → update_all eq f xs q ≡ f q
  untouched q f [] h = refl
  untouched q f (x ∷ xs) h =
      let e = unequal x.0 q h.0 in
      untouched q (update eq f x.0 (Some x.1)) xs h.1 ∙ ap (λ b. cond b (Some x.1) (f q)) e

  -- what is found comes from the last pair with the key, or from before
  pub record CameLast (q : K) (v : X) (xs : List (K × X)) : Type 0 where
    pub stored : K
    pub equal : key stored ≡ key q
    pub last : IsLast (map content xs) (pair (key stored) (value v))

  came : (q : K) (v : X) (f : K → Option X) (xs : List (K × X)) → update_all eq f xs q ≡ Some v
      → CameLast q v xs ⊎ (HasNoKey (key q) (map content xs) × (f q ≡ Some v))
  came q v f [] e = inr (tt, e)
  came q v f (x ∷ xs) e =
      elim (came q v (update eq f x.0 (Some x.1)) xs e) [
        | inl c ↦ inl (record { stored = c.stored; equal = c.equal; last = inl c.last })
        | inr n ↦ by (eq x.0 q) refl n.0 n.1
      ]
    where
      by : (b : Bool) → eq x.0 q ≡ b → HasNoKey (key q) (map content xs) → cond b (Some x.1) (f q) ≡ Some v
          → CameLast q v (x ∷ xs) ⊎ (HasNoKey (key q) (map content (x ∷ xs)) × (f q ≡ Some v))
      by true h none found =
          let same : x.1 ≡ v = cc in
          let k = t.same x.0 q h in
          inl (record { stored = x.0; equal = k; last = inr (ap (λ w. pair (key x.0) (value w)) same, subst (λ d. HasNoKey d (map content xs)) (sym k) none) })
      by false h none found = inr ((apart x.0 q h, none), found)

  -- the last pair with its key is what is found there
  gives : (f : K → Option X) (xs : List (K × X)) (p : Datum) → IsLast (map content xs) p → (x : K × X) × (content x ≡ p) × (update_all eq f xs x.0 ≡ Some x.1)
  gives f [] p h = absurd h
  gives f (x ∷ xs) p (inl h) = gives (update eq f x.0 (Some x.1)) xs p h
  gives f (x ∷ xs) p (inr h) =
      let none = subst (λ d. HasNoKey (first_in d) (map content xs)) (sym h.0) h.1 in
      (x, h.0, untouched x.0 (update eq f x.0 (Some x.1)) xs none ∙ ap (λ b. cond b (Some x.1) (f x.0)) (t.laws.refl x.0))

  -- an entry that a look-up finds
  pub record Found (q : K) (v : X) (es : List (K × X)) : Type 0 where
    pub stored : K
    pub equal : eq q stored ≡ true
    pub entry : Contains es (stored, v)

  found : (q : K) (v : X) (es : List (K × X)) → lookup (eq q) es ≡ Some v → Found q v es
  found q v [] e = absurd cc
  found q v (x ∷ xs) e = by (eq q x.0) refl (λ g. found q v xs g) e
    where
      by : (b : Bool) → eq q x.0 ≡ b → (lookup (eq q) xs ≡ Some v → Found q v xs) → cond b (Some x.1) (lookup (eq q) xs) ≡ Some v → Found q v (x ∷ xs)
      by true h later g =
          let same : x.1 ≡ v = cc in record { stored = x.0; equal = h; entry = (0, omega arith, ap (λ w. (x.0, w)) same) }
      by false h later g =
          let r = later g in record { stored = r.stored; equal = r.equal; entry = (suc r.entry.0, omega (arith, r.entry.1), r.entry.2) }

  -- ---- the keys differ

  no_key : (k : K) (es : List (K × X)) → AllByRecursion (λ y. eq k y ≡ false) (keys_of es) → HasNoKey (key k) (map content es)
  no_key k [] h = tt
  no_key k (e ∷ es) h = (λ same. apart k e.0 h.0 (sym same), no_key k es h.1)

  once_each : (es : List (K × X)) → IsDistinct eq (keys_of es) → HasKeysOnce (map content es)
  unfolding IsDistinct
  once_each [] h = tt
  once_each (e ∷ es) h = (no_key e.0 es h.0, once_each es h.1)

  abbrev AreFoundIn : List (K × X) → List (K × X) → Type 0
  AreFoundIn whole es = AllByRecursion (λ e. lookup (eq e.0) whole ≡ Some e.1) es

  found_behind : (e : K × X) (whole es : List (K × X)) → AllByRecursion (λ y. eq e.0 y ≡ false) (keys_of es) → AreFoundIn whole es → AreFoundIn (e ∷ whole) es
  found_behind e whole [] h a = tt
  found_behind e whole (x ∷ xs) h a =
      (ap (λ b. cond b (Some e.1) (lookup (eq x.0) whole)) (t.laws.symm x.0 e.0 ∙ h.0) ∙ a.0, found_behind e whole xs h.1 a.1)

  all_found : (es : List (K × X)) → IsDistinct eq (keys_of es) → AreFoundIn es es
  unfolding IsDistinct
  all_found [] h = tt
  all_found (e ∷ es) h = (ap (λ b. cond b (Some e.1) (lookup (eq e.0) es)) (t.laws.refl e.0), found_behind e es es h.0 (all_found es h.1))

  -- look-ups find what inserting the pairs in turn gives
  abbrev pub LooksUp : List (K × X) → List (K × X) → Type 0
  LooksUp xs es = (q : K) → lookup (eq q) es ≡ update_all eq (λ _. None) xs q

  -- ---- the entries

  module _ (xs es : List (K × X)) (looks : LooksUp xs es) where
    each_last : (ys : List (K × X)) → AreFoundIn es ys → AllByRecursion (IsLast (map content xs)) (map content ys)
    each_last [] h = tt
    each_last (y ∷ ys) h = (
      elim (came y.0 y.1 (λ _. None) xs (sym (looks y.0) ∙ h.0)) [
        | inl c ↦ subst (λ d. IsLast (map content xs) (pair d (value y.1))) c.equal c.last
        | inr n ↦ absurd (let none = n.1 in cc)
      ],
      each_last ys h.1,
    )

    all_in : (p : Datum) → IsLast (map content xs) p → Contains (map content es) p
    all_in p h =
        let r = gives (λ _. None) xs p h in
        let e = found r.0.0 r.0.1 es (looks r.0.0 ∙ r.2) in
        subst (Contains (map content es)) (ap (λ d. pair d (value r.0.1)) (sym (t.same r.0.0 e.stored e.equal)) ∙ r.1)
        (contains_map content es (e.stored, r.0.1) e.entry)

    pub entries_are : IsDistinct eq (keys_of es) → AreEntriesOf (map content xs) (map content es)
    entries_are distinct = record { once = once_each es distinct; each = each_last es (all_found es distinct); all = all_in }

-- ---- `==` and the order of keys tell the same

ties : {K : Type 0} {E : K → K → Bool} {C : K → K → Option Ordering} {R : K → K → Ordering} → IsPartialOrder E C → ((x y : K) → C x y ≡ Some (R x y)) → (x y : K)
    → E x y ≡ eq_by_cmp R x y
ties {E = E} {C = C} {R = R} po agrees x y = by (E x y) (R x y) refl (po.matches_eq x y)
  where
    by : (b : Bool) (r : Ordering) → R x y ≡ r → Decides b (C x y ≡ Some Equal) → b ≡ is_eq r
    by true Less f d = let g = agrees x y in let e = d.0 refl in absurd cc
    by true Equal f d = refl
    by true Greater f d = let g = agrees x y in let e = d.0 refl in absurd cc
    by false Less f d = refl
    by false Equal f d = let e = d.1 (agrees x y ∙ ap (λ o. Some o) f) in absurd cc
    by false Greater f d = refl

pub told_by_equality : {K : Type 0} {E : K → K → Bool} {C : K → K → Option Ordering} {R : K → K → Ordering} (key : K → Datum) → IsPartialOrder E C
    → ((x y : K) → C x y ≡ Some (R x y)) → TellsKeys (eq_by_cmp R) key → TellsKeys E key
told_by_equality key po agrees t = subst (λ e. TellsKeys e key) (λ i x y. sym (ties po agrees x y) i) t
