-- Links of places, by number.
use Rattle.std.proofs.Common.{◌≡◌, ℕ, zero, suc, ◌+◌, ◌<◌, ◌≤◌, ◌==◌, ◌||◌, ◌⊎◌, inl, inr, Bool, true, false, List, [], ◌∷◌, ◌++◌, length, take, get_or, None, Some, slice_get, refl, ap, sym, subst, arith, eq-eqb, eqb-true}
use Rattle.std.proofs.Math.ListN.{set}
use Rattle.std.proofs.lemmas.Bool.{or_left, or_right}
use Rattle.bitcode_serde.specs.Links.{is_among, column_link, children, last_field}
use Rattle.bitcode_serde.specs.declared.links.Links.{Links}

-- ---- numbers among others

pub among_cases : (a b : Bool) → (a || b) ≡ true → (a ≡ true) ⊎ (b ≡ true)
among_cases true b h = inl refl
among_cases false b h = inr h

pub among_one : (i j : ℕ) (js : List ℕ) → is_among i (j ∷ js) ≡ true → (i ≡ j) ⊎ (is_among i js ≡ true)
among_one i j js h = elim (among_cases (i == j) (is_among i js) h) [ inl e ↦ inl (eqb-true i j e) | inr e ↦ inr e ]

pub among_last : (i j : ℕ) (js : List ℕ) → is_among i (js ++ j ∷ []) ≡ true → (is_among i js ≡ true) ⊎ (i ≡ j)
among_last i j [] h = elim (among_one i j [] h) [ inl e ↦ inr e | inr e ↦ cc ]
among_last i j (k ∷ js) h =
    elim (among_one i k (js ++ j ∷ []) h) [
      | inl e ↦ inl (or_left (i == k) (is_among i js) (eq-eqb i k e))
      | inr e ↦ elim (among_last i j js e) [ inl f ↦ inl (or_right (i == k) (is_among i js) f) | inr f ↦ inr f ]
    ]

pub among_more : (i j : ℕ) (js : List ℕ) → is_among i js ≡ true → is_among i (js ++ j ∷ []) ≡ true
among_more i j [] h = cc
among_more i j (k ∷ js) h =
    elim (among_one i k js h) [
      | inl e ↦ or_left (i == k) (is_among i (js ++ j ∷ [])) (eq-eqb i k e)
      | inr e ↦ or_right (i == k) (is_among i (js ++ j ∷ [])) (among_more i j js e)
    ]

pub among_new : (j : ℕ) (js : List ℕ) → is_among j (js ++ j ∷ []) ≡ true
among_new j [] = or_left (j == j) false (eq-eqb j j refl)
among_new j (k ∷ js) = or_right (j == k) (is_among j (js ++ j ∷ [])) (among_new j js)

pub among_got : (js : List ℕ) (k i : ℕ) → slice_get js k ≡ Some i → is_among i js ≡ true
among_got [] k i h = cc
among_got (j ∷ js) zero i h = let e : j ≡ i = cc in or_left (i == j) (is_among i js) (eq-eqb i j (sym e))
among_got (j ∷ js) (suc k) i h = or_right (i == j) (is_among i js) (among_got js k i h)

pub among_at : (js : List ℕ) (k d : ℕ) → k < length js → is_among (get_or js k d) js ≡ true
among_at [] k d h = absurd (omega (arith, h))
among_at (j ∷ js) zero d h = or_left (j == j) (is_among j js) (eq-eqb j j refl)
among_at (j ∷ js) (suc k) d h = or_right (get_or js k d == j) (is_among (get_or js k d) js) (among_at js k d (omega (arith, h)))

among_next : (js : List ℕ) (k d i : ℕ) → k < length js → is_among i (take (suc k) js) ≡ true → (is_among i (take k js) ≡ true) ⊎ (i ≡ get_or js k d)
among_next [] k d i h among = absurd (omega (arith, h))
among_next (j ∷ js) zero d i h among = elim (among_one i j [] among) [ inl e ↦ inr e | inr e ↦ cc ]
among_next (j ∷ js) (suc k) d i h among =
    elim (among_one i j (take (suc k) js) among) [
      | inl e ↦ inl (or_left (i == j) (is_among i (take k js)) (eq-eqb i j e))
      | inr e ↦ elim (among_next js k d i (omega (arith, h)) e) [ inl f ↦ inl (or_right (i == j) (is_among i (take k js)) f) | inr f ↦ inr f ]
    ]

pub among_take : (js : List ℕ) (k d i : ℕ) → k < length js → is_among i (take (k + 1) js) ≡ true → (is_among i (take k js) ≡ true) ⊎ (i ≡ get_or js k d)
among_take js k d i h among =
    let e : k + 1 ≡ suc k = omega arith in
    among_next js k d i h (subst (λ n. is_among i (take n js) ≡ true) e among)

-- ---- what stands at a number

module _ (l : Links) where
  pub children_got : (ls : List Links) (above : ℕ) → slice_get ls above ≡ Some l → children ls above ≡ l.children.items
  children_got [] above h = cc
  children_got (x ∷ ls) zero h = let e : x ≡ l = cc in ap (λ z. z.children.items) e
  children_got (x ∷ ls) (suc above) h = children_got ls above h

  pub last_got : (ls : List Links) (above : ℕ) → slice_get ls above ≡ Some l → last_field ls above ≡ l.last_field
  last_got [] above h = cc
  last_got (x ∷ ls) zero h = let e : x ≡ l = cc in ap (λ z. z.last_field) e
  last_got (x ∷ ls) (suc above) h = last_got ls above h

  pub column_got : (ls : List Links) (n : ℕ) → slice_get ls n ≡ Some l → column_link ls n ≡ l.column
  column_got [] n h = cc
  column_got (x ∷ ls) zero h = let e : x ≡ l = cc in ap (λ z. z.column) e
  column_got (x ∷ ls) (suc n) h = column_got ls n h

pub children_none : (ls : List Links) (above : ℕ) → slice_get ls above ≡ None → children ls above ≡ []
children_none [] above h = refl
children_none (x ∷ ls) zero h = cc
children_none (x ∷ ls) (suc above) h = children_none ls above h

pub column_none : (ls : List Links) (n : ℕ) → slice_get ls n ≡ None → column_link ls n ≡ None
column_none [] n h = refl
column_none (x ∷ ls) zero h = cc
column_none (x ∷ ls) (suc n) h = column_none ls n h

-- ---- one more, that leads nowhere

pub children_more : (ls : List Links) (l : Links) → l.children.items ≡ [] → (above : ℕ) → children (ls ++ l ∷ []) above ≡ children ls above
children_more [] l none zero = none
children_more [] l none (suc above) = refl
children_more (x ∷ ls) l none zero = refl
children_more (x ∷ ls) l none (suc above) = children_more ls l none above

pub last_more : (ls : List Links) (l : Links) → l.last_field ≡ 0 → (above : ℕ) → last_field (ls ++ l ∷ []) above ≡ last_field ls above
last_more [] l none zero = none
last_more [] l none (suc above) = refl
last_more (x ∷ ls) l none zero = refl
last_more (x ∷ ls) l none (suc above) = last_more ls l none above

pub column_more : (ls : List Links) (l : Links) → l.column ≡ None → (n : ℕ) → column_link (ls ++ l ∷ []) n ≡ column_link ls n
column_more [] l none zero = none
column_more [] l none (suc n) = refl
column_more (x ∷ ls) l none zero = refl
column_more (x ∷ ls) l none (suc n) = column_more ls l none n

-- ---- another one at a number

module _ (after : Links) where
  pub column_set : (ls : List Links) (n : ℕ) → n < length ls → column_link (set ls n after) n ≡ after.column
  column_set [] n h = absurd (omega (arith, h))
  column_set (x ∷ ls) zero h = refl
  column_set (x ∷ ls) (suc n) h = column_set ls n (omega (arith, h))

  pub column_set-others : (ls : List Links) (n m : ℕ) → (column_link (set ls n after) m ≡ column_link ls m) ⊎ (m ≡ n)
  column_set-others [] n m = inl refl
  column_set-others (x ∷ ls) zero zero = inr refl
  column_set-others (x ∷ ls) zero (suc m) = inl refl
  column_set-others (x ∷ ls) (suc n) zero = inl refl
  column_set-others (x ∷ ls) (suc n) (suc m) =
      elim (column_set-others ls n m) [ inl e ↦ inl e | inr e ↦ inr (ap (λ k. suc k) e) ]

  pub column_set-same : (ls : List Links) (n : ℕ) (d : Links) → after.column ≡ (get_or ls n d).column → (m : ℕ) → column_link (set ls n after) m ≡ column_link ls m
  column_set-same [] n d same m = refl
  column_set-same (x ∷ ls) zero d same zero = same
  column_set-same (x ∷ ls) zero d same (suc m) = refl
  column_set-same (x ∷ ls) (suc n) d same zero = refl
  column_set-same (x ∷ ls) (suc n) d same (suc m) = column_set-same ls n d same m

  pub children_set : (ls : List Links) (n : ℕ) (d : Links) (child : ℕ) → n < length ls → after.children.items ≡ (get_or ls n d).children.items ++ child ∷ []
      → children (set ls n after) n ≡ children ls n ++ child ∷ []
  children_set [] n d child h is = absurd (omega (arith, h))
  children_set (x ∷ ls) zero d child h is = is
  children_set (x ∷ ls) (suc n) d child h is = children_set ls n d child (omega (arith, h)) is

  pub children_set-others : (ls : List Links) (n m : ℕ) → (children (set ls n after) m ≡ children ls m) ⊎ (m ≡ n)
  children_set-others [] n m = inl refl
  children_set-others (x ∷ ls) zero zero = inr refl
  children_set-others (x ∷ ls) zero (suc m) = inl refl
  children_set-others (x ∷ ls) (suc n) zero = inl refl
  children_set-others (x ∷ ls) (suc n) (suc m) =
      elim (children_set-others ls n m) [ inl e ↦ inl e | inr e ↦ inr (ap (λ k. suc k) e) ]

  pub children_set-same : (ls : List Links) (n : ℕ) (d : Links) → after.children.items ≡ (get_or ls n d).children.items → (m : ℕ)
      → children (set ls n after) m ≡ children ls m
  children_set-same [] n d same m = refl
  children_set-same (x ∷ ls) zero d same zero = same
  children_set-same (x ∷ ls) zero d same (suc m) = refl
  children_set-same (x ∷ ls) (suc n) d same zero = refl
  children_set-same (x ∷ ls) (suc n) d same (suc m) = children_set-same ls n d same m

  pub last_set : (ls : List Links) (n : ℕ) → n < length ls → last_field (set ls n after) n ≡ after.last_field
  last_set [] n h = absurd (omega (arith, h))
  last_set (x ∷ ls) zero h = refl
  last_set (x ∷ ls) (suc n) h = last_set ls n (omega (arith, h))

  pub last_set-grows : (ls : List Links) (n : ℕ) (d : Links) → (get_or ls n d).last_field ≤ after.last_field → (m : ℕ)
      → last_field ls m ≤ last_field (set ls n after) m
  last_set-grows [] n d grows m = omega arith
  last_set-grows (x ∷ ls) zero d grows zero = grows
  last_set-grows (x ∷ ls) zero d grows (suc m) = omega arith
  last_set-grows (x ∷ ls) (suc n) d grows zero = omega arith
  last_set-grows (x ∷ ls) (suc n) d grows (suc m) = last_set-grows ls n d grows m

  pub last_set-same : (ls : List Links) (n : ℕ) (d : Links) → after.last_field ≡ (get_or ls n d).last_field → (m : ℕ)
      → last_field (set ls n after) m ≡ last_field ls m
  last_set-same [] n d same m = refl
  last_set-same (x ∷ ls) zero d same zero = same
  last_set-same (x ∷ ls) zero d same (suc m) = refl
  last_set-same (x ∷ ls) (suc n) d same zero = refl
  last_set-same (x ∷ ls) (suc n) d same (suc m) = last_set-same ls n d same m
