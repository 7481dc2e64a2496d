-- Places, and the entries at them.
use Rattle.std.proofs.Common.{◌≡◌, inl, inr, List, [], ◌∷◌, ◌++◌, length, flat_map, refl, ap, sym, ◌∙◌, true, false, append_assoc, length-append, arith}
use Rattle.std.proofs.lemmas.Bool.{eqb-true, eq-eqb, and_parts, and_from, false_from_ne_true, cases_Bool}
use Rattle.bitcode_shapes.specs.Datum.{Datum}
use Rattle.bitcode_coder.specs.Columns.{Kind}
use Rattle.bitcode_untyped.specs.PlacedColumns.{same_step, same_place, entries_at}
use Rattle.bitcode_untyped.specs.Walk.{Step, element, key, value, variant, field, Place, Use, use_at}

pub same_step-true : (s t : Step) → same_step s t ≡ true → s ≡ t
same_step-true element element h = refl
same_step-true key key h = refl
same_step-true value value h = refl
same_step-true (variant i) (variant j) h = ap variant (eqb-true i j h)
same_step-true (field i) (field j) h = ap field (eqb-true i j h)
same_step-true element _ h = cc
same_step-true key _ h = cc
same_step-true value _ h = cc
same_step-true (variant i) _ h = cc
same_step-true (field i) _ h = cc

pub same_step-refl : (s : Step) → same_step s s ≡ true
same_step-refl element = refl
same_step-refl key = refl
same_step-refl value = refl
same_step-refl (variant i) = eq-eqb i i refl
same_step-refl (field i) = eq-eqb i i refl

pub same_place-true : (p q : Place) → same_place p q ≡ true → p ≡ q
same_place-true [] [] h = refl
same_place-true [] (t ∷ q) h = cc
same_place-true (s ∷ p) [] h = cc
same_place-true (s ∷ p) (t ∷ q) h =
    let b = and_parts (same_step s t) (same_place p q) h in
    let e : s ≡ t = same_step-true s t b.0 in
    let f : p ≡ q = same_place-true p q b.1 in cc

pub same_place-refl : (p : Place) → same_place p p ≡ true
same_place-refl [] = refl
same_place-refl (s ∷ p) = and_from (same_step s s) (same_place p p) (same_step-refl s) (same_place-refl p)

pub same_place-false : (p q : Place) → (p ≡ q → ⊥) → same_place p q ≡ false
same_place-false p q h = false_from_ne_true (same_place p q) (λ e. h (same_place-true p q e))

pub entries_here : (p : Place) (k : Kind) (e : Datum) (w : List Use) → entries_at p (use_at p k e ∷ w) ≡ e ∷ entries_at p w
entries_here p k e w = rw (same_place-refl p) refl

pub entries_other : (q p : Place) (k : Kind) (e : Datum) (w : List Use) → (q ≡ p → ⊥) → entries_at q (use_at p k e ∷ w) ≡ entries_at q w
entries_other q p k e w h = rw (same_place-false q p h) refl

pub entries-append : (q : Place) (v w : List Use) → entries_at q (v ++ w) ≡ entries_at q v ++ entries_at q w
entries-append q [] w = refl
entries-append q (u ∷ v) w =
    let e = entries-append q v w in
    elim (cases_Bool (same_place q u.place)) [ inl h ↦ rw h (ap (λ (x : List Datum). u.entry ∷ x) e) | inr h ↦ rw h e ]

-- the places below `p` and `p` itself
abbrev pub Under : Place → Place → Type 0
Under p q = (r : Place) × (q ≡ r ++ p)

-- q is not below p, and is not p
abbrev pub Apart : Place → Place → Type 0
Apart p q = (r : Place) → q ≡ r ++ p → ⊥

-- a place does not lie below a step from it
pub apart_above : (s : Step) (p : Place) → Apart (s ∷ p) p
apart_above s p r e =
    let l : length p ≡ length (r ++ s ∷ p) = ap length e in
    omega (arith, l, length-append r (s ∷ p))

pub append_same_tail : (r t : Place) (a b : Step) (p : Place) → r ++ a ∷ p ≡ t ++ b ∷ p → a ≡ b
append_same_tail [] [] a b p e = cc
append_same_tail [] (x ∷ t) a b p e =
    let l : length (a ∷ p) ≡ length (x ∷ t ++ b ∷ p) = ap length e in
    absurd (omega (arith, l, length-append t (b ∷ p)))
append_same_tail (x ∷ r) [] a b p e =
    let l : length (x ∷ r ++ a ∷ p) ≡ length (b ∷ p) = ap length e in
    absurd (omega (arith, l, length-append r (a ∷ p)))
append_same_tail (x ∷ r) (y ∷ t) a b p e =
    let f : r ++ a ∷ p ≡ t ++ b ∷ p = cc in append_same_tail r t a b p f

-- what lies below one step does not lie below another
pub apart_beside : (a b : Step) (p q : Place) → (a ≡ b → ⊥) → Under (a ∷ p) q → Apart (b ∷ p) q
apart_beside a b p q h u r e = h (append_same_tail u.0 r a b p (sym u.1 ∙ e))

pub under_step : (s : Step) (p q : Place) → Under (s ∷ p) q → Under p q
under_step s p q u = (u.0 ++ s ∷ [], u.1 ∙ sym (append_assoc u.0 (s ∷ []) p))

pub under_not_above : (s : Step) (p q : Place) → Under (s ∷ p) q → q ≡ p → ⊥
under_not_above s p q u e = apart_above s p u.0 (sym e ∙ u.1)

-- the entries of several walks, each known
pub entries_each : {A : Type 0} (q : Place) (f : A → List Use) (h : A → List Datum) (P : A → Type 0) → ((x : A) → P x → entries_at q (f x) ≡ h x)
    → (xs : List A) → ((i : A) → P i) → entries_at q (flat_map f xs) ≡ flat_map h xs
entries_each q f h P e [] all = refl
entries_each q f h P e (x ∷ xs) all =
    entries-append q (f x) (flat_map f xs) ∙ rw (e x (all x), entries_each q f h P e xs all) refl
