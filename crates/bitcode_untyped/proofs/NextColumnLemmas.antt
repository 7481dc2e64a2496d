-- The columns so far decide the next one's place, kind and count, and all of them the datum.
use Rattle.std.proofs.Common.{◌≡◌, ℕ, inl, inr, List, [], ◌∷◌, ◌++◌, length, map, take, drop, refl, ap, sym, ◌∙◌, subst, Bool, true, false}
use Rattle.std.proofs.lemmas.Bool.{cases_Bool, or_left, or_right}
use Rattle.std.proofs.lemmas.List.{append-nil, take-append-drop}
use Rattle.std.specs.List.{AllByRecursion}
use Rattle.bitcode_shapes.specs.Datum.{Datum}
use Rattle.bitcode_coder.specs.Columns.{Kind}
use Rattle.bitcode_untyped.specs.Laws.{bare, NextAgree, ColumnsDecide}
use Rattle.bitcode_untyped.specs.Machine.{is_open, entries_of}
use Rattle.bitcode_untyped.specs.PlacedColumns.{same_place, entries_at, PlacedColumn, columns, columns_of}
use Rattle.bitcode_untyped.specs.Population.{population}
use Rattle.bitcode_untyped.specs.ShapeTree.{ShapeTree}
use Rattle.bitcode_untyped.specs.Walk.{Place, Use, use_at, walk}
use Rattle.bitcode_untyped.proofs.PlaceLemmas.{same_place-refl, entries_here, entries-append}
use Rattle.bitcode_untyped.proofs.HostLemmas.{hosted}
use Rattle.bitcode_untyped.proofs.PopulationLemmas.{populated}
use Rattle.bitcode_untyped.proofs.GrowingLemmas.{differ_sym, columns_lookup}
use Rattle.bitcode_untyped.proofs.SoundLemmas.{of_append_open, Distinct, distinct}
use Rattle.bitcode_untyped.proofs.FreshLemmas.{fresh, fresh_first, GroundedBy, GroundedWalk, walk_grounded, grounded_at, population_by}
use Rattle.bitcode_untyped.proofs.PartingLemmas.{Agree, one_way}

pub bare_same : (cs ds : List PlacedColumn) (q : Place) → map bare cs ≡ map bare ds → (is_open cs q ≡ is_open ds q) × (entries_of cs q ≡ entries_of ds q)
bare_same [] [] q h = (refl, refl)
bare_same [] (d ∷ ds) q h = cc
bare_same (c ∷ cs) [] q h = cc
bare_same (c ∷ cs) (d ∷ ds) q h =
    let hd : bare c ≡ bare d = cc in
    let p : c.place ≡ d.place = ap (λ (x : Place × List Datum). x.0) hd in
    let e : c.entries ≡ d.entries = ap (λ (x : Place × List Datum). x.1) hd in
    let t : map bare cs ≡ map bare ds = cc in
    let r = bare_same cs ds q t in
    (rw (p, r.0) refl, rw (p, e, r.1) refl)

pub of_take : (j : ℕ) (cs : List PlacedColumn) (q : Place) → is_open (take j cs) q ≡ true → entries_of cs q ≡ entries_of (take j cs) q
of_take j cs q h = ap (λ xs. entries_of xs q) (sym (take-append-drop j cs)) ∙ of_append_open (take j cs) (drop j cs) q h

pub fresh_none : (z : Place → Bool) (cs : List PlacedColumn) → AllByRecursion (λ (c : PlacedColumn). z c.place ≡ true) cs → fresh z cs ≡ []
fresh_none z [] h = refl
fresh_none z (c ∷ cs) h = rw h.0 (fresh_none z cs h.1)

pub fresh_all : (z : Place → Bool) (cs : List PlacedColumn) → AllByRecursion (λ (c : PlacedColumn). z c.place ≡ false) cs → fresh z cs ≡ cs
fresh_all z [] h = refl
fresh_all z (c ∷ cs) h = rw h.0 (ap (λ (xs : List PlacedColumn). c ∷ xs) (fresh_all z cs h.1))

pub fresh_ext : (z y : Place → Bool) (cs : List PlacedColumn) → ((q : Place) → z q ≡ y q) → fresh z cs ≡ fresh y cs
fresh_ext z y [] h = refl
fresh_ext z y (c ∷ cs) h = elim (cases_Bool (y c.place)) [ inl k ↦ rw (h c.place, k) (fresh_ext z y cs h) | inr k ↦ rw (h c.place, k) (ap (λ (xs : List PlacedColumn). c ∷ xs) (fresh_ext z y cs h)) ]

pub fresh-append : (z : Place → Bool) (cs ds : List PlacedColumn) → fresh z (cs ++ ds) ≡ fresh z cs ++ fresh z ds
fresh-append z [] ds = refl
fresh-append z (c ∷ cs) ds = elim (cases_Bool (z c.place)) [ inl k ↦ rw k (fresh-append z cs ds) | inr k ↦ rw k (ap (λ (xs : List PlacedColumn). c ∷ xs) (fresh-append z cs ds)) ]

pub each_more : (c : PlacedColumn) (fs cs : List PlacedColumn) → AllByRecursion (λ (x : PlacedColumn). is_open fs x.place ≡ true) cs
    → AllByRecursion (λ (x : PlacedColumn). is_open (c ∷ fs) x.place ≡ true) cs
each_more c fs [] h = tt
each_more c fs (x ∷ cs) h = (or_right (same_place x.place c.place) _ h.0, each_more c fs cs h.1)

pub each_open : (fs : List PlacedColumn) → AllByRecursion (λ (c : PlacedColumn). is_open fs c.place ≡ true) fs
each_open [] = tt
each_open (c ∷ fs) = (or_left (same_place c.place c.place) _ (same_place-refl c.place), each_more c fs fs (each_open fs))

pub each_closed_more : (a : PlacedColumn) (fs bs : List PlacedColumn) → is_open (fs ++ bs) a.place ≡ false
    → AllByRecursion (λ (c : PlacedColumn). is_open fs c.place ≡ false) bs → (cs : List PlacedColumn) → is_open cs a.place ≡ false
    → AllByRecursion (λ (c : PlacedColumn). is_open fs c.place ≡ false) cs
    → AllByRecursion (λ (c : PlacedColumn). is_open (a ∷ fs) c.place ≡ false) cs
each_closed_more a fs bs h all [] k e = tt
each_closed_more a fs bs h all (c ∷ cs) k e =
    elim (cases_Bool (same_place a.place c.place)) [
      | inl m ↦ absurd (let n = rw m at k in cc)
      | inr m ↦ let d = differ_sym a.place c.place m in (rw d e.0, each_closed_more a fs bs h all cs (rw m at k) e.1)
    ]

pub open_behind : (fs bs : List PlacedColumn) (q : Place) → is_open (fs ++ bs) q ≡ false → is_open bs q ≡ false
open_behind [] bs q h = h
open_behind (a ∷ fs) bs q h = elim (cases_Bool (same_place q a.place)) [ inl m ↦ absurd (let n = rw m at h in cc) | inr m ↦ open_behind fs bs q (rw m at h) ]

pub each_closed : (fs bs : List PlacedColumn) → Distinct (fs ++ bs) → AllByRecursion (λ (c : PlacedColumn). is_open fs c.place ≡ false) bs
each_closed [] [] d = tt
each_closed [] (b ∷ bs) d = (refl, each_closed [] bs d.1)
each_closed (a ∷ fs) bs d =
    let e = each_closed fs bs d.1 in each_closed_more a fs bs d.0 e bs (open_behind fs bs a.place d.0) e

pub fresh_behind : (fs bs : List PlacedColumn) → Distinct (fs ++ bs) → fresh (is_open fs) (fs ++ bs) ≡ bs
fresh_behind fs bs d = fresh-append (is_open fs) fs bs ∙ rw (fresh_none (is_open fs) fs (each_open fs), fresh_all (is_open fs) bs (each_closed fs bs d)) refl

pub fresh_drop : (j : ℕ) (cs : List PlacedColumn) → Distinct cs → fresh (is_open (take j cs)) cs ≡ drop j cs
fresh_drop j cs d =
    ap (λ xs. fresh (is_open (take j cs)) xs) (sym (take-append-drop j cs))
    ∙ fresh_behind (take j cs) (drop j cs) (subst Distinct (sym (take-append-drop j cs)) d)

pub next_same : (cs : List PlacedColumn) (P : Type 0) → P → NextAgree cs cs P
next_same [] P p = p
next_same (c ∷ cs) P p = (refl, refl, refl)

pub not_none : (xs ys : List Datum) (e : Datum) → xs ++ e ∷ ys ≡ [] → ⊥
not_none [] ys e h = cc
not_none (x ∷ xs) ys e h = cc

pub occurs : (front : List Use) (p : Place) (k : Kind) (e : Datum) (after : List Use) → entries_at p (front ++ use_at p k e ∷ after) ≡ [] → ⊥
occurs front p k e after h =
    not_none (entries_at p front) (entries_at p after) e (ap (λ xs. entries_at p front ++ xs) (sym (entries_here p k e after)) ∙ sym (entries-append p front (use_at p k e ∷ after)) ∙ h)

-- how many entries a place has that is reached
pub count_at : (s : ShapeTree) (d : Datum) (front : List Use) (p : Place) (k : Kind) (e : Datum) (after : List Use)
    → walk s [] d ≡ front ++ use_at p k e ∷ after → length (entries_at p (walk s [] d)) ≡ population (λ q. entries_at q (walk s [] d)) p
count_at s d front p k e after h =
    elim (hosted s [] d p) [
      | inl nothing ↦ absurd (occurs front p k e after (subst (λ w. entries_at p w ≡ []) h nothing))
      | inr m ↦ populated s [] (λ q. entries_at q (walk s [] d)) (d ∷ []) refl (λ q u. ap (λ w. entries_at q w) (sym (append-nil (walk s [] d)))) p m
    ]

pub columns_decide : (s : ShapeTree) → ColumnsDecide s
columns_decide s d e j hd he h =
    let v = walk s [] d in
    let w = walk s [] e in
    let z : Place → Bool = is_open (take j (columns v)) in
    let same : (q : Place) → z q ≡ true → entries_at q v ≡ entries_at q w = λ q k.
    let b = bare_same (take j (columns v)) (take j (columns w)) q h in
    sym (columns_lookup v q) ∙ of_take j (columns v) q k ∙ b.1 ∙ sym (of_take j (columns w) q (sym b.0 ∙ k)) ∙ columns_lookup w q in
    let agree : Agree z (v ++ []) (w ++ []) = λ q k. ap (λ x. entries_at q x) (append-nil v) ∙ same q k ∙ ap (λ x. entries_at q x) (sym (append-nil w)) in
    elim (one_way z s [] d e [] [] hd he agree) [
      | inl all ↦ subst (λ x. NextAgree (drop j (columns v)) (drop j (columns_of s x)) (d ≡ x)) all.1 (next_same (drop j (columns v)) (d ≡ d) refl)
      | inr p ↦
          let fv = fresh_drop j (columns v) (distinct v) in
          let fw =
          fresh_ext z (is_open (take j (columns w))) (columns w) (λ q. (bare_same (take j (columns v)) (take j (columns w)) q h).0)
          ∙ fresh_drop j (columns w) (distinct w) in
          let cv = fresh_first z p.front (use_at p.place p.kind p.e) p.after_v p.known p.new in
          let cw = fresh_first z p.front (use_at p.place p.kind p.f) p.after_w p.known p.new in
          let dv = sym fv ∙ ap (λ x. fresh z (columns x)) p.is_v ∙ cv in
          let dw = sym fw ∙ ap (λ x. fresh z (columns x)) p.is_w ∙ cw in
          let g : GroundedBy z p.place =
          grounded_at (λ q. false) z p.front (use_at p.place p.kind p.e) p.after_v (λ q k. absurd (let m : false ≡ true = k in cc)) p.known
          (subst (GroundedWalk (λ q. false)) p.is_v (walk_grounded s [] d (λ q. false) tt)) in
          let n = count_at s d p.front p.place p.kind p.e p.after_v p.is_v in
          let m = count_at s e p.front p.place p.kind p.f p.after_w p.is_w in
          let pop = population_by z (λ q. entries_at q v) (λ q. entries_at q w) same p.place g in
          let count = ap (λ x. length (entries_at p.place x)) (sym p.is_v) ∙ n ∙ pop ∙ sym m ∙ ap (λ x. length (entries_at p.place x)) p.is_w in
          rw (dv, dw) (refl, refl, count)
    ]
