-- At most one datum of a shape is spelled.
use Rattle.std.proofs.Common.{◌≡◌, ℕ, inl, inr, List, [], ◌∷◌, ◌++◌, map, ap, sym, ◌∙◌, true, false, Some}
use Rattle.std.proofs.lemmas.Bool.{or_left, or_right}
use Rattle.bitcode_shapes.specs.Datum.{Datum}
use Rattle.bitcode_coder.specs.Columns.{Kind}
use Rattle.bitcode_untyped.specs.Machine.{Opened, State, start, whole, is_open, TakesNext, Takes}
use Rattle.bitcode_untyped.specs.PlacedColumns.{same_place, columns_of}
use Rattle.bitcode_untyped.specs.ShapeTree.{ShapeTree, IsOf}
use Rattle.bitcode_untyped.specs.Walk.{Place, Use, use_at}
use Rattle.bitcode_untyped.proofs.OneRunLemmas.{TakesOne, one_run}
use Rattle.bitcode_untyped.proofs.SoundLemmas.{Spelled}
use Rattle.bitcode_untyped.proofs.CompleteLemmas.{complete}
use Rattle.bitcode_coder.proofs.ColumnLemmas.{SpellsColumn-unambiguous}

pub next_one : (cs : List Opened) (p : Place) (k : Kind) (e f : Datum) (bs ds : List Opened) → TakesNext cs (use_at p k e) bs
    → TakesNext cs (use_at p k f) ds → (e ≡ f) × (bs ≡ ds)
next_one [] p k e f bs ds x y = absurd x
next_one (c ∷ cs) p k e f bs ds (inl x) (inl y) =
    let g : Some e ≡ Some f = sym x.2 ∙ y.2 in (cc, x.3 ∙ sym y.3)
next_one (c ∷ cs) p k e f bs ds (inl x) (inr y) = absurd (let h : true ≡ false = sym x.0 ∙ y.0 in cc)
next_one (c ∷ cs) p k e f bs ds (inr x) (inl y) = absurd (let h : false ≡ true = sym x.0 ∙ y.0 in cc)
next_one (c ∷ cs) p k e f bs ds (inr x) (inr y) =
    let r = next_one cs p k e f x.1 y.1 x.3 y.3 in
    (r.0, x.2 ∙ ap (λ (xs : List Opened). c ∷ xs) r.1 ∙ sym y.2)

pub next_open : (cs : List Opened) (u : Use) (bs : List Opened) → TakesNext cs u bs → is_open (map whole cs) u.place ≡ true
next_open [] u bs x = absurd x
next_open (c ∷ cs) u bs (inl x) = or_left _ _ x.0
next_open (c ∷ cs) u bs (inr x) = or_right (same_place u.place c.place) _ (next_open cs u x.1 x.3)

pub same_state : (a b : State) → a.opened ≡ b.opened → a.rest ≡ b.rest → a ≡ b
same_state a b p q =
    let mk : List Opened → List ℕ → State = λ o r. record { opened = o; rest = r } in
    ap (λ o. mk o a.rest) p ∙ ap (λ r. mk b.opened r) q

pub takes_one : TakesOne Takes
takes_one a b c p k e f (inl x) (inl y) =
    let r = next_one a.opened p k e f b.opened c.opened x.0 y.0 in
    (r.0, same_state b c r.1 (x.1 ∙ sym y.1))
takes_one a b c p k e f (inl x) (inr y) = absurd (let h : true ≡ false = sym (next_open a.opened (use_at p k e) b.opened x.0) ∙ y.0 in cc)
takes_one a b c p k e f (inr x) (inl y) = absurd (let h : true ≡ false = sym (next_open a.opened (use_at p k f) c.opened y.0) ∙ x.0 in cc)
takes_one a b c p k e f (inr x) (inr y) =
    let r = (SpellsColumn-unambiguous k).unambiguous x.3 y.3 (e ∷ x.2) (f ∷ y.2) b.rest c.rest x.6 y.6 (x.4 ∙ sym y.4) (sym x.5 ∙ y.5) in
    let es : e ∷ x.2 ≡ f ∷ y.2 = r.0 in
    let opened : b.opened ≡ c.opened =
    x.7 ∙ ap (λ (zs : List Datum). let o : Opened = record { place = p; kind = k; entries = zs; taken = 1 } in a.opened ++ o ∷ []) es ∙ sym y.7 in
    (cc, same_state b c opened r.1)

pub one_datum : (s : ShapeTree) (d e : Datum) (bytes r t : List ℕ) → IsOf s d → IsOf s e → Spelled bytes (columns_of s d) r
    → Spelled bytes (columns_of s e) t → (d ≡ e) × (r ≡ t)
one_datum s d e bytes r t hd he x y =
    let a = complete s d bytes r x in
    let b = complete s e bytes t y in
    let h = one_run Takes takes_one s [] d e (start bytes) a.0 b.0 hd he a.1 b.1 in
    (h.0, sym a.2 ∙ ap (λ (z : State). z.rest) h.1 ∙ b.2)
