-- The columns of a walk that grows at its end.
use Rattle.std.proofs.Common.{◌≡◌, ◌<◌, inl, inr, List, [], ◌∷◌, ◌++◌, length, map, refl, ap, sym, ◌∙◌, append_assoc, arith, subst, true, false}
use Rattle.std.proofs.lemmas.Bool.{cases_Bool, false_from_ne_true}
use Rattle.std.proofs.lemmas.List.{append-nil}
use Rattle.std.specs.List.{AllByRecursion}
use Rattle.bitcode_shapes.specs.Datum.{Datum}
use Rattle.bitcode_coder.specs.Columns.{Kind}
use Rattle.bitcode_untyped.specs.Machine.{entries_of}
use Rattle.bitcode_untyped.specs.Growing.{put, put_all}
use Rattle.bitcode_untyped.specs.PlacedColumns.{same_place, entries_at, PlacedColumn, without, columns}
use Rattle.bitcode_untyped.specs.Walk.{Place, Use, use_at}
use Rattle.bitcode_untyped.proofs.PlaceLemmas.{same_place-true, same_place-refl, entries-append}

pub same_place_sym : (p q : Place) → same_place p q ≡ true → same_place q p ≡ true
same_place_sym p q h = rw (same_place-true p q h) (same_place-refl q)

pub differ_sym : (p q : Place) → same_place p q ≡ false → same_place q p ≡ false
differ_sym p q h = false_from_ne_true (same_place q p) (λ e. let k = same_place_sym q p e in cc)

pub without_put_same : (u : Use) (p : Place) (cs : List PlacedColumn) → same_place u.place p ≡ true → without p (put u cs) ≡ without p cs
without_put_same u p [] h = rw (same_place_sym u.place p h) refl
without_put_same u p (c ∷ cs) h =
    let e : u.place ≡ p = same_place-true u.place p h in
    elim (cases_Bool (same_place u.place c.place)) [
      | inl k ↦ let k' : same_place p c.place ≡ true = subst (λ z. same_place z c.place ≡ true) e k in rw (k, k') refl
      | inr k ↦ let k' : same_place p c.place ≡ false = subst (λ z. same_place z c.place ≡ false) e k in rw (k, k') (ap (λ (xs : List PlacedColumn). c ∷ xs) (without_put_same u p cs h))
    ]

pub without_put_other : (u : Use) (p : Place) (cs : List PlacedColumn) → same_place u.place p ≡ false → without p (put u cs) ≡ put u (without p cs)
without_put_other u p [] h = rw (differ_sym u.place p h) refl
without_put_other u p (c ∷ cs) h =
    elim (cases_Bool (same_place u.place c.place)) [
      | inl k ↦
          let e : u.place ≡ c.place = same_place-true u.place c.place k in
          let k' : same_place p c.place ≡ false = differ_sym c.place p (subst (λ z. same_place z p ≡ false) e h) in
          rw (k, k', k) refl
      | inr k ↦ elim (cases_Bool (same_place p c.place)) [
        | inl m ↦ rw (k, m) (without_put_other u p cs h)
        | inr m ↦ rw (k, m, k) (ap (λ (xs : List PlacedColumn). c ∷ xs) (without_put_other u p cs h))
      ]
    ]

pub columns_snoc : (w : List Use) (u : Use) → columns (w ++ u ∷ []) ≡ put u (columns w)
columns_snoc [] u = refl
columns_snoc (v ∷ w) u =
    let ih = columns_snoc w u in
    let e = entries-append v.place w (u ∷ []) in
    elim (cases_Bool (same_place u.place v.place)) [
      | inl k ↦
          let k' : same_place v.place u.place ≡ true = same_place_sym u.place v.place k in
          rw (k, e, k', ih, without_put_same u v.place (columns w) k) refl
      | inr k ↦
          let k' : same_place v.place u.place ≡ false = differ_sym u.place v.place k in
          rw (k, e, k', append-nil, ih, without_put_other u v.place (columns w) k) refl
    ]

pub put_all-append : (v w : List Use) (cs : List PlacedColumn) → put_all (v ++ w) cs ≡ put_all w (put_all v cs)
put_all-append [] w cs = refl
put_all-append (u ∷ v) w cs = put_all-append v w (put u cs)

pub put_all-columns : (v w : List Use) → put_all v (columns w) ≡ columns (w ++ v)
put_all-columns [] w = ap columns (sym (append-nil w))
put_all-columns (u ∷ v) w =
    ap (put_all v) (sym (columns_snoc w u)) ∙ put_all-columns v (w ++ u ∷ []) ∙ ap columns (append_assoc w (u ∷ []) v)

-- The columns of a walk are those that a writer makes use by use.
pub put_all-none : (w : List Use) → put_all w [] ≡ columns w
put_all-none w = put_all-columns w []

-- Entries of one place stand behind the others of its column.
pub put_all_here : (p : Place) (kind : Kind) (ds : List Datum) (c : PlacedColumn) (cs : List PlacedColumn) → same_place p c.place ≡ true
    → put_all (map (use_at p kind) ds) (c ∷ cs) ≡ record c { entries = c.entries ++ ds } ∷ cs
put_all_here p kind [] c cs h = ap (λ es. record c { entries = es } ∷ cs) (sym (append-nil c.entries))
put_all_here p kind (d ∷ ds) c cs h =
    let one : put (use_at p kind d) (c ∷ cs) ≡ record c { entries = c.entries ++ d ∷ [] } ∷ cs = rw h refl in
    ap (put_all (map (use_at p kind) ds)) one
    ∙ put_all_here p kind ds (record c { entries = c.entries ++ d ∷ [] }) cs h
    ∙ ap (λ es. record c { entries = es } ∷ cs) (append_assoc c.entries (d ∷ []) ds)

pub put_all_past : (p : Place) (kind : Kind) (ds : List Datum) (c : PlacedColumn) (cs : List PlacedColumn) → same_place p c.place ≡ false
    → put_all (map (use_at p kind) ds) (c ∷ cs) ≡ c ∷ put_all (map (use_at p kind) ds) cs
put_all_past p kind [] c cs h = refl
put_all_past p kind (d ∷ ds) c cs h =
    let one : put (use_at p kind d) (c ∷ cs) ≡ c ∷ put (use_at p kind d) cs = rw h refl in
    ap (put_all (map (use_at p kind) ds)) one ∙ put_all_past p kind ds c (put (use_at p kind d) cs) h

pub put_all_first : (p : Place) (kind : Kind) (ds : List Datum) → 0 < length ds
    → put_all (map (use_at p kind) ds) [] ≡ record { place = p; kind = kind; entries = ds } ∷ []
put_all_first p kind [] h = absurd (omega (arith, h))
put_all_first p kind (d ∷ ds) h =
    put_all_here p kind ds (record { place = p; kind = kind; entries = d ∷ [] }) [] (same_place-refl p)

pub lookup_without : (p q : Place) (cs : List PlacedColumn) → same_place p q ≡ false → entries_of (without q cs) p ≡ entries_of cs p
lookup_without p q [] h = refl
lookup_without p q (c ∷ cs) h =
    elim (cases_Bool (same_place q c.place)) [
      | inl k ↦
          let e : q ≡ c.place = same_place-true q c.place k in
          let k' : same_place p c.place ≡ false = subst (λ z. same_place p z ≡ false) e h in
          rw (k, k') (lookup_without p q cs h)
      | inr k ↦ elim (cases_Bool (same_place p c.place)) [ inl m ↦ rw (k, m) refl | inr m ↦ rw (k, m) (lookup_without p q cs h) ]
    ]

-- The column of a place has all entries of the place.
pub columns_lookup : (w : List Use) (p : Place) → entries_of (columns w) p ≡ entries_at p w
columns_lookup [] p = refl
columns_lookup (u ∷ w) p =
    elim (cases_Bool (same_place p u.place)) [
      | inl k ↦ let e : p ≡ u.place = same_place-true p u.place k in rw (k) (ap (λ (q : Place). u.entry ∷ entries_at q w) (sym e))
      | inr k ↦ rw k (lookup_without p u.place (columns w) k ∙ columns_lookup w p)
    ]

-- No column is empty.
abbrev pub Filled : List PlacedColumn → Type 0
Filled cs = AllByRecursion (λ (c : PlacedColumn). c.entries ≡ [] → ⊥) cs

pub filled_without : (p : Place) (cs : List PlacedColumn) → Filled cs → Filled (without p cs)
filled_without p [] f = tt
filled_without p (c ∷ cs) f =
    elim (cases_Bool (same_place p c.place)) [ inl k ↦ rw k (filled_without p cs f.1) | inr k ↦ rw k (f.0, filled_without p cs f.1) ]

pub filled : (w : List Use) → Filled (columns w)
filled [] = tt
filled (u ∷ w) = (λ e. cc, filled_without u.place (columns w) (filled w))
