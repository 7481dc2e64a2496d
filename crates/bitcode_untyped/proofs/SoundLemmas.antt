-- What the machine ran along to the end of the bytes is what the bytes spell.
use Rattle.std.proofs.Common.{◌≡◌, ℕ, zero, suc, ◌+◌, inl, inr, List, [], ◌∷◌, ◌++◌, length, map, take, refl, ap, sym, ◌∙◌, subst, true, false, ◌||◌, slice_get, Some, append_assoc, add-one}
use Rattle.std.proofs.lemmas.Bool.{cases_Bool, or_cases, or_left, or_right}
use Rattle.std.proofs.lemmas.List.{append-nil, map-append}
use Rattle.bitcode_shapes.specs.Datum.{Datum}
use Rattle.bitcode_coder.specs.Spelling.{SpellsColumn}
use Rattle.bitcode_untyped.specs.Growing.{put}
use Rattle.bitcode_untyped.specs.Machine.{Opened, State, start, whole, seen, is_open, entries_of, Grounded, TakesNext, Takes}
use Rattle.bitcode_untyped.specs.PlacedColumns.{same_place, entries_at, PlacedColumn, without, columns}
use Rattle.bitcode_untyped.specs.Population.{total, count_of, population}
use Rattle.bitcode_untyped.specs.Runs.{Runs}
use Rattle.bitcode_untyped.specs.ShapeTree.{ShapeTree}
use Rattle.bitcode_untyped.specs.Walk.{element, key, value, variant, field, Place, Use, walk}
use Rattle.bitcode_untyped.proofs.PlaceLemmas.{same_place-true, same_place-refl}
use Rattle.bitcode_untyped.proofs.HostLemmas.{Hosts, hosted}
use Rattle.bitcode_untyped.proofs.PopulationLemmas.{populated}
use Rattle.bitcode_untyped.proofs.GrowingLemmas.{columns_snoc, columns_lookup, Filled, filled}

-- One piece for each column, in order, and then the rest.
abbrev pub Spelled : List ℕ → List PlacedColumn → List ℕ → Type 0
Spelled bytes [] rest = bytes ≡ rest
Spelled bytes (c ∷ cs) rest = (piece : List ℕ) × (after : List ℕ) × (bytes ≡ piece ++ after) × SpellsColumn c.kind piece c.entries × Spelled after cs rest

-- what was opened stays
pub open_append : (ws vs : List PlacedColumn) (q : Place) → is_open ws q ≡ true → is_open (ws ++ vs) q ≡ true
open_append [] vs q h = cc
open_append (c ∷ ws) vs q h =
    elim (or_cases (same_place q c.place) (is_open ws q) h) [ inl k ↦ or_left _ _ k | inr k ↦ or_right (same_place q c.place) _ (open_append ws vs q k) ]

pub of_append_open : (ws vs : List PlacedColumn) (q : Place) → is_open ws q ≡ true → entries_of (ws ++ vs) q ≡ entries_of ws q
of_append_open [] vs q h = cc
of_append_open (c ∷ ws) vs q h =
    elim (cases_Bool (same_place q c.place)) [ inl k ↦ rw k refl | inr k ↦ rw k (of_append_open ws vs q (rw k at h)) ]

pub of_append_closed : (ws vs : List PlacedColumn) (q : Place) → is_open ws q ≡ false
    → (entries_of (ws ++ vs) q ≡ entries_of vs q) × (is_open (ws ++ vs) q ≡ is_open vs q)
of_append_closed [] vs q h = (refl, refl)
of_append_closed (c ∷ ws) vs q h =
    elim (cases_Bool (same_place q c.place)) [ inl k ↦ absurd (let m = rw k at h in cc) | inr k ↦ rw k (of_append_closed ws vs q (rw k at h)) ]

pub grounded_append : (ws vs : List PlacedColumn) (q : Place) → Grounded ws q → Grounded (ws ++ vs) q
grounded_append ws vs [] g = tt
grounded_append ws vs (element ∷ p) g = open_append ws vs p g
grounded_append ws vs (key ∷ p) g = open_append ws vs p g
grounded_append ws vs (value ∷ p) g = open_append ws vs p g
grounded_append ws vs (variant i ∷ p) g = open_append ws vs p g
grounded_append ws vs (field i ∷ p) g = grounded_append ws vs p g

pub population_append : (ws vs : List PlacedColumn) (q : Place) → Grounded ws q → population (entries_of (ws ++ vs)) q ≡ population (entries_of ws) q
population_append ws vs [] g = refl
population_append ws vs (element ∷ p) g = ap total (of_append_open ws vs p g)
population_append ws vs (key ∷ p) g = ap total (of_append_open ws vs p g)
population_append ws vs (value ∷ p) g = ap total (of_append_open ws vs p g)
population_append ws vs (variant i ∷ p) g = ap (count_of i) (of_append_open ws vs p g)
population_append ws vs (field i ∷ p) g = population_append ws vs p g

-- Each opened column has as many entries as the columns opened before it say.
abbrev pub Counted : List PlacedColumn → Type 0
Counted ws = (q : Place) → is_open ws q ≡ true → Grounded ws q × (length (entries_of ws q) ≡ population (entries_of ws) q)

pub counted_append : (ws : List PlacedColumn) (c : PlacedColumn) → Counted ws → is_open ws c.place ≡ false → Grounded ws c.place
    → length c.entries ≡ population (entries_of ws) c.place → Counted (ws ++ c ∷ [])
counted_append ws c all closed g n q h =
    elim (cases_Bool (is_open ws q)) [
      | inl k ↦ let m = all q k in (grounded_append ws (c ∷ []) q m.0, rw (of_append_open ws (c ∷ []) q k, population_append ws (c ∷ []) q m.0) m.1)
      | inr k ↦
          let a = of_append_closed ws (c ∷ []) q k in
          let o : (same_place q c.place || false) ≡ true = sym a.1 ∙ h in
          elim (or_cases (same_place q c.place) false o) [
            | inl e ↦
                let p : q ≡ c.place = same_place-true q c.place e in
                let g' : Grounded ws q = subst (λ z. Grounded ws z) (sym p) g in
                let n' : length c.entries ≡ population (entries_of ws) q = subst (λ z. length c.entries ≡ population (entries_of ws) z) (sym p) n in
                let l : entries_of (ws ++ c ∷ []) q ≡ c.entries = a.0 ∙ rw e refl in
                (grounded_append ws (c ∷ []) q g', rw (l, population_append ws (c ∷ []) q g') n')
            | inr e ↦ absurd (cc)
          ]
    ]

pub spelled_append : (bytes mid rest piece : List ℕ) (cs : List PlacedColumn) (c : PlacedColumn) → Spelled bytes cs mid → mid ≡ piece ++ rest
    → SpellsColumn c.kind piece c.entries → Spelled bytes (cs ++ c ∷ []) rest
spelled_append bytes mid rest piece [] c s e h = (piece, rest, s ∙ e, h, refl)
spelled_append bytes mid rest piece (d ∷ cs) c s e h = (s.0, s.1, s.2, s.3, spelled_append s.1 mid rest piece cs c s.4 e h)

pub take_get : (xs : List Datum) (n : ℕ) (e : Datum) → slice_get xs n ≡ Some e → take (n + 1) xs ≡ take n xs ++ e ∷ []
take_get [] n e h = cc
take_get (x ∷ xs) zero e h = let k : x ≡ e = cc in rw k refl
take_get (x ∷ xs) (suc n) e h =
    let ih = subst (λ z. take z xs ≡ take n xs ++ e ∷ []) (add-one n) (take_get xs n e h) in
    rw add-one (ap (λ (ys : List Datum). x ∷ ys) ih)

pub takes_whole : (cs : List Opened) (u : Use) (ds : List Opened) → TakesNext cs u ds → map whole ds ≡ map whole cs
takes_whole [] u ds t = absurd t
takes_whole (c ∷ cs) u ds (inl t) = rw t.3 refl
takes_whole (c ∷ cs) u ds (inr t) = rw t.2 (ap (λ (xs : List PlacedColumn). whole c ∷ xs) (takes_whole cs u t.1 t.3))

pub takes_seen : (cs : List Opened) (u : Use) (ds : List Opened) → TakesNext cs u ds → map seen ds ≡ put u (map seen cs)
takes_seen [] u ds t = absurd t
takes_seen (c ∷ cs) u ds (inl t) = rw (t.3, t.0, take_get c.entries c.taken u.entry t.2) refl
takes_seen (c ∷ cs) u ds (inr t) = rw (t.2, t.0) (ap (λ (xs : List PlacedColumn). seen c ∷ xs) (takes_seen cs u t.1 t.3))

pub put_new : (cs : List Opened) (u : Use) → is_open (map whole cs) u.place ≡ false
    → put u (map seen cs) ≡ map seen cs ++ record { place = u.place; kind = u.kind; entries = u.entry ∷ [] } ∷ []
put_new [] u h = refl
put_new (c ∷ cs) u h =
    elim (cases_Bool (same_place u.place c.place)) [
      | inl k ↦ absurd (let m = rw k at h in cc)
      | inr k ↦ rw k (ap (λ (xs : List PlacedColumn). seen c ∷ xs) (put_new cs u (rw k at h)))
    ]

-- How a state stands to the walk so far.
pub record Tracks (bytes : List ℕ) (w : List Use) (a : State) : Type 0 where
  pub seen_so_far : map seen a.opened ≡ columns w
  pub spelled : Spelled bytes (map whole a.opened) a.rest
  pub counted : Counted (map whole a.opened)

pub tracks_start : (bytes : List ℕ) → Tracks bytes [] (start bytes)
tracks_start bytes = record { seen_so_far = refl; spelled = refl; counted = λ q h. absurd (let k : false ≡ true = h in cc) }

pub tracks_step : (bytes : List ℕ) (w : List Use) (a b : State) (u : Use) → Tracks bytes w a → Takes a u b → Tracks bytes (w ++ u ∷ []) b
tracks_step bytes w a b u i (inl t) =
    let same = takes_whole a.opened u b.opened t.0 in
    record {
      seen_so_far = takes_seen a.opened u b.opened t.0 ∙ ap (put u) i.seen_so_far ∙ sym (columns_snoc w u);
      spelled = rw (same, t.1) i.spelled;
      counted = rw same i.counted;
    }
tracks_step bytes w a b u i (inr t) =
    let new : Opened = record { place = u.place; kind = u.kind; entries = u.entry ∷ t.2; taken = 1 } in
    let ws : map whole b.opened ≡ map whole a.opened ++ whole new ∷ [] = ap (map whole) t.7 ∙ map-append whole a.opened (new ∷ []) in
    let ss : map seen b.opened ≡ map seen a.opened ++ seen new ∷ [] = ap (map seen) t.7 ∙ map-append seen a.opened (new ∷ []) in
    record {
      seen_so_far = ss ∙ sym (put_new a.opened u t.0) ∙ ap (put u) i.seen_so_far ∙ sym (columns_snoc w u);
      spelled = rw ws (spelled_append bytes a.rest b.rest t.3 (map whole a.opened) (whole new) i.spelled t.5 t.6);
      counted = rw ws (counted_append (map whole a.opened) (whole new) i.counted t.0 t.1 t.4);
    }

pub tracks_run : (bytes : List ℕ) (t w : List Use) (a b : State) → Tracks bytes w a → Runs Takes a t b → Tracks bytes (w ++ t) b
tracks_run bytes [] w a b i r = rw append-nil (subst (λ z. Tracks bytes w z) r i)
tracks_run bytes (u ∷ t) w a b i r =
    subst (λ z. Tracks bytes z b) (append_assoc w (u ∷ []) t) (tracks_run bytes t (w ++ u ∷ []) r.0 b (tracks_step bytes w a r.0 u i r.1) r.2)

pub same_open : (cs : List Opened) (q : Place) → is_open (map seen cs) q ≡ is_open (map whole cs) q
same_open [] q = refl
same_open (c ∷ cs) q = ap (λ b. same_place q c.place || b) (same_open cs q)

pub closed_none : (ws : List PlacedColumn) (q : Place) → is_open ws q ≡ false → entries_of ws q ≡ []
closed_none [] q h = refl
closed_none (c ∷ ws) q h =
    elim (cases_Bool (same_place q c.place)) [ inl k ↦ absurd (let m = rw k at h in cc) | inr k ↦ rw k (closed_none ws q (rw k at h)) ]

-- What was seen of a column is a front of it.
pub seen_front : (cs : List Opened) (q : Place) → (n : ℕ) × (entries_of (map seen cs) q ≡ take n (entries_of (map whole cs) q))
seen_front [] q = (0, refl)
seen_front (c ∷ cs) q =
    elim (cases_Bool (same_place q c.place)) [ inl k ↦ (c.taken, rw k refl) | inr k ↦ let m = seen_front cs q in (m.0, rw k m.1) ]

pub take_all : (n : ℕ) (xs : List Datum) → length (take n xs) ≡ length xs → take n xs ≡ xs
take_all zero [] h = refl
take_all zero (x ∷ xs) h = cc
take_all (suc n) [] h = refl
take_all (suc n) (x ∷ xs) h = ap (λ (ys : List Datum). x ∷ ys) (take_all n xs (cc))

pub filled_open : (cs : List PlacedColumn) (q : Place) → Filled cs → is_open cs q ≡ true → entries_of cs q ≡ [] → ⊥
filled_open [] q f h e = cc
filled_open (c ∷ cs) q f h e =
    elim (cases_Bool (same_place q c.place)) [ inl k ↦ f.0 (rw k at e) | inr k ↦ filled_open cs q f.1 (rw k at h) (rw k at e) ]

-- Each place has at most one column.
abbrev pub Distinct : List PlacedColumn → Type 0
Distinct [] = Unit {0}
Distinct (c ∷ cs) = (is_open cs c.place ≡ false) × Distinct cs

pub open_without : (p q : Place) (cs : List PlacedColumn) → is_open cs q ≡ false → is_open (without p cs) q ≡ false
open_without p q [] h = refl
open_without p q (c ∷ cs) h =
    elim (cases_Bool (same_place q c.place)) [
      | inl k ↦ absurd (let m = rw k at h in cc)
      | inr k ↦ let t : is_open cs q ≡ false = rw k at h in elim (cases_Bool (same_place p c.place)) [ inl m ↦ rw m (open_without p q cs t) | inr m ↦ rw (m, k) (open_without p q cs t) ]
    ]

pub closed_without : (p : Place) (cs : List PlacedColumn) → is_open (without p cs) p ≡ false
closed_without p [] = refl
closed_without p (c ∷ cs) =
    elim (cases_Bool (same_place p c.place)) [ inl k ↦ rw k (closed_without p cs) | inr k ↦ rw (k, k) (closed_without p cs) ]

pub distinct_without : (p : Place) (cs : List PlacedColumn) → Distinct cs → Distinct (without p cs)
distinct_without p [] h = tt
distinct_without p (c ∷ cs) h =
    elim (cases_Bool (same_place p c.place)) [ inl k ↦ rw k (distinct_without p cs h.1) | inr k ↦ rw k (open_without p c.place cs h.0, distinct_without p cs h.1) ]

pub distinct : (w : List Use) → Distinct (columns w)
distinct [] = tt
distinct (u ∷ w) = (closed_without u.place (columns w), distinct_without u.place (columns w) (distinct w))

-- Where each place has the same entries seen as there are, the columns are the same.
pub all_seen : (cs : List Opened) → Distinct (map seen cs) → ((q : Place) → entries_of (map whole cs) q ≡ entries_of (map seen cs) q)
    → map whole cs ≡ map seen cs
all_seen [] d h = refl
all_seen (c ∷ cs) d h =
    let e : c.entries ≡ take c.taken c.entries = rw (same_place-refl c.place) at (h c.place) in
    let f : whole c ≡ seen c = ap (λ (es : List Datum). let col : PlacedColumn = record { place = c.place; kind = c.kind; entries = es } in col) e in
    let g : (q : Place) → entries_of (map whole cs) q ≡ entries_of (map seen cs) q = λ q. elim (cases_Bool (same_place q c.place)) [
      | inl k ↦
          let o : is_open (map seen cs) q ≡ false = subst (λ z. is_open (map seen cs) z ≡ false) (sym (same_place-true q c.place k)) d.0 in
          closed_none (map whole cs) q (sym (same_open cs q) ∙ o) ∙ sym (closed_none (map seen cs) q o)
      | inr k ↦ rw k at (h q)
    ] in
    rw (f, all_seen cs d.1 g) refl

module _ (s : ShapeTree) (d : Datum) (bytes : List ℕ) (b : State) (i : Tracks bytes (walk s [] d) b) where
  pub seen_entries : (q : Place) → entries_of (map seen b.opened) q ≡ entries_at q (walk s [] d)
  seen_entries q = ap (λ cs. entries_of cs q) i.seen_so_far ∙ columns_lookup (walk s [] d) q

  pub counts : (q : Place) → Hosts s [] q → length (entries_at q (walk s [] d)) ≡ population (λ z. entries_at z (walk s [] d)) q
  counts q h = populated s [] (λ z. entries_at z (walk s [] d)) (d ∷ []) refl (λ z u. ap (λ w. entries_at z w) (sym (append-nil (walk s [] d)))) q h

  pub lookup_from : (q : Place) → population (entries_of (map whole b.opened)) q ≡ population (λ z. entries_at z (walk s [] d)) q
      → entries_of (map whole b.opened) q ≡ entries_at q (walk s [] d)
  lookup_from q e =
      let front = seen_front b.opened q in
      let at = seen_entries q in
      elim (cases_Bool (is_open (map whole b.opened) q)) [
        | inl k ↦
            let o : is_open (columns (walk s [] d)) q ≡ true = ap (λ cs. is_open cs q) (sym i.seen_so_far) ∙ same_open b.opened q ∙ k in
            elim (hosted s [] d q) [
              | inl nothing ↦ absurd (filled_open (columns (walk s [] d)) q (filled (walk s [] d)) o (columns_lookup (walk s [] d) q ∙ nothing))
              | inr h ↦
                  let n = (i.counted q k).1 in
                  let l : length (take front.0 (entries_of (map whole b.opened) q)) ≡ length (entries_of (map whole b.opened) q) =
                  ap length (sym front.1 ∙ at) ∙ counts q h ∙ sym e ∙ sym n in
                  sym (take_all front.0 (entries_of (map whole b.opened) q) l) ∙ sym front.1 ∙ at
            ]
        | inr k ↦ closed_none (map whole b.opened) q k ∙ sym (closed_none (map seen b.opened) q (same_open b.opened q ∙ k)) ∙ at
      ]

  pub populations : (q : Place) → population (entries_of (map whole b.opened)) q ≡ population (λ z. entries_at z (walk s [] d)) q
  populations [] = refl
  populations (element ∷ p) = ap total (lookup_from p (populations p))
  populations (key ∷ p) = ap total (lookup_from p (populations p))
  populations (value ∷ p) = ap total (lookup_from p (populations p))
  populations (variant i ∷ p) = ap (count_of i) (lookup_from p (populations p))
  populations (field i ∷ p) = populations p

  pub whole_is : map whole b.opened ≡ columns (walk s [] d)
  whole_is =
      let each : (q : Place) → entries_of (map whole b.opened) q ≡ entries_of (map seen b.opened) q =
      λ q. lookup_from q (populations q) ∙ sym (seen_entries q) in
      all_seen b.opened (subst Distinct (sym i.seen_so_far) (distinct (walk s [] d))) each ∙ i.seen_so_far

-- Where the machine runs along the whole walk of a datum, the bytes are one piece for each column of the datum, and the rest.
pub sound : (s : ShapeTree) (d : Datum) (bytes : List ℕ) (b : State) → Runs Takes (start bytes) (walk s [] d) b → Spelled bytes (columns (walk s [] d)) b.rest
sound s d bytes b r =
    let i = tracks_run bytes (walk s [] d) [] (start bytes) b (tracks_start bytes) r in
    subst (λ cs. Spelled bytes cs b.rest) (whole_is s d bytes b i) i.spelled
