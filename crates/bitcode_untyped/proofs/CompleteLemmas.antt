-- The machine runs along the whole walk of a datum whose columns the bytes spell.
use Rattle.std.proofs.Common.{◌≡◌, ℕ, ◌+◌, inl, inr, List, [], ◌∷◌, ◌++◌, length, map, refl, ap, sym, ◌∙◌, subst, Bool, true, false, ◌||◌, slice_get, Some, append_assoc, length-append, arith}
use Rattle.std.proofs.lemmas.Bool.{cases_Bool, or_left, or_right}
use Rattle.std.proofs.lemmas.List.{append-nil, map-append}
use Rattle.std.specs.List.{AllByRecursion}
use Rattle.bitcode_shapes.specs.Datum.{Datum}
use Rattle.bitcode_coder.specs.Columns.{Kind}
use Rattle.bitcode_coder.specs.Spelling.{SpellsColumn}
use Rattle.bitcode_untyped.specs.Growing.{put}
use Rattle.bitcode_untyped.specs.Machine.{Opened, State, start, whole, is_open, entries_of, Grounded, TakesNext, Takes}
use Rattle.bitcode_untyped.specs.PlacedColumns.{same_place, entries_at, PlacedColumn, without, columns}
use Rattle.bitcode_untyped.specs.Population.{population}
use Rattle.bitcode_untyped.specs.Runs.{Runs}
use Rattle.bitcode_untyped.specs.ShapeTree.{ShapeTree}
use Rattle.bitcode_untyped.specs.Walk.{element, key, value, variant, field, Place, Use, walk}
use Rattle.bitcode_untyped.proofs.EachLemmas.{each_front, each_back}
use Rattle.bitcode_untyped.proofs.PlaceLemmas.{same_place-true, same_place-refl, entries_here, entries-append}
use Rattle.bitcode_untyped.proofs.GrowingLemmas.{same_place_sym, differ_sym, columns_snoc, columns_lookup}
use Rattle.bitcode_untyped.proofs.SoundLemmas.{Spelled, closed_none}
use Rattle.bitcode_untyped.proofs.FreshLemmas.{fresh, also, AllIn, fresh_first, GroundedBy, GroundedWalk, walk_grounded, grounded_at, population_by}
use Rattle.bitcode_untyped.proofs.KindLemmas.{HasKind, kinded, one_kind, kind_columns}
use Rattle.bitcode_untyped.proofs.NextColumnLemmas.{fresh_none, fresh_ext, each_open, count_at}

-- The column of a state, of which so much was taken, where all of it is known.
abbrev pub opening : (Place → List Datum) → PlacedColumn → Opened
opening M c = record { place = c.place; kind = c.kind; entries = M c.place; taken = length c.entries }

pub slice_get_behind : (xs ys : List Datum) (e : Datum) → slice_get (xs ++ e ∷ ys) (length xs) ≡ Some e
slice_get_behind [] ys e = refl
slice_get_behind (x ∷ xs) ys e = slice_get_behind xs ys e

pub opening_open : (M : Place → List Datum) (cs : List PlacedColumn) (q : Place) → is_open (map whole (map (opening M) cs)) q ≡ is_open cs q
opening_open M [] q = refl
opening_open M (c ∷ cs) q = ap (λ b. same_place q c.place || b) (opening_open M cs q)

pub opening_entries : (M : Place → List Datum) (cs : List PlacedColumn) (q : Place) → is_open cs q ≡ true → entries_of (map whole (map (opening M) cs)) q ≡ M q
opening_entries M [] q h = cc
opening_entries M (c ∷ cs) q h =
    elim (cases_Bool (same_place q c.place)) [ inl k ↦ rw k (ap M (sym (same_place-true q c.place k))) | inr k ↦ rw k (opening_entries M cs q (rw k at h)) ]

pub put_open : (u : Use) (cs : List PlacedColumn) (q : Place) → is_open (put u cs) q ≡ also u.place (is_open cs) q
put_open u [] q = elim (cases_Bool (same_place u.place q)) [ inl k ↦ rw (k, same_place_sym u.place q k) refl | inr k ↦ rw (k, differ_sym u.place q k) refl ]
put_open u (c ∷ cs) q =
    let ih = put_open u cs q in
    elim (cases_Bool (same_place u.place c.place)) [
      | inl k ↦
          let e : u.place ≡ c.place = same_place-true u.place c.place k in
          elim (cases_Bool (same_place u.place q)) [
            | inl m ↦ let n : same_place q c.place ≡ true = subst (λ z. same_place q z ≡ true) e (same_place_sym u.place q m) in rw (k, m, n) refl
            | inr m ↦ rw (k, m) refl
          ]
      | inr k ↦ elim (cases_Bool (same_place q c.place)) [
        | inl m ↦ elim (cases_Bool (same_place u.place q)) [ inl n ↦ rw (k, m, n) refl | inr n ↦ rw (k, m, n) refl ]
        | inr m ↦ rw (k, m) ih
      ]
    ]

pub put_last : (u : Use) (cs : List PlacedColumn) → is_open cs u.place ≡ false
    → put u cs ≡ cs ++ record { place = u.place; kind = u.kind; entries = u.entry ∷ [] } ∷ []
put_last u [] h = refl
put_last u (c ∷ cs) h =
    elim (cases_Bool (same_place u.place c.place)) [ inl k ↦ absurd (let m = rw k at h in cc) | inr k ↦ rw k (ap (λ (xs : List PlacedColumn). c ∷ xs) (put_last u cs (rw k at h))) ]

-- what each column has of the walk so far
pub put_each : (u : Use) (M : Place → List Datum) (cs : List PlacedColumn) → (K : Place → Kind → Type 0)
    → AllByRecursion (λ (c : PlacedColumn). K c.place c.kind) cs → ((p : Place) (k : Kind) → same_place u.place p ≡ true → K p k → u.kind ≡ k)
    → is_open cs u.place ≡ true
    → ((c : PlacedColumn) → same_place u.place c.place ≡ true → entries_of cs c.place ≡ c.entries → slice_get (M c.place) (length c.entries) ≡ Some u.entry)
    → TakesNext (map (opening M) cs) u (map (opening M) (put u cs))
put_each u M [] K all one h e = cc
put_each u M (c ∷ cs) K all one h e =
    elim (cases_Bool (same_place u.place c.place)) [
      | inl k ↦
          let l : length (c.entries ++ u.entry ∷ []) ≡ length c.entries + 1 = omega (arith, length-append c.entries (u.entry ∷ [])) in
          rw k (inl (refl, one c.place c.kind k all.0, e c k (rw (same_place-refl c.place) refl), rw l refl))
      | inr k ↦
          let e' : (c' : PlacedColumn) → same_place u.place c'.place ≡ true → entries_of cs c'.place ≡ c'.entries → slice_get (M c'.place) (length c'.entries) ≡ Some u.entry =
          λ c' m n.
          let d : same_place c'.place c.place ≡ false = subst (λ z. same_place z c.place ≡ false) (same_place-true u.place c'.place m) k in
          e c' m (rw d n) in
          rw k (inr (refl, map (opening M) (put u cs), refl, put_each u M cs K all.1 one (rw k at h) e'))
    ]

-- all places of a walk have a column
pub open_without_other : (p q : Place) (cs : List PlacedColumn) → same_place q p ≡ false → is_open cs q ≡ true → is_open (without p cs) q ≡ true
open_without_other p q [] d h = cc
open_without_other p q (c ∷ cs) d h =
    elim (cases_Bool (same_place q c.place)) [
      | inl k ↦
          let m : same_place p c.place ≡ false = subst (λ z. same_place p z ≡ false) (same_place-true q c.place k) (differ_sym q p d) in
          rw (m, k) refl
      | inr k ↦
          let t : is_open cs q ≡ true = rw k at h in
          elim (cases_Bool (same_place p c.place)) [ inl m ↦ rw m (open_without_other p q cs d t) | inr m ↦ rw (m, k) (open_without_other p q cs d t) ]
    ]

pub open_more : (v : Use) (w : List Use) (q : Place) → is_open (columns w) q ≡ true → is_open (columns (v ∷ w)) q ≡ true
open_more v w q h =
    elim (cases_Bool (same_place q v.place)) [ inl k ↦ or_left _ _ k | inr k ↦ or_right (same_place q v.place) _ (open_without_other v.place q (columns w) k h) ]

pub all_open : (w : List Use) → (z : Place → Bool) → ((q : Place) → is_open (columns w) q ≡ true → z q ≡ true) → AllIn z w
all_open [] z h = tt
all_open (v ∷ w) z h = (h v.place (or_left _ _ (same_place-refl v.place)), all_open w z (λ q k. h q (open_more v w q k)))

pub grounded_from : (M : Place → List Datum) (cs : List PlacedColumn) (q : Place) → GroundedBy (is_open cs) q → Grounded (map whole (map (opening M) cs)) q
grounded_from M cs [] g = tt
grounded_from M cs (element ∷ p) g = opening_open M cs p ∙ g
grounded_from M cs (key ∷ p) g = opening_open M cs p ∙ g
grounded_from M cs (value ∷ p) g = opening_open M cs p ∙ g
grounded_from M cs (variant i ∷ p) g = opening_open M cs p ∙ g
grounded_from M cs (field i ∷ p) g = grounded_from M cs p g

module _ (s : ShapeTree) (d : Datum) (last : List ℕ) where
  abbrev pub full : Place → List Datum
  full q = entries_at q (walk s [] d)

  abbrev pub state : List Use → List ℕ → State
  state w now = record { opened = map (opening full) (columns w); rest = now }

  pub step_open : (w t : List Use) (u : Use) (now : List ℕ) → walk s [] d ≡ w ++ u ∷ t → is_open (columns w) u.place ≡ true
      → Takes (state w now) u (state (w ++ u ∷ []) now)
  step_open w t u now e h =
      let kinded_walk = subst (λ x. AllByRecursion (λ (v : Use). HasKind s [] v.place v.kind) x) e (kinded s [] d) in
      let kinds = kind_columns (HasKind s []) w (each_front (λ (v : Use). HasKind s [] v.place v.kind) w (u ∷ t) kinded_walk) in
      let mine = (each_back (λ (v : Use). HasKind s [] v.place v.kind) w (u ∷ t) kinded_walk).0 in
      let one : (p : Place) (k : Kind) → same_place u.place p ≡ true → HasKind s [] p k → u.kind ≡ k =
      λ p k m has. one_kind s [] p u.kind k (subst (λ q. HasKind s [] q u.kind) (same_place-true u.place p m) mine) has in
      let at : (c : PlacedColumn) → same_place u.place c.place ≡ true → entries_of (columns w) c.place ≡ c.entries → slice_get (full c.place) (length c.entries) ≡ Some u.entry =
      λ c k m.
      let p : u.place ≡ c.place = same_place-true u.place c.place k in
      let es : full c.place ≡ entries_at c.place w ++ u.entry ∷ entries_at c.place t =
      ap (λ x. entries_at c.place x) e ∙ entries-append c.place w (u ∷ t)
      ∙ ap (λ x. entries_at c.place w ++ x) (subst (λ z. entries_at z (u ∷ t) ≡ u.entry ∷ entries_at z t) p (entries_here u.place u.kind u.entry t)) in
      let l : c.entries ≡ entries_at c.place w = sym m ∙ columns_lookup w c.place in
      rw (es, l) (slice_get_behind (entries_at c.place w) (entries_at c.place t) u.entry) in
      inl (subst (λ cs. TakesNext (map (opening full) (columns w)) u (map (opening full) cs)) (sym (columns_snoc w u)) (put_each u full (columns w) (HasKind s []) kinds one h at), refl)

  pub step_new : (w t : List Use) (u : Use) (now : List ℕ) → walk s [] d ≡ w ++ u ∷ t → is_open (columns w) u.place ≡ false
      → Spelled now (fresh (is_open (columns w)) (columns (walk s [] d))) last
      → (after : List ℕ) × Takes (state w now) u (state (w ++ u ∷ []) after) × Spelled after (fresh (also u.place (is_open (columns w))) (columns (walk s [] d))) last
  step_new w t u now e h spelled =
      let z : Place → Bool = is_open (columns w) in
      let known : AllIn z w = all_open w z (λ q k. k) in
      let first = ap (λ x. fresh z (columns x)) e ∙ fresh_first z w u t known h in
      let sp = subst (λ cs. Spelled now cs last) first spelled in
      let nothing : entries_at u.place w ≡ [] = sym (columns_lookup w u.place) ∙ closed_none (columns w) u.place h in
      let there : entries_at u.place (w ++ u ∷ t) ≡ u.entry ∷ entries_at u.place t =
      entries-append u.place w (u ∷ t) ∙ rw nothing (entries_here u.place u.kind u.entry t) in
      let fulls : full u.place ≡ u.entry ∷ entries_at u.place t = ap (λ x. entries_at u.place x) e ∙ there in
      let by : GroundedBy z u.place =
      grounded_at (λ q. false) z w u t (λ q k. absurd (let m : false ≡ true = k in cc)) known (subst (GroundedWalk (λ q. false)) e (walk_grounded s [] d (λ q. false) tt)) in
      let ws : List PlacedColumn = map whole (map (opening full) (columns w)) in
      let pop : population full u.place ≡ population (entries_of ws) u.place =
      population_by z full (entries_of ws) (λ q k. sym (opening_entries full (columns w) q k)) u.place by in
      let n : length (u.entry ∷ entries_at u.place t) ≡ population (entries_of ws) u.place =
      ap length (sym fulls) ∙ count_at s d w u.place u.kind u.entry t e ∙ pop in
      let piece = subst (λ x. SpellsColumn u.kind sp.0 x) there sp.3 in
      let new : Opened = record { place = u.place; kind = u.kind; entries = u.entry ∷ entries_at u.place t; taken = 1 } in
      let grown : map (opening full) (columns (w ++ u ∷ [])) ≡ map (opening full) (columns w) ++ new ∷ [] =
      ap (map (opening full)) (columns_snoc w u ∙ put_last u (columns w) h) ∙ map-append (opening full) (columns w) _
      ∙ ap (λ (es : List Datum). let o : Opened = record { place = u.place; kind = u.kind; entries = es; taken = 1 } in map (opening full) (columns w) ++ o ∷ []) fulls in
      let rest_is = ap (λ x. fresh (also u.place z) (columns x)) (sym e) in (
        sp.1,
        inr (opening_open full (columns w) u.place ∙ h, grounded_from full (columns w) u.place by, entries_at u.place t, sp.0, n, sp.2, piece, grown),
        subst (λ cs. Spelled sp.1 cs last) rest_is sp.4,
      )

  pub run_on : (t w : List Use) (now : List ℕ) → walk s [] d ≡ w ++ t → Spelled now (fresh (is_open (columns w)) (columns (walk s [] d))) last
      → Runs Takes (state w now) t (state (walk s [] d) last)
  run_on [] w now e spelled =
      let w_is : walk s [] d ≡ w = e ∙ append-nil w in
      let none_left : fresh (is_open (columns w)) (columns (walk s [] d)) ≡ [] =
      subst (λ x. fresh (is_open (columns x)) (columns (walk s [] d)) ≡ []) w_is (fresh_none (is_open (columns (walk s [] d))) (columns (walk s [] d)) (each_open (columns (walk s [] d)))) in
      let now_is : now ≡ last = subst (λ cs. Spelled now cs last) none_left spelled in
      rw (now_is, w_is) refl
  run_on (u ∷ t) w now e spelled =
      let e' : walk s [] d ≡ (w ++ u ∷ []) ++ t = e ∙ sym (append_assoc w (u ∷ []) t) in
      let opens : (q : Place) → is_open (columns (w ++ u ∷ [])) q ≡ also u.place (is_open (columns w)) q =
      λ q. ap (λ cs. is_open cs q) (columns_snoc w u) ∙ put_open u (columns w) q in
      let to_next = fresh_ext (is_open (columns (w ++ u ∷ []))) (also u.place (is_open (columns w))) (columns (walk s [] d)) opens in
      elim (cases_Bool (is_open (columns w) u.place)) [
        | inl h ↦
            let same : (q : Place) → is_open (columns w) q ≡ also u.place (is_open (columns w)) q = λ q. elim (cases_Bool (same_place u.place q)) [
              | inl k ↦ let m : is_open (columns w) q ≡ true = subst (λ z. is_open (columns w) z ≡ true) (same_place-true u.place q k) h in rw (k, m) refl
              | inr k ↦ rw k refl
            ] in
            let fs = fresh_ext (is_open (columns w)) (also u.place (is_open (columns w))) (columns (walk s [] d)) same ∙ sym to_next in
            (state (w ++ u ∷ []) now, step_open w t u now e h, run_on t (w ++ u ∷ []) now e' (subst (λ cs. Spelled now cs last) fs spelled))
        | inr h ↦
            let n = step_new w t u now e h spelled in
            (state (w ++ u ∷ []) n.0, n.1, run_on t (w ++ u ∷ []) n.0 e' (subst (λ cs. Spelled n.0 cs last) (sym to_next) n.2))
      ]

pub all_fresh : (cs : List PlacedColumn) → fresh (is_open []) cs ≡ cs
all_fresh [] = refl
all_fresh (c ∷ cs) = ap (λ (xs : List PlacedColumn). c ∷ xs) (all_fresh cs)

-- Where the bytes are one piece for each column of a datum, and then a rest, the machine runs along the datum's whole walk and stands at the rest.
pub complete : (s : ShapeTree) (d : Datum) (bytes last : List ℕ) → Spelled bytes (columns (walk s [] d)) last
    → (b : State) × Runs Takes (start bytes) (walk s [] d) b × (b.rest ≡ last)
complete s d bytes last spelled =
    let all : fresh (is_open []) (columns (walk s [] d)) ≡ columns (walk s [] d) = all_fresh (columns (walk s [] d)) in
    (_, run_on s d last (walk s [] d) [] bytes refl (subst (λ cs. Spelled bytes cs last) (sym all) spelled), refl)
