-- Several entries of a column are taken at once.
use Rattle.std.proofs.Common.{◌≡◌, ◌≢◌, ℕ, zero, suc, ◌<◌, ◌≤◌, inl, inr, List, [], ◌∷◌, ◌++◌, length, map, drop, get_or, All, true, false, refl, ap, sym, subst, ◌∙◌, ◌-◌, arith, length-append}
use Rattle.std.specs.List.{AllByRecursion}
use Rattle.std.proofs.lemmas.List.{append-nil, length-map}
use Rattle.std.proofs.Math.ListN.{set}
use Rattle.bitcode_shapes.specs.Datum.{Datum}
use Rattle.bitcode_coder.specs.Columns.{Kind, IsEntryOf}
use Rattle.bitcode_untyped.specs.Machine.{Opened, State, whole, next, is_open, TakesNext, Takes}
use Rattle.bitcode_untyped.specs.PlacedColumns.{same_place}
use Rattle.bitcode_untyped.specs.Runs.{Runs}
use Rattle.bitcode_untyped.specs.Walk.{Place, Use, use_at}
use Rattle.bitcode_untyped.proofs.OnceLemmas.{takes_one}
use Rattle.bitcode_serde.specs.Places.{place_at, places, AreApart}
use Rattle.bitcode_serde.specs.ReadColumns.{kind_of_column, left, Tallies}
use Rattle.bitcode_serde.specs.Reading.{counts, Backs, Back, HostAll, Stands, IsReady, Prepares, NothingAt, LeadsEach, NotSoMany}
use Rattle.bitcode_serde.specs.declared.reader.OpenColumn.{OpenColumn}
use Rattle.bitcode_serde.specs.declared.reader.Reader.{Reader}
use Rattle.bitcode_serde.proofs.PlaceLemmas.{inside_places}
use Rattle.bitcode_serde.proofs.ReadingLemmas.{told_alike, none_left, all_got, behind, elsewhere, here, open_at, first_ready}

-- ---- one column after another entry of it

abbrev taken_on : Opened → List Datum → Opened
taken_on o [] = o
taken_on o (d ∷ ds) = taken_on (next o) ds

on_place : (o : Opened) (ds : List Datum) → (taken_on o ds).place ≡ o.place
on_place o [] = refl
on_place o (d ∷ ds) = on_place (next o) ds

on_kind : (o : Opened) (ds : List Datum) → (taken_on o ds).kind ≡ o.kind
on_kind o [] = refl
on_kind o (d ∷ ds) = on_kind (next o) ds

on_entries : (o : Opened) (ds : List Datum) → (taken_on o ds).entries ≡ o.entries
on_entries o [] = refl
on_entries o (d ∷ ds) = on_entries (next o) ds

on_whole : (o : Opened) (ds : List Datum) → whole (taken_on o ds) ≡ whole o
on_whole o [] = refl
on_whole o (d ∷ ds) = on_whole (next o) ds

on_left : (o : Opened) (ds rest : List Datum) → drop o.taken o.entries ≡ ds ++ rest → drop (taken_on o ds).taken (taken_on o ds).entries ≡ rest
on_left o [] rest e = e
on_left o (d ∷ ds) rest e = on_left (next o) ds rest (behind o.entries o.taken d (ds ++ rest) e).1

on_are : (o : Opened) (ds rest : List Datum) → drop o.taken o.entries ≡ ds ++ rest → All (IsEntryOf o.kind) o.entries → AllByRecursion (IsEntryOf o.kind) ds
on_are o [] rest e are = tt
on_are o (d ∷ ds) rest e are =
    let g = behind o.entries o.taken d (ds ++ rest) e in
    (all_got (IsEntryOf o.kind) o.entries o.taken d are g.0, on_are (next o) ds rest g.1 are)

on_runs : (p : Place) (kind : Kind) (o : Opened) (os : List Opened) (ds rest : List Datum) → same_place p o.place ≡ true → kind ≡ o.kind
    → drop o.taken o.entries ≡ ds ++ rest → Runs TakesNext (o ∷ os) (map (use_at p kind) ds) (taken_on o ds ∷ os)
on_runs p kind o os [] rest there same e = refl
on_runs p kind o os (d ∷ ds) rest there same e =
    let g = behind o.entries o.taken d (ds ++ rest) e in
    (next o ∷ os, inl (there, same, g.0, refl), on_runs p kind (next o) os ds rest there same g.1)

behind_runs : (p : Place) (kind : Kind) (o : Opened) (os more : List Opened) (ds : List Datum) → same_place p o.place ≡ false
    → Runs TakesNext os (map (use_at p kind) ds) more → Runs TakesNext (o ∷ os) (map (use_at p kind) ds) (o ∷ more)
behind_runs p kind o os more [] away r = ap (λ (xs : List Opened). o ∷ xs) r
behind_runs p kind o os more (d ∷ ds) away r = (o ∷ r.0, inr (away, r.0, refl, r.1), behind_runs p kind o r.0 more ds away r.2)

-- what taking entries does to an open column
pub record TakesEach (c : OpenColumn) (ds : List Datum) (after : OpenColumn) : Type 0 where
  pub place : after.place ≡ c.place
  pub kind : kind_of_column after.column ≡ kind_of_column c.column
  pub size : after.left ≡ length (left after.column)
  pub taken : left c.column ≡ ds ++ left after.column
  pub tallies : (entries : List Datum) → Tallies c.column entries → Tallies after.column entries

module _ (ps : List Place) (apart : AreApart ps) (n : ℕ) (inside : n < length ps) where
  backs_each : (c after : OpenColumn) (o : Opened) (ds : List Datum) → Backs ps c o → TakesEach c ds after → Backs ps after (taken_on o ds)
  backs_each c after o ds b t = record {
    inside = subst (λ i. i < length ps) (sym t.place) b.inside;
    place = on_place o ds ∙ b.place ∙ ap (place_at ps) (sym t.place);
    kind = on_kind o ds ∙ b.kind ∙ sym t.kind;
    size = t.size;
    entries = sym (on_left o ds (left after.column) (sym b.entries ∙ t.taken));
    tallies = t.tallies _ (subst (Tallies c.column) (sym (on_entries o ds)) b.tallies);
    are = subst (λ k. All (IsEntryOf k) (taken_on o ds).entries) (sym (on_kind o ds)) (subst (All (IsEntryOf o.kind)) (sym (on_entries o ds)) b.are);
  }

  -- where the column stands, its entries were taken one after another
  pub record EachAt (cs : List OpenColumn) (os : List Opened) (i : ℕ) (kind : Kind) (c : OpenColumn) (ds rest : List Datum) : Type 0 where
    pub more : List Opened
    pub runs : Runs TakesNext os (map (use_at (place_at ps n) kind) ds) more
    pub back : (after : OpenColumn) → TakesEach c ds after → Back ps (set cs i after) more
    pub are : AllByRecursion (IsEntryOf kind) ds
    pub same : map whole more ≡ map whole os
    pub none : rest ≡ [] → (d : Datum) (bs : List Opened) → TakesNext more (use_at (place_at ps n) kind d) bs → ⊥

  pub each_at : (cs : List OpenColumn) (os : List Opened) (i : ℕ) (kind : Kind) (c : OpenColumn) (ds rest : List Datum) → Back ps cs os → IsReady cs n kind i
      → c ≡ get_or cs i c → left c.column ≡ ds ++ rest → EachAt cs os i kind c ds rest
  each_at [] os i kind c ds rest b ready is e = absurd ready
  each_at (x ∷ cs) [] i kind c ds rest b ready is e = absurd b
  each_at (x ∷ cs) (o ∷ os) zero kind c ds rest b ready is e =
      let there = here ps apart n inside x o b.0 ready.0 in
      let same : kind ≡ o.kind = sym ready.1 ∙ sym b.0.kind in
      let l : drop o.taken o.entries ≡ ds ++ rest = sym b.0.entries ∙ ap (λ z. left z.column) (sym is) ∙ e in
      record {
        more = taken_on o ds ∷ os;
        runs = on_runs (place_at ps n) kind o os ds rest there same l;
        back = λ after t. (backs_each x after o ds b.0 (subst (λ z. TakesEach z ds after) is t), b.1);
        are = subst (λ k. AllByRecursion (IsEntryOf k) ds) (sym same) (on_are o ds rest l b.0.are);
        same = ap (λ z. z ∷ map whole os) (on_whole o ds);
        none = λ empty d bs t. elim t [
          | inl k ↦ none_left (taken_on o ds).entries (taken_on o ds).taken d (ap length (on_left o ds rest l ∙ empty)) k.2
          | inr k ↦ let bad : true ≡ false = sym there ∙ ap (same_place (place_at ps n)) (sym (on_place o ds)) ∙ k.0 in cc
        ];
      }
  each_at (x ∷ cs) (o ∷ os) (suc i) kind c ds rest b ready is e =
      let r = each_at cs os i kind c ds rest b.1 ready.1 is e in
      let away = elsewhere ps apart n inside x o b.0 ready.0 in
      record {
        more = o ∷ r.more;
        runs = behind_runs (place_at ps n) kind o os r.more ds away r.runs;
        back = λ after t. (b.0, r.back after t);
        are = r.are;
        same = ap (λ z. whole o ∷ z) r.same;
        none = λ empty d bs t. elim t [
          | inl k ↦ let bad : true ≡ false = sym k.0 ∙ away in cc
          | inr k ↦ r.none empty d k.1 k.3
        ];
      }

-- ---- the machine

lifted : (os more : List Opened) (rest : List ℕ) (us : List Use) → Runs TakesNext os us more
    → Runs Takes (record { opened = os; rest = rest }) us (record { opened = more; rest = rest })
lifted os more rest [] r = ap (λ (xs : List Opened). let s : State = record { opened = xs; rest = rest } in s) r
lifted os more rest (u ∷ us) r = (record { opened = r.0; rest = rest }, inl (r.1, refl), lifted r.0 more rest us r.2)

from_prepared : (a m : State) (p : Place) (kind : Kind) (d : Datum) (ds : List Datum) (more : List Opened) → Prepares a p kind m
    → Runs TakesNext m.opened (map (use_at p kind) (d ∷ ds)) more → Runs Takes a (map (use_at p kind) (d ∷ ds)) (record { opened = more; rest = m.rest })
from_prepared a m p kind d ds more prepares r =
    let b : State = record { opened = r.0; rest = m.rest } in
    (b, prepares d b r.1 refl, lifted r.0 more m.rest (map (use_at p kind) ds) r.2)

-- no more entries are taken than up to where none is left
too_many : (p : Place) (kind : Kind) (ds es : List Datum) (a b c : State) → Runs Takes a (map (use_at p kind) ds) b → NothingAt b p kind
    → Runs Takes a (map (use_at p kind) es) c → length es ≤ length ds
too_many p kind ds [] a b c r none q = omega arith
too_many p kind [] (e ∷ es) a b c r none q = absurd (none e q.0 (subst (λ z. Takes z (use_at p kind e) q.0) r q.1))
too_many p kind (d ∷ ds) (e ∷ es) a b c r none q =
    let h = takes_one a r.0 q.0 p kind d e r.1 q.1 in
    let k = too_many p kind ds es r.0 b c r.2 none (subst (λ z. Runs Takes z (map (use_at p kind) es) c) (sym h.1) q.2) in
    omega (arith, k)

-- where no entry can be taken, some can't be
pub none_of_many : (a : State) (p : Place) (kind : Kind) (count : ℕ) → count ≢ 0 → NothingAt a p kind → NotSoMany a p kind count
none_of_many a p kind count some none [] b size r = absurd (some (sym size))
none_of_many a p kind count some none (d ∷ ds) b size r = none d r.0 r.1

-- ---- the reader

module _ (old ready : Reader) (n i : ℕ) (kind : Kind) (c : OpenColumn) (within : n ≤ length old.places.below.items)
    (below_ready : ready.places.below ≡ old.places.below) (is_ready : IsReady ready.columns.items n kind i) (is : c ≡ get_or ready.columns.items i c)
    (prepares : (a : State) → Stands old a → (m : State) × Stands ready m × Prepares a (place_at (places old.places.below.items) n) kind m) where
  abbrev ps : List Place
  ps = places old.places.below.items

  ready_back : (m : State) → Stands ready m → Back ps ready.columns.items m.opened
  ready_back m s = subst (λ qs. Back qs ready.columns.items m.opened) (ap (λ z. places z.items) below_ready) s.backs

  pub led_each : (new : Reader) (after : OpenColumn) (ds : List Datum) → new.places.below ≡ old.places.below → new.counts ≡ ready.counts
      → new.input.now ≡ ready.input.now → new.verdict ≡ ready.verdict → new.columns.items ≡ set ready.columns.items i after → TakesEach c ds after → length ds ≢ 0
      → LeadsEach old (place_at ps n) kind ds new
  led_each new after [] below counted input verdict columns t some a s = absurd (some refl)
  led_each new after (d ∷ ds) below counted input verdict columns t some a s =
      let m = prepares a s in
      let r = each_at ps old.places.apart n (inside_places old.places.below.items n within) ready.columns.items m.0.opened i kind c (d ∷ ds) (left after.column)
      (ready_back m.0 m.1) is_ready is t.taken in
      let hosts = subst (λ z. HostAll (map whole m.0.opened) (places z.items) (counts ready)) below_ready m.1.hosts in (
        record { opened = r.more; rest = m.0.rest },
        from_prepared a m.0 (place_at ps n) kind d ds r.more m.2 r.runs,
        record {
          backs = subst (λ z. Back (places z.items) new.columns.items r.more) (sym below) (subst (λ cs. Back ps cs r.more) (sym columns) (r.back after t));
          hosts = subst (λ z. HostAll (map whole r.more) (places z.items) (counts new)) (sym below)
              (subst (λ z. HostAll (map whole r.more) ps (1 ∷ z.items)) (sym counted) (subst (λ ws. HostAll ws ps (counts ready)) (sym r.same) hosts));
          input = m.1.input ∙ sym input;
          told = told_alike ready.verdict new.verdict (map whole m.0.opened) (map whole r.more) ready.input.now new.input.now verdict (sym r.same) (sym input) m.1.told;
        },
        r.are,
      )

  -- more than are left can't be taken
  stuck_behind : (ds : List Datum) → left c.column ≡ ds → length ds ≢ 0 → (count : ℕ) → length ds < count → (a : State) → Stands old a
      → NotSoMany a (place_at ps n) kind count
  stuck_behind [] e some count over a s es z size q = absurd (some refl)
  stuck_behind (d ∷ ds) e some count over a s es z size q =
      let m = prepares a s in
      let inside = inside_places old.places.below.items n within in
      let b = ready_back m.0 m.1 in
      let r = each_at ps old.places.apart n inside ready.columns.items m.0.opened i kind c (d ∷ ds) [] b is_ready is (e ∙ sym (append-nil (d ∷ ds))) in
      let is_open_there = open_at ps old.places.apart n inside ready.columns.items m.0.opened i b (first_ready ready.columns.items n i kind is_ready) in
      let end : State = record { opened = r.more; rest = m.0.rest } in
      let none : NothingAt end (place_at ps n) kind = λ x y t. elim t [
        | inl k ↦ r.none refl x y.opened k.0
        | inr k ↦ let bad : true ≡ false = sym is_open_there ∙ ap (λ ws. is_open ws (place_at ps n)) (sym r.same) ∙ k.0 in cc
      ] in
      let most = too_many (place_at ps n) kind (d ∷ ds) es a end z (from_prepared a m.0 (place_at ps n) kind d ds r.more m.2 r.runs) none q in
      omega (arith, most, size, over)

  pub stuck_each : (count : ℕ) → c.left ≡ length (left c.column) → 0 < c.left → c.left < count → (a : State) → Stands old a → NotSoMany a (place_at ps n) kind count
  stuck_each count size some over =
      stuck_behind (left c.column) refl (λ e. omega (arith, e, size, some)) count (omega (arith, size, over))

-- ---- how many entries are left

pub left_behind : {A : Type 0} (datum : A → Datum) (size count : ℕ) (taken : List A) (all rest : List Datum) → size ≡ length all → length taken ≡ count
    → all ≡ map datum taken ++ rest
    → size - count ≡ length rest
left_behind datum size count taken all rest e f g =
    let l = ap length g in
    let m = length-append (map datum taken) rest in
    let n = length-map taken datum in
    omega (arith, e, f, l, m, n)

pub same_entry : (cs : List OpenColumn) (i : ℕ) (c d : OpenColumn) → i < length cs → c ≡ get_or cs i c → d ≡ get_or cs i d → c ≡ d
same_entry [] i c d h e f = absurd (omega (arith, h))
same_entry (x ∷ cs) zero c d h e f = e ∙ sym f
same_entry (x ∷ cs) (suc i) c d h e f = same_entry cs i c d (omega (arith, h)) e f
