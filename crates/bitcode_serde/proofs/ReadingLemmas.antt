-- The reader goes along with the machine.
use Rattle.std.proofs.Common.{◌≡◌, ◌≢◌, ℕ, zero, suc, ◌+◌, ◌-◌, ◌<◌, ◌≤◌, ◌⊎◌, inl, inr, List, [], ◌∷◌, ◌++◌, length, map, take, drop, get_or, All, refl, ap, sym, subst, ◌∙◌, Bool, true, false, ◌&&◌, IsTrue, Some, slice_get, arith, add-one, length-append}
use Rattle.std.specs.Prelude.{IsSomeAnd}
use Rattle.std.proofs.lemmas.Bool.{or_left, or_right}
use Rattle.std.proofs.lemmas.List.{map-append}
use Rattle.std.proofs.lemmas.Option.{get_or_from_slice_get, slice_get_within}
use Rattle.std.proofs.Math.ListN.{set}
use Rattle.bitcode_memory.specs.declared.error.Reason.{Reason}
use Rattle.bitcode_memory.specs.declared.error.Reason.TheVariants.{OutOfMemory}
use Rattle.bitcode_shapes.specs.Datum.{Datum}
use Rattle.bitcode_coder.specs.Columns.{Kind, Column, IsEntryOf}
use Rattle.bitcode_coder.specs.Spelling.{SpellsColumn}
use Rattle.bitcode_coder.specs.Strict.{JudgesColumn}
use Rattle.bitcode_untyped.specs.Machine.{Opened, State, start, whole, next, is_open, entries_of, TakesNext}
use Rattle.bitcode_untyped.specs.PlacedColumns.{PlacedColumn, same_place, column_at, unplaced}
use Rattle.bitcode_untyped.specs.Population.{population}
use Rattle.bitcode_untyped.specs.Strict.{JudgesEach}
use Rattle.bitcode_untyped.specs.Walk.{Place, Use, use_at}
use Rattle.bitcode_untyped.proofs.StrictLemmas.{judges_more}
use Rattle.bitcode_untyped.proofs.PlaceLemmas.{same_place-refl, same_place-false}
use Rattle.bitcode_untyped.proofs.SoundLemmas.{grounded_append, population_append, takes_whole}
use Rattle.bitcode_serde.specs.ReadColumns.{kind_of_column, left, Tallies, ReadsColumn, IsColumnReason, IsColumnRefusal}
use Rattle.bitcode_serde.specs.Reading.{counts, AreSized, Backs, Back, Hosts, HostAll, Told, Stands, IsReady, Prepares, NothingAt, Leads, LeadsTelling}
use Rattle.bitcode_serde.specs.Places.{places, place_at, AreApart}
use Rattle.bitcode_serde.specs.declared.reader.OpenColumn.{OpenColumn}
use Rattle.bitcode_serde.specs.declared.reader.Reader.{Reader}
use Rattle.bitcode_serde.specs.declared.reader.Verdict.{Verdict}
use Rattle.bitcode_serde.proofs.PlaceLemmas.{inside_places}

-- ---- the first column of a place

abbrev pub IsFirstAt : List OpenColumn → ℕ → ℕ → Type 0
IsFirstAt [] n i = ⊥
IsFirstAt (c ∷ cs) n zero = c.place ≡ n
IsFirstAt (c ∷ cs) n (suc i) = (c.place ≢ n) × IsFirstAt cs n i

pub first_at : (cs : List OpenColumn) (n i : ℕ) → All (λ c. c.place ≢ n) (take i cs) → IsSomeAnd (slice_get cs i) (λ c. c.place ≡ n) → IsFirstAt cs n i
first_at [] n i away here = absurd here
first_at (c ∷ cs) n zero away here = here
first_at (c ∷ cs) n (suc i) away here =
    (away 0 c (omega arith), first_at cs n i (λ k d h. away (suc k) d (omega arith)) here)

pub ready_at : (cs : List OpenColumn) (n i : ℕ) (kind : Kind) (c : OpenColumn) → IsFirstAt cs n i → c ≡ get_or cs i c → kind_of_column c.column ≡ kind
    → 0 < c.left → IsReady cs n kind i
ready_at [] n i kind c first is same some = absurd first
ready_at (b ∷ cs) n zero kind c first is same some =
    let e : c ≡ b = is in (first, subst (λ x. kind_of_column x.column ≡ kind) e same, subst (λ x. 0 < x.left) e some)
ready_at (b ∷ cs) n (suc i) kind c first is same some = (first.0, ready_at cs n i kind c first.1 is same some)

pub ready_last : (cs : List OpenColumn) (n : ℕ) (kind : Kind) (c : OpenColumn) → All (λ b. b.place ≢ n) cs → c.place ≡ n → kind_of_column c.column ≡ kind
    → 0 < c.left → IsReady (cs ++ c ∷ []) n kind (length cs)
ready_last [] n kind c away here same some = (here, same, some)
ready_last (b ∷ cs) n kind c away here same some =
    (away 0 b (omega arith), ready_last cs n kind c (λ k d h. away (suc k) d (omega arith)) here same some)

-- ---- the machine's columns

pub next_open : (os : List Opened) (u : Use) (bs : List Opened) → TakesNext os u bs → is_open (map whole os) u.place ≡ true
next_open [] u bs x = absurd x
next_open (o ∷ os) u bs (inl x) = or_left _ _ x.0
next_open (o ∷ os) u bs (inr x) = or_right (same_place u.place o.place) _ (next_open os u x.1 x.3)

-- what taking an entry does to an open column
pub record TakesEntry (c : OpenColumn) (d : Datum) (after : OpenColumn) : Type 0 where
  pub place : after.place ≡ c.place
  pub kind : kind_of_column after.column ≡ kind_of_column c.column
  pub size : c.left ≡ suc after.left
  pub taken : left c.column ≡ d ∷ left after.column
  pub tallies : (entries : List Datum) → Tallies c.column entries → Tallies after.column entries

pub none_left : (xs : List Datum) (k : ℕ) (d : Datum) → length (drop k xs) ≡ 0 → slice_get xs k ≡ Some d → ⊥
none_left [] k d e h = cc
none_left (x ∷ xs) zero d e h = let m : suc (length xs) ≡ 0 = e in omega (arith, m)
none_left (x ∷ xs) (suc k) d e h = none_left xs k d e h

pub all_got : (P : Datum → Type 0) (xs : List Datum) (k : ℕ) (d : Datum) → All P xs → slice_get xs k ≡ Some d → P d
all_got P xs k d all h = subst P (get_or_from_slice_get xs k d d h) (all k d (slice_get_within xs k d h))

-- the entry behind those that were taken
pub behind : (xs : List Datum) (k : ℕ) (d : Datum) (ys : List Datum) → drop k xs ≡ d ∷ ys → (slice_get xs k ≡ Some d) × (drop (k + 1) xs ≡ ys)
behind [] zero d ys e = cc
behind [] (suc k) d ys e = cc
behind (x ∷ xs) zero d ys e = let h : x ≡ d = cc in let t : xs ≡ ys = cc in (ap (λ z. Some z) h, t)
behind (x ∷ xs) (suc k) d ys e = let r = behind xs k d ys e in (r.0, rw add-one (subst (λ j. drop j xs ≡ ys) (add-one k) r.1))

module _ (ps : List Place) (apart : AreApart ps) (n : ℕ) (inside : n < length ps) where
  pub elsewhere : (c : OpenColumn) (o : Opened) → Backs ps c o → c.place ≢ n → same_place (place_at ps n) o.place ≡ false
  elsewhere c o b away =
      same_place-false (place_at ps n) o.place (λ e. away (sym (apart n c.place inside b.inside (e ∙ b.place))))

  pub here : (c : OpenColumn) (o : Opened) → Backs ps c o → c.place ≡ n → same_place (place_at ps n) o.place ≡ true
  here c o b e =
      let p : o.place ≡ place_at ps n = b.place ∙ ap (place_at ps) e in
      subst (λ q. same_place (place_at ps n) q ≡ true) (sym p) (same_place-refl (place_at ps n))

  pub closed : (cs : List OpenColumn) (os : List Opened) → Back ps cs os → All (λ c. c.place ≢ n) cs → is_open (map whole os) (place_at ps n) ≡ false
  closed [] [] b away = refl
  closed [] (o ∷ os) b away = absurd b
  closed (c ∷ cs) [] b away = absurd b
  closed (c ∷ cs) (o ∷ os) b away =
      rw (elsewhere c o b.0 (away 0 c (omega arith))) (closed cs os b.1 (λ k d h. away (suc k) d (omega arith)))

  pub open_at : (cs : List OpenColumn) (os : List Opened) (i : ℕ) → Back ps cs os → IsFirstAt cs n i → is_open (map whole os) (place_at ps n) ≡ true
  open_at [] os i b first = absurd first
  open_at (c ∷ cs) [] i b first = absurd b
  open_at (c ∷ cs) (o ∷ os) zero b first = or_left _ _ (here c o b.0 first)
  open_at (c ∷ cs) (o ∷ os) (suc i) b first = or_right (same_place (place_at ps n) o.place) _ (open_at cs os i b.1 first.1)

  -- an entry is left only where one was not taken
  pub stuck_next : (cs : List OpenColumn) (os : List Opened) (i : ℕ) (kind : Kind) (c : OpenColumn) → Back ps cs os → IsFirstAt cs n i → c ≡ get_or cs i c
      → (kind_of_column c.column ≢ kind) ⊎ (c.left ≡ 0) → (d : Datum) (more : List Opened) → TakesNext os (use_at (place_at ps n) kind d) more → ⊥
  stuck_next [] os i kind c b first is why d more t = first
  stuck_next (x ∷ cs) [] i kind c b first is why d more t = b
  stuck_next (x ∷ cs) (o ∷ os) zero kind c b first is (inl other) d more (inl t) =
      other (ap (λ z. kind_of_column z.column) is ∙ sym b.0.kind ∙ sym t.1)
  stuck_next (x ∷ cs) (o ∷ os) zero kind c b first is (inr none) d more (inl t) =
      none_left o.entries o.taken d (ap length (sym b.0.entries) ∙ sym b.0.size ∙ sym (ap (λ z. z.left) is) ∙ none) t.2
  stuck_next (x ∷ cs) (o ∷ os) zero kind c b first is why d more (inr t) = let h : true ≡ false = sym (here x o b.0 first) ∙ t.0 in cc
  stuck_next (x ∷ cs) (o ∷ os) (suc i) kind c b first is why d more (inl t) = let h : true ≡ false = sym t.0 ∙ elsewhere x o b.0 first.0 in cc
  stuck_next (x ∷ cs) (o ∷ os) (suc i) kind c b first is why d more (inr t) = stuck_next cs os i kind c b.1 first.1 is why d t.1 t.3

  -- ---- an entry is taken

  taken_back : (c after : OpenColumn) (o : Opened) (d : Datum) → Backs ps c o → TakesEntry c d after → Backs ps after (next o) × (slice_get o.entries o.taken ≡ Some d) × IsEntryOf o.kind d
  taken_back c after o d b t =
      let e : drop o.taken o.entries ≡ d ∷ left after.column = sym b.entries ∙ t.taken in
      let g = behind o.entries o.taken d (left after.column) e in
      let s : suc after.left ≡ suc (length (left after.column)) = sym t.size ∙ b.size ∙ ap length t.taken in (
        record {
          inside = subst (λ i. i < length ps) (sym t.place) b.inside;
          place = b.place ∙ ap (place_at ps) (sym t.place);
          kind = b.kind ∙ sym t.kind;
          size = omega (arith, s);
          entries = sym g.1;
          tallies = t.tallies o.entries b.tallies;
          are = b.are;
        },
        g.0,
        all_got (IsEntryOf o.kind) o.entries o.taken d b.are g.0,
      )

  pub take_at : (cs : List OpenColumn) (os : List Opened) (i : ℕ) (kind : Kind) (c after : OpenColumn) (d : Datum) → Back ps cs os → IsReady cs n kind i
      → c ≡ get_or cs i c → TakesEntry c d after
      → (more : List Opened) × TakesNext os (use_at (place_at ps n) kind d) more × Back ps (set cs i after) more × IsEntryOf kind d
  take_at [] os i kind c after d b ready is t = absurd ready
  take_at (x ∷ cs) [] i kind c after d b ready is t = absurd b
  take_at (x ∷ cs) (o ∷ os) zero kind c after d b ready is t =
      let e : c ≡ x = is in
      let u : TakesEntry x d after = subst (λ z. TakesEntry z d after) e t in
      let h = taken_back x after o d b.0 u in
      (next o ∷ os, inl (here x o b.0 ready.0, sym ready.1 ∙ sym b.0.kind, h.1, refl), (h.0, b.1), subst (λ k. IsEntryOf k d) (b.0.kind ∙ ready.1) h.2)
  take_at (x ∷ cs) (o ∷ os) (suc i) kind c after d b ready is t =
      let r = take_at cs os i kind c after d b.1 ready.1 is t in
      (o ∷ r.0, inr (elsewhere x o b.0 ready.0, r.0, refl, r.1), (b.0, r.2), r.3)

  -- what was counted is of the machine's column
  pub tallied_at : (cs : List OpenColumn) (os : List Opened) (i : ℕ) (kind : Kind) (c : OpenColumn) → Back ps cs os → IsReady cs n kind i → c ≡ get_or cs i c
      → Tallies c.column (entries_of (map whole os) (place_at ps n))
  tallied_at [] os i kind c b ready is = absurd ready
  tallied_at (x ∷ cs) [] i kind c b ready is = absurd b
  tallied_at (x ∷ cs) (o ∷ os) zero kind c b ready is =
      rw (here x o b.0 ready.0) (subst (λ z. Tallies z.column o.entries) (sym is) b.0.tallies)
  tallied_at (x ∷ cs) (o ∷ os) (suc i) kind c b ready is =
      rw (elsewhere x o b.0 ready.0) (tallied_at cs os i kind c b.1 ready.1 is)

-- ---- a column is opened

next_last : (os : List Opened) (o : Opened) (u : Use) (bs : List Opened) → is_open (map whole os) u.place ≡ false → TakesNext (os ++ o ∷ []) u bs
    → (u.kind ≡ o.kind) × (slice_get o.entries o.taken ≡ Some u.entry) × (bs ≡ os ++ next o ∷ [])
next_last [] o u bs away (inl x) = (x.1, x.2, x.3)
next_last [] o u bs away (inr x) = absurd x.3
next_last (b ∷ os) o u bs away (inl x) = absurd (let h : true ≡ false = sym (or_left _ _ x.0) ∙ away in cc)
next_last (b ∷ os) o u bs away (inr x) =
    let r = next_last os o u x.1 (rw x.0 at away) x.3 in
    (r.0, r.1, x.2 ∙ ap (λ (ys : List Opened). b ∷ ys) r.2)

-- a column of which nothing was taken
abbrev pub untouched : Place → Kind → List Datum → Opened
untouched p kind entries = record { place = p; kind = kind; entries = entries; taken = 0 }

abbrev pub with_column : State → Opened → List ℕ → State
with_column a o rest = record { opened = a.opened ++ o ∷ []; rest = rest }

first_of_all : (entries : List Datum) (d : Datum) → slice_get entries 0 ≡ Some d → (more : List Datum) × (entries ≡ d ∷ more)
first_of_all [] d e = cc
first_of_all (x ∷ more) d e = let h : x ≡ d = cc in (more, ap (λ z. z ∷ more) h)

pub prepared : (a : State) (p : Place) (kind : Kind) (count : ℕ) (entries : List Datum) (rest : List ℕ) → is_open (map whole a.opened) p ≡ false
    → Hosts (map whole a.opened) p count → ReadsColumn kind count a.rest entries rest → Prepares a p kind (with_column a (untouched p kind entries) rest)
prepared a p kind count entries rest away hosts read d b taken same =
    let l = next_last a.opened (untouched p kind entries) (use_at p kind d) b.opened away taken in
    let f = first_of_all entries d l.1 in
    let size : length (d ∷ f.0) ≡ population (entries_of (map whole a.opened)) p = sym (ap length f.1) ∙ read.size ∙ sym hosts.1 in
    let spelled = subst (λ ds. SpellsColumn kind read.piece ds) f.1 read.spelled in
    let opened : b.opened ≡ a.opened ++ record { place = p; kind = kind; entries = d ∷ f.0; taken = 1 } ∷ [] =
    l.2 ∙ ap (λ (ds : List Datum). let o : Opened = record { place = p; kind = kind; entries = ds; taken = 1 } in a.opened ++ o ∷ []) f.1 in
    inr (away, hosts.0, f.0, read.piece, size, read.whole ∙ ap (λ r. read.piece ++ r) (sym same), spelled, opened)

-- no entry is taken where the column is not open and can't be opened
pub nothing_to_open : (a : State) (p : Place) (kind : Kind) (count : ℕ) → is_open (map whole a.opened) p ≡ false → Hosts (map whole a.opened) p count
    → ((d : Datum) (more : List Datum) (rest : List ℕ) → ReadsColumn kind count a.rest (d ∷ more) rest → ⊥) → NothingAt a p kind
nothing_to_open a p kind count away hosts none d b (inl x) = let h : true ≡ false = sym (next_open a.opened (use_at p kind d) b.opened x.0) ∙ away in cc
nothing_to_open a p kind count away hosts none d b (inr x) =
    none d x.2 b.rest (record { size = x.4 ∙ hosts.1; piece = x.3; whole = x.5; spelled = x.6 })

back_last : (ps : List Place) (cs : List OpenColumn) (os : List Opened) (c : OpenColumn) (o : Opened) → Back ps cs os → Backs ps c o → Back ps (cs ++ c ∷ []) (os ++ o ∷ [])
back_last ps [] [] c o b h = (h, tt)
back_last ps [] (x ∷ os) c o b h = absurd b
back_last ps (x ∷ cs) [] c o b h = absurd b
back_last ps (x ∷ cs) (y ∷ os) c o b h = (b.0, back_last ps cs os c o b.1 h)

host_all_more : (ws vs : List PlacedColumn) (ps : List Place) (ns : List ℕ) → HostAll ws ps ns → HostAll (ws ++ vs) ps ns
host_all_more ws vs ps ns h i inside =
    let k = h i inside in (grounded_append ws vs (place_at ps i) k.0, population_append ws vs (place_at ps i) k.0 ∙ k.1)

-- the answer of one column more
pub record TellsOn (old new : Verdict) (kind : Kind) (entries : List Datum) (before behind : List ℕ) : Type 0 where
  pub answer : Bool
  pub strict : new.strict ≡ old.strict
  pub bytes : new.bytes.now ≡ old.bytes.now
  pub written : new.written ≡ (old.written && answer)
  pub judged : IsTrue old.strict → JudgesColumn answer kind entries before behind

tells_on : (old new : Verdict) (kind : Kind) (entries : List Datum) (before behind : List ℕ) (cs : List Column)
    → (IsTrue old.strict → JudgesEach cs old.written old.bytes.now before) → TellsOn old new kind entries before behind → IsTrue new.strict
    → JudgesEach (cs ++ record { kind = kind; entries = entries } ∷ []) new.written new.bytes.now behind
tells_on old new kind entries before behind cs told t strict =
    let asked : IsTrue old.strict = subst IsTrue t.strict strict in
    let column : Column = record { kind = kind; entries = entries } in
    subst (λ w. JudgesEach (cs ++ column ∷ []) w new.bytes.now behind) (sym t.written)
    (subst (λ b. JudgesEach (cs ++ column ∷ []) (old.written && t.answer) b behind) (sym t.bytes)
    (judges_more cs column old.written t.answer old.bytes.now before behind (told asked) (t.judged asked)))

unplaced-append : (ws vs : List PlacedColumn) → unplaced (ws ++ vs) ≡ unplaced ws ++ unplaced vs
unplaced-append ws vs = map-append column_at ws vs

pub stands_opened : (old new : Reader) (a : State) (n : ℕ) (kind : Kind) (entries : List Datum) (rest : List ℕ) (c : OpenColumn) → Stands old a
    → n < length (places old.places.below.items) → new.places.below ≡ old.places.below → new.counts ≡ old.counts → new.columns.items ≡ old.columns.items ++ c ∷ [] → new.input.now ≡ rest
    → c.place ≡ n → kind_of_column c.column ≡ kind → c.left ≡ length entries → left c.column ≡ entries → Tallies c.column entries → All (IsEntryOf kind) entries
    → TellsOn old.verdict new.verdict kind entries old.input.now rest → Stands new (with_column a (untouched (place_at (places old.places.below.items) n) kind entries) rest)
stands_opened old new a n kind entries rest c s inside below counted columns input at same size all tallies are tells =
    let ps = places old.places.below.items in
    let o = untouched (place_at ps n) kind entries in
    let b : Backs ps c o = record {
      inside = subst (λ i. i < length ps) (sym at) inside;
      place = ap (place_at ps) (sym at);
      kind = sym same;
      size = size ∙ ap length (sym all);
      entries = all;
      tallies = tallies;
      are = are;
    } in
    let whole_is : map whole (a.opened ++ o ∷ []) ≡ map whole a.opened ++ whole o ∷ [] = map-append whole a.opened (o ∷ []) in
    let unplaced_is : unplaced (map whole (a.opened ++ o ∷ [])) ≡ unplaced (map whole a.opened) ++ record { kind = kind; entries = entries } ∷ [] =
    ap unplaced whole_is ∙ unplaced-append (map whole a.opened) (whole o ∷ []) in
    record {
      backs = subst (λ z. Back (places z.items) new.columns.items (a.opened ++ o ∷ [])) (sym below)
          (subst (λ cs. Back ps cs (a.opened ++ o ∷ [])) (sym columns) (back_last ps old.columns.items a.opened c o s.backs b));
      hosts = subst (λ z. HostAll (map whole (a.opened ++ o ∷ [])) (places z.items) (counts new)) (sym below)
          (subst (λ z. HostAll (map whole (a.opened ++ o ∷ [])) ps (1 ∷ z.items)) (sym counted)
          (subst (λ ws. HostAll ws ps (counts old)) (sym whole_is) (host_all_more (map whole a.opened) (whole o ∷ []) ps (counts old) s.hosts)));
      input = sym input;
      told = λ strict. subst (λ cs. JudgesEach cs new.verdict.written new.verdict.bytes.now new.input.now) (sym unplaced_is)
          (subst (JudgesEach (unplaced (map whole a.opened) ++ record { kind = kind; entries = entries } ∷ []) new.verdict.written new.verdict.bytes.now) (sym input)
          (tells_on old.verdict new.verdict kind entries old.input.now rest (unplaced (map whole a.opened)) s.told tells strict));
    }

-- ---- what a reader tells of a place whose column is not open

module _ (r : Reader) (n : ℕ) (within : n ≤ length r.places.below.items) (away : All (λ c. c.place ≢ n) r.columns.items) (count : ℕ)
    (counted : count ≡ get_or (counts r) n 0) where
  not_open : (a : State) → Stands r a → is_open (map whole a.opened) (place_at (places r.places.below.items) n) ≡ false
  not_open a s = closed (places r.places.below.items) r.places.apart n (inside_places r.places.below.items n within) r.columns.items a.opened s.backs away

  hosted : (a : State) → Stands r a → Hosts (map whole a.opened) (place_at (places r.places.below.items) n) count
  hosted a s = let h = s.hosts n (inside_places r.places.below.items n within) in (h.0, h.1 ∙ sym counted)

  pub nothing_here : (kind : Kind) → ((d : Datum) (more : List Datum) (rest : List ℕ) → ReadsColumn kind count r.input.now (d ∷ more) rest → ⊥)
      → (a : State) → Stands r a → NothingAt a (place_at (places r.places.below.items) n) kind
  nothing_here kind none a s =
      nothing_to_open a (place_at (places r.places.below.items) n) kind count (not_open a s) (hosted a s)
      (λ d more rest read. none d more rest (subst (λ bytes. ReadsColumn kind count bytes (d ∷ more) rest) s.input read))

  pub refused_here : (kind : Kind) (reason : Reason) → IsColumnRefusal kind reason count r.input.now
      → IsColumnReason reason × (reason ≢ OutOfMemory → (a : State) → Stands r a → NothingAt a (place_at (places r.places.below.items) n) kind)
  unfolding IsColumnRefusal
  refused_here kind reason h = (h.0, λ other. nothing_here kind (λ d more rest. h.1 other (d ∷ more) rest))

  pub none_here : (kind : Kind) → count ≡ 0 → (a : State) → Stands r a → NothingAt a (place_at (places r.places.below.items) n) kind
  none_here kind zero_is = nothing_here kind (λ d more rest read. let e : suc (length more) ≡ count = read.size in omega (arith, e, zero_is))

  pub prepared_here : (new : Reader) (kind : Kind) (entries : List Datum) (c : OpenColumn) → ReadsColumn kind count r.input.now entries new.input.now
      → new.places.below ≡ r.places.below → new.counts ≡ r.counts → new.columns.items ≡ r.columns.items ++ c ∷ [] → c.place ≡ n → kind_of_column c.column ≡ kind → c.left ≡ count
      → left c.column ≡ entries → Tallies c.column entries → All (IsEntryOf kind) entries → TellsOn r.verdict new.verdict kind entries r.input.now new.input.now
      → (a : State) → Stands r a → (m : State) × Stands new m × Prepares a (place_at (places r.places.below.items) n) kind m
  prepared_here new kind entries c read below counts_same columns at same size all tallies are tells a s = (
    with_column a (untouched (place_at (places r.places.below.items) n) kind entries) new.input.now,
    stands_opened r new a n kind entries new.input.now c s (inside_places r.places.below.items n within) below counts_same columns refl at same (size ∙ sym read.size) all tallies are tells,
    prepared a (place_at (places r.places.below.items) n) kind count entries new.input.now (not_open a s) (hosted a s)
        (subst (λ bytes. ReadsColumn kind count bytes entries new.input.now) (sym s.input) read),
  )

pub ready_pushed : (cs all : List OpenColumn) (n i : ℕ) (kind : Kind) (c : OpenColumn) → All (λ b. b.place ≢ n) cs → all ≡ cs ++ c ∷ [] → i ≡ length all
    → c.place ≡ n → kind_of_column c.column ≡ kind → 0 < c.left → IsReady all n kind (i - 1)
ready_pushed cs all n i kind c away e l here same some =
    let size : length all ≡ length cs + 1 = ap length e ∙ length-append cs (c ∷ []) in
    let at : length cs ≡ i - 1 = omega (arith, l, size) in
    subst (λ xs. IsReady xs n kind (i - 1)) (sym e) (subst (λ j. IsReady (cs ++ c ∷ []) n kind j) at (ready_last cs n kind c away here same some))

-- ---- what a reader tells of a place whose column is open

pub stuck_here : (r : Reader) (n i : ℕ) (kind : Kind) (c : OpenColumn) → n ≤ length r.places.below.items → IsFirstAt r.columns.items n i → c ≡ get_or r.columns.items i c
    → (kind_of_column c.column ≢ kind) ⊎ (c.left ≡ 0) → (a : State) → Stands r a → NothingAt a (place_at (places r.places.below.items) n) kind
stuck_here r n i kind c within first is why a s d b (inl t) =
    stuck_next (places r.places.below.items) r.places.apart n (inside_places r.places.below.items n within) r.columns.items a.opened i kind c s.backs first is why d b.opened t.0
stuck_here r n i kind c within first is why a s d b (inr t) =
    let h : true ≡ false = sym (open_at (places r.places.below.items) r.places.apart n (inside_places r.places.below.items n within) r.columns.items a.opened i s.backs first) ∙ t.0 in cc

pub first_ready : (cs : List OpenColumn) (n i : ℕ) (kind : Kind) → IsReady cs n kind i → IsFirstAt cs n i
first_ready [] n i kind ready = ready
first_ready (x ∷ cs) n zero kind ready = ready.0
first_ready (x ∷ cs) n (suc i) kind ready = (ready.0, first_ready cs n i kind ready.1)

-- what was told of the columns is told of them still
pub told_alike : (old new : Verdict) (ws vs : List PlacedColumn) (before behind : List ℕ) → new ≡ old → ws ≡ vs → before ≡ behind → Told old ws before → Told new vs behind
told_alike old new ws vs before behind v w b told = subst (λ x. Told x vs behind) (sym v) (subst (Told old vs) b (subst (λ xs. Told old xs before) w told))

-- the entry that was taken leads the reader on, and the column tells what was counted
pub led_telling : (old ready new : Reader) (n i : ℕ) (kind : Kind) (c after : OpenColumn) (d : Datum) → n ≤ length old.places.below.items → ready.places.below ≡ old.places.below
    → new.places.below ≡ old.places.below → new.counts ≡ ready.counts → new.input.now ≡ ready.input.now → new.verdict ≡ ready.verdict → new.columns.items ≡ set ready.columns.items i after → IsReady ready.columns.items n kind i
    → c ≡ get_or ready.columns.items i c → TakesEntry c d after
    → ((a : State) → Stands old a → (m : State) × Stands ready m × Prepares a (place_at (places old.places.below.items) n) kind m)
    → LeadsTelling old (place_at (places old.places.below.items) n) kind d new (Tallies c.column)
led_telling old ready new n i kind c after d within below_ready below counted input verdict columns is_ready is t prepares a s =
    let m = prepares a s in
    let ps = places old.places.below.items in
    let ready_places : places ready.places.below.items ≡ ps = ap (λ z. places z.items) below_ready in
    let backs = subst (λ qs. Back qs ready.columns.items m.0.opened) ready_places m.1.backs in
    let hosts = subst (λ z. HostAll (map whole m.0.opened) (places z.items) (counts ready)) below_ready m.1.hosts in
    let r = take_at ps old.places.apart n (inside_places old.places.below.items n within) ready.columns.items m.0.opened i kind c after d backs is_ready is t in
    let b : State = record { opened = r.0; rest = m.0.rest } in
    let same : map whole r.0 ≡ map whole m.0.opened = takes_whole m.0.opened (use_at (place_at ps n) kind d) r.0 r.1 in (
      b,
      m.2 d b r.1 refl,
      record {
        backs = subst (λ z. Back (places z.items) new.columns.items r.0) (sym below) (subst (λ cs. Back ps cs r.0) (sym columns) r.2);
        hosts = subst (λ z. HostAll (map whole r.0) (places z.items) (counts new)) (sym below)
            (subst (λ z. HostAll (map whole r.0) ps (1 ∷ z.items)) (sym counted) (subst (λ ws. HostAll ws ps (counts ready)) (sym same) hosts));
        input = m.1.input ∙ sym input;
        told = told_alike ready.verdict new.verdict (map whole m.0.opened) (map whole r.0) ready.input.now new.input.now verdict (sym same) (sym input) m.1.told;
      },
      subst (λ ws. is_open ws (place_at ps n) ≡ true) (sym same)
          (open_at ps old.places.apart n (inside_places old.places.below.items n within) ready.columns.items m.0.opened i backs (first_ready ready.columns.items n i kind is_ready)),
      subst (λ ws. Tallies c.column (entries_of ws (place_at ps n))) (sym same)
          (tallied_at ps old.places.apart n (inside_places old.places.below.items n within) ready.columns.items m.0.opened i kind c backs is_ready is),
      r.3,
    )

pub led : (old ready new : Reader) (n i : ℕ) (kind : Kind) (c after : OpenColumn) (d : Datum) → n ≤ length old.places.below.items → ready.places.below ≡ old.places.below
    → new.places.below ≡ old.places.below → new.counts ≡ ready.counts → new.input.now ≡ ready.input.now → new.verdict ≡ ready.verdict → new.columns.items ≡ set ready.columns.items i after → IsReady ready.columns.items n kind i
    → c ≡ get_or ready.columns.items i c → TakesEntry c d after
    → ((a : State) → Stands old a → (m : State) × Stands ready m × Prepares a (place_at (places old.places.below.items) n) kind m)
    → Leads old (place_at (places old.places.below.items) n) kind d new
led old ready new n i kind c after d within below_ready below counted input verdict columns is_ready is t prepares a s =
    let h = led_telling old ready new n i kind c after d within below_ready below counted input verdict columns is_ready is t prepares a s in
    (h.0, h.1, h.2, h.5)

-- the column that is ready at the index
pub found_ready : (cs : List OpenColumn) (n i : ℕ) (kind : Kind) (c : OpenColumn) → IsReady cs n kind i → c ≡ get_or cs i c
    → (kind_of_column c.column ≡ kind) × (0 < c.left)
found_ready [] n i kind c ready is = absurd ready
found_ready (x ∷ cs) n zero kind c ready is = (ap (λ z. kind_of_column z.column) is ∙ ready.1, subst (λ z. 0 < z.left) (sym is) ready.2)
found_ready (x ∷ cs) n (suc i) kind c ready is = found_ready cs n i kind c ready.1 is

pub ready_within : (cs : List OpenColumn) (n i : ℕ) (kind : Kind) → IsReady cs n kind i → i < length cs
ready_within [] n i kind ready = absurd ready
ready_within (x ∷ cs) n zero kind ready = omega arith
ready_within (x ∷ cs) n (suc i) kind ready = let h = ready_within cs n i kind ready.1 in omega (arith, h)

-- ---- how many entries are left

pub sized_at : (cs : List OpenColumn) (n i : ℕ) (kind : Kind) (c : OpenColumn) → AreSized cs → IsReady cs n kind i → c ≡ get_or cs i c → c.left ≡ length (left c.column)
sized_at [] n i kind c sized ready is = absurd ready
sized_at (x ∷ cs) n zero kind c sized ready is = subst (λ z. z.left ≡ length (left z.column)) (sym is) sized.0
sized_at (x ∷ cs) n (suc i) kind c sized ready is = sized_at cs n i kind c sized.1 ready.1 is

sized_more : (cs : List OpenColumn) (c : OpenColumn) → AreSized cs → c.left ≡ length (left c.column) → AreSized (cs ++ c ∷ [])
sized_more [] c sized one = (one, tt)
sized_more (x ∷ cs) c sized one = (sized.0, sized_more cs c sized.1 one)

pub sized_last : (cs : List OpenColumn) (all : List OpenColumn) (c : OpenColumn) → all ≡ cs ++ c ∷ [] → AreSized cs → c.left ≡ length (left c.column) → AreSized all
sized_last cs all c e sized one = subst AreSized (sym e) (sized_more cs c sized one)

pub sized_set : (cs : List OpenColumn) (i : ℕ) (c : OpenColumn) → AreSized cs → c.left ≡ length (left c.column) → AreSized (set cs i c)
sized_set [] i c sized one = tt
sized_set (x ∷ cs) zero c sized one = (one, sized.1)
sized_set (x ∷ cs) (suc i) c sized one = (sized.0, sized_set cs i c sized.1 one)

-- ---- the start

host_root : HostAll [] ([] ∷ []) (1 ∷ [])
host_root zero inside = (tt, refl)
host_root (suc i) inside = absurd (omega (arith, inside))

pub stands_first : (r : Reader) (bytes : List ℕ) → r.places.below.items ≡ [] → r.counts.items ≡ [] → r.columns.items ≡ [] → r.input.now ≡ bytes → r.verdict.bytes.now ≡ bytes
    → IsTrue r.verdict.written → Stands r (start bytes)
stands_first r bytes below counted columns input all written = record {
  backs = subst (λ cs. Back (places r.places.below.items) cs []) (sym columns) tt;
  hosts = subst (λ bs. HostAll [] (places bs) (counts r)) (sym below) (subst (λ ns. HostAll [] ([] ∷ []) (1 ∷ ns)) (sym counted) host_root);
  input = sym input;
  told = λ strict. (all ∙ sym input, written);
}
