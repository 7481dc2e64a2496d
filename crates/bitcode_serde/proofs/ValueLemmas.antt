-- Reading a value: what is read of its parts, reader by reader.
use Rattle.std.proofs.Common.{◌≡◌, ◌≢◌, ℕ, zero, suc, ◌+◌, ◌<◌, ◌≤◌, List, [], ◌∷◌, ◌++◌, length, map, true, refl, ap, sym, subst, arith, false, pos, ◌∙◌}
use Rattle.std.specs.List.{AllByRecursion, flat_map}
use Rattle.bitcode_memory.specs.declared.error.Reason.{Reason}
use Rattle.bitcode_memory.specs.declared.error.Reason.TheVariants as reason
use Rattle.bitcode_shapes.specs.Datum.{Datum, unit, list, choice, pair, data_of}
use Rattle.bitcode_shapes.specs.Shape.{any_number, IsInWidth}
use Rattle.bitcode_coder.specs.Columns.{Kind, IsEntryOf}
use Rattle.bitcode_coder.specs.Spelling.{natural}
use Rattle.bitcode_untyped.specs.Machine.{State, Takes, whole, is_open, entries_of}
use Rattle.bitcode_untyped.specs.Reads.{ReadsDatum, ReadsNoDatum, IsReadable, IsReadablePair, pair_walk, ReadsPairs}
use Rattle.bitcode_untyped.specs.Bounds.{column_free, free_limit}
use Rattle.bitcode_untyped.specs.Population.{total, count_of}
use Rattle.bitcode_untyped.specs.Runs.{Runs}
use Rattle.bitcode_untyped.specs.ShapeTree.{Note, ShapeTree, ShapeTrees, no_trees, tree_and, unit_tree, never_tree, leaf_tree, seq_tree, map_tree, choice_tree, noted_tree, tree_at, IsAdmitted, greatest_index}
use Rattle.bitcode_untyped.specs.PlacedColumns.{PlacedColumn}
use Rattle.bitcode_untyped.specs.Walk.{element, key, value, variant, Place, use_at, length_kind, index_kind, walk}
use Rattle.bitcode_untyped.proofs.ReadLemmas.{many_push, many_stuck, one_datum_read, unit_read, never_read, seq_read, seq_stuck, choice_read, choice_stuck, one_pair_read, pair_read, pair_stuck_key, pair_stuck_value, map_read, map_stuck, noted_read, noted_stuck, noted_refused}
use Rattle.bitcode_untyped.specs.View.{datum_of}
use Rattle.bitcode_untyped.specs.declared.value.Value.{Value}
use Rattle.bitcode_serde.specs.ReadColumns.{kind_of, IsColumnReason}
use Rattle.bitcode_serde.specs.Reading.{IsAskedAs, Hosts, Stands, NothingAt, NotSoMany, Leads, LeadsEach, LeadsTelling, AddsLed, AreSized}
use Rattle.bitcode_serde.specs.Places.{step_of, IsPlace, places_from, places, place_at}
use Rattle.bitcode_serde.specs.ReadingValues.{IsSteady, Continues, GoesAlong, HasNone, Enters, EntersList, ReadsAt, ReadsListAt, AddsRead, IsValueReason, IsRefusalOf, IsRefusalAt, IsListRefusalAt}
use Rattle.bitcode_serde.specs.declared.column.ColumnKind.{ColumnKind}
use Rattle.bitcode_serde.specs.declared.reader.Reader.{Reader}
use Rattle.bitcode_serde.specs.declared.places.Below.{Below}
use Rattle.bitcode_serde.specs.declared.step.Step.{Step as CodeStep}
use Rattle.bitcode_serde.specs.declared.step.Step.TheVariants as step

-- ---- refusals

pub value_reason : (r : Reason) → IsColumnReason r → IsValueReason r
value_reason reason.Eof h = tt
value_reason reason.ExpectedEof h = tt
value_reason reason.InvalidPacking h = tt
value_reason reason.LengthOverflow h = tt
value_reason reason.HugeLength h = tt
value_reason reason.InvalidUtf8 h = tt
value_reason reason.InvalidBitPattern h = h
value_reason reason.InvalidArrayVec h = h
value_reason reason.InvalidArrayString h = h
value_reason reason.InvalidEnumVariant h = tt
value_reason reason.InvalidOption h = tt
value_reason reason.InvalidChar h = tt
value_reason reason.TooManyZeroSizedTypes h = tt
value_reason reason.TooManyVariants h = h
value_reason reason.NotOfTheShape h = h
value_reason reason.NestedTooDeep h = tt
value_reason reason.OutOfMemory h = tt
value_reason reason.BadShape h = h
value_reason reason.NotTheWrittenText h = h
value_reason reason.TooManyNodes h = h

-- nothing is there where no entry is to be taken
pub refused_entry : (r : Reader) (place : ℕ) (kind : Kind) (N : Place → State → Type 0) (why : Reason)
    → ((p : Place) (a : State) → NothingAt a p kind → N p a)
    → IsColumnReason why × (why ≢ reason.OutOfMemory → (a : State) → Stands r a → NothingAt a (place_at (places r.places.below.items) place) kind)
    → IsRefusalOf r place N why
refused_entry r place kind N why none h =
    (value_reason why h.0, λ other p at a s. none p a (subst (λ q. NothingAt a q kind) at.1 (h.1 other a s)))

-- ---- places

pub same_places : (old new : Reader) (i : ℕ) (p : Place) → new.places.below ≡ old.places.below → IsPlace old.places.below.items i p → IsPlace new.places.below.items i p
same_places old new i p e at = subst (λ b. IsPlace b.items i p) (sym e) at

pub continues_here : (old new : Reader) → IsSteady old → new.places.below ≡ old.places.below → IsAskedAs old new → AreSized new.columns.items → Continues old new
continues_here old new steady e asked sized = record {
  steady = record { sized = sized };
  asked = asked;
  kept = λ i p at. same_places old new i p e at;
}

pub asked_alike : (r : Reader) → IsAskedAs r r
asked_alike r = record { strict = refl; bytes = refl }

pub asked_on : (old mid new : Reader) → IsAskedAs old mid → IsAskedAs mid new → IsAskedAs old new
asked_on old mid new a b = record { strict = b.strict ∙ a.strict; bytes = b.bytes ∙ a.bytes }

pub continues_on : (old mid new : Reader) → Continues old mid → Continues mid new → Continues old new
continues_on old mid new c d = record { steady = d.steady; asked = asked_on old mid new c.asked d.asked; kept = λ i p at. d.kept i p (c.kept i p at) }

root_from : (p : Place) (ps : List Place) (bs : List Below) → place_at (places_from (p ∷ ps) bs) 0 ≡ p
root_from p ps [] = refl
root_from p ps (b ∷ bs) = root_from p (ps ++ (step_of b.step ∷ place_at (p ∷ ps) b.above) ∷ []) bs

pub root_place : (bs : List Below) → IsPlace bs 0 []
root_place bs = (omega arith, root_from [] [] bs)

-- ---- entries

pub led_at : (old new : Reader) (place : ℕ) (kind : Kind) (d : Datum) → Leads old (place_at (places old.places.below.items) place) kind d new
    → GoesAlong old place new (λ p a b. Takes a (use_at p kind d) b × IsEntryOf kind d)
led_at old new place kind d leads p at a s =
    let l = leads a s in (l.0, l.2, (subst (λ q. Takes a (use_at q kind d) l.0) at.1 l.1, l.3))

pub record TakesTelling (kind : Kind) (d : Datum) (Told : List Datum → Type 0) (p : Place) (a b : State) : Type 0 where
  pub takes : Takes a (use_at p kind d) b
  pub open_at : is_open (map whole b.opened) p ≡ true
  pub told : Told (entries_of (map whole b.opened) p)
  pub entry : IsEntryOf kind d

pub told_at : (old new : Reader) (place : ℕ) (kind : Kind) (d : Datum) (Told : List Datum → Type 0)
    → LeadsTelling old (place_at (places old.places.below.items) place) kind d new Told → GoesAlong old place new (TakesTelling kind d Told)
told_at old new place kind d Told leads p at a s =
    let l = leads a s in (
      l.0,
      l.2,
      subst (λ q. TakesTelling kind d Told q a l.0) at.1 (record { takes = l.1; open_at = l.3; told = l.4; entry = l.5 }),
    )

-- ---- entries that are taken at once

leaf_walks : (kind : Kind) (p : Place) (ds : List Datum) → flat_map (walk (leaf_tree kind any_number) p) ds ≡ map (use_at p kind) ds
leaf_walks kind p [] = refl
leaf_walks kind p (d ∷ ds) = ap (λ us. use_at p kind d ∷ us) (leaf_walks kind p ds)

leaves_are : (kind : Kind) (ds : List Datum) → AllByRecursion (IsEntryOf kind) ds → AllByRecursion (IsReadable (leaf_tree kind any_number)) ds
leaves_are kind [] h = tt
leaves_are kind (d ∷ ds) h = (((h.0, tt), tt), leaves_are kind ds h.1)

pub leaves_read : (old new : Reader) (place count : ℕ) (kind : Kind) (ds : List Datum) → LeadsEach old (place_at (places old.places.below.items) place) kind ds new
    → length ds ≡ count → ReadsListAt (leaf_tree kind any_number) place old count ds new
leaves_read old new place count kind ds leads size p at a s =
    let l = leads a s in
    let runs = subst (λ q. Runs Takes a (map (use_at q kind) ds) l.0) at.1 l.1 in
    (l.0, l.2, record { size = size; each = leaves_are kind ds l.3; runs = subst (λ us. Runs Takes a us l.0) (sym (leaf_walks kind p ds)) runs })

pub leaf_added : (old new : Reader) (place : ℕ) (kind : ColumnKind) (those all : List Value)
    → AddsLed old (place_at (places old.places.below.items) place) kind new those all → AddsRead kind place old new those all
leaf_added old new place kind those all one = record {
  value = one.value;
  added = one.added;
  read = λ p at a s.
      let l = one.leads a s in
      let takes = subst (λ q. Takes a (use_at q (kind_of kind) (datum_of one.value)) l.0) at.1 l.1 in
      (l.0, l.2, record { is = ((l.3, tt), tt); runs = (l.0, takes, refl) });
  of_case = one.of_case;
}

pub leaves_refused : (r : Reader) (place count : ℕ) (kind : Kind) (why : Reason)
    → IsColumnReason why × (why ≢ reason.OutOfMemory → (a : State) → Stands r a → NotSoMany a (place_at (places r.places.below.items) place) kind count)
    → IsListRefusalAt (leaf_tree kind any_number) place r count why
leaves_refused r place count kind why h = (
  value_reason why h.0,
  λ other p at a s ds b read.
      subst (λ q. NotSoMany a q kind count) at.1 (h.1 other a s) ds b read.size (subst (λ us. Runs Takes a us b) (leaf_walks kind p ds) read.runs),
)

-- ---- one after another

pub one_more : (s : ShapeTree) (place : ℕ) (old mid new : Reader) (i : ℕ) (ds : List Datum) (d : Datum) → Continues old mid
    → ReadsListAt s place old i ds mid → ReadsAt s place mid d new → ReadsListAt s place old (i + 1) (ds ++ d ∷ []) new
one_more s place old mid new i ds d c many one p at a st =
    let r = many p at a st in
    let t = one p (c.kept place p at) r.0 r.1 in
    (t.0, t.1, many_push (IsReadable s) (walk s p) a r.0 t.0 i ds d r.2 t.2)

pub list_stuck : (s : ShapeTree) (place : ℕ) (old mid : Reader) (i n : ℕ) (ds : List Datum) (why : Reason) → Continues old mid
    → ReadsListAt s place old i ds mid → i < n → IsRefusalAt s place mid why → IsListRefusalAt s place old n why
list_stuck s place old mid i n ds why c many lt h = (
  h.0,
  λ other p at a st.
      let r = many p at a st in
      many_stuck (IsReadable s) (walk s p) (one_datum_read s p) a r.0 i n ds r.2 (h.1 other p (c.kept place p at) r.0 r.1) lt,
)

-- ---- steps

pub stepped : (old new : Reader) (place : ℕ) (p : Place) (way : CodeStep) (count : ℕ) (b : State) → IsPlace old.places.below.items place p
    → ((a : State) → Stands old a → Hosts (map whole a.opened) (step_of way ∷ place_at (places old.places.below.items) place) count → Stands new a)
    → Stands old b → Hosts (map whole b.opened) (step_of way ∷ p) count → Stands new b
stepped old new place p way count b at stands s h =
    stands b s (subst (λ q. Hosts (map whole b.opened) (step_of way ∷ q) count) (sym at.1) h)

pub below_it : (old new : Reader) (place i : ℕ) (p : Place) (way : CodeStep) → IsPlace old.places.below.items place p
    → IsPlace new.places.below.items i (step_of way ∷ place_at (places old.places.below.items) place) → IsPlace new.places.below.items i (step_of way ∷ p)
below_it old new place i p way at there = subst (λ q. IsPlace new.places.below.items i (step_of way ∷ q)) at.1 there

pub still_there : (old new : Reader) (place : ℕ) → Continues old new → place ≤ length old.places.below.items → place ≤ length new.places.below.items
still_there old new place c h = (c.kept place (place_at (places old.places.below.items) place) (h, refl)).0

pub continues_stepped : (old mid new : Reader) → mid.places.below ≡ old.places.below → IsAskedAs old mid → AreSized mid.columns.items → new.columns ≡ mid.columns
    → IsAskedAs mid new → ((i : ℕ) (p : Place) → IsPlace mid.places.below.items i p → IsPlace new.places.below.items i p) → Continues old new
continues_stepped old mid new below asked sized columns again kept = record {
  steady = record { sized = subst (λ cs. AreSized cs.items) (sym columns) sized };
  asked = asked_on old mid new asked again;
  kept = λ i p at. kept i p (same_places old mid i p below at);
}

-- ---- going down

pub enters : (way : CodeStep) (kind : Kind) (d : Datum) (Told : List Datum → Type 0) (old mid new : Reader) (place inside count : ℕ)
    → ((ws : List PlacedColumn) (p : Place) → is_open ws p ≡ true → Told (entries_of ws p) → Hosts ws (step_of way ∷ p) count)
    → LeadsTelling old (place_at (places old.places.below.items) place) kind d mid Told
    → mid.places.below ≡ old.places.below → IsPlace new.places.below.items inside (step_of way ∷ place_at (places mid.places.below.items) place)
    → ((a : State) → Stands mid a → Hosts (map whole a.opened) (step_of way ∷ place_at (places mid.places.below.items) place) count → Stands new a)
    → Enters (step_of way) kind d old new place inside
enters way kind d Told old mid new place inside count hosts leads below there stands = record {
  at = λ p at. below_it mid new place inside p way (same_places old mid place p below at) there;
  goes = λ p at a s.
      let t = told_at old mid place kind d Told leads p at a s in (
        t.0,
        stepped mid new place p way count t.0 (same_places old mid place p below at) stands t.1 (hosts (map whole t.0.opened) p t.2.open_at t.2.told),
        (t.2.takes, t.2.entry),
      );
}

pub enters_list : (old mid new : Reader) (place inside n count : ℕ)
    → LeadsTelling old (place_at (places old.places.below.items) place) length_kind (natural n) mid (λ entries. count ≡ total entries)
    → mid.places.below ≡ old.places.below → IsPlace new.places.below.items inside (element ∷ place_at (places mid.places.below.items) place)
    → ((a : State) → Stands mid a → Hosts (map whole a.opened) (element ∷ place_at (places mid.places.below.items) place) count → Stands new a)
    → EntersList old new place inside n
enters_list old mid new place inside n count =
    enters step.Element length_kind (natural n) (λ entries. count ≡ total entries) old mid new place inside count (λ ws p is told. (is, sym told))

pub enters_choice : (old mid new : Reader) (place inside i count : ℕ)
    → LeadsTelling old (place_at (places old.places.below.items) place) index_kind (natural i) mid (λ entries. count ≡ count_of i entries)
    → mid.places.below ≡ old.places.below → IsPlace new.places.below.items inside (variant i ∷ place_at (places mid.places.below.items) place)
    → ((a : State) → Stands mid a → Hosts (map whole a.opened) (variant i ∷ place_at (places mid.places.below.items) place) count → Stands new a)
    → Enters (variant i) index_kind (natural i) old new place inside
enters_choice old mid new place inside i count =
    enters (step.Variant i) index_kind (natural i) (λ entries. count ≡ count_of i entries) old mid new place inside count (λ ws p is told. (is, sym told))

-- ---- lists

pub seq_read_at : (s : ShapeTree) (old mid new : Reader) (place inside n : ℕ) (ds : List Datum) → EntersList old mid place inside n
    → (column_free s ≡ true → n ≤ free_limit) → ReadsListAt s inside mid n ds new → ReadsAt (seq_tree s) place old (list (data_of ds)) new
seq_read_at s old mid new place inside n ds enters few each p at a st =
    let g = enters.goes p at a st in
    let r = each (element ∷ p) (enters.at p at) g.0 g.1 in
    (r.0, r.1, seq_read s p a n g.0 g.2.0 ds r.0 few r.2)

pub seq_refused : (s : ShapeTree) (old mid : Reader) (place inside n : ℕ) (why : Reason) → EntersList old mid place inside n
    → IsListRefusalAt s inside mid n why → IsRefusalAt (seq_tree s) place old why
seq_refused s old mid place inside n why enters h = (
  h.0,
  λ other p at a st. let g = enters.goes p at a st in seq_stuck s p a n g.0 g.2.0 (h.1 other (element ∷ p) (enters.at p at) g.0 g.1),
)

-- ---- choices

small_index : (i : ℕ) → IsEntryOf index_kind (natural i) → i ≤ greatest_index
small_index i h =
    let e : h.value ≡ pos i = cc (h.is) in
    let small = subst (λ z. IsInWidth 1 false z) e h.in_width in
    omega (arith, small)

pub no_third : (s : ShapeTree) (i : ℕ) → 1 < i → tree_at (tree_and unit_tree (tree_and s no_trees)) i ≡ never_tree
no_third s zero h = absurd (omega arith)
no_third s (suc zero) h = absurd (omega arith)
no_third s (suc (suc i)) h = refl

pub choice_read_at : (ss : ShapeTrees) (i : ℕ) (d : Datum) (old mid new : Reader) (place inside : ℕ)
    → Enters (variant i) index_kind (natural i) old mid place inside → ReadsAt (tree_at ss i) inside mid d new → ReadsAt (choice_tree ss) place old (choice i d) new
choice_read_at ss i d old mid new place inside enters one p at a st =
    let g = enters.goes p at a st in
    let r = one (variant i ∷ p) (enters.at p at) g.0 g.1 in
    (r.0, r.1, choice_read ss p a i g.0 g.2.0 d r.0 (small_index i g.2.1) r.2)

pub choice_refused : (ss : ShapeTrees) (i : ℕ) (old mid : Reader) (place inside : ℕ) (why : Reason)
    → Enters (variant i) index_kind (natural i) old mid place inside → IsRefusalAt (tree_at ss i) inside mid why → IsRefusalAt (choice_tree ss) place old why
choice_refused ss i old mid place inside why enters h = (
  h.0,
  λ other p at a st. let g = enters.goes p at a st in choice_stuck ss p a i g.0 g.2.0 (h.1 other (variant i ∷ p) (enters.at p at) g.0 g.1),
)

-- the variant of an index is a unit
pub choice_of_unit : (ss : ShapeTrees) (i : ℕ) (old new : Reader) (place : ℕ) (Told : List Datum → Type 0) → tree_at ss i ≡ unit_tree
    → LeadsTelling old (place_at (places old.places.below.items) place) index_kind (natural i) new Told → ReadsAt (choice_tree ss) place old (choice i unit) new
choice_of_unit ss i old new place Told is leads p at a st =
    let t = told_at old new place index_kind (natural i) Told leads p at a st in (
      t.0,
      t.1,
      choice_read ss p a i t.0 t.2.takes unit t.0 (small_index i t.2.entry) (subst (λ s. ReadsDatum s (variant i ∷ p) t.0 unit t.0) (sym is) (unit_read (variant i ∷ p) t.0)),
    )

-- there is no variant of an index
pub no_choice : (ss : ShapeTrees) (i : ℕ) (old new : Reader) (place : ℕ) (Told : List Datum → Type 0) → tree_at ss i ≡ never_tree
    → LeadsTelling old (place_at (places old.places.below.items) place) index_kind (natural i) new Told → HasNone old place (ReadsNoDatum (choice_tree ss))
no_choice ss i old new place Told is leads p at a st =
    let t = told_at old new place index_kind (natural i) Told leads p at a st in
    choice_stuck ss p a i t.0 t.2.takes (subst (λ s. ReadsNoDatum s (variant i ∷ p) t.0) (sym is) (never_read (variant i ∷ p) t.0))

-- ---- notes

module _ (note : Note) (s : ShapeTree) (place : ℕ) (old : Reader) where
  pub noted_read_at : (d : Datum) (new : Reader) → IsAdmitted note d → ReadsAt s place old d new → ReadsAt (noted_tree note s) place old d new
  noted_read_at d new admitted one p at a st =
      let r = one p at a st in (r.0, r.1, noted_read note s p a d r.0 admitted r.2)

  pub none_noted : HasNone old place (ReadsNoDatum s) → HasNone old place (ReadsNoDatum (noted_tree note s))
  none_noted none p at a st = noted_stuck note s p a (none p at a st)

  -- a datum is read that is not admitted
  pub none_admitted : (d : Datum) (new : Reader) → ReadsAt s place old d new → (IsAdmitted note d → ⊥) → HasNone old place (ReadsNoDatum (noted_tree note s))
  none_admitted d new one bad p at a st =
      let r = one p at a st in noted_refused note s p a d r.0 r.2 bad

-- ---- maps

-- The length of a map is taken, and its keys and values stand at places one step below.
pub record EntersMap (old new : Reader) (place keys values n : ℕ) : Type 0 where
  pub keys_at : (p : Place) → IsPlace old.places.below.items place p → IsPlace new.places.below.items keys (key ∷ p)
  pub values_at : (p : Place) → IsPlace old.places.below.items place p → IsPlace new.places.below.items values (value ∷ p)
  pub goes : GoesAlong old place new (λ p a b. Takes a (use_at p length_kind (natural n)) b)

pub enters_map : (old mid between new : Reader) (place keys values n count : ℕ)
    → LeadsTelling old (place_at (places old.places.below.items) place) length_kind (natural n) mid (λ entries. count ≡ total entries)
    → mid.places.below ≡ old.places.below → IsPlace between.places.below.items keys (key ∷ place_at (places mid.places.below.items) place)
    → ((i : ℕ) (p : Place) → IsPlace mid.places.below.items i p → IsPlace between.places.below.items i p)
    → ((a : State) → Stands mid a → Hosts (map whole a.opened) (key ∷ place_at (places mid.places.below.items) place) count → Stands between a)
    → IsPlace new.places.below.items values (value ∷ place_at (places between.places.below.items) place)
    → ((i : ℕ) (p : Place) → IsPlace between.places.below.items i p → IsPlace new.places.below.items i p)
    → ((a : State) → Stands between a → Hosts (map whole a.opened) (value ∷ place_at (places between.places.below.items) place) count → Stands new a)
    → EntersMap old new place keys values n
enters_map old mid between new place keys values n count leads below there_key kept_key stands_key there_value kept_value stands_value = record {
  keys_at = λ p at. kept_value keys (key ∷ p) (below_it mid between place keys p step.Key (same_places old mid place p below at) there_key);
  values_at = λ p at. below_it between new place values p step.Value (kept_key place p (same_places old mid place p below at)) there_value;
  goes = λ p at a s.
      let t = told_at old mid place length_kind (natural n) (λ entries. count ≡ total entries) leads p at a s in
      let m = same_places old mid place p below at in
      let k = stepped mid between place p step.Key count t.0 m stands_key t.1 (t.2.open_at, sym t.2.told) in
      (t.0, stepped between new place p step.Value count t.0 (kept_key place p m) stands_value k (t.2.open_at, sym t.2.told), t.2.takes);
}

-- so many pairs of a map at a place, one after another
abbrev pub ReadsPairsAt : ShapeTree → ShapeTree → ℕ → ℕ → Reader → ℕ → List Datum → Reader → Type 0
ReadsPairsAt k v keys values old count ds new =
    (p : Place) → IsPlace old.places.below.items keys (key ∷ p) → IsPlace old.places.below.items values (value ∷ p) → (a : State) → Stands old a
    → (b : State) × Stands new b × ReadsPairs k v p a count ds b

-- ---- pairs

module _ (k v : ShapeTree) (keys values : ℕ) (old mid : Reader) (i : ℕ) (ds : List Datum) (c : Continues old mid)
    (many : ReadsPairsAt k v keys values old i ds mid) where
  pub one_more_pair : (next new : Reader) (x y : Datum) → Continues mid next → ReadsAt k keys mid x next → ReadsAt v values next y new
      → ReadsPairsAt k v keys values old (i + 1) (ds ++ pair x y ∷ []) new
  one_more_pair next new x y d first second p at_key at_value a st =
      let r = many p at_key at_value a st in
      let f = first (key ∷ p) (c.kept keys (key ∷ p) at_key) r.0 r.1 in
      let s = second (value ∷ p) (d.kept values (value ∷ p) (c.kept values (value ∷ p) at_value)) f.0 f.1 in
      (s.0, s.1, many_push (IsReadablePair k v) (pair_walk k v p) a r.0 s.0 i ds (pair x y) r.2 (pair_read k v p r.0 x y f.0 s.0 f.2 s.2))

  abbrev pub NoPairs : ℕ → Type 0
  NoPairs n =
      (p : Place) → IsPlace old.places.below.items keys (key ∷ p) → IsPlace old.places.below.items values (value ∷ p) → (a : State) → Stands old a
      → (es : List Datum) (b : State) → ReadsPairs k v p a n es b → ⊥

  pub key_stuck : (n : ℕ) → i < n → HasNone mid keys (ReadsNoDatum k) → NoPairs n
  key_stuck n lt none p at_key at_value a st =
      let r = many p at_key at_value a st in
      many_stuck (IsReadablePair k v) (pair_walk k v p) (one_pair_read k v p) a r.0 i n ds r.2
      (pair_stuck_key k v p r.0 (none (key ∷ p) (c.kept keys (key ∷ p) at_key) r.0 r.1)) lt

  pub value_stuck : (n : ℕ) (next : Reader) (x : Datum) → i < n → Continues mid next → ReadsAt k keys mid x next
      → HasNone next values (ReadsNoDatum v) → NoPairs n
  value_stuck n next x lt d first none p at_key at_value a st =
      let r = many p at_key at_value a st in
      let f = first (key ∷ p) (c.kept keys (key ∷ p) at_key) r.0 r.1 in
      many_stuck (IsReadablePair k v) (pair_walk k v p) (one_pair_read k v p) a r.0 i n ds r.2
      (pair_stuck_value k v p r.0 x f.0 f.2 (none (value ∷ p) (d.kept values (value ∷ p) (c.kept values (value ∷ p) at_value)) f.0 f.1)) lt

pub map_read_at : (k v : ShapeTree) (old mid new : Reader) (place keys values n : ℕ) (ds : List Datum) → EntersMap old mid place keys values n
    → (column_free k ≡ true → n ≤ free_limit) → ReadsPairsAt k v keys values mid n ds new → ReadsAt (map_tree k v) place old (list (data_of ds)) new
map_read_at k v old mid new place keys values n ds enters few each p at a st =
    let g = enters.goes p at a st in
    let r = each p (enters.keys_at p at) (enters.values_at p at) g.0 g.1 in
    (r.0, r.1, map_read k v p a n g.0 g.2 ds r.0 few r.2)

pub map_stuck_at : (k v : ShapeTree) (old mid : Reader) (place keys values n : ℕ) → EntersMap old mid place keys values n
    → ((p : Place) → IsPlace mid.places.below.items keys (key ∷ p) → IsPlace mid.places.below.items values (value ∷ p) → (a : State) → Stands mid a
    → (es : List Datum) (b : State) → ReadsPairs k v p a n es b → ⊥)
    → HasNone old place (ReadsNoDatum (map_tree k v))
map_stuck_at k v old mid place keys values n enters none p at a st =
    let g = enters.goes p at a st in
    map_stuck k v p a n g.0 g.2 (none p (enters.keys_at p at) (enters.values_at p at) g.0 g.1)
