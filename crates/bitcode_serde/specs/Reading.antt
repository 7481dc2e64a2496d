-- What a reader stands for: the state of the machine that takes one entry after another.
use Rattle.std.specs.Prelude.{◌≡◌, ◌≢◌, ℕ, zero, suc, ◌<◌, true, IsTrue, List, [], ◌∷◌, ◌++◌, length, map, drop, get_or, All}
use Rattle.std.specs.List.{AllByRecursion}
use Rattle.bitcode_shapes.specs.Datum.{Datum}
use Rattle.bitcode_coder.specs.Columns.{Kind, IsEntryOf}
use Rattle.bitcode_untyped.specs.Machine.{Opened, State, whole, is_open, entries_of, Grounded, TakesNext, Takes}
use Rattle.bitcode_untyped.specs.PlacedColumns.{PlacedColumn, unplaced}
use Rattle.bitcode_untyped.specs.Population.{population}
use Rattle.bitcode_untyped.specs.Runs.{Runs}
use Rattle.bitcode_untyped.specs.Strict.{JudgesEach}
use Rattle.bitcode_untyped.specs.View.{datum_of}
use Rattle.bitcode_untyped.specs.Walk.{Place, use_at}
use Rattle.bitcode_untyped.specs.declared.value.Value.{Value}
use Rattle.bitcode_serde.specs.Places.{place_at, places}
use Rattle.bitcode_serde.specs.ReadColumns.{kind_of, kind_of_column, left, Tallies, IsCaseOf}
use Rattle.bitcode_serde.specs.declared.column.ColumnKind.{ColumnKind}
use Rattle.bitcode_serde.specs.declared.reader.OpenColumn.{OpenColumn}
use Rattle.bitcode_serde.specs.declared.reader.Reader.{Reader}
use Rattle.bitcode_serde.specs.declared.reader.Verdict.{Verdict}

-- how many data stand at each place: one at the root
abbrev pub counts : Reader → List ℕ
counts r = 1 ∷ r.counts.items

-- ---- columns

-- The reader knows how many entries each column has left.
abbrev pub AreSized : List OpenColumn → Type 0
AreSized [] = Unit {0}
AreSized (c ∷ cs) = (c.left ≡ length (left c.column)) × AreSized cs

-- what the reader has of a column is what the machine has not taken of it
pub record Backs (ps : List Place) (c : OpenColumn) (o : Opened) : Type 0 where
  pub inside : c.place < length ps
  pub place : o.place ≡ place_at ps c.place
  pub kind : o.kind ≡ kind_of_column c.column
  pub size : c.left ≡ length (left c.column)
  pub entries : left c.column ≡ drop o.taken o.entries
  pub tallies : Tallies c.column o.entries
  pub are : All (IsEntryOf o.kind) o.entries

abbrev pub Back : List Place → List OpenColumn → List Opened → Type 0
Back ps [] [] = Unit {0}
Back ps (c ∷ cs) (o ∷ os) = Backs ps c o × Back ps cs os
Back ps [] (o ∷ os) = ⊥
Back ps (c ∷ cs) [] = ⊥

-- so many data stand at a place
abbrev pub Hosts : List PlacedColumn → Place → ℕ → Type 0
Hosts ws p n = Grounded ws p × (population (entries_of ws) p ≡ n)

abbrev pub HostAll : List PlacedColumn → List Place → List ℕ → Type 0
HostAll ws ps ns = (i : ℕ) → i < length ps → Hosts ws (place_at ps i) (get_or ns i 0)

-- the same is asked of the bytes of the same input
pub record IsAskedAs (old new : Reader) : Type 0 where
  pub strict : new.verdict.strict ≡ old.verdict.strict
  pub bytes : new.verdict.bytes.now ≡ old.verdict.bytes.now

-- The columns were read from the whole input up to what is left of it, and where that is asked, it is known whether the piece
-- of each is its text.
abbrev pub Told : Verdict → List PlacedColumn → List ℕ → Type 0
Told v cs rest = IsTrue v.strict → JudgesEach (unplaced cs) v.written v.bytes.now rest

-- The reader stands for the state.
pub record Stands (r : Reader) (a : State) : Type 0 where
  pub backs : Back (places r.places.below.items) r.columns.items a.opened
  pub hosts : HostAll (map whole a.opened) (places r.places.below.items) (counts r)
  pub input : a.rest ≡ r.input.now
  pub told : Told r.verdict (map whole a.opened) r.input.now

-- ---- steps

-- column i is the first of a place, is of a kind, and has an entry left
abbrev pub IsReady : List OpenColumn → ℕ → Kind → ℕ → Type 0
IsReady [] n kind i = ⊥
IsReady (c ∷ cs) n kind zero = (c.place ≡ n) × (kind_of_column c.column ≡ kind) × (0 < c.left)
IsReady (c ∷ cs) n kind (suc i) = (c.place ≢ n) × IsReady cs n kind i

-- what takes an entry of the place from there takes it from here
abbrev pub Prepares : State → Place → Kind → State → Type 0
Prepares a p kind m = (d : Datum) (b : State) → TakesNext m.opened (use_at p kind d) b.opened → b.rest ≡ m.rest → Takes a (use_at p kind d) b

-- no entry of the place can be taken
abbrev pub NothingAt : State → Place → Kind → Type 0
NothingAt a p kind = (d : Datum) (b : State) → Takes a (use_at p kind d) b → ⊥

-- The machine takes an entry, and the reader goes along.
abbrev pub Leads : Reader → Place → Kind → Datum → Reader → Type 0
Leads old p kind d new = (a : State) → Stands old a → (b : State) × Takes a (use_at p kind d) b × Stands new b × IsEntryOf kind d

-- The same, and the machine's column of that place is open, with entries of which something is told.
abbrev pub LeadsTelling : Reader → Place → Kind → Datum → Reader → (List Datum → Type 0) → Type 0
LeadsTelling old p kind d new Told =
    (a : State) → Stands old a → (b : State) × Takes a (use_at p kind d) b × Stands new b
    × (is_open (map whole b.opened) p ≡ true) × Told (entries_of (map whole b.opened) p) × IsEntryOf kind d

-- The machine takes entries one after another, and the reader goes along.
abbrev pub LeadsEach : Reader → Place → Kind → List Datum → Reader → Type 0
LeadsEach old p kind ds new =
    (a : State) → Stands old a → (b : State) × Runs Takes a (map (use_at p kind) ds) b × Stands new b × AllByRecursion (IsEntryOf kind) ds

-- so many entries of the place can't be taken
abbrev pub NotSoMany : State → Place → Kind → ℕ → Type 0
NotSoMany a p kind count = (ds : List Datum) (b : State) → length ds ≡ count → Runs Takes a (map (use_at p kind) ds) b → ⊥

-- The machine takes an entry, the reader goes along, and the entry's value stands behind the others.
pub record AddsLed (old : Reader) (p : Place) (kind : ColumnKind) (new : Reader) (those all : List Value) : Type 0 where
  pub value : Value
  pub added : all ≡ those ++ value ∷ []
  pub leads : Leads old p (kind_of kind) (datum_of value) new
  pub of_case : IsCaseOf kind value
