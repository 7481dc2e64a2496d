-- The reader as a machine: columns that were opened, each with how many of its entries were taken, and the bytes left.
-- A column's kind and count are known when its place is first reached.
use Rattle.std.specs.Prelude.{◌≡◌, ◌⊎◌, ℕ, ◌+◌, Bool, true, false, ◌||◌, List, [], ◌∷◌, ◌++◌, length, take, map, slice_get, Some, if◌then◌else◌}
use Rattle.bitcode_shapes.specs.Datum.{Datum}
use Rattle.bitcode_coder.specs.Columns.{Kind}
use Rattle.bitcode_coder.specs.Spelling.{SpellsColumn}
use Rattle.bitcode_untyped.specs.Walk.{element, key, value, variant, field, Place, Use}
use Rattle.bitcode_untyped.specs.PlacedColumns.{same_place, PlacedColumn}
use Rattle.bitcode_untyped.specs.Population.{population}

pub record Opened : Type 0 where
  pub place : Place
  pub kind : Kind
  pub entries : List Datum
  pub taken : ℕ

pub record State : Type 0 where
  pub opened : List Opened
  pub rest : List ℕ

abbrev pub start : List ℕ → State
start bytes = record { opened = []; rest = bytes }

-- all of a column, and what was taken of it
abbrev pub whole : Opened → PlacedColumn
whole c = record { place = c.place; kind = c.kind; entries = c.entries }

abbrev pub seen : Opened → PlacedColumn
seen c = record { place = c.place; kind = c.kind; entries = take c.taken c.entries }

abbrev pub is_open : List PlacedColumn → Place → Bool
is_open [] p = false
is_open (c ∷ cs) p = same_place p c.place || is_open cs p

abbrev pub entries_of : List PlacedColumn → Place → List Datum
entries_of [] p = []
entries_of (c ∷ cs) p = if same_place p c.place then c.entries else entries_of cs p

-- the column that tells how many data stand at the place was opened
abbrev pub Grounded : List PlacedColumn → Place → Type 0
Grounded cs [] = Unit {0}
Grounded cs (element ∷ p) = is_open cs p ≡ true
Grounded cs (key ∷ p) = is_open cs p ≡ true
Grounded cs (value ∷ p) = is_open cs p ≡ true
Grounded cs (variant i ∷ p) = is_open cs p ≡ true
Grounded cs (field i ∷ p) = Grounded cs p

abbrev pub next : Opened → Opened
next c = record c { taken = c.taken + 1 }

-- The next entry of an opened column is taken.
abbrev pub TakesNext : List Opened → Use → List Opened → Type 0
TakesNext [] u new = ⊥
TakesNext (c ∷ cs) u new =
    ((same_place u.place c.place ≡ true) × (u.kind ≡ c.kind) × (slice_get c.entries c.taken ≡ Some u.entry) × (new ≡ next c ∷ cs))
    ⊎ ((same_place u.place c.place ≡ false) × (ds : List Opened) × (new ≡ c ∷ ds) × TakesNext cs u ds)

-- A column is opened, and its first entry taken. Its count is known from the columns that were opened before.
abbrev pub Opens : State → Use → State → Type 0
Opens a u b =
    (is_open (map whole a.opened) u.place ≡ false) × Grounded (map whole a.opened) u.place × (more : List Datum) × (piece : List ℕ)
    × (length (u.entry ∷ more) ≡ population (entries_of (map whole a.opened)) u.place) × (a.rest ≡ piece ++ b.rest)
    × SpellsColumn u.kind piece (u.entry ∷ more)
    × (b.opened ≡ a.opened ++ record { place = u.place; kind = u.kind; entries = u.entry ∷ more; taken = 1 } ∷ [])

-- The machine goes from one state to another by one entry.
abbrev pub Takes : State → Use → State → Type 0
Takes a u b = (TakesNext a.opened u b.opened × (b.rest ≡ a.rest)) ⊎ Opens a u b
