-- What a writer has written.
use Rattle.std.specs.Prelude.{◌≡◌, ℕ, ◌≤◌, ◌⊎◌, List, [], ◌∷◌, ◌++◌, length, map}
use Rattle.std.specs.List.{AllByRecursion}
use Rattle.bitcode_memory.specs.declared.error.Reason.{Reason}
use Rattle.bitcode_memory.specs.declared.error.Reason.TheVariants.{OutOfMemory}
use Rattle.bitcode_coder.specs.Columns.{Kind, Column}
use Rattle.bitcode_untyped.specs.Growing.{put_all}
use Rattle.bitcode_untyped.specs.PlacedColumns.{PlacedColumn}
use Rattle.bitcode_untyped.specs.PlaceKinds.{HasKindFrom}
use Rattle.bitcode_untyped.specs.ShapeTree.{ShapeTree}
use Rattle.bitcode_untyped.specs.Walk.{Place, Use}
use Rattle.bitcode_serde.specs.Places.{place_at, places}
use Rattle.bitcode_serde.specs.WrittenColumns.{kind_of_written, entries_of}
use Rattle.bitcode_serde.specs.declared.writer.state.PlacedWritten.{PlacedWritten}
use Rattle.bitcode_serde.specs.declared.writer.state.Writer.{Writer}

abbrev pub placed : List Place → PlacedWritten → PlacedColumn
placed ps c = record { place = place_at ps c.place; kind = kind_of_written c.column; entries = entries_of c.column }

-- a column, wherever it stands
abbrev pub column_of : PlacedWritten → Column
column_of c = record { kind = kind_of_written c.column; entries = entries_of c.column }

-- the columns so far, each at its place
abbrev pub written : Writer → List PlacedColumn
written w = map (placed (places w.places.below.items)) w.columns.items

-- the place of a number
abbrev pub place_in : Writer → ℕ → Place
place_in w n = place_at (places w.places.below.items) n

-- no place is forgotten, and numbers stay
pub record Grows (old new : Writer) : Type 0 where
  pub more : List Place
  pub places : places new.places.below.items ≡ places old.places.below.items ++ more
  pub size : length old.places.below.items ≤ length new.places.below.items

-- The uses were written, one after another.
pub record Writes (old : Writer) (uses : List Use) (new : Writer) : Type 0 where
  pub grows : Grows old new
  pub columns : written new ≡ put_all uses (written old)

-- each column is one of the shape
abbrev pub AreOfShape : ShapeTree → List PlacedColumn → Type 0
AreOfShape root cs = AllByRecursion (λ c. HasKindFrom root [] c.place c.kind) cs

-- the columns of the tree, at the place, are those of the shape
abbrev pub IsPartOf : ShapeTree → ShapeTree → Place → Type 0
IsPartOf root tree p = (q : Place) (kind : Kind) → HasKindFrom tree p q kind → HasKindFrom root [] q kind

-- a reason among several
abbrev pub IsAmong : Reason → List Reason → Type 0
IsAmong reason [] = ⊥
IsAmong reason (r ∷ rs) = (reason ≡ r) ⊎ IsAmong reason rs

-- why a writer refuses: want of memory, or one of the faults
abbrev pub IsWriterReason : Reason → List Reason → Type 0
IsWriterReason reason faults = (reason ≡ OutOfMemory) ⊎ IsAmong reason faults

-- the same, where the columns so far and the tree are of one shape
abbrev pub RefusesAt : Writer → ShapeTree → ℕ → List Reason → Reason → Type 0
RefusesAt w tree n faults reason = (root : ShapeTree) → AreOfShape root (written w) → IsPartOf root tree (place_in w n) → IsWriterReason reason faults
