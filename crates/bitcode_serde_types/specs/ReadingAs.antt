-- What reading a value of a Rust type does.
use Rattle.std.specs.Prelude.{◌≡◌, ℕ, List, map}
use Rattle.std.specs.List.{AllZip}
use Rattle.bitcode_shapes.specs.Datum.{Datum, Data, data_of}
use Rattle.bitcode_untyped.specs.Machine.{State}
use Rattle.bitcode_untyped.specs.Nodes.{node_count, node_counts}
use Rattle.bitcode_untyped.specs.Reads.{ReadsFields}
use Rattle.bitcode_untyped.specs.ShapeTree.{ShapeTree, ShapeTrees}
use Rattle.bitcode_untyped.specs.Spelling.{SpellsDatum}
use Rattle.bitcode_untyped.specs.Walk.{Place}
use Rattle.bitcode_serde.specs.Budget.{spend, IsLeft}
use Rattle.bitcode_serde.specs.Places.{IsPlace}
use Rattle.bitcode_serde.specs.Reading.{Stands}
use Rattle.bitcode_serde.specs.ReadingValues.{Continues, ReadsAt, ReadsFieldAt, ReadsListAt, GoesAlong, field_at}
use Rattle.bitcode_serde.specs.declared.budget.Budget.{Budget}
use Rattle.bitcode_serde.specs.declared.reader.Reader.{Reader}
use Rattle.bitcode_serde_types.specs.Restates.{Restates, RestatesFields}

-- A datum is read and its nodes are taken from the budget. Unless that is spent, what is kept is this of the datum.
pub record KeepsAs {A : Type 0} (Is : Datum → Datum → Type 0) (content : A → Datum) (Reads : Datum → Type 0) (before : Budget) (kept : A) (after : Budget) : Type 0 where
  pub datum : Datum
  pub read : Reads datum
  pub taken : after ≡ spend (node_count datum) before
  pub same : IsLeft after → Is datum (content kept)

-- The same of several data.
pub record KeepsEachAs {A : Type 0} (Is : Datum → Datum → Type 0) (content : A → Datum) (Reads : List Datum → Type 0) (before : Budget) (kept : List A) (after : Budget) : Type 0 where
  pub listing : List Datum
  pub read : Reads listing
  pub taken : after ≡ spend (node_counts (data_of listing)) before
  pub same : IsLeft after → AllZip Is listing (map content kept)

-- A datum is read at the place, and its nodes are taken from the budget. Unless that is spent, the value's content
-- restates it.
abbrev pub ReadsAs : {A : Type 0} → (A → Datum) → ShapeTree → ℕ → Reader → Budget → A → Reader → Budget → Type 0
ReadsAs datum s place old before t new after = KeepsAs (Restates s) datum (λ d. ReadsAt s place old d new) before t after

-- the same of so many data, one after another
abbrev pub ReadsEachAs : {A : Type 0} → (A → Datum) → ShapeTree → ℕ → Reader → Budget → ℕ → List A → Reader → Budget → Type 0
ReadsEachAs datum s place old before count ts new after =
    KeepsEachAs (Restates s) datum (λ ds. ReadsListAt s place old count ds new) before ts after

-- the same of field i of so many of a tuple at the place
abbrev pub ReadsFieldAs : {A : Type 0} → (A → Datum) → ShapeTree → ℕ → ℕ → ℕ → Reader → Budget → A → Reader → Budget → Type 0
ReadsFieldAs datum s place i fields old before t new after = KeepsAs (Restates s) datum (λ d. ReadsFieldAt s place i fields old d new) before t after

-- The place of field i of so many of a tuple at the place.
pub record FieldFound (old : Reader) (place i fields : ℕ) (new : Reader) (inside : ℕ) : Type 0 where
  pub continues : Continues old new
  pub found : (p : Place) → IsPlace old.places.below.items place p → IsPlace new.places.below.items inside (field_at fields p i)
  pub stands : (a : State) → Stands old a → Stands new a

-- ---- the fields of a tuple, from one on

-- The fields from the i-th on of so many are read, and their nodes are taken from the budget. Unless that is spent,
-- what is kept restates each.
pub record ReadsFieldsAs {A : Type 0} (content : A → Data) (trees : ShapeTrees) (place i fields : ℕ) (old : Reader) (before : Budget) (kept : A) (new : Reader)
    (after : Budget) : Type 0 where
  pub found : Data
  pub read : GoesAlong old place new (λ p a b. ReadsFields trees (λ j. field_at fields p j) i a found b)
  pub taken : after ≡ spend (node_counts found) before
  pub same : IsLeft after → RestatesFields trees found (content kept)

-- ---- a whole input

-- the input spells a datum that this restates
abbrev pub SpellsAs : ShapeTree → List ℕ → Datum → Type 0
SpellsAs s bytes e = (d : Datum) × SpellsDatum s bytes d × Restates s d e
