-- What is read of a value, from one reader to the next.
use Rattle.std.specs.Prelude.{◌≡◌, ◌≢◌, ◌<◌, ℕ, zero, suc, List, [], ◌∷◌, ◌++◌, Vec, Box}
use Rattle.std.specs.Global.{Global}
use Rattle.bitcode_memory.specs.declared.error.Reason.{Reason}
use Rattle.bitcode_memory.specs.declared.error.Reason.TheVariants.{ExpectedEof, InvalidEnumVariant, OutOfMemory, InvalidOption, InvalidChar, TooManyZeroSizedTypes, NestedTooDeep, NotOfTheShape, TooManyNodes}
use Rattle.bitcode_shapes.specs.Datum.{Datum}
use Rattle.bitcode_shapes.specs.Shape.{any_number}
use Rattle.bitcode_coder.specs.Columns.{Kind, IsEntryOf}
use Rattle.bitcode_coder.specs.Spelling.{natural}
use Rattle.bitcode_untyped.specs.Faults.{faults_of}
use Rattle.bitcode_untyped.specs.Machine.{State, Takes}
use Rattle.bitcode_untyped.specs.Nodes.{node_count}
use Rattle.bitcode_untyped.specs.Reads.{ReadsDatum, ReadsNoDatum, IsReadable, ReadsMany}
use Rattle.bitcode_untyped.specs.ShapeTree.{ShapeTree, leaf_tree}
use Rattle.bitcode_untyped.specs.View.{datum_of, tree_by}
use Rattle.bitcode_untyped.specs.Walk.{Step, element, field, Place, use_at, length_kind, walk}
use Rattle.bitcode_untyped.specs.declared.shape.ShapeNode.{ShapeNode}
use Rattle.bitcode_untyped.specs.declared.shape.ShapeNode.TheVariants as node
use Rattle.bitcode_untyped.specs.declared.value.Value.{Value}
use Rattle.bitcode_serde.specs.ReadColumns.{kind_of, IsCaseOf, IsColumnReason}
use Rattle.bitcode_serde.specs.Budget.{Keeps, KeepsEach, IsLeft}
use Rattle.bitcode_serde.specs.Reading.{AreSized, IsAskedAs, Stands}
use Rattle.bitcode_serde.specs.Places.{IsPlace}
use Rattle.bitcode_serde.specs.declared.budget.Budget.{Budget}
use Rattle.bitcode_serde.specs.declared.column.ColumnKind.{ColumnKind}
use Rattle.bitcode_serde.specs.declared.column.ColumnKind.TheVariants.{Lengths}
use Rattle.bitcode_serde.specs.declared.reader.Reader.{Reader}

-- between two calls
pub record IsSteady (r : Reader) : Type 0 where
  pub sized : AreSized r.columns.items

-- The places of the old reader are the new one's too, by the same numbers.
pub record Continues (old new : Reader) : Type 0 where
  pub steady : IsSteady new
  pub asked : IsAskedAs old new
  pub kept : (i : ℕ) (p : Place) → IsPlace old.places.below.items i p → IsPlace new.places.below.items i p

-- The machine goes along with the reader, and what it does at the place is this.
abbrev pub GoesAlong : Reader → ℕ → Reader → (Place → State → State → Type 0) → Type 0
GoesAlong old place new Does =
    (p : Place) → IsPlace old.places.below.items place p → (a : State) → Stands old a → (b : State) × Stands new b × Does p a b

-- The machine does not do this where the reader stands.
abbrev pub HasNone : Reader → ℕ → (Place → State → Type 0) → Type 0
HasNone old place DoesNot = (p : Place) → IsPlace old.places.below.items place p → (a : State) → Stands old a → DoesNot p a

-- An entry is taken, and what it counts stands at a place one step below.
pub record Enters (way : Step) (kind : Kind) (d : Datum) (old new : Reader) (place inside : ℕ) : Type 0 where
  pub at : (p : Place) → IsPlace old.places.below.items place p → IsPlace new.places.below.items inside (way ∷ p)
  pub goes : GoesAlong old place new (λ p a b. Takes a (use_at p kind d) b × IsEntryOf kind d)

abbrev pub EntersList : Reader → Reader → ℕ → ℕ → ℕ → Type 0
EntersList old new place inside n = Enters element length_kind (natural n) old new place inside

-- a datum is read at the place
abbrev pub ReadsAt : ShapeTree → ℕ → Reader → Datum → Reader → Type 0
ReadsAt s place old d new = GoesAlong old place new (λ p a b. ReadsDatum s p a d b)

-- so many data are read at the place, one after another
abbrev pub ReadsListAt : ShapeTree → ℕ → Reader → ℕ → List Datum → Reader → Type 0
ReadsListAt s place old count ds new = GoesAlong old place new (λ p a b. ReadsMany (IsReadable s) (walk s p) a count ds b)

-- the same, as far as a budget of nodes keeps it
abbrev pub ReadsWithin : ShapeTree → ℕ → Reader → Budget → Value → Reader → Budget → Type 0
ReadsWithin s place old before v new after = Keeps datum_of (λ d. ReadsAt s place old d new) before v after

abbrev pub ReadsListWithin : ShapeTree → ℕ → Reader → Budget → ℕ → List Value → Reader → Budget → Type 0
ReadsListWithin s place old before count vs new after = KeepsEach datum_of (λ ds. ReadsListAt s place old count ds new) before vs after

-- a value is read at the place from a column of the kind, and stands behind the others
pub record AddsRead (kind : ColumnKind) (place : ℕ) (old new : Reader) (those all : List Value) : Type 0 where
  pub value : Value
  pub added : all ≡ those ++ value ∷ []
  pub read : ReadsAt (leaf_tree (kind_of kind) any_number) place old (datum_of value) new
  pub of_case : IsCaseOf kind value

-- A value is read, as far as a budget keeps it. Unless that is spent, the value stands behind the others.
pub record AddsKept (Reads : Datum → Type 0) (IsWhole : Value → Type 0) (before : Budget) (those : List Value) (after : Budget) (all : List Value) : Type 0 where
  pub value : Value
  pub read : Keeps datum_of Reads before value after
  pub whole : IsLeft after → IsWhole value
  pub added : IsLeft after → all ≡ those ++ value ∷ []

-- the same of a value at the place
abbrev pub AddsWithin : ShapeTree → (Value → Type 0) → ℕ → Reader → Budget → List Value → Reader → Budget → List Value → Type 0
AddsWithin s IsWhole place old before those new after all = AddsKept (λ d. ReadsAt s place old d new) IsWhole before those after all

-- the reasons of refusals by a reader of values
abbrev pub IsValueReason : Reason → Type 0
IsValueReason ExpectedEof = Unit {0}
IsValueReason InvalidEnumVariant = Unit {0}
IsValueReason InvalidOption = Unit {0}
IsValueReason InvalidChar = Unit {0}
IsValueReason TooManyZeroSizedTypes = Unit {0}
IsValueReason NestedTooDeep = Unit {0}
IsValueReason reason = IsColumnReason reason

-- a refusal other than want of memory comes only where this is not to be had
abbrev pub IsRefusalOf : Reader → ℕ → (Place → State → Type 0) → Reason → Type 0
IsRefusalOf old place DoesNot reason = IsValueReason reason × (reason ≢ OutOfMemory → HasNone old place DoesNot)

abbrev pub IsRefusalAt : ShapeTree → ℕ → Reader → Reason → Type 0
IsRefusalAt s place old = IsRefusalOf old place (ReadsNoDatum s)

-- the same of a node that holds no others, wherever references lead
abbrev pub ReadsLeafAt : ShapeNode → ℕ → Reader → Datum → Reader → Type 0
ReadsLeafAt n place old d new = (follow : ℕ → ShapeTree) → ReadsAt (tree_by follow n) place old d new

abbrev pub IsLeafRefusalAt : ShapeNode → ℕ → Reader → Reason → Type 0
IsLeafRefusalAt n place old reason = (follow : ℕ → ShapeTree) → IsRefusalAt (tree_by follow n) place old reason

abbrev pub IsListRefusalAt : ShapeTree → ℕ → Reader → ℕ → Reason → Type 0
IsListRefusalAt s place old count =
    IsRefusalOf old place (λ p a. (ds : List Datum) (b : State) → ReadsMany (IsReadable s) (walk s p) a count ds b → ⊥)

-- ---- fields

-- where field i of so many stands: a tuple of one has no place of its own
abbrev pub field_at : ℕ → Place → ℕ → Place
field_at (suc zero) p i = p
field_at _ p i = field i ∷ p

-- field i of so many of a tuple at the place
abbrev pub ReadsFieldAt : ShapeTree → ℕ → ℕ → ℕ → Reader → Datum → Reader → Type 0
ReadsFieldAt s place i fields old d new = GoesAlong old place new (λ p a b. ReadsDatum s (field_at fields p i) a d b)

abbrev pub AddsFieldWithin : ShapeTree → (Value → Type 0) → ℕ → ℕ → ℕ → Reader → Budget → List Value → Reader → Budget → List Value → Type 0
AddsFieldWithin s IsWhole place i fields old before those new after all =
    AddsKept (λ d. ReadsFieldAt s place i fields old d new) IsWhole before those after all

abbrev pub IsFieldRefusalAt : ShapeTree → ℕ → ℕ → ℕ → Reader → Reason → Type 0
IsFieldRefusalAt s place i fields old = IsRefusalOf old place (λ p a. ReadsNoDatum s (field_at fields p i) a)

-- ---- values of the cases of their nodes

-- of a node that holds no others
abbrev pub IsOfLeaf : ShapeNode → Value → Type 0
IsOfLeaf n v = (table : List ShapeNode) (left : ℕ) → faults_of table v left n ≡ []

-- the values of the node are all the entries of a column of the kind
pub record HasColumn (n : ShapeNode) (kind : ColumnKind) : Type 0 where
  pub tree : (follow : ℕ → ShapeTree) → tree_by follow n ≡ leaf_tree (kind_of kind) any_number
  pub values : kind ≢ Lengths
  pub whole : (v : Value) → IsCaseOf kind v → IsOfLeaf n v
  pub other : (v : Value) → (IsCaseOf kind v → ⊥) → (table : List ShapeNode) (left : ℕ) → faults_of table v left n ≡ NotOfTheShape ∷ []

abbrev pub IsOfChar : Value → Type 0
IsOfChar = IsOfLeaf node.Char

abbrev pub IsOfBytes : Value → Type 0
IsOfBytes = IsOfLeaf node.Bytes

-- of an option of a node, in whichever box the node stands
abbrev pub IsOfOption : List ShapeNode → ℕ → ShapeNode → Value → Type 0
IsOfOption table left n v = (b : Box ShapeNode Global) → b.value ≡ n → faults_of table v left (node.Option b) ≡ []

abbrev pub IsOfSeq : List ShapeNode → ℕ → ShapeNode → Value → Type 0
IsOfSeq table left n v = (b : Box ShapeNode Global) → b.value ≡ n → faults_of table v left (node.Seq b) ≡ []

abbrev pub IsOfMap : List ShapeNode → ℕ → ShapeNode → ShapeNode → Value → Type 0
IsOfMap table left key value v =
    (k w : Box ShapeNode Global) → k.value ≡ key → w.value ≡ value → faults_of table v left (node.Map k w) ≡ []

abbrev pub IsOfTuple : List ShapeNode → ℕ → List ShapeNode → Value → Type 0
IsOfTuple table left nodes v = (ns : Vec ShapeNode Global) → ns.items ≡ nodes → faults_of table v left (node.Tuple ns) ≡ []

abbrev pub IsOfEnum : List ShapeNode → ℕ → List ShapeNode → Value → Type 0
IsOfEnum table left nodes v = (ns : Vec ShapeNode Global) → ns.items ≡ nodes → faults_of table v left (node.Enum ns) ≡ []

-- ---- a whole input, under a limit on nodes

-- Why it is refused: it spells a datum with more nodes than the limit, or it spells none, or there is no memory.
pub record IsRefusalWithin (limit : ℕ) (Spells : Datum → Type 0) (reason : Reason) : Type 0 where
  pub known : reason ≢ TooManyNodes → IsValueReason reason
  pub too_many : reason ≡ TooManyNodes → (d : Datum) × Spells d × (limit < node_count d)
  pub none_spelled : reason ≢ TooManyNodes → reason ≢ OutOfMemory → (d : Datum) → Spells d → ⊥
