-- Why reading a value of a Rust type is refused: as a `Value` is, or because its data are not of the type.
use Rattle.std.specs.Prelude.{◌≡◌, ◌≢◌, ◌⊎◌, ◌<◌, ℕ, List}
use Rattle.bitcode_memory.specs.declared.error.Reason.{Reason}
use Rattle.bitcode_memory.specs.declared.error.Reason.TheVariants.{InvalidBitPattern, InvalidArrayVec, InvalidArrayString, OutOfMemory, TooManyNodes}
use Rattle.bitcode_shapes.specs.Datum.{Datum}
use Rattle.bitcode_shapes.specs.Shape.{Allowed, any_number, nonzero, scalar, between}
use Rattle.bitcode_untyped.specs.Machine.{State}
use Rattle.bitcode_untyped.specs.Nodes.{node_count}
use Rattle.bitcode_untyped.specs.Reads.{ReadsNoDatum, ReadsMany, ReadsNoFields, IsReadable}
use Rattle.bitcode_untyped.specs.ShapeTree.{any_order, admits, ShapeTree, ShapeTrees, unit_tree, never_tree, leaf_tree, seq_tree, map_tree, tuple_tree, choice_tree, noted_tree, no_trees, tree_and}
use Rattle.bitcode_untyped.specs.Walk.{Place, walk}
use Rattle.bitcode_serde.specs.ReadingValues.{HasNone, IsValueReason, field_at}
use Rattle.bitcode_serde.specs.declared.reader.Reader.{Reader}

-- ---- the reasons

-- a number of the width may be none of the type
abbrev pub RefusesNumber : Allowed → Reason → Type 0
RefusesNumber any_number reason = ⊥
RefusesNumber nonzero reason = reason ≡ InvalidBitPattern
-- this has a reason of its own
RefusesNumber scalar reason = ⊥
RefusesNumber (between low high) reason = reason ≡ InvalidBitPattern

abbrev mutual
  -- the shape admits fewer data than its columns have, and refuses the others for the reason
  pub Refuses : ShapeTree → Reason → Type 0
  Refuses unit_tree reason = ⊥
  Refuses never_tree reason = ⊥
  Refuses (leaf_tree kind allowed) reason = RefusesNumber allowed reason
  Refuses (seq_tree s) reason = Refuses s reason
  Refuses (map_tree k v) reason = Refuses k reason ⊎ Refuses v reason
  Refuses (tuple_tree ss) reason = Refuse ss reason
  Refuses (choice_tree ss) reason = Refuse ss reason
  Refuses (noted_tree any_order s) reason = Refuses s reason
  Refuses (noted_tree (admits check why) s) reason = (reason ≡ why) ⊎ Refuses s reason

  -- one of them does so
  pub Refuse : ShapeTrees → Reason → Type 0
  Refuse no_trees reason = ⊥
  Refuse (tree_and s ss) reason = Refuses s reason ⊎ Refuse ss reason

-- the reasons of a reader of values, and those for which the shape refuses
abbrev pub IsReasonOf : ShapeTree → Reason → Type 0
IsReasonOf s InvalidBitPattern = Refuses s InvalidBitPattern
IsReasonOf s InvalidArrayVec = Refuses s InvalidArrayVec
IsReasonOf s InvalidArrayString = Refuses s InvalidArrayString
IsReasonOf s reason = IsValueReason reason

-- ---- refusals: one other than want of memory comes only where this is not to be had

abbrev pub IsRefusalFor : Type 0 → Reader → ℕ → (Place → State → Type 0) → Reason → Type 0
IsRefusalFor Known old place DoesNot reason = Known × (reason ≢ OutOfMemory → HasNone old place DoesNot)

abbrev pub IsRefusalAt : ShapeTree → ℕ → Reader → Reason → Type 0
IsRefusalAt s place old reason = IsRefusalFor (IsReasonOf s reason) old place (ReadsNoDatum s) reason

abbrev pub IsListRefusalAt : ShapeTree → ℕ → Reader → ℕ → Reason → Type 0
IsListRefusalAt s place old count reason =
    IsRefusalFor (IsReasonOf s reason) old place (λ p a. (ds : List Datum) (b : State) → ReadsMany (IsReadable s) (walk s p) a count ds b → ⊥) reason

-- of field i of so many
abbrev pub IsFieldRefusalAt : ShapeTree → ℕ → ℕ → ℕ → Reader → Reason → Type 0
IsFieldRefusalAt s place i fields old reason =
    IsRefusalFor (IsReasonOf s reason) old place (λ p a. ReadsNoDatum s (field_at fields p i) a) reason

-- of the fields from the i-th on
abbrev pub IsFieldsRefusalAt : ShapeTrees → ℕ → ℕ → ℕ → Reader → Reason → Type 0
IsFieldsRefusalAt trees place i fields old reason =
    IsRefusalFor (IsReasonOf (tuple_tree trees) reason) old place (λ p a. ReadsNoFields trees (λ j. field_at fields p j) i a) reason

-- ---- a whole input

-- it spells no datum of the shape
abbrev pub IsWholeRefusal : ShapeTree → (Datum → Type 0) → Reason → Type 0
IsWholeRefusal s Spells reason = IsReasonOf s reason × (reason ≢ OutOfMemory → (d : Datum) → Spells d → ⊥)

-- Under a limit on nodes: it spells a datum with more of them, or it spells none, or there is no memory.
pub record IsRefusalWithin (s : ShapeTree) (limit : ℕ) (Spells : Datum → Type 0) (reason : Reason) : Type 0 where
  pub known : reason ≢ TooManyNodes → IsReasonOf s reason
  pub too_many : reason ≡ TooManyNodes → (d : Datum) × Spells d × (limit < node_count d)
  pub none_spelled : reason ≢ TooManyNodes → reason ≢ OutOfMemory → (d : Datum) → Spells d → ⊥
