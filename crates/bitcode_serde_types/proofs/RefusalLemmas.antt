-- Refusals of values of Rust types, by those of their parts.
use Rattle.std.proofs.Common.{◌≢◌, inl, inr, ℕ, zero, suc, ◌<◌, List, refl, subst}
use Rattle.bitcode_memory.specs.declared.error.Reason.{Reason}
use Rattle.bitcode_memory.specs.declared.error.Reason.TheVariants as reason
use Rattle.bitcode_memory.specs.declared.error.Reason.TheVariants.{ExpectedEof, OutOfMemory, TooManyNodes}
use Rattle.bitcode_shapes.specs.Datum.{Datum}
use Rattle.bitcode_coder.specs.Spelling.{natural}
use Rattle.bitcode_untyped.specs.Machine.{State, start}
use Rattle.bitcode_untyped.specs.Nodes.{node_count}
use Rattle.bitcode_untyped.specs.ShapeTree.{ShapeTree, ShapeTrees, seq_tree, choice_tree, no_trees, tree_and, tree_at}
use Rattle.bitcode_untyped.specs.Spelling.{SpellsDatum}
use Rattle.bitcode_untyped.specs.Walk.{Place, variant, index_kind}
use Rattle.bitcode_serde.specs.Places.{IsPlace}
use Rattle.bitcode_serde.specs.Reading.{Stands}
use Rattle.bitcode_serde.specs.ReadingValues.{Continues, Enters, EntersList, ReadsListAt, IsValueReason, IsRefusalAt as IsValueRefusalAt, field_at}
use Rattle.bitcode_serde.specs.declared.reader.Reader.{Reader}
use Rattle.bitcode_serde.proofs.FieldLemmas.{field_inside_refused as value_inside_refused}
use Rattle.bitcode_serde.proofs.ValueLemmas.{list_stuck as value_list_stuck, seq_refused as value_seq_refused, choice_refused as value_choice_refused}
use Rattle.bitcode_serde.proofs.WholeLemmas.{none_found as value_none_found}
use Rattle.bitcode_serde_types.specs.Joined.{joined}
use Rattle.bitcode_serde_types.specs.Refusals.{Refuses, Refuse, IsReasonOf, IsRefusalAt, IsListRefusalAt, IsFieldRefusalAt, IsWholeRefusal, IsRefusalWithin}

-- ---- reasons

pub known_of : (s : ShapeTree) (why : Reason) → IsValueReason why → IsReasonOf s why
known_of s reason.InvalidBitPattern h = absurd h
known_of s reason.InvalidArrayVec h = absurd h
known_of s reason.InvalidArrayString h = absurd h
known_of s reason.Eof h = h
known_of s reason.ExpectedEof h = h
known_of s reason.InvalidPacking h = h
known_of s reason.LengthOverflow h = h
known_of s reason.HugeLength h = h
known_of s reason.InvalidUtf8 h = h
known_of s reason.InvalidEnumVariant h = h
known_of s reason.InvalidOption h = h
known_of s reason.InvalidChar h = h
known_of s reason.TooManyZeroSizedTypes h = h
known_of s reason.TooManyVariants h = h
known_of s reason.NotOfTheShape h = h
known_of s reason.NestedTooDeep h = h
known_of s reason.OutOfMemory h = h
known_of s reason.BadShape h = h
known_of s reason.NotTheWrittenText h = h
known_of s reason.TooManyNodes h = h

-- what holds of a part holds of the whole
pub reason_up : (s t : ShapeTree) (why : Reason) → (Refuses s why → Refuses t why) → IsReasonOf s why → IsReasonOf t why
reason_up s t reason.InvalidBitPattern f h = f h
reason_up s t reason.InvalidArrayVec f h = f h
reason_up s t reason.InvalidArrayString f h = f h
reason_up s t reason.Eof f h = h
reason_up s t reason.ExpectedEof f h = h
reason_up s t reason.InvalidPacking f h = h
reason_up s t reason.LengthOverflow f h = h
reason_up s t reason.HugeLength f h = h
reason_up s t reason.InvalidUtf8 f h = h
reason_up s t reason.InvalidEnumVariant f h = h
reason_up s t reason.InvalidOption f h = h
reason_up s t reason.InvalidChar f h = h
reason_up s t reason.TooManyZeroSizedTypes f h = h
reason_up s t reason.TooManyVariants f h = h
reason_up s t reason.NotOfTheShape f h = h
reason_up s t reason.NestedTooDeep f h = h
reason_up s t reason.OutOfMemory f h = h
reason_up s t reason.BadShape f h = h
reason_up s t reason.NotTheWrittenText f h = h
reason_up s t reason.TooManyNodes f h = h

-- a refusal of a reader of values
pub as_value : (s : ShapeTree) (place : ℕ) (old : Reader) (why : Reason) → IsValueRefusalAt s place old why → IsRefusalAt s place old why
as_value s place old why h = (known_of s why h.0, h.1)

pub refuse_at : (ss : ShapeTrees) (i : ℕ) (why : Reason) → Refuses (tree_at ss i) why → Refuse ss why
refuse_at no_trees i why h = h
refuse_at (tree_and s ss) zero why h = inl h
refuse_at (tree_and s ss) (suc i) why h = inr (refuse_at ss i why h)

pub refuse_first : (ps rs : ShapeTrees) (why : Reason) → Refuse ps why → Refuse (joined ps rs) why
refuse_first no_trees rs why h = absurd h
refuse_first (tree_and s ps) rs why (inl h) = inl h
refuse_first (tree_and s ps) rs why (inr h) = inr (refuse_first ps rs why h)

pub refuse_rest : (ps rs : ShapeTrees) (why : Reason) → Refuse rs why → Refuse (joined ps rs) why
refuse_rest no_trees rs why h = h
refuse_rest (tree_and s ps) rs why h = inr (refuse_rest ps rs why h)

-- ---- parts and wholes, by the lemmas of values, which hold for any reason

not_memory : ExpectedEof ≢ OutOfMemory
not_memory e = cc

pub list_stuck : (s : ShapeTree) (place : ℕ) (old mid : Reader) (i n : ℕ) (ds : List Datum) (why : Reason) → Continues old mid
    → ReadsListAt s place old i ds mid → i < n → IsRefusalAt s place mid why → IsListRefusalAt s place old n why
list_stuck s place old mid i n ds why c many lt h =
    (h.0, λ other. (value_list_stuck s place old mid i n ds ExpectedEof c many lt (tt, λ eof. h.1 other)).1 not_memory)

pub seq_refused : (s : ShapeTree) (old mid : Reader) (place inside n : ℕ) (why : Reason) → EntersList old mid place inside n
    → IsListRefusalAt s inside mid n why → IsRefusalAt (seq_tree s) place old why
seq_refused s old mid place inside n why enters h =
    (reason_up s (seq_tree s) why (λ r. r) h.0, λ other. (value_seq_refused s old mid place inside n ExpectedEof enters (tt, λ eof. h.1 other)).1 not_memory)

pub choice_refused : (ss : ShapeTrees) (i : ℕ) (old mid : Reader) (place inside : ℕ) (why : Reason)
    → Enters (variant i) index_kind (natural i) old mid place inside → IsRefusalAt (tree_at ss i) inside mid why → IsRefusalAt (choice_tree ss) place old why
choice_refused ss i old mid place inside why enters h = (
  reason_up (tree_at ss i) (choice_tree ss) why (refuse_at ss i why) h.0,
  λ other. (value_choice_refused ss i old mid place inside ExpectedEof enters (tt, λ eof. h.1 other)).1 not_memory,
)

pub field_inside_refused : (s : ShapeTree) (place i fields : ℕ) (old below : Reader) (inside : ℕ)
    → ((p : Place) → IsPlace old.places.below.items place p → IsPlace below.places.below.items inside (field_at fields p i))
    → ((a : State) → Stands old a → Stands below a) → (why : Reason) → IsRefusalAt s inside below why → IsFieldRefusalAt s place i fields old why
field_inside_refused s place i fields old below inside found stands why h =
    (h.0, λ other. (value_inside_refused s place i fields old below inside found stands ExpectedEof (tt, λ eof. h.1 other)).1 not_memory)

-- ---- a whole input

pub none_found : (s : ShapeTree) (bytes : List ℕ) (old : Reader) (why : Reason) → Stands old (start bytes) → IsRefusalAt s 0 old why
    → IsWholeRefusal s (SpellsDatum s bytes) why
none_found s bytes old why first h =
    (h.0, λ other. (value_none_found s bytes old ExpectedEof first (tt, λ eof. h.1 other)).1 not_memory)

-- a refusal without a limit is one under it
pub refused_too : (s : ShapeTree) (limit : ℕ) (Spells : Datum → Type 0) (why : Reason) → IsWholeRefusal s Spells why → IsRefusalWithin s limit Spells why
refused_too s limit Spells why h = record {
  known = λ other. h.0;
  too_many = λ is. let never : ⊥ = subst (IsReasonOf s) is h.0 in absurd never;
  none_spelled = λ other memory. h.1 memory;
}

pub too_many_refused : (s : ShapeTree) (limit : ℕ) (Spells : Datum → Type 0) (d : Datum) → Spells d → limit < node_count d
    → IsRefusalWithin s limit Spells TooManyNodes
too_many_refused s limit Spells d spelled over = record {
  known = λ other. absurd (other refl);
  too_many = λ is. (d, spelled, over);
  none_spelled = λ other memory. absurd (other refl);
}
