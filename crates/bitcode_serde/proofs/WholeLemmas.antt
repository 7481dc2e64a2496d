-- Reading a whole input.
use Rattle.std.proofs.Common.{◌≡◌, ◌≢◌, ◌⊎◌, inl, inr, Bool, true, false, not, IsTrue, map, ℕ, ◌*◌, ◌≤◌, List, [], length, get_or, slice_get, Some, refl, sym, subst, ap, ◌∙◌}
use Rattle.bitcode_memory.specs.declared.error.Reason.{Reason}
use Rattle.bitcode_memory.specs.declared.error.Reason.TheVariants as reason
use Rattle.bitcode_shapes.specs.Datum.{Datum}
use Rattle.bitcode_untyped.specs.Bounds.{element_count}
use Rattle.bitcode_untyped.specs.Content.{content_of, IsOnlyContent}
use Rattle.bitcode_untyped.specs.Faults.{faults_of, value_faults}
use Rattle.std.specs.Prelude.{◌↔◌}
use Rattle.std.proofs.lemmas.Bool.{false≢true}
use Rattle.bitcode_untyped.specs.Machine.{State, start, whole}
use Rattle.bitcode_untyped.specs.PlacedColumns.{columns_of, entry_count, unplaced}
use Rattle.bitcode_untyped.specs.ShapeTree.{ShapeTree}
use Rattle.bitcode_untyped.specs.Spelling.{SpellsDatum}
use Rattle.bitcode_untyped.specs.Strict.{StrictlySpellsDatum, JudgesEach}
use Rattle.bitcode_untyped.specs.View.{datum_of, tree_of, tree_of_node, reference_limit}
use Rattle.bitcode_untyped.specs.declared.shape.Shape.{Shape}
use Rattle.bitcode_untyped.specs.declared.shape.ShapeNode.{ShapeNode}
use Rattle.bitcode_untyped.specs.declared.value.Value.{Value}
use Rattle.bitcode_untyped.proofs.ContentLemmas.{datum_decides}
use Rattle.bitcode_untyped.proofs.FollowedLemmas.{root_tree}
use Rattle.bitcode_untyped.proofs.LawLemmas.{spells_once, datum_takes_an_eighth, elements_are_bounded}
use Rattle.bitcode_untyped.proofs.ReadLemmas.{whole_read, whole_stuck, whole_trailing}
use Rattle.bitcode_untyped.proofs.SoundTreeLemmas.{sound_shape}
use Rattle.bitcode_untyped.proofs.StrictLemmas.{whole_judged}
use Rattle.bitcode_serde.specs.Reading.{Stands}
use Rattle.bitcode_serde.specs.ReadingValues.{ReadsAt, IsValueReason, IsRefusalAt}
use Rattle.bitcode_serde.specs.Strict.{IsStrictRefusal, no_memory, none_spelled}
use Rattle.bitcode_serde.specs.declared.reader.Reader.{Reader}
use Rattle.bitcode_serde.proofs.EntryLemmas.{found_entry}
use Rattle.bitcode_serde.proofs.ValueLemmas.{root_place}

memory_or_not : (why : Reason) → (why ≡ reason.OutOfMemory) ⊎ (why ≢ reason.OutOfMemory)
memory_or_not reason.OutOfMemory = inl refl
memory_or_not _ = inr (λ e. cc)

pub spelled : (s : ShapeTree) (bytes : List ℕ) (d : Datum) (old new : Reader) → Stands old (start bytes) → ReadsAt s 0 old d new
    → ((a : State) → Stands new a → a.rest ≡ []) → SpellsDatum s bytes d
spelled s bytes d old new first read last =
    let r = read [] (root_place old.places.below.items) (start bytes) first in
    whole_read s bytes d r.0 r.2 (last r.0 r.1)

pub strictly_told : (s : ShapeTree) (bytes : List ℕ) (d : Datum) (old new : Reader) → Stands old (start bytes) → ReadsAt s 0 old d new
    → ((a : State) → Stands new a → a.rest ≡ []) → new.verdict.bytes.now ≡ bytes → IsTrue new.verdict.strict
    → (IsTrue new.verdict.written ↔ StrictlySpellsDatum s bytes d)
strictly_told s bytes d old new first read last same strict =
    let r = read [] (root_place old.places.below.items) (start bytes) first in
    let end : new.input.now ≡ [] = sym r.1.input ∙ last r.0 r.1 in
    whole_judged s bytes d r.0 new.verdict.written r.2 (last r.0 r.1)
    (subst (λ b. JudgesEach (unplaced (map whole r.0.opened)) new.verdict.written b []) same
    (subst (JudgesEach (unplaced (map whole r.0.opened)) new.verdict.written new.verdict.bytes.now) end (r.1.told strict)))

pub is_other : (written : Bool) → not written ≡ true → IsTrue written → ⊥
is_other true h t = false≢true h
is_other false h t = false≢true t

pub is_written : (written : Bool) → not written ≡ false → IsTrue written
is_written true h = refl
is_written false h = absurd (false≢true (sym h))

pub strictly_refused : (s : ShapeTree) (bytes : List ℕ) (why : Reason) → IsValueReason why × (why ≢ reason.OutOfMemory → (d : Datum) → SpellsDatum s bytes d → ⊥)
    → IsStrictRefusal s why bytes
strictly_refused s bytes why h = elim (memory_or_not why) [ inl memory ↦ no_memory memory | inr other ↦ none_spelled h.0 (h.1 other) ]

pub more_behind : (s : ShapeTree) (bytes : List ℕ) (d : Datum) (old new : Reader) → Stands old (start bytes) → ReadsAt s 0 old d new
    → ((a : State) → Stands new a → a.rest ≢ []) → (e : Datum) → SpellsDatum s bytes e → ⊥
more_behind s bytes d old new first read more =
    let r = read [] (root_place old.places.below.items) (start bytes) first in
    whole_trailing s bytes d r.0 r.2 (more r.0 r.1)

pub none_found : (s : ShapeTree) (bytes : List ℕ) (old : Reader) (why : Reason) → Stands old (start bytes) → IsRefusalAt s 0 old why
    → IsValueReason why × (why ≢ reason.OutOfMemory → (d : Datum) → SpellsDatum s bytes d → ⊥)
none_found s bytes old why first h =
    (h.0, λ other. whole_stuck s bytes (h.1 other [] (root_place old.places.below.items) (start bytes) first))

pub one_spelled : (s : ShapeTree) (bytes : List ℕ) (d e : Datum) → SpellsDatum s bytes d → SpellsDatum s bytes e → d ≡ e
one_spelled s bytes d e h k = (spells_once s bytes bytes [] [] d e h k refl).0

pub size_bound : (shape : Shape) (bytes : List ℕ) (d : Datum) → SpellsDatum (tree_of shape) bytes d → entry_count (columns_of (tree_of shape) d) ≤ 8 * length bytes
size_bound shape bytes d h = datum_takes_an_eighth (tree_of shape) (sound_shape shape) bytes d h

pub bounded : (shape : Shape) (bytes : List ℕ) (d : Datum) → SpellsDatum (tree_of shape) bytes d → element_count d ≤ 524296 * length bytes
bounded shape bytes d h = (elements_are_bounded (tree_of shape) (sound_shape shape)).by_bytes bytes d h

-- ---- the root

pub root_there : (shape : Shape) (table : List ShapeNode) (root : ℕ) (n : ShapeNode) → table ≡ shape.table.items → root ≡ shape.root → n ≡ get_or table root n
    → slice_get shape.table.items shape.root ≡ Some n
root_there shape table root n t r is =
    let at : n ≡ get_or shape.table.items root n = subst (λ ns. n ≡ get_or ns root n) t is in
    let there : n ≡ get_or shape.table.items shape.root n = subst (λ i. n ≡ get_or shape.table.items i n) r at in
    found_entry shape.table.items shape.root n shape.sound.root_in there

-- the tree of a shape is that of its root
pub root_is : (shape : Shape) (table : List ShapeNode) (root : ℕ) (n : ShapeNode) → table ≡ shape.table.items → root ≡ shape.root → n ≡ get_or table root n
    → tree_of shape ≡ tree_of_node reference_limit table n
root_is shape table root n t r is =
    root_tree shape n (root_there shape table root n t r is) ∙ ap (λ ns. tree_of_node reference_limit ns n) (sym t)

-- a value of a shape is one of its root
pub root_whole : (shape : Shape) (table : List ShapeNode) (root : ℕ) (n : ShapeNode) (v : Value) → table ≡ shape.table.items → root ≡ shape.root
    → n ≡ get_or table root n → faults_of table v reference_limit n ≡ [] → value_faults shape v ≡ []
root_whole shape table root n v t r is h =
    rw (root_there shape table root n t r is) (subst (λ ns. faults_of ns v reference_limit n ≡ []) t h)

-- the datum of a value of the shape is that of no other
pub only_value : (shape : Shape) (bytes : List ℕ) (value : Value) → SpellsDatum (tree_of shape) bytes (datum_of value) → value_faults shape value ≡ []
    → IsOnlyContent shape (SpellsDatum (tree_of shape) bytes) (content_of value)
only_value shape bytes value spells whole other h spelled =
    datum_decides shape other value h whole (one_spelled (tree_of shape) bytes (datum_of other) (datum_of value) spelled spells)
