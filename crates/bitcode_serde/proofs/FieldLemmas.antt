-- Reading the fields of a tuple, one after another.
use Rattle.std.proofs.Common.{◌≡◌, ◌≢◌, ◌<◌, ◌≤◌, ℕ, zero, suc, ◌+◌, ◌-◌, arith, true, List, [], ◌∷◌, ◌++◌, length, map, drop, Some, None, slice_get, refl, sym, ap, subst, ◌∙◌, add-one}
use Rattle.bitcode_memory.specs.declared.error.Reason.{Reason}
use Rattle.bitcode_shapes.specs.Datum.{Datum, tuple, data_of}
use Rattle.bitcode_untyped.specs.Bounds.{column_free}
use Rattle.bitcode_untyped.specs.Machine.{State}
use Rattle.bitcode_untyped.specs.Nodes.{node_count}
use Rattle.bitcode_untyped.specs.Reads.{ReadsDatum, ReadsNoDatum}
use Rattle.bitcode_untyped.specs.ShapeTree.{ShapeTree, ShapeTrees, tree_and, never_tree, tuple_tree, tree_at, IsSound}
use Rattle.bitcode_untyped.specs.View.{datum_of, trees_of}
use Rattle.bitcode_untyped.specs.Walk.{field, Place, field_place}
use Rattle.bitcode_untyped.proofs.ReadLemmas.{FieldsSoFar, no_fields_yet, one_field_more, all_fields, fields_stuck_first, tuple_read, tuple_stuck}
use Rattle.bitcode_untyped.specs.declared.shape.ShapeNode.{ShapeNode}
use Rattle.bitcode_untyped.specs.declared.value.Value.{Value}
use Rattle.bitcode_untyped.specs.declared.value.Value.TheVariants as value
use Rattle.bitcode_untyped.proofs.FreeLemmas.{free_datum, free_read}
use Rattle.bitcode_serde.specs.Reading.{Stands}
use Rattle.bitcode_serde.specs.Places.{IsPlace}
use Rattle.bitcode_serde.specs.Budget.{IsLeft, spend, KeepsEach}
use Rattle.bitcode_serde.specs.ReadingValues.{Continues, GoesAlong, ReadsAt, IsRefusalAt, field_at, AddsKept, ReadsFieldAt, AddsFieldWithin, IsFieldRefusalAt}
use Rattle.bitcode_serde.specs.Free.{AreFreeBetween}
use Rattle.bitcode_serde.specs.declared.budget.Budget.{Budget}
use Rattle.bitcode_serde.specs.declared.budget.Budget.TheVariants.{Endless, Nodes, Spent}
use Rattle.bitcode_serde.proofs.BudgetLemmas.{spend-Spent, keeps_more}
use Rattle.bitcode_serde.proofs.FreeLemmas.{free_elsewhere}
use Rattle.bitcode_serde.specs.declared.reader.Reader.{Reader}

pub field_at_several : (n : ℕ) (p : Place) (i : ℕ) → n ≢ 1 → field_at n p i ≡ field i ∷ p
field_at_several zero p i h = refl
field_at_several (suc zero) p i h = absurd (h refl)
field_at_several (suc (suc n)) p i h = refl

node_at : (ns : List ShapeNode) (i : ℕ) → i < length ns → (n : ShapeNode) × (slice_get ns i ≡ Some n)
node_at [] i h = absurd (omega (arith, h))
node_at (n ∷ ns) zero h = (n, refl)
node_at (n ∷ ns) (suc i) h = node_at ns i (omega (arith, h))

module _ (f : ShapeNode → ShapeTree) where
  pub tree_at_entry : (ns : List ShapeNode) (i : ℕ) (n : ShapeNode) → slice_get ns i ≡ Some n → tree_at (trees_of (map f ns)) i ≡ f n
  tree_at_entry [] i n h = cc
  tree_at_entry (m ∷ ns) zero n h = let e : m ≡ n = cc in ap f e
  tree_at_entry (m ∷ ns) (suc i) n h = tree_at_entry ns i n h

  pub tree_at_none : (ns : List ShapeNode) (i : ℕ) → slice_get ns i ≡ None → tree_at (trees_of (map f ns)) i ≡ never_tree
  tree_at_none [] i h = refl
  tree_at_none (m ∷ ns) zero h = cc
  tree_at_none (m ∷ ns) (suc i) h = tree_at_none ns i h

  trees_from : (ns : List ShapeNode) (i : ℕ) (n : ShapeNode) → slice_get ns i ≡ Some n
      → trees_of (map f (drop i ns)) ≡ tree_and (f n) (trees_of (map f (drop (suc i) ns)))
  trees_from [] i n h = cc
  trees_from (m ∷ ns) zero n h = let e : m ≡ n = cc in ap (λ x. tree_and (f x) (trees_of (map f ns))) e
  trees_from (m ∷ ns) (suc i) n h = trees_from ns i n h

  trees_next : (ns : List ShapeNode) (i : ℕ) (n : ShapeNode) → slice_get ns i ≡ Some n
      → trees_of (map f (drop i ns)) ≡ tree_and (f n) (trees_of (map f (drop (i + 1) ns)))
  trees_next ns i n h = rw add-one (trees_from ns i n h)

  trees_after : (ns : List ShapeNode) → trees_of (map f (drop (length ns) ns)) ≡ trees_of []
  trees_after [] = refl
  trees_after (n ∷ ns) = trees_after ns

  pub field_of : (ns : List ShapeNode) (p : Place) (i : ℕ) → field_place (trees_of (map f ns)) p i ≡ field_at (length ns) p i
  field_of [] p i = refl
  field_of (n ∷ []) p i = refl
  field_of (n ∷ m ∷ ns) p i = refl

  module _ (ns : List ShapeNode) (place : ℕ) (old : Reader) where
    abbrev trees : ShapeTrees
    trees = trees_of (map f ns)

    -- some fields were read, from the first on
    abbrev pub FieldsAt : ℕ → List Datum → Reader → Type 0
    FieldsAt i done mid = GoesAlong old place mid (λ p a b. FieldsSoFar (field_place trees p) trees a done (trees_of (map f (drop i ns))) i b)

    pub no_fields : FieldsAt 0 [] old
    no_fields p at a st = (a, st, no_fields_yet (field_place trees p) trees a)

    module _ (mid : Reader) (i : ℕ) (n : ShapeNode) (done : List Datum) (c : Continues old mid) (there : slice_get ns i ≡ Some n) (so_far : FieldsAt i done mid) where
      pub one_more_field : (d : Datum) (new : Reader) → ReadsFieldAt (f n) place i (length ns) mid d new → FieldsAt (i + 1) (done ++ d ∷ []) new
      one_more_field d new one p at a st =
          let g = so_far p at a st in
          let r = one p (c.kept place p at) g.0 g.1 in
          let s = subst (λ left. FieldsSoFar (field_place trees p) trees a done left i g.0) (trees_next ns i n there) g.2 in
          let t = subst (λ q. ReadsDatum (f n) q g.0 d r.0) (sym (field_of ns p i)) r.2 in
          (r.0, r.1, one_field_more (field_place trees p) trees a g.0 r.0 done (f n) (trees_of (map f (drop (i + 1) ns))) i d s t)

      pub field_refused : (why : Reason) → IsFieldRefusalAt (f n) place i (length ns) mid why → IsRefusalAt (tuple_tree trees) place old why
      field_refused why h = (
        h.0,
        λ other p at a st.
            let g = so_far p at a st in
            let none = h.1 other p (c.kept place p at) g.0 g.1 in
            let s = subst (λ left. FieldsSoFar (field_place trees p) trees a done left i g.0) (trees_next ns i n there) g.2 in
            tuple_stuck trees p a (s.stuck (fields_stuck_first (field_place trees p) (f n) (trees_of (map f (drop (i + 1) ns))) i g.0
            (subst (λ q. ReadsNoDatum (f n) q g.0) (sym (field_of ns p i)) none))),
      )

    abbrev AreSoundTrees : Type 0
    AreSoundTrees = (n : ShapeNode) → IsSound (f n)

    -- nothing is kept any more, and so many fields without columns follow
    skip_by : (mid : Reader) (before : Budget) (vs : List Value) (n i : ℕ) → Continues old mid → i + n ≤ length ns → AreSoundTrees → AreFreeBetween f ns i (i + n)
        → KeepsEach datum_of (λ ds. FieldsAt i ds mid) before vs Spent → KeepsEach datum_of (λ ds. FieldsAt (i + n) ds mid) before vs Spent
    skip_by mid before vs zero i c inside sound free k =
        let e : i ≡ i + 0 = omega arith in subst (λ j. KeepsEach datum_of (λ ds. FieldsAt j ds mid) before vs Spent) e k
    skip_by mid before vs (suc n) i c inside sound free k =
        let there = node_at ns i (omega (arith, inside)) in
        let this = free i there.0 (omega arith) (omega arith) there.1 in
        let d = free_datum (f there.0) in
        let more : KeepsEach datum_of (λ ds. FieldsAt (i + 1) ds mid) before vs Spent =
        keeps_more datum_of (λ ds. FieldsAt i ds mid) (λ ds. FieldsAt (i + 1) ds mid) before Spent Spent vs vs value.Unit d k
        (one_more_field mid i there.0 k.listing c there.1 k.read d mid (λ p at a st. (a, st, free_read (f there.0) (field_at (length ns) p i) a (sound there.0) this)))
        (sym (spend-Spent (node_count d))) (λ h. absurd h) (λ h. absurd h) in
        let e : i + 1 + n ≡ i + suc n = omega arith in
        subst (λ j. KeepsEach datum_of (λ ds. FieldsAt j ds mid) before vs Spent) e
        (skip_by mid before vs n (i + 1) c (omega (arith, inside)) sound (λ j m low high. free j m (omega (arith, low)) (omega (arith, high))) more)

    skipped : (mid : Reader) (before : Budget) (vs : List Value) (i j : ℕ) → Continues old mid → i ≤ j → j ≤ length ns → AreSoundTrees → AreFreeBetween f ns i j
        → KeepsEach datum_of (λ ds. FieldsAt i ds mid) before vs Spent → KeepsEach datum_of (λ ds. FieldsAt j ds mid) before vs Spent
    skipped mid before vs i j c low high sound free k =
        let e : i + (j - i) ≡ j = omega (arith, low) in
        subst (λ m. KeepsEach datum_of (λ ds. FieldsAt m ds mid) before vs Spent) e
        (skip_by mid before vs (j - i) i c (omega (arith, low, high)) sound (λ m n below above. free m n below (omega (arith, above, low))) k)

    -- read on from a field
    pub fields_on : (mid : Reader) (before after : Budget) (vs : List Value) (i j : ℕ) → Continues old mid → i ≤ j → j ≤ length ns → (IsLeft after → j ≡ i)
        → AreSoundTrees → AreFreeBetween f ns i j → KeepsEach datum_of (λ ds. FieldsAt i ds mid) before vs after → KeepsEach datum_of (λ ds. FieldsAt j ds mid) before vs after
    fields_on mid before Endless vs i j c low high kept sound free k = subst (λ m. KeepsEach datum_of (λ ds. FieldsAt m ds mid) before vs Endless) (sym (kept tt)) k
    fields_on mid before (Nodes left) vs i j c low high kept sound free k =
        subst (λ m. KeepsEach datum_of (λ ds. FieldsAt m ds mid) before vs (Nodes left)) (sym (kept tt)) k
    fields_on mid before Spent vs i j c low high kept sound free k = skipped mid before vs i j c low high sound free k

    pub tuple_done : (mid : Reader) (i : ℕ) (done : List Datum) → i ≡ length ns → FieldsAt i done mid → ReadsAt (tuple_tree trees) place old (tuple (data_of done)) mid
    tuple_done mid i done last so_far p at a st =
        let g = so_far p at a st in
        let e = ap (λ k. trees_of (map f (drop k ns))) last in
        let s = subst (λ left. FieldsSoFar (field_place trees p) trees a done left i g.0) (trees_after ns) (subst (λ left. FieldsSoFar (field_place trees p) trees a done left i g.0) e g.2) in
        (g.0, g.1, tuple_read trees p a (data_of done) g.0 (all_fields (field_place trees p) trees a g.0 done i s))

-- ---- a field by itself

pub adds_as : (R S : Datum → Type 0) (IsWhole : Value → Type 0) (before after : Budget) (those all : List Value) → ((d : Datum) → R d → S d)
    → AddsKept R IsWhole before those after all → AddsKept S IsWhole before those after all
adds_as R S IsWhole before after those all f one = record {
  value = one.value;
  read = record { datum = one.read.datum; read = f one.read.datum one.read.read; taken = one.read.taken; same = one.read.same };
  whole = one.whole;
  added = one.added;
}

module _ (s : ShapeTree) (place i fields : ℕ) where
  module _ (old below : Reader) (inside : ℕ) (found : (p : Place) → IsPlace old.places.below.items place p → IsPlace below.places.below.items inside (field_at fields p i))
      (stands : (a : State) → Stands old a → Stands below a) where
    pub field_inside : (d : Datum) (new : Reader) → ReadsAt s inside below d new → ReadsFieldAt s place i fields old d new
    field_inside d new one p at a st = one (field_at fields p i) (found p at) a (stands a st)

    pub field_inside_refused : (why : Reason) → IsRefusalAt s inside below why → IsFieldRefusalAt s place i fields old why
    field_inside_refused why h = (h.0, λ other p at a st. h.1 other (field_at fields p i) (found p at) a (stands a st))

  module _ (free : column_free s ≡ true) where
    pub free_field : (old : Reader) (d : Datum) (new : Reader) → ReadsAt s place old d new → ReadsFieldAt s place i fields old d new
    free_field old d new one p at a st =
        let r = one p at a st in (r.0, r.1, free_elsewhere s p (field_at fields p i) a d r.0 free r.2)

    pub free_field_refused : (old : Reader) (why : Reason) → IsRefusalAt s place old why → IsFieldRefusalAt s place i fields old why
    free_field_refused old why h = (h.0, λ other p at a st d b r. h.1 other p at a st d b (free_elsewhere s (field_at fields p i) p a d b free r))

    -- nothing is kept any more
    pub field_skipped : IsSound s → (IsWhole : Value → Type 0) (r : Reader) (b : Budget) (vs : List Value) → b ≡ Spent → AddsFieldWithin s IsWhole place i fields r b vs r b vs
    field_skipped sound IsWhole r b vs gone =
        let none : IsLeft b → ⊥ = λ left. subst IsLeft gone left in
        record {
          value = value.Unit;
          read = record {
            datum = free_datum s;
            read = λ p at a st. (a, st, free_read s (field_at fields p i) a sound free);
            taken = gone ∙ sym (ap (spend (node_count (free_datum s))) gone ∙ spend-Spent (node_count (free_datum s)));
            same = λ left. absurd (none left);
          };
          whole = λ left. absurd (none left);
          added = λ left. absurd (none left);
        }
