-- Maps are read pair by pair: by what was taken.
use Rattle.std.proofs.Common.{rules, arith, ◌≡◌, ◌<◌, ◌+◌, ◌-◌, ◌++◌, true, refl, ap, sym, subst, ◌∙◌}
use Rattle.std.proofs.lemmas.Result.{err_from_is_err_and}
use Rattle.bitcode_shapes.specs.Datum.{list, pair}
use Rattle.bitcode_untyped.specs.Bounds.{column_free}
use Rattle.bitcode_untyped.specs.Faults.{faults_of}
use Rattle.bitcode_untyped.specs.Nodes.{node_count}
use Rattle.bitcode_untyped.specs.Population.{total}
use Rattle.bitcode_untyped.specs.Reads.{ReadsNoDatum}
use Rattle.bitcode_untyped.specs.ShapeTree.{map_tree}
use Rattle.bitcode_untyped.specs.View.{datum_of, tree_of_node}
use Rattle.bitcode_untyped.specs.Walk.{length_kind}
use Rattle.bitcode_untyped.specs.declared.value.Value.TheVariants as value
use Rattle.bitcode_untyped.proofs.FaultLemmas.{faults-Map}
use Rattle.bitcode_untyped.proofs.ReadLemmas.{map_stuck_length, map_over_limit}
use Rattle.bitcode_untyped.proofs.SoundTreeLemmas.{sound_tree_of_node}
use Rattle.bitcode_untyped.proofs.ViewLemmas.{datum-Map}
use Rattle.bitcode_coder.specs.Spelling.{natural}
use Rattle.bitcode_serde.specs.Budget.{IsLeft, spend, KeepsEach}
use Rattle.bitcode_serde.specs.ReadingValues.{IsRefusalAt}
use Rattle.bitcode_serde.specs.declared.budget.Budget.TheVariants.{Spent}
use Rattle.bitcode_serde.proofs.BudgetLemmas.{left_before, keeps_more, keeps_all, pair_taken}
use Rattle.bitcode_serde.proofs.CaseLemmas.{nothing, one_more_whole}
use Rattle.bitcode_serde.proofs.ColumnLemmas.{passed_on}
use Rattle.bitcode_serde.proofs.KeptLemmas.{rest_pairs_within}
use Rattle.bitcode_serde.proofs.ValueLemmas.{asked_alike, refused_entry, still_there, continues_on, continues_stepped, enters_map, told_at, ReadsPairsAt, one_more_pair, key_stuck, value_stuck, map_read_at, map_stuck_at}
use Rattle.bitcode_serde.proofs.values.+read.Goals as goal

pub read_map-returns-in_err-taken-clause-refused : goal.read_map-returns-in_err-taken-clause-refused
read_map-returns-in_err-taken-clause-refused t c =
    let key_tree = tree_of_node c.args.left c.args.table.now c.args.key.now in
    let value_tree = tree_of_node c.args.left c.args.table.now c.args.value.now in
    let y = err_from_is_err_and c.from_residual.result c.from_residual.ensures.1 in
    passed_on (λ e. IsRefusalAt (map_tree key_tree value_tree) c.args.place c.args.reader.now e.reason) c.from_residual.result c.in_err-taken.field-0.0 y.0 y.1 y.2
    (refused_entry c.args.reader.now c.args.place length_kind (ReadsNoDatum (map_tree key_tree value_tree)) _ (λ p a stuck. map_stuck_length key_tree value_tree p a stuck)
    c.in_err-taken.ensures.refused)

pub read_map-step-requires-2 : goal.read_map-step-requires-2
read_map-step-requires-2 t c =
    still_there c.args.reader.now c.step.new.self c.args.place
    (continues_stepped c.args.reader.now c.take_length.new.self c.step.new.self c.take_length.ensures.below c.take_length.ensures.asked c.in_ok-taken.ensures.sized c.step.ensures.columns c.step.ensures.asked
    c.in_ok-keys.ensures.kept) c.requires.place

pub read_map-read-requires : goal.read_map-read-requires
read_map-read-requires t c =
    let k = still_there c.step.new.self c.step-2.new.self c.in_ok-keys.keys
    (continues_stepped c.step.new.self c.step.new.self c.step-2.new.self refl (asked_alike c.step.new.self)
    (continues_stepped c.args.reader.now c.take_length.new.self c.step.new.self c.take_length.ensures.below c.take_length.ensures.asked c.in_ok-taken.ensures.sized c.step.ensures.columns c.step.ensures.asked
    c.in_ok-keys.ensures.kept).steady.sized c.step-2.ensures.columns c.step-2.ensures.asked c.in_ok-values.ensures.kept) c.in_ok-keys.ensures.found.0 in
    let h = still_there c.step-2.new.self c.loop-i.reader c.in_ok-keys.keys c.loop-i.invariant.0 k in
    let s = c.loop-i.invariant.0.steady in
    search (rules, h, s)

pub read_map-returns-in_err-first-clause-refused : goal.read_map-returns-in_err-first-clause-refused
read_map-returns-in_err-first-clause-refused t c =
    let key_tree = tree_of_node c.args.left c.args.table.now c.args.key.now in
    let value_tree = tree_of_node c.args.left c.args.table.now c.args.value.now in
    let y = err_from_is_err_and c.from_residual-in_err-first.result c.from_residual-in_err-first.ensures.1 in
    let enters = enters_map c.args.reader.now c.take_length.new.self c.step.new.self c.step-2.new.self c.args.place c.in_ok-keys.keys c.in_ok-values.values
    c.in_ok-taken.taken.length c.in_ok-taken.taken.total
    c.in_ok-taken.ensures.leads c.take_length.ensures.below c.in_ok-keys.ensures.found c.in_ok-keys.ensures.kept c.in_ok-keys.ensures.stands
    c.in_ok-values.ensures.found c.in_ok-values.ensures.kept c.in_ok-values.ensures.stands in
    let lt : c.loop-i._i < c.in_ok-taken.taken.length = omega arith in
    passed_on (λ e. IsRefusalAt (map_tree key_tree value_tree) c.args.place c.args.reader.now e.reason) c.from_residual-in_err-first.result c.in_err-first.field-0.0 y.0 y.1 y.2
    ((
      c.in_err-first.ensures.refused.0,
      λ other. map_stuck_at key_tree value_tree c.args.reader.now c.step-2.new.self c.args.place c.in_ok-keys.keys c.in_ok-values.values
          c.in_ok-taken.taken.length enters (key_stuck key_tree value_tree c.in_ok-keys.keys c.in_ok-values.values c.step-2.new.self c.loop-i.reader c.loop-i._i _
          c.loop-i.invariant.0 c.loop-i.invariant.1.read c.in_ok-taken.taken.length lt (c.in_err-first.ensures.refused.1 other)),
    ))

pub read_map-read-requires-in-loop-i : goal.read_map-read-requires-in-loop-i
read_map-read-requires-in-loop-i t c =
    let k = still_there c.step-2.new.self c.loop-i.reader c.in_ok-values.values c.loop-i.invariant.0 c.in_ok-values.ensures.found.0 in
    let h = still_there c.loop-i.reader c.read.new.reader c.in_ok-values.values c.in_ok-first.ensures.continues k in
    let s = c.in_ok-first.ensures.continues.steady in
    search (rules, h, s)

pub read_map-returns-in_err-second-clause-refused : goal.read_map-returns-in_err-second-clause-refused
read_map-returns-in_err-second-clause-refused t c =
    let key_tree = tree_of_node c.args.left c.args.table.now c.args.key.now in
    let value_tree = tree_of_node c.args.left c.args.table.now c.args.value.now in
    let y = err_from_is_err_and c.from_residual-in_err-second.result c.from_residual-in_err-second.ensures.1 in
    let enters = enters_map c.args.reader.now c.take_length.new.self c.step.new.self c.step-2.new.self c.args.place c.in_ok-keys.keys c.in_ok-values.values
    c.in_ok-taken.taken.length c.in_ok-taken.taken.total
    c.in_ok-taken.ensures.leads c.take_length.ensures.below c.in_ok-keys.ensures.found c.in_ok-keys.ensures.kept c.in_ok-keys.ensures.stands
    c.in_ok-values.ensures.found c.in_ok-values.ensures.kept c.in_ok-values.ensures.stands in
    let lt : c.loop-i._i < c.in_ok-taken.taken.length = omega arith in
    passed_on (λ e. IsRefusalAt (map_tree key_tree value_tree) c.args.place c.args.reader.now e.reason) c.from_residual-in_err-second.result c.in_err-second.field-0.0 y.0 y.1 y.2
    ((
      c.in_err-second.ensures.refused.0,
      λ other. map_stuck_at key_tree value_tree c.args.reader.now c.step-2.new.self c.args.place c.in_ok-keys.keys c.in_ok-values.values
          c.in_ok-taken.taken.length enters (value_stuck key_tree value_tree c.in_ok-keys.keys c.in_ok-values.values c.step-2.new.self c.loop-i.reader c.loop-i._i _
          c.loop-i.invariant.0 c.loop-i.invariant.1.read c.in_ok-taken.taken.length c.read.new.reader c.in_ok-first.ensures.read.datum lt
          c.in_ok-first.ensures.continues c.in_ok-first.ensures.read.read (c.in_err-second.ensures.refused.1 other)),
    ))

pub read_map-loop-i-preserved : goal.read_map-loop-i-preserved
read_map-loop-i-preserved t c =
    let first = c.in_ok-first.ensures.read in
    let second = c.in_ok-second.ensures.read in
    let many = c.loop-i.invariant.1 in
    let before : IsLeft c.read-in-loop-i.new.budget → IsLeft c.read.new.budget = λ left. left_before (node_count second.datum) c.read.new.budget (subst IsLeft second.taken left) in
    let taken : c.read-in-loop-i.new.budget ≡ spend (node_count (pair first.datum second.datum)) c.loop-i.budget =
    pair_taken c.loop-i.budget c.take-in-loop-i.new.self c.read.new.budget c.read-in-loop-i.new.budget first.datum second.datum c.take-in-loop-i.ensures first.taken second.taken in (
      continues_on c.step-2.new.self c.loop-i.reader c.read-in-loop-i.new.reader c.loop-i.invariant.0
          (continues_on c.loop-i.reader c.read.new.reader c.read-in-loop-i.new.reader c.in_ok-first.ensures.continues c.in_ok-second.ensures.continues),
      keeps_more (λ e. pair (datum_of e.0) (datum_of e.1)) _ _ c.take.new.self c.loop-i.budget c.read-in-loop-i.new.budget c.loop-i.pairs.items c.keep.new.items.items
          (c.in_ok-first.first, c.in_ok-second.second) (pair first.datum second.datum) many
          (one_more_pair (tree_of_node c.args.left c.args.table.now c.args.key.now) (tree_of_node c.args.left c.args.table.now c.args.value.now) c.in_ok-keys.keys
          c.in_ok-values.values c.step-2.new.self c.loop-i.reader c.loop-i._i many.listing c.loop-i.invariant.0 many.read c.read.new.reader c.read-in-loop-i.new.reader
          first.datum second.datum c.in_ok-first.ensures.continues first.read second.read)
          taken (λ left. ap (λ d. pair d (datum_of c.in_ok-second.second)) (first.same (before left)) ∙ ap (pair first.datum) (second.same left))
          c.in_ok-keep.ensures.kept,
      λ left. rw (c.in_ok-keep.ensures.kept left)
          (one_more_whole (λ e. faults_of c.args.table.now e.0 c.args.left c.args.key.now ++ faults_of c.args.table.now e.1 c.args.left c.args.value.now)
          c.loop-i.pairs.items (c.in_ok-first.first, c.in_ok-second.second)
          (c.loop-i.invariant.2 (left_before (node_count (pair first.datum second.datum)) c.loop-i.budget (subst IsLeft taken left)))
          (nothing (faults_of c.args.table.now c.in_ok-first.first c.args.left c.args.key.now) (faults_of c.args.table.now c.in_ok-second.second c.args.left c.args.value.now)
          (c.in_ok-first.ensures.whole (before left)) (c.in_ok-second.ensures.whole left))),
    )

pub read_map-returns-clause-continues : goal.read_map-returns-clause-continues
read_map-returns-clause-continues t c =
    continues_on c.args.reader.now c.step-2.new.self c.loop-i.reader
    (continues_on c.args.reader.now c.step.new.self c.step-2.new.self
    (continues_stepped c.args.reader.now c.take_length.new.self c.step.new.self c.take_length.ensures.below c.take_length.ensures.asked c.in_ok-taken.ensures.sized c.step.ensures.columns c.step.ensures.asked
    c.in_ok-keys.ensures.kept) (continues_stepped c.step.new.self c.step.new.self c.step-2.new.self refl (asked_alike c.step.new.self)
    (continues_stepped c.args.reader.now c.take_length.new.self c.step.new.self c.take_length.ensures.below c.take_length.ensures.asked c.in_ok-taken.ensures.sized c.step.ensures.columns c.step.ensures.asked
    c.in_ok-keys.ensures.kept).steady.sized c.step-2.ensures.columns c.step-2.ensures.asked c.in_ok-values.ensures.kept)) c.loop-i.invariant.0

pub read_map-returns-clause-read : goal.read_map-returns-clause-read
read_map-returns-clause-read t c =
    let key_tree = tree_of_node c.args.left c.args.table.now c.args.key.now in
    let value_tree = tree_of_node c.args.left c.args.table.now c.args.value.now in
    let enters = enters_map c.args.reader.now c.take_length.new.self c.step.new.self c.step-2.new.self c.args.place c.in_ok-keys.keys c.in_ok-values.values
    c.in_ok-taken.taken.length c.in_ok-taken.taken.total
    c.in_ok-taken.ensures.leads c.take_length.ensures.below c.in_ok-keys.ensures.found c.in_ok-keys.ensures.kept c.in_ok-keys.ensures.stands
    c.in_ok-values.ensures.found c.in_ok-values.ensures.kept c.in_ok-values.ensures.stands in
    let all : c.loop-i._i ≡ c.in_ok-taken.taken.length = omega arith in
    let k = c.loop-i.invariant.1 in
    keeps_all (λ e. pair (datum_of e.0) (datum_of e.1)) _ _ c.args.budget.now c.take.new.self c.loop-i.budget c.loop-i.pairs.items _ (λ ds. list ds) (λ ds. refl)
    (datum-Map c.loop-i.pairs) c.take.ensures k
    (map_read_at key_tree value_tree c.args.reader.now c.step-2.new.self c.loop-i.reader c.args.place c.in_ok-keys.keys c.in_ok-values.values c.in_ok-taken.taken.length
    k.listing enters c.if-is_over_limit.ensures
    (subst (λ n. ReadsPairsAt key_tree value_tree c.in_ok-keys.keys c.in_ok-values.values c.step-2.new.self n k.listing c.loop-i.reader) all k.read))

pub read_map-returns-then-is_free-2-clause-continues : goal.read_map-returns-then-is_free-2-clause-continues
read_map-returns-then-is_free-2-clause-continues t c =
    continues_on c.args.reader.now c.step-2.new.self c.loop-i.reader
    (continues_on c.args.reader.now c.step.new.self c.step-2.new.self
    (continues_stepped c.args.reader.now c.take_length.new.self c.step.new.self c.take_length.ensures.below c.take_length.ensures.asked c.in_ok-taken.ensures.sized c.step.ensures.columns c.step.ensures.asked
    c.in_ok-keys.ensures.kept) (continues_stepped c.step.new.self c.step.new.self c.step-2.new.self refl (asked_alike c.step.new.self)
    (continues_stepped c.args.reader.now c.take_length.new.self c.step.new.self c.take_length.ensures.below c.take_length.ensures.asked c.in_ok-taken.ensures.sized c.step.ensures.columns c.step.ensures.asked
    c.in_ok-keys.ensures.kept).steady.sized c.step-2.ensures.columns c.step-2.ensures.asked c.in_ok-values.ensures.kept)) c.loop-i.invariant.0

-- nothing is kept any more
pub read_map-returns-then-is_free-2-clause-read : goal.read_map-returns-then-is_free-2-clause-read
read_map-returns-then-is_free-2-clause-read t c =
    let key_tree = tree_of_node c.args.left c.args.table.now c.args.key.now in
    let value_tree = tree_of_node c.args.left c.args.table.now c.args.value.now in
    let enters = enters_map c.args.reader.now c.take_length.new.self c.step.new.self c.step-2.new.self c.args.place c.in_ok-keys.keys c.in_ok-values.values
    c.in_ok-taken.taken.length c.in_ok-taken.taken.total
    c.in_ok-taken.ensures.leads c.take_length.ensures.below c.in_ok-keys.ensures.found c.in_ok-keys.ensures.kept c.in_ok-keys.ensures.stands
    c.in_ok-values.ensures.found c.in_ok-values.ensures.kept c.in_ok-values.ensures.stands in
    let i = c.loop-i._i in
    let gone : c.loop-i.budget ≡ Spent = c.if-is_spent.ensures in
    let free_key : column_free key_tree ≡ true = sym c.is_free.ensures ∙ c.if-is_free.true in
    let free_value : column_free value_tree ≡ true = sym c.is_free-then-is_free.ensures ∙ c.if-is_free-2.true in
    let all : i + (c.in_ok-taken.taken.length - i) ≡ c.in_ok-taken.taken.length = omega arith in
    let so_far = subst (KeepsEach (λ e. pair (datum_of e.0) (datum_of e.1))
    (λ ds. ReadsPairsAt key_tree value_tree c.in_ok-keys.keys c.in_ok-values.values c.step-2.new.self i ds c.loop-i.reader) c.take.new.self c.loop-i.pairs.items) gone c.loop-i.invariant.1 in
    let rest = rest_pairs_within (λ e. pair (datum_of e.0) (datum_of e.1)) key_tree value_tree c.in_ok-keys.keys c.in_ok-values.values c.step-2.new.self c.loop-i.reader c.take.new.self
    c.loop-i.pairs.items (value.Unit, value.Unit) (c.in_ok-taken.taken.length - i) i c.loop-i.invariant.0 (sound_tree_of_node c.args.left c.args.table.now c.args.key.now)
    (sound_tree_of_node c.args.left c.args.table.now c.args.value.now) free_key free_value so_far in
    let k = subst (KeepsEach (λ e. pair (datum_of e.0) (datum_of e.1))
    (λ ds. ReadsPairsAt key_tree value_tree c.in_ok-keys.keys c.in_ok-values.values c.step-2.new.self c.in_ok-taken.taken.length ds c.loop-i.reader) c.take.new.self c.loop-i.pairs.items) (sym gone)
    (subst (λ n. KeepsEach (λ e. pair (datum_of e.0) (datum_of e.1))
    (λ ds. ReadsPairsAt key_tree value_tree c.in_ok-keys.keys c.in_ok-values.values c.step-2.new.self n ds c.loop-i.reader) c.take.new.self c.loop-i.pairs.items Spent) all rest) in
    keeps_all (λ e. pair (datum_of e.0) (datum_of e.1)) _ _ c.args.budget.now c.take.new.self c.loop-i.budget c.loop-i.pairs.items _ (λ ds. list ds) (λ ds. refl)
    (datum-Map c.loop-i.pairs) c.take.ensures k
    (map_read_at key_tree value_tree c.args.reader.now c.step-2.new.self c.loop-i.reader c.args.place c.in_ok-keys.keys c.in_ok-values.values c.in_ok-taken.taken.length
    k.listing enters c.if-is_over_limit.ensures k.read)

pub read_map-returns-then-is_over_limit-clause-refused : goal.read_map-returns-then-is_over_limit-clause-refused
read_map-returns-then-is_over_limit-clause-refused t c =
    let key_tree = tree_of_node c.args.left c.args.table.now c.args.key.now in
    let value_tree = tree_of_node c.args.left c.args.table.now c.args.value.now in
    passed_on (λ e. IsRefusalAt (map_tree key_tree value_tree) c.args.place c.args.reader.now e.reason) c.err.result _ _ c.err.ensures refl (
      tt,
      λ other p at a st.
          let l = told_at c.args.reader.now c.take_length.new.self c.args.place length_kind (natural c.in_ok-taken.taken.length)
          (λ entries. c.in_ok-taken.taken.total ≡ total entries) c.in_ok-taken.ensures.leads p at a st in
          map_over_limit key_tree value_tree p a c.in_ok-taken.taken.length l.0 l.2.takes c.if-is_over_limit.ensures.0 c.if-is_over_limit.ensures.1,
    )

-- ---- the cases of values

pub read_map-returns-clause-whole : goal.read_map-returns-clause-whole
read_map-returns-clause-whole t c = λ left k w is_key is_value.
    faults-Map c.args.table.now c.args.left c.loop-i.pairs k w ∙ rw (is_key, is_value) (c.loop-i.invariant.2 left)
