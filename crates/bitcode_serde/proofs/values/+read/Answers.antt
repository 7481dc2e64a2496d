-- By the node, and by what was taken.
use Rattle.std.proofs.Common.{rules, arith, ◌≡◌, ◌<◌, ◌+◌, ◌-◌, [], length, map, true, refl, ap, subst, sym, ◌∙◌}
use Rattle.std.specs.List.{AllByRecursion, flat_map}
use Rattle.std.proofs.lemmas.Result.{err_from_is_err_and, on_ok_weaker, IfOk-weaker, IfErr-weaker}
use Rattle.bitcode_shapes.specs.Datum.{unit, list, tuple, choice}
use Rattle.bitcode_shapes.specs.Shape.{any_number}
use Rattle.bitcode_untyped.specs.Bounds.{column_free}
use Rattle.bitcode_untyped.specs.Faults.{faults_of}
use Rattle.bitcode_untyped.specs.Nodes.{node_count}
use Rattle.bitcode_untyped.specs.Population.{total, count_of}
use Rattle.bitcode_untyped.specs.Reads.{ReadsNoDatum}
use Rattle.bitcode_untyped.specs.ShapeTree.{unit_tree, leaf_tree, seq_tree, tuple_tree, choice_tree, no_trees, tree_and, tree_at}
use Rattle.bitcode_untyped.specs.View.{datum_of, followed, tree_of_node, trees_of}
use Rattle.bitcode_untyped.specs.Walk.{length_kind, index_kind}
use Rattle.bitcode_untyped.specs.declared.shape.ShapeNode.TheVariants as node
use Rattle.bitcode_untyped.proofs.FaultLemmas.{faults-Unit, faults-None, faults-Some, faults-Seq, faults-Tuple}
use Rattle.bitcode_untyped.proofs.FollowedLemmas.{followed-zero, followed_one, entry_there, entry_away}
use Rattle.bitcode_untyped.proofs.ReadLemmas.{never_read, seq_stuck_length, seq_over_limit, choice_stuck_index}
use Rattle.bitcode_untyped.proofs.SoundTreeLemmas.{sound_tree_of_node}
use Rattle.bitcode_untyped.proofs.ViewLemmas.{tree-Unit, tree-Bytes, tree-Option, tree-Seq, tree-Map, tree-Tuple, tree-Enum, tree-Ref, datum-None, datum-Some, datum-Seq, datum-Tuple, datum-Enum}
use Rattle.bitcode_coder.specs.Spelling.{natural}
use Rattle.bitcode_serde.specs.Budget.{IsLeft, spend}
use Rattle.bitcode_serde.specs.ReadColumns.{kind_of, IsCaseOf}
use Rattle.bitcode_serde.specs.ReadingValues.{ReadsAt, ReadsListWithin, IsRefusalAt, IsListRefusalAt, IsFieldRefusalAt, IsOfLeaf, IsOfBytes, IsLeafRefusalAt, IsOfOption, IsOfSeq, IsOfMap, IsOfTuple, IsOfEnum}
use Rattle.bitcode_serde.specs.declared.budget.Budget.TheVariants.{Spent}
use Rattle.bitcode_serde.proofs.BudgetLemmas.{spend-then, left_before, keeps_more, keeps_all, keeps_choice}
use Rattle.bitcode_serde.proofs.CaseLemmas.{one_more_whole, one_more_field_whole, all_fields_whole, enum_whole, reference_whole}
use Rattle.bitcode_serde.proofs.ColumnLemmas.{passed_on}
use Rattle.bitcode_serde.proofs.DepthLemmas.{entry_deep, reference_falls}
use Rattle.bitcode_serde.proofs.EntryLemmas.{found_entry, no_entry}
use Rattle.bitcode_serde.proofs.FieldLemmas.{tree_at_entry, tree_at_none, no_fields, fields_on, one_more_field, field_refused, tuple_done, adds_as, field_inside, field_inside_refused, free_field, free_field_refused, field_skipped}
use Rattle.bitcode_serde.proofs.KeptLemmas.{one_node, unit_within, entry_within, leaf_adds, leaves_within, rest_within}
use Rattle.bitcode_serde.proofs.LeafEntryLemmas.{leaf_else}
use Rattle.bitcode_serde.proofs.LeafLemmas.{leaf_read_at, leaves_whole}
use Rattle.bitcode_serde.proofs.ValueLemmas.{asked_alike, refused_entry, still_there, continues_on, continues_stepped, one_more, list_stuck, enters_list, enters_choice, seq_read_at, seq_refused, choice_read_at, choice_refused, choice_of_unit, no_choice, no_third, told_at}
use Rattle.bitcode_serde.proofs.values.+read.Answers.Maps as map
use Rattle.bitcode_serde.proofs.values.+read.Goals as goal
mod Maps

pub read-returns-in-Some-clause-read : goal.read-returns-in-Some-clause-read
read-returns-in-Some-clause-read t c =
    let leaf = leaf_tree (kind_of c.in-Some.kind) any_number in
    entry_within c.args.node.now c.args.place c.args.reader.now c.read_leaf.new.reader c.args.budget.now _ c.read_leaf.result
    (followed c.args.left c.args.table.now) c.take.ensures
    (leaf_read_at c.args.node.now leaf c.in-Some.ensures.some.tree c.read_leaf.result c.args.place c.args.reader.now c.read_leaf.new.reader c.read_leaf.ensures.read)
    (IfOk-weaker c.read_leaf.result (IsCaseOf c.in-Some.kind) (λ v. node_count (datum_of v) ≡ 1) (one_node c.in-Some.kind) c.read_leaf.ensures.of_case)

pub read-returns-in-Some-clause-whole : goal.read-returns-in-Some-clause-whole
read-returns-in-Some-clause-whole t c =
    IfOk-weaker c.read_leaf.result (IsCaseOf c.in-Some.kind) (λ v. IsLeft _ → faults_of c.args.table.now v c.args.left c.args.node.now ≡ [])
    (λ v h left. c.in-Some.ensures.some.whole v h c.args.table.now c.args.left) c.read_leaf.ensures.of_case

pub read-returns-in-Some-clause-refused : goal.read-returns-in-Some-clause-refused
read-returns-in-Some-clause-refused t c = rw (c.in-Some.ensures.some.tree (followed c.args.left c.args.table.now)) c.read_leaf.ensures.refused

pub read_behind-returns-then-has-clause-read : goal.read_behind-returns-then-has-clause-read
read_behind-returns-then-has-clause-read t c =
    on_ok_weaker c.read_leaf_behind.result
    (λ one. leaf_adds c.args.node.now c.in-Some.kind c.args.table.now c.args.left c.args.place c.args.reader.now c.read_leaf_behind.new.reader c.args.budget.now
    c.take.new.self c.args.values.now.items c.read_leaf_behind.new.values.items c.in-Some.ensures.some c.take.ensures one)
    c.read_leaf_behind.ensures.read

pub read_behind-returns-then-has-clause-refused : goal.read_behind-returns-then-has-clause-refused
read_behind-returns-then-has-clause-refused t c = rw (c.in-Some.ensures.some.tree (followed c.args.left c.args.table.now)) c.read_leaf_behind.ensures.refused

pub read_behind-returns-clause-read : goal.read_behind-returns-clause-read
read_behind-returns-clause-read t c = record {
  value = c.in_ok-value.value;
  read = c.in_ok-value.ensures.read;
  whole = c.in_ok-value.ensures.whole;
  added = c.in_ok-keep.ensures.kept;
}

pub read_node-read_entry-requires : goal.read_node-read_entry-requires
read_node-read_entry-requires t c =
    let d = c.in_default in
    let leaf = leaf_else c.args.node.now d.not-Unit d.not-Bytes d.not-Option d.not-Seq d.not-Map d.not-Tuple d.not-Enum d.not-Ref in
    search (rules, leaf)

pub read_node-returns-in_default-clause-read : goal.read_node-returns-in_default-clause-read
read_node-returns-in_default-clause-read t c =
    entry_within c.args.node.now c.args.place c.args.reader.now c.read_entry.new.reader c.args.budget.now _ c.read_entry.result
    (followed c.args.left c.args.table.now) c.take-in_default.ensures c.read_entry.ensures.read c.read_entry.ensures.single

pub read_node-returns-in_default-clause-whole : goal.read_node-returns-in_default-clause-whole
read_node-returns-in_default-clause-whole t c =
    IfOk-weaker c.read_entry.result (λ v. IsOfLeaf c.args.node.now v) (λ v. IsLeft _ → faults_of c.args.table.now v c.args.left c.args.node.now ≡ [])
    (λ v h left. h c.args.table.now c.args.left) c.read_entry.ensures.whole

pub read_node-returns-in_default-clause-refused : goal.read_node-returns-in_default-clause-refused
read_node-returns-in_default-clause-refused t c =
    IfErr-weaker c.read_entry.result (λ e. IsLeafRefusalAt c.args.node.now c.args.place c.args.reader.now e.reason)
    (λ e. IsRefusalAt (tree_of_node c.args.left c.args.table.now c.args.node.now) c.args.place c.args.reader.now e.reason)
    (λ e h. h (followed c.args.left c.args.table.now)) c.read_entry.ensures.refused

pub read_node-returns-in-Unit-clause-read : goal.read_node-returns-in-Unit-clause-read
read_node-returns-in-Unit-clause-read t c =
    rw (c.in-Unit.is, tree-Unit (followed c.args.left c.args.table.now)) (unit_within c.args.place c.args.reader.now c.args.budget.now c.take.new.self c.take.ensures)

pub read_node-returns-in-Bytes-clause-read : goal.read_node-returns-in-Bytes-clause-read
read_node-returns-in-Bytes-clause-read t c = rw (c.in-Bytes.is, tree-Bytes (followed c.args.left c.args.table.now)) c.read_bytes.ensures.read

pub read_node-returns-in-Bytes-clause-refused : goal.read_node-returns-in-Bytes-clause-refused
read_node-returns-in-Bytes-clause-refused t c = rw (c.in-Bytes.is, tree-Bytes (followed c.args.left c.args.table.now)) c.read_bytes.ensures.refused

pub read_node-returns-in-Option-clause-read : goal.read_node-returns-in-Option-clause-read
read_node-returns-in-Option-clause-read t c = rw (c.in-Option.is, tree-Option (followed c.args.left c.args.table.now) c.in-Option.some, ← c.deref.ensures) c.read_option.ensures.read

pub read_node-returns-in-Option-clause-refused : goal.read_node-returns-in-Option-clause-refused
read_node-returns-in-Option-clause-refused t c = rw (c.in-Option.is, tree-Option (followed c.args.left c.args.table.now) c.in-Option.some, ← c.deref.ensures) c.read_option.ensures.refused

pub read_node-returns-in-Seq-clause-read : goal.read_node-returns-in-Seq-clause-read
read_node-returns-in-Seq-clause-read t c = rw (c.in-Seq.is, tree-Seq (followed c.args.left c.args.table.now) c.in-Seq.element, ← c.deref-in-Seq.ensures) c.read_seq.ensures.read

pub read_node-returns-in-Seq-clause-refused : goal.read_node-returns-in-Seq-clause-refused
read_node-returns-in-Seq-clause-refused t c = rw (c.in-Seq.is, tree-Seq (followed c.args.left c.args.table.now) c.in-Seq.element, ← c.deref-in-Seq.ensures) c.read_seq.ensures.refused

pub read_node-returns-in-Map-clause-read : goal.read_node-returns-in-Map-clause-read
read_node-returns-in-Map-clause-read t c =
    rw (c.in-Map.is, tree-Map (followed c.args.left c.args.table.now) c.in-Map.key c.in-Map.value, ← c.deref-in-Map.ensures, ← c.deref-in-Map-2.ensures) c.read_map.ensures.read

pub read_node-returns-in-Map-clause-refused : goal.read_node-returns-in-Map-clause-refused
read_node-returns-in-Map-clause-refused t c =
    rw (c.in-Map.is, tree-Map (followed c.args.left c.args.table.now) c.in-Map.key c.in-Map.value, ← c.deref-in-Map.ensures, ← c.deref-in-Map-2.ensures) c.read_map.ensures.refused

pub read_node-returns-in-Tuple-clause-read : goal.read_node-returns-in-Tuple-clause-read
read_node-returns-in-Tuple-clause-read t c = rw (c.in-Tuple.is, tree-Tuple (followed c.args.left c.args.table.now) c.in-Tuple.nodes, ← c.deref-in-Tuple.ensures.value) c.read_tuple.ensures.read

pub read_node-returns-in-Tuple-clause-refused : goal.read_node-returns-in-Tuple-clause-refused
read_node-returns-in-Tuple-clause-refused t c = rw (c.in-Tuple.is, tree-Tuple (followed c.args.left c.args.table.now) c.in-Tuple.nodes, ← c.deref-in-Tuple.ensures.value) c.read_tuple.ensures.refused

pub read_node-returns-in-Enum-clause-read : goal.read_node-returns-in-Enum-clause-read
read_node-returns-in-Enum-clause-read t c = rw (c.in-Enum.is, tree-Enum (followed c.args.left c.args.table.now) c.in-Enum.nodes, ← c.deref-in-Enum.ensures.value) c.read_enum.ensures.read

pub read_node-returns-in-Enum-clause-refused : goal.read_node-returns-in-Enum-clause-refused
read_node-returns-in-Enum-clause-refused t c = rw (c.in-Enum.is, tree-Enum (followed c.args.left c.args.table.now) c.in-Enum.nodes, ← c.deref-in-Enum.ensures.value) c.read_enum.ensures.refused

pub read_node-read-requires : goal.read_node-read-requires
read_node-read-requires t c =
    let h : 0 < c.args.left = omega arith in
    let d = reference_falls c.args.left c.args.table.now c.in-Ref.i 0 c.in-Some.entry.now
    (found_entry c.args.table.now c.in-Ref.i c.in-Some.entry.now c.in-Some.ensures.lookup.3.0 (c.in-Some.ensures.lookup.3.1 c.in-Some.entry.now)) h in
    search (rules, d)

pub read_node-returns-then-left-eq0-clause-refused : goal.read_node-returns-then-left-eq0-clause-refused
read_node-returns-then-left-eq0-clause-refused t c =
    passed_on (λ e. IsRefusalAt (tree_of_node c.args.left c.args.table.now c.args.node.now) c.args.place c.args.reader.now e.reason) c.err.result _ _ c.err.ensures refl
    (tt, λ other. rw (c.in-Ref.is, tree-Ref, c.if-left-eq0.true, followed-zero) (λ p at a st. never_read p a))

pub read_node-returns-in-Some-clause-read : goal.read_node-returns-in-Some-clause-read
read_node-returns-in-Some-clause-read t c =
    let left : 0 < c.args.left = omega arith in
    let e = followed_one c.args.left c.args.table.now c.in-Ref.i left in
    let f = entry_there (followed (c.args.left - 1) c.args.table.now) c.args.table.now c.in-Ref.i c.in-Some.entry.now
    (found_entry c.args.table.now c.in-Ref.i c.in-Some.entry.now c.in-Some.ensures.lookup.3.0 (c.in-Some.ensures.lookup.3.1 c.in-Some.entry.now)) in
    rw (c.in-Ref.is, tree-Ref, e, f) c.read.ensures.read

pub read_node-returns-in-Some-clause-refused : goal.read_node-returns-in-Some-clause-refused
read_node-returns-in-Some-clause-refused t c =
    let left : 0 < c.args.left = omega arith in
    let e = followed_one c.args.left c.args.table.now c.in-Ref.i left in
    let f = entry_there (followed (c.args.left - 1) c.args.table.now) c.args.table.now c.in-Ref.i c.in-Some.entry.now
    (found_entry c.args.table.now c.in-Ref.i c.in-Some.entry.now c.in-Some.ensures.lookup.3.0 (c.in-Some.ensures.lookup.3.1 c.in-Some.entry.now)) in
    rw (c.in-Ref.is, tree-Ref, e, f) c.read.ensures.refused

pub read_node-returns-in-None-clause-refused : goal.read_node-returns-in-None-clause-refused
read_node-returns-in-None-clause-refused t c =
    let left : 0 < c.args.left = omega arith in
    let e = followed_one c.args.left c.args.table.now c.in-Ref.i left in
    let f = entry_away (followed (c.args.left - 1) c.args.table.now) c.args.table.now c.in-Ref.i (no_entry c.args.table.now c.in-Ref.i c.in-None.ensures.lookup.3) in
    passed_on (λ e. IsRefusalAt (tree_of_node c.args.left c.args.table.now c.args.node.now) c.args.place c.args.reader.now e.reason) c.err-in-None.result _ _ c.err-in-None.ensures refl
    (tt, λ other. rw (c.in-Ref.is, tree-Ref, e, f) (λ p at a st. never_read p a))

pub read_elements-returns-then-has-clause-read : goal.read_elements-returns-then-has-clause-read
read_elements-returns-then-has-clause-read t c =
    rw (c.in-Some.ensures.some.tree (followed c.args.left c.args.table.now))
    (leaves_within (leaf_tree (kind_of c.in-Some.kind) any_number) c.args.place c.args.count c.args.reader.now c.read_leaves.new.reader c.args.budget.now c.take.new.self c.in-Some.kind c.read_leaves.result
    c.take.ensures c.read_leaves.ensures.read c.read_leaves.ensures.of_case c.read_leaves.ensures.size)

pub read_elements-returns-then-has-clause-whole : goal.read_elements-returns-then-has-clause-whole
read_elements-returns-then-has-clause-whole t c =
    IfOk-weaker c.read_leaves.result (λ values. AllByRecursion (IsCaseOf c.in-Some.kind) values.items)
    (λ values. IsLeft c.take.new.self → flat_map (λ v. faults_of c.args.table.now v c.args.left c.args.node.now) values.items ≡ [])
    (λ values h left. leaves_whole c.args.node.now c.in-Some.kind c.args.table.now c.args.left c.in-Some.ensures.some values.items h) c.read_leaves.ensures.of_case

pub read_elements-returns-then-has-clause-refused : goal.read_elements-returns-then-has-clause-refused
read_elements-returns-then-has-clause-refused t c = rw (c.in-Some.ensures.some.tree (followed c.args.left c.args.table.now)) c.read_leaves.ensures.refused

pub read_elements-returns-then-is_free-clause-read : goal.read_elements-returns-then-is_free-clause-read
read_elements-returns-then-is_free-clause-read t c =
    let tree = tree_of_node c.args.left c.args.table.now c.args.node.now in
    let i = c.loop-i._i in
    let gone : c.loop-i.budget ≡ Spent = c.if-is_spent.ensures in
    let free : column_free tree ≡ true = sym c.is_free.ensures ∙ c.if-is_free.true in
    let all : i + (c.args.count - i) ≡ c.args.count = omega arith in
    let so_far = subst (λ b. ReadsListWithin tree c.args.place c.args.reader.now c.args.budget.now i c.loop-i.values.items c.loop-i.reader b) gone c.loop-i.invariant.1 in
    let rest = rest_within tree c.args.place c.args.reader.now c.loop-i.reader c.args.budget.now c.loop-i.values.items (c.args.count - i) i c.loop-i.invariant.0
    (sound_tree_of_node c.args.left c.args.table.now c.args.node.now) free so_far in
    subst (λ b. ReadsListWithin tree c.args.place c.args.reader.now c.args.budget.now c.args.count c.loop-i.values.items c.loop-i.reader b) (sym gone)
    (subst (λ n. ReadsListWithin tree c.args.place c.args.reader.now c.args.budget.now n c.loop-i.values.items c.loop-i.reader Spent) all rest)

pub read_elements-read-requires : goal.read_elements-read-requires
read_elements-read-requires t c =
    let h = still_there _ c.loop-i.reader c.args.place c.loop-i.invariant.0 c.requires.place in
    let s = c.loop-i.invariant.0.steady in
    search (rules, h, s)

pub read_elements-returns-in_err-value-clause-refused : goal.read_elements-returns-in_err-value-clause-refused
read_elements-returns-in_err-value-clause-refused t c =
    let tree = tree_of_node c.args.left c.args.table.now c.args.node.now in
    let y = err_from_is_err_and c.from_residual.result c.from_residual.ensures.1 in
    let lt : c.loop-i._i < c.args.count = omega arith in
    passed_on (λ e. IsListRefusalAt tree c.args.place c.args.reader.now c.args.count e.reason) c.from_residual.result c.in_err-value.field-0.0 y.0 y.1 y.2
    (list_stuck tree c.args.place c.args.reader.now c.loop-i.reader c.loop-i._i c.args.count _ _ c.loop-i.invariant.0 c.loop-i.invariant.1.read lt c.in_err-value.ensures.refused)

pub read_elements-loop-i-preserved : goal.read_elements-loop-i-preserved
read_elements-loop-i-preserved t c =
    let tree = tree_of_node c.args.left c.args.table.now c.args.node.now in
    let one = c.in_ok-value.ensures.read in
    let many = c.loop-i.invariant.1 in (
      continues_on c.args.reader.now c.loop-i.reader c.read.new.reader c.loop-i.invariant.0 c.in_ok-value.ensures.continues,
      keeps_more datum_of _ _ c.args.budget.now c.loop-i.budget c.read.new.budget c.loop-i.values.items c.keep.new.items.items c.in_ok-value.value one.datum many
          (one_more tree c.args.place c.args.reader.now c.loop-i.reader c.read.new.reader c.loop-i._i many.listing one.datum c.loop-i.invariant.0 many.read one.read)
          one.taken one.same c.in_ok-keep.ensures.kept,
      λ left. rw (c.in_ok-keep.ensures.kept left)
          (one_more_whole (λ v. faults_of c.args.table.now v c.args.left c.args.node.now) c.loop-i.values.items c.in_ok-value.value
          (c.loop-i.invariant.2 (left_before (node_count one.datum) c.loop-i.budget (subst IsLeft one.taken left))) (c.in_ok-value.ensures.whole left)),
    )

pub read_elements-returns-clause-read : goal.read_elements-returns-clause-read
read_elements-returns-clause-read t c =
    let e : c.loop-i._i ≡ c.args.count = omega arith in
    subst (λ n. ReadsListWithin (tree_of_node c.args.left c.args.table.now c.args.node.now) c.args.place c.args.reader.now c.args.budget.now n c.loop-i.values.items
    c.loop-i.reader c.loop-i.budget) e c.loop-i.invariant.1

pub read_seq-returns-in_err-taken-clause-refused : goal.read_seq-returns-in_err-taken-clause-refused
read_seq-returns-in_err-taken-clause-refused t c =
    let tree = tree_of_node c.args.left c.args.table.now c.args.node.now in
    let y = err_from_is_err_and c.from_residual.result c.from_residual.ensures.1 in
    passed_on (λ e. IsRefusalAt (seq_tree tree) c.args.place c.args.reader.now e.reason) c.from_residual.result c.in_err-taken.field-0.0 y.0 y.1 y.2
    (refused_entry c.args.reader.now c.args.place length_kind (ReadsNoDatum (seq_tree tree)) _ (λ p a stuck. seq_stuck_length tree p a stuck) c.in_err-taken.ensures.refused)

pub read_seq-returns-in_err-values-clause-refused : goal.read_seq-returns-in_err-values-clause-refused
read_seq-returns-in_err-values-clause-refused t c =
    let tree = tree_of_node c.args.left c.args.table.now c.args.node.now in
    let y = err_from_is_err_and c.from_residual-in_err-values.result c.from_residual-in_err-values.ensures.1 in
    let enters = enters_list c.args.reader.now c.take_length.new.self c.step.new.self c.args.place c.in_ok-elements.elements c.in_ok-taken.taken.length c.in_ok-taken.taken.total
    c.in_ok-taken.ensures.leads c.take_length.ensures.below c.in_ok-elements.ensures.found c.in_ok-elements.ensures.stands in
    passed_on (λ e. IsRefusalAt (seq_tree tree) c.args.place c.args.reader.now e.reason) c.from_residual-in_err-values.result c.in_err-values.field-0.0 y.0 y.1 y.2
    (seq_refused tree c.args.reader.now c.step.new.self c.args.place c.in_ok-elements.elements c.in_ok-taken.taken.length _ enters c.in_err-values.ensures.refused)

pub read_seq-returns-clause-continues : goal.read_seq-returns-clause-continues
read_seq-returns-clause-continues t c =
    continues_on c.args.reader.now c.step.new.self _
    (continues_stepped c.args.reader.now c.take_length.new.self c.step.new.self c.take_length.ensures.below c.take_length.ensures.asked c.in_ok-taken.ensures.sized c.step.ensures.columns c.step.ensures.asked
    c.in_ok-elements.ensures.kept)
    c.in_ok-values.ensures.continues

pub read_seq-returns-clause-read : goal.read_seq-returns-clause-read
read_seq-returns-clause-read t c =
    let enters = enters_list c.args.reader.now c.take_length.new.self c.step.new.self c.args.place c.in_ok-elements.elements c.in_ok-taken.taken.length c.in_ok-taken.taken.total
    c.in_ok-taken.ensures.leads c.take_length.ensures.below c.in_ok-elements.ensures.found c.in_ok-elements.ensures.stands in
    let k = c.in_ok-values.ensures.read in
    keeps_all datum_of _ _ c.args.budget.now c.take.new.self _ c.in_ok-values.values.items _ (λ ds. list ds) (λ ds. refl) (datum-Seq c.in_ok-values.values) c.take.ensures k
    (seq_read_at (tree_of_node c.args.left c.args.table.now c.args.node.now) c.args.reader.now c.step.new.self _ c.args.place c.in_ok-elements.elements
    c.in_ok-taken.taken.length k.listing enters c.if-is_over_limit.ensures k.read)

pub read_option-returns-in_err-taken-clause-refused : goal.read_option-returns-in_err-taken-clause-refused
read_option-returns-in_err-taken-clause-refused t c =
    let variants = tree_and unit_tree (tree_and (tree_of_node c.args.left c.args.table.now c.args.node.now) no_trees) in
    let y = err_from_is_err_and c.from_residual.result c.from_residual.ensures.1 in
    passed_on (λ e. IsRefusalAt (choice_tree variants) c.args.place c.args.reader.now e.reason) c.from_residual.result c.in_err-taken.field-0.0 y.0 y.1 y.2
    (refused_entry c.args.reader.now c.args.place index_kind (ReadsNoDatum (choice_tree variants)) _ (λ p a stuck. choice_stuck_index variants p a stuck) c.in_err-taken.ensures.refused)

pub read_option-returns-then-taken-eq0-clause-read : goal.read_option-returns-then-taken-eq0-clause-read
read_option-returns-then-taken-eq0-clause-read t c =
    let variants = tree_and unit_tree (tree_and (tree_of_node c.args.left c.args.table.now c.args.node.now) no_trees) in
    let i = c.in_ok-taken.taken.index in
    let is : i ≡ 0 = omega arith in
    record {
      datum = choice 0 unit;
      read = subst (λ k. ReadsAt (choice_tree variants) c.args.place c.args.reader.now (choice k unit) c.take_index.new.self) is
          (choice_of_unit variants i c.args.reader.now c.take_index.new.self c.args.place (λ entries. c.in_ok-taken.taken.count ≡ count_of i entries)
          (ap (tree_at variants) is) c.in_ok-taken.ensures.leads);
      taken = c.take-then-taken-eq0.ensures ∙ ap (spend 1) c.take.ensures ∙ spend-then 1 1 c.args.budget.now;
      same = λ left. datum-None;
    }

pub read_option-returns-then-taken-gt1-clause-refused : goal.read_option-returns-then-taken-gt1-clause-refused
read_option-returns-then-taken-gt1-clause-refused t c =
    let variants = tree_and unit_tree (tree_and (tree_of_node c.args.left c.args.table.now c.args.node.now) no_trees) in
    let i = c.in_ok-taken.taken.index in
    passed_on (λ e. IsRefusalAt (choice_tree variants) c.args.place c.args.reader.now e.reason) c.err.result _ _ c.err.ensures refl (
      tt,
      λ other. no_choice variants i c.args.reader.now c.take_index.new.self c.args.place (λ entries. c.in_ok-taken.taken.count ≡ count_of i entries)
          (no_third (tree_of_node c.args.left c.args.table.now c.args.node.now) i (omega arith)) c.in_ok-taken.ensures.leads,
    )

pub read_option-returns-in_err-value-clause-refused : goal.read_option-returns-in_err-value-clause-refused
read_option-returns-in_err-value-clause-refused t c =
    let variants = tree_and unit_tree (tree_and (tree_of_node c.args.left c.args.table.now c.args.node.now) no_trees) in
    let y = err_from_is_err_and c.from_residual-in_err-value.result c.from_residual-in_err-value.ensures.1 in
    let i = c.in_ok-taken.taken.index in
    let enters = enters_choice c.args.reader.now c.take_index.new.self c.step.new.self c.args.place c.in_ok-inside.inside i c.in_ok-taken.taken.count
    c.in_ok-taken.ensures.leads c.take_index.ensures.below c.in_ok-inside.ensures.found c.in_ok-inside.ensures.stands in
    let one : i ≡ 1 = omega arith in
    passed_on (λ e. IsRefusalAt (choice_tree variants) c.args.place c.args.reader.now e.reason) c.from_residual-in_err-value.result c.in_err-value.field-0.0 y.0 y.1 y.2
    (choice_refused variants i c.args.reader.now c.step.new.self c.args.place c.in_ok-inside.inside _ enters (rw (ap (tree_at variants) one) c.in_err-value.ensures.refused))

pub read_option-returns-clause-continues : goal.read_option-returns-clause-continues
read_option-returns-clause-continues t c =
    continues_on c.args.reader.now c.step.new.self _
    (continues_stepped c.args.reader.now c.take_index.new.self c.step.new.self c.take_index.ensures.below c.take_index.ensures.asked c.in_ok-taken.ensures.sized c.step.ensures.columns c.step.ensures.asked
    c.in_ok-inside.ensures.kept)
    c.in_ok-value.ensures.continues

pub read_option-returns-clause-read : goal.read_option-returns-clause-read
read_option-returns-clause-read t c =
    let variants = tree_and unit_tree (tree_and (tree_of_node c.args.left c.args.table.now c.args.node.now) no_trees) in
    let i = c.in_ok-taken.taken.index in
    let enters = enters_choice c.args.reader.now c.take_index.new.self c.step.new.self c.args.place c.in_ok-inside.inside i c.in_ok-taken.taken.count
    c.in_ok-taken.ensures.leads c.take_index.ensures.below c.in_ok-inside.ensures.found c.in_ok-inside.ensures.stands in
    let one : i ≡ 1 = omega arith in
    let k = c.in_ok-value.ensures.read in
    let read = choice_read_at variants i k.datum c.args.reader.now c.step.new.self _ c.args.place c.in_ok-inside.inside enters (rw (ap (tree_at variants) one) k.read) in
    keeps_choice _ _ c.args.budget.now c.take.new.self _ 1 c.in_ok-value.value _ (datum-Some c.in_ok-new.field-0 ∙ rw c.in_ok-new.ensures.ok refl) c.take.ensures k
    (subst (λ n. ReadsAt (choice_tree variants) c.args.place c.args.reader.now (choice n k.datum) c.read.new.reader) one read)

pub read_enum-returns-in_err-taken-clause-refused : goal.read_enum-returns-in_err-taken-clause-refused
read_enum-returns-in_err-taken-clause-refused t c =
    let trees = trees_of (map (tree_of_node c.args.left c.args.table.now) c.args.nodes.now) in
    let y = err_from_is_err_and c.from_residual.result c.from_residual.ensures.1 in
    passed_on (λ e. IsRefusalAt (choice_tree trees) c.args.place c.args.reader.now e.reason) c.from_residual.result c.in_err-taken.field-0.0 y.0 y.1 y.2
    (refused_entry c.args.reader.now c.args.place index_kind (ReadsNoDatum (choice_tree trees)) _ (λ p a stuck. choice_stuck_index trees p a stuck) c.in_err-taken.ensures.refused)

pub read_enum-read-requires : goal.read_enum-read-requires
read_enum-read-requires t c =
    let d = entry_deep c.args.nodes.now c.in_ok-taken.taken.index c.in-Some.node.now
    (found_entry c.args.nodes.now c.in_ok-taken.taken.index c.in-Some.node.now c.in-Some.ensures.lookup.3.0 (c.in-Some.ensures.lookup.3.1 c.in-Some.node.now)) in
    let h = c.in_ok-inside-in-Some.ensures.found.0 in
    let s = (continues_stepped c.args.reader.now c.take_index.new.self c.step.new.self c.take_index.ensures.below c.take_index.ensures.asked c.in_ok-taken.ensures.sized c.step.ensures.columns c.step.ensures.asked
    c.in_ok-inside-in-Some.ensures.kept).steady in
    search (rules, d, h, s)

pub read_enum-returns-in_err-value-in-Some-clause-refused : goal.read_enum-returns-in_err-value-in-Some-clause-refused
read_enum-returns-in_err-value-in-Some-clause-refused t c =
    let at_node = tree_of_node c.args.left c.args.table.now in
    let trees = trees_of (map at_node c.args.nodes.now) in
    let y = err_from_is_err_and c.from_residual-in_err-value-in-Some.result c.from_residual-in_err-value-in-Some.ensures.1 in
    let i = c.in_ok-taken.taken.index in
    let enters = enters_choice c.args.reader.now c.take_index.new.self c.step.new.self c.args.place c.in_ok-inside-in-Some.inside i c.in_ok-taken.taken.count
    c.in_ok-taken.ensures.leads c.take_index.ensures.below c.in_ok-inside-in-Some.ensures.found c.in_ok-inside-in-Some.ensures.stands in
    let is = tree_at_entry at_node c.args.nodes.now i c.in-Some.node.now
    (found_entry c.args.nodes.now c.in_ok-taken.taken.index c.in-Some.node.now c.in-Some.ensures.lookup.3.0 (c.in-Some.ensures.lookup.3.1 c.in-Some.node.now)) in
    passed_on (λ e. IsRefusalAt (choice_tree trees) c.args.place c.args.reader.now e.reason) c.from_residual-in_err-value-in-Some.result c.in_err-value-in-Some.field-0.0 y.0 y.1 y.2
    (choice_refused trees i c.args.reader.now c.step.new.self c.args.place c.in_ok-inside-in-Some.inside _ enters (rw is c.in_err-value-in-Some.ensures.refused))

pub read_enum-returns-in_ok-new-in-Some-clause-continues : goal.read_enum-returns-in_ok-new-in-Some-clause-continues
read_enum-returns-in_ok-new-in-Some-clause-continues t c =
    continues_on c.args.reader.now c.step.new.self _
    (continues_stepped c.args.reader.now c.take_index.new.self c.step.new.self c.take_index.ensures.below c.take_index.ensures.asked c.in_ok-taken.ensures.sized c.step.ensures.columns c.step.ensures.asked
    c.in_ok-inside-in-Some.ensures.kept)
    c.in_ok-value-in-Some.ensures.continues

pub read_enum-returns-in_ok-new-in-Some-clause-read : goal.read_enum-returns-in_ok-new-in-Some-clause-read
read_enum-returns-in_ok-new-in-Some-clause-read t c =
    let at_node = tree_of_node c.args.left c.args.table.now in
    let i = c.in_ok-taken.taken.index in
    let enters = enters_choice c.args.reader.now c.take_index.new.self c.step.new.self c.args.place c.in_ok-inside-in-Some.inside i c.in_ok-taken.taken.count
    c.in_ok-taken.ensures.leads c.take_index.ensures.below c.in_ok-inside-in-Some.ensures.found c.in_ok-inside-in-Some.ensures.stands in
    let is = tree_at_entry at_node c.args.nodes.now i c.in-Some.node.now
    (found_entry c.args.nodes.now c.in_ok-taken.taken.index c.in-Some.node.now c.in-Some.ensures.lookup.3.0 (c.in-Some.ensures.lookup.3.1 c.in-Some.node.now)) in
    let k = c.in_ok-value-in-Some.ensures.read in
    keeps_choice _ _ c.args.budget.now c.take.new.self _ i c.in_ok-value-in-Some.value _
    (datum-Enum i c.in_ok-new-in-Some.field-0 ∙ rw c.in_ok-new-in-Some.ensures.ok refl) c.take.ensures k
    (choice_read_at (trees_of (map at_node c.args.nodes.now)) i k.datum c.args.reader.now c.step.new.self _ c.args.place
    c.in_ok-inside-in-Some.inside enters (rw is k.read))

pub read_enum-returns-in-None-clause-refused : goal.read_enum-returns-in-None-clause-refused
read_enum-returns-in-None-clause-refused t c =
    let at_node = tree_of_node c.args.left c.args.table.now in
    let trees = trees_of (map at_node c.args.nodes.now) in
    let i = c.in_ok-taken.taken.index in
    passed_on (λ e. IsRefusalAt (choice_tree trees) c.args.place c.args.reader.now e.reason) c.err.result _ _ c.err.ensures refl (
      tt,
      λ other. no_choice trees i c.args.reader.now c.take_index.new.self c.args.place (λ entries. c.in_ok-taken.taken.count ≡ count_of i entries)
          (tree_at_none at_node c.args.nodes.now i (no_entry c.args.nodes.now i c.in-None.ensures.lookup.3)) c.in_ok-taken.ensures.leads,
    )

pub read_tuple-loop-i-init : goal.read_tuple-loop-i-init
read_tuple-loop-i-init t c =
    let at_node = tree_of_node c.args.left c.args.table.now in (
      record { steady = c.requires.steady; asked = asked_alike c.args.reader.now; kept = λ i p at. at },
      fields_on at_node c.args.nodes.now c.args.place c.args.reader.now c.args.reader.now c.take.new.self c.take.new.self c.in_ok-values.values.items 0 c.next_field-i.result
          (record { steady = c.requires.steady; asked = asked_alike c.args.reader.now; kept = λ i p at. at })
          c.next_field-i.ensures.inside.0 c.next_field-i.ensures.inside.1 c.next_field-i.ensures.kept
          (sound_tree_of_node c.args.left c.args.table.now) c.next_field-i.ensures.free
          (record {
            listing = [];
            read = no_fields at_node c.args.nodes.now c.args.place c.args.reader.now;
            taken = refl;
            same = λ left. rw c.in_ok-values.ensures.empty refl;
          }),
      (λ left. rw (c.next_field-i.ensures.kept left, c.in_ok-values.ensures.empty) refl),
      omega arith,
      c.next_field-i.ensures.inside.1,
    )

pub read_tuple-read_field-requires : goal.read_tuple-read_field-requires
read_tuple-read_field-requires t c =
    let d = entry_deep c.args.nodes.now c.loop-i.i c.index-nodes-i.result (found_entry c.args.nodes.now c.loop-i.i c.index-nodes-i.result c.loop-i-test.true c.index-nodes-i.is) in
    let h = still_there c.args.reader.now c.loop-i.reader c.args.place c.loop-i.invariant.0 c.requires.place in
    let s = c.loop-i.invariant.0.steady in
    let m = c.loop-i.invariant.3 in
    search (rules, d, h, s, m)

pub read_tuple-returns-in_err-met-clause-refused : goal.read_tuple-returns-in_err-met-clause-refused
read_tuple-returns-in_err-met-clause-refused t c =
    let at_node = tree_of_node c.args.left c.args.table.now in
    let y = err_from_is_err_and c.from_residual-in_err-met.result c.from_residual-in_err-met.ensures.1 in
    passed_on (λ e. IsRefusalAt (tuple_tree (trees_of (map at_node c.args.nodes.now))) c.args.place c.args.reader.now e.reason) c.from_residual-in_err-met.result c.in_err-met.field-0.0 y.0 y.1 y.2
    (field_refused at_node c.args.nodes.now c.args.place c.args.reader.now c.loop-i.reader c.loop-i.i c.index-nodes-i.result
    c.loop-i.invariant.1.listing c.loop-i.invariant.0 (found_entry c.args.nodes.now c.loop-i.i c.index-nodes-i.result c.loop-i-test.true c.index-nodes-i.is)
    c.loop-i.invariant.1.read _ c.in_err-met.ensures.refused)

pub read_tuple-loop-i-preserved : goal.read_tuple-loop-i-preserved
read_tuple-loop-i-preserved t c =
    let at_node = tree_of_node c.args.left c.args.table.now in
    let there = found_entry c.args.nodes.now c.loop-i.i c.index-nodes-i.result c.loop-i-test.true c.index-nodes-i.is in
    let one = c.in_ok-met.ensures.read in
    let many = c.loop-i.invariant.1 in (
      continues_on c.args.reader.now c.loop-i.reader c.read_field.new.reader c.loop-i.invariant.0 c.in_ok-met.ensures.continues,
      fields_on at_node c.args.nodes.now c.args.place c.args.reader.now c.read_field.new.reader c.take.new.self c.read_field.new.budget c.read_field.new.values.items
          (c.loop-i.i + 1) c.next_field-i-in-loop-i.result
          (continues_on c.args.reader.now c.loop-i.reader c.read_field.new.reader c.loop-i.invariant.0 c.in_ok-met.ensures.continues)
          c.next_field-i-in-loop-i.ensures.inside.0 c.next_field-i-in-loop-i.ensures.inside.1 c.next_field-i-in-loop-i.ensures.kept
          (sound_tree_of_node c.args.left c.args.table.now) c.next_field-i-in-loop-i.ensures.free
          (keeps_more datum_of _ _ c.take.new.self c.loop-i.budget c.read_field.new.budget c.loop-i.values.items c.read_field.new.values.items one.value one.read.datum many
          (one_more_field at_node c.args.nodes.now c.args.place c.args.reader.now c.loop-i.reader c.loop-i.i
          c.index-nodes-i.result many.listing c.loop-i.invariant.0 there many.read one.read.datum
          c.read_field.new.reader one.read.read) one.read.taken one.read.same one.added),
      (λ left. rw (c.next_field-i-in-loop-i.ensures.kept left, one.added left)
          (one_more_field_whole c.args.table.now c.args.left c.args.nodes.now c.loop-i.values.items c.loop-i.i one.value c.index-nodes-i.result
          (c.loop-i.invariant.2 (left_before (node_count one.read.datum) c.loop-i.budget (subst IsLeft one.read.taken left))) there (one.whole left))),
      (let up = c.in_ok-met.ensures.met in let low = c.next_field-i-in-loop-i.ensures.inside.0 in omega (arith, up, low)),
      c.next_field-i-in-loop-i.ensures.inside.1,
    )

pub read_field-returns-then-is_spent-clause-read : goal.read_field-returns-then-is_spent-clause-read
read_field-returns-then-is_spent-clause-read t c =
    let free : column_free (tree_of_node c.args.left c.args.table.now c.args.node.now) ≡ true = sym c.lacks_columns.ensures ∙ c.if-lacks_columns.true in
    field_skipped (tree_of_node c.args.left c.args.table.now c.args.node.now) c.args.place c.args.i c.args.fields free
    (sound_tree_of_node c.args.left c.args.table.now c.args.node.now) _ c.args.reader.now c.args.budget.now c.args.values.now.items c.if-is_spent.ensures

pub read_field-returns-then-lacks_columns-clause-read : goal.read_field-returns-then-lacks_columns-clause-read
read_field-returns-then-lacks_columns-clause-read t c =
    let free : column_free (tree_of_node c.args.left c.args.table.now c.args.node.now) ≡ true = sym c.lacks_columns.ensures ∙ c.if-lacks_columns.true in
    adds_as _ _ _ c.args.budget.now c.read_node.new.budget c.args.values.now.items c.keep.new.items.items
    (λ d r. free_field (tree_of_node c.args.left c.args.table.now c.args.node.now) c.args.place c.args.i c.args.fields free c.args.reader.now d c.read_node.new.reader r)
    (record { value = c.in_ok-value.value; read = c.in_ok-value.ensures.read; whole = c.in_ok-value.ensures.whole; added = c.in_ok-keep.ensures.kept })

pub read_field-returns-in_err-value-clause-refused : goal.read_field-returns-in_err-value-clause-refused
read_field-returns-in_err-value-clause-refused t c =
    let tree = tree_of_node c.args.left c.args.table.now c.args.node.now in
    let free : column_free tree ≡ true = sym c.lacks_columns.ensures ∙ c.if-lacks_columns.true in
    let y = err_from_is_err_and c.from_residual.result c.from_residual.ensures.1 in
    passed_on (λ e. IsFieldRefusalAt tree c.args.place c.args.i c.args.fields c.args.reader.now e.reason) c.from_residual.result c.in_err-value.field-0.0 y.0 y.1 y.2
    (free_field_refused tree c.args.place c.args.i c.args.fields free c.args.reader.now _ c.in_err-value.ensures.refused)

pub read_field-read_behind-requires : goal.read_field-read_behind-requires
read_field-read_behind-requires t c =
    let h = (c.in_ok-inside.ensures.found _ (c.requires.place, refl)).0 in
    let s = c.in_ok-inside.ensures.continues.steady in
    search (rules, h, s)

pub read_field-returns-in_err-read_behind-clause-refused : goal.read_field-returns-in_err-read_behind-clause-refused
read_field-returns-in_err-read_behind-clause-refused t c =
    let tree = tree_of_node c.args.left c.args.table.now c.args.node.now in
    let y = err_from_is_err_and c.from_residual-in_err-read_behind.result c.from_residual-in_err-read_behind.ensures.1 in
    passed_on (λ e. IsFieldRefusalAt tree c.args.place c.args.i c.args.fields c.args.reader.now e.reason) c.from_residual-in_err-read_behind.result c.in_err-read_behind.field-0.0 y.0 y.1 y.2
    (field_inside_refused tree c.args.place c.args.i c.args.fields c.args.reader.now c.field.new.self c.in_ok-inside.inside c.in_ok-inside.ensures.found c.in_ok-inside.ensures.stands
    _ c.in_err-read_behind.ensures.refused)

pub read_field-returns-clause-continues : goal.read_field-returns-clause-continues
read_field-returns-clause-continues t c =
    continues_on c.args.reader.now c.field.new.self c.read_behind.new.reader c.in_ok-inside.ensures.continues c.in_ok-read_behind.ensures.continues

pub read_field-returns-clause-read : goal.read_field-returns-clause-read
read_field-returns-clause-read t c =
    adds_as _ _ _ c.args.budget.now c.read_behind.new.budget c.args.values.now.items c.read_behind.new.values.items
    (λ d r. field_inside (tree_of_node c.args.left c.args.table.now c.args.node.now) c.args.place c.args.i c.args.fields c.args.reader.now c.field.new.self c.in_ok-inside.inside
    c.in_ok-inside.ensures.found c.in_ok-inside.ensures.stands d c.read_behind.new.reader r)
    c.in_ok-read_behind.ensures.read

pub read_tuple-returns-clause-read : goal.read_tuple-returns-clause-read
read_tuple-returns-clause-read t c =
    let at_node = tree_of_node c.args.left c.args.table.now in
    let inside = c.loop-i.invariant.4 in
    let last : c.loop-i.i ≡ length c.args.nodes.now = omega (arith, inside) in
    let k = c.loop-i.invariant.1 in
    keeps_all datum_of _ _ c.args.budget.now c.take.new.self c.loop-i.budget c.loop-i.values.items _ (λ ds. tuple ds) (λ ds. refl) (datum-Tuple c.loop-i.values) c.take.ensures k
    (tuple_done at_node c.args.nodes.now c.args.place c.args.reader.now c.loop-i.reader c.loop-i.i k.listing last k.read)

pub read_seq-returns-then-is_over_limit-clause-refused : goal.read_seq-returns-then-is_over_limit-clause-refused
read_seq-returns-then-is_over_limit-clause-refused t c =
    let tree = tree_of_node c.args.left c.args.table.now c.args.node.now in
    passed_on (λ e. IsRefusalAt (seq_tree tree) c.args.place c.args.reader.now e.reason) c.err.result _ _ c.err.ensures refl (
      tt,
      λ other p at a st.
          let l = told_at c.args.reader.now c.take_length.new.self c.args.place length_kind (natural c.in_ok-taken.taken.length)
          (λ entries. c.in_ok-taken.taken.total ≡ total entries) c.in_ok-taken.ensures.leads p at a st in
          seq_over_limit tree p a c.in_ok-taken.taken.length l.0 l.2.takes c.if-is_over_limit.ensures.0 c.if-is_over_limit.ensures.1,
    )

pub read_node-returns-in-Unit-clause-whole : goal.read_node-returns-in-Unit-clause-whole
read_node-returns-in-Unit-clause-whole t c = λ left. rw c.in-Unit.is (faults-Unit c.args.table.now c.args.left)

pub read_node-returns-in-Bytes-clause-whole : goal.read_node-returns-in-Bytes-clause-whole
read_node-returns-in-Bytes-clause-whole t c =
    rw c.in-Bytes.is (IfOk-weaker _ IsOfBytes (λ v. IsLeft _ → faults_of c.args.table.now v c.args.left node.Bytes ≡ []) (λ v h left. h c.args.table.now c.args.left) c.read_bytes.ensures.whole)

pub read_node-returns-in-Option-clause-whole : goal.read_node-returns-in-Option-clause-whole
read_node-returns-in-Option-clause-whole t c =
    rw c.in-Option.is (IfOk-weaker _ (λ v. IsLeft _ → IsOfOption c.args.table.now c.args.left _ v) (λ v. IsLeft _ → faults_of c.args.table.now v c.args.left (node.Option c.in-Option.some) ≡ [])
    (λ v h left. h left c.in-Option.some (sym c.deref.ensures)) c.read_option.ensures.whole)

pub read_node-returns-in-Seq-clause-whole : goal.read_node-returns-in-Seq-clause-whole
read_node-returns-in-Seq-clause-whole t c =
    rw c.in-Seq.is (IfOk-weaker _ (λ v. IsLeft _ → IsOfSeq c.args.table.now c.args.left _ v) (λ v. IsLeft _ → faults_of c.args.table.now v c.args.left (node.Seq c.in-Seq.element) ≡ [])
    (λ v h left. h left c.in-Seq.element (sym c.deref-in-Seq.ensures)) c.read_seq.ensures.whole)

pub read_node-returns-in-Map-clause-whole : goal.read_node-returns-in-Map-clause-whole
read_node-returns-in-Map-clause-whole t c =
    rw c.in-Map.is (IfOk-weaker _ (λ v. IsLeft _ → IsOfMap c.args.table.now c.args.left _ _ v) (λ v. IsLeft _ → faults_of c.args.table.now v c.args.left (node.Map c.in-Map.key c.in-Map.value) ≡ [])
    (λ v h left. h left c.in-Map.key c.in-Map.value (sym c.deref-in-Map.ensures) (sym c.deref-in-Map-2.ensures)) c.read_map.ensures.whole)

pub read_node-returns-in-Tuple-clause-whole : goal.read_node-returns-in-Tuple-clause-whole
read_node-returns-in-Tuple-clause-whole t c =
    rw c.in-Tuple.is (IfOk-weaker _ (λ v. IsLeft _ → IsOfTuple c.args.table.now c.args.left _ v) (λ v. IsLeft _ → faults_of c.args.table.now v c.args.left (node.Tuple c.in-Tuple.nodes) ≡ [])
    (λ v h left. h left c.in-Tuple.nodes (sym c.deref-in-Tuple.ensures.value)) c.read_tuple.ensures.whole)

pub read_node-returns-in-Enum-clause-whole : goal.read_node-returns-in-Enum-clause-whole
read_node-returns-in-Enum-clause-whole t c =
    rw c.in-Enum.is (IfOk-weaker _ (λ v. IsLeft _ → IsOfEnum c.args.table.now c.args.left _ v) (λ v. IsLeft _ → faults_of c.args.table.now v c.args.left (node.Enum c.in-Enum.nodes) ≡ [])
    (λ v h left. h left c.in-Enum.nodes (sym c.deref-in-Enum.ensures.value)) c.read_enum.ensures.whole)

pub read_node-returns-in-Some-clause-whole : goal.read_node-returns-in-Some-clause-whole
read_node-returns-in-Some-clause-whole t c =
    let some : 0 < c.args.left = omega arith in
    let there = found_entry c.args.table.now c.in-Ref.i c.in-Some.entry.now c.in-Some.ensures.lookup.3.0 (c.in-Some.ensures.lookup.3.1 c.in-Some.entry.now) in
    rw c.in-Ref.is (IfOk-weaker _ (λ v. IsLeft _ → faults_of c.args.table.now v (c.args.left - 1) c.in-Some.entry.now ≡ [])
    (λ v. IsLeft _ → faults_of c.args.table.now v c.args.left (node.Ref c.in-Ref.i) ≡ [])
    (λ v h left. reference_whole c.args.table.now v c.args.left c.in-Ref.i c.in-Some.entry.now some there (h left)) c.read.ensures.whole)

pub read_option-returns-then-taken-eq0-clause-whole : goal.read_option-returns-then-taken-eq0-clause-whole
read_option-returns-then-taken-eq0-clause-whole t c = λ left b is. faults-None c.args.table.now c.args.left b

pub read_option-returns-clause-whole : goal.read_option-returns-clause-whole
read_option-returns-clause-whole t c = λ left b is.
    faults-Some c.args.table.now c.args.left c.in_ok-new.field-0 b ∙ rw (c.in_ok-new.ensures.ok, is) (c.in_ok-value.ensures.whole left)

pub read_seq-returns-clause-whole : goal.read_seq-returns-clause-whole
read_seq-returns-clause-whole t c = λ left b is.
    faults-Seq c.args.table.now c.args.left c.in_ok-values.values b ∙ rw is (c.in_ok-values.ensures.whole left)

pub read_tuple-returns-clause-whole : goal.read_tuple-returns-clause-whole
read_tuple-returns-clause-whole t c = λ left ns is.
    let inside = c.loop-i.invariant.4 in
    let last : c.loop-i.i ≡ length c.args.nodes.now = omega (arith, inside) in
    faults-Tuple c.args.table.now c.args.left c.loop-i.values ns
    ∙ rw is (all_fields_whole c.args.table.now c.args.left c.args.nodes.now c.loop-i.values.items c.loop-i.i last (c.loop-i.invariant.2 left))

pub read_enum-returns-in_ok-new-in-Some-clause-whole : goal.read_enum-returns-in_ok-new-in-Some-clause-whole
read_enum-returns-in_ok-new-in-Some-clause-whole t c = λ left ns is.
    let i = c.in_ok-taken.taken.index in
    let n = c.in-Some.node.now in
    let there = found_entry c.args.nodes.now i n c.in-Some.ensures.lookup.3.0 (c.in-Some.ensures.lookup.3.1 n) in
    enum_whole c.args.table.now c.args.left i c.in_ok-new-in-Some.field-0 ns n (omega arith) (rw is there) (rw c.in_ok-new-in-Some.ensures.ok (c.in_ok-value-in-Some.ensures.whole left))

pub read_map-returns-in_err-taken-clause-refused : goal.read_map-returns-in_err-taken-clause-refused
read_map-returns-in_err-taken-clause-refused = map.read_map-returns-in_err-taken-clause-refused

pub read_map-step-requires-2 : goal.read_map-step-requires-2
read_map-step-requires-2 = map.read_map-step-requires-2

pub read_map-read-requires : goal.read_map-read-requires
read_map-read-requires = map.read_map-read-requires

pub read_map-returns-in_err-first-clause-refused : goal.read_map-returns-in_err-first-clause-refused
read_map-returns-in_err-first-clause-refused = map.read_map-returns-in_err-first-clause-refused

pub read_map-read-requires-in-loop-i : goal.read_map-read-requires-in-loop-i
read_map-read-requires-in-loop-i = map.read_map-read-requires-in-loop-i

pub read_map-returns-in_err-second-clause-refused : goal.read_map-returns-in_err-second-clause-refused
read_map-returns-in_err-second-clause-refused = map.read_map-returns-in_err-second-clause-refused

pub read_map-loop-i-preserved : goal.read_map-loop-i-preserved
read_map-loop-i-preserved = map.read_map-loop-i-preserved

pub read_map-returns-clause-continues : goal.read_map-returns-clause-continues
read_map-returns-clause-continues = map.read_map-returns-clause-continues

pub read_map-returns-clause-read : goal.read_map-returns-clause-read
read_map-returns-clause-read = map.read_map-returns-clause-read

pub read_map-returns-then-is_free-2-clause-continues : goal.read_map-returns-then-is_free-2-clause-continues
read_map-returns-then-is_free-2-clause-continues = map.read_map-returns-then-is_free-2-clause-continues

pub read_map-returns-then-is_free-2-clause-read : goal.read_map-returns-then-is_free-2-clause-read
read_map-returns-then-is_free-2-clause-read = map.read_map-returns-then-is_free-2-clause-read

pub read_map-returns-then-is_over_limit-clause-refused : goal.read_map-returns-then-is_over_limit-clause-refused
read_map-returns-then-is_over_limit-clause-refused = map.read_map-returns-then-is_over_limit-clause-refused

pub read_map-returns-clause-whole : goal.read_map-returns-clause-whole
read_map-returns-clause-whole = map.read_map-returns-clause-whole
