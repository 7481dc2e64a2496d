-- By the node and the value, part by part.
use Rattle.std.proofs.Common.{rules, arith, ◌≡◌, ◌<◌, ◌≤◌, inl, inr, [], ◌∷◌, ◌++◌, length, map, refl, ap, sym, ◌∙◌}
use Rattle.std.proofs.lemmas.Bool.{le-ltb}
use Rattle.std.proofs.lemmas.List.{length-map}
use Rattle.std.proofs.lemmas.Result.{err_from_is_err_and}
use Rattle.bitcode_memory.specs.declared.error.Reason.TheVariants.{NotOfTheShape}
use Rattle.bitcode_shapes.specs.Datum.{unit}
use Rattle.bitcode_coder.specs.Spelling.{natural}
use Rattle.bitcode_untyped.specs.Faults.{faults_of}
use Rattle.bitcode_untyped.specs.ShapeTree.{unit_tree, seq_tree, map_tree, tuple_tree, choice_tree, no_trees, tree_and, IsOf}
use Rattle.bitcode_untyped.specs.View.{datum_of, followed, tree_of_node, trees_of}
use Rattle.bitcode_untyped.specs.Walk.{element, key, variant, length_kind, index_kind, use_at, walk}
use Rattle.bitcode_untyped.proofs.FaultLemmas.{faults-Unit, faults-Bytes, faults-None, faults-Some, faults-Seq, faults-Map, faults-Tuple, faults-Enum}
use Rattle.bitcode_untyped.proofs.MismatchLemmas.{other-Unit, other-Bytes, other-Option, other-Seq, other-Map, other-Tuple, other-Enum}
use Rattle.bitcode_untyped.proofs.ViewLemmas.{tree-Unit, tree-Bytes, tree-Option, tree-Seq, tree-Map, tree-Tuple, tree-Enum, datum-Unit, datum-Bytes, datum-None, datum-Some, datum-Seq, datum-Map, datum-Tuple, datum-Enum}
use Rattle.bitcode_serde.specs.Writing.{place_in}
use Rattle.bitcode_serde.proofs.DepthLemmas.{entry_deep, reference_falls}
use Rattle.bitcode_serde.proofs.EntryLemmas.{found_entry, no_entry}
use Rattle.bitcode_serde.proofs.LeavesLemmas.{value_outcome}
use Rattle.bitcode_serde.proofs.SerializeLemmas.{grows_same, writes_none, refuses_use, among_front, among_back, begun, list_done, list_is, list_refused, refused_outcome, written_outcome, same_outcome, one_fault}
use Rattle.bitcode_serde.proofs.WalkLemmas.{among_entry, each_none, each_more, each_all, written_there, use_outcome, reference_there, faults_there, faults_nowhere, variant_there, variant_outcome, both_begun, pair_there, key_refused, value_refused, map_done, map_is, uneven_fault, fields_none, field_more, field_refused, fields_done}
use Rattle.bitcode_serde.proofs.walk.+write.Goals as goal

pub write-put_one-requires : goal.write-put_one-requires
write-put_one-requires t c = record { place = c.requires; values = c.in-Some.ensures.some.values }

pub write-returns-in-Some : goal.write-returns-in-Some
write-returns-in-Some t c =
    value_outcome c.args.node.now c.in-Some.kind c.args.value.now c.args.writer.now c.put_one.new.self c.args.place c.put_one.result c.in-Some.ensures.some
    c.put_one.ensures.below c.put_one.ensures.written c.put_one.ensures.entries c.put_one.ensures.refused c.args.table.now c.args.left

pub write_node-returns-in-Unit-value : goal.write_node-returns-in-Unit-value
write_node-returns-in-Unit-value t c =
    rw (c.in-Unit.is, c.in-Unit-value.is, tree-Unit (followed c.args.left c.args.table.now), datum-Unit, faults-Unit c.args.table.now c.args.left)
    (written_outcome c.args.writer.now unit_tree c.args.place unit [] tt c.args.writer.now
    (writes_none c.args.writer.now c.args.writer.now (grows_same c.args.writer.now c.args.writer.now refl) refl) refl refl)

pub write_node-returns-in-Bytes-value : goal.write_node-returns-in-Bytes-value
write_node-returns-in-Bytes-value t c =
    rw (
      c.in-Bytes.is,
      c.in-Bytes-value.is,
      tree-Bytes (followed c.args.left c.args.table.now),
      datum-Bytes c.in-Bytes-value.bytes,
      faults-Bytes
          c.args.table.now c.args.left c.in-Bytes-value.bytes,
      ← c.deref.ensures.value,
    )
    c.write_bytes.ensures

pub write_node-returns-in-None : goal.write_node-returns-in-None
write_node-returns-in-None t c =
    rw (
      c.in-Option.is,
      c.in-Option-value.is,
      c.in-None.is,
      tree-Option (followed c.args.left c.args.table.now) c.in-Option.some,
      datum-None,
      faults-None
          c.args.table.now c.args.left c.in-Option.some,
    )
    (use_outcome c.args.writer.now c.put.new.self _ c.args.place _ (natural 0) index_kind c.put.result refl (inl (refl, refl)) (refl, omega arith, refl)
    c.put.ensures.below c.put.ensures.written c.put.ensures.refused)

pub write_node-returns-in-Some : goal.write_node-returns-in-Some
write_node-returns-in-Some t c =
    rw (
      c.in-Option.is,
      c.in-Option-value.is,
      c.in-Some.is,
      tree-Option (followed c.args.left c.args.table.now) c.in-Option.some,
      datum-Some c.in-Some.inside,
      faults-Some c.args.table.now c.args.left c.in-Some.inside c.in-Option.some,
      ← c.deref-in-Some.ensures,
      ← c.deref-in-Some-2.ensures,
    )
    (c.write_variant.ensures (tree_and unit_tree (tree_and (tree_of_node c.args.left c.args.table.now c.deref-in-Some.result.now) no_trees)) refl)

pub write_node-returns-in_default-value : goal.write_node-returns-in_default-value
write_node-returns-in_default-value t c =
    one_fault c.args.writer.now _ c.args.place _ _ NotOfTheShape c.err.result _ c.args.writer.now c.err.ensures refl
    (ap (faults_of c.args.table.now c.args.value.now c.args.left) c.in-Unit.is ∙ other-Unit c.args.table.now c.args.value.now c.args.left
    c.in_default-value.not-Unit)

pub write_node-returns-in_default-value-2 : goal.write_node-returns-in_default-value-2
write_node-returns-in_default-value-2 t c =
    one_fault c.args.writer.now _ c.args.place _ _ NotOfTheShape c.err-in_default-value-2.result _ c.args.writer.now c.err-in_default-value-2.ensures refl
    (ap (faults_of c.args.table.now c.args.value.now c.args.left) c.in-Bytes.is ∙ other-Bytes c.args.table.now c.args.value.now c.args.left
    c.in_default-value-2.not-Bytes)

pub write_node-returns-in_default-value-3 : goal.write_node-returns-in_default-value-3
write_node-returns-in_default-value-3 t c =
    one_fault c.args.writer.now _ c.args.place _ _ NotOfTheShape c.err-in_default-value-3.result _ c.args.writer.now c.err-in_default-value-3.ensures refl
    (ap (faults_of c.args.table.now c.args.value.now c.args.left) c.in-Option.is ∙ other-Option c.args.table.now c.args.value.now c.args.left c.in-Option.some
    c.in_default-value-3.not-Option)

pub write_node-returns-in_default-value-4 : goal.write_node-returns-in_default-value-4
write_node-returns-in_default-value-4 t c =
    one_fault c.args.writer.now _ c.args.place _ _ NotOfTheShape c.err-in_default-value-4.result _ c.args.writer.now c.err-in_default-value-4.ensures refl
    (ap (faults_of c.args.table.now c.args.value.now c.args.left) c.in-Seq.is ∙ other-Seq c.args.table.now c.args.value.now c.args.left c.in-Seq.element
    c.in_default-value-4.not-Seq)

pub write_node-returns-in_default-value-5 : goal.write_node-returns-in_default-value-5
write_node-returns-in_default-value-5 t c =
    one_fault c.args.writer.now _ c.args.place _ _ NotOfTheShape c.err-in_default-value-5.result _ c.args.writer.now c.err-in_default-value-5.ensures refl
    (ap (faults_of c.args.table.now c.args.value.now c.args.left) c.in-Map.is ∙ other-Map c.args.table.now c.args.value.now c.args.left c.in-Map.key
    c.in-Map.entry c.in_default-value-5.not-Map)

pub write_node-returns-in_default-value-6 : goal.write_node-returns-in_default-value-6
write_node-returns-in_default-value-6 t c =
    one_fault c.args.writer.now _ c.args.place _ _ NotOfTheShape c.err-in_default-value-6.result _ c.args.writer.now c.err-in_default-value-6.ensures refl
    (ap (faults_of c.args.table.now c.args.value.now c.args.left) c.in-Tuple.is ∙ other-Tuple c.args.table.now c.args.value.now c.args.left c.in-Tuple.nodes
    c.in_default-value-6.not-Tuple)

pub write_node-returns-in_default-value-7 : goal.write_node-returns-in_default-value-7
write_node-returns-in_default-value-7 t c =
    one_fault c.args.writer.now _ c.args.place _ _ NotOfTheShape c.err-in_default-value-7.result _ c.args.writer.now c.err-in_default-value-7.ensures refl
    (ap (faults_of c.args.table.now c.args.value.now c.args.left) c.in-Enum.is ∙ other-Enum c.args.table.now c.args.value.now c.args.left c.in-Enum.nodes
    c.in_default-value-7.not-Enum)

pub write_node-returns-in-Seq-value : goal.write_node-returns-in-Seq-value
write_node-returns-in-Seq-value t c =
    rw (
      c.in-Seq.is,
      c.in-Seq-value.is,
      tree-Seq (followed c.args.left c.args.table.now) c.in-Seq.element,
      datum-Seq c.in-Seq-value.values,
      faults-Seq
          c.args.table.now c.args.left c.in-Seq-value.values c.in-Seq.element,
      ← c.deref-in-Seq-value.ensures,
      ← c.deref-in-Seq-value-2.ensures.value,
    )
    c.write_seq.ensures

pub write_node-returns-in-Map-value : goal.write_node-returns-in-Map-value
write_node-returns-in-Map-value t c =
    rw (
      c.in-Map.is,
      c.in-Map-value.is,
      tree-Map (followed c.args.left c.args.table.now) c.in-Map.key c.in-Map.entry,
      datum-Map c.in-Map-value.pairs,
      faults-Map c.args.table.now c.args.left c.in-Map-value.pairs c.in-Map.key c.in-Map.entry,
      ← c.deref-in-Map-value.ensures,
      ← c.deref-in-Map-value-2.ensures,
      ← c.deref-in-Map-value-3.ensures.value,
    )
    c.write_map.ensures

pub write_node-returns-in-Tuple-value : goal.write_node-returns-in-Tuple-value
write_node-returns-in-Tuple-value t c =
    rw (
      c.in-Tuple.is,
      c.in-Tuple-value.is,
      tree-Tuple (followed c.args.left c.args.table.now) c.in-Tuple.nodes,
      datum-Tuple c.in-Tuple-value.values,
      faults-Tuple c.args.table.now c.args.left c.in-Tuple-value.values c.in-Tuple.nodes,
      ← c.deref-in-Tuple-value.ensures.value,
      ←
          c.deref-in-Tuple-value-2.ensures.value,
    )
    c.write_tuple.ensures

pub write_node-returns-in-Enum-value : goal.write_node-returns-in-Enum-value
write_node-returns-in-Enum-value t c =
    rw (
      c.in-Enum.is,
      c.in-Enum-value.is,
      tree-Enum (followed c.args.left c.args.table.now) c.in-Enum.nodes,
      datum-Enum c.in-Enum-value.index
          c.in-Enum-value.inside,
      faults-Enum c.args.table.now c.args.left c.in-Enum-value.index c.in-Enum-value.inside c.in-Enum.nodes,
      ←
          c.deref-in-Enum-value.ensures.value,
      ← c.deref-in-Enum-value-2.ensures,
    )
    c.write_enum.ensures

pub write_node-returns-in_default : goal.write_node-returns-in_default
write_node-returns-in_default t c = c.write_leaf.ensures c.args.table.now c.args.left

pub write_enum-write_variant-requires : goal.write_enum-write_variant-requires
write_enum-write_variant-requires t c =
    let d = entry_deep c.args.nodes.now c.args.index c.in-Some.node.now (found_entry c.args.nodes.now c.args.index c.in-Some.node.now
    c.in-Some.ensures.lookup.3.0 (c.in-Some.ensures.lookup.3.1 c.in-Some.node.now)) in
    search (rules, d)

pub write_enum-returns-in-Some : goal.write_enum-returns-in-Some
write_enum-returns-in-Some t c =
    let there = found_entry c.args.nodes.now c.args.index c.in-Some.node.now c.in-Some.ensures.lookup.3.0 (c.in-Some.ensures.lookup.3.1 c.in-Some.node.now) in
    let small = le-ltb 255 c.args.index c.if-index-gt255.false in
    rw (small, there) (c.write_variant.ensures (trees_of (map (tree_of_node c.args.left c.args.table.now) c.args.nodes.now))
    (variant_there (tree_of_node c.args.left c.args.table.now) c.args.nodes.now c.args.index c.in-Some.node.now there))

pub write_enum-returns-in-None : goal.write_enum-returns-in-None
write_enum-returns-in-None t c =
    let away = no_entry c.args.nodes.now c.args.index c.in-None.ensures.lookup.3 in
    let small = le-ltb 255 c.args.index c.if-index-gt255.false in
    rw (small, away) (one_fault c.args.writer.now _ c.args.place _ (NotOfTheShape ∷ []) NotOfTheShape c.err-in-None.result _ c.args.writer.now
    c.err-in-None.ensures refl refl)

pub write_reference-write-requires : goal.write_reference-write-requires
write_reference-write-requires t c =
    let h : 0 < c.args.left = omega arith in
    let d = reference_falls c.args.left c.args.table.now c.args.i 0 c.in-Some.entry.now
    (found_entry c.args.table.now c.args.i c.in-Some.entry.now c.in-Some.ensures.lookup.3.0 (c.in-Some.ensures.lookup.3.1 c.in-Some.entry.now)) h in
    search (rules, d)

pub write_reference-returns-in-Some : goal.write_reference-returns-in-Some
write_reference-returns-in-Some t c =
    let some : 0 < c.args.left = omega arith in
    let there = found_entry c.args.table.now c.args.i c.in-Some.entry.now c.in-Some.ensures.lookup.3.0 (c.in-Some.ensures.lookup.3.1 c.in-Some.entry.now) in
    same_outcome c.args.writer.now _ _ c.args.place _ _ _ _ c.write.result c.write.new.writer
    (reference_there c.args.left c.args.table.now c.args.i c.in-Some.entry.now some there) refl
    (faults_there c.args.left c.args.table.now c.args.value.now c.args.i c.in-Some.entry.now some there) c.write.ensures

pub write_reference-returns-in-None : goal.write_reference-returns-in-None
write_reference-returns-in-None t c =
    let some : 0 < c.args.left = omega arith in
    one_fault c.args.writer.now _ c.args.place _ _ NotOfTheShape c.err-in-None.result _ c.args.writer.now c.err-in-None.ensures refl
    (faults_nowhere c.args.left c.args.table.now c.args.value.now c.args.i some (no_entry c.args.table.now c.args.i c.in-None.ensures.lookup.3))

pub write_variant-returns-in_err-put : goal.write_variant-returns-in_err-put
write_variant-returns-in_err-put t c =
    λ trees is.
    let y = err_from_is_err_and c.from_residual.result c.from_residual.ensures.1 in
    refused_outcome c.args.writer.now (choice_tree trees) c.args.place _ _ c.from_residual.result c.put.new.self c.in_err-put.field-0.0 y.0 y.1 y.2
    (refuses_use c.args.writer.now (choice_tree trees) c.args.place _ _ (place_in c.args.writer.now c.args.place) index_kind c.in_err-put.ensures.refused
    (inl (refl, refl)))

pub write_variant-returns : goal.write_variant-returns
write_variant-returns t c =
    λ trees is.
    let small : c.args.index ≤ 255 = omega arith in
    let b = begun c.args.writer.now c.put.new.self c.below.new.self c.args.place c.in_ok-inside.inside
    (use_at (place_in c.args.writer.now c.args.place) index_kind (natural c.args.index)) (variant c.args.index)
    c.in_ok-put.ensures.below c.in_ok-put.ensures.written c.in_ok-inside.ensures.place c.in_ok-inside.ensures.grows c.in_ok-inside.ensures.written in
    variant_outcome c.args.writer.now c.below.new.self c.write.new.writer trees (tree_of_node c.args.left c.args.table.now c.args.node.now) c.args.index
    c.args.place c.in_ok-inside.inside (datum_of c.args.value.now) _ c.write.result is small b.0 b.1 c.write.ensures

pub write_seq-write_leaves-requires : goal.write_seq-write_leaves-requires
write_seq-write_leaves-requires t c = record { place = c.requires; values = c.in-Some.ensures.some.values }

pub write_seq-returns-in-Some : goal.write_seq-returns-in-Some
write_seq-returns-in-Some t c = c.write_leaves.ensures c.args.node.now c.in-Some.ensures.some c.args.table.now c.args.left

pub write_seq-returns-in_err-put : goal.write_seq-returns-in_err-put
write_seq-returns-in_err-put t c =
    let y = err_from_is_err_and c.from_residual.result c.from_residual.ensures.1 in
    refused_outcome c.args.writer.now (seq_tree (tree_of_node c.args.left c.args.table.now c.args.node.now)) c.args.place _ _ c.from_residual.result
    c.put.new.self c.in_err-put.field-0.0 y.0 y.1 y.2
    (refuses_use c.args.writer.now (seq_tree (tree_of_node c.args.left c.args.table.now c.args.node.now)) c.args.place _ _
    (place_in c.args.writer.now c.args.place) length_kind c.in_err-put.ensures.refused (inl (refl, refl)))

pub write_seq-write-requires : goal.write_seq-write-requires
write_seq-write-requires t c =
    let h : c.in_ok-element.element ≤ length c.loop-value.writer.places.below.items = let g = c.loop-value.invariant.1.written.grows.size
    in let k = c.loop-value.invariant.0 in omega (arith, g, k) in
    search (rules, h)

pub write_seq-returns-in_err-write : goal.write_seq-returns-in_err-write
write_seq-returns-in_err-write t c =
    let b = begun c.args.writer.now c.put.new.self c.below.new.self c.args.place c.in_ok-element.element
    (use_at (place_in c.args.writer.now c.args.place) length_kind (natural (length c.args.values.now))) element
    c.in_ok-put.ensures.below c.in_ok-put.ensures.written c.in_ok-element.ensures.place c.in_ok-element.ensures.grows c.in_ok-element.ensures.written in
    let there = found_entry c.args.values.now c.loop-value.value-index c.value-item.result c.loop-value-test.true c.value-item.is in
    let y = err_from_is_err_and c.from_residual-in_err-write.result c.from_residual-in_err-write.ensures.1 in
    refused_outcome c.args.writer.now (seq_tree (tree_of_node c.args.left c.args.table.now c.args.node.now)) c.args.place _ _
    c.from_residual-in_err-write.result c.write.new.writer c.in_err-write.field-0.0 y.0 y.1 y.2
    (list_refused (tree_of_node c.args.left c.args.table.now c.args.node.now) datum_of c.args.values.now c.args.writer.now c.below.new.self c.loop-value.writer
    c.args.place c.in_ok-element.element (length c.args.values.now) c.loop-value.value-index _ _ _
    b.0 b.1 c.loop-value.invariant.0 c.loop-value.invariant.1.written
    (among_entry _ (λ v. faults_of c.args.table.now v c.args.left c.args.node.now) c.args.values.now c.loop-value.value-index c.value-item.result there)
    c.in_err-write.ensures.refused)

pub write_seq-loop-value-preserved : goal.write_seq-loop-value-preserved
write_seq-loop-value-preserved t c =
    let start = c.below.new.self in
    let m = c.in_ok-element.element in
    let so_far = c.loop-value.invariant.1 in (
      c.loop-value.invariant.0,
      each_more (λ v. walk (tree_of_node c.args.left c.args.table.now c.args.node.now) (place_in start m) (datum_of v))
          (λ v. IsOf (tree_of_node c.args.left c.args.table.now c.args.node.now) (datum_of v)) (λ v. faults_of c.args.table.now v c.args.left c.args.node.now)
          c.args.values.now start c.loop-value.value-index c.value-item.result c.loop-value.writer c.write.new.writer
          (found_entry c.args.values.now c.loop-value.value-index c.value-item.result c.loop-value-test.true c.value-item.is) so_far
          (written_there start c.loop-value.writer c.write.new.writer (tree_of_node c.args.left c.args.table.now c.args.node.now) m
          (datum_of c.value-item.result) so_far.written.grows c.loop-value.invariant.0 c.in_ok-write.ensures.written) c.in_ok-write.ensures.of_tree
          c.in_ok-write.ensures.whole,
    )

pub write_seq-returns : goal.write_seq-returns
write_seq-returns t c =
    let b = begun c.args.writer.now c.put.new.self c.below.new.self c.args.place c.in_ok-element.element
    (use_at (place_in c.args.writer.now c.args.place) length_kind (natural (length c.args.values.now))) element
    c.in_ok-put.ensures.below c.in_ok-put.ensures.written c.in_ok-element.ensures.place c.in_ok-element.ensures.grows c.in_ok-element.ensures.written in
    let start = c.below.new.self in
    let m = c.in_ok-element.element in
    let all = each_all (λ v. walk (tree_of_node c.args.left c.args.table.now c.args.node.now) (place_in start m) (datum_of v))
    (λ v. IsOf (tree_of_node c.args.left c.args.table.now c.args.node.now) (datum_of v)) (λ v. faults_of c.args.table.now v c.args.left c.args.node.now)
    c.args.values.now start c.loop-value.value-index c.loop-value.writer
    c.loop-value-test.false c.loop-value.auto.value-index-end c.loop-value.invariant.1 in
    written_outcome c.args.writer.now (seq_tree (tree_of_node c.args.left c.args.table.now c.args.node.now)) c.args.place _ _ tt c.loop-value.writer
    (list_done (tree_of_node c.args.left c.args.table.now c.args.node.now) datum_of c.args.values.now c.args.writer.now start c.loop-value.writer c.args.place
    m c.loop-value.value-index b.0 b.1 c.loop-value-test.false c.loop-value.auto.value-index-end c.loop-value.invariant.1.written)
    (list_is (tree_of_node c.args.left c.args.table.now c.args.node.now) datum_of c.args.values.now all.1) all.2

pub write_seq-loop-value-init : goal.write_seq-loop-value-init
write_seq-loop-value-init t c = (
  c.in_ok-element.ensures.inside,
  each_none (λ v. walk (tree_of_node c.args.left c.args.table.now c.args.node.now)
      (place_in c.below.new.self c.in_ok-element.element) (datum_of v)) (λ v. IsOf (tree_of_node c.args.left c.args.table.now c.args.node.now) (datum_of v))
      (λ v. faults_of c.args.table.now v c.args.left c.args.node.now) c.args.values.now c.below.new.self,
)

pub write_map-returns-in_err-put : goal.write_map-returns-in_err-put
write_map-returns-in_err-put t c =
    let y = err_from_is_err_and c.from_residual.result c.from_residual.ensures.1 in
    refused_outcome c.args.writer.now (map_tree (tree_of_node c.args.left c.args.table.now c.args.key.now)
    (tree_of_node c.args.left c.args.table.now c.args.value.now)) c.args.place _ _ c.from_residual.result c.put.new.self c.in_err-put.field-0.0 y.0 y.1 y.2
    (refuses_use c.args.writer.now (map_tree (tree_of_node c.args.left c.args.table.now c.args.key.now)
    (tree_of_node c.args.left c.args.table.now c.args.value.now)) c.args.place _ _ (place_in c.args.writer.now c.args.place) length_kind
    c.in_err-put.ensures.refused (inl (refl, refl)))

pub write_map-write-requires : goal.write_map-write-requires
write_map-write-requires t c =
    let h : c.in_ok-keys.keys ≤ length c.loop-first.writer.places.below.items = let g = c.loop-first.invariant.2.written.grows.size
    in let k = c.loop-first.invariant.0 in omega (arith, g, k) in
    search (rules, h)

pub write_map-write-requires-in-loop-first : goal.write_map-write-requires-in-loop-first
write_map-write-requires-in-loop-first t c =
    let h : c.in_ok-values.values ≤ length c.write.new.writer.places.below.items =
    let g = c.loop-first.invariant.2.written.grows.size in let k = c.loop-first.invariant.1 in let m = c.in_ok-write.ensures.written.grows.size in omega
    (arith, g, k, m) in
    search (rules, h)

pub write_map-returns-in_err-write : goal.write_map-returns-in_err-write
write_map-returns-in_err-write t c =
    let one = begun c.args.writer.now c.put.new.self c.below.new.self c.args.place c.in_ok-keys.keys
    (use_at (place_in c.args.writer.now c.args.place) length_kind (natural (length c.args.pairs.now))) key
    c.in_ok-put.ensures.below c.in_ok-put.ensures.written c.in_ok-keys.ensures.place c.in_ok-keys.ensures.grows c.in_ok-keys.ensures.written in
    let b = both_begun c.args.writer.now c.below.new.self c.below-2.new.self c.args.place c.in_ok-keys.keys c.in_ok-values.values
    (use_at (place_in c.args.writer.now c.args.place) length_kind (natural (length c.args.pairs.now)))
    one.0 one.1 c.in_ok-keys.ensures.inside c.requires c.in_ok-values.ensures.place c.in_ok-values.ensures.grows c.in_ok-values.ensures.written in
    let y = err_from_is_err_and c.from_residual-in_err-write.result c.from_residual-in_err-write.ensures.1 in
    refused_outcome c.args.writer.now (map_tree (tree_of_node c.args.left c.args.table.now c.args.key.now)
    (tree_of_node c.args.left c.args.table.now c.args.value.now)) c.args.place _ _ c.from_residual-in_err-write.result c.write.new.writer
    c.in_err-write.field-0.0 y.0 y.1 y.2
    (key_refused (tree_of_node c.args.left c.args.table.now c.args.key.now) (tree_of_node c.args.left c.args.table.now c.args.value.now) (λ e. datum_of e.0)
    (λ e. datum_of e.1) c.args.pairs.now c.args.writer.now c.below-2.new.self c.loop-first.writer c.args.place c.in_ok-keys.keys c.in_ok-values.values
    (length c.args.pairs.now) c.loop-first.first-index _ _ _
    b.0 b.1 b.2 c.loop-first.invariant.0 c.loop-first.invariant.2.written
    (λ a. among_entry _ (λ e. faults_of c.args.table.now e.0 c.args.left c.args.key.now ++ faults_of c.args.table.now e.1 c.args.left c.args.value.now)
    c.args.pairs.now c.loop-first.first-index c.loop-first-item.result (found_entry c.args.pairs.now c.loop-first.first-index c.loop-first-item.result
    c.loop-first-test.true c.loop-first-item.is) (among_front _ (faults_of c.args.table.now c.loop-first-item.result.0 c.args.left c.args.key.now) _ a))
    c.in_err-write.ensures.refused)

pub write_map-returns-in_err-write-2 : goal.write_map-returns-in_err-write-2
write_map-returns-in_err-write-2 t c =
    let one = begun c.args.writer.now c.put.new.self c.below.new.self c.args.place c.in_ok-keys.keys
    (use_at (place_in c.args.writer.now c.args.place) length_kind (natural (length c.args.pairs.now))) key
    c.in_ok-put.ensures.below c.in_ok-put.ensures.written c.in_ok-keys.ensures.place c.in_ok-keys.ensures.grows c.in_ok-keys.ensures.written in
    let b = both_begun c.args.writer.now c.below.new.self c.below-2.new.self c.args.place c.in_ok-keys.keys c.in_ok-values.values
    (use_at (place_in c.args.writer.now c.args.place) length_kind (natural (length c.args.pairs.now)))
    one.0 one.1 c.in_ok-keys.ensures.inside c.requires c.in_ok-values.ensures.place c.in_ok-values.ensures.grows c.in_ok-values.ensures.written in
    let y = err_from_is_err_and c.from_residual-in_err-write-2.result c.from_residual-in_err-write-2.ensures.1 in
    refused_outcome c.args.writer.now (map_tree (tree_of_node c.args.left c.args.table.now c.args.key.now)
    (tree_of_node c.args.left c.args.table.now c.args.value.now)) c.args.place _ _ c.from_residual-in_err-write-2.result c.write-in-loop-first.new.writer
    c.in_err-write-2.field-0.0 y.0 y.1 y.2
    (value_refused (tree_of_node c.args.left c.args.table.now c.args.key.now) (tree_of_node c.args.left c.args.table.now c.args.value.now) (λ e. datum_of e.0)
    (λ e. datum_of e.1) c.args.pairs.now c.args.writer.now c.below-2.new.self c.loop-first.writer c.write.new.writer c.args.place c.in_ok-keys.keys
    c.in_ok-values.values (length c.args.pairs.now) c.loop-first.first-index _ _ _ _
    b.0 b.1 b.2 c.loop-first.invariant.0 c.loop-first.invariant.1 c.loop-first.invariant.2.written c.in_ok-write.ensures.written
    (λ a. among_entry _ (λ e. faults_of c.args.table.now e.0 c.args.left c.args.key.now ++ faults_of c.args.table.now e.1 c.args.left c.args.value.now)
    c.args.pairs.now c.loop-first.first-index c.loop-first-item.result (found_entry c.args.pairs.now c.loop-first.first-index c.loop-first-item.result
    c.loop-first-test.true c.loop-first-item.is) (among_back _ (faults_of c.args.table.now c.loop-first-item.result.0 c.args.left c.args.key.now) _ a))
    c.in_err-write-2.ensures.refused)

pub write_map-loop-first-preserved : goal.write_map-loop-first-preserved
write_map-loop-first-preserved t c =
    let so_far = c.loop-first.invariant.2 in (
      c.loop-first.invariant.0,
      c.loop-first.invariant.1,
      each_more (λ e. walk (tree_of_node c.args.left c.args.table.now c.args.key.now) (place_in c.below-2.new.self c.in_ok-keys.keys) (datum_of e.0) ++ walk
          (tree_of_node c.args.left c.args.table.now c.args.value.now) (place_in c.below-2.new.self c.in_ok-values.values) (datum_of e.1))
          (λ e. IsOf (tree_of_node c.args.left c.args.table.now c.args.key.now) (datum_of e.0) × IsOf (tree_of_node c.args.left c.args.table.now c.args.value.now)
          (datum_of e.1)) (λ e. faults_of c.args.table.now e.0 c.args.left c.args.key.now ++ faults_of c.args.table.now e.1 c.args.left c.args.value.now)
          c.args.pairs.now c.below-2.new.self c.loop-first.first-index c.loop-first-item.result c.loop-first.writer c.write-in-loop-first.new.writer
          (found_entry c.args.pairs.now c.loop-first.first-index c.loop-first-item.result c.loop-first-test.true c.loop-first-item.is) so_far
          (pair_there c.below-2.new.self c.loop-first.writer c.write.new.writer c.write-in-loop-first.new.writer
          (tree_of_node c.args.left c.args.table.now c.args.key.now) (tree_of_node c.args.left c.args.table.now c.args.value.now) c.in_ok-keys.keys
          c.in_ok-values.values (datum_of c.loop-first-item.result.0) (datum_of c.loop-first-item.result.1)
          so_far.written.grows c.loop-first.invariant.0 c.loop-first.invariant.1 c.in_ok-write.ensures.written c.in_ok-write-2.ensures.written)
          (c.in_ok-write.ensures.of_tree, c.in_ok-write-2.ensures.of_tree)
          (ap (λ rs. rs ++ faults_of c.args.table.now c.loop-first-item.result.1 c.args.left c.args.value.now) c.in_ok-write.ensures.whole
          ∙ c.in_ok-write-2.ensures.whole),
    )

pub write_map-returns : goal.write_map-returns
write_map-returns t c =
    let one = begun c.args.writer.now c.put.new.self c.below.new.self c.args.place c.in_ok-keys.keys
    (use_at (place_in c.args.writer.now c.args.place) length_kind (natural (length c.args.pairs.now))) key
    c.in_ok-put.ensures.below c.in_ok-put.ensures.written c.in_ok-keys.ensures.place c.in_ok-keys.ensures.grows c.in_ok-keys.ensures.written in
    let b = both_begun c.args.writer.now c.below.new.self c.below-2.new.self c.args.place c.in_ok-keys.keys c.in_ok-values.values
    (use_at (place_in c.args.writer.now c.args.place) length_kind (natural (length c.args.pairs.now)))
    one.0 one.1 c.in_ok-keys.ensures.inside c.requires c.in_ok-values.ensures.place c.in_ok-values.ensures.grows c.in_ok-values.ensures.written in
    let all = each_all (λ e. walk (tree_of_node c.args.left c.args.table.now c.args.key.now) (place_in c.below-2.new.self c.in_ok-keys.keys) (datum_of e.0) ++
    walk (tree_of_node c.args.left c.args.table.now c.args.value.now) (place_in c.below-2.new.self c.in_ok-values.values) (datum_of e.1))
    (λ e. IsOf (tree_of_node c.args.left c.args.table.now c.args.key.now) (datum_of e.0) × IsOf (tree_of_node c.args.left c.args.table.now c.args.value.now)
    (datum_of e.1)) (λ e. faults_of c.args.table.now e.0 c.args.left c.args.key.now ++ faults_of c.args.table.now e.1 c.args.left c.args.value.now)
    c.args.pairs.now c.below-2.new.self c.loop-first.first-index c.loop-first.writer c.loop-first-test.false c.loop-first.auto.first-index-end
    c.loop-first.invariant.2 in
    written_outcome c.args.writer.now (map_tree (tree_of_node c.args.left c.args.table.now c.args.key.now)
    (tree_of_node c.args.left c.args.table.now c.args.value.now)) c.args.place _ _ tt c.loop-first.writer
    (map_done (tree_of_node c.args.left c.args.table.now c.args.key.now) (tree_of_node c.args.left c.args.table.now c.args.value.now) (λ e. datum_of e.0)
    (λ e. datum_of e.1) c.args.pairs.now c.args.writer.now c.below-2.new.self c.loop-first.writer c.args.place c.in_ok-keys.keys c.in_ok-values.values b.0 b.1
    b.2 all.0)
    (map_is (tree_of_node c.args.left c.args.table.now c.args.key.now) (tree_of_node c.args.left c.args.table.now c.args.value.now) (λ e. datum_of e.0)
    (λ e. datum_of e.1) c.args.pairs.now all.1) all.2

pub write_map-loop-first-init : goal.write_map-loop-first-init
write_map-loop-first-init t c =
    let k = c.in_ok-keys.ensures.inside in
    let g = c.in_ok-values.ensures.grows.size in (
      omega (arith, k, g),
      c.in_ok-values.ensures.inside,
      each_none (λ e. walk (tree_of_node c.args.left c.args.table.now c.args.key.now) (place_in c.below-2.new.self c.in_ok-keys.keys) (datum_of e.0) ++ walk
          (tree_of_node c.args.left c.args.table.now c.args.value.now) (place_in c.below-2.new.self c.in_ok-values.values) (datum_of e.1))
          (λ e. IsOf (tree_of_node c.args.left c.args.table.now c.args.key.now) (datum_of e.0) × IsOf (tree_of_node c.args.left c.args.table.now c.args.value.now)
          (datum_of e.1)) (λ e. faults_of c.args.table.now e.0 c.args.left c.args.key.now ++ faults_of c.args.table.now e.1 c.args.left c.args.value.now)
          c.args.pairs.now c.below-2.new.self,
    )

pub write_tuple-returns-then-values-nodes : goal.write_tuple-returns-then-values-nodes
write_tuple-returns-then-values-nodes t c =
    refused_outcome c.args.writer.now (tuple_tree (trees_of (map (tree_of_node c.args.left c.args.table.now) c.args.nodes.now))) c.args.place _ _ c.err.result
    c.args.writer.now _ _ c.err.ensures refl
    (λ root of_shape part. inr (uneven_fault (map (faults_of c.args.table.now) c.args.values.now) c.args.left c.args.nodes.now
    (λ e. c.if-values-nodes.true (sym (length-map c.args.values.now (faults_of c.args.table.now)) ∙ e))))

pub write_tuple-loop-i-init : goal.write_tuple-loop-i-init
write_tuple-loop-i-init t c =
    fields_none (tree_of_node c.args.left c.args.table.now) (faults_of c.args.table.now) c.args.left c.args.nodes.now c.args.values.now c.args.writer.now
    c.args.place

pub write_tuple-field_below-requires : goal.write_tuple-field_below-requires
write_tuple-field_below-requires t c = let g = c.loop-i.invariant.written.grows.size in let h = c.requires in omega (arith, g, h)

pub write_tuple-write-requires : goal.write_tuple-write-requires
write_tuple-write-requires t c =
    let d = entry_deep c.args.nodes.now c.loop-i.i c.index-nodes-i.result (found_entry c.args.nodes.now c.loop-i.i c.index-nodes-i.result c.loop-i-test.true
    c.index-nodes-i.is) in
    search (rules, d)

pub write_tuple-returns-in_err-write : goal.write_tuple-returns-in_err-write
write_tuple-returns-in_err-write t c =
    let node_there = found_entry c.args.nodes.now c.loop-i.i c.index-nodes-i.result c.loop-i-test.true c.index-nodes-i.is in
    let inside : c.loop-i.i < length c.args.values.now = omega arith in
    let value_there = found_entry c.args.values.now c.loop-i.i c.index-values-i.result inside c.index-values-i.is in
    let y = err_from_is_err_and c.from_residual-in_err-write.result c.from_residual-in_err-write.ensures.1 in
    refused_outcome c.args.writer.now (tuple_tree (trees_of (map (tree_of_node c.args.left c.args.table.now) c.args.nodes.now))) c.args.place _ _
    c.from_residual-in_err-write.result c.write.new.writer c.in_err-write.field-0.0 y.0 y.1 y.2
    (field_refused (tree_of_node c.args.left c.args.table.now) (faults_of c.args.table.now) c.args.left c.args.nodes.now c.args.values.now c.args.writer.now
    c.args.place c.loop-i.i c.index-nodes-i.result c.index-values-i.result node_there value_there c.loop-i.writer c.field_below.new.writer
    c.in_ok-inside.inside c.loop-i.invariant c.in_ok-inside.ensures.grows c.in_ok-inside.ensures.written c.in_ok-inside.ensures.place c.requires _
    c.in_err-write.ensures.refused)

pub write_tuple-loop-i-preserved : goal.write_tuple-loop-i-preserved
write_tuple-loop-i-preserved t c =
    let node_there = found_entry c.args.nodes.now c.loop-i.i c.index-nodes-i.result c.loop-i-test.true c.index-nodes-i.is in
    let inside : c.loop-i.i < length c.args.values.now = omega arith in
    let value_there = found_entry c.args.values.now c.loop-i.i c.index-values-i.result inside c.index-values-i.is in
    field_more (tree_of_node c.args.left c.args.table.now) (faults_of c.args.table.now) c.args.left c.args.nodes.now c.args.values.now c.args.writer.now
    c.args.place c.loop-i.i c.index-nodes-i.result c.index-values-i.result node_there value_there c.loop-i.writer c.field_below.new.writer
    c.in_ok-inside.inside c.loop-i.invariant c.in_ok-inside.ensures.grows c.in_ok-inside.ensures.written c.in_ok-inside.ensures.place c.requires
    c.write.new.writer c.in_ok-write.ensures.written c.in_ok-write.ensures.of_tree c.in_ok-write.ensures.whole

pub write_tuple-returns : goal.write_tuple-returns
write_tuple-returns t c =
    let last : c.loop-i.i ≡ length c.args.nodes.now = omega arith in
    let even : length c.args.values.now ≡ length c.args.nodes.now = omega arith in
    let all = fields_done (tree_of_node c.args.left c.args.table.now) (faults_of c.args.table.now) c.args.left c.args.nodes.now c.args.values.now
    c.args.writer.now c.args.place c.loop-i.i c.loop-i.writer last even c.loop-i.invariant in
    written_outcome c.args.writer.now (tuple_tree (trees_of (map (tree_of_node c.args.left c.args.table.now) c.args.nodes.now))) c.args.place _ _ tt
    c.loop-i.writer all.0 all.1 all.2
