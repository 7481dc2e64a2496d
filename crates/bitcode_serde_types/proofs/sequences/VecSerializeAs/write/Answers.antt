use Rattle.std.proofs.Common.{arith, ◌≤◌, inl, length, refl, sym, subst, ◌∙◌}
use Rattle.std.proofs.lemmas.Result.{err_from_is_err_and}
use Rattle.bitcode_coder.specs.Spelling.{natural}
use Rattle.bitcode_untyped.specs.ShapeTree.{seq_tree, IsOf}
use Rattle.bitcode_untyped.specs.Walk.{element, length_kind, use_at, walk}
use Rattle.bitcode_serde.specs.Writing.{place_in, IsAmong}
use Rattle.bitcode_serde.proofs.EntryLemmas.{found_entry}
use Rattle.bitcode_serde.proofs.SerializeLemmas.{refuses_use, begun, list_done, list_is, list_refused, refused_outcome, written_outcome}
use Rattle.bitcode_serde.proofs.WalkLemmas.{among_entry, each_none, each_more, each_all, written_there}
use Rattle.bitcode_serde_types.specs.DeepFaults.{deep_faults}
use Rattle.bitcode_serde_types.proofs.ListLemmas.{seq_faults}
use Rattle.bitcode_serde_types.proofs.sequences.VecSerializeAs.write.Goals as goal

pub returns-in_err-put : goal.returns-in_err-put
returns-in_err-put g c =
    let s = g.T.HasShape.tree c.args.left in
    let y = err_from_is_err_and c.from_residual.result c.from_residual.ensures.1 in
    refused_outcome c.args.writer.now (seq_tree s) c.args.place _ _ c.from_residual.result c.put.new.self c.in_err-put.field-0.0 y.0 y.1 y.2
    (refuses_use c.args.writer.now (seq_tree s) c.args.place _ _ (place_in c.args.writer.now c.args.place) length_kind c.in_err-put.ensures.refused
    (inl (refl, refl)))

pub write-requires : goal.write-requires
write-requires g c =
    let h : c.in_ok-element.element ≤ length c.loop-value.writer.places.below.items = let g = c.loop-value.invariant.1.written.grows.size
    in let k = c.loop-value.invariant.0 in omega (arith, g, k) in
    h

pub returns-in_err-write : goal.returns-in_err-write
returns-in_err-write g c =
    let s = g.T.HasShape.tree c.args.left in
    let xs = c.as_slice-values.result.now in
    let b = begun c.args.writer.now c.put.new.self c.element_below.new.writer c.args.place c.in_ok-element.element
    (use_at (place_in c.args.writer.now c.args.place) length_kind (natural (length xs))) element
    c.in_ok-put.ensures.below c.in_ok-put.ensures.written c.in_ok-element.ensures.place c.in_ok-element.ensures.grows c.in_ok-element.ensures.written in
    let there = found_entry xs c.loop-value.value-index c.value-item.result c.loop-value-test.true c.value-item.is in
    let y = err_from_is_err_and c.from_residual-in_err-write.result c.from_residual-in_err-write.ensures.1 in
    rw (← c.as_slice-values.ensures.value)
    (refused_outcome c.args.writer.now (seq_tree s) c.args.place _ _
    c.from_residual-in_err-write.result c.write.new.writer c.in_err-write.field-0.0 y.0 y.1 y.2
    (list_refused s g.T.HasShape.datum xs c.args.writer.now c.element_below.new.writer c.loop-value.writer
    c.args.place c.in_ok-element.element (length xs) c.loop-value.value-index _ _ _
    b.0 b.1 c.loop-value.invariant.0 c.loop-value.invariant.1.written
    (λ a. subst (IsAmong c.in_err-write.field-0.0.reason) (sym (seq_faults s g.T.HasShape.datum xs))
    (among_entry _ (λ v. deep_faults s (g.T.HasShape.datum v)) xs c.loop-value.value-index c.value-item.result there a))
    c.in_err-write.ensures.refused))

pub loop-value-preserved : goal.loop-value-preserved
loop-value-preserved g c =
    let s = g.T.HasShape.tree c.args.left in
    let xs = c.as_slice-values.result.now in
    let start = c.element_below.new.writer in
    let m = c.in_ok-element.element in
    let so_far = c.loop-value.invariant.1 in (
      c.loop-value.invariant.0,
      each_more (λ v. walk s (place_in start m) (g.T.HasShape.datum v)) (λ v. IsOf s (g.T.HasShape.datum v)) (λ v. deep_faults s (g.T.HasShape.datum v))
          xs start c.loop-value.value-index c.value-item.result c.loop-value.writer c.write.new.writer
          (found_entry xs c.loop-value.value-index c.value-item.result c.loop-value-test.true c.value-item.is) so_far
          (written_there start c.loop-value.writer c.write.new.writer s m (g.T.HasShape.datum c.value-item.result) so_far.written.grows
          c.loop-value.invariant.0 c.in_ok-write.ensures.written) c.in_ok-write.ensures.of_tree c.in_ok-write.ensures.whole,
    )

pub returns : goal.returns
returns g c =
    let s = g.T.HasShape.tree c.args.left in
    let xs = c.as_slice-values.result.now in
    let b = begun c.args.writer.now c.put.new.self c.element_below.new.writer c.args.place c.in_ok-element.element
    (use_at (place_in c.args.writer.now c.args.place) length_kind (natural (length xs))) element
    c.in_ok-put.ensures.below c.in_ok-put.ensures.written c.in_ok-element.ensures.place c.in_ok-element.ensures.grows c.in_ok-element.ensures.written in
    let start = c.element_below.new.writer in
    let m = c.in_ok-element.element in
    let all = each_all (λ v. walk s (place_in start m) (g.T.HasShape.datum v)) (λ v. IsOf s (g.T.HasShape.datum v)) (λ v. deep_faults s (g.T.HasShape.datum v))
    xs start c.loop-value.value-index c.loop-value.writer c.loop-value-test.false c.loop-value.auto.value-index-end c.loop-value.invariant.1 in
    rw (← c.as_slice-values.ensures.value)
    (written_outcome c.args.writer.now (seq_tree s) c.args.place _ _ tt c.loop-value.writer
    (list_done s g.T.HasShape.datum xs c.args.writer.now start c.loop-value.writer c.args.place m c.loop-value.value-index b.0 b.1 c.loop-value-test.false
    c.loop-value.auto.value-index-end c.loop-value.invariant.1.written)
    (list_is s g.T.HasShape.datum xs all.1) (seq_faults s g.T.HasShape.datum xs ∙ all.2))

pub loop-value-init : goal.loop-value-init
loop-value-init g c =
    let s = g.T.HasShape.tree c.args.left in (
      c.in_ok-element.ensures.inside,
      each_none (λ v. walk s (place_in c.element_below.new.writer c.in_ok-element.element) (g.T.HasShape.datum v)) (λ v. IsOf s (g.T.HasShape.datum v))
          (λ v. deep_faults s (g.T.HasShape.datum v)) c.as_slice-values.result.now c.element_below.new.writer,
    )
