-- A list is a length and its elements.
use Rattle.std.proofs.Common.{arith, inl, [], ◌∷◌, refl, sym, subst}
use Rattle.std.proofs.lemmas.Result.{err_from_is_err_and}
use Rattle.bitcode_coder.specs.Spelling.{natural}
use Rattle.bitcode_untyped.specs.ShapeTree.{seq_tree}
use Rattle.bitcode_untyped.specs.Walk.{element, length_kind, use_at}
use Rattle.bitcode_serde.specs.Writing.{place_in, Writes}
use Rattle.bitcode_serde.proofs.SerializeLemmas.{refuses_use, begun, refused_outcome}
use Rattle.bitcode_serde_types.proofs.LentLemmas.{none_lent, lent_more, lent_done, lent_refused}
use Rattle.bitcode_serde_types.proofs.lists.write_lent.Goals as goal

pub returns-in_err-put : goal.returns-in_err-put
returns-in_err-put g c =
    let s = g.T.HasShape.tree c.args.left in
    let y = err_from_is_err_and c.from_residual.result c.from_residual.ensures.1 in
    refused_outcome c.args.writer.now (seq_tree s) c.args.place _ _ c.from_residual.result c.put.new.self c.in_err-put.field-0.0 y.0 y.1 y.2
    (refuses_use c.args.writer.now (seq_tree s) c.args.place _ _ (place_in c.args.writer.now c.args.place) length_kind c.in_err-put.ensures.refused
    (inl (refl, refl)))

pub write-requires : goal.write-requires
write-requires g c =
    let h = c.loop-value.invariant.1.each.written.grows.size in
    let k = c.loop-value.invariant.0 in
    omega (arith, h, k)

pub returns-in_err-write : goal.returns-in_err-write
returns-in_err-write g c =
    let s = g.T.HasShape.tree c.args.left in
    let f = g.T.HasShape.datum in
    let xs = g.L.Lends.rest c.args.lent in
    let l = c.loop-value in
    let old = c.args.writer.now in
    let b = begun old c.put.new.self c.element_below.new.writer c.args.place c.in_ok-element.element
    (use_at (place_in old c.args.place) length_kind (natural c.args.count)) element
    c.in_ok-put.ensures.below c.in_ok-put.ensures.written c.in_ok-element.ensures.place c.in_ok-element.ensures.grows c.in_ok-element.ensures.written in
    let first = subst (λ n. Writes old (use_at (place_in old c.args.place) length_kind (natural n) ∷ []) c.element_below.new.writer) (sym c.requires.all) b.0 in
    let y = err_from_is_err_and c.from_residual-in_err-write.result c.from_residual-in_err-write.ensures.1 in
    refused_outcome old (seq_tree s) c.args.place _ _ c.from_residual-in_err-write.result c.write.new.writer c.in_err-write.field-0.0 y.0 y.1 y.2
    (lent_refused s f xs c.element_below.new.writer c.in_ok-element.element old c.args.place first b.1 l.invariant.0 (g.L.Lends.rest l.lent)
    (g.L.Lends.rest c.lend.new.self) c.in-Some.value.now l.writer _ l.invariant.1 c.in-Some.ensures.next c.in_err-write.ensures.refused)

pub loop-value-preserved : goal.loop-value-preserved
loop-value-preserved g c =
    let l = c.loop-value in (
      l.invariant.0,
      lent_more (g.T.HasShape.tree c.args.left) g.T.HasShape.datum (g.L.Lends.rest c.args.lent) c.element_below.new.writer c.in_ok-element.element
          l.invariant.0 (g.L.Lends.rest l.lent) (g.L.Lends.rest c.lend.new.self) c.in-Some.value.now l.writer c.write.new.writer l.invariant.1
          c.in-Some.ensures.next c.in_ok-write.ensures.written c.in_ok-write.ensures.of_tree c.in_ok-write.ensures.whole,
    )

pub loop-value-init : goal.loop-value-init
loop-value-init g c = (
  c.in_ok-element.ensures.inside,
  none_lent (g.T.HasShape.tree c.args.left) g.T.HasShape.datum (g.L.Lends.rest c.args.lent) c.element_below.new.writer c.in_ok-element.element,
)

pub returns : goal.returns
returns g c =
    let s = g.T.HasShape.tree c.args.left in
    let f = g.T.HasShape.datum in
    let xs = g.L.Lends.rest c.args.lent in
    let l = c.loop-value in
    let old = c.args.writer.now in
    let b = begun old c.put.new.self c.element_below.new.writer c.args.place c.in_ok-element.element
    (use_at (place_in old c.args.place) length_kind (natural c.args.count)) element
    c.in_ok-put.ensures.below c.in_ok-put.ensures.written c.in_ok-element.ensures.place c.in_ok-element.ensures.grows c.in_ok-element.ensures.written in
    let first = subst (λ n. Writes old (use_at (place_in old c.args.place) length_kind (natural n) ∷ []) c.element_below.new.writer) (sym c.requires.all) b.0 in
    lent_done s f xs c.element_below.new.writer c.in_ok-element.element old c.args.place first b.1 (g.L.Lends.rest l.lent) l.writer l.invariant.1
    c.in_default.ensures.end
