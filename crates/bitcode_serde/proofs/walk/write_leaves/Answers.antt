-- A list of entries is a length and then its entries.
use Rattle.std.proofs.Common.{length, refl, inl}
use Rattle.std.proofs.lemmas.Result.{err_from_is_err_and}
use Rattle.bitcode_coder.specs.Spelling.{natural}
use Rattle.bitcode_untyped.specs.ShapeTree.{seq_tree}
use Rattle.bitcode_untyped.specs.View.{tree_of_node}
use Rattle.bitcode_untyped.specs.Walk.{element, length_kind, use_at}
use Rattle.bitcode_serde.specs.Writing.{place_in}
use Rattle.bitcode_serde.proofs.LeavesLemmas.{leaves_outcome}
use Rattle.bitcode_serde.proofs.SerializeLemmas.{begun, refuses_use, refused_outcome}
use Rattle.bitcode_serde.proofs.walk.write_leaves.Goals as goal

pub returns-in_err-put : goal.returns-in_err-put
returns-in_err-put c =
    λ n has table left.
    let old = c.args.writer.now in
    let s = seq_tree (tree_of_node left table n) in
    let y = err_from_is_err_and c.from_residual.result c.from_residual.ensures.1 in
    refused_outcome old s c.args.place _ _ c.from_residual.result c.put.new.self c.in_err-put.field-0.0 y.0 y.1 y.2
    (refuses_use old s c.args.place _ _ (place_in old c.args.place) length_kind c.in_err-put.ensures.refused (inl (refl, refl)))

pub returns : goal.returns
returns c =
    λ n has table left.
    let old = c.args.writer.now in
    let start = c.below.new.self in
    let m = c.in_ok-element.element in
    let b = begun old c.put.new.self start c.args.place m (use_at (place_in old c.args.place) length_kind (natural (length c.args.values.now))) element
    c.in_ok-put.ensures.below c.in_ok-put.ensures.written c.in_ok-element.ensures.place c.in_ok-element.ensures.grows c.in_ok-element.ensures.written in
    leaves_outcome n c.args.kind c.args.values.now old start c.put_each.new.self c.args.place m c.put_each.result has b.0 b.1
    c.in_ok-element.ensures.inside c.put_each.ensures.below c.put_each.ensures.written c.put_each.ensures.entries c.put_each.ensures.refused table left
