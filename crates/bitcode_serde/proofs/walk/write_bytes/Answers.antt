-- A list of bytes is a length and then its bytes.
use Rattle.std.proofs.Common.{[], length, refl, false, inl}
use Rattle.std.proofs.lemmas.Result.{err_from_is_err_and}
use Rattle.bitcode_shapes.specs.Shape.{any_number}
use Rattle.bitcode_coder.specs.Columns.{ints}
use Rattle.bitcode_coder.specs.Spelling.{natural}
use Rattle.bitcode_untyped.specs.ShapeTree.{natural_tree, seq_tree}
use Rattle.bitcode_untyped.specs.Walk.{element, length_kind, use_at}
use Rattle.bitcode_serde.specs.Writing.{place_in}
use Rattle.bitcode_untyped.proofs.TypedLemmas.{bytes_are}
use Rattle.bitcode_serde.proofs.SerializeLemmas.{begun, entries_outcome, refuses_use, refused_outcome}
use Rattle.bitcode_serde.proofs.walk.write_bytes.Goals as goal

pub returns-in_err-put : goal.returns-in_err-put
returns-in_err-put c =
    let old = c.args.writer.now in
    let y = err_from_is_err_and c.from_residual.result c.from_residual.ensures.1 in
    refused_outcome old (seq_tree (natural_tree 1)) c.args.place _ [] c.from_residual.result c.put.new.self c.in_err-put.field-0.0 y.0 y.1 y.2
    (refuses_use old (seq_tree (natural_tree 1)) c.args.place [] _ (place_in old c.args.place) length_kind c.in_err-put.ensures.refused (inl (refl, refl)))

pub returns : goal.returns
returns c =
    let old = c.args.writer.now in
    let start = c.below.new.self in
    let m = c.in_ok-element.element in
    let p = place_in old c.args.place in
    let b = begun old c.put.new.self start c.args.place m (use_at p length_kind (natural (length c.args.bytes.now))) element
    c.in_ok-put.ensures.below c.in_ok-put.ensures.written c.in_ok-element.ensures.place c.in_ok-element.ensures.grows c.in_ok-element.ensures.written in
    entries_outcome (ints 1 false) any_number natural c.args.bytes.now old start c.put_bytes.new.self c.args.place m c.put_bytes.result b.0 b.1
    c.in_ok-element.ensures.inside (bytes_are c.args.bytes.now (λ i. (c.type_inv.bytes i).fits)) c.put_bytes.ensures.below c.put_bytes.ensures.written
    c.put_bytes.ensures.refused
