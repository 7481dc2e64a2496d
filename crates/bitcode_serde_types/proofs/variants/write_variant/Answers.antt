use Rattle.std.proofs.Common.{arith, ◌≤◌, inl, refl}
use Rattle.std.proofs.lemmas.Result.{err_from_is_err_and}
use Rattle.bitcode_coder.specs.Spelling.{natural}
use Rattle.bitcode_untyped.specs.ShapeTree.{choice_tree}
use Rattle.bitcode_untyped.specs.Walk.{variant, index_kind, use_at}
use Rattle.bitcode_serde.specs.Writing.{place_in}
use Rattle.bitcode_serde.proofs.SerializeLemmas.{refuses_use, begun, refused_outcome}
use Rattle.bitcode_serde.proofs.WalkLemmas.{variant_outcome}
use Rattle.bitcode_serde_types.proofs.variants.write_variant.Goals as goal

pub returns-in_err-put : goal.returns-in_err-put
returns-in_err-put g c =
    λ trees is.
    let y = err_from_is_err_and c.from_residual.result c.from_residual.ensures.1 in
    refused_outcome c.args.writer.now (choice_tree trees) c.args.place _ _ c.from_residual.result c.put.new.self c.in_err-put.field-0.0 y.0 y.1 y.2
    (refuses_use c.args.writer.now (choice_tree trees) c.args.place _ _ (place_in c.args.writer.now c.args.place) index_kind c.in_err-put.ensures.refused
    (inl (refl, refl)))

pub returns : goal.returns
returns g c =
    λ trees is.
    let small : c.args.index ≤ 255 = omega arith in
    let b = begun c.args.writer.now c.put.new.self c.below.new.self c.args.place c.in_ok-inside.inside
    (use_at (place_in c.args.writer.now c.args.place) index_kind (natural c.args.index)) (variant c.args.index)
    c.in_ok-put.ensures.below c.in_ok-put.ensures.written c.in_ok-inside.ensures.place c.in_ok-inside.ensures.grows c.in_ok-inside.ensures.written in
    variant_outcome c.args.writer.now c.below.new.self c.write.new.writer trees (g.T.HasShape.tree c.args.left) c.args.index
    c.args.place c.in_ok-inside.inside (g.T.HasShape.datum c.args.payload.now) _ c.write.result is small b.0 b.1 c.write.ensures
