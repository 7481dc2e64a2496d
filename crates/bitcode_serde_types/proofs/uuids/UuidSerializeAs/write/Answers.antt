-- There are sixteen bytes.
use Rattle.std.proofs.Common.{rules, ◌≡◌, ◌∙◌, length, subst, arith}
use Rattle.bitcode_memory.specs.declared.error.Reason.TheVariants.{InvalidBitPattern}
use Rattle.bitcode_coder.specs.Spelling.{natural}
use Rattle.bitcode_untyped.specs.ShapeTree.{natural_tree}
use Rattle.bitcode_serde_types.proofs.NotedLemmas.{limited_written}
use Rattle.bitcode_serde_types.proofs.uuids.UuidSerializeAs.write.Goals as goal

pub returns : goal.returns
returns c =
    let same = c.into_bytes-bytes.ensures in
    let sixteen : length c.into_bytes-bytes.result ≡ 16 = search rules in
    let size = subst (λ bytes. length bytes ≡ 16) same sixteen in
    limited_written (natural_tree 1) natural 16 16 InvalidBitPattern c.args.writer.now c.args.place _ c.args.self.now c.write_lent.result
    c.write_lent.new.writer (c.iter.ensures.rest ∙ c.as_slice.ensures ∙ same) (omega (arith, size)) (omega (arith, size)) c.write_lent.ensures
