-- A char is an entry that is a scalar value.
use Rattle.std.proofs.Common.{rules, false, refl}
use Rattle.std.specs.Char.{IsScalar}
use Rattle.bitcode_coder.specs.Columns.{ints}
use Rattle.bitcode_coder.specs.Spelling.{natural}
use Rattle.bitcode_untyped.specs.ShapeTree.{char_tree}
use Rattle.bitcode_serde.proofs.WalkLemmas.{use_outcome}
use Rattle.bitcode_serde_types.proofs.LeafData.{char_is}
use Rattle.bitcode_serde_types.proofs.leaves.CharSerializeAs.write.Goals as goal

pub returns : goal.returns
returns c =
    let is_char : IsScalar c.args.self.now = search rules in
    use_outcome c.args.writer.now c.put.new.self char_tree c.args.place (natural c.args.self.now) (natural c.args.self.now) (ints 4 false) c.put.result refl
    (refl, refl) (char_is c.args.self.now is_char) c.put.ensures.below c.put.ensures.written c.put.ensures.refused
