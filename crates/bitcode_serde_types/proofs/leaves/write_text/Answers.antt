-- A text is an entry of its column.
use Rattle.std.proofs.Common.{refl, None}
use Rattle.bitcode_shapes.specs.Datum.{text}
use Rattle.bitcode_coder.specs.Columns.{texts}
use Rattle.bitcode_untyped.specs.ShapeTree.{text_tree}
use Rattle.bitcode_serde.proofs.WalkLemmas.{use_outcome}
use Rattle.bitcode_serde_types.proofs.leaves.write_text.Goals as goal

pub returns : goal.returns
returns c =
    use_outcome c.args.writer.now c.put_text.new.self text_tree c.args.place (text c.args.words.now) (text c.args.words.now) (texts None) c.put_text.result refl
    (refl, refl) (record { bytes = c.args.words.now; is = refl; utf8 = c.utf8.words; within = tt }, tt) c.put_text.ensures.below
    c.put_text.ensures.written c.put_text.ensures.refused
