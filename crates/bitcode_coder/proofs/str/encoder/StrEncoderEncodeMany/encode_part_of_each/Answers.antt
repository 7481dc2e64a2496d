-- The texts of the parts join their column.
use Rattle.std.proofs.Common.{map, None}
use Rattle.std.proofs.lemmas.Result.{on_ok_weaker}
use Rattle.bitcode_memory.specs.Fast.{fast_items}
use Rattle.bitcode_shapes.specs.Datum.{text}
use Rattle.bitcode_coder.specs.Columns.{texts}
use Rattle.bitcode_coder.specs.Cutting.{cut}
use Rattle.bitcode_coder.specs.Length.{written_lengths}
use Rattle.bitcode_coder.proofs.PushingLemmas.{joins_entries}
use Rattle.bitcode_coder.proofs.str.encoder.StrEncoderEncodeMany.encode_part_of_each.Goals as goal

pub returns-clause-joined : goal.returns-clause-joined
returns-clause-joined g c =
    on_ok_weaker c.encode_texts_in.result (λ written.
    joins_entries g.P.Shaped.data.lists g.P.Shaped.data.shape (texts None) text (map (g.W.Part.of c.args.which.now) c.args.items.now) written.texts
    (cut (written_lengths c.args.self.now.lengths) (fast_items c.args.self.now.bytes))
    (cut (written_lengths c.encode_texts_in.new.self.lengths) (fast_items c.encode_texts_in.new.self.bytes)) g.met.P.AsText.as_text_columns written.stand written.pushed
    ) c.encode_texts_in.ensures.written
