-- The text joins its column.
use Rattle.std.proofs.Common.{sym, subst, None}
use Rattle.std.proofs.lemmas.Result.{on_ok_weaker}
use Rattle.bitcode_memory.specs.Fast.{fast_items}
use Rattle.bitcode_coder.specs.Length.{written_lengths}
use Rattle.bitcode_coder.proofs.OneColumnLemmas.{joins_entry}
use Rattle.bitcode_coder.specs.Columns.{texts}
use Rattle.bitcode_coder.specs.Cutting.{cut}
use Rattle.bitcode_shapes.specs.Datum.{text}
use Rattle.bitcode_coder.proofs.str.encoder.StrEncoderEncoder.encode.Goals as goal

pub returns-clause-joined : goal.returns-clause-joined
returns-clause-joined g c =
    on_ok_weaker c.encode_text.result (λ pushed.
    joins_entry g.P.Shaped.data.lists g.P.Shaped.data.shape (texts None) text c.args.t.now c.as_bytes.result.now
    (cut (written_lengths c.args.self.now.lengths) (fast_items c.args.self.now.bytes))
    (cut (written_lengths c.encode_text.new.self.lengths) (fast_items c.encode_text.new.self.bytes)) g.met.P.AsText.as_text_columns
    (subst (λ bytes. g.P.Shaped.data.lists c.args.t.now (text bytes)) (sym c.as_bytes.ensures.value) c.as_text.ensures) pushed) c.encode_text.ensures.written
