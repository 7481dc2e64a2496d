-- The column of the one text is its length and its bytes.
use Rattle.std.proofs.Common.{sym, subst, None, map, ap, ◌∙◌, ◌++◌, ◌∷◌, [], length, append_assoc}
use Rattle.bitcode_memory.specs.Fast.{fast_items}
use Rattle.bitcode_shapes.specs.Datum.{text}
use Rattle.bitcode_coder.specs.Columns.{texts}
use Rattle.bitcode_coder.specs.Cutting.{cut}
use Rattle.bitcode_coder.specs.Length.{written_lengths}
use Rattle.bitcode_coder.specs.LengthColumn.{length_bytes}
use Rattle.bitcode_coder.proofs.OneValueLemmas.{writes_entry, one_text}
use Rattle.bitcode_coder.proofs.str.encoder.StrEncoderEncoder.write_directly.Goals as goal

pub returns-clause-written : goal.returns-clause-written
returns-clause-written g c done =
    let bytes = c.as_bytes-text.result.now in
    writes_entry g.P.Shaped.data.lists g.P.Shaped.data.shape (texts None) c.args.t.now (text bytes)
    (map text (cut (written_lengths c.args.self.now.lengths) (fast_items c.args.self.now.bytes))) c.args.out.now.items c.extend_from_slice.new.self.items g.met.P.AsText.as_text_columns
    (subst (λ bytes. g.P.Shaped.data.lists c.args.t.now (text bytes)) (sym c.as_bytes-text.ensures.value) c.as_text.ensures) c.requires
    (c.in_ok-extend_from_slice.ensures.items
    ∙ (ap (λ front. front ++ bytes) c.in_ok-write_length.ensures.written
    ∙ (append_assoc c.args.out.now.items (length_bytes (length bytes ∷ [])) bytes ∙ ap (λ whole. c.args.out.now.items ++ whole) (one_text bytes))))
