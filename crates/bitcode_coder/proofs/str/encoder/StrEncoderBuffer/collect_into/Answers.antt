-- The text of the pieces is that of their lengths and bytes.
use Rattle.std.proofs.Common.{◌++◌, [], length, sum, sym, ap, ◌∙◌}
use Rattle.std.proofs.lemmas.Result.{on_ok_weaker}
use Rattle.bitcode_coder.specs.LengthColumn.{length_bytes}
use Rattle.bitcode_memory.specs.Fast.{fast_items}
use Rattle.bitcode_coder.specs.Length.{written_lengths}
use Rattle.bitcode_coder.proofs.StrLemmas.{OnOk-always, same_lengths, no_pieces, texts_bytes-cut}
use Rattle.bitcode_coder.proofs.str.encoder.StrEncoderBuffer.collect_into.Goals as goal

pub invariant_of-self : goal.invariant_of-self
invariant_of-self c = record {
  whole = ap sum (same_lengths (written_lengths c.clear.new.self) [] c.clear.ensures.empty) ∙ sym (ap length c.clear-2.ensures.items);
}

pub returns-clause-written : goal.returns-clause-written
returns-clause-written c =
    on_ok_weaker c.pack_texts-packed.result
    (λ whole. whole ∙ ap (λ more. c.args.out.now.items ++ more)
    (ap (λ bytes. length_bytes (written_lengths c.args.self.now.lengths) ++ bytes) c.as_slice.ensures
    ∙ sym (texts_bytes-cut (written_lengths c.args.self.now.lengths) (fast_items c.args.self.now.bytes) c.args.self.now.whole)))
    c.pack_texts-packed.ensures.written

pub returns-clause-empty : goal.returns-clause-empty
returns-clause-empty c =
    OnOk-always c.pack_texts-packed.result (no_pieces (written_lengths c.clear.new.self) (fast_items c.clear-2.new.self) c.clear.ensures.empty)
