-- No lengths, and no bytes.
use Rattle.std.proofs.Common.{[], length, sum, sym, ap, ◌∙◌}
use Rattle.bitcode_memory.specs.Fast.{fast_items}
use Rattle.bitcode_coder.specs.Length.{written_lengths}
use Rattle.bitcode_coder.proofs.StrLemmas.{same_lengths, no_pieces}
use Rattle.bitcode_coder.proofs.str.encoder.StrEncoderBuffer.new.Goals as goal

pub invariant_of-result : goal.invariant_of-result
invariant_of-result c = record {
  whole = ap sum (same_lengths (written_lengths c.new.result) [] c.new.ensures.empty) ∙ sym (ap length c.new-2.ensures.items);
}

pub returns-clause-empty : goal.returns-clause-empty
returns-clause-empty c = no_pieces (written_lengths c.new.result) (fast_items c.new-2.result) c.new.ensures.empty
