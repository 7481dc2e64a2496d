-- No lengths, and no bytes.
use Rattle.std.proofs.Common.{[], length, sum, sym, ap, ◌∙◌}
use Rattle.bitcode_memory.specs.Fast.{fast_items}
use Rattle.bitcode_coder.specs.Length.{written_lengths}
use Rattle.bitcode_coder.proofs.StrLemmas.{same_lengths, no_pieces}
use Rattle.bitcode_coder.proofs.str.encoder.StrEncoderBuffer.clear.Goals as goal

pub invariant_of-self : goal.invariant_of-self
invariant_of-self c = record {
  whole = ap sum (same_lengths (written_lengths c.clear.new.self) [] c.clear.ensures.empty) ∙ sym (ap length c.clear-2.ensures.items);
}

pub returns-clause-empty : goal.returns-clause-empty
returns-clause-empty c = no_pieces (written_lengths c.clear.new.self) (fast_items c.clear-2.new.self) c.clear.ensures.empty
