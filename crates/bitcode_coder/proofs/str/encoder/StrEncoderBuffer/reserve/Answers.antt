-- The lengths are those that were there.
use Rattle.std.proofs.Common.{sum, ap, ◌∙◌}
use Rattle.bitcode_memory.specs.Fast.{fast_items}
use Rattle.bitcode_coder.specs.Length.{written_lengths}
use Rattle.bitcode_coder.proofs.StrLemmas.{same_lengths, pieces_kept}
use Rattle.bitcode_coder.proofs.str.encoder.StrEncoderBuffer.reserve.Goals as goal

pub invariant_of-self : goal.invariant_of-self
invariant_of-self c = record {
  whole = ap sum (same_lengths (written_lengths c.reserve.new.self) (written_lengths c.args.self.now.lengths) c.reserve.ensures.columns) ∙ c.args.self.now.whole;
}

pub returns-clause-columns : goal.returns-clause-columns
returns-clause-columns c =
    pieces_kept (written_lengths c.reserve.new.self) (written_lengths c.args.self.now.lengths) (fast_items c.args.self.now.bytes) c.reserve.ensures.columns
