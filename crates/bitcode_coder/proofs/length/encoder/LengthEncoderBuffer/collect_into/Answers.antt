-- The text of both parts is that of the lengths.
use Rattle.bitcode_memory.specs.Fast.{fast_items}
use Rattle.bitcode_coder.specs.Length.{written_lengths}
use Rattle.bitcode_coder.proofs.LengthPartLemmas.{written_parts}
use Rattle.bitcode_coder.proofs.length.encoder.LengthEncoderBuffer.collect_into.Goals as goal

pub returns-clause-written : goal.returns-clause-written
unfolding written_lengths
returns-clause-written c =
    written_parts c.pack_parts-packed.result _ _ (fast_items c.args.self.now.small) c.args.self.now.large.items _ _ c.args.self.now.split
    c.as_mut_slice.ensures.value c.deref_mut.ensures.value c.pack_parts-packed.ensures.written
