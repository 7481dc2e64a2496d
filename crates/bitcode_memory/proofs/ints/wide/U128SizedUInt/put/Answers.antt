-- What is written are the number's bytes, as std says them.
use Rattle.std.proofs.Common.{◌∙◌}
use Rattle.bitcode_memory.proofs.UnalignedLemmas.{to_le_bytes_128}
use Rattle.bitcode_memory.proofs.ints.wide.U128SizedUInt.put.Goals as goal

pub returns : goal.returns
returns c = c.copy_from_slice.ensures.after ∙ (c.to_le_bytes.ensures ∙ to_le_bytes_128 c.args.self)
