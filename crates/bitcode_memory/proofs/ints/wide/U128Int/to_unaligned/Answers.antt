-- The bytes of the number, as std says them.
use Rattle.std.proofs.Common.{◌∙◌}
use Rattle.bitcode_memory.proofs.UnalignedLemmas.{to_le_bytes_128}
use Rattle.bitcode_memory.proofs.ints.wide.U128Int.to_unaligned.Goals as goal

pub returns : goal.returns
returns c = c.to_le_bytes.ensures ∙ to_le_bytes_128 _
