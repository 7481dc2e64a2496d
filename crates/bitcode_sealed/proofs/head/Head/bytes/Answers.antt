-- Each field is written by its bytes.
use Rattle.std.proofs.Common.{ap, ◌∙◌}
use Rattle.bitcode_memory.specs.LittleEndian.{number_bytes}
use Rattle.bitcode_sealed.proofs.HeadLemmas.{head_written}
use Rattle.bitcode_sealed.proofs.head.Head.bytes.Goals as goal

pub returns : goal.returns
returns c =
    head_written c.args.self c.to_unaligned.result c.to_unaligned-2.result c.to_unaligned-3.result c.to_unaligned-4.result
    c.to_unaligned.ensures c.to_unaligned-2.ensures c.to_unaligned-3.ensures (c.to_unaligned-4.ensures ∙ ap (number_bytes 4) c.crc_32.ensures)
