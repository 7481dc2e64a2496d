-- The bytes of the number's residue, as std says them.
use Rattle.std.proofs.Common.{◌≡◌, rules, ap, ◌∙◌}
use Rattle.bitcode_memory.specs.LittleEndian.{number_bytes}
use Rattle.bitcode_memory.specs.Ints.{residue}
use Rattle.bitcode_memory.proofs.UnalignedLemmas.{to_le_bytes_128}
use Rattle.bitcode_memory.proofs.ints.wide.I128Int.to_unaligned.Goals as goal

pub returns : goal.returns
returns c =
    let passed : _ ≡ residue 16 c.args.self = search rules in
    c.to_le_bytes.ensures ∙ (to_le_bytes_128 _ ∙ ap (number_bytes 16) passed)
