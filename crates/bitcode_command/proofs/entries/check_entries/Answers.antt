-- Bytes of texts are their entries.
use Rattle.std.proofs.Common.{◌<◌, arith}
use Rattle.std.proofs.lemmas.List.Elements.{All-from_get_or}
use Rattle.bitcode_command.proofs.EntryLemmas.{raw_entries}
use Rattle.bitcode_command.proofs.entries.check_entries.Goals as goal

pub returns-in-TextBytes : goal.returns-in-TextBytes
returns-in-TextBytes c =
    rw c.in-TextBytes.is
    (raw_entries c.args.bytes.now c.args.count (All-from_get_or (λ b. b < 256) c.args.bytes.now 0 (λ i _. omega (arith, c.type_inv.bytes i)))
    c.if-bytes-count.true)
