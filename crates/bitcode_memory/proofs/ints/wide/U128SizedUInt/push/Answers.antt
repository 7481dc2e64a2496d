-- What was appended are the number's bytes, as std says them.
use Rattle.std.proofs.Common.{◌++◌, ap, ◌∙◌}
use Rattle.bitcode_memory.proofs.UnalignedLemmas.{to_le_bytes_128}
use Rattle.bitcode_memory.proofs.ints.wide.U128SizedUInt.push.Goals as goal

pub returns-clause-written : goal.returns-clause-written
returns-clause-written c = c.push_bytes.ensures.written ∙ ap (λ b. c.args.out.now.items ++ b) (c.to_le_bytes.ensures ∙ to_le_bytes_128 c.args.self)
