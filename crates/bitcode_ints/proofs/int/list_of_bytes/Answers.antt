-- Each byte is the number that it alone stands for.
use Rattle.std.proofs.Common.{map, take, pos, ap, ◌∙◌}
use Rattle.std.proofs.lemmas.Result.{IfOk-weaker}
use Rattle.bitcode_memory.specs.Fast.{cow_rest}
use Rattle.bitcode_ints.proofs.IntLemmas.{bytes_themselves}
use Rattle.bitcode_ints.proofs.int.list_of_bytes.Goals as goal

pub returns-clause-numbers : goal.returns-clause-numbers
returns-clause-numbers c =
    IfOk-weaker c.list_unchecked.result _ _ (λ vec same. ap (map pos) same ∙ bytes_themselves (take c.args.n (cow_rest c.args.bytes.now))) c.list_unchecked.ensures.taken
