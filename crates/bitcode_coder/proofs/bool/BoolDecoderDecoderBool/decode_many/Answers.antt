-- The bools are those that were taken.
use Rattle.std.proofs.Common.{take, refl}
use Rattle.std.proofs.lemmas.Result.{IfOk-weaker}
use Rattle.bitcode_memory.specs.Fast.{cow_rest}
use Rattle.bitcode_coder.proofs.BoolLemmas.{takes_bools}
use Rattle.bitcode_coder.proofs.bool.BoolDecoderDecoderBool.decode_many.Goals as goal

pub returns-clause-made : goal.returns-clause-made
returns-clause-made g c =
    let rest = cow_rest c.args.self.now.values in
    IfOk-weaker c.list_unchecked.result _ _
    (λ bools same. takes_bools c.args.count rest (take c.args.count rest) _ bools.items c.requires refl c.list_unchecked.ensures.rest same)
    c.list_unchecked.ensures.taken
