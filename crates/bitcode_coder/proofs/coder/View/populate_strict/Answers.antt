-- The answer of `read` is whether the columns were strictly spelled.
use Rattle.std.proofs.Common.{refl}
use Rattle.bitcode_coder.proofs.StrictLemmas.{judged_result}
use Rattle.bitcode_coder.proofs.coder.View.populate_strict.Goals as goal

pub returns-clause-strict : goal.returns-clause-strict
returns-clause-strict g c =
    judged_result g.Self.HoldsData.shape c.args.k c.args.input.now.now c.read.new.input.now (g.Self.HoldsData.held c.read.new.self) c.read.result
    c.read.ensures.read (c.read.ensures.judged refl)
