-- Want of memory when the scores are read is one of the two refusals.
use Rattle.std.proofs.Common.{rules, inl}
use Rattle.std.proofs.lemmas.Result.{IfErr-weaker}
use Rattle.bitcode_own_types.proofs.saved.saved_and_loaded.Goals as goal

pub returns-clause-refused : goal.returns-clause-refused
returns-clause-refused c short =
    IfErr-weaker c.decode-again.result _ _ (λ e memory. inl memory) (c.comes_back.ensures.refused (search rules) short c.decode-again.ensures.refused)
