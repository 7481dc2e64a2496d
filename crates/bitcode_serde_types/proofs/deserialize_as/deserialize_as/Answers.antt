-- What was read from the root, and the laws of what is spelled.
use Rattle.std.proofs.Common.{sym, subst}
use Rattle.bitcode_untyped.specs.Spelling.{SpellsDatum}
use Rattle.bitcode_untyped.proofs.LawLemmas.{datum_takes_an_eighth, elements_are_bounded}
use Rattle.bitcode_serde.proofs.WholeLemmas.{one_spelled}
use Rattle.bitcode_serde_types.specs.Restates.{Restates}
use Rattle.bitcode_serde_types.proofs.KeptLemmas.{all_kept_of}
use Rattle.bitcode_serde_types.proofs.RestatesLemmas.{kept_whole}
use Rattle.bitcode_serde_types.proofs.deserialize_as.deserialize_as.Goals as goal

pub returns-in_err-value-clause-unambiguous : goal.returns-in_err-value-clause-unambiguous
returns-in_err-value-clause-unambiguous g c = one_spelled (g.T.HasShape.tree 513) c.args.bytes.now

pub returns-in_err-value-clause-size_bound : goal.returns-in_err-value-clause-size_bound
returns-in_err-value-clause-size_bound g c = datum_takes_an_eighth (g.T.HasShape.tree 513) (g.T.HasShape.sound 513) c.args.bytes.now

pub returns-in_err-value-clause-bounded : goal.returns-in_err-value-clause-bounded
returns-in_err-value-clause-bounded g c = (elements_are_bounded (g.T.HasShape.tree 513) (g.T.HasShape.sound 513)).by_bytes c.args.bytes.now

pub returns-clause-unambiguous : goal.returns-clause-unambiguous
returns-clause-unambiguous g c = one_spelled (g.T.HasShape.tree 513) c.args.bytes.now

pub returns-clause-size_bound : goal.returns-clause-size_bound
returns-clause-size_bound g c = datum_takes_an_eighth (g.T.HasShape.tree 513) (g.T.HasShape.sound 513) c.args.bytes.now

pub returns-clause-bounded : goal.returns-clause-bounded
returns-clause-bounded g c = (elements_are_bounded (g.T.HasShape.tree 513) (g.T.HasShape.sound 513)).by_bytes c.args.bytes.now

pub returns-clause-read : goal.returns-clause-read
returns-clause-read g c =
    let s = g.T.HasShape.tree 513 in
    all_kept_of (Restates s) g.T.HasShape.datum (SpellsDatum s c.args.bytes.now) c.in_ok-value.value _ c.in_ok-value.ensures.read

pub returns-clause-exact : goal.returns-clause-exact
returns-clause-exact g c = λ none.
    let s = g.T.HasShape.tree 513 in
    let k = all_kept_of (Restates s) g.T.HasShape.datum (SpellsDatum s c.args.bytes.now) c.in_ok-value.value _ c.in_ok-value.ensures.read in
    subst (SpellsDatum s c.args.bytes.now) (sym (kept_whole s none k.0 (g.T.HasShape.datum c.in_ok-value.value) k.2)) k.1
