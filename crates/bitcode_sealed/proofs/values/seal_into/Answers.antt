-- The bytes that `encode` writes are sealed.
use Rattle.std.proofs.Common.{◌++◌, ap, ◌∙◌}
use Rattle.std.proofs.lemmas.Result.{on_ok_weaker}
use Rattle.bitcode_sealed.specs.Layout.{sealed}
use Rattle.bitcode_sealed.proofs.SealingLemmas.{sealed_behind_it}
use Rattle.bitcode_sealed.proofs.values.seal_into.Goals as goal

pub returns-clause-written : goal.returns-clause-written
returns-clause-written g c =
    let before = c.args.out.now.items in
    on_ok_weaker c.seal_bytes.result
    (λ written. sealed_behind_it g.T.Shaped.data.lists g.T.Shaped.data.shape c.args.label c.args.t.now before c.in_ok-value.value.items _ c.in_ok-value.ensures.written
    (written ∙ ap (λ v. before ++ sealed c.args.label v) c.deref.ensures.value)) c.seal_bytes.ensures.written
