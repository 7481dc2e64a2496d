-- The bytes spell the datum that was written, and no other.
use Rattle.std.proofs.lemmas.Result.{IfErr-weaker, IfOk-weaker}
use Rattle.bitcode_schema.proofs.DecodingLemmas.{same_content, for_memory}
use Rattle.bitcode_schema.proofs.laws.comes_back.Goals as goal

pub returns-clause-same : goal.returns-clause-same
returns-clause-same c =
    λ written short found.
    IfOk-weaker c.args.again.now _ _
    (λ again m. same_content c.args.schema.now.root c.args.schema.now.accepted.variants c.args.value.now c.args.bytes.now written short again m) found

pub returns-clause-refused : goal.returns-clause-refused
returns-clause-refused c =
    λ written short none.
    IfErr-weaker c.args.again.now _ _
    (λ e refused. for_memory c.args.schema.now.root c.args.schema.now.accepted.variants c.args.value.now c.args.bytes.now written short e.reason refused) none
