-- The bytes spell the listing that was written, and no other datum.
use Rattle.std.proofs.lemmas.Result.{IfErr-weaker, IfOk-weaker}
use Rattle.bitcode_schema.proofs.DecodingLemmas.{content_listed, listing_for_memory}
use Rattle.bitcode_schema.proofs.laws.reads_encoded.Goals as goal

pub returns-clause-listed : goal.returns-clause-listed
returns-clause-listed g c =
    λ same written short found.
    IfOk-weaker c.args.again.now _ _
    (λ again m.
    content_listed g.T.Shaped.data.lawful c.args.t.now c.told.ensures c.args.schema.now.root same c.args.bytes.now written short again m) found

pub returns-clause-refused : goal.returns-clause-refused
returns-clause-refused g c =
    λ same written short none.
    IfErr-weaker c.args.again.now _ _
    (λ e refused.
    listing_for_memory g.T.Shaped.data.lawful c.args.t.now c.told.ensures c.args.schema.now.root same c.args.bytes.now written short e.reason refused) none
