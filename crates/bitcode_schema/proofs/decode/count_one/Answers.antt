-- What was counted is the one datum that the bytes spell.
use Rattle.bitcode_schema.proofs.DecodingLemmas.{one_counted}
use Rattle.bitcode_schema.proofs.decode.count_one.Goals as goal

pub returns-in-Ok-clause-counted : goal.returns-in-Ok-clause-counted
returns-in-Ok-clause-counted c =
    λ d spelled.
    one_counted c.args.schema.now.root c.args.bytes.now d spelled _ c.in-Ok.nodes (rw c.root.ensures at c.in-Ok.ensures.counted)
