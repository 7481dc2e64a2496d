-- The one value holds the one datum that the bytes spell.
use Rattle.bitcode_schema.proofs.DecodingLemmas.{one_made}
use Rattle.bitcode_schema.proofs.decode.make_one.Goals as goal

pub returns-in-Some-clause-made : goal.returns-in-Some-clause-made
returns-in-Some-clause-made c =
    one_made c.args.schema.now.root c.args.bytes.now c.requires.spelled.0 c.requires.spelled.1 _ c.in-Ok.values.items c.pop_front.new.self.items c.in-Some.value
    (rw c.root.ensures at c.in-Ok.ensures.made) c.in-Some.ensures.items
