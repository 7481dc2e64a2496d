-- The length stands raw, and nothing behind it takes memory.
use Rattle.bitcode_derive.proofs.ShortTextLemmas.{short_text_free}
use Rattle.bitcode_derive.proofs.laws.short_text.Goals as goal

pub returns-clause-free : goal.returns-clause-free
returns-clause-free c = short_text_free c.args.bytes.now c.requires c.decode.result c.decode.ensures.exact
