-- Variants of several numbers have one base.
use Rattle.std.proofs.Common.{◌≡◌, ◌++◌, subst}
use Rattle.std.specs.Prelude.{OnOk}
use Rattle.bitcode_schema.proofs.VariantTextLemmas.{same_base, five_or_six, up_to_sixteen, over_sixteen}
use Rattle.bitcode_schema.proofs.write.entries.write_variants.Goals as goal

pub returns-then-count-le6-clause-written : goal.returns-then-count-le6-clause-written
returns-then-count-le6-clause-written c =
    subst (λ text. OnOk c.pack_bytes_less_than-then-count-le6.result (c.pack_bytes_less_than-then-count-le6.new.out.items ≡ c.args.out.now.items ++ text))
    (same_base 6 c.args.count c.args.variants.now (five_or_six c.args.count c.if-count-le4.false c.if-count-le6.true)) c.pack_bytes_less_than-then-count-le6.ensures.written

pub returns-then-count-le16-clause-written : goal.returns-then-count-le16-clause-written
returns-then-count-le16-clause-written c =
    subst (λ text. OnOk c.pack_bytes_less_than-then-count-le16.result (c.pack_bytes_less_than-then-count-le16.new.out.items ≡ c.args.out.now.items ++ text))
    (same_base 16 c.args.count c.args.variants.now (up_to_sixteen c.args.count c.if-count-le6.false c.if-count-le16.true)) c.pack_bytes_less_than-then-count-le16.ensures.written

pub returns-else-count-le16-clause-written : goal.returns-else-count-le16-clause-written
returns-else-count-le16-clause-written c =
    subst (λ text. OnOk c.pack_bytes_less_than-else-count-le16.result (c.pack_bytes_less_than-else-count-le16.new.out.items ≡ c.args.out.now.items ++ text))
    (same_base 256 c.args.count c.args.variants.now (over_sixteen c.args.count c.if-count-le16.false c.requires.count.1)) c.pack_bytes_less_than-else-count-le16.ensures.written
