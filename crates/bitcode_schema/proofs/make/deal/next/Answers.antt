-- The payload stands first in the list of its variant.
use Rattle.std.proofs.Common.{◌∙◌, [], arith}
use Rattle.std.proofs.lemmas.List.{map-set}
use Rattle.bitcode_schema.proofs.DealLemmas.{mapped_at}
use Rattle.bitcode_schema.proofs.make.deal.next.Goals as goal

pub returns-in-Some : goal.returns-in-Some
returns-in-Some c = record {
  left = c.pop_front.new.self.items;
  first =
      mapped_at (λ p. p.items) c.args.payloads.now.items c.args.variant c.index_mut.result.now []
      (omega (arith, c.if-variant-len.false, c.len.ensures, c.args.payloads.now.ok)) c.index_mut.ensures.value
      ∙ c.in-Some.ensures.items;
  rest = map-set (λ p. p.items) c.args.payloads.now.items c.args.variant c.pop_front.new.self;
}
