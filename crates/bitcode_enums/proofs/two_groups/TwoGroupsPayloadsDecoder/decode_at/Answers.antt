-- A payload is taken from those of a variant of one of the groups.
use Rattle.std.proofs.Common.{[], arith}
use Rattle.bitcode_enums.proofs.ColumnLemmas.{at_second, keeps_first, keeps_second}
use Rattle.bitcode_enums.proofs.two_groups.TwoGroupsPayloadsDecoder.decode_at.Goals as goal

pub returns-then-number-value-clause-others : goal.returns-then-number-value-clause-others
returns-then-number-value-clause-others g c ok =
    keeps_first [] g.First.VariantNumber.value g.Second.VariantNumber.value
    (g.F.HoldsPayloads.held.lists c.args.self.now.first) (g.S.HoldsPayloads.held.lists c.args.self.now.second) (g.met.F.PayloadsOf.counted.lists c.args.self.now.first) c.args.number c.requires.known.0 (omega (arith, c.if-number-value.true, c.value.ensures)) (g.F.HoldsPayloads.held.lists c.decode_at.new.self) (c.decode_at.ensures.others ok)

pub returns-else-number-value-clause-others : goal.returns-else-number-value-clause-others
returns-else-number-value-clause-others g c ok =
    keeps_second [] g.First.VariantNumber.value g.Second.VariantNumber.value
    (g.F.HoldsPayloads.held.lists c.args.self.now.first) (g.S.HoldsPayloads.held.lists c.args.self.now.second) (g.met.F.PayloadsOf.counted.lists c.args.self.now.first) c.args.number (omega (arith, c.if-number-value.false, c.value.ensures)) (g.S.HoldsPayloads.held.lists c.decode_at-else-number-value.new.self) (c.decode_at-else-number-value.ensures.others ok)

pub returns-else-number-value-clause-made : goal.returns-else-number-value-clause-made
returns-else-number-value-clause-made g c =
    rw (
      at_second [] g.First.VariantNumber.value g.Second.VariantNumber.value
          (g.F.HoldsPayloads.held.lists c.args.self.now.first) (g.S.HoldsPayloads.held.lists c.args.self.now.second) (g.met.F.PayloadsOf.counted.lists c.args.self.now.first) c.args.number (omega (arith, c.if-number-value.false, c.value.ensures)),
      at_second [] g.First.VariantNumber.value g.Second.VariantNumber.value
          (g.F.HoldsPayloads.held.lists c.args.self.now.first) (g.S.HoldsPayloads.held.lists c.decode_at-else-number-value.new.self) (g.met.F.PayloadsOf.counted.lists c.args.self.now.first) c.args.number (omega (arith, c.if-number-value.false, c.value.ensures)),
    ) c.decode_at-else-number-value.ensures.made
