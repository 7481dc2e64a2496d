-- The payloads of a variant of one of the groups are read.
use Rattle.std.proofs.Common.{[], arith}
use Rattle.bitcode_shapes.specs.Shape.{never_shape}
use Rattle.bitcode_enums.proofs.ColumnLemmas.{at_first, at_second, keeps_first, keeps_second}
use Rattle.bitcode_enums.proofs.two_groups.TwoGroupsPayloadsView.read_at.Goals as goal

pub returns-then-number-value-clause-others : goal.returns-then-number-value-clause-others
returns-then-number-value-clause-others g c =
    keeps_first [] g.First.VariantNumber.value g.Second.VariantNumber.value
    (g.F.HoldsPayloads.held.lists c.args.self.now.first) (g.S.HoldsPayloads.held.lists c.args.self.now.second) (g.met.F.PayloadsOf.counted.lists c.args.self.now.first) c.args.number c.requires.0 (omega (arith, c.if-number-value.true, c.value.ensures)) (g.F.HoldsPayloads.held.lists c.read_at.new.self) c.read_at.ensures.others

pub returns-else-number-value-clause-others : goal.returns-else-number-value-clause-others
returns-else-number-value-clause-others g c =
    keeps_second [] g.First.VariantNumber.value g.Second.VariantNumber.value
    (g.F.HoldsPayloads.held.lists c.args.self.now.first) (g.S.HoldsPayloads.held.lists c.args.self.now.second) (g.met.F.PayloadsOf.counted.lists c.args.self.now.first) c.args.number (omega (arith, c.if-number-value.false, c.value.ensures)) (g.S.HoldsPayloads.held.lists c.read_at-else-number-value.new.self) c.read_at-else-number-value.ensures.others

pub returns-then-number-value-clause-read : goal.returns-then-number-value-clause-read
returns-then-number-value-clause-read g c =
    rw (
      at_first never_shape g.First.VariantNumber.value g.Second.VariantNumber.value g.F.HoldsPayloads.held.shapes g.S.HoldsPayloads.held.shapes g.met.F.PayloadsOf.counted.shapes c.args.number c.requires.0 (omega (arith, c.if-number-value.true, c.value.ensures)),
      at_first [] g.First.VariantNumber.value g.Second.VariantNumber.value (g.F.HoldsPayloads.held.lists c.read_at.new.self) (g.S.HoldsPayloads.held.lists c.args.self.now.second) (g.met.F.PayloadsOf.counted.lists c.read_at.new.self) c.args.number c.requires.0 (omega (arith, c.if-number-value.true, c.value.ensures)),
    ) c.read_at.ensures.read

pub returns-then-number-value-clause-counted : goal.returns-then-number-value-clause-counted
returns-then-number-value-clause-counted g c =
    rw (
      at_first never_shape g.First.VariantNumber.value g.Second.VariantNumber.value g.F.HoldsPayloads.held.shapes g.S.HoldsPayloads.held.shapes g.met.F.PayloadsOf.counted.shapes c.args.number c.requires.0 (omega (arith, c.if-number-value.true, c.value.ensures)),
      at_first [] g.First.VariantNumber.value g.Second.VariantNumber.value (g.F.HoldsPayloads.held.lists c.read_at.new.self) (g.S.HoldsPayloads.held.lists c.args.self.now.second) (g.met.F.PayloadsOf.counted.lists c.read_at.new.self) c.args.number c.requires.0 (omega (arith, c.if-number-value.true, c.value.ensures)),
    ) c.read_at.ensures.counted

pub returns-then-number-value-clause-judged : goal.returns-then-number-value-clause-judged
returns-then-number-value-clause-judged g c = λ strict.
    rw (
      at_first never_shape g.First.VariantNumber.value g.Second.VariantNumber.value g.F.HoldsPayloads.held.shapes g.S.HoldsPayloads.held.shapes g.met.F.PayloadsOf.counted.shapes c.args.number c.requires.0 (omega (arith, c.if-number-value.true, c.value.ensures)),
      at_first [] g.First.VariantNumber.value g.Second.VariantNumber.value (g.F.HoldsPayloads.held.lists c.read_at.new.self) (g.S.HoldsPayloads.held.lists c.args.self.now.second) (g.met.F.PayloadsOf.counted.lists c.read_at.new.self) c.args.number c.requires.0 (omega (arith, c.if-number-value.true, c.value.ensures)),
    ) (c.read_at.ensures.judged strict)

pub returns-then-number-value-clause-refused : goal.returns-then-number-value-clause-refused
returns-then-number-value-clause-refused g c =
    rw (at_first never_shape g.First.VariantNumber.value g.Second.VariantNumber.value g.F.HoldsPayloads.held.shapes g.S.HoldsPayloads.held.shapes g.met.F.PayloadsOf.counted.shapes c.args.number c.requires.0 (omega (arith, c.if-number-value.true, c.value.ensures))) c.read_at.ensures.refused

pub returns-then-number-value-clause-exact : goal.returns-then-number-value-clause-exact
returns-then-number-value-clause-exact g c =
    rw (at_first never_shape g.First.VariantNumber.value g.Second.VariantNumber.value g.F.HoldsPayloads.held.shapes g.S.HoldsPayloads.held.shapes g.met.F.PayloadsOf.counted.shapes c.args.number c.requires.0 (omega (arith, c.if-number-value.true, c.value.ensures))) c.read_at.ensures.exact

pub returns-else-number-value-clause-read : goal.returns-else-number-value-clause-read
returns-else-number-value-clause-read g c =
    rw (
      at_second never_shape g.First.VariantNumber.value g.Second.VariantNumber.value g.F.HoldsPayloads.held.shapes g.S.HoldsPayloads.held.shapes g.met.F.PayloadsOf.counted.shapes c.args.number (omega (arith, c.if-number-value.false, c.value.ensures)),
      at_second [] g.First.VariantNumber.value g.Second.VariantNumber.value (g.F.HoldsPayloads.held.lists c.args.self.now.first) (g.S.HoldsPayloads.held.lists c.read_at-else-number-value.new.self) (g.met.F.PayloadsOf.counted.lists c.args.self.now.first) c.args.number (omega (arith, c.if-number-value.false, c.value.ensures)),
    ) c.read_at-else-number-value.ensures.read

pub returns-else-number-value-clause-counted : goal.returns-else-number-value-clause-counted
returns-else-number-value-clause-counted g c =
    rw (
      at_second never_shape g.First.VariantNumber.value g.Second.VariantNumber.value g.F.HoldsPayloads.held.shapes g.S.HoldsPayloads.held.shapes g.met.F.PayloadsOf.counted.shapes c.args.number (omega (arith, c.if-number-value.false, c.value.ensures)),
      at_second [] g.First.VariantNumber.value g.Second.VariantNumber.value (g.F.HoldsPayloads.held.lists c.args.self.now.first) (g.S.HoldsPayloads.held.lists c.read_at-else-number-value.new.self) (g.met.F.PayloadsOf.counted.lists c.args.self.now.first) c.args.number (omega (arith, c.if-number-value.false, c.value.ensures)),
    ) c.read_at-else-number-value.ensures.counted

pub returns-else-number-value-clause-judged : goal.returns-else-number-value-clause-judged
returns-else-number-value-clause-judged g c = λ strict.
    rw (
      at_second never_shape g.First.VariantNumber.value g.Second.VariantNumber.value g.F.HoldsPayloads.held.shapes g.S.HoldsPayloads.held.shapes g.met.F.PayloadsOf.counted.shapes c.args.number (omega (arith, c.if-number-value.false, c.value.ensures)),
      at_second [] g.First.VariantNumber.value g.Second.VariantNumber.value (g.F.HoldsPayloads.held.lists c.args.self.now.first) (g.S.HoldsPayloads.held.lists c.read_at-else-number-value.new.self) (g.met.F.PayloadsOf.counted.lists c.args.self.now.first) c.args.number (omega (arith, c.if-number-value.false, c.value.ensures)),
    ) (c.read_at-else-number-value.ensures.judged strict)

pub returns-else-number-value-clause-refused : goal.returns-else-number-value-clause-refused
returns-else-number-value-clause-refused g c =
    rw (at_second never_shape g.First.VariantNumber.value g.Second.VariantNumber.value g.F.HoldsPayloads.held.shapes g.S.HoldsPayloads.held.shapes g.met.F.PayloadsOf.counted.shapes c.args.number (omega (arith, c.if-number-value.false, c.value.ensures))) c.read_at-else-number-value.ensures.refused

pub returns-else-number-value-clause-exact : goal.returns-else-number-value-clause-exact
returns-else-number-value-clause-exact g c =
    rw (at_second never_shape g.First.VariantNumber.value g.Second.VariantNumber.value g.F.HoldsPayloads.held.shapes g.S.HoldsPayloads.held.shapes g.met.F.PayloadsOf.counted.shapes c.args.number (omega (arith, c.if-number-value.false, c.value.ensures))) c.read_at-else-number-value.ensures.exact
