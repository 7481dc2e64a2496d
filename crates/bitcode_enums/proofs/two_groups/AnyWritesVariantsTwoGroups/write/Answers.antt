-- A payload is joined to the columns of a variant of one of the groups.
use Rattle.std.proofs.Common.{arith}
use Rattle.bitcode_coder.specs.Columns.{no_columns}
use Rattle.bitcode_enums.proofs.ColumnLemmas.{at_second, keeps_first, keeps_second}
use Rattle.bitcode_enums.proofs.two_groups.AnyWritesVariantsTwoGroups.write.Goals as goal

pub returns-then-variant-value-clause-others : goal.returns-then-variant-value-clause-others
returns-then-variant-value-clause-others g c =
    keeps_first no_columns g.First.VariantNumber.value g.Second.VariantNumber.value
    (g.F.HoldsVariantColumns.columns.lists c.args.to.now.first) (g.S.HoldsVariantColumns.columns.lists c.args.to.now.second) ((g.met.T.WritesVariants-1.are_columns c.args.to.now.first).0) (g.T.Enum.each.variants.index c.args.self.now) c.requires.0 (omega (arith, c.if-variant-value.true, c.value.ensures, c.variant.ensures)) (g.F.HoldsVariantColumns.columns.lists c.write.new.to) c.write.ensures.others

pub returns-else-variant-value-clause-others : goal.returns-else-variant-value-clause-others
returns-else-variant-value-clause-others g c =
    keeps_second no_columns g.First.VariantNumber.value g.Second.VariantNumber.value
    (g.F.HoldsVariantColumns.columns.lists c.args.to.now.first) (g.S.HoldsVariantColumns.columns.lists c.args.to.now.second) ((g.met.T.WritesVariants-1.are_columns c.args.to.now.first).0) (g.T.Enum.each.variants.index c.args.self.now) (omega (arith, c.if-variant-value.false, c.value.ensures, c.variant.ensures)) (g.S.HoldsVariantColumns.columns.lists c.write-else-variant-value.new.to) c.write-else-variant-value.ensures.others

pub returns-else-variant-value-clause-joined : goal.returns-else-variant-value-clause-joined
returns-else-variant-value-clause-joined g c =
    rw (
      at_second no_columns g.First.VariantNumber.value g.Second.VariantNumber.value
          (g.F.HoldsVariantColumns.columns.lists c.args.to.now.first) (g.S.HoldsVariantColumns.columns.lists c.args.to.now.second) ((g.met.T.WritesVariants-1.are_columns c.args.to.now.first).0) (g.T.Enum.each.variants.index c.args.self.now) (omega (arith, c.if-variant-value.false, c.value.ensures, c.variant.ensures)),
      at_second no_columns g.First.VariantNumber.value g.Second.VariantNumber.value
          (g.F.HoldsVariantColumns.columns.lists c.args.to.now.first) (g.S.HoldsVariantColumns.columns.lists c.write-else-variant-value.new.to) ((g.met.T.WritesVariants-1.are_columns c.args.to.now.first).0) (g.T.Enum.each.variants.index c.args.self.now) (omega (arith, c.if-variant-value.false, c.value.ensures, c.variant.ensures)),
    ) c.write-else-variant-value.ensures.joined

pub returns-else-variant-value-clause-form : goal.returns-else-variant-value-clause-form
returns-else-variant-value-clause-form g c =
    rw (
      at_second no_columns g.First.VariantNumber.value g.Second.VariantNumber.value
          (g.F.HoldsVariantColumns.columns.lists c.args.to.now.first) (g.S.HoldsVariantColumns.columns.lists c.args.to.now.second) ((g.met.T.WritesVariants-1.are_columns c.args.to.now.first).0) (g.T.Enum.each.variants.index c.args.self.now) (omega (arith, c.if-variant-value.false, c.value.ensures, c.variant.ensures)),
      at_second no_columns g.First.VariantNumber.value g.Second.VariantNumber.value
          (g.F.HoldsVariantColumns.columns.lists c.args.to.now.first) (g.S.HoldsVariantColumns.columns.lists c.write-else-variant-value.new.to) ((g.met.T.WritesVariants-1.are_columns c.args.to.now.first).0) (g.T.Enum.each.variants.index c.args.self.now) (omega (arith, c.if-variant-value.false, c.value.ensures, c.variant.ensures)),
    ) c.write-else-variant-value.ensures.form
