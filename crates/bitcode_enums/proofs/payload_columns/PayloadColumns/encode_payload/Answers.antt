-- A payload is joined to the columns of its variant, among those of all variants.
use Rattle.std.proofs.Common.{◌-◌, arith}
use Rattle.std.proofs.lemmas.Result.{on_ok_weaker}
use Rattle.bitcode_memory.specs.declared.error.Error.{Error}
use Rattle.bitcode_coder.proofs.RefusalLemmas.{refused_weaker}
use Rattle.bitcode_enums.specs.ByNumberLaws.{whole_form}
use Rattle.bitcode_enums.proofs.ColumnLemmas.{joins_numbered, overflows_numbered, form_kept, form_all}
use Rattle.bitcode_enums.proofs.payload_columns.PayloadColumns.encode_payload.Goals as goal

pub write-requires : goal.write-requires
write-requires g c =
    let counted = g.met.T.EnumOf.counted.0 in
    let below = g.T.Enum.each.laws.below c.args.t.now in
    (omega arith, omega (arith, counted, below))

pub returns-clause-joined : goal.returns-clause-joined
returns-clause-joined g c =
    let lists = g.C.HoldsVariantColumns.columns.lists c.args.self.now.columns in
    let are = g.met.T.WritesVariants.are_columns c.args.self.now.columns in
    let all = are.0 in
    let counted = g.met.T.EnumOf.counted.0 in
    let below = g.T.Enum.each.laws.below c.args.t.now in
    on_ok_weaker c.write.result
    (λ joins. joins_numbered g.T.Enum.each.variants.index g.T.Enum.each.variants.lists g.T.Enum.each.variants.shapes c.args.t.now (g.T.Enum.each.variants.index c.args.t.now - 0) (omega arith) lists
    (whole_form g.T.Enum.each.variants.shapes g.row.N lists counted are) (omega (arith, all, counted, below)) (g.C.HoldsVariantColumns.columns.lists c.write.new.to) c.write.ensures.others
    (g.T.Enum.each.laws.joined c.args.t.now _ _ joins))
    c.write.ensures.joined

pub returns-clause-form : goal.returns-clause-form
returns-clause-form g c =
    form_all (g.C.HoldsVariantColumns.columns.lists c.args.self.now.columns) (g.C.HoldsVariantColumns.columns.lists c.write.new.to)
    (form_kept (g.T.Enum.each.variants.index c.args.t.now - 0) (g.C.HoldsVariantColumns.columns.lists c.args.self.now.columns) (g.C.HoldsVariantColumns.columns.lists c.write.new.to) c.write.ensures.others c.write.ensures.form)

pub returns-clause-refused : goal.returns-clause-refused
returns-clause-refused g c =
    let lists = g.C.HoldsVariantColumns.columns.lists c.args.self.now.columns in
    let are = g.met.T.WritesVariants.are_columns c.args.self.now.columns in
    let all = are.0 in
    let counted = g.met.T.EnumOf.counted.0 in
    let below = g.T.Enum.each.laws.below c.args.t.now in
    refused_weaker (λ (e : Error). e.reason) c.write.result
    (λ over. overflows_numbered g.T.Enum.each.variants.index g.T.Enum.each.variants.lists g.T.Enum.each.variants.shapes c.args.t.now (g.T.Enum.each.variants.index c.args.t.now - 0) (omega arith) lists
    (whole_form g.T.Enum.each.variants.shapes g.row.N lists counted are) (omega (arith, all, counted, below)) (g.T.Enum.each.laws.overflowed c.args.t.now _ over))
    c.write.ensures.refused
