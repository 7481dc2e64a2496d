-- The variants of all values are written, and then the payload of each: as if each had been written with its variant.
use Rattle.std.proofs.Common.{◌≡◌, All, map, drop, take, length, refl, subst, ap, ◌+◌, ◌++◌, ◌∙◌, lit<, arith}
use Rattle.std.proofs.lemmas.List.{drop-map, length-map}
use Rattle.std.proofs.lemmas.List.Elements.{All-drop}
use Rattle.std.proofs.lemmas.Result.{err_from_is_err_and}
use Rattle.bitcode_shapes.specs.LawfulLists.{each_listed}
use Rattle.bitcode_coder.proofs.RefusalLemmas.{refusal_weaker}
use Rattle.bitcode_parts.specs.Variants.{written_variants}
use Rattle.bitcode_enums.specs.ByNumber.{all_columns}
use Rattle.bitcode_enums.specs.ByNumberLaws.{each_has_payloads, whole_form}
use Rattle.bitcode_enums.specs.Writing.{JoinsVariant, OverflowsWithVariant}
use Rattle.bitcode_enums.specs.WritingLaws.{enum_of_shape}
use Rattle.bitcode_enums.proofs.WritingLemmas.{written_none, written_more, overflows_there, written_all}
use Rattle.bitcode_enums.proofs.encoder.EnumEncoderEncodeMany.encode_part_of_each.Goals as goal

pub encode_vectored-requires : goal.encode_vectored-requires
encode_vectored-requires g c =
    let index = g.T.Enum.each.variants.index in
    let ts = map (g.W.Part.of c.args.which.now) c.args.items.now in
    let written = take (length c.args.items.now) c.gather_variants.new.variants in
    let size : length written ≡ length c.args.items.now =
    ap length c.gather_variants.ensures.gathered ∙ length-map ts index ∙ length-map c.args.items.now (g.W.Part.of c.args.which.now) in
    (lit< tt, ((omega (arith, size), omega (arith, size)), (omega (arith, size), c.gather_variants.ensures.known)))

pub loop-item-init : goal.loop-item-init
loop-item-init g c = record {
  front = written_none g.T.Shaped.data.lists g.T.Enum.each.variants.index
      g.T.Enum.each.variants.lists g.T.Shaped.data.shape g.T.Enum.each.variants.shapes g.met.T.EnumOf.counted.1
      g.met.T.EnumOf.lists_variants g.row.N g.met.T.EnumOf.counted.0 (g.W.Part.of c.args.which.now) c.args.items.now
      (written_variants c.args.self.now.variants) (all_columns (g.C.HoldsVariantColumns.columns.lists c.args.self.now.payloads.columns))
      (enum_of_shape g.T.Enum.each.variants.shapes g.T.Shaped.data.shape g.row.N (all_columns (g.C.HoldsVariantColumns.columns.lists c.args.self.now.payloads.columns)) g.met.T.EnumOf.counted.0 g.met.T.EnumOf.counted.1
      (each_has_payloads g.T.Enum.each.variants.shapes (g.C.HoldsVariantColumns.columns.lists c.args.self.now.payloads.columns) (whole_form g.T.Enum.each.variants.shapes g.row.N (g.C.HoldsVariantColumns.columns.lists c.args.self.now.payloads.columns) g.met.T.EnumOf.counted.0 (g.met.T.WritesVariants.are_columns c.args.self.now.payloads.columns)) 0));
  form = refl;
  variants = refl;
}

pub returns-in_err-encode_payload-clause-refused : goal.returns-in_err-encode_payload-clause-refused
returns-in_err-encode_payload-clause-refused g c =
    let refused = err_from_is_err_and c.from_residual.result c.from_residual.ensures.1 in
    let behind = drop (c.loop-item.item-index + 1) c.args.items.now in
    let rest = map (g.W.Part.of c.args.which.now) behind in
    let is_value = g.T.Shaped.data.is_value in
    let others =
    each_listed g.T.Shaped.data.shape is_value g.T.Shaped.data.lists g.T.Shaped.data.same g.T.Shaped.data.in_order
    g.T.Shaped.data.lawful rest
    (subst (All is_value) (drop-map (g.W.Part.of c.args.which.now) (c.loop-item.item-index + 1) c.args.items.now) (All-drop is_value (c.loop-item.item-index + 1) (map (g.W.Part.of c.args.which.now) c.args.items.now) c.told_parts.ensures)) in
    rw (refused.1, refused.2) (
    refusal_weaker _ (λ one.
    overflows_there g.T.Shaped.data.lists g.T.Enum.each.variants.index
    g.T.Enum.each.variants.lists g.T.Shaped.data.shape g.T.Enum.each.variants.shapes g.met.T.EnumOf.counted.1
    g.met.T.EnumOf.lists_variants g.row.N g.met.T.EnumOf.counted.0 (g.W.Part.of c.args.which.now) c.args.items.now
    (written_variants c.args.self.now.variants) (all_columns (g.C.HoldsVariantColumns.columns.lists c.args.self.now.payloads.columns))
    (enum_of_shape g.T.Enum.each.variants.shapes g.T.Shaped.data.shape g.row.N (all_columns (g.C.HoldsVariantColumns.columns.lists c.args.self.now.payloads.columns)) g.met.T.EnumOf.counted.0 g.met.T.EnumOf.counted.1
    (each_has_payloads g.T.Enum.each.variants.shapes (g.C.HoldsVariantColumns.columns.lists c.args.self.now.payloads.columns) (whole_form g.T.Enum.each.variants.shapes g.row.N (g.C.HoldsVariantColumns.columns.lists c.args.self.now.payloads.columns) g.met.T.EnumOf.counted.0 (g.met.T.WritesVariants.are_columns c.args.self.now.payloads.columns)) 0))
    c.loop-item.item-index c.item-item.result c.loop-item-test.true c.item-item.is (all_columns (g.C.HoldsVariantColumns.columns.lists c.loop-item.self.payloads.columns)) c.loop-item.invariant.front
    (subst (λ t. OverflowsWithVariant g.T.Enum.each.variants.index g.T.Enum.each.variants.lists g.T.Enum.each.variants.shapes t (all_columns (g.C.HoldsVariantColumns.columns.lists c.loop-item.self.payloads.columns))) c.part.ensures one)
    others.0 others.1) c.in_err-encode_payload.ensures.refused
    )

pub loop-item-preserved : goal.loop-item-preserved
loop-item-preserved g c = record {
  front = written_more g.T.Shaped.data.lists g.T.Enum.each.variants.index
      g.T.Enum.each.variants.lists g.T.Shaped.data.shape g.T.Enum.each.variants.shapes g.met.T.EnumOf.counted.1
      g.met.T.EnumOf.lists_variants g.row.N g.met.T.EnumOf.counted.0 (g.W.Part.of c.args.which.now) c.args.items.now
      (written_variants c.args.self.now.variants) (all_columns (g.C.HoldsVariantColumns.columns.lists c.args.self.now.payloads.columns))
      (enum_of_shape g.T.Enum.each.variants.shapes g.T.Shaped.data.shape g.row.N (all_columns (g.C.HoldsVariantColumns.columns.lists c.args.self.now.payloads.columns)) g.met.T.EnumOf.counted.0 g.met.T.EnumOf.counted.1
      (each_has_payloads g.T.Enum.each.variants.shapes (g.C.HoldsVariantColumns.columns.lists c.args.self.now.payloads.columns) (whole_form g.T.Enum.each.variants.shapes g.row.N (g.C.HoldsVariantColumns.columns.lists c.args.self.now.payloads.columns) g.met.T.EnumOf.counted.0 (g.met.T.WritesVariants.are_columns c.args.self.now.payloads.columns)) 0))
      c.loop-item.item-index c.item-item.result c.loop-item-test.true c.item-item.is (all_columns (g.C.HoldsVariantColumns.columns.lists c.loop-item.self.payloads.columns)) c.loop-item.invariant.front _
      (subst (λ t. JoinsVariant g.T.Enum.each.variants.index g.T.Enum.each.variants.lists g.T.Enum.each.variants.shapes t (all_columns (g.C.HoldsVariantColumns.columns.lists c.loop-item.self.payloads.columns)) (all_columns (g.C.HoldsVariantColumns.columns.lists c.encode_payload.new.self.columns))) c.part.ensures c.in_ok-encode_payload.ensures.joined);
  form = c.encode_payload.ensures.form ∙ c.loop-item.invariant.form;
  variants = c.loop-item.invariant.variants;
}

pub returns-clause-joined : goal.returns-clause-joined
returns-clause-joined g c =
    written_all g.T.Shaped.data.lists g.T.Enum.each.variants.index
    g.T.Enum.each.variants.lists g.T.Shaped.data.shape g.T.Enum.each.variants.shapes g.met.T.EnumOf.counted.1
    g.met.T.EnumOf.lists_variants g.row.N g.met.T.EnumOf.counted.0 (g.W.Part.of c.args.which.now) c.args.items.now
    (written_variants c.args.self.now.variants) (all_columns (g.C.HoldsVariantColumns.columns.lists c.args.self.now.payloads.columns))
    (enum_of_shape g.T.Enum.each.variants.shapes g.T.Shaped.data.shape g.row.N (all_columns (g.C.HoldsVariantColumns.columns.lists c.args.self.now.payloads.columns)) g.met.T.EnumOf.counted.0 g.met.T.EnumOf.counted.1
    (each_has_payloads g.T.Enum.each.variants.shapes (g.C.HoldsVariantColumns.columns.lists c.args.self.now.payloads.columns) (whole_form g.T.Enum.each.variants.shapes g.row.N (g.C.HoldsVariantColumns.columns.lists c.args.self.now.payloads.columns) g.met.T.EnumOf.counted.0 (g.met.T.WritesVariants.are_columns c.args.self.now.payloads.columns)) 0))
    c.loop-item.item-index (all_columns (g.C.HoldsVariantColumns.columns.lists c.loop-item.self.payloads.columns)) c.loop-item.invariant.front (omega (arith, c.loop-item-test.false)) _
    (ap written_variants c.loop-item.invariant.variants ∙ c.encode_vectored.ensures.written ∙ ap (λ more. written_variants c.args.self.now.variants ++ more) c.gather_variants.ensures.gathered)
