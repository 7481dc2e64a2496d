-- The variants stand already; those of the items up to the one at hand have their payloads.
use Rattle.std.proofs.Common.{◌≡◌, ◌++◌, map, drop, take}
use Rattle.bitcode_coder.specs.Columns.{emptied}
use Rattle.bitcode_coder.proofs.EachLemmas.{JoinsFront}
use Rattle.bitcode_parts.specs.Variants.{written_variants}
use Rattle.bitcode_enums.specs.ByNumber.{all_columns}
use Rattle.bitcode_enums.specs.Writing.{variant_columns}
use Rattle.bitcode_enums.proofs.encoder.EnumEncoderEncodeMany.encode_part_of_each.Given as goal

abbrev pub invariant-loop-item : goal.invariant-loop-item
invariant-loop-item g l = record {
  front : JoinsFront g.T.Shaped.data.lists g.T.Shaped.data.shape (map (g.W.Part.of l.which) l.items) (map (g.W.Part.of l.which) (drop l.item-index l.items))
      (variant_columns g.row.N (written_variants l.fn.self.variants) (all_columns (g.C.HoldsVariantColumns.columns.lists l.fn.self.payloads.columns)))
      (variant_columns g.row.N (written_variants l.fn.self.variants
      ++ map g.T.Enum.each.variants.index (map (g.W.Part.of l.which) (take l.item-index l.items)))
      (all_columns (g.C.HoldsVariantColumns.columns.lists l.self.payloads.columns)));
  form : emptied (all_columns (g.C.HoldsVariantColumns.columns.lists l.self.payloads.columns)) ≡ emptied (all_columns (g.C.HoldsVariantColumns.columns.lists l.fn.self.payloads.columns));
  variants : l.self.variants ≡ l.initial.self.variants;
}
