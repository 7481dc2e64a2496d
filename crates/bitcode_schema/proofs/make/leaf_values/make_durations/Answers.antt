-- The seconds are read before the nanoseconds.
use Rattle.std.proofs.Common.{◌≡◌, Some, false, [], ◌∷◌}
use Rattle.std.proofs.lemmas.Result.{IfOk-weaker}
use Rattle.bitcode_shapes.specs.Checked.{nanosecond_shape}
use Rattle.bitcode_shapes.specs.Ints.{int_shape}
use Rattle.bitcode_shapes.specs.Datum.{pair}
use Rattle.bitcode_shapes.specs.Durations.{duration_shape}
use Rattle.bitcode_schema.specs.Forms.{both, fields_content, leaf_content, span_contents}
use Rattle.bitcode_schema.specs.Views.{under, fields_of}
use Rattle.bitcode_schema.specs.Leaves.{int_leaf}
use Rattle.bitcode_schema.specs.declared.schema.IntKind.TheVariants as int
use Rattle.bitcode_schema.proofs.HeldLemmas.{same_length, makes_pairs, makes_through, span_row}
use Rattle.bitcode_schema.proofs.make.leaf_values.make_durations.Goals as goal

pub zipped-requires : goal.zipped-requires
zipped-requires c =
    same_length (leaf_content (Some (int_leaf int.U64))) (leaf_content (Some (int_leaf int.U32))) (int_shape 8 false) nanosecond_shape c.args.k _ _ _ _ _
    c.in_ok-seconds.ensures.made c.in_ok-nanos.ensures.made

pub returns : goal.returns
returns c = record {
  made = IfOk-weaker c.each.result _ _
      (λ values each.
      makes_through (λ value parts. fields_of value ≡ Some (parts.0 ∷ parts.1 ∷ []))
      (λ parts. both pair (leaf_content (Some (int_leaf int.U64)) parts.0) (leaf_content (Some (int_leaf int.U32)) parts.1))
      (λ v. under (fields_of v) (fields_content span_contents)) (λ value parts d is h. span_row value parts.0 parts.1 d is h)
      duration_shape c.args.k _ _ values.items c.in_ok-spans.spans.items each
      (makes_pairs (leaf_content (Some (int_leaf int.U64))) (leaf_content (Some (int_leaf int.U32))) (int_shape 8 false) nanosecond_shape c.args.k _ _ _ _ _
      c.in_ok-seconds.ensures.made c.in_ok-nanos.ensures.made c.in_ok-spans.spans.items c.in_ok-spans.ensures.firsts c.in_ok-spans.ensures.seconds))
      c.each.ensures;
}
