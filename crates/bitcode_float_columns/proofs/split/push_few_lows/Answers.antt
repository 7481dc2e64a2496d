-- The three low bytes of one float more.
use Rattle.std.proofs.Common.{◌+◌, ◌++◌, slice_index_or, refl, ap, ◌∙◌, arith}
use Rattle.std.specs.Prelude.{to_bits}
use Rattle.std.specs.Float.{Float, binary32, nan}
use Rattle.bitcode_int_columns.proofs.NarrowLemmas.{raw_none, raw_more}
use Rattle.bitcode_float_columns.specs.FloatColumn.{low_of}
use Rattle.bitcode_float_columns.proofs.SplitLemmas.{low_bytes}
use Rattle.bitcode_float_columns.proofs.split.push_few_lows.Goals as goal

pub loop-float-init : goal.loop-float-init
loop-float-init c = record { written = raw_none 3 c.args.out.items; len = omega arith; capacity = refl }

pub loop-float-preserved : goal.loop-float-preserved
loop-float-preserved c =
    let was = c.loop-float.invariant in
    let x = slice_index_or c.args.floats.now c.loop-float.float-index nan in
    record {
      written =
          raw_more 3 (λ (x : Float). low_of (to_bits binary32 x)) c.args.floats.now c.loop-float.float-index nan x
          c.args.out.items c.loop-float.out.items c.push_bytes.new.out.items (low_of c.f32_to_bits_with_nan-bits.result) c.loop-float-test.true refl was.written
          (ap low_of c.f32_to_bits_with_nan-bits.ensures)
          (c.push_bytes.ensures.written ∙ ap (λ b. c.loop-float.out.items ++ b) (low_bytes c.f32_to_bits_with_nan-bits.result));
      len = omega (arith, c.push_bytes.ensures.len, was.len);
      capacity = c.push_bytes.ensures.capacity ∙ was.capacity;
    }
