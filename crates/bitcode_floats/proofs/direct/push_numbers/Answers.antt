-- The bytes of the bits of one float more.
use Rattle.std.proofs.Common.{slice_index_or, refl, ◌∙◌, arith}
use Rattle.std.specs.Prelude.{to_bits}
use Rattle.std.specs.Float.{Float, binary64, nan}
use Rattle.bitcode_int_columns.proofs.NarrowLemmas.{raw_none, raw_more}
use Rattle.bitcode_floats.proofs.direct.push_numbers.Goals as goal

pub loop-float-init : goal.loop-float-init
loop-float-init c = record { written = raw_none 8 c.args.out.items; len = omega arith; capacity = refl }

pub loop-float-preserved : goal.loop-float-preserved
loop-float-preserved c =
    let was = c.loop-float.invariant in
    let x = slice_index_or c.args.floats.now c.loop-float.float-index nan in
    record {
      written =
          raw_more 8 (λ (x : Float). to_bits binary64 x) c.args.floats.now c.loop-float.float-index nan x
          c.args.out.items c.loop-float.out.items c.push.new.out.items (to_bits binary64 x) (omega (arith, c.told-floats, c.loop-float-test.true)) refl was.written
          refl c.push.ensures.written;
      len = omega (arith, c.push.ensures.len, was.len);
      capacity = c.push.ensures.capacity ∙ was.capacity;
    }
