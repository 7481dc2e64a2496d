-- The variants are read, then the payloads of the first, and then those of the second.
use Rattle.std.proofs.Common.{refl, true, false}
use Rattle.bitcode_shapes.specs.Ints.{int_shape}
use Rattle.bitcode_parts.proofs.ColumnFreeLemmas.{counts_two}
use Rattle.bitcode_parts.proofs.StrictLemmas.{judges_two}
use Rattle.bitcode_parts.proofs.TwoVariantLemmas.{variants_stopped, variants_exact, first_stopped, first_exact, second_stopped, second_exact, first_rest, choice_read, choice_rest}
use Rattle.bitcode_test_support.proofs.by_hand.two.TwoDecoderView.read.Goals as goal

pub returns-in_err-variants-clause-refused : goal.returns-in_err-variants-clause-refused
returns-in_err-variants-clause-refused c = variants_stopped _ _ _ _ _ _ c.from_residual.ensures.1 c.in_err-variants.ensures.refused

pub returns-in_err-variants-clause-exact : goal.returns-in_err-variants-clause-exact
returns-in_err-variants-clause-exact c = variants_exact (int_shape 1 false) (int_shape 1 true) _ _ _ _ c.from_residual.ensures.1 c.in_err-variants.ensures.refused

pub returns-in_err-a-clause-refused : goal.returns-in_err-a-clause-refused
returns-in_err-a-clause-refused c =
    first_stopped _ _ c.in_ok-variants.ensures.read (c.in_ok-variants.ensures.counts refl) c.length.ensures _ _
    c.from_residual-in_err-a.ensures.1 c.in_err-a.ensures.refused

pub returns-in_err-a-clause-exact : goal.returns-in_err-a-clause-exact
returns-in_err-a-clause-exact c =
    first_exact (int_shape 1 false) (int_shape 1 true) c.in_ok-variants.ensures.read (c.in_ok-variants.ensures.counts refl) c.length.ensures _ _
    c.from_residual-in_err-a.ensures.1 c.in_err-a.ensures.exact

pub returns-in_err-a-clause-rest : goal.returns-in_err-a-clause-rest
returns-in_err-a-clause-rest c = first_rest _ _ c.in_ok-variants.ensures.read c.in_err-a.ensures.rest

pub returns-in_err-b-clause-refused : goal.returns-in_err-b-clause-refused
returns-in_err-b-clause-refused c =
    second_stopped _ _ c.in_ok-variants.ensures.read (c.in_ok-variants.ensures.counts refl) c.length.ensures
    c.in_ok-a.ensures.read c.length-2.ensures _ _ c.from_residual-in_err-b.ensures.1 c.in_err-b.ensures.refused

pub returns-in_err-b-clause-exact : goal.returns-in_err-b-clause-exact
returns-in_err-b-clause-exact c =
    second_exact (int_shape 1 false) (int_shape 1 true) c.in_ok-variants.ensures.read (c.in_ok-variants.ensures.counts refl) c.length.ensures
    c.in_ok-a.ensures.read c.length-2.ensures _ _ c.from_residual-in_err-b.ensures.1 c.in_err-b.ensures.exact

pub returns-in_err-b-clause-rest : goal.returns-in_err-b-clause-rest
returns-in_err-b-clause-rest c = choice_rest _ _ c.in_ok-variants.ensures.read c.in_ok-a.ensures.read c.in_err-b.ensures.rest

pub returns-clause-read : goal.returns-clause-read
returns-clause-read c =
    choice_read _ _ c.in_ok-variants.ensures.read (c.in_ok-variants.ensures.counts refl) c.length.ensures
    c.in_ok-a.ensures.read c.length-2.ensures _ _ c.in_ok-b.ensures.read

pub returns-clause-counted : goal.returns-clause-counted
returns-clause-counted c =
    counts_two (int_shape 1 false) (int_shape 1 true) c.in_ok-variants.ensures.read (c.in_ok-variants.ensures.counts refl) c.length.ensures c.in_ok-a.ensures.read c.length-2.ensures c.in_ok-b.ensures.read
    0 0 c.in_ok-a.ensures.counted c.in_ok-b.ensures.counted

pub returns-clause-judged : goal.returns-clause-judged
returns-clause-judged c strict =
    rw (c.both.ensures, c.both-first.ensures)
    (judges_two _ _ c.in_ok-variants.ensures.read (c.in_ok-variants.ensures.counts refl) c.length.ensures c.in_ok-a.ensures.read c.length-2.ensures c.in_ok-b.ensures.read
    _ _ _ (c.in_ok-variants.ensures.judged strict) (c.in_ok-a.ensures.judged strict) (c.in_ok-b.ensures.judged strict))
