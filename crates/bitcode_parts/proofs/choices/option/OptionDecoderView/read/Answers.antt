-- The variants are read, then the places without a value, and then the values from what is left.
use Rattle.std.proofs.Common.{refl}
use Rattle.bitcode_shapes.specs.Shape.{unit_shape}
use Rattle.bitcode_parts.proofs.TwoVariantLemmas.{variants_stopped, variants_exact, first_stopped, first_exact, second_stopped, second_exact, first_rest, choice_read, choice_rest}
use Rattle.bitcode_parts.proofs.StrictLemmas.{judges_two}
use Rattle.bitcode_parts.proofs.ColumnFreeLemmas.{counts_second}
use Rattle.bitcode_parts.proofs.choices.option.OptionDecoderView.read.Goals as goal

pub returns-in_err-variants-clause-refused : goal.returns-in_err-variants-clause-refused
returns-in_err-variants-clause-refused g c = variants_stopped unit_shape g.D.HoldsData.shape _ _ _ _ c.from_residual.ensures.1 c.in_err-variants.ensures.refused

pub returns-in_err-variants-clause-exact : goal.returns-in_err-variants-clause-exact
returns-in_err-variants-clause-exact g c = variants_exact unit_shape g.D.HoldsData.shape _ _ _ _ c.from_residual.ensures.1 c.in_err-variants.ensures.refused

pub returns-in_err-none-clause-refused : goal.returns-in_err-none-clause-refused
returns-in_err-none-clause-refused g c =
    first_stopped unit_shape g.D.HoldsData.shape c.in_ok-variants.ensures.read (c.in_ok-variants.ensures.counts refl) c.length.ensures _ _
    c.from_residual-in_err-none.ensures.1 c.in_err-none.ensures.refused

pub returns-in_err-none-clause-exact : goal.returns-in_err-none-clause-exact
returns-in_err-none-clause-exact g c =
    first_exact unit_shape g.D.HoldsData.shape c.in_ok-variants.ensures.read (c.in_ok-variants.ensures.counts refl) c.length.ensures _ _
    c.from_residual-in_err-none.ensures.1 c.in_err-none.ensures.exact

pub returns-in_err-none-clause-rest : goal.returns-in_err-none-clause-rest
returns-in_err-none-clause-rest g c = first_rest _ _ c.in_ok-variants.ensures.read c.in_err-none.ensures.rest

pub returns-in_err-some-clause-refused : goal.returns-in_err-some-clause-refused
returns-in_err-some-clause-refused g c =
    second_stopped unit_shape g.D.HoldsData.shape c.in_ok-variants.ensures.read (c.in_ok-variants.ensures.counts refl) c.length.ensures
    c.in_ok-none.ensures.read c.length-2.ensures _ _ c.from_residual-in_err-some.ensures.1 c.in_err-some.ensures.refused

pub returns-in_err-some-clause-exact : goal.returns-in_err-some-clause-exact
returns-in_err-some-clause-exact g c =
    second_exact unit_shape g.D.HoldsData.shape c.in_ok-variants.ensures.read (c.in_ok-variants.ensures.counts refl) c.length.ensures
    c.in_ok-none.ensures.read c.length-2.ensures _ _ c.from_residual-in_err-some.ensures.1 c.in_err-some.ensures.exact

pub returns-in_err-some-clause-rest : goal.returns-in_err-some-clause-rest
returns-in_err-some-clause-rest g c =
    choice_rest _ c.from_residual-in_err-some.result c.in_ok-variants.ensures.read c.in_ok-none.ensures.read
    c.in_err-some.ensures.rest

pub returns-clause-read : goal.returns-clause-read
returns-clause-read g c =
    choice_read unit_shape g.D.HoldsData.shape c.in_ok-variants.ensures.read (c.in_ok-variants.ensures.counts refl) c.length.ensures
    c.in_ok-none.ensures.read c.length-2.ensures _ _ c.in_ok-some.ensures.read

pub returns-clause-counted : goal.returns-clause-counted
returns-clause-counted g c =
    counts_second unit_shape g.D.HoldsData.shape c.in_ok-variants.ensures.read (c.in_ok-variants.ensures.counts refl) c.length.ensures
    c.in_ok-none.ensures.read c.length-2.ensures c.in_ok-some.ensures.read _ refl c.in_ok-some.ensures.counted

pub returns-clause-judged : goal.returns-clause-judged
returns-clause-judged g c strict =
    rw (c.both-2.ensures, c.both.ensures)
    (judges_two unit_shape g.D.HoldsData.shape c.in_ok-variants.ensures.read (c.in_ok-variants.ensures.counts refl) c.length.ensures
    c.in_ok-none.ensures.read c.length-2.ensures c.in_ok-some.ensures.read _ _ _ (c.in_ok-variants.ensures.judged strict) (c.in_ok-none.ensures.judged strict)
    (c.in_ok-some.ensures.judged strict))
