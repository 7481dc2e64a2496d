-- The variants are read, then the values, and then the errors from what is left.
use Rattle.std.proofs.Common.{refl}
use Rattle.bitcode_parts.proofs.TwoVariantLemmas.{variants_stopped, variants_exact, first_stopped, first_exact, second_stopped, second_exact, first_rest, choice_read, choice_rest}
use Rattle.bitcode_parts.proofs.StrictLemmas.{judges_two}
use Rattle.bitcode_parts.proofs.ColumnFreeLemmas.{counts_two}
use Rattle.bitcode_parts.proofs.choices.result.ResultDecoderView.read.Goals as goal

pub returns-in_err-variants-clause-refused : goal.returns-in_err-variants-clause-refused
returns-in_err-variants-clause-refused g c = variants_stopped g.A.HoldsData.shape g.B.HoldsData.shape _ _ _ _ c.from_residual.ensures.1 c.in_err-variants.ensures.refused

pub returns-in_err-variants-clause-exact : goal.returns-in_err-variants-clause-exact
returns-in_err-variants-clause-exact g c = variants_exact g.A.HoldsData.shape g.B.HoldsData.shape _ _ _ _ c.from_residual.ensures.1 c.in_err-variants.ensures.refused

pub returns-in_err-ok-clause-refused : goal.returns-in_err-ok-clause-refused
returns-in_err-ok-clause-refused g c =
    first_stopped g.A.HoldsData.shape g.B.HoldsData.shape c.in_ok-variants.ensures.read (c.in_ok-variants.ensures.counts refl) c.length.ensures _ _
    c.from_residual-in_err-ok.ensures.1 c.in_err-ok.ensures.refused

pub returns-in_err-ok-clause-exact : goal.returns-in_err-ok-clause-exact
returns-in_err-ok-clause-exact g c =
    first_exact g.A.HoldsData.shape g.B.HoldsData.shape c.in_ok-variants.ensures.read (c.in_ok-variants.ensures.counts refl) c.length.ensures _ _
    c.from_residual-in_err-ok.ensures.1 c.in_err-ok.ensures.exact

pub returns-in_err-ok-clause-rest : goal.returns-in_err-ok-clause-rest
returns-in_err-ok-clause-rest g c = first_rest _ _ c.in_ok-variants.ensures.read c.in_err-ok.ensures.rest

pub returns-in_err-err-clause-refused : goal.returns-in_err-err-clause-refused
returns-in_err-err-clause-refused g c =
    second_stopped g.A.HoldsData.shape g.B.HoldsData.shape c.in_ok-variants.ensures.read (c.in_ok-variants.ensures.counts refl) c.length.ensures
    c.in_ok-ok.ensures.read c.length-2.ensures _ _ c.from_residual-in_err-err.ensures.1 c.in_err-err.ensures.refused

pub returns-in_err-err-clause-exact : goal.returns-in_err-err-clause-exact
returns-in_err-err-clause-exact g c =
    second_exact g.A.HoldsData.shape g.B.HoldsData.shape c.in_ok-variants.ensures.read (c.in_ok-variants.ensures.counts refl) c.length.ensures
    c.in_ok-ok.ensures.read c.length-2.ensures _ _ c.from_residual-in_err-err.ensures.1 c.in_err-err.ensures.exact

pub returns-in_err-err-clause-rest : goal.returns-in_err-err-clause-rest
returns-in_err-err-clause-rest g c =
    choice_rest _ c.from_residual-in_err-err.result c.in_ok-variants.ensures.read c.in_ok-ok.ensures.read
    c.in_err-err.ensures.rest

pub returns-clause-read : goal.returns-clause-read
returns-clause-read g c =
    choice_read g.A.HoldsData.shape g.B.HoldsData.shape c.in_ok-variants.ensures.read (c.in_ok-variants.ensures.counts refl) c.length.ensures
    c.in_ok-ok.ensures.read c.length-2.ensures _ _ c.in_ok-err.ensures.read

pub returns-clause-counted : goal.returns-clause-counted
returns-clause-counted g c =
    counts_two g.A.HoldsData.shape g.B.HoldsData.shape c.in_ok-variants.ensures.read (c.in_ok-variants.ensures.counts refl) c.length.ensures
    c.in_ok-ok.ensures.read c.length-2.ensures c.in_ok-err.ensures.read _ _ c.in_ok-ok.ensures.counted c.in_ok-err.ensures.counted

pub returns-clause-judged : goal.returns-clause-judged
returns-clause-judged g c strict =
    rw (c.both-2.ensures, c.both.ensures)
    (judges_two g.A.HoldsData.shape g.B.HoldsData.shape c.in_ok-variants.ensures.read (c.in_ok-variants.ensures.counts refl) c.length.ensures
    c.in_ok-ok.ensures.read c.length-2.ensures c.in_ok-err.ensures.read _ _ _ (c.in_ok-variants.ensures.judged strict) (c.in_ok-ok.ensures.judged strict)
    (c.in_ok-err.ensures.judged strict))
