-- What is counted and made is what the check found.
use Rattle.std.proofs.Common.{◌<◌, refl, arith}
use Rattle.std.proofs.lemmas.Bool.{false≢true}
use Rattle.std.proofs.lemmas.Result.{err_from_is_err_and, IfErr-weaker}
use Rattle.bitcode_derive.specs.Whole.{in_making}
use Rattle.bitcode_untyped.specs.Nodes.{node_count}
use Rattle.bitcode_schema.specs.Decoding.{too_many}
use Rattle.bitcode_schema.specs.Forms.{shape_of}
use Rattle.bitcode_schema.proofs.DecodingLemmas.{named_in_decoding}
use Rattle.bitcode_schema.proofs.decode.decode_value_within.Goals as goal

pub returns-in_err-check_value-clause-exact : goal.returns-in_err-check_value-clause-exact
returns-in_err-check_value-clause-exact c =
    let refused = err_from_is_err_and c.from_residual.result c.from_residual.ensures.1 in
    rw (refused.1, refused.2) (λ other. named_in_decoding (shape_of c.args.schema.now.root) c.args.bytes.now _ c.in_err-check_value.ensures.exact)

pub returns-in_err-count_one-clause-exact : goal.returns-in_err-count_one-clause-exact
returns-in_err-count_one-clause-exact c =
    let refused = err_from_is_err_and c.from_residual-in_err-count_one.result c.from_residual-in_err-count_one.ensures.1 in
    let found = c.in_ok-check_value.ensures.spelled in
    rw (refused.1, refused.2) (λ other. in_making c.in_err-count_one.ensures.refused (λ free. false≢true free) found.0 found.1)

pub returns-then-branch-limit-clause-refused : goal.returns-then-branch-limit-clause-refused
returns-then-branch-limit-clause-refused c =
    let found = c.in_ok-check_value.ensures.spelled in
    let counted = c.in_ok-count_one.ensures.counted found.0 found.1 in
    let over : c.args.limit < node_count found.0 = omega (arith, counted, c.if-branch-limit.true, c.ranges.limit.fits) in
    rw c.err.ensures (too_many refl found.0 found.1 over)

pub returns-clause-exact : goal.returns-clause-exact
returns-clause-exact c =
    let found = c.in_ok-check_value.ensures.spelled in
    IfErr-weaker c.make_one.result _ _ (λ e memory other. in_making memory (λ free. false≢true free) found.0 found.1) c.make_one.ensures.refused
