-- What is made is what the check found, and it is strictly spelled.
use Rattle.std.proofs.Common.{[], ◌∷◌}
use Rattle.std.proofs.lemmas.Bool.{false≢true}
use Rattle.std.proofs.lemmas.Result.{err_from_is_err_and, IfErr-weaker, IfOk-weaker}
use Rattle.bitcode_coder.proofs.StrictLawLemmas.{strict_is_text}
use Rattle.bitcode_derive.specs.Whole.{in_making}
use Rattle.bitcode_schema.specs.Forms.{shape_of}
use Rattle.bitcode_schema.proofs.DecodingLemmas.{named_in_decoding, strictly_made}
use Rattle.bitcode_schema.proofs.decode.decode_value_strict.Goals as goal

pub make_one-requires : goal.make_one-requires
make_one-requires c =
    let found = c.in_ok-check_value_strict.ensures.spelled in
    record { spelled = (found.0, (strict_is_text (shape_of c.args.schema.now.root) c.args.bytes.now (found.0 ∷ []) found.1).0) }

pub returns-clause-found : goal.returns-clause-found
returns-clause-found c =
    let found = c.in_ok-check_value_strict.ensures.spelled in
    IfOk-weaker c.make_one.result _ _
    (λ value m.
    strictly_made c.args.schema.now.root c.args.bytes.now found.0 found.1
    (strict_is_text (shape_of c.args.schema.now.root) c.args.bytes.now (found.0 ∷ []) found.1).0 value m)
    c.make_one.ensures.made

pub returns-in_err-check_value_strict-clause-exact : goal.returns-in_err-check_value_strict-clause-exact
returns-in_err-check_value_strict-clause-exact c =
    let refused = err_from_is_err_and c.from_residual.result c.from_residual.ensures.1 in
    rw (refused.1, refused.2)
    (λ other. named_in_decoding (shape_of c.args.schema.now.root) c.args.bytes.now _ (c.in_err-check_value_strict.ensures.exact other))

pub returns-clause-exact : goal.returns-clause-exact
returns-clause-exact c =
    let found = c.in_ok-check_value_strict.ensures.spelled in
    let spelled = (strict_is_text (shape_of c.args.schema.now.root) c.args.bytes.now (found.0 ∷ []) found.1).0 in
    IfErr-weaker c.make_one.result _ _ (λ e memory other. in_making memory (λ free. false≢true free) found.0 spelled) c.make_one.ensures.refused
