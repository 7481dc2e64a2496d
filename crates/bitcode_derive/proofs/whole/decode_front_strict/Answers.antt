-- What is read strictly is read once, from a front of the input, and its bytes are those that are written.
use Rattle.std.proofs.Common.{rules, ◌≡◌, refl, sym, ◌∙◌}
use Rattle.std.proofs.lemmas.Bool.{false≢true}
use Rattle.std.proofs.lemmas.Result.{err_from_is_err_and, IfErr-weaker, IfOk-weaker}
use Rattle.bitcode_derive.specs.Front.{in_front_columns}
use Rattle.bitcode_derive.specs.StrictFront.{no_memory_in_front, other_front}
use Rattle.bitcode_derive.proofs.FrontLemmas.{begins_with_at_most_one, bounded_by_front, making_front_named}
use Rattle.bitcode_derive.proofs.StrictFrontLemmas.{strictly_made_of_front, begins_otherwise, strict_front_refused}
use Rattle.bitcode_derive.proofs.whole.decode_front_strict.Goals as goal

pub returns-in_err-written-clause-unambiguous : goal.returns-in_err-written-clause-unambiguous
returns-in_err-written-clause-unambiguous g c = begins_with_at_most_one g.T.Shaped.data.shape c.args.input.now.now

pub returns-in_err-written-clause-bounded : goal.returns-in_err-written-clause-bounded
returns-in_err-written-clause-bounded g c = bounded_by_front g.T.Shaped.data.shape c.args.input.now.now g.T.Shaped.data.lawful.sound

pub returns-in_err-written-clause-refused : goal.returns-in_err-written-clause-refused
returns-in_err-written-clause-refused g c =
    let same : g.T.Decoder.HoldsData.shape ≡ g.T.Shaped.data.shape = search rules in
    let p = err_from_is_err_and c.from_residual.result c.from_residual.ensures.1 in
    rw (p.1, p.2) (strict_front_refused g.T.Decoder.HoldsData.shape g.T.Shaped.data.shape same c.args.input.now.now _ _ c.in_err-written.ensures.refused)

pub returns-in_err-written-clause-exact : goal.returns-in_err-written-clause-exact
returns-in_err-written-clause-exact g c =
    let p = err_from_is_err_and c.from_residual.result c.from_residual.ensures.1 in
    rw (p.1, p.2) (λ other. in_front_columns c.in_err-written.ensures.exact)

pub returns-then-not-written-clause-unambiguous : goal.returns-then-not-written-clause-unambiguous
returns-then-not-written-clause-unambiguous g c = begins_with_at_most_one g.T.Shaped.data.shape c.args.input.now.now

pub returns-then-not-written-clause-bounded : goal.returns-then-not-written-clause-bounded
returns-then-not-written-clause-bounded g c = bounded_by_front g.T.Shaped.data.shape c.args.input.now.now g.T.Shaped.data.lawful.sound

pub returns-then-not-written-clause-refused : goal.returns-then-not-written-clause-refused
returns-then-not-written-clause-refused g c =
    let same : g.T.Decoder.HoldsData.shape ≡ g.T.Shaped.data.shape = search rules in
    rw c.err.ensures (other_front refl
    (begins_otherwise g.T.Decoder.HoldsData.shape g.T.Shaped.data.shape same c.args.input.now.now _ _ c.in_ok-written.ensures.read
    (λ strict. false≢true (sym c.if-not-written.true ∙ c.in_ok-written.ensures.strict.1 strict))))

pub returns-then-not-written-clause-exact : goal.returns-then-not-written-clause-exact
returns-then-not-written-clause-exact g c = rw c.err.ensures (λ other. absurd (other refl))

pub returns-clause-unambiguous : goal.returns-clause-unambiguous
returns-clause-unambiguous g c = begins_with_at_most_one g.T.Shaped.data.shape c.args.input.now.now

pub returns-clause-bounded : goal.returns-clause-bounded
returns-clause-bounded g c = bounded_by_front g.T.Shaped.data.shape c.args.input.now.now g.T.Shaped.data.lawful.sound

pub returns-clause-found : goal.returns-clause-found
returns-clause-found g c =
    let same : g.T.Decoder.HoldsData.shape ≡ g.T.Shaped.data.shape = search rules in
    IfOk-weaker c.decode.result _ _
    (λ t taken. strictly_made_of_front same (c.in_ok-written.ensures.strict.0 c.if-not-written.false) taken) c.decode.ensures.made

pub returns-clause-refused : goal.returns-clause-refused
returns-clause-refused g c = IfErr-weaker c.decode.result _ _ (λ e memory. no_memory_in_front memory) c.decode.ensures.refused

pub returns-clause-exact : goal.returns-clause-exact
returns-clause-exact g c =
    IfErr-weaker c.decode.result _ _ (λ e named other. named)
    (making_front_named g.T.Decoder.Decoder.makes_free c.in_ok-written.ensures.read c.decode.result c.decode.ensures.refused c.decode.ensures.free)
