-- What is read strictly is read once, it is all of the input, and its bytes are those that are written.
use Rattle.std.proofs.Common.{rules, ◌≡◌, refl, sym, subst, ◌∙◌}
use Rattle.std.proofs.lemmas.Bool.{false≢true}
use Rattle.std.proofs.lemmas.Result.{err_from_is_err_and, IfErr-weaker, IfOk-weaker}
use Rattle.bitcode_coder.specs.Coder.{IsReadingReason}
use Rattle.bitcode_derive.proofs.DecodingLemmas.{spells_at_most_one, bounded_by_bytes, none_spelled-left, making_named}
use Rattle.bitcode_derive.proofs.StrictLemmas.{strictly_found, spelled_otherwise, strictly_refused}
use Rattle.bitcode_derive.specs.Strict.{no_memory, other_bytes, none_spelled}
use Rattle.bitcode_derive.specs.Whole.{in_columns, bytes_left}
use Rattle.bitcode_derive.proofs.whole.decode_strict.Goals as goal

pub returns-in_err-written-clause-unambiguous : goal.returns-in_err-written-clause-unambiguous
returns-in_err-written-clause-unambiguous g c = spells_at_most_one g.T.Shaped.data.shape c.args.bytes.now

pub returns-in_err-written-clause-bounded : goal.returns-in_err-written-clause-bounded
returns-in_err-written-clause-bounded g c = bounded_by_bytes g.T.Shaped.data.shape c.args.bytes.now g.T.Shaped.data.lawful.sound

pub returns-in_err-written-clause-refused : goal.returns-in_err-written-clause-refused
returns-in_err-written-clause-refused g c =
    let same : g.T.Decoder.HoldsData.shape ≡ g.T.Shaped.data.shape = search rules in
    let p = err_from_is_err_and c.from_residual.result c.from_residual.ensures.1 in
    rw (p.1, p.2) (strictly_refused g.T.Decoder.HoldsData.shape g.T.Shaped.data.shape same c.args.bytes.now _ c.in_err-written.ensures.refused)

pub returns-in_err-expect_eof-clause-unambiguous : goal.returns-in_err-expect_eof-clause-unambiguous
returns-in_err-expect_eof-clause-unambiguous g c = spells_at_most_one g.T.Shaped.data.shape c.args.bytes.now

pub returns-in_err-expect_eof-clause-bounded : goal.returns-in_err-expect_eof-clause-bounded
returns-in_err-expect_eof-clause-bounded g c = bounded_by_bytes g.T.Shaped.data.shape c.args.bytes.now g.T.Shaped.data.lawful.sound

pub returns-in_err-expect_eof-clause-refused : goal.returns-in_err-expect_eof-clause-refused
returns-in_err-expect_eof-clause-refused g c =
    let same : g.T.Decoder.HoldsData.shape ≡ g.T.Shaped.data.shape = search rules in
    let p = err_from_is_err_and c.from_residual-in_err-expect_eof.result c.from_residual-in_err-expect_eof.ensures.1 in
    rw (p.1, p.2) (none_spelled (subst IsReadingReason (sym c.in_err-expect_eof.ensures.reason) tt)
    (none_spelled-left g.T.Decoder.HoldsData.shape g.T.Shaped.data.shape same c.args.bytes.now _ _ c.in_ok-written.ensures.read (c.in_err-expect_eof.ensures.refused.0 refl)))

pub returns-then-not-written-clause-unambiguous : goal.returns-then-not-written-clause-unambiguous
returns-then-not-written-clause-unambiguous g c = spells_at_most_one g.T.Shaped.data.shape c.args.bytes.now

pub returns-then-not-written-clause-bounded : goal.returns-then-not-written-clause-bounded
returns-then-not-written-clause-bounded g c = bounded_by_bytes g.T.Shaped.data.shape c.args.bytes.now g.T.Shaped.data.lawful.sound

pub returns-then-not-written-clause-refused : goal.returns-then-not-written-clause-refused
returns-then-not-written-clause-refused g c =
    let same : g.T.Decoder.HoldsData.shape ≡ g.T.Shaped.data.shape = search rules in
    rw c.err.ensures (other_bytes refl
    (spelled_otherwise g.T.Decoder.HoldsData.shape g.T.Shaped.data.shape same c.args.bytes.now _ _ c.in_ok-written.ensures.read
    (λ more. false≢true (c.in_ok-expect_eof.ensures.refused.1 more)) (λ strict. false≢true (sym c.if-not-written.true ∙ c.in_ok-written.ensures.strict.1 strict))))

pub returns-clause-unambiguous : goal.returns-clause-unambiguous
returns-clause-unambiguous g c = spells_at_most_one g.T.Shaped.data.shape c.args.bytes.now

pub returns-clause-bounded : goal.returns-clause-bounded
returns-clause-bounded g c = bounded_by_bytes g.T.Shaped.data.shape c.args.bytes.now g.T.Shaped.data.lawful.sound

pub returns-clause-found : goal.returns-clause-found
returns-clause-found g c =
    let same : g.T.Decoder.HoldsData.shape ≡ g.T.Shaped.data.shape = search rules in
    IfOk-weaker c.decode.result _ _
    (λ t taken. strictly_found g.T.Decoder.HoldsData.shape g.T.Shaped.data.shape same c.args.bytes.now g.T.Shaped.data.makes t _ _ _
    (c.in_ok-written.ensures.strict.0 c.if-not-written.false) (λ more. false≢true (c.in_ok-expect_eof.ensures.refused.1 more)) taken)
    c.decode.ensures.made

pub returns-clause-refused : goal.returns-clause-refused
returns-clause-refused g c = IfErr-weaker c.decode.result _ _ (λ e memory. no_memory memory) c.decode.ensures.refused

pub returns-in_err-written-clause-exact : goal.returns-in_err-written-clause-exact
returns-in_err-written-clause-exact g c =
    let p = err_from_is_err_and c.from_residual.result c.from_residual.ensures.1 in
    rw (p.1, p.2) (λ other. in_columns c.in_err-written.ensures.exact)

pub returns-in_err-expect_eof-clause-exact : goal.returns-in_err-expect_eof-clause-exact
returns-in_err-expect_eof-clause-exact g c =
    let p = err_from_is_err_and c.from_residual-in_err-expect_eof.result c.from_residual-in_err-expect_eof.ensures.1 in
    rw (p.1, p.2) (
    λ other. bytes_left c.in_err-expect_eof.ensures.reason
    (record { read_data = _; rest = _; read = c.in_ok-written.ensures.read; left = c.in_err-expect_eof.ensures.refused.0 refl })
    )

pub returns-then-not-written-clause-exact : goal.returns-then-not-written-clause-exact
returns-then-not-written-clause-exact g c = rw c.err.ensures (λ other. absurd (other refl))

pub returns-clause-exact : goal.returns-clause-exact
returns-clause-exact g c =
    IfErr-weaker c.decode.result _ _ (λ e named other. named)
    (making_named g.T.Decoder.Decoder.makes_free c.in_ok-written.ensures.read
    (λ more. false≢true (c.in_ok-expect_eof.ensures.refused.1 more)) c.decode.result c.decode.ensures.refused c.decode.ensures.free)
