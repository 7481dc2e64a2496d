-- What is read is read once, it is all of the input, and its elements without columns are counted before it is made.
use Rattle.std.proofs.Common.{rules, ◌≡◌, refl, sym, subst, ◌∙◌, arith}
use Rattle.std.proofs.lemmas.Bool.{false≢true}
use Rattle.std.proofs.lemmas.Result.{err_from_is_err_and, IfErr-weaker, IfOk-weaker}
use Rattle.bitcode_coder.specs.Coder.{IsReadingReason}
use Rattle.bitcode_derive.proofs.DecodingLemmas.{spells_at_most_one, bounded_by_bytes, none_spelled-left}
use Rattle.bitcode_derive.proofs.WithinLemmas.{one_counted, exceeds, refused_within, found_within, making_within}
use Rattle.bitcode_derive.specs.Within.{no_memory, over_limit, none_spelled, in_columns, bytes_left, over}
use Rattle.bitcode_derive.proofs.whole.decode_within.Goals as goal

pub returns-in_err-populate-clause-unambiguous : goal.returns-in_err-populate-clause-unambiguous
returns-in_err-populate-clause-unambiguous g c = spells_at_most_one g.T.Shaped.data.shape c.args.bytes.now

pub returns-in_err-populate-clause-bounded : goal.returns-in_err-populate-clause-bounded
returns-in_err-populate-clause-bounded g c = bounded_by_bytes g.T.Shaped.data.shape c.args.bytes.now g.T.Shaped.data.lawful.sound

pub returns-in_err-populate-clause-refused : goal.returns-in_err-populate-clause-refused
returns-in_err-populate-clause-refused g c =
    let same : g.T.Decoder.HoldsData.shape ≡ g.T.Shaped.data.shape = search rules in
    let p = err_from_is_err_and c.from_residual.result c.from_residual.ensures.1 in
    rw (p.1, p.2) (refused_within g.T.Decoder.HoldsData.shape g.T.Shaped.data.shape same c.args.bytes.now c.args.most _ c.in_err-populate.ensures.refused)

pub returns-in_err-populate-clause-exact : goal.returns-in_err-populate-clause-exact
returns-in_err-populate-clause-exact g c =
    let p = err_from_is_err_and c.from_residual.result c.from_residual.ensures.1 in
    rw (p.1, p.2) (in_columns c.in_err-populate.ensures.exact)

pub returns-in_err-expect_eof-clause-unambiguous : goal.returns-in_err-expect_eof-clause-unambiguous
returns-in_err-expect_eof-clause-unambiguous g c = spells_at_most_one g.T.Shaped.data.shape c.args.bytes.now

pub returns-in_err-expect_eof-clause-bounded : goal.returns-in_err-expect_eof-clause-bounded
returns-in_err-expect_eof-clause-bounded g c = bounded_by_bytes g.T.Shaped.data.shape c.args.bytes.now g.T.Shaped.data.lawful.sound

pub returns-in_err-expect_eof-clause-refused : goal.returns-in_err-expect_eof-clause-refused
returns-in_err-expect_eof-clause-refused g c =
    let same : g.T.Decoder.HoldsData.shape ≡ g.T.Shaped.data.shape = search rules in
    let p = err_from_is_err_and c.from_residual-in_err-expect_eof.result c.from_residual-in_err-expect_eof.ensures.1 in
    rw (p.1, p.2) (none_spelled (subst IsReadingReason (sym c.in_err-expect_eof.ensures.reason) tt)
    (none_spelled-left g.T.Decoder.HoldsData.shape g.T.Shaped.data.shape same c.args.bytes.now _ _ c.in_ok-populate.ensures.read (c.in_err-expect_eof.ensures.refused.0 refl)))

pub returns-in_err-expect_eof-clause-exact : goal.returns-in_err-expect_eof-clause-exact
returns-in_err-expect_eof-clause-exact g c =
    let p = err_from_is_err_and c.from_residual-in_err-expect_eof.result c.from_residual-in_err-expect_eof.ensures.1 in
    rw (p.1, p.2) (
    bytes_left c.in_err-expect_eof.ensures.reason
    (record { read_data = _; rest = _; read = c.in_ok-populate.ensures.read; left = c.in_err-expect_eof.ensures.refused.0 refl })
    )

pub returns-then-column_free-most-clause-unambiguous : goal.returns-then-column_free-most-clause-unambiguous
returns-then-column_free-most-clause-unambiguous g c = spells_at_most_one g.T.Shaped.data.shape c.args.bytes.now

pub returns-then-column_free-most-clause-bounded : goal.returns-then-column_free-most-clause-bounded
returns-then-column_free-most-clause-bounded g c = bounded_by_bytes g.T.Shaped.data.shape c.args.bytes.now g.T.Shaped.data.lawful.sound

pub returns-then-column_free-most-clause-refused : goal.returns-then-column_free-most-clause-refused
returns-then-column_free-most-clause-refused g c =
    let same : g.T.Decoder.HoldsData.shape ≡ g.T.Shaped.data.shape = search rules in
    let one =
    one_counted g.T.Decoder.HoldsData.shape c.args.bytes.now _ _ c.column_free.result.inside c.in_ok-populate.ensures.read
    (λ more. false≢true (c.in_ok-expect_eof.ensures.refused.1 more)) (c.column_free.ensures.inside ∙ c.in_ok-populate.ensures.counted) in
    rw c.err.ensures (over_limit refl
    (exceeds g.T.Decoder.HoldsData.shape g.T.Shaped.data.shape same c.args.bytes.now c.args.most c.column_free.result.inside one (omega (arith, c.if-column_free-most.true))))

pub returns-then-column_free-most-clause-exact : goal.returns-then-column_free-most-clause-exact
returns-then-column_free-most-clause-exact g c =
    let one =
    one_counted g.T.Decoder.HoldsData.shape c.args.bytes.now _ _ c.column_free.result.inside c.in_ok-populate.ensures.read
    (λ more. false≢true (c.in_ok-expect_eof.ensures.refused.1 more)) (c.column_free.ensures.inside ∙ c.in_ok-populate.ensures.counted) in
    rw c.err.ensures (over refl
    (exceeds g.T.Decoder.HoldsData.shape g.T.Decoder.HoldsData.shape refl c.args.bytes.now c.args.most c.column_free.result.inside one (omega (arith, c.if-column_free-most.true))))

pub returns-clause-unambiguous : goal.returns-clause-unambiguous
returns-clause-unambiguous g c = spells_at_most_one g.T.Shaped.data.shape c.args.bytes.now

pub returns-clause-bounded : goal.returns-clause-bounded
returns-clause-bounded g c = bounded_by_bytes g.T.Shaped.data.shape c.args.bytes.now g.T.Shaped.data.lawful.sound

pub returns-clause-found : goal.returns-clause-found
returns-clause-found g c =
    let same : g.T.Decoder.HoldsData.shape ≡ g.T.Shaped.data.shape = search rules in
    let one =
    one_counted g.T.Decoder.HoldsData.shape c.args.bytes.now _ _ c.column_free.result.inside c.in_ok-populate.ensures.read
    (λ more. false≢true (c.in_ok-expect_eof.ensures.refused.1 more)) (c.column_free.ensures.inside ∙ c.in_ok-populate.ensures.counted) in
    IfOk-weaker c.decode.result _ _
    (λ t taken. found_within g.T.Decoder.HoldsData.shape g.T.Shaped.data.shape same c.args.bytes.now c.args.most (omega (arith, c.ranges.most.fits))
    c.column_free.result.inside one (omega (arith, c.if-column_free-most.false)) g.T.Shaped.data.makes t _ taken)
    c.decode.ensures.made

pub returns-clause-refused : goal.returns-clause-refused
returns-clause-refused g c = IfErr-weaker c.decode.result _ _ (λ e memory. no_memory memory) c.decode.ensures.refused

pub returns-clause-exact : goal.returns-clause-exact
returns-clause-exact g c =
    let one =
    one_counted g.T.Decoder.HoldsData.shape c.args.bytes.now _ _ c.column_free.result.inside c.in_ok-populate.ensures.read
    (λ more. false≢true (c.in_ok-expect_eof.ensures.refused.1 more)) (c.column_free.ensures.inside ∙ c.in_ok-populate.ensures.counted) in
    making_within g.T.Decoder.HoldsData.shape g.T.Decoder.HoldsData.shape refl c.args.bytes.now c.args.most (omega (arith, c.ranges.most.fits))
    c.column_free.result.inside one (omega (arith, c.if-column_free-most.false)) g.T.Decoder.Decoder.makes_free c.decode.result
    c.decode.ensures.refused c.decode.ensures.free
