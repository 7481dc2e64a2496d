-- What is read is read once, and it is all of the input.
use Rattle.std.proofs.Common.{rules, ◌≡◌, refl}
use Rattle.std.proofs.lemmas.Bool.{false≢true}
use Rattle.std.proofs.lemmas.Result.{err_from_is_err_and}
use Rattle.bitcode_derive.proofs.DecodingLemmas.{spells_at_most_one, bounded_by_bytes, none_spelled-unread, none_spelled-left, making_named}
use Rattle.bitcode_derive.specs.Whole.{in_columns, bytes_left}
use Rattle.bitcode_derive.proofs.whole.decode.Goals as goal

pub returns-in-Some-clause-unambiguous : goal.returns-in-Some-clause-unambiguous
returns-in-Some-clause-unambiguous g c = spells_at_most_one g.T.Shaped.data.shape c.args.bytes.now

pub returns-in-Some-clause-bounded : goal.returns-in-Some-clause-bounded
returns-in-Some-clause-bounded g c = bounded_by_bytes g.T.Shaped.data.shape c.args.bytes.now g.T.Shaped.data.lawful.sound

pub returns-in_err-populate-clause-unambiguous : goal.returns-in_err-populate-clause-unambiguous
returns-in_err-populate-clause-unambiguous g c = spells_at_most_one g.T.Shaped.data.shape c.args.bytes.now

pub returns-in_err-populate-clause-bounded : goal.returns-in_err-populate-clause-bounded
returns-in_err-populate-clause-bounded g c = bounded_by_bytes g.T.Shaped.data.shape c.args.bytes.now g.T.Shaped.data.lawful.sound

pub returns-in_err-populate-clause-refused : goal.returns-in_err-populate-clause-refused
returns-in_err-populate-clause-refused g c =
    let same : g.T.Decoder.HoldsData.shape ≡ g.T.Shaped.data.shape = search rules in
    let p = err_from_is_err_and c.from_residual.result c.from_residual.ensures.1 in
    rw (p.1, p.2) (λ other. none_spelled-unread g.T.Decoder.HoldsData.shape g.T.Shaped.data.shape same c.args.bytes.now (c.in_err-populate.ensures.refused.1 other))

pub returns-in_err-expect_eof-clause-unambiguous : goal.returns-in_err-expect_eof-clause-unambiguous
returns-in_err-expect_eof-clause-unambiguous g c = spells_at_most_one g.T.Shaped.data.shape c.args.bytes.now

pub returns-in_err-expect_eof-clause-bounded : goal.returns-in_err-expect_eof-clause-bounded
returns-in_err-expect_eof-clause-bounded g c = bounded_by_bytes g.T.Shaped.data.shape c.args.bytes.now g.T.Shaped.data.lawful.sound

pub returns-in_err-expect_eof-clause-refused : goal.returns-in_err-expect_eof-clause-refused
returns-in_err-expect_eof-clause-refused g c =
    let same : g.T.Decoder.HoldsData.shape ≡ g.T.Shaped.data.shape = search rules in
    let p = err_from_is_err_and c.from_residual-in_err-expect_eof.result c.from_residual-in_err-expect_eof.ensures.1 in
    let r = c.in_ok-populate.ensures.read in
    rw (p.1, p.2) (λ other. none_spelled-left g.T.Decoder.HoldsData.shape g.T.Shaped.data.shape same c.args.bytes.now _ _ r (c.in_err-expect_eof.ensures.refused.0 refl))

pub returns-clause-unambiguous : goal.returns-clause-unambiguous
returns-clause-unambiguous g c = spells_at_most_one g.T.Shaped.data.shape c.args.bytes.now

pub returns-clause-bounded : goal.returns-clause-bounded
returns-clause-bounded g c = bounded_by_bytes g.T.Shaped.data.shape c.args.bytes.now g.T.Shaped.data.lawful.sound

pub returns-in_err-populate-clause-exact : goal.returns-in_err-populate-clause-exact
returns-in_err-populate-clause-exact g c =
    let p = err_from_is_err_and c.from_residual.result c.from_residual.ensures.1 in
    rw (p.1, p.2) (in_columns c.in_err-populate.ensures.exact)

pub returns-in_err-expect_eof-clause-exact : goal.returns-in_err-expect_eof-clause-exact
returns-in_err-expect_eof-clause-exact g c =
    let p = err_from_is_err_and c.from_residual-in_err-expect_eof.result c.from_residual-in_err-expect_eof.ensures.1 in
    rw (p.1, p.2) (
    bytes_left c.in_err-expect_eof.ensures.reason
    (record { read_data = _; rest = _; read = c.in_ok-populate.ensures.read; left = c.in_err-expect_eof.ensures.refused.0 refl })
    )

pub returns-clause-exact : goal.returns-clause-exact
returns-clause-exact g c =
    making_named g.T.Decoder.Decoder.makes_free c.in_ok-populate.ensures.read
    (λ more. false≢true (c.in_ok-expect_eof.ensures.refused.1 more)) c.decode.result c.decode.ensures.refused c.decode.ensures.free
