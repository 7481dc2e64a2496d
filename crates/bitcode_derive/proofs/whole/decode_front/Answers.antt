-- What is read is read once, from a front of the input.
use Rattle.std.proofs.Common.{rules, ◌≡◌}
use Rattle.std.proofs.lemmas.Result.{err_from_is_err_and}
use Rattle.bitcode_derive.specs.Front.{in_front_columns}
use Rattle.bitcode_derive.proofs.FrontLemmas.{begins_with_at_most_one, bounded_by_front, none_begun-unread, making_front_named}
use Rattle.bitcode_derive.proofs.whole.decode_front.Goals as goal

pub returns-in-Some-clause-unambiguous : goal.returns-in-Some-clause-unambiguous
returns-in-Some-clause-unambiguous g c = begins_with_at_most_one g.T.Shaped.data.shape c.args.input.now.now

pub returns-in-Some-clause-bounded : goal.returns-in-Some-clause-bounded
returns-in-Some-clause-bounded g c = bounded_by_front g.T.Shaped.data.shape c.args.input.now.now g.T.Shaped.data.lawful.sound

pub returns-in_err-populate-clause-unambiguous : goal.returns-in_err-populate-clause-unambiguous
returns-in_err-populate-clause-unambiguous g c = begins_with_at_most_one g.T.Shaped.data.shape c.args.input.now.now

pub returns-in_err-populate-clause-bounded : goal.returns-in_err-populate-clause-bounded
returns-in_err-populate-clause-bounded g c = bounded_by_front g.T.Shaped.data.shape c.args.input.now.now g.T.Shaped.data.lawful.sound

pub returns-in_err-populate-clause-refused : goal.returns-in_err-populate-clause-refused
returns-in_err-populate-clause-refused g c =
    let same : g.T.Decoder.HoldsData.shape ≡ g.T.Shaped.data.shape = search rules in
    let p = err_from_is_err_and c.from_residual.result c.from_residual.ensures.1 in
    rw (p.1, p.2) (λ other. none_begun-unread g.T.Decoder.HoldsData.shape g.T.Shaped.data.shape same c.args.input.now.now (c.in_err-populate.ensures.refused.1 other))

pub returns-in_err-populate-clause-exact : goal.returns-in_err-populate-clause-exact
returns-in_err-populate-clause-exact g c =
    let p = err_from_is_err_and c.from_residual.result c.from_residual.ensures.1 in
    rw (p.1, p.2) (in_front_columns c.in_err-populate.ensures.exact)

pub returns-clause-unambiguous : goal.returns-clause-unambiguous
returns-clause-unambiguous g c = begins_with_at_most_one g.T.Shaped.data.shape c.args.input.now.now

pub returns-clause-bounded : goal.returns-clause-bounded
returns-clause-bounded g c = bounded_by_front g.T.Shaped.data.shape c.args.input.now.now g.T.Shaped.data.lawful.sound

pub returns-clause-exact : goal.returns-clause-exact
returns-clause-exact g c =
    making_front_named g.T.Decoder.Decoder.makes_free c.in_ok-populate.ensures.read c.decode.result c.decode.ensures.refused c.decode.ensures.free
