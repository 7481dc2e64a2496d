-- The number of arrays and the number of their elements are looked at before room is made.
use Rattle.std.proofs.Common.{◌*◌, ◌+◌, ◌^◌, ◌<◌, ◌≤◌, true, refl, arith}
use Rattle.std.proofs.lemmas.Result.{on_ok_weaker}
use Rattle.std.proofs.lemmas.Bool.{false≢true}
use Rattle.bitcode_parts.proofs.ArrayLemmas.{array_room-elements, array_room-count, array_room-enough, array_room-grows}
use Rattle.bitcode_parts.proofs.arrays.ArrayEncoderBuffer.reserve.Goals as goal

pub returns-in_err-_elements-clause-succeeds : goal.returns-in_err-_elements-clause-succeeds
returns-in_err-_elements-clause-succeeds g c room =
    let few : (c.args.self.now.count + c.args.n) * g.row.N < 2 ^ 64 =
    array_room-count g.row.N c.args.self.now.count c.args.n (g.E.HoldsColumns.room c.args.self.now.elements) room c.args.self.now.fits in
    let overflows = c.in_err-_elements.ensures.refused.0 (refl {a = true}) in
    let sum = c.in-Some.ensures in
    absurd (grind (arith, few, overflows, sum))

pub returns-clause-ok : goal.returns-clause-ok
returns-clause-ok g c =
    let over : 2 ^ 64 ≤ c.in-Some.count * g.row.N → ⊥ = λ h. false≢true (c.in_ok-_elements.ensures.refused.1 h) in
    let sum = c.in-Some.ensures in
    let fits : (c.args.self.now.count + c.args.n) * g.row.N < 2 ^ 64 = grind (arith, over, sum) in
    on_ok_weaker c.reserve.result
    (array_room-enough g.row.N c.args.self.now.count c.args.n (g.E.HoldsColumns.room c.reserve.new.self) c.ranges.n.fits fits)
    c.reserve.ensures.ok

pub returns-clause-grows : goal.returns-clause-grows
returns-clause-grows g c = array_room-grows g.row.N c.args.self.now.count _ _ c.reserve.ensures.grows

pub returns-clause-succeeds : goal.returns-clause-succeeds
returns-clause-succeeds g c room = c.reserve.ensures.succeeds (array_room-elements g.row.N c.args.self.now.count c.args.n _ room)
