-- What the encoder of that which is pointed to does is done of the pointers.
use Rattle.std.proofs.Common.{map, subst}
use Rattle.std.proofs.lemmas.Result.{on_ok_weaker}
use Rattle.bitcode_memory.specs.declared.error.Error.{Error}
use Rattle.bitcode_coder.specs.Coder.{JoinsEach, OverflowsWithEach}
use Rattle.bitcode_coder.proofs.RefusalLemmas.{refused_weaker}
use Rattle.bitcode_parts.proofs.PointerLemmas.{joins_pointers, overflows_pointers}
use Rattle.bitcode_parts.proofs.pointers.deref.DerefEncoderEncodeMany.encode_part_of_each.Goals as goal

pub returns-clause-joined : goal.returns-clause-joined
returns-clause-joined g c =
    let old = g.E.HoldsColumns.columns c.args.self.now.inner in
    let new = g.E.HoldsColumns.columns c.encode_part_of_each.new.self in
    on_ok_weaker c.encode_part_of_each.result
    (λ joined.
    subst (λ w. JoinsEach g.P.Shaped.data.lists g.P.Shaped.data.shape (map (g.W.Part.of w) c.args.items.now) old new) c.by.ensures
    (joins_pointers g.P.Shaped.data.lists _ g.P.Points.points_to g.met.P.Points.lists_too (g.W.Part.of c.by.result.pointer.now) g.P.Shaped.data.shape _ g.met.P.Points.same_shape
    c.args.items.now old new joined))
    c.encode_part_of_each.ensures.joined

pub returns-clause-refused : goal.returns-clause-refused
returns-clause-refused g c =
    let old = g.E.HoldsColumns.columns c.args.self.now.inner in
    refused_weaker (λ (e : Error). e.reason) c.encode_part_of_each.result
    (λ overflows.
    subst (λ w. OverflowsWithEach g.P.Shaped.data.lists g.P.Shaped.data.shape (map (g.W.Part.of w) c.args.items.now) old) c.by.ensures
    (overflows_pointers g.P.Shaped.data.lists _ g.P.Points.points_to g.met.P.Points.lists_too (g.W.Part.of c.by.result.pointer.now) g.P.Shaped.data.shape _ g.met.P.Points.same_shape
    c.args.items.now old overflows))
    c.encode_part_of_each.ensures.refused
