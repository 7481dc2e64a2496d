-- The listings of the fields make up those of the pairs. Where the first fields are refused the second are listed by their law.
use Rattle.std.proofs.Common.{All, map, subst}
use Rattle.std.proofs.lemmas.Result.{err_from_is_err_and, on_ok_weaker}
use Rattle.bitcode_memory.specs.declared.error.Error.{Error}
use Rattle.bitcode_shapes.specs.LawfulLists.{each_listed}
use Rattle.bitcode_coder.specs.Coder.{JoinsEach, OverflowsWithEach}
use Rattle.bitcode_coder.proofs.RefusalLemmas.{refusal_weaker, refused_weaker}
use Rattle.bitcode_tuples.proofs.WritingLemmas.{joins_pairs, overflows_with_firsts, overflows_with_seconds}
use Rattle.bitcode_tuples.proofs.encoder.TupleEncoderEncodeManyTuple2.encode_part_of_each.Goals as goal

pub returns-in_err-encode_part_of_each-clause-refused : goal.returns-in_err-encode_part_of_each-clause-refused
returns-in_err-encode_part_of_each-clause-refused g c =
    let refused = err_from_is_err_and c.from_residual.result c.from_residual.ensures.1 in
    let items = c.args.items.now in
    let a = g.A.HoldsColumns.columns c.args.self.now.first in
    let listed =
    each_listed g.Q.Shaped.data.shape g.Q.Shaped.data.is_value g.Q.Shaped.data.lists g.Q.Shaped.data.same g.Q.Shaped.data.in_order g.Q.Shaped.data.lawful
    (map (λ s. (g.W.Part.of c.args.which.now s).1) items)
    (subst (λ w. All g.Q.Shaped.data.is_value (map (λ s. (g.W.Part.of w s).1) items)) c.of-second.ensures c.told_parts.ensures) in
    rw (refused.1, refused.2) (
    refusal_weaker _ (λ some.
    overflows_with_firsts (g.W.Part.of c.args.which.now) (λ t. t) items listed.0 listed.1
    (subst (λ w. OverflowsWithEach g.P.Shaped.data.lists g.P.Shaped.data.shape (map (λ s. (g.W.Part.of w s).0) items) a) c.of.ensures some)
    ) c.in_err-encode_part_of_each.ensures.refused
    )

pub returns-clause-joined : goal.returns-clause-joined
returns-clause-joined g c =
    let items = c.args.items.now in
    let a = g.A.HoldsColumns.columns c.args.self.now.first in
    let b = g.B.HoldsColumns.columns c.args.self.now.second in
    let new_a = g.A.HoldsColumns.columns c.encode_part_of_each.new.self in
    let new_b = g.B.HoldsColumns.columns c.encode_part_of_each-2.new.self in
    on_ok_weaker c.encode_part_of_each-2.result (λ later.
    joins_pairs (g.W.Part.of c.args.which.now) (λ t. t) items
    (subst (λ w. JoinsEach g.P.Shaped.data.lists g.P.Shaped.data.shape (map (λ s. (g.W.Part.of w s).0) items) a new_a) c.of.ensures c.in_ok-encode_part_of_each.ensures.joined)
    (subst (λ w. JoinsEach g.Q.Shaped.data.lists g.Q.Shaped.data.shape (map (λ s. (g.W.Part.of w s).1) items) b new_b) c.of-second.ensures later)
    ) c.encode_part_of_each-2.ensures.joined

pub returns-clause-refused : goal.returns-clause-refused
returns-clause-refused g c =
    let items = c.args.items.now in
    let a = g.A.HoldsColumns.columns c.args.self.now.first in
    let b = g.B.HoldsColumns.columns c.args.self.now.second in
    let new_a = g.A.HoldsColumns.columns c.encode_part_of_each.new.self in
    let joined =
    subst (λ w. JoinsEach g.P.Shaped.data.lists g.P.Shaped.data.shape (map (λ s. (g.W.Part.of w s).0) items) a new_a) c.of.ensures c.in_ok-encode_part_of_each.ensures.joined in
    refused_weaker (λ (e : Error). e.reason) c.encode_part_of_each-2.result (λ some.
    overflows_with_seconds (g.W.Part.of c.args.which.now) (λ t. t) items joined.parts joined.listings
    (subst (λ w. OverflowsWithEach g.Q.Shaped.data.lists g.Q.Shaped.data.shape (map (λ s. (g.W.Part.of w s).1) items) b) c.of-second.ensures some)
    ) c.encode_part_of_each-2.ensures.refused
