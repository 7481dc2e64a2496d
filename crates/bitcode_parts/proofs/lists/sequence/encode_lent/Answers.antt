-- A listing of each element up to those at hand was joined; those behind them are listed by their law.
use Rattle.std.proofs.Common.{◌≡◌, ◌++◌, map, take, length, refl, subst, ap, ◌∙◌, arith}
use Rattle.std.proofs.lemmas.Result.{err_from_is_err_and}
use Rattle.bitcode_shapes.specs.LawfulLists.{each_listed}
use Rattle.bitcode_coder.proofs.RefusalLemmas.{refusal_weaker}
use Rattle.bitcode_coder.proofs.EachLemmas.{JoinsFront, front_none, front_more_each, front_overflows_each}
use Rattle.bitcode_parts.proofs.GatheredPairLemmas.{all_taken, many_left}
use Rattle.bitcode_parts.proofs.lists.sequence.encode_lent.Goals as goal

pub loop-first-init : goal.loop-first-init
loop-first-init g c = record {
  front = front_none g.T.Shaped.data.lists g.T.Shaped.data.shape (g.E.HoldsColumns.columns c.args.elements.now) (g.met.E.EncodeMany.of_shape c.args.elements.now) (g.L.Lends.rest c.args.lent);
  values = c.requires.values;
  left = c.requires.room;
  fewer = omega arith;
  room = omega arith;
  form = refl;
}

pub encode_part_of_each-requires-clause-room : goal.encode_part_of_each-requires-clause-room
encode_part_of_each-requires-clause-room g c =
    let several = take c.gather_lent-count.result c.gather_lent-count.new.several in
    let rest = g.L.Lends.rest c.gather_lent-count.new.lent in
    let taken : g.L.Lends.rest c.loop-first.lent ≡ map (λ item. item.now) several ++ rest = c.in-Some.ensures.next ∙ c.gather_lent-count.ensures.taken in
    omega (arith, many_left (g.L.Lends.rest c.loop-first.lent) rest several taken, c.loop-first.invariant.left)

pub loop-first-preserved : goal.loop-first-preserved
loop-first-preserved g c =
    let lists = g.T.Shaped.data.lists in
    let shape = g.T.Shaped.data.shape in
    let whole = g.L.Lends.rest c.args.lent in
    let several = take c.gather_lent-count.result c.gather_lent-count.new.several in
    let left = g.L.Lends.rest c.loop-first.lent in
    let rest = g.L.Lends.rest c.gather_lent-count.new.lent in
    let taken : left ≡ map (λ item. item.now) several ++ rest = c.in-Some.ensures.next ∙ c.gather_lent-count.ensures.taken in
    let fewer = many_left left rest several taken in
    let old = g.E.HoldsColumns.columns c.args.elements.now in
    let now = g.E.HoldsColumns.columns c.loop-first.elements in
    let was = c.loop-first.invariant in
    record {
      front =
          front_more_each lists shape old (g.met.E.EncodeMany.of_shape c.args.elements.now) whole (map (λ item. item.now) several) rest now (g.E.HoldsColumns.columns c.encode_part_of_each.new.self)
          (subst (λ items. JoinsFront lists shape whole items old now) taken was.front) c.in_ok-encode_part_of_each.ensures.joined;
      values = all_taken left rest several taken g.T.Shaped.data.is_value was.values;
      left = omega (arith, fewer, was.left, c.in_ok-encode_part_of_each.ensures.room);
      fewer = omega (arith, fewer, was.fewer);
      room = omega (arith, fewer, was.room, c.in_ok-encode_part_of_each.ensures.room);
      form = c.encode_part_of_each.ensures.form ∙ was.form;
    }

pub returns-in_err-encode_part_of_each-clause-refused : goal.returns-in_err-encode_part_of_each-clause-refused
returns-in_err-encode_part_of_each-clause-refused g c =
    let refused = err_from_is_err_and c.from_residual.result c.from_residual.ensures.1 in
    let lists = g.T.Shaped.data.lists in
    let shape = g.T.Shaped.data.shape in
    let whole = g.L.Lends.rest c.args.lent in
    let several = take c.gather_lent-count.result c.gather_lent-count.new.several in
    let left = g.L.Lends.rest c.loop-first.lent in
    let rest = g.L.Lends.rest c.gather_lent-count.new.lent in
    let taken : left ≡ map (λ item. item.now) several ++ rest = c.in-Some.ensures.next ∙ c.gather_lent-count.ensures.taken in
    let old = g.E.HoldsColumns.columns c.args.elements.now in
    let now = g.E.HoldsColumns.columns c.loop-first.elements in
    let others =
    each_listed shape g.T.Shaped.data.is_value lists g.T.Shaped.data.same g.T.Shaped.data.in_order g.T.Shaped.data.lawful rest
    (all_taken left rest several taken g.T.Shaped.data.is_value c.loop-first.invariant.values) in
    rw (refused.1, refused.2) (
    refusal_weaker _ (λ some.
    front_overflows_each lists shape old (g.met.E.EncodeMany.of_shape c.args.elements.now) whole (map (λ item. item.now) several) rest now
    (subst (λ items. JoinsFront lists shape whole items old now) taken c.loop-first.invariant.front) some others.0 others.1) c.in_err-encode_part_of_each.ensures.refused
    )
