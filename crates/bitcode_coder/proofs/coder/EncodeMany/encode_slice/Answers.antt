-- A listing of each value up to the chunk at hand was joined; those behind it are listed by their law.
use Rattle.std.proofs.Common.{All, refl, sym, subst, ◌∙◌, arith}
use Rattle.std.proofs.lemmas.List.{map-id}
use Rattle.std.proofs.lemmas.List.Elements.{All-drop}
use Rattle.std.proofs.lemmas.Result.{err_from_is_err_and}
use Rattle.bitcode_shapes.specs.LawfulLists.{each_listed}
use Rattle.bitcode_coder.specs.Coder.{JoinsEach, OverflowsWithEach}
use Rattle.bitcode_coder.proofs.EachLemmas.{JoinsFront, front_none, front_more_each, front_overflows_each}
use Rattle.bitcode_coder.proofs.RefusalLemmas.{refusal_weaker}
use Rattle.bitcode_coder.proofs.coder.EncodeMany.encode_slice.Goals as goal

pub loop-rest-init : goal.loop-rest-init
loop-rest-init g c = record {
  front = front_none g.T.Shaped.data.lists g.T.Shaped.data.shape (g.Self.HoldsColumns.columns c.args.self.now) (g.met.Self.EncodeMany.of_shape c.args.self.now) c.args.items.now;
  values = c.told_each.ensures;
  left = c.requires;
  fewer = omega arith;
  room = omega arith;
  form = refl;
}

pub loop-rest-preserved : goal.loop-rest-preserved
loop-rest-preserved g c =
    let lists = g.T.Shaped.data.lists in
    let shape = g.T.Shaped.data.shape in
    let whole = c.args.items.now in
    let front = c.split_at.result.0.now in
    let behind = c.split_at.result.1.now in
    let old = g.Self.HoldsColumns.columns c.args.self.now in
    let now = g.Self.HoldsColumns.columns c.loop-rest.self in
    let new = g.Self.HoldsColumns.columns c.encode_part_of_each.new.self in
    record {
      front =
          front_more_each lists shape old (g.met.Self.EncodeMany.of_shape c.args.self.now) whole front behind now new
          (subst (λ items. JoinsFront lists shape whole items old now) c.split_at.ensures.by_index.0 c.loop-rest.invariant.front)
          (subst (λ items. JoinsEach lists shape items now new) (map-id front) c.in_ok-encode_part_of_each.ensures.joined);
      values =
          subst (All g.T.Shaped.data.is_value) (sym c.split_at.ensures.back)
          (All-drop g.T.Shaped.data.is_value c.min.result c.loop-rest.rest.now c.loop-rest.invariant.values);
      left = omega (arith, c.split_at.ensures.front_len, c.split_at.ensures.back_len, c.loop-rest.invariant.left, c.in_ok-encode_part_of_each.ensures.room);
      fewer = omega (arith, c.split_at.ensures.back_len, c.loop-rest.invariant.fewer);
      room = omega (arith, c.split_at.ensures.front_len, c.split_at.ensures.back_len, c.loop-rest.invariant.room, c.in_ok-encode_part_of_each.ensures.room);
      form = c.encode_part_of_each.ensures.form ∙ c.loop-rest.invariant.form;
    }

pub returns-in_err-encode_part_of_each-clause-refused : goal.returns-in_err-encode_part_of_each-clause-refused
returns-in_err-encode_part_of_each-clause-refused g c =
    let refused = err_from_is_err_and c.from_residual.result c.from_residual.ensures.1 in
    let lists = g.T.Shaped.data.lists in
    let shape = g.T.Shaped.data.shape in
    let whole = c.args.items.now in
    let front = c.split_at.result.0.now in
    let behind = c.split_at.result.1.now in
    let old = g.Self.HoldsColumns.columns c.args.self.now in
    let now = g.Self.HoldsColumns.columns c.loop-rest.self in
    let others =
    each_listed shape g.T.Shaped.data.is_value lists g.T.Shaped.data.same g.T.Shaped.data.in_order g.T.Shaped.data.lawful behind
    (subst (All g.T.Shaped.data.is_value) (sym c.split_at.ensures.back)
    (All-drop g.T.Shaped.data.is_value c.min.result c.loop-rest.rest.now c.loop-rest.invariant.values)) in
    rw (refused.1, refused.2) (
    refusal_weaker _ (λ some.
    front_overflows_each lists shape old (g.met.Self.EncodeMany.of_shape c.args.self.now) whole front behind now
    (subst (λ items. JoinsFront lists shape whole items old now) c.split_at.ensures.by_index.0 c.loop-rest.invariant.front)
    (subst (λ items. OverflowsWithEach lists shape items now) (map-id front) some) others.0 others.1) c.in_err-encode_part_of_each.ensures.refused
    )
