-- A listing of each value up to the one at hand was joined; those behind it are listed by their law.
use Rattle.std.proofs.Common.{All, map, drop, refl, subst, ◌+◌, ◌∙◌, arith}
use Rattle.std.proofs.lemmas.List.{at_drop_all, drop-map}
use Rattle.std.proofs.lemmas.List.Elements.{All-drop}
use Rattle.std.proofs.lemmas.Result.{err_from_is_err_and}
use Rattle.bitcode_shapes.specs.LawfulLists.{each_listed}
use Rattle.bitcode_coder.specs.Coder.{JoinsListing, OverflowsWithListing}
use Rattle.bitcode_coder.proofs.EachLemmas.{JoinsFront, front_none, front_more, front_overflows, front_whole, next_behind}
use Rattle.bitcode_coder.proofs.RefusalLemmas.{refusal_weaker}
use Rattle.bitcode_coder.proofs.coder.encode_parts.Goals as goal

pub loop-item-init : goal.loop-item-init
loop-item-init g c = record {
  front = front_none g.T.Shaped.data.lists g.T.Shaped.data.shape (g.E.HoldsColumns.columns c.args.encoder.now) (g.met.E.Encoder.of_shape c.args.encoder.now) (map (g.W.Part.of c.args.which.now) c.args.items.now);
  room = omega arith;
  form = refl;
}

pub encode-requires : goal.encode-requires
encode-requires g c = omega (arith, c.requires, c.loop-item.invariant.room, c.loop-item-test.true)

pub returns-in_err-encode-clause-refused : goal.returns-in_err-encode-clause-refused
returns-in_err-encode-clause-refused g c =
    let refused = err_from_is_err_and c.from_residual.result c.from_residual.ensures.1 in
    let lists = g.T.Shaped.data.lists in
    let shape = g.T.Shaped.data.shape in
    let whole = map (g.W.Part.of c.args.which.now) c.args.items.now in
    let behind = drop (c.loop-item.item-index + 1) c.args.items.now in
    let rest = map (g.W.Part.of c.args.which.now) behind in
    let old = g.E.HoldsColumns.columns c.args.encoder.now in
    let now = g.E.HoldsColumns.columns c.loop-item.encoder in
    let step = next_behind (g.W.Part.of c.args.which.now) c.args.items.now c.loop-item.item-index c.item-item.result c.loop-item-test.true c.item-item.is in
    let others =
    each_listed shape g.T.Shaped.data.is_value lists g.T.Shaped.data.same g.T.Shaped.data.in_order g.T.Shaped.data.lawful rest
    (subst (All g.T.Shaped.data.is_value) (drop-map (g.W.Part.of c.args.which.now) (c.loop-item.item-index + 1) c.args.items.now) (All-drop g.T.Shaped.data.is_value (c.loop-item.item-index + 1) (map (g.W.Part.of c.args.which.now) c.args.items.now) c.told_parts.ensures)) in
    rw (refused.1, refused.2) (
    refusal_weaker _ (λ one.
    front_overflows lists shape old (g.met.E.Encoder.of_shape c.args.encoder.now) whole rest (g.W.Part.of c.args.which.now c.item-item.result) now
    (subst (λ items. JoinsFront lists shape whole items old now) step c.loop-item.invariant.front)
    (subst (λ item. OverflowsWithListing lists shape item now) c.part.ensures one) others.0 others.1) c.in_err-encode.ensures.refused
    )

pub loop-item-preserved : goal.loop-item-preserved
loop-item-preserved g c =
    let lists = g.T.Shaped.data.lists in
    let shape = g.T.Shaped.data.shape in
    let whole = map (g.W.Part.of c.args.which.now) c.args.items.now in
    let rest = map (g.W.Part.of c.args.which.now) (drop (c.loop-item.item-index + 1) c.args.items.now) in
    let old = g.E.HoldsColumns.columns c.args.encoder.now in
    let now = g.E.HoldsColumns.columns c.loop-item.encoder in
    let step = next_behind (g.W.Part.of c.args.which.now) c.args.items.now c.loop-item.item-index c.item-item.result c.loop-item-test.true c.item-item.is in
    record {
      front =
          front_more lists shape old (g.met.E.Encoder.of_shape c.args.encoder.now) whole rest (g.W.Part.of c.args.which.now c.item-item.result) now (g.E.HoldsColumns.columns c.encode.new.self)
          (subst (λ items. JoinsFront lists shape whole items old now) step c.loop-item.invariant.front) (subst (λ item. JoinsListing lists shape item now (g.E.HoldsColumns.columns c.encode.new.self)) c.part.ensures c.in_ok-encode.ensures.joined);
      room = omega (arith, c.loop-item.invariant.room, c.in_ok-encode.ensures.room);
      form = c.encode.ensures.form ∙ c.loop-item.invariant.form;
    }

pub returns-clause-joined : goal.returns-clause-joined
returns-clause-joined g c =
    front_whole g.T.Shaped.data.lists g.T.Shaped.data.shape (g.E.HoldsColumns.columns c.args.encoder.now) (g.met.E.Encoder.of_shape c.args.encoder.now)
    (map (g.W.Part.of c.args.which.now) c.args.items.now) (map (g.W.Part.of c.args.which.now) (drop c.loop-item.item-index c.args.items.now)) (g.E.HoldsColumns.columns c.loop-item.encoder)
    c.loop-item.invariant.front (at_drop_all (map (g.W.Part.of c.args.which.now)) c.args.items.now c.loop-item.item-index (omega (arith, c.loop-item-test.false)))

pub returns-clause-room : goal.returns-clause-room
returns-clause-room g c = omega (arith, c.loop-item.invariant.room, c.loop-item.auto.item-index-end)
