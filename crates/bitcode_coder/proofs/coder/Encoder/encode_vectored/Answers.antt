-- A listing of each value up to the one at hand was joined; those behind it are listed by their law.
use Rattle.std.proofs.Common.{All, map, drop, refl, subst, ◌+◌, ◌∙◌, arith}
use Rattle.std.proofs.lemmas.List.{at_drop_all, drop-map}
use Rattle.std.proofs.lemmas.List.Elements.{All-drop}
use Rattle.std.proofs.lemmas.Result.{err_from_is_err_and}
use Rattle.bitcode_shapes.specs.LawfulLists.{each_listed}
use Rattle.bitcode_coder.proofs.EachLemmas.{JoinsFront, front_none, front_more, front_overflows, front_whole, next_behind}
use Rattle.bitcode_coder.proofs.RefusalLemmas.{refusal_weaker}
use Rattle.bitcode_coder.proofs.coder.Encoder.encode_vectored.Goals as goal

pub loop-value-init : goal.loop-value-init
loop-value-init g c = record {
  front = front_none g.T.Shaped.data.lists g.T.Shaped.data.shape (g.Self.HoldsColumns.columns c.args.self.now) (g.met.Self.Encoder.of_shape c.args.self.now) (map (λ value. value.now) c.args.values.now);
  room = omega arith;
  form = refl;
}

pub encode-requires : goal.encode-requires
encode-requires g c = omega (arith, c.requires.room, c.loop-value.invariant.room, c.loop-value-test.true)

pub returns-in_err-encode-clause-refused : goal.returns-in_err-encode-clause-refused
returns-in_err-encode-clause-refused g c =
    let refused = err_from_is_err_and c.from_residual.result c.from_residual.ensures.1 in
    let lists = g.T.Shaped.data.lists in
    let shape = g.T.Shaped.data.shape in
    let whole = map (λ value. value.now) c.args.values.now in
    let rest = map (λ value. value.now) (drop (c.loop-value.value-index + 1) c.args.values.now) in
    let old = g.Self.HoldsColumns.columns c.args.self.now in
    let now = g.Self.HoldsColumns.columns c.loop-value.self in
    let step = next_behind (λ value. value.now) c.args.values.now c.loop-value.value-index c.value-item.result c.loop-value-test.true c.value-item.is in
    let others =
    each_listed shape g.T.Shaped.data.is_value lists g.T.Shaped.data.same g.T.Shaped.data.in_order g.T.Shaped.data.lawful rest
    (subst (All g.T.Shaped.data.is_value) (drop-map (λ value. value.now) (c.loop-value.value-index + 1) c.args.values.now) (All-drop g.T.Shaped.data.is_value (c.loop-value.value-index + 1) (map (λ value. value.now) c.args.values.now) c.told_parts.ensures)) in
    rw (refused.1, refused.2) (
    refusal_weaker _ (λ one.
    front_overflows lists shape old (g.met.Self.Encoder.of_shape c.args.self.now) whole rest c.value-item.result.now now
    (subst (λ items. JoinsFront lists shape whole items old now) step c.loop-value.invariant.front)
    one others.0 others.1) c.in_err-encode.ensures.refused
    )

pub loop-value-preserved : goal.loop-value-preserved
loop-value-preserved g c =
    let lists = g.T.Shaped.data.lists in
    let shape = g.T.Shaped.data.shape in
    let whole = map (λ value. value.now) c.args.values.now in
    let rest = map (λ value. value.now) (drop (c.loop-value.value-index + 1) c.args.values.now) in
    let old = g.Self.HoldsColumns.columns c.args.self.now in
    let now = g.Self.HoldsColumns.columns c.loop-value.self in
    let step = next_behind (λ value. value.now) c.args.values.now c.loop-value.value-index c.value-item.result c.loop-value-test.true c.value-item.is in
    record {
      front =
          front_more lists shape old (g.met.Self.Encoder.of_shape c.args.self.now) whole rest c.value-item.result.now now (g.Self.HoldsColumns.columns c.encode.new.self)
          (subst (λ items. JoinsFront lists shape whole items old now) step c.loop-value.invariant.front) c.in_ok-encode.ensures.joined;
      room = omega (arith, c.loop-value.invariant.room, c.in_ok-encode.ensures.room);
      form = c.encode.ensures.form ∙ c.loop-value.invariant.form;
    }

pub returns-clause-joined : goal.returns-clause-joined
returns-clause-joined g c =
    front_whole g.T.Shaped.data.lists g.T.Shaped.data.shape (g.Self.HoldsColumns.columns c.args.self.now) (g.met.Self.Encoder.of_shape c.args.self.now)
    (map (λ value. value.now) c.args.values.now) (map (λ value. value.now) (drop c.loop-value.value-index c.args.values.now)) (g.Self.HoldsColumns.columns c.loop-value.self)
    c.loop-value.invariant.front (at_drop_all (map (λ value. value.now)) c.args.values.now c.loop-value.value-index (omega (arith, c.loop-value-test.false)))

pub returns-clause-room : goal.returns-clause-room
returns-clause-room g c = omega (arith, c.loop-value.invariant.room, c.loop-value.auto.value-index-end)
