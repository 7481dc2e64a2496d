-- The keys and the values of the pairs up to those at hand were joined; those behind them are listed by their law.
use Rattle.std.proofs.Common.{◌≡◌, ◌++◌, map, take, refl, subst, ◌∙◌, inl, inr, arith}
use Rattle.std.specs.Map.{keys_of, values_of}
use Rattle.std.specs.Map.Iter.{deref_pair}
use Rattle.std.proofs.lemmas.Result.{err_from_is_err_and}
use Rattle.bitcode_shapes.specs.LawfulLists.{each_listed}
use Rattle.bitcode_coder.proofs.EachLemmas.{JoinsFront, front_none, front_more_each, front_overflows_each}
use Rattle.bitcode_coder.proofs.RefusalLemmas.{refusal_weaker}
use Rattle.bitcode_parts.proofs.GatheredPairLemmas.{keys_taken, values_taken, as_many_left, keys_are, values_are}
use Rattle.bitcode_parts.proofs.maps.encode_gathered.Goals as goal

pub loop-first-init : goal.loop-first-init
loop-first-init g c = record {
  keys = front_none g.K.Shaped.data.lists g.K.Shaped.data.shape (g.E.HoldsColumns.columns c.args.keys.now) (g.met.E.EncodeMany.of_shape c.args.keys.now) (keys_of (g.L.LendsPairs.rest c.args.lent));
  values = front_none g.V.Shaped.data.lists g.V.Shaped.data.shape (g.F.HoldsColumns.columns c.args.values.now) (g.met.F.EncodeMany.of_shape c.args.values.now) (values_of (g.L.LendsPairs.rest c.args.lent));
  are_keys = c.requires.are.0;
  are_values = c.requires.are.1;
  keys_room = c.requires.room.0;
  values_room = c.requires.room.1;
  keys_form = refl;
  values_form = refl;
}

pub encode_part_of_each-requires-in-Some-clause-room : goal.encode_part_of_each-requires-in-Some-clause-room
encode_part_of_each-requires-in-Some-clause-room g c =
    let pairs = take c.gather_pairs-count.result c.gather_pairs-count.new.pairs in
    let rest = g.L.LendsPairs.rest c.gather_pairs-count.new.lent in
    let taken : g.L.LendsPairs.rest c.loop-first.lent ≡ map deref_pair pairs ++ rest = c.in-Some.ensures.next ∙ c.gather_pairs-count.ensures.taken in
    omega (arith, as_many_left (g.L.LendsPairs.rest c.loop-first.lent) rest pairs taken, c.loop-first.invariant.values_room)

pub loop-first-preserved : goal.loop-first-preserved
loop-first-preserved g c =
    let pairs = take c.gather_pairs-count.result c.gather_pairs-count.new.pairs in
    let left = g.L.LendsPairs.rest c.loop-first.lent in
    let rest = g.L.LendsPairs.rest c.gather_pairs-count.new.lent in
    let taken : left ≡ map deref_pair pairs ++ rest = c.in-Some.ensures.next ∙ c.gather_pairs-count.ensures.taken in
    let fewer = as_many_left left rest pairs taken in
    let was = c.loop-first.invariant in
    let keys = g.K.Shaped.data in
    let values = g.V.Shaped.data in
    let old_keys = g.E.HoldsColumns.columns c.args.keys.now in
    let old_values = g.F.HoldsColumns.columns c.args.values.now in
    let keys_now = g.E.HoldsColumns.columns c.loop-first.keys in
    let values_now = g.F.HoldsColumns.columns c.loop-first.values in
    record {
      keys =
          front_more_each keys.lists keys.shape old_keys (g.met.E.EncodeMany.of_shape c.args.keys.now) (keys_of (g.L.LendsPairs.rest c.args.lent)) (map (λ pair. pair.0.now) pairs) (keys_of rest)
          keys_now (g.E.HoldsColumns.columns c.encode_part_of_each.new.self)
          (subst (λ ks. JoinsFront keys.lists keys.shape (keys_of (g.L.LendsPairs.rest c.args.lent)) ks old_keys keys_now) (keys_taken left rest pairs taken) was.keys)
          c.in_ok-encode_part_of_each.ensures.joined;
      values =
          front_more_each values.lists values.shape old_values (g.met.F.EncodeMany.of_shape c.args.values.now) (values_of (g.L.LendsPairs.rest c.args.lent)) (map (λ pair. pair.1.now) pairs) (values_of rest)
          values_now (g.F.HoldsColumns.columns c.encode_part_of_each-in-Some.new.self)
          (subst (λ vs. JoinsFront values.lists values.shape (values_of (g.L.LendsPairs.rest c.args.lent)) vs old_values values_now) (values_taken left rest pairs taken) was.values)
          c.in_ok-encode_part_of_each-2.ensures.joined;
      are_keys = keys_are left rest pairs taken keys.is_value was.are_keys;
      are_values = values_are left rest pairs taken values.is_value was.are_values;
      keys_room = omega (arith, fewer, was.keys_room, c.in_ok-encode_part_of_each.ensures.room);
      values_room = omega (arith, fewer, was.values_room, c.in_ok-encode_part_of_each-2.ensures.room);
      keys_form = c.encode_part_of_each.ensures.form ∙ was.keys_form;
      values_form = c.encode_part_of_each-in-Some.ensures.form ∙ was.values_form;
    }

pub returns-in_err-encode_part_of_each-clause-refused : goal.returns-in_err-encode_part_of_each-clause-refused
returns-in_err-encode_part_of_each-clause-refused g c =
    let refused = err_from_is_err_and c.from_residual.result c.from_residual.ensures.1 in
    let pairs = take c.gather_pairs-count.result c.gather_pairs-count.new.pairs in
    let left = g.L.LendsPairs.rest c.loop-first.lent in
    let rest = g.L.LendsPairs.rest c.gather_pairs-count.new.lent in
    let taken : left ≡ map deref_pair pairs ++ rest = c.in-Some.ensures.next ∙ c.gather_pairs-count.ensures.taken in
    let keys = g.K.Shaped.data in
    let old = g.E.HoldsColumns.columns c.args.keys.now in
    let now = g.E.HoldsColumns.columns c.loop-first.keys in
    let others = each_listed keys.shape keys.is_value keys.lists keys.same keys.in_order g.K.Shaped.data.lawful (keys_of rest) (keys_are left rest pairs taken keys.is_value c.loop-first.invariant.are_keys) in
    rw (refused.1, refused.2) (
    refusal_weaker _ (λ some. inl (
    front_overflows_each keys.lists keys.shape old (g.met.E.EncodeMany.of_shape c.args.keys.now) (keys_of (g.L.LendsPairs.rest c.args.lent)) (map (λ pair. pair.0.now) pairs) (keys_of rest) now
    (subst (λ ks. JoinsFront keys.lists keys.shape (keys_of (g.L.LendsPairs.rest c.args.lent)) ks old now) (keys_taken left rest pairs taken) c.loop-first.invariant.keys)
    some others.0 others.1)) c.in_err-encode_part_of_each.ensures.refused
    )

pub returns-in_err-encode_part_of_each-2-clause-refused : goal.returns-in_err-encode_part_of_each-2-clause-refused
returns-in_err-encode_part_of_each-2-clause-refused g c =
    let refused = err_from_is_err_and c.from_residual-in_err-encode_part_of_each-2.result c.from_residual-in_err-encode_part_of_each-2.ensures.1 in
    let pairs = take c.gather_pairs-count.result c.gather_pairs-count.new.pairs in
    let left = g.L.LendsPairs.rest c.loop-first.lent in
    let rest = g.L.LendsPairs.rest c.gather_pairs-count.new.lent in
    let taken : left ≡ map deref_pair pairs ++ rest = c.in-Some.ensures.next ∙ c.gather_pairs-count.ensures.taken in
    let values = g.V.Shaped.data in
    let old = g.F.HoldsColumns.columns c.args.values.now in
    let now = g.F.HoldsColumns.columns c.loop-first.values in
    let others =
    each_listed values.shape values.is_value values.lists values.same values.in_order g.V.Shaped.data.lawful (values_of rest) (values_are left rest pairs taken values.is_value c.loop-first.invariant.are_values) in
    rw (refused.1, refused.2) (
    refusal_weaker _ (λ some. inr (
    front_overflows_each values.lists values.shape old (g.met.F.EncodeMany.of_shape c.args.values.now) (values_of (g.L.LendsPairs.rest c.args.lent)) (map (λ pair. pair.1.now) pairs) (values_of rest) now
    (subst (λ vs. JoinsFront values.lists values.shape (values_of (g.L.LendsPairs.rest c.args.lent)) vs old now) (values_taken left rest pairs taken) c.loop-first.invariant.values)
    some others.0 others.1)) c.in_err-encode_part_of_each-2.ensures.refused
    )
