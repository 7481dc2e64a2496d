-- The values before the one at hand were written.
use Rattle.std.proofs.Common.{◌≡◌, [], inl, inr, length, drop, refl, arith, ◌∙◌}
use Rattle.std.proofs.lemmas.Result.{err_from_is_err_and}
use Rattle.bitcode_serde.proofs.EntryLemmas.{found_entry}
use Rattle.bitcode_serde.proofs.JoiningLemmas.{some_none, some_next, some_other_next, all_joined, all_entries, none_left}
use Rattle.bitcode_serde.proofs.write_column.join_in_turn.Goals as goal

pub loop-value-init : goal.loop-value-init
loop-value-init g c = record {
  some = some_none g.T.Case.kind c.args.values.now _ _ (g.met.E.Encoder.of_shape c.args.column.now ∙ g.met.T.Case.laws.one_column []) refl;
  left = omega (arith, c.requires);
}

pub join_next-requires : goal.join_next-requires
join_next-requires g c = omega (arith, c.loop-value.invariant.left, c.loop-value-test.true)

pub loop-value-preserved : goal.loop-value-preserved
loop-value-preserved g c =
    let i = c.loop-value.value-index in
    let there = found_entry c.args.values.now i c.value-item.result c.loop-value-test.true c.value-item.is in record {
      some =
          some_next g.T.Case.kind c.args.values.now i c.value-item.result _ (g.E.HoldsColumns.columns c.loop-value.column) _ there
          c.loop-value.invariant.some c.in_ok-join_next.ensures.joined c.in_ok-join_next.ensures.entries;
      left = omega (arith, c.loop-value.invariant.left, c.in_ok-join_next.ensures.room);
    }

pub returns-in_err-join_next-clause-refused : goal.returns-in_err-join_next-clause-refused
returns-in_err-join_next-clause-refused g c =
    let i = c.loop-value.value-index in
    let there = found_entry c.args.values.now i c.value-item.result c.loop-value-test.true c.value-item.is in
    let y = err_from_is_err_and c.from_residual.result c.from_residual.ensures.1 in
    rw (y.1, y.2) (elim c.in_err-join_next.ensures.refused [
      | inl memory ↦ inl memory
      | inr away ↦ inr (away.0, some_other_next g.T.Case.kind c.args.values.now i c.value-item.result _ _ there c.loop-value.invariant.some away.1)
    ])

pub returns-clause-joined : goal.returns-clause-joined
returns-clause-joined g c =
    let i = c.loop-value.value-index in
    let none : length c.args.values.now ≡ i = omega arith in
    all_joined g.T.Case.kind c.args.values.now (drop i c.args.values.now) _ _ c.loop-value.invariant.some (none_left c.args.values.now i none)

pub returns-clause-entries : goal.returns-clause-entries
returns-clause-entries g c =
    let i = c.loop-value.value-index in
    let none : length c.args.values.now ≡ i = omega arith in
    all_entries g.T.Case.kind c.args.values.now (drop i c.args.values.now) _ _ c.loop-value.invariant.some (none_left c.args.values.now i none)
