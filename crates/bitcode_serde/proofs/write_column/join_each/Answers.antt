-- The values up to the chunk at hand were written.
use Rattle.std.proofs.Common.{◌≡◌, [], length, refl, subst, ap, map, ◌∙◌, inl, inr, arith}
use Rattle.std.proofs.lemmas.Result.{err_from_is_err_and}
use Rattle.bitcode_coder.specs.Columns.{one, beside}
use Rattle.bitcode_serde.proofs.JoiningLemmas.{JoinsSome, some_none, some_more, some_other, all_joined, all_entries, no_items, entries_beside}
use Rattle.bitcode_untyped.specs.View.{datum_of}
use Rattle.bitcode_serde.specs.ReadColumns.{kind_of}
use Rattle.bitcode_serde.proofs.write_column.join_each.Goals as goal

pub loop-rest-init : goal.loop-rest-init
loop-rest-init g c = record {
  some = some_none g.T.Case.kind c.args.values.now _ _ (g.met.E.Encoder.of_shape c.reserve.new.self ∙ g.met.T.Case.laws.one_column []) refl;
  left = c.in_ok-reserve.ensures.ok;
}

pub loop-rest-preserved : goal.loop-rest-preserved
loop-rest-preserved g c = record {
  some =
      some_more g.T.Case.kind c.args.values.now c.split_at.result.0.now c.split_at.result.1.now _ (g.E.HoldsColumns.columns c.loop-rest.column) _
      (subst (λ vs. JoinsSome g.T.Case.kind c.args.values.now vs (g.E.HoldsColumns.columns c.reserve.new.self) (g.E.HoldsColumns.columns c.loop-rest.column))
      c.split_at.ensures.by_index.0 c.loop-rest.invariant.some) c.in_ok-join_chunk.ensures.joined c.in_ok-join_chunk.ensures.entries;
  left = omega (arith, c.split_at.ensures.front_len, c.split_at.ensures.back_len, c.loop-rest.invariant.left, c.in_ok-join_chunk.ensures.room);
}

pub returns-in_err-reserve-clause-refused : goal.returns-in_err-reserve-clause-refused
returns-in_err-reserve-clause-refused g c =
    let y = err_from_is_err_and c.from_residual.result c.from_residual.ensures.1 in
    rw (y.1, y.2) (elim c.in_err-reserve.ensures.refused [
      | inl memory ↦ inl memory
      | inr h ↦ absurd (c.requires _ _ h.1)
    ])

pub returns-in_err-join_chunk-clause-refused : goal.returns-in_err-join_chunk-clause-refused
returns-in_err-join_chunk-clause-refused g c =
    let y = err_from_is_err_and c.from_residual-in_err-join_chunk.result c.from_residual-in_err-join_chunk.ensures.1 in
    rw (y.1, y.2) (elim c.in_err-join_chunk.ensures.refused [
      | inl memory ↦ inl memory
      | inr away ↦ inr (
        away.0,
        some_other g.T.Case.kind c.args.values.now c.split_at.result.0.now c.split_at.result.1.now _ _
            (subst (λ vs. JoinsSome g.T.Case.kind c.args.values.now vs (g.E.HoldsColumns.columns c.reserve.new.self) (g.E.HoldsColumns.columns c.loop-rest.column))
            c.split_at.ensures.by_index.0 c.loop-rest.invariant.some) away.1,
      )
    ])

pub returns-clause-joined : goal.returns-clause-joined
returns-clause-joined g c =
    let none : length c.loop-rest.rest.now ≡ 0 = grind (arith, c.is_empty.ensures, c.loop-rest-test.false) in
    all_joined g.T.Case.kind c.args.values.now c.loop-rest.rest.now _ _ c.loop-rest.invariant.some (no_items c.loop-rest.rest.now none)
    ∙ ap (λ k. beside k (one (kind_of g.T.Case.kind) (map datum_of c.args.values.now))) c.reserve.ensures.columns

pub returns-clause-written : goal.returns-clause-written
returns-clause-written g c =
    entries_beside (g.E.HoldsColumns.columns c.args.column.now) _ (kind_of g.T.Case.kind) _
    (g.met.E.Encoder.of_shape c.args.column.now ∙ g.met.T.Case.laws.one_column []) (returns-clause-joined g c)

pub returns-clause-entries : goal.returns-clause-entries
returns-clause-entries g c =
    let none : length c.loop-rest.rest.now ≡ 0 = grind (arith, c.is_empty.ensures, c.loop-rest-test.false) in
    all_entries g.T.Case.kind c.args.values.now c.loop-rest.rest.now _ _ c.loop-rest.invariant.some (no_items c.loop-rest.rest.now none)
