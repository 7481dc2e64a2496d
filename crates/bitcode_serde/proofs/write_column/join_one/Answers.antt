-- One value is a list of one.
use Rattle.std.proofs.Common.{[], ◌∷◌, ap, sym, ◌∙◌}
use Rattle.std.proofs.lemmas.Result.{on_ok_weaker}
use Rattle.bitcode_serde.proofs.JoiningLemmas.{columns_joined, entries_joined, never_overflows, no_overflow, entries_beside, joins_one, all_one}
use Rattle.bitcode_serde.specs.ReadColumns.{kind_of}
use Rattle.bitcode_serde.proofs.WrittenLemmas.{if_err}
use Rattle.bitcode_serde.proofs.write_column.join_one.Goals as goal

pub returns-in-Some-clause-joined : goal.returns-in-Some-clause-joined
returns-in-Some-clause-joined g c =
    on_ok_weaker c.join.result
    (λ one. columns_joined g.T.Case.kind g.T.Case.holder g.T.Shaped.data.is_value g.T.Shaped.data.lists g.T.Shaped.data.shape g.met.T.Case.laws.datum g.met.T.Case.laws.one_column
    (c.in-Some.t.now ∷ []) (c.args.value.now ∷ []) _ _ (ap (λ v. v ∷ []) (sym c.in-Some.ensures.some)) (joins_one _ _ _ _ _ one))
    c.join.ensures.joined

pub returns-in-Some-clause-written : goal.returns-in-Some-clause-written
returns-in-Some-clause-written g c =
    on_ok_weaker c.join.result
    (λ more. entries_beside (g.E.HoldsColumns.columns c.args.column.now) _ (kind_of g.T.Case.kind) _
    (g.met.E.Encoder.of_shape c.args.column.now ∙ g.met.T.Case.laws.one_column []) more)
    (returns-in-Some-clause-joined g c)

pub returns-in-Some-clause-entries : goal.returns-in-Some-clause-entries
returns-in-Some-clause-entries g c =
    on_ok_weaker c.join.result
    (λ one. entries_joined g.T.Case.kind g.T.Case.holder g.T.Shaped.data.is_value g.T.Shaped.data.lists g.T.Shaped.data.shape g.met.T.Case.laws.datum g.met.T.Case.laws.of_case
    g.met.T.Case.laws.entry g.T.Shaped.data.lawful.of_shape (c.in-Some.t.now ∷ []) (c.args.value.now ∷ []) _ _ (ap (λ v. v ∷ []) (sym c.in-Some.ensures.some))
    (all_one g.T.Shaped.data.is_value c.in-Some.t.now c.told.ensures) (joins_one _ _ _ _ _ one))
    c.join.ensures.joined

pub returns-in-Some-clause-refused : goal.returns-in-Some-clause-refused
returns-in-Some-clause-refused g c =
    if_err _ _ c.join.result
    (λ e h. no_overflow h (c.requires c.args.column.now 1) (never_overflows g.T.Case.kind g.T.Shaped.data.lists g.T.Shaped.data.shape g.met.T.Case.laws.one_column c.in-Some.t.now _))
    c.join.ensures.refused
