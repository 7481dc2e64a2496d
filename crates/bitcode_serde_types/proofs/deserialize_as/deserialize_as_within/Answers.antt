-- What was read from the root under a limit, and the laws of what is spelled.
use Rattle.std.proofs.Common.{◌≤◌, sym, subst, ◌∙◌, refl}
use Rattle.bitcode_untyped.specs.Nodes.{node_count}
use Rattle.bitcode_untyped.specs.Spelling.{SpellsDatum}
use Rattle.bitcode_untyped.proofs.LawLemmas.{datum_takes_an_eighth, elements_are_bounded}
use Rattle.bitcode_serde.specs.Budget.{IsLeft}
use Rattle.bitcode_serde.proofs.BudgetLemmas.{within_limit, over_limit}
use Rattle.bitcode_serde.proofs.ColumnLemmas.{passed_on}
use Rattle.bitcode_serde.proofs.WholeLemmas.{one_spelled}
use Rattle.bitcode_serde_types.specs.Refusals.{IsRefusalWithin}
use Rattle.bitcode_serde_types.proofs.RefusalLemmas.{too_many_refused}
use Rattle.bitcode_serde_types.proofs.RestatesLemmas.{kept_whole}
use Rattle.bitcode_serde_types.proofs.deserialize_as.deserialize_as_within.Goals as goal

pub returns-in_err-value-clause-unambiguous : goal.returns-in_err-value-clause-unambiguous
returns-in_err-value-clause-unambiguous g c = one_spelled (g.T.HasShape.tree 513) c.args.bytes.now

pub returns-in_err-value-clause-size_bound : goal.returns-in_err-value-clause-size_bound
returns-in_err-value-clause-size_bound g c = datum_takes_an_eighth (g.T.HasShape.tree 513) (g.T.HasShape.sound 513) c.args.bytes.now

pub returns-in_err-value-clause-bounded : goal.returns-in_err-value-clause-bounded
returns-in_err-value-clause-bounded g c = (elements_are_bounded (g.T.HasShape.tree 513) (g.T.HasShape.sound 513)).by_bytes c.args.bytes.now

pub returns-then-is_spent-clause-unambiguous : goal.returns-then-is_spent-clause-unambiguous
returns-then-is_spent-clause-unambiguous g c = one_spelled (g.T.HasShape.tree 513) c.args.bytes.now

pub returns-then-is_spent-clause-size_bound : goal.returns-then-is_spent-clause-size_bound
returns-then-is_spent-clause-size_bound g c = datum_takes_an_eighth (g.T.HasShape.tree 513) (g.T.HasShape.sound 513) c.args.bytes.now

pub returns-then-is_spent-clause-bounded : goal.returns-then-is_spent-clause-bounded
returns-then-is_spent-clause-bounded g c = (elements_are_bounded (g.T.HasShape.tree 513) (g.T.HasShape.sound 513)).by_bytes c.args.bytes.now

pub returns-clause-unambiguous : goal.returns-clause-unambiguous
returns-clause-unambiguous g c = one_spelled (g.T.HasShape.tree 513) c.args.bytes.now

pub returns-clause-size_bound : goal.returns-clause-size_bound
returns-clause-size_bound g c = datum_takes_an_eighth (g.T.HasShape.tree 513) (g.T.HasShape.sound 513) c.args.bytes.now

pub returns-clause-bounded : goal.returns-clause-bounded
returns-clause-bounded g c = (elements_are_bounded (g.T.HasShape.tree 513) (g.T.HasShape.sound 513)).by_bytes c.args.bytes.now

pub returns-then-is_spent-clause-refused : goal.returns-then-is_spent-clause-refused
returns-then-is_spent-clause-refused g c =
    let k = c.in_ok-value.ensures.read in
    let spells = SpellsDatum (g.T.HasShape.tree 513) c.args.bytes.now in
    passed_on (λ e. IsRefusalWithin (g.T.HasShape.tree 513) c.args.limit spells e.reason) c.err.result _ _ c.err.ensures refl
    (too_many_refused (g.T.HasShape.tree 513) c.args.limit spells k.datum k.read (over_limit (node_count k.datum) c.args.limit (sym k.taken ∙ c.if-is_spent.ensures)))

pub returns-clause-within : goal.returns-clause-within
returns-clause-within g c = λ d spelled.
    let k = c.in_ok-value.ensures.read in
    let left : IsLeft c.read_whole.new.budget = c.if-is_spent.ensures in
    subst (λ e. node_count e ≤ c.args.limit) (one_spelled (g.T.HasShape.tree 513) c.args.bytes.now k.datum d k.read spelled)
    (within_limit (node_count k.datum) c.args.limit (subst IsLeft k.taken left))

pub returns-clause-read : goal.returns-clause-read
returns-clause-read g c =
    let k = c.in_ok-value.ensures.read in
    let left : IsLeft c.read_whole.new.budget = c.if-is_spent.ensures in
    (k.datum, k.read, k.same left)

pub returns-clause-exact : goal.returns-clause-exact
returns-clause-exact g c = λ none.
    let k = c.in_ok-value.ensures.read in
    let s = g.T.HasShape.tree 513 in
    let left : IsLeft c.read_whole.new.budget = c.if-is_spent.ensures in
    subst (SpellsDatum s c.args.bytes.now) (sym (kept_whole s none k.datum (g.T.HasShape.datum c.in_ok-value.value) (k.same left))) k.read
