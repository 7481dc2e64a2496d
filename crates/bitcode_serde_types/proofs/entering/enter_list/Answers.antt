-- A length was taken, and its elements stand one step below.
use Rattle.std.proofs.Common.{◌≡◌, sym, refl, ◌∙◌}
use Rattle.std.proofs.lemmas.Result.{err_from_is_err_and}
use Rattle.bitcode_untyped.specs.Bounds.{column_free}
use Rattle.bitcode_untyped.specs.Reads.{ReadsNoDatum}
use Rattle.bitcode_untyped.specs.ShapeTree.{ShapeTree, seq_tree}
use Rattle.bitcode_untyped.specs.Walk.{length_kind}
use Rattle.bitcode_untyped.proofs.ReadLemmas.{seq_stuck_length}
use Rattle.bitcode_serde.proofs.ColumnLemmas.{passed_on}
use Rattle.bitcode_serde.proofs.ValueLemmas.{refused_entry, continues_stepped, enters_list}
use Rattle.bitcode_serde_types.specs.Refusals.{IsRefusalAt}
use Rattle.bitcode_serde_types.proofs.EnteringLemmas.{over_limit_refused}
use Rattle.bitcode_serde_types.proofs.RefusalLemmas.{as_value}
use Rattle.bitcode_serde_types.proofs.entering.enter_list.Goals as goal

pub returns-in_err-taken-clause-refused : goal.returns-in_err-taken-clause-refused
returns-in_err-taken-clause-refused c =
    let old = c.args.reader.now in
    let y = err_from_is_err_and c.from_residual.result c.from_residual.ensures.1 in
    passed_on (λ e. (s : ShapeTree) → c.args.is_free ≡ column_free s → IsRefusalAt (seq_tree s) c.args.place old e.reason) c.from_residual.result
    c.in_err-taken.field-0.0 y.0 y.1 y.2
    (λ s is. as_value (seq_tree s) c.args.place old _
    (refused_entry old c.args.place length_kind (ReadsNoDatum (seq_tree s)) _ (λ p a stuck. seq_stuck_length s p a stuck) c.in_err-taken.ensures.refused))

pub returns-clause-continues : goal.returns-clause-continues
returns-clause-continues c =
    continues_stepped c.args.reader.now c.take_length.new.self c.step.new.self c.take_length.ensures.below c.take_length.ensures.asked
    c.in_ok-taken.ensures.sized c.step.ensures.columns c.step.ensures.asked c.in_ok-elements.ensures.kept

pub returns-clause-enters : goal.returns-clause-enters
returns-clause-enters c =
    enters_list c.args.reader.now c.take_length.new.self c.step.new.self c.args.place c.in_ok-elements.elements c.in_ok-taken.taken.length
    c.in_ok-taken.taken.total c.in_ok-taken.ensures.leads c.take_length.ensures.below c.in_ok-elements.ensures.found c.in_ok-elements.ensures.stands

pub returns-then-taken-gt-ZST_LIMIT-clause-refused : goal.returns-then-taken-gt-ZST_LIMIT-clause-refused
returns-then-taken-gt-ZST_LIMIT-clause-refused c =
    passed_on (λ e. (s : ShapeTree) → c.args.is_free ≡ column_free s → IsRefusalAt (seq_tree s) c.args.place c.args.reader.now e.reason) c.err.result _ _
    c.err.ensures refl
    (λ s is. over_limit_refused s c.args.place c.in_ok-taken.taken.length c.in_ok-taken.taken.total c.args.reader.now c.take_length.new.self _
    (sym is ∙ c.if-is_free.true) c.if-taken-gt-ZST_LIMIT.true tt c.in_ok-taken.ensures.leads)
