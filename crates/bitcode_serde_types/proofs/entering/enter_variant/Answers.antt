-- An index was taken, and what its variant holds stands one step below.
use Rattle.std.proofs.Common.{◌≡◌, ◌≤◌, arith, refl}
use Rattle.std.proofs.lemmas.Result.{err_from_is_err_and}
use Rattle.bitcode_untyped.specs.Population.{count_of}
use Rattle.bitcode_untyped.specs.Reads.{ReadsNoDatum}
use Rattle.bitcode_untyped.specs.ShapeTree.{ShapeTrees, choice_tree}
use Rattle.bitcode_untyped.specs.Walk.{index_kind}
use Rattle.bitcode_untyped.proofs.ReadLemmas.{choice_stuck_index}
use Rattle.bitcode_serde.proofs.ColumnLemmas.{passed_on}
use Rattle.bitcode_serde.proofs.ValueLemmas.{refused_entry, continues_stepped, enters_choice, no_choice}
use Rattle.bitcode_serde_types.specs.FieldsWritten.{tree_count}
use Rattle.bitcode_serde_types.specs.Refusals.{IsRefusalAt}
use Rattle.bitcode_serde_types.proofs.EnteringLemmas.{tree_at_past}
use Rattle.bitcode_serde_types.proofs.RefusalLemmas.{as_value, known_of}
use Rattle.bitcode_serde_types.proofs.entering.enter_variant.Goals as goal

pub returns-in_err-taken-clause-refused : goal.returns-in_err-taken-clause-refused
returns-in_err-taken-clause-refused c =
    let old = c.args.reader.now in
    let y = err_from_is_err_and c.from_residual.result c.from_residual.ensures.1 in
    passed_on (λ e. (ss : ShapeTrees) → tree_count ss ≡ c.args.variants → IsRefusalAt (choice_tree ss) c.args.place old e.reason) c.from_residual.result
    c.in_err-taken.field-0.0 y.0 y.1 y.2
    (λ ss is. as_value (choice_tree ss) c.args.place old _
    (refused_entry old c.args.place index_kind (ReadsNoDatum (choice_tree ss)) _ (λ p a stuck. choice_stuck_index ss p a stuck) c.in_err-taken.ensures.refused))

pub returns-clause-continues : goal.returns-clause-continues
returns-clause-continues c =
    continues_stepped c.args.reader.now c.take_index.new.self c.step.new.self c.take_index.ensures.below c.take_index.ensures.asked
    c.in_ok-taken.ensures.sized c.step.ensures.columns c.step.ensures.asked c.in_ok-inside.ensures.kept

pub returns-clause-enters : goal.returns-clause-enters
returns-clause-enters c =
    enters_choice c.args.reader.now c.take_index.new.self c.step.new.self c.args.place c.in_ok-inside.inside c.in_ok-taken.taken.index
    c.in_ok-taken.taken.count c.in_ok-taken.ensures.leads c.take_index.ensures.below c.in_ok-inside.ensures.found c.in_ok-inside.ensures.stands

pub returns-then-index-variants-clause-refused : goal.returns-then-index-variants-clause-refused
returns-then-index-variants-clause-refused c =
    let old = c.args.reader.now in
    let i = c.in_ok-taken.taken.index in
    passed_on (λ e. (ss : ShapeTrees) → tree_count ss ≡ c.args.variants → IsRefusalAt (choice_tree ss) c.args.place old e.reason) c.err.result _ _ c.err.ensures refl
    (λ ss is.
    let past : tree_count ss ≤ i = omega (arith, is) in (
      known_of (choice_tree ss) c.args.unknown c.requires.unknown,
      λ other. no_choice ss i old c.take_index.new.self c.args.place (λ entries. c.in_ok-taken.taken.count ≡ count_of i entries) (tree_at_past ss i past)
          c.in_ok-taken.ensures.leads,
    ))
