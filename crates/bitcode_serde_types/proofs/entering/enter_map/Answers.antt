-- A length was taken, and its keys and values stand one step below.
use Rattle.std.proofs.Common.{refl}
use Rattle.std.proofs.lemmas.Result.{err_from_is_err_and}
use Rattle.bitcode_untyped.specs.Reads.{ReadsNoDatum}
use Rattle.bitcode_untyped.specs.ShapeTree.{ShapeTree, map_tree}
use Rattle.bitcode_untyped.specs.Walk.{length_kind}
use Rattle.bitcode_untyped.proofs.ReadLemmas.{map_stuck_length}
use Rattle.bitcode_serde.proofs.ColumnLemmas.{passed_on}
use Rattle.bitcode_serde.proofs.ValueLemmas.{asked_alike, refused_entry, still_there, continues_on, continues_stepped, enters_map}
use Rattle.bitcode_serde_types.specs.Refusals.{IsRefusalAt}
use Rattle.bitcode_serde_types.proofs.RefusalLemmas.{as_value}
use Rattle.bitcode_serde_types.proofs.entering.enter_map.Goals as goal

pub returns-in_err-taken-clause-refused : goal.returns-in_err-taken-clause-refused
returns-in_err-taken-clause-refused c =
    let y = err_from_is_err_and c.from_residual.result c.from_residual.ensures.1 in
    passed_on (λ e. (k v : ShapeTree) → IsRefusalAt (map_tree k v) c.args.place c.args.reader.now e.reason) c.from_residual.result c.in_err-taken.field-0.0 y.0 y.1 y.2
    (λ k v. as_value (map_tree k v) c.args.place c.args.reader.now _
    (refused_entry c.args.reader.now c.args.place length_kind (ReadsNoDatum (map_tree k v)) _ (λ p a stuck. map_stuck_length k v p a stuck)
    c.in_err-taken.ensures.refused))

pub step-requires-2 : goal.step-requires-2
step-requires-2 c =
    still_there c.args.reader.now c.step.new.self c.args.place
    (continues_stepped c.args.reader.now c.take_length.new.self c.step.new.self c.take_length.ensures.below c.take_length.ensures.asked
    c.in_ok-taken.ensures.sized c.step.ensures.columns c.step.ensures.asked c.in_ok-keys.ensures.kept) c.requires.place

pub returns-clause-continues : goal.returns-clause-continues
returns-clause-continues c =
    let first = continues_stepped c.args.reader.now c.take_length.new.self c.step.new.self c.take_length.ensures.below c.take_length.ensures.asked
    c.in_ok-taken.ensures.sized c.step.ensures.columns c.step.ensures.asked c.in_ok-keys.ensures.kept in
    continues_on c.args.reader.now c.step.new.self c.step-2.new.self first
    (continues_stepped c.step.new.self c.step.new.self c.step-2.new.self refl (asked_alike c.step.new.self) first.steady.sized c.step-2.ensures.columns
    c.step-2.ensures.asked c.in_ok-values.ensures.kept)

pub returns-clause-inside : goal.returns-clause-inside
returns-clause-inside c =
    let first = continues_stepped c.args.reader.now c.take_length.new.self c.step.new.self c.take_length.ensures.below c.take_length.ensures.asked
    c.in_ok-taken.ensures.sized c.step.ensures.columns c.step.ensures.asked c.in_ok-keys.ensures.kept in (
      still_there c.step.new.self c.step-2.new.self c.in_ok-keys.keys
          (continues_stepped c.step.new.self c.step.new.self c.step-2.new.self refl (asked_alike c.step.new.self) first.steady.sized c.step-2.ensures.columns
          c.step-2.ensures.asked c.in_ok-values.ensures.kept) c.in_ok-keys.ensures.found.0,
      c.in_ok-values.ensures.found.0,
    )

pub returns-clause-enters : goal.returns-clause-enters
returns-clause-enters c =
    enters_map c.args.reader.now c.take_length.new.self c.step.new.self c.step-2.new.self c.args.place c.in_ok-keys.keys c.in_ok-values.values
    c.in_ok-taken.taken.length c.in_ok-taken.taken.total c.in_ok-taken.ensures.leads c.take_length.ensures.below c.in_ok-keys.ensures.found
    c.in_ok-keys.ensures.kept c.in_ok-keys.ensures.stands c.in_ok-values.ensures.found c.in_ok-values.ensures.kept c.in_ok-values.ensures.stands
