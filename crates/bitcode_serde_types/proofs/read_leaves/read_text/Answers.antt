-- A text is an entry of its column.
use Rattle.std.proofs.Common.{refl, None}
use Rattle.std.proofs.lemmas.Result.{err_from_is_err_and}
use Rattle.bitcode_coder.specs.Columns.{texts}
use Rattle.bitcode_shapes.specs.Datum.{text}
use Rattle.bitcode_shapes.specs.Shape.{any_number}
use Rattle.bitcode_untyped.specs.Reads.{ReadsNoDatum}
use Rattle.bitcode_untyped.specs.ShapeTree.{text_tree}
use Rattle.bitcode_untyped.proofs.ReadLemmas.{leaf_stuck}
use Rattle.bitcode_serde.specs.ReadingValues.{ReadsAt}
use Rattle.bitcode_serde.proofs.ColumnLemmas.{passed_on}
use Rattle.bitcode_serde.proofs.ValueLemmas.{refused_entry}
use Rattle.bitcode_serde_types.specs.Refusals.{IsRefusalAt}
use Rattle.bitcode_serde_types.proofs.KeptLemmas.{one_kept, leaf_led}
use Rattle.bitcode_serde_types.proofs.RefusalLemmas.{as_value}
use Rattle.bitcode_serde_types.proofs.read_leaves.read_text.Goals as goal

pub returns-in_err-words-clause-refused : goal.returns-in_err-words-clause-refused
returns-in_err-words-clause-refused c =
    let y = err_from_is_err_and c.from_residual.result c.from_residual.ensures.1 in
    passed_on (λ e. IsRefusalAt text_tree c.args.place c.args.reader.now e.reason) c.from_residual.result c.in_err-words.field-0.0 y.0 y.1 y.2
    (as_value text_tree c.args.place c.args.reader.now _
    (refused_entry c.args.reader.now c.args.place (texts None) (ReadsNoDatum text_tree) _ (λ p a stuck. leaf_stuck (texts None) any_number p a stuck)
    c.in_err-words.ensures.refused))

pub returns-clause-read : goal.returns-clause-read
returns-clause-read c =
    one_kept (λ s. text s.now) (λ d. ReadsAt text_tree c.args.place c.args.reader.now d c.take_text.new.self) c.args.budget.now c.take.new.self c.in_ok-words.words
    refl c.take.ensures
    (leaf_led (texts None) any_number c.args.place c.args.reader.now c.take_text.new.self (text c.in_ok-words.words.now) tt c.in_ok-words.ensures.leads)

pub returns-clause-entry : goal.returns-clause-entry
returns-clause-entry c =
    leaf_led (texts None) any_number c.args.place c.args.reader.now c.take_text.new.self (text c.in_ok-words.words.now) tt c.in_ok-words.ensures.leads
