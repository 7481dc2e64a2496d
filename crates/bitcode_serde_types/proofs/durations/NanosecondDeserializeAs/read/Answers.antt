-- A number below one second.
use Rattle.std.proofs.Common.{false, ap, refl, sym, ◌∙◌}
use Rattle.std.proofs.lemmas.Result.{err_from_is_err_and}
use Rattle.bitcode_coder.specs.Columns.{ints}
use Rattle.bitcode_coder.specs.Spelling.{natural}
use Rattle.bitcode_shapes.specs.Checked.{below_second}
use Rattle.bitcode_serde.proofs.ColumnLemmas.{passed_on}
use Rattle.bitcode_serde_types.specs.Durations.{nanosecond_tree}
use Rattle.bitcode_serde_types.specs.Refusals.{IsRefusalAt}
use Rattle.bitcode_serde_types.proofs.LeafData.{datum-U32}
use Rattle.bitcode_serde_types.proofs.NumberLemmas.{allowed_refused, refused_number, allowed_kept, below_a_second, is_below_second}
use Rattle.bitcode_serde_types.proofs.durations.NanosecondDeserializeAs.read.Goals as goal

pub returns-in_err-number-clause-refused : goal.returns-in_err-number-clause-refused
returns-in_err-number-clause-refused c =
    let y = err_from_is_err_and c.from_residual.result c.from_residual.ensures.1 in
    passed_on (λ e. IsRefusalAt nanosecond_tree c.args.place c.args.reader.now e.reason) c.from_residual.result c.in_err-number.field-0.0 y.0 y.1 y.2
    (allowed_refused (ints 4 false) below_second c.args.place c.args.reader.now _ c.in_err-number.ensures.refused)

pub returns-in-None-clause-refused : goal.returns-in-None-clause-refused
returns-in-None-clause-refused c =
    let n = c.in_ok-number.number in
    passed_on (λ e. IsRefusalAt nanosecond_tree c.args.place c.args.reader.now e.reason) c.err.result _ _ c.err.ensures refl
    (refused_number (ints 4 false) below_second c.args.place c.args.reader.now c.read_number.new.reader _ (natural n) _ (datum-U32 n) refl
    (λ ok. c.in-None.ensures (is_below_second n ok)) c.in_ok-number.ensures.entry)

pub returns-in-Some-clause-read : goal.returns-in-Some-clause-read
returns-in-Some-clause-read c =
    let n = c.in_ok-number.number in
    allowed_kept (λ t. natural t.nanos) (ints 4 false) below_second c.args.place c.args.reader.now c.read_number.new.reader c.args.budget.now
    c.read_number.new.budget c.in-Some.nanos _ (datum-U32 n ∙ ap natural (sym c.in-Some.ensures.1)) refl
    (below_a_second c.in-Some.nanos.nanos c.in-Some.nanos.below_one_second) c.read_number.ensures.taken c.in_ok-number.ensures.entry
