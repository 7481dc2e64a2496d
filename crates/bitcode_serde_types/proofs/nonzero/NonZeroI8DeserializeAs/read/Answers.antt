-- Written by scripts/tables/serde_nonzero.
-- A number other than 0.
use Rattle.std.proofs.Common.{rules, ◌≡◌, true, ap, pos, refl, ◌∙◌}
use Rattle.std.proofs.lemmas.Result.{err_from_is_err_and}
use Rattle.std.specs.Int.NonZero.{non_zero_i8_get}
use Rattle.bitcode_coder.specs.Columns.{ints}
use Rattle.bitcode_shapes.specs.Datum.{number}
use Rattle.bitcode_shapes.specs.Shape.{nonzero}
use Rattle.bitcode_shapes.proofs.CheckedLemmas.{nonzero_signed}
use Rattle.bitcode_serde.proofs.ColumnLemmas.{passed_on}
use Rattle.bitcode_serde_types.specs.Checked.{nonzero_integer_tree}
use Rattle.bitcode_serde_types.specs.Refusals.{IsRefusalAt}
use Rattle.bitcode_serde_types.proofs.LeafData.{datum-I8}
use Rattle.bitcode_serde_types.proofs.NumberLemmas.{allowed_refused, refused_number, allowed_kept}
use Rattle.bitcode_serde_types.proofs.nonzero.NonZeroI8DeserializeAs.read.Goals as goal

pub returns-in_err-n-clause-refused : goal.returns-in_err-n-clause-refused
returns-in_err-n-clause-refused c =
    let y = err_from_is_err_and c.from_residual.result c.from_residual.ensures.1 in
    passed_on (λ e. IsRefusalAt (nonzero_integer_tree 1) c.args.place c.args.reader.now e.reason) c.from_residual.result c.in_err-n.field-0.0 y.0 y.1 y.2
    (allowed_refused (ints 1 true) nonzero c.args.place c.args.reader.now _ c.in_err-n.ensures.refused)

pub returns-in-None-clause-refused : goal.returns-in-None-clause-refused
returns-in-None-clause-refused c =
    let n = c.in_ok-n.n in
    let is = c.in-None.ensures in
    let zero : n ≡ pos 0 = search (rules, is) in
    passed_on (λ e. IsRefusalAt (nonzero_integer_tree 1) c.args.place c.args.reader.now e.reason) c.err.result _ _ c.err.ensures refl
    (refused_number (ints 1 true) nonzero c.args.place c.args.reader.now c.read_number.new.reader _ (number n) _ (datum-I8 n) refl
    (λ ok. ok zero) c.in_ok-n.ensures.entry)

pub returns-in-Some-clause-read : goal.returns-in-Some-clause-read
returns-in-Some-clause-read c =
    let n = c.in_ok-n.n in
    let is = c.in-Some.ensures in
    let same : n ≡ non_zero_i8_get c.in-Some.nonzero = search (rules, is) in
    allowed_kept (λ t. number (non_zero_i8_get t)) (ints 1 true) nonzero c.args.place c.args.reader.now c.read_number.new.reader c.args.budget.now
    c.read_number.new.budget c.in-Some.nonzero _ (datum-I8 n ∙ ap number same) refl
    (nonzero_signed c.in-Some.nonzero.value c.in-Some.nonzero.ok) c.read_number.ensures.taken c.in_ok-n.ensures.entry
