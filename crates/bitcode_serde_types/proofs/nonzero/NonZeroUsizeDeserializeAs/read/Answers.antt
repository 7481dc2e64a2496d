-- Written by scripts/tables/serde_nonzero.
-- A number other than 0.
use Rattle.std.proofs.Common.{rules, ◌≡◌, false, ap, pos, refl, ◌∙◌}
use Rattle.std.proofs.lemmas.Result.{err_from_is_err_and}
use Rattle.std.specs.Int.NonZero.{non_zero_usize_get}
use Rattle.bitcode_coder.specs.Columns.{ints}
use Rattle.bitcode_coder.specs.Spelling.{natural}
use Rattle.bitcode_shapes.specs.Shape.{nonzero}
use Rattle.bitcode_shapes.proofs.CheckedLemmas.{nonzero_unsigned}
use Rattle.bitcode_serde.proofs.ColumnLemmas.{passed_on}
use Rattle.bitcode_serde_types.specs.Checked.{nonzero_natural_tree}
use Rattle.bitcode_serde_types.specs.Refusals.{IsRefusalAt}
use Rattle.bitcode_serde_types.proofs.LeafData.{datum-U64}
use Rattle.bitcode_serde_types.proofs.NumberLemmas.{allowed_refused, refused_number, allowed_kept}
use Rattle.bitcode_serde_types.proofs.nonzero.NonZeroUsizeDeserializeAs.read.Goals as goal

pub returns-in_err-n-clause-refused : goal.returns-in_err-n-clause-refused
returns-in_err-n-clause-refused c =
    let y = err_from_is_err_and c.from_residual.result c.from_residual.ensures.1 in
    passed_on (λ e. IsRefusalAt (nonzero_natural_tree 8) c.args.place c.args.reader.now e.reason) c.from_residual.result c.in_err-n.field-0.0 y.0 y.1 y.2
    (allowed_refused (ints 8 false) nonzero c.args.place c.args.reader.now _ c.in_err-n.ensures.refused)

pub returns-in-None-clause-refused : goal.returns-in-None-clause-refused
returns-in-None-clause-refused c =
    let n = c.in_ok-n.n in
    let is = c.in-None.ensures in
    let zero : n ≡ 0 = search (rules, is) in
    passed_on (λ e. IsRefusalAt (nonzero_natural_tree 8) c.args.place c.args.reader.now e.reason) c.err.result _ _ c.err.ensures refl
    (refused_number (ints 8 false) nonzero c.args.place c.args.reader.now c.read_number.new.reader _ (natural n) _ (datum-U64 n) refl
    (λ ok. ok (ap pos zero)) c.in_ok-n.ensures.entry)

pub returns-in-Some-clause-read : goal.returns-in-Some-clause-read
returns-in-Some-clause-read c =
    let n = c.in_ok-n.n in
    let is = c.in-Some.ensures in
    let same : n ≡ non_zero_usize_get c.in-Some.nonzero = search (rules, is) in
    allowed_kept (λ t. natural (non_zero_usize_get t)) (ints 8 false) nonzero c.args.place c.args.reader.now c.read_number.new.reader c.args.budget.now
    c.read_number.new.budget c.in-Some.nonzero _ (datum-U64 n ∙ ap natural same) refl
    (nonzero_unsigned c.in-Some.nonzero.value c.in-Some.nonzero.ok) c.read_number.ensures.taken c.in_ok-n.ensures.entry
