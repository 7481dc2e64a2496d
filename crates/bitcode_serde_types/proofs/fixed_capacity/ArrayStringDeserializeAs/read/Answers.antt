-- A text that fits.
use Rattle.std.proofs.Common.{ap, refl}
use Rattle.std.proofs.lemmas.Bool.{false≢true}
use Rattle.std.proofs.lemmas.Result.{err_from_is_err_and}
use Rattle.bitcode_shapes.specs.Datum.{text}
use Rattle.bitcode_untyped.specs.ShapeTree.{text_tree}
use Rattle.bitcode_serde.proofs.ColumnLemmas.{passed_on}
use Rattle.bitcode_serde_types.specs.Limited.{fits_in, array_string_tree, array_string_datum}
use Rattle.bitcode_serde_types.specs.Refusals.{IsRefusalAt}
use Rattle.bitcode_serde_types.proofs.NotedLemmas.{noted_refused_too, short_text_kept, long_text_refused}
use Rattle.bitcode_serde_types.proofs.fixed_capacity.ArrayStringDeserializeAs.read.Goals as goal

pub returns-in_err-words-clause-refused : goal.returns-in_err-words-clause-refused
returns-in_err-words-clause-refused g c =
    let y = err_from_is_err_and c.from_residual.result c.from_residual.ensures.1 in
    passed_on (λ e. IsRefusalAt (array_string_tree g.row.N) c.args.place c.args.reader.now e.reason) c.from_residual.result c.in_err-words.field-0.0 y.0 y.1 y.2
    (noted_refused_too (fits_in g.row.N) text_tree c.args.place c.args.reader.now _ c.in_err-words.ensures.refused)

pub returns-in-Err-clause-refused : goal.returns-in-Err-clause-refused
returns-in-Err-clause-refused g c =
    passed_on (λ e. IsRefusalAt (array_string_tree g.row.N) c.args.place c.args.reader.now e.reason) c.err.result _ _ c.err.ensures refl
    (long_text_refused g.row.N c.args.place c.args.reader.now c.read_text.new.reader c.in_ok-words.words.now c.in_ok-words.ensures.entry (λ fits. false≢true (c.in-Err.ensures.variant.1 fits)))

pub returns-in-Ok-clause-read : goal.returns-in-Ok-clause-read
returns-in-Ok-clause-read g c =
    short_text_kept g.row.N c.args.place c.args.reader.now c.read_text.new.reader c.in_ok-words.words.now c.in_ok-words.ensures.entry array_string_datum
    c.args.budget.now c.read_text.new.budget c.in-Ok.string (ap text c.in-Ok.ensures.ok) c.read_text.ensures.taken (c.in-Ok.ensures.variant.0 refl)
