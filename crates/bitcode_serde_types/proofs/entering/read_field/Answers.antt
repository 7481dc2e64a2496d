-- What is read at the field's own place.
use Rattle.std.proofs.Common.{rules, refl}
use Rattle.std.proofs.lemmas.Result.{err_from_is_err_and}
use Rattle.bitcode_serde.specs.Places.{places, place_at}
use Rattle.bitcode_serde.proofs.ColumnLemmas.{passed_on}
use Rattle.bitcode_serde.proofs.FieldLemmas.{field_inside}
use Rattle.bitcode_serde.proofs.ValueLemmas.{continues_on, still_there}
use Rattle.bitcode_serde_types.specs.Refusals.{IsFieldRefusalAt}
use Rattle.bitcode_serde_types.proofs.RefusalLemmas.{field_inside_refused}
use Rattle.bitcode_serde_types.proofs.entering.read_field.Goals as goal

pub read-requires : goal.read-requires
read-requires g c =
    let k = (c.in_ok-inside.ensures.found (place_at (places c.args.reader.now.places.below.items) c.args.place) (c.requires.place, refl)).0 in
    let s = c.in_ok-inside.ensures.continues.steady in
    search (rules, k, s)

pub returns-in_err-value-clause-refused : goal.returns-in_err-value-clause-refused
returns-in_err-value-clause-refused g c =
    let s = g.T.HasShape.tree c.args.left in
    let y = err_from_is_err_and c.from_residual-in_err-value.result c.from_residual-in_err-value.ensures.1 in
    passed_on (λ e. IsFieldRefusalAt s c.args.place c.args.i c.args.fields c.args.reader.now e.reason) c.from_residual-in_err-value.result
    c.in_err-value.field-0.0 y.0 y.1 y.2
    (field_inside_refused s c.args.place c.args.i c.args.fields c.args.reader.now c.field.new.self c.in_ok-inside.inside c.in_ok-inside.ensures.found
    c.in_ok-inside.ensures.stands _ c.in_err-value.ensures.refused)

pub returns-clause-continues : goal.returns-clause-continues
returns-clause-continues g c =
    continues_on c.args.reader.now c.field.new.self c.read.new.reader c.in_ok-inside.ensures.continues c.in_ok-value.ensures.continues

pub returns-clause-there : goal.returns-clause-there
returns-clause-there g c =
    still_there c.args.reader.now c.read.new.reader c.args.place
    (continues_on c.args.reader.now c.field.new.self c.read.new.reader c.in_ok-inside.ensures.continues c.in_ok-value.ensures.continues) c.requires.place

pub returns-clause-steady : goal.returns-clause-steady
returns-clause-steady g c = c.in_ok-value.ensures.continues.steady

pub returns-clause-read : goal.returns-clause-read
returns-clause-read g c =
    let k = c.in_ok-value.ensures.read in
    record {
      datum = k.datum;
      read = field_inside (g.T.HasShape.tree c.args.left) c.args.place c.args.i c.args.fields c.args.reader.now c.field.new.self c.in_ok-inside.inside
          c.in_ok-inside.ensures.found c.in_ok-inside.ensures.stands k.datum c.read.new.reader k.read;
      taken = k.taken;
      same = k.same;
    }
