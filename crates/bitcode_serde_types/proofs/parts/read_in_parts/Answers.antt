-- The first fields, and then the others.
use Rattle.std.proofs.Common.{arith, ◌≡◌, ◌+◌, refl, subst}
use Rattle.std.proofs.lemmas.Result.{err_from_is_err_and}
use Rattle.bitcode_untyped.specs.ShapeTree.{tuple_tree}
use Rattle.bitcode_serde.proofs.ColumnLemmas.{passed_on}
use Rattle.bitcode_serde.proofs.ValueLemmas.{continues_on, still_there}
use Rattle.bitcode_serde_types.specs.FieldsWritten.{tree_count}
use Rattle.bitcode_serde_types.specs.Joined.{joined, joined_data}
use Rattle.bitcode_serde_types.specs.ReadingAs.{ReadsFieldsAs}
use Rattle.bitcode_serde_types.specs.Refusals.{IsRefusalAt, IsFieldsRefusalAt}
use Rattle.bitcode_serde_types.proofs.PartsRead.{joined_count, first_part_refused, rest_part_refused, both_parts}
use Rattle.bitcode_serde_types.proofs.RestOfFields.{fields_refused, all_read}
use Rattle.bitcode_serde_types.proofs.parts.read_in_parts.Goals as goal

pub returns-in_err-first-clause-refused : goal.returns-in_err-first-clause-refused
returns-in_err-first-clause-refused g c =
    let ps = g.P.HasShapes.trees c.args.left in
    let rs = g.R.HasShapes.trees c.args.left in
    let first = c.requires.first in
    let all = c.requires.all in
    let total : c.args.count ≡ tree_count (joined ps rs) = omega (arith, joined_count ps rs, first, all) in
    let why = c.in_err-first.field-0.0.reason in
    let y = err_from_is_err_and c.from_residual.result c.from_residual.ensures.1 in
    passed_on (λ e. IsRefusalAt (tuple_tree (joined ps rs)) c.args.place c.args.reader.now e.reason) c.from_residual.result c.in_err-first.field-0.0 y.0 y.1 y.2
    (fields_refused (joined ps rs) c.args.place c.args.reader.now why
    (subst (λ n. IsFieldsRefusalAt (joined ps rs) c.args.place 0 n c.args.reader.now why) total
    (first_part_refused ps rs c.args.place 0 c.args.count c.args.reader.now why c.in_err-first.ensures.refused)))

pub read_fields-requires-2 : goal.read_fields-requires-2
read_fields-requires-2 g c κs =
    let k = c.in_ok-first.ensures.continues in
    let all = c.requires.all in
    ((refl, tt), (still_there c.args.reader.now c.read_fields.new.reader c.args.place k c.requires.place, (k.steady, omega (arith, all))))

pub returns-in_err-rest-clause-refused : goal.returns-in_err-rest-clause-refused
returns-in_err-rest-clause-refused g c =
    let ps = g.P.HasShapes.trees c.args.left in
    let rs = g.R.HasShapes.trees c.args.left in
    let first = c.requires.first in
    let all = c.requires.all in
    let total : c.args.count ≡ tree_count (joined ps rs) = omega (arith, joined_count ps rs, first, all) in
    let behind : c.args.split ≡ 0 + tree_count ps = omega (arith, first) in
    let mid = c.read_fields.new.reader in
    let why = c.in_err-rest.field-0.0.reason in
    let y = err_from_is_err_and c.from_residual-in_err-rest.result c.from_residual-in_err-rest.ensures.1 in
    passed_on (λ e. IsRefusalAt (tuple_tree (joined ps rs)) c.args.place c.args.reader.now e.reason) c.from_residual-in_err-rest.result c.in_err-rest.field-0.0 y.0 y.1 y.2
    (fields_refused (joined ps rs) c.args.place c.args.reader.now why
    (subst (λ n. IsFieldsRefusalAt (joined ps rs) c.args.place 0 n c.args.reader.now why) total
    (rest_part_refused ps rs c.args.place 0 c.args.count c.args.reader.now g.P.HasShapes.content c.in_ok-first.first c.take.new.self
    c.read_fields.new.budget mid c.in_ok-first.ensures.continues c.in_ok-first.ensures.read why
    (subst (λ i. IsFieldsRefusalAt rs c.args.place i c.args.count mid why) behind c.in_err-rest.ensures.refused))))

pub returns-clause-continues : goal.returns-clause-continues
returns-clause-continues g c =
    continues_on c.args.reader.now c.read_fields.new.reader c.read_fields-2.new.reader c.in_ok-first.ensures.continues c.in_ok-rest.ensures.continues

pub returns-clause-read : goal.returns-clause-read
returns-clause-read g c =
    let ps = g.P.HasShapes.trees c.args.left in
    let rs = g.R.HasShapes.trees c.args.left in
    let f = g.P.HasShapes.content in
    let h = g.R.HasShapes.content in
    let first = c.requires.first in
    let all = c.requires.all in
    let total : c.args.count ≡ tree_count (joined ps rs) = omega (arith, joined_count ps rs, first, all) in
    let behind : c.args.split ≡ 0 + tree_count ps = omega (arith, first) in
    let old = c.args.reader.now in
    let mid = c.read_fields.new.reader in
    let new = c.read_fields-2.new.reader in
    let between = c.read_fields.new.budget in
    let after = c.read_fields-2.new.budget in
    let both : g.row.P.Denot × g.row.R.Denot = (c.in_ok-first.first, c.in_ok-rest.rest) in
    all_read (joined ps rs) c.args.place old (λ t. joined_data (f t.0) (h t.1)) both c.args.budget.now c.take.new.self new after c.take.ensures
    (subst (λ n. ReadsFieldsAs (λ t. joined_data (f t.0) (h t.1)) (joined ps rs) c.args.place 0 n old c.take.new.self both new after) total
    (both_parts ps rs c.args.place 0 c.args.count old f c.in_ok-first.first c.take.new.self between mid c.in_ok-first.ensures.continues
    c.in_ok-first.ensures.read h c.in_ok-rest.rest new after
    (subst (λ i. ReadsFieldsAs h rs c.args.place i c.args.count mid between c.in_ok-rest.rest new after) behind c.in_ok-rest.ensures.read)))
