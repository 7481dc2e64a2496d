-- The first fields, and then the others.
use Rattle.std.proofs.Common.{arith, ◌≡◌, ◌+◌, subst}
use Rattle.std.specs.Prelude.{Err}
use Rattle.std.proofs.lemmas.Result.{err_from_is_err_and}
use Rattle.bitcode_serde_types.specs.DeepFaults.{deep_faults_of_fields}
use Rattle.bitcode_serde_types.specs.FieldsWritten.{tree_count}
use Rattle.bitcode_serde_types.specs.Joined.{joined, joined_data}
use Rattle.bitcode_serde_types.proofs.FieldLemmas.{tuple_outcome}
use Rattle.bitcode_serde_types.proofs.JoinedLemmas.{TreesOutcome, front_refused, parts_written}
use Rattle.bitcode_serde_types.proofs.PartsRead.{joined_count}
use Rattle.bitcode_serde_types.proofs.parts.write_in_parts.Goals as goal

pub returns-in_err-write_fields : goal.returns-in_err-write_fields
returns-in_err-write_fields g c =
    let ps = g.P.HasShapes.trees c.args.left in
    let rs = g.R.HasShapes.trees c.args.left in
    let ds = g.P.HasShapes.content c.args.first.now in
    let es = g.R.HasShapes.content c.args.rest.now in
    let first = c.requires.first in
    let all = c.requires.all in
    let total : c.args.count ≡ tree_count (joined ps rs) = omega (arith, joined_count ps rs, first, all) in
    let old = c.args.writer.now in
    let new = c.write_fields.new.writer in
    let e = c.in_err-write_fields.field-0.0 in
    let y = err_from_is_err_and c.from_residual.result c.from_residual.ensures.1 in
    rw (y.1, y.2)
    (tuple_outcome old new (joined ps rs) c.args.place (joined_data ds es) (deep_faults_of_fields (joined ps rs) (joined_data ds es)) (Err e)
    (subst (λ k. TreesOutcome {A = Unit {0}} old (joined ps rs) c.args.place 0 k (joined_data ds es) (Err e) new) total
    (front_refused old new ps rs c.args.place 0 c.args.count ds es e c.requires.as_many c.in_err-write_fields.ensures)))

pub returns : goal.returns
returns g c =
    let ps = g.P.HasShapes.trees c.args.left in
    let rs = g.R.HasShapes.trees c.args.left in
    let ds = g.P.HasShapes.content c.args.first.now in
    let es = g.R.HasShapes.content c.args.rest.now in
    let first = c.requires.first in
    let all = c.requires.all in
    let total : c.args.count ≡ tree_count (joined ps rs) = omega (arith, joined_count ps rs, first, all) in
    let behind : c.args.split ≡ 0 + tree_count ps = omega (arith, first) in
    let old = c.args.writer.now in
    let mid = c.write_fields.new.writer in
    let new = c.write_fields-2.new.writer in
    let r = c.write_fields-2.result in
    tuple_outcome old new (joined ps rs) c.args.place (joined_data ds es) (deep_faults_of_fields (joined ps rs) (joined_data ds es)) r
    (subst (λ k. TreesOutcome old (joined ps rs) c.args.place 0 k (joined_data ds es) r new) total
    (parts_written old mid ps rs c.args.place 0 c.args.count ds es c.in_ok-write_fields.field-0 c.in_ok-write_fields.ensures c.requires.place r new
    (subst (λ i. TreesOutcome mid rs c.args.place i c.args.count es r new) behind c.write_fields-2.ensures)))
