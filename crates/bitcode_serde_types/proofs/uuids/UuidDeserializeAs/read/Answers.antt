-- A list of sixteen bytes.
use Rattle.std.proofs.Common.{ap, ◌∙◌, arith}
use Rattle.std.proofs.lemmas.Result.{err_from_is_err_and}
use Rattle.bitcode_coder.specs.Spelling.{natural}
use Rattle.bitcode_serde.proofs.ColumnLemmas.{passed_on}
use Rattle.bitcode_serde_types.specs.Lists.{list_datum}
use Rattle.bitcode_serde_types.specs.Refusals.{IsRefusalAt}
use Rattle.bitcode_serde_types.specs.Uuids.{uuid_tree, uuid_datum}
use Rattle.bitcode_serde_types.proofs.KeptLemmas.{kept_while_left}
use Rattle.bitcode_serde_types.proofs.uuids.UuidDeserializeAs.read.Goals as goal

pub returns-in_err-bytes-clause-refused : goal.returns-in_err-bytes-clause-refused
returns-in_err-bytes-clause-refused c =
    let y = err_from_is_err_and c.from_residual.result c.from_residual.ensures.1 in
    passed_on (λ e. IsRefusalAt uuid_tree c.args.place c.args.reader.now e.reason) c.from_residual.result c.in_err-bytes.field-0.0 y.0 y.1 y.2
    c.in_err-bytes.ensures.refused

pub returns-in-Ok-clause-read : goal.returns-in-Ok-clause-read
returns-in-Ok-clause-read c =
    kept_while_left _ (λ v. list_datum natural v.items) uuid_datum _ c.args.budget.now _ c.in_ok-bytes.bytes c.from_bytes.result
    (λ left. ap uuid_datum (c.from_bytes.ensures ∙ c.in-Ok.ensures.0)) c.in_ok-bytes.ensures.read

pub returns-in-Err-clause-read : goal.returns-in-Err-clause-read
returns-in-Err-clause-read c =
    kept_while_left _ (λ v. list_datum natural v.items) uuid_datum _ c.args.budget.now _ c.in_ok-bytes.bytes c.nil.result
    (λ left.
    let all = c.in_ok-bytes.ensures.all left in
    let size = c.in_ok-bytes.bytes.ok.0 in
    absurd (c.in-Err.ensures.1 (omega (arith, size, all)))) c.in_ok-bytes.ensures.read
