-- What the check finds is what the bytes spell.
use Rattle.std.proofs.lemmas.Result.{err_from_is_err_and}
use Rattle.bitcode_derive.proofs.DecodingLemmas.{spells_at_most_one, bounded_by_bytes}
use Rattle.bitcode_schema.specs.Forms.{shape_of}
use Rattle.bitcode_schema.proofs.CheckLemmas.{named_reason, named_refuses}
use Rattle.bitcode_schema.proofs.SoundLemmas.{sound_node}
use Rattle.bitcode_schema.proofs.check.check_value.Goals as goal

pub returns-in_err-_written-clause-unambiguous : goal.returns-in_err-_written-clause-unambiguous
returns-in_err-_written-clause-unambiguous c = spells_at_most_one (shape_of c.args.schema.now.root) c.args.bytes.now

pub returns-in_err-_written-clause-bounded : goal.returns-in_err-_written-clause-bounded
returns-in_err-_written-clause-bounded c =
    bounded_by_bytes (shape_of c.args.schema.now.root) c.args.bytes.now (sound_node c.args.schema.now.root c.args.schema.now.accepted.variants)

pub returns-in_err-_written-clause-reasons : goal.returns-in_err-_written-clause-reasons
returns-in_err-_written-clause-reasons c =
    let refused = err_from_is_err_and c.from_residual.result c.from_residual.ensures.1 in
    rw (refused.1, refused.2) (named_reason (shape_of c.args.schema.now.root) c.args.bytes.now _ c.in_err-_written.ensures.exact)

pub returns-in_err-_written-clause-refused : goal.returns-in_err-_written-clause-refused
returns-in_err-_written-clause-refused c =
    let refused = err_from_is_err_and c.from_residual.result c.from_residual.ensures.1 in
    rw (refused.1, refused.2) (named_refuses (shape_of c.args.schema.now.root) c.args.bytes.now _ c.in_err-_written.ensures.exact)

pub returns-clause-spelled : goal.returns-clause-spelled
returns-clause-spelled c = let q = c.in_ok-_written.ensures.spelled in (q.0, q.1.0)

pub returns-clause-unambiguous : goal.returns-clause-unambiguous
returns-clause-unambiguous c = spells_at_most_one (shape_of c.args.schema.now.root) c.args.bytes.now

pub returns-clause-bounded : goal.returns-clause-bounded
returns-clause-bounded c =
    bounded_by_bytes (shape_of c.args.schema.now.root) c.args.bytes.now (sound_node c.args.schema.now.root c.args.schema.now.accepted.variants)
