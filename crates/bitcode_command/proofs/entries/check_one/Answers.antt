-- What is strictly spelled is spelled.
use Rattle.std.proofs.lemmas.Result.{on_ok_weaker}
use Rattle.bitcode_schema.specs.Forms.{shape_of}
use Rattle.bitcode_command.proofs.EntryLemmas.{spelled_strictly}
use Rattle.bitcode_command.proofs.entries.check_one.Goals as goal

pub returns-then-strict : goal.returns-then-strict
returns-then-strict c =
    on_ok_weaker c.check_value_strict.result (spelled_strictly (shape_of c.args.schema.now.root) c.args.bytes.now) c.check_value_strict.ensures.spelled
