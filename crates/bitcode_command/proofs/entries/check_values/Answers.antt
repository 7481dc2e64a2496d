-- The entries are those of one array.
use Rattle.std.proofs.lemmas.Result.{on_ok_weaker}
use Rattle.bitcode_command.proofs.EntryLemmas.{node_entries}
use Rattle.bitcode_command.proofs.entries.check_values.Goals as goal

pub returns : goal.returns
returns c =
    on_ok_weaker c.check_one.result
    (node_entries c.args.node c.args.count c.in_ok-element.element c.in_ok-schema.schema.root c.args.bytes.now c.in_ok-element.ensures.ok c.in_ok-schema.ensures.kept.0)
    c.check_one.ensures
