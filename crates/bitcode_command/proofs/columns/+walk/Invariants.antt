-- The input stays.
use Rattle.std.proofs.Common.{◌≡◌}
use Rattle.bitcode_command.proofs.columns.+walk.Given as goal

abbrev pub invariant-walk_fields-loop-index : goal.invariant-walk_fields-loop-index
invariant-walk_fields-loop-index l = l.to.whole.now ≡ l.initial.to.whole.now

abbrev pub invariant-walk_named-loop-field : goal.invariant-walk_named-loop-field
invariant-walk_named-loop-field l = l.to.whole.now ≡ l.initial.to.whole.now

abbrev pub invariant-walk_payloads-loop-variant : goal.invariant-walk_payloads-loop-variant
invariant-walk_payloads-loop-variant l = l.to.whole.now ≡ l.initial.to.whole.now
