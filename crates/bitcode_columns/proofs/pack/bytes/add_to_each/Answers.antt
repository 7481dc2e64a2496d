use Rattle.std.proofs.Common.{ℕ, ◌+◌, ◌%◌, ◌<◌, get_or, All, sym, subst, arith}
use Rattle.std.proofs.lemmas.List.{get_or_default}
use Rattle.std.proofs.lemmas.List.Edits.{map_over_more}
use Rattle.bitcode_columns.proofs.ByteReadingLemmas.{add_none}
use Rattle.bitcode_columns.proofs.pack.bytes.add_to_each.Goals as goal

pub loop-entry-preserved : goal.loop-entry-preserved
loop-entry-preserved c =
    let all = c.deref_mut-entry-items.result.now in
    let now = c.loop-entry.entry-items in
    let place = c.loop-entry.entry-index in
    let add : ℕ → ℕ = λ entry. (entry + c.args.number) % 256 in
    map_over_more add all now place (get_or now place 0) (omega arith) c.loop-entry.invariant (get_or_default now place 0 _ (omega arith))

pub returns-then-number-eq0 : goal.returns-then-number-eq0
returns-then-number-eq0 c =
    let below : All (λ entry. entry < 256) c.args.entries.now.items = subst (All (λ entry. entry < 256)) c.deref.ensures.value c.known_bytes.ensures in
    sym (add_none c.args.entries.now.items c.args.number (omega arith) below)
