-- No entries have no bytes.
use Rattle.std.proofs.Common.{◌≡◌, length, map, ap, ◌∙◌, arith}
use Rattle.std.proofs.lemmas.List.{length-map}
use Rattle.bitcode_int_columns.proofs.RoomLemmas.{ok_unless, no_bytes}
use Rattle.bitcode_int_columns.proofs.pack_ints.write.write_bytes.Goals as goal

pub returns-clause-none : goal.returns-clause-none
returns-clause-none g c none room =
    let bytes = map g.B.Int.number c.deref_mut.result.now in
    let empty : length bytes ≡ 0 =
    ap length (ap (map g.B.Int.number) c.deref_mut.ensures.value ∙ c.in_ok-bytes.ensures.numbers) ∙ length-map c.args.entries.now _ ∙ none in
    ok_unless c.pack_bytes.result c.pack_bytes.ensures.full (λ full. omega (arith, full, room, no_bytes bytes empty))
