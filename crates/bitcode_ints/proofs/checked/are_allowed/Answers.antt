-- An entry that has a value is allowed.
use Rattle.std.proofs.Common.{All, subst, ◌∙◌, ap}
use Rattle.std.proofs.lemmas.List.Elements.{All-more}
use Rattle.std.proofs.lemmas.List.{take_all}
use Rattle.bitcode_memory.specs.LittleEndian.{little_endian}
use Rattle.bitcode_memory.specs.Ints.{number_of}
use Rattle.bitcode_shapes.specs.Datum.{number}
use Rattle.bitcode_shapes.specs.Shape.{IsAllowed}
use Rattle.bitcode_ints.proofs.CheckedLemmas.{value_allowed}
use Rattle.bitcode_ints.proofs.checked.are_allowed.Goals as goal

pub loop-entry-preserved : goal.loop-entry-preserved
loop-entry-preserved g c =
    let number_at = λ (entry : g.row.I-Une.Denot). number_of g.I.ColumnInt.width g.I.ColumnInt.signed (little_endian (g.I.ColumnInt.une_bytes entry)) in
    let here : IsAllowed g.C.Checked.allowed (g.I.ColumnInt.number c.from_unaligned.result) =
    value_allowed _ (λ t. g.C.Shaped.data.makes (number (g.I.ColumnInt.number c.from_unaligned.result)) t) c.from_bits.result c.if-is_none.ensures c.from_bits.ensures in
    All-more (λ entry. IsAllowed g.C.Checked.allowed (number_at entry)) c.args.entries.now c.loop-entry.entry-index c.entry-item.result
    c.loop-entry-test.true c.loop-entry.invariant
    (subst (IsAllowed g.C.Checked.allowed) (c.from_unaligned.ensures ∙ ap number_at c.entry-item.is) here)

pub returns : goal.returns
returns g c =
    let P = λ (entry : g.row.I-Une.Denot). IsAllowed g.C.Checked.allowed (number_of g.I.ColumnInt.width g.I.ColumnInt.signed (little_endian (g.I.ColumnInt.une_bytes entry))) in
    subst (All P) (take_all c.loop-entry.entry-index c.args.entries.now c.loop-entry-test.false) c.loop-entry.invariant
