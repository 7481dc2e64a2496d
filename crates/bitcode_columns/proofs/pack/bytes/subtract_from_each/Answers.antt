use Rattle.std.proofs.Common.{map, get_or, sym, ap, ◌∙◌, arith}
use Rattle.std.specs.Prelude.{◌-ℤ◌, ◌≤ℤ◌, unsigned_abs}
use Rattle.std.proofs.lemmas.List.{take_all}
use Rattle.bitcode_memory.specs.Ints.{residue}
use Rattle.bitcode_columns.proofs.BytePackingLemmas.{get_or-of_rest, residue_of_distance, written_over_more}
use Rattle.bitcode_columns.proofs.pack.bytes.subtract_from_each.Goals as goal

pub loop-byte-preserved : goal.loop-byte-preserved
loop-byte-preserved g c =
    let number = g.T.Int.number in
    let low = number c.args.least in
    let old = c.args.bytes.now in
    let now = c.loop-byte.bytes in
    let i = c.loop-byte.byte-index in
    let item = c.byte-item.result in
    let was = c.loop-byte.invariant in
    let least_of : low ≤ℤ number (get_or now i item) = rw (get_or-of_rest old now i item was.rest) (c.requires i item (omega arith)) in
    let written = residue_of_distance g.T.Int.signed low (number (get_or now i item)) (number c.from_byte.result) c.to_byte-low.result c.to_byte.result
    c.to_byte-low.ensures.in_range c.to_byte.ensures.in_range least_of c.to_byte-low.ensures.value c.to_byte.ensures.value c.from_byte.ensures in
    let f = λ (entry : g.row.T.Denot). residue 1 (number entry) in
    let h = λ (entry : g.row.T.Denot). unsigned_abs (number entry -ℤ low) in
    let more = written_over_more f h old now i item c.from_byte.result (omega arith) (omega arith) was.done was.rest written in
    record { done = more.0; rest = more.1 }

pub returns : goal.returns
returns g c =
    let f = λ (entry : g.row.T.Denot). residue 1 (g.T.Int.number entry) in
    let h = λ (entry : g.row.T.Denot). unsigned_abs (g.T.Int.number entry -ℤ g.T.Int.number c.args.least) in
    ap (map f) (sym (take_all c.loop-byte.byte-index c.loop-byte.bytes (omega arith)))
    ∙ c.loop-byte.invariant.done
    ∙ ap (map h) (take_all c.loop-byte.byte-index c.args.bytes.now (omega arith))
