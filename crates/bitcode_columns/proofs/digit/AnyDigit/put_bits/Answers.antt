use Rattle.std.proofs.Common.{◌/◌, ◌%◌, map, ap, ◌∙◌, arith}
use Rattle.bitcode_columns.specs.Digits.{digit}
use Rattle.bitcode_memory.specs.Ints.{residue}
use Rattle.bitcode_columns.proofs.BitLemmas.{bit_is}
use Rattle.bitcode_columns.proofs.digit.AnyDigit.put_bits.Goals as goal

pub returns : goal.returns
returns g c =
    let byte = c.args.byte in
    let bit0 = bit_is g.T.Int.signed (byte % 2) (digit 2 byte 0) (g.T.Int.number c.from_byte.result) c.from_byte.ensures (omega arith) (omega arith) in
    let bit1 = bit_is g.T.Int.signed (byte / 2 % 2) (digit 2 byte 1) (g.T.Int.number c.from_byte-2.result) c.from_byte-2.ensures (omega arith) (omega arith) in
    let bit2 = bit_is g.T.Int.signed (byte / 4 % 2) (digit 2 byte 2) (g.T.Int.number c.from_byte-3.result) c.from_byte-3.ensures (omega arith) (omega arith) in
    let bit3 = bit_is g.T.Int.signed (byte / 8 % 2) (digit 2 byte 3) (g.T.Int.number c.from_byte-4.result) c.from_byte-4.ensures (omega arith) (omega arith) in
    let bit4 = bit_is g.T.Int.signed (byte / 16 % 2) (digit 2 byte 4) (g.T.Int.number c.from_byte-5.result) c.from_byte-5.ensures (omega arith) (omega arith) in
    let bit5 = bit_is g.T.Int.signed (byte / 32 % 2) (digit 2 byte 5) (g.T.Int.number c.from_byte-6.result) c.from_byte-6.ensures (omega arith) (omega arith) in
    let bit6 = bit_is g.T.Int.signed (byte / 64 % 2) (digit 2 byte 6) (g.T.Int.number c.from_byte-7.result) c.from_byte-7.ensures (omega arith) (omega arith) in
    let bit7 = bit_is g.T.Int.signed (byte / 128) (digit 2 byte 7) (g.T.Int.number c.from_byte-8.result) c.from_byte-8.ensures (omega arith) (omega arith) in
    ap (map (λ entry. residue 1 (g.T.Int.number entry))) c.copy_from_slice.ensures.after ∙ rw (bit0, bit1, bit2, bit3, bit4, bit5, bit6, bit7)
