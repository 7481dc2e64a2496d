use Rattle.std.proofs.Common.{◌≡◌, ◌*◌, ◌/◌, ◌<◌, length, drop, refl, arith}
use Rattle.std.proofs.Math.Nat.{div-mul-le_self}
use Rattle.std.proofs.lemmas.List.{append-nil}
use Rattle.bitcode_columns.specs.Digits.{digits_in_byte}
use Rattle.bitcode_columns.proofs.PackingLemmas.{packed_so_far-none, packed_push, group_digits, left_is_byte, packed-none_left, packed-left}
use Rattle.bitcode_columns.proofs.digits.push_digits.Goals as goal

pub loop-byte-init : goal.loop-byte-init
loop-byte-init g c = record {
  items = rw (packed_so_far-none, append-nil);
  room = omega (arith, c.requires.room);
}

pub whole_byte-requires : goal.whole_byte-requires
whole_byte-requires g c =
    let base = c.args.base in
    let entries = c.args.entries.now in
    record {
      size = omega (arith, c.group-digits.ensures.len, c.digits_in_byte-in_byte.ensures);
      digits = rw (c.group-digits.ensures.items, c.digits_in_byte-in_byte.ensures)
          (group_digits g.T.Digit.digit_of base entries (drop (c.loop-byte.byte * digits_in_byte base) entries) c.loop-byte.byte refl c.requires.digits);
    }

pub loop-byte-preserved : goal.loop-byte-preserved
loop-byte-preserved g c =
    let base = c.args.base in
    let entries = c.args.entries.now in
    let byte = c.loop-byte.byte in
    let was = c.loop-byte.invariant in
    let in_byte = c.digits_in_byte-in_byte.ensures in
    let among : byte < length entries / c.digits_in_byte-in_byte.result = omega arith in
    record {
      items = rw c.push_reserved.ensures.items
          (packed_push g.T.Digit.digit_of base entries (drop (byte * digits_in_byte base) entries) byte refl c.whole_byte.result c.args.out.items c.loop-byte.out.items
          (rw (c.group-digits.ensures.items, in_byte) at c.whole_byte.ensures) was.items);
      room = omega (arith, was.room, c.push_reserved.ensures.len, c.push_reserved.ensures.capacity, (rw in_byte at among));
    }

pub overflow_mul-behind : goal.overflow_mul-behind
overflow_mul-behind g c = omega (arith, div-mul-le_self (length c.args.entries.now) c.digits_in_byte-in_byte.result)

pub split_at-requires : goal.split_at-requires
split_at-requires g c = omega (arith, div-mul-le_self (length c.args.entries.now) c.digits_in_byte-in_byte.result)

pub returns-then-is_empty : goal.returns-then-is_empty
returns-then-is_empty g c =
    let base = c.args.base in
    let entries = c.args.entries.now in
    let in_byte = c.digits_in_byte-in_byte.ensures in
    let at_end : c.loop-byte.byte ≡ length entries / c.digits_in_byte-in_byte.result = omega arith in
    let none : length c.split_at.result.1.now ≡ 0 = grind (arith, c.is_empty.ensures, c.if-is_empty.true) in
    let whole = packed-none_left g.T.Digit.digit_of base entries c.split_at.result.1.now (length entries / digits_in_byte base)
    (rw in_byte at c.split_at.ensures.back) refl none in
    rw (c.loop-byte.invariant.items, at_end, in_byte, whole)

pub number_with_digits-requires : goal.number_with_digits-requires
number_with_digits-requires g c =
    let base = c.args.base in
    let entries = c.args.entries.now in
    left_is_byte g.T.Digit.digit_of base entries c.split_at.result.1.now (length entries / digits_in_byte base)
    (rw c.digits_in_byte-in_byte.ensures at c.split_at.ensures.back) refl c.requires.digits

pub returns : goal.returns
returns g c =
    let base = c.args.base in
    let entries = c.args.entries.now in
    let in_byte = c.digits_in_byte-in_byte.ensures in
    let at_end : c.loop-byte.byte ≡ length entries / c.digits_in_byte-in_byte.result = omega arith in
    let some : 0 < length c.split_at.result.1.now = grind (arith, c.is_empty.ensures, c.if-is_empty.false) in
    rw c.push_reserved-2.ensures.items
    (packed-left g.T.Digit.digit_of base entries c.split_at.result.1.now (length entries / digits_in_byte base)
    (rw in_byte at c.split_at.ensures.back) refl some c.number_with_digits.result c.args.out.items c.loop-byte.out.items c.number_with_digits.ensures
    (rw (at_end, in_byte) at c.loop-byte.invariant.items))
