use Rattle.std.proofs.Common.{◌≡◌, ◌+◌, ◌-◌, ◌*◌, ◌/◌, ◌%◌, ◌≤◌, get_or, length, map, take, drop, refl, sym, ap, ◌∙◌, arith}
use Rattle.std.proofs.lemmas.List.{length-take, length-drop}
use Rattle.std.proofs.Math.Nat.{zero-mul, add-mul}
use Rattle.std.specs.List.{range_with_len}
use Rattle.bitcode_columns.specs.Digits.{digit, radix, digits_in_byte}
use Rattle.bitcode_columns.proofs.PackingLemmas.{put_size}
use Rattle.bitcode_columns.proofs.PackingLemmas.{group_fits, entries_so_far, entries_so_far-none, entries-put, entries-all, length-put, whole_and_left, none_left, few_left}
use Rattle.bitcode_columns.proofs.digits.put_groups.Goals as goal

pub loop-byte-init : goal.loop-byte-init
loop-byte-init g c = record {
  items =
      ap (λ n. map g.T.Digit.digit_of (take n c.args.entries.now)) (zero-mul (digits_in_byte c.args._base))
      ∙ sym (ap (entries_so_far c.args._base c.args.packed.now) (zero-mul (digits_in_byte c.args._base)) ∙ entries_so_far-none c.args._base c.args.packed.now);
}

pub overflow_mul-start : goal.overflow_mul-start
overflow_mul-start g c = omega (arith, group_fits (length c.args.entries.now) g.row.IN_BYTE c.loop-byte.byte c.loop-byte-test.true)

pub loop-byte-preserved : goal.loop-byte-preserved
loop-byte-preserved g c =
    let base = c.args._base in
    let byte = c.loop-byte.byte in
    let in_byte = g.row.IN_BYTE in
    let next : (byte + 1) * digits_in_byte base ≡ byte * digits_in_byte base + digits_in_byte base = omega (arith, add-mul byte 1 (digits_in_byte base)) in
    let inside : byte * in_byte ≤ length c.loop-byte.entries =
    omega (arith, group_fits (length c.args.entries.now) in_byte byte c.loop-byte-test.true) in
    let item = get_or c.args.packed.now byte 0 in
    let part : length (take (byte * in_byte + in_byte - byte * in_byte) (drop (byte * in_byte) c.loop-byte.entries)) ≡ digits_in_byte base =
    omega (
      arith,
      c.requires.in_byte,
      group_fits (length c.args.entries.now) in_byte byte c.loop-byte-test.true,
      length-take (byte * in_byte + in_byte - byte * in_byte) (drop (byte * in_byte) c.loop-byte.entries),
      length-drop (byte * in_byte) c.loop-byte.entries,
    ) in
    let put : map g.T.Digit.digit_of c.put_byte.new.entries ≡ map (digit (radix base) item) (range_with_len 0 (digits_in_byte base)) =
    c.put_byte.ensures ∙ ap (λ r. map (digit r item) (range_with_len 0 (length (take (byte * in_byte + in_byte - byte * in_byte) (drop (byte * in_byte) c.loop-byte.entries))))) c.requires.radix
    ∙ ap (λ n. map (digit (radix base) item) (range_with_len 0 n)) part in
    record {
      items = rw next
          (entries-put g.T.Digit.digit_of base c.args.packed.now byte (digits_in_byte base) (byte * in_byte) _ _ c.loop-byte.entries c.put_byte.new.entries
          (omega arith) (ap (λ n. byte * n) c.requires.in_byte) inside refl put c.loop-byte.invariant.items);
    }

pub returns-then-whole-packed : goal.returns-then-whole-packed
returns-then-whole-packed g c =
    let number = g.T.Digit.digit_of in
    let base = c.args._base in
    let packed = c.args.packed.now in
    let count = length c.args.entries.now in
    let in_byte = g.row.IN_BYTE in
    let was = c.loop-byte.entries in
    let written = c.put_digits_of.new.entries in
    let whole = count / in_byte in
    let few = count % digits_in_byte base in
    let at_end : whole ≡ count / digits_in_byte base = ap (λ n. count / n) c.requires.in_byte in
    let is_end : c.loop-byte.byte ≡ whole = omega arith in
    let start : whole * in_byte ≡ whole * digits_in_byte base = ap (λ n. whole * n) c.requires.in_byte in
    let all : whole * digits_in_byte base + few ≡ count = whole_and_left base count whole at_end in
    let left : length was - whole * in_byte ≡ few = omega (arith, start, all) in
    let part : length (take (length was - whole * in_byte) (drop (whole * in_byte) was)) ≡ few =
    omega (arith, left, length-take (length was - whole * in_byte) (drop (whole * in_byte) was), length-drop (whole * in_byte) was) in
    let put : map number written ≡ map (digit (radix base) (get_or packed whole 0)) (range_with_len 0 few) =
    c.put_digits_of.ensures
    ∙ ap (λ r. map (digit r (get_or packed whole 0)) (range_with_len 0 (length (take (length was - whole * in_byte) (drop (whole * in_byte) was))))) c.requires.radix
    ∙ ap (λ n. map (digit (radix base) (get_or packed whole 0)) (range_with_len 0 n)) part in
    let so_far : map number (take (whole * digits_in_byte base) was) ≡ entries_so_far base packed (whole * digits_in_byte base) =
    rw is_end at c.loop-byte.invariant.items in
    let size = put_size (whole * in_byte) (length was - whole * in_byte) was written (omega (arith, start, all))
    (omega (arith, left, length-put number (radix base) (get_or packed whole 0) few written put)) in
    entries-all number base packed count (whole * digits_in_byte base + few) _ (size ∙ c.loop-byte.auto.entries) all c.requires.size
    (entries-put number base packed whole few (whole * in_byte) _ _ was written (few_left base count) start (omega (arith, start, all)) refl put so_far)

pub returns-else-whole-packed : goal.returns-else-whole-packed
returns-else-whole-packed g c =
    let base = c.args._base in
    let count = length c.args.entries.now in
    let byte = c.loop-byte.byte in
    let is_end : byte ≡ count / g.row.IN_BYTE = omega arith in
    let at_end : byte ≡ count / digits_in_byte base = rw c.requires.in_byte at is_end in
    entries-all g.T.Digit.digit_of base c.args.packed.now count (byte * digits_in_byte base) c.loop-byte.entries (omega arith)
    (none_left base count byte c.args.packed.now at_end c.requires.size (omega arith)) c.requires.size c.loop-byte.invariant.items
