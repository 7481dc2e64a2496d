use Rattle.std.proofs.Common.{◌+◌, ◌*◌, ◌%◌, ◌<◌, get_or, refl, arith}
use Rattle.bitcode_columns.proofs.TableLemmas.{counted_more, count_of_more, in_one_place, count_of_front}
use Rattle.bitcode_columns.proofs.histogram.count_each.Goals as goal

pub overflow_add-tables-in-loop-place : goal.overflow_add-tables-in-loop-place
overflow_add-tables-in-loop-place c =
    let place = c.loop-place.place in
    let byte = get_or c.args.bytes.now place 0 in
    let small : byte < 256 = omega (arith, c.type_inv.bytes place) in
    let table : place % 4 < 4 = omega arith in
    omega (
      arith,
      in_one_place c.loop-place.tables (place % 4) byte table small,
      c.loop-place.invariant byte small,
      c.requires byte small,
      count_of_front byte c.args.bytes.now place (omega arith),
    )

pub loop-place-preserved : goal.loop-place-preserved
loop-place-preserved c = λ value below.
    let place = c.loop-place.place in
    let byte = get_or c.args.bytes.now place 0 in
    let small : byte < 256 = omega (arith, c.type_inv.bytes place) in
    let table : place % 4 < 4 = omega arith in
    omega (
      arith,
      counted_more c.loop-place.tables (place % 4) byte value (place % 4 * 256 + byte) _ (omega arith) table small below refl refl,
      c.loop-place.invariant value below,
      count_of_more value c.args.bytes.now place 0 (omega arith),
    )
