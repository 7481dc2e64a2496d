-- Each turn puts the number of the next bytes behind the others.
use Rattle.std.proofs.Common.{map, ap, ◌∙◌, arith}
use Rattle.std.proofs.lemmas.List.{take_all}
use Rattle.bitcode_memory.specs.LittleEndian.{little_endian}
use Rattle.bitcode_memory.specs.Ints.{number_of}
use Rattle.bitcode_ints.proofs.IntLemmas.{one_value_more}
use Rattle.bitcode_ints.proofs.int.ints_of.Goals as goal

pub loop-bytes-init : goal.loop-bytes-init
loop-bytes-init g c = record {
  numbers = ap (map g.T.ColumnInt.number) c.in_ok-ints.ensures.items;
  size = c.in_ok-ints.ensures.len;
  room = c.in_ok-ints.ensures.capacity;
}

pub loop-bytes-preserved : goal.loop-bytes-preserved
loop-bytes-preserved g c = record {
  numbers =
      one_value_more g.T.ColumnInt.number (λ u. number_of g.T.ColumnInt.width g.T.ColumnInt.signed (little_endian (g.T.ColumnInt.une_bytes u)))
      c.loop-bytes.ints.items c.push_reserved.new.self.items c.from_unaligned.result c.args.unaligned.now c.loop-bytes.bytes-index c.bytes-item.result
      c.loop-bytes-test.true c.bytes-item.is c.push_reserved.ensures.items c.from_unaligned.ensures c.loop-bytes.invariant.numbers;
  size = omega (arith, c.push_reserved.ensures.len, c.loop-bytes.invariant.size);
  room = omega (arith, c.push_reserved.ensures.capacity, c.loop-bytes.invariant.room);
}

pub returns-clause-numbers : goal.returns-clause-numbers
returns-clause-numbers g c =
    c.loop-bytes.invariant.numbers
    ∙ ap (map (λ u. number_of g.T.ColumnInt.width g.T.ColumnInt.signed (little_endian (g.T.ColumnInt.une_bytes u))))
    (take_all c.loop-bytes.bytes-index c.args.unaligned.now c.loop-bytes-test.false)
