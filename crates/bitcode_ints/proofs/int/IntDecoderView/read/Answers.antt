-- The entries that were read, as data.
use Rattle.bitcode_memory.specs.LittleEndian.{little_endian}
use Rattle.bitcode_memory.specs.Fast.{cow_rest}
use Rattle.bitcode_ints.proofs.IntLemmas.{ints_read_ok, ints_refused_err, ints_exact, ints_judged}
use Rattle.bitcode_ints.proofs.int.IntDecoderView.read.Goals as goal

pub returns-clause-read : goal.returns-clause-read
returns-clause-read g c =
    ints_read_ok c.unpack.result (λ u. little_endian (g.T.ColumnInt.une_bytes u)) g.T.ColumnInt.width g.T.ColumnInt.signed c.args.k c.args.input.now.now
    (cow_rest c.unpack.new.out) c.unpack.new.input.now g.met.T.ColumnInt.width_law c.unpack.ensures.read c.unpack.ensures.in_width

pub returns-clause-refused : goal.returns-clause-refused
returns-clause-refused g c =
    ints_refused_err c.unpack.result g.T.ColumnInt.width g.T.ColumnInt.signed c.args.k c.args.input.now.now c.unpack.ensures.refused

pub returns-clause-exact : goal.returns-clause-exact
returns-clause-exact g c =
    ints_exact c.unpack.result g.T.ColumnInt.width g.T.ColumnInt.signed c.args.k c.args.input.now.now c.unpack.ensures.refused c.unpack.ensures.raw

pub returns-clause-judged : goal.returns-clause-judged
returns-clause-judged g c strict =
    ints_judged c.unpack.result (λ u. little_endian (g.T.ColumnInt.une_bytes u)) g.T.ColumnInt.width g.T.ColumnInt.signed c.args.k c.args.input.now.now
    (cow_rest c.unpack.new.out) c.unpack.new.input.now c.unpack.ensures.read c.unpack.ensures.in_width (c.unpack.ensures.judged strict)
