use Rattle.bitcode_memory.specs.Fast.{cow_rest}
use Rattle.bitcode_columns.proofs.BoolColumnLemmas.{bool_text-is}
use Rattle.bitcode_columns.proofs.StrictLemmas.{told_front}
use Rattle.bitcode_columns.proofs.strict.read_bools.Goals as goal

pub returns-clause-judged : goal.returns-clause-judged
returns-clause-judged c strict =
    let read = c.in_ok-unpack_bools.ensures.read in
    rw (bool_text-is (cow_rest c.unpack_bools.new.out))
    (told_front c.is_digits_text.result c.args.input.now.now c.unpack_bools.new.input.now c.taken.result.now read.piece _ read.whole
    (c.taken.ensures read.piece read.whole) (rw c.as_slice.ensures at c.is_digits_text.ensures))
