use Rattle.std.proofs.Common.{sym}
use Rattle.std.proofs.lemmas.List.{map-id}
use Rattle.bitcode_memory.specs.Fast.{cow_rest}
use Rattle.bitcode_columns.proofs.VariantColumnLemmas.{digits_text-variants}
use Rattle.bitcode_columns.proofs.StrictLemmas.{told_front}
use Rattle.bitcode_columns.proofs.strict.read_variants.Goals as goal

pub returns-clause-judged : goal.returns-clause-judged
returns-clause-judged g c strict =
    let read = c.in_ok-counts.ensures.read in
    rw (sym (digits_text-variants g.row.N (cow_rest c.unpack_bytes_less_than.new.out) c.base_of_variants.result c.base_of_variants.ensures))
    (told_front c.is_digits_text-written.result c.args.input.now.now c.unpack_bytes_less_than.new.input.now c.taken-packed.result.now read.piece _ read.whole
    (c.taken-packed.ensures read.piece read.whole) (rw (map-id, c.as_slice.ensures) at c.is_digits_text-written.ensures))
