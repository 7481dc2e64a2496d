use Rattle.std.proofs.lemmas.List.{map-id}
use Rattle.bitcode_columns.proofs.VariantColumnLemmas.{digits_text-variants}
use Rattle.bitcode_columns.proofs.pack.variants.pack_bytes_less_than.Goals as goal

pub returns-clause-written : goal.returns-clause-written
returns-clause-written g c =
    rw (map-id, digits_text-variants g.row.N c.args.bytes.now c.base_of_variants.result c.base_of_variants.ensures) at c.pack_digits.ensures.written

pub returns-clause-full : goal.returns-clause-full
returns-clause-full g c =
    rw (map-id, digits_text-variants g.row.N c.args.bytes.now c.base_of_variants.result c.base_of_variants.ensures) at c.pack_digits.ensures.full
