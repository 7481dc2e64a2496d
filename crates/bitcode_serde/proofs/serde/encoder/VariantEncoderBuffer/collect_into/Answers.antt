use Rattle.std.proofs.Common.{ap, sym, ◌∙◌, ◌++◌, map, pos}
use Rattle.bitcode_columns.specs.IntColumn.{int_text}
use Rattle.bitcode_memory.specs.Fast.{fast_items}
use Rattle.bitcode_coder.proofs.IntLemmas.{numbers_in}
use Rattle.bitcode_serde.specs.Indices.{written_indices}
use Rattle.bitcode_serde.proofs.serde.encoder.VariantEncoderBuffer.collect_into.Goals as goal

pub returns-clause-written : goal.returns-clause-written
unfolding written_indices
returns-clause-written c =
    c.in_ok-pack.ensures.written
    ∙ ap (λ entries. c.args.out.now.items ++ int_text 1 entries)
    (ap (map (λ n. pos n)) c.as_mut_slice.ensures.value ∙ sym (numbers_in (λ n. pos n) (fast_items c.args.self.now.indices)))
