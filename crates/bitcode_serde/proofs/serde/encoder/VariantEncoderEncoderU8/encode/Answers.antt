use Rattle.std.proofs.Common.{refl, false}
use Rattle.bitcode_memory.specs.Fast.{fast_items}
use Rattle.bitcode_coder.specs.Columns.{ints}
use Rattle.bitcode_coder.specs.Spelling.{natural}
use Rattle.bitcode_coder.proofs.OneColumnLemmas.{joins_entry}
use Rattle.bitcode_serde.proofs.serde.encoder.VariantEncoderEncoderU8.encode.Goals as goal
use Rattle.bitcode_serde.specs.Indices.{written_indices}

pub returns-clause-joined : goal.returns-clause-joined
unfolding written_indices
returns-clause-joined c =
    joins_entry _ _ (ints 1 false) natural c.args.t.now c.args.t.now
    (fast_items c.args.self.now.indices) (fast_items c.push_unchecked.new.self) (λ ds. refl) refl c.push_unchecked.ensures.items
