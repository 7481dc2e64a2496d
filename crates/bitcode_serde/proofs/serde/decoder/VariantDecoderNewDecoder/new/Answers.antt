-- Nothing was read.
use Rattle.std.proofs.Common.{refl}
use Rattle.bitcode_serde.specs.Indices.{index_count}
use Rattle.bitcode_serde.proofs.serde.decoder.VariantDecoderNewDecoder.new.Goals as goal

pub returns-clause-counts : goal.returns-clause-counts
unfolding index_count
returns-clause-counts c = λ index below. rw c.new.ensures.rest refl
