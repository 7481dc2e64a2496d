-- The floats are made of the bits that were taken.
use Rattle.std.proofs.Common.{refl}
use Rattle.bitcode_memory.specs.Fast.{cow_rest}
use Rattle.bitcode_floats.proofs.FloatLemmas.{takes_long_floats}
use Rattle.bitcode_floats.proofs.float64.F64DecoderDecoderF64.decode_many.Goals as goal

pub returns-clause-made : goal.returns-clause-made
returns-clause-made g c =
    takes_long_floats (λ v. v.items) _ (λ x. refl) c.floats_of.result c.args.count (cow_rest c.args.self.now.values) _ _
    c.requires c.chunk_unchecked.ensures.taken c.chunk_unchecked.follows.holds-at-none c.floats_of.ensures.floats
