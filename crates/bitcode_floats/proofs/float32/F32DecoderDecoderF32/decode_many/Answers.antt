-- The floats are made of the bits that were taken.
use Rattle.std.proofs.Common.{refl}
use Rattle.bitcode_float_columns.specs.Split.{split_rest}
use Rattle.bitcode_floats.proofs.FloatLemmas.{takes_floats}
use Rattle.bitcode_floats.proofs.float32.F32DecoderDecoderF32.decode_many.Goals as goal

pub returns-clause-made : goal.returns-clause-made
returns-clause-made g c =
    takes_floats (λ v. v.items) _ (λ x. refl) c.floats_unchecked.result c.args.count (split_rest c.args.self.now.bits) _
    c.requires c.floats_unchecked.ensures.taken c.floats_unchecked.ensures.rest
