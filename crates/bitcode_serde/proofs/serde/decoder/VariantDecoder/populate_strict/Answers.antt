-- The answer of `read` is whether the indices were strictly spelled.
use Rattle.std.proofs.Common.{false, refl}
use Rattle.bitcode_shapes.specs.Ints.{int_shape}
use Rattle.bitcode_coder.proofs.StrictLemmas.{judged_result}
use Rattle.bitcode_serde.specs.Indices.{indices_left}
use Rattle.bitcode_serde.proofs.serde.decoder.VariantDecoder.populate_strict.Goals as goal

pub returns-clause-strict : goal.returns-clause-strict
returns-clause-strict c =
    judged_result (int_shape 1 false) c.args.k c.args.input.now.now c.read.new.input.now (indices_left c.read.new.self) c.read.result
    c.read.ensures.read (c.read.ensures.judged refl)
