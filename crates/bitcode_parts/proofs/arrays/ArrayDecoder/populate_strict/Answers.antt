-- The answer of `read` is whether the arrays were strictly spelled.
use Rattle.std.proofs.Common.{refl}
use Rattle.bitcode_shapes.specs.Shape.{array_shape}
use Rattle.bitcode_coder.proofs.StrictLemmas.{judged_result}
use Rattle.bitcode_parts.specs.Arrays.{arrays_of}
use Rattle.bitcode_parts.proofs.arrays.ArrayDecoder.populate_strict.Goals as goal

pub returns-clause-strict : goal.returns-clause-strict
returns-clause-strict g c =
    judged_result (array_shape g.row.N g.D.HoldsData.shape) c.args.k c.args.input.now.now c.read.new.input.now
    (arrays_of g.row.N c.read.new.self.left (g.D.HoldsData.held c.read.new.self.elements)) c.read.result c.read.ensures.read (c.read.ensures.judged refl)
