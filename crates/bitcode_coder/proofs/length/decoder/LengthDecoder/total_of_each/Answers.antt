-- Each step moves a length from what is left to the sum.
use Rattle.std.proofs.Common.{◌≡◌, sum, [], ap, arith}
use Rattle.std.proofs.lemmas.List.{nil_from_length}
use Rattle.bitcode_coder.specs.Length.{lengths_left}
use Rattle.bitcode_coder.proofs.LengthPartLemmas.{taken_from}
use Rattle.bitcode_coder.proofs.length.decoder.LengthDecoder.total_of_each.Goals as goal

pub loop-preserved : goal.loop-preserved
loop-preserved c =
    let taken = taken_from (lengths_left c.loop.lengths) c.decode.result (lengths_left c.decode.new.self) c.decode.ensures.taken in
    record {
      summed = omega (arith, taken.0);
      left = omega (arith, taken.1);
      bounded = omega arith;
    }

pub returns : goal.returns
returns c =
    let none_left : lengths_left c.loop.lengths ≡ [] = nil_from_length (lengths_left c.loop.lengths) (omega arith) in
    omega (arith, ap sum none_left)
