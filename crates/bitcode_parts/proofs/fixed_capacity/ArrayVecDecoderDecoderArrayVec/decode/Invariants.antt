use Rattle.std.proofs.Common.{◌≡◌}
use Rattle.bitcode_coder.specs.Length.{lengths_left}
use Rattle.bitcode_coder.specs.Coder.{TakesEach}
use Rattle.bitcode_parts.proofs.fixed_capacity.ArrayVecDecoderDecoderArrayVec.decode.Given as goal

abbrev pub invariant-loop-made : goal.invariant-loop-made
invariant-loop-made g l = record {
  each : TakesEach g.T.Shaped.data.makes l._made l.vec.items (g.D.HoldsData.held l.initial.self.elements) (g.D.HoldsData.held l.self.elements);
  lengths : lengths_left l.self.lengths ≡ lengths_left l.initial.self.lengths;
}
