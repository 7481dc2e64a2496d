use Rattle.std.specs.Prelude.{◌≡◌, ◌≤◌, vec_len, vec_capacity}
use Rattle.bitcode_coder.specs.Coder.{TakesEach}
use Rattle.bitcode_coder.proofs.coder.Decoder.decode_many.Given as goal

abbrev pub invariant-loop-made : goal.invariant-loop-made
invariant-loop-made g l = record {
  each : TakesEach g.T.Shaped.data.makes l._made l.items.items (g.Self.HoldsData.held l.initial.self) (g.Self.HoldsData.held l.self);
  size : vec_len l.items ≡ l._made;
  room : l.count ≤ vec_capacity l.items;
}
