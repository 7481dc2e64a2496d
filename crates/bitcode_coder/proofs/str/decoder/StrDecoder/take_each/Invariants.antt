use Rattle.std.proofs.Common.{◌≡◌, ◌+◌, ◌≤◌, ◌++◌, length, map}
use Rattle.std.specs.Prelude.{vec_len, vec_capacity}
use Rattle.bitcode_memory.specs.Fast.{slice_rest}
use Rattle.bitcode_coder.specs.Cutting.{cut}
use Rattle.bitcode_coder.specs.Length.{lengths_left}
use Rattle.bitcode_coder.proofs.str.decoder.StrDecoder.take_each.Given as goal

abbrev pub invariant-loop-taken : goal.invariant-loop-taken
invariant-loop-taken l = record {
  joined : map (λ t. t.now) l.texts.items ++ cut (lengths_left l.self.lengths) (slice_rest l.self.bytes)
      ≡ map (λ t. t.now) l.initial.texts.items ++ cut (lengths_left l.initial.self.lengths) (slice_rest l.initial.self.bytes);
  left : l.count ≤ l._taken + length (cut (lengths_left l.self.lengths) (slice_rest l.self.bytes));
  size : vec_len l.texts ≡ vec_len l.initial.texts + l._taken;
  room : vec_len l.initial.texts + l.count ≤ vec_capacity l.texts;
}
