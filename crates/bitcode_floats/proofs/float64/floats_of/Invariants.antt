use Rattle.std.specs.Prelude.{◌≡◌, ◌≤◌, length, map, take, from_bits, vec_len, vec_capacity}
use Rattle.std.specs.Float.{binary64}
use Rattle.bitcode_floats.specs.Floats.{residue_of}
use Rattle.bitcode_floats.proofs.float64.floats_of.Given as goal

abbrev pub invariant-loop-entry : goal.invariant-loop-entry
invariant-loop-entry l = record {
  made : l.floats.items ≡ map (λ entry. from_bits binary64 (residue_of entry)) (take l.entry-index l.entries);
  size : vec_len l.floats ≡ l.entry-index;
  room : length l.entries ≤ vec_capacity l.floats;
}
