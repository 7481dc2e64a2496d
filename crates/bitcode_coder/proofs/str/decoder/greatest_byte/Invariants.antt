use Rattle.std.proofs.Common.{◌≤◌, All, take}
use Rattle.bitcode_coder.proofs.str.decoder.greatest_byte.Given as goal

abbrev pub invariant-loop-byte : goal.invariant-loop-byte
invariant-loop-byte l = All (λ byte. byte ≤ l.greatest) (take l.byte-index l.bytes)
