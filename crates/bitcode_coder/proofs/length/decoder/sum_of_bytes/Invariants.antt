use Rattle.std.proofs.Common.{◌≡◌, ◌*◌, ◌≤◌, take, sum}
use Rattle.bitcode_coder.proofs.length.decoder.sum_of_bytes.Given as goal

abbrev pub invariant-loop-byte : goal.invariant-loop-byte
invariant-loop-byte l = record {
  summed : l.total ≡ sum (take l.byte-index l.bytes);
  bounded : l.total ≤ l.byte-index * 255;
}
