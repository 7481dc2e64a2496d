use Rattle.std.proofs.Common.{◌≡◌, map, take, length}
use Rattle.bitcode_serde.proofs.write_column.gather.Given as goal

abbrev pub invariant-loop-i : goal.invariant-loop-i
invariant-loop-i g l = record {
  size : length l.held ≡ 64;
  gathered : map (λ t. g.T.Case.holder t.now) (take l.i l.held) ≡ take l.i l.values;
}
