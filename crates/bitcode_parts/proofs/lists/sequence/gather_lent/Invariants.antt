use Rattle.std.proofs.Common.{◌≡◌, ◌++◌, map, take, length}
use Rattle.bitcode_parts.proofs.lists.sequence.gather_lent.Given as goal

abbrev pub invariant-loop-count : goal.invariant-loop-count
invariant-loop-count g l = record {
  size : length l.several ≡ 32;
  taken : map (λ item. item.now) (take 1 l.initial.several) ++ g.L.Lends.rest l.initial.lent ≡ map (λ item. item.now) (take l.count l.several) ++ g.L.Lends.rest l.lent;
}
