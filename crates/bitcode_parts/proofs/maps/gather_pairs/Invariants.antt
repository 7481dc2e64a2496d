use Rattle.std.proofs.Common.{◌≡◌, ◌++◌, map, take, length}
use Rattle.std.specs.Map.Iter.{deref_pair}
use Rattle.bitcode_parts.proofs.maps.gather_pairs.Given as goal

abbrev pub invariant-loop-count : goal.invariant-loop-count
invariant-loop-count g l = record {
  size : length l.pairs ≡ 32;
  taken : map deref_pair (take 1 l.initial.pairs) ++ g.L.LendsPairs.rest l.initial.lent ≡ map deref_pair (take l.count l.pairs) ++ g.L.LendsPairs.rest l.lent;
}
