use Rattle.std.proofs.Common.{◌≡◌, take, map, All}
use Rattle.std.specs.List.{fold}
use Rattle.std.specs.Int.{int_min, int_max}
use Rattle.bitcode_memory.specs.Ints.{IsNumber}
use Rattle.bitcode_memory.proofs.minmax.bounds.Given as goal

abbrev pub invariant-loop-entry : goal.invariant-loop-entry
invariant-loop-entry g l = record {
  least : g.T.Int.number l.least ≡ fold int_min (g.T.Int.number l.initial.least) (map g.T.Int.number (take l.entry-index l.rest));
  greatest : g.T.Int.number l.greatest ≡ fold int_max (g.T.Int.number l.initial.greatest) (map g.T.Int.number (take l.entry-index l.rest));
  in_range : All (λ e. IsNumber g.T.Int.width g.T.Int.signed (g.T.Int.number e)) (take l.entry-index l.rest);
}
