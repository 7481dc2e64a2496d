use Rattle.std.proofs.Common.{take}
use Rattle.bitcode_columns.specs.Histogram.{AreCounts}
use Rattle.bitcode_columns.proofs.histogram.counts_below.Given as goal

abbrev pub invariant-loop-byte : goal.invariant-loop-byte
invariant-loop-byte g l = AreCounts g.row.N (take l.byte-index l.bytes) l.counts
