use Rattle.std.proofs.Common.{◌≡◌, ◌*◌, take}
use Rattle.bitcode_columns.specs.declared.pack.Base.TheVariants.{Two}
use Rattle.bitcode_columns.specs.DigitCounts.{digits_counted}
use Rattle.bitcode_columns.proofs.pack.variants.counts.ones_of.Given as goal

abbrev pub invariant-loop-block : goal.invariant-loop-block
invariant-loop-block l = l.ones ≡ digits_counted Two 1 (take (l.block-index * 8) l.fn.packed)
