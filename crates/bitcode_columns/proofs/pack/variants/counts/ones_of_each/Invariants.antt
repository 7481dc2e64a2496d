use Rattle.std.proofs.Common.{◌≡◌, take}
use Rattle.bitcode_columns.specs.declared.pack.Base.TheVariants.{Two}
use Rattle.bitcode_columns.specs.DigitCounts.{digits_counted}
use Rattle.bitcode_columns.proofs.pack.variants.counts.ones_of_each.Given as goal

abbrev pub invariant-loop-byte : goal.invariant-loop-byte
invariant-loop-byte l = l.ones ≡ digits_counted Two 1 (take l.byte-index l.packed)
