-- The texts so far are short enough.
use Rattle.std.proofs.Common.{None, All, map, take}
use Rattle.bitcode_coder.specs.Columns.{texts}
use Rattle.bitcode_untyped.specs.Leaves.{leaf_of}
use Rattle.bitcode_schema.specs.Allowing.{AsEntry, IsShort}
use Rattle.bitcode_schema.proofs.write.allowed.are_short.Given as goal

abbrev pub invariant-loop-value : goal.invariant-loop-value
invariant-loop-value l = All (AsEntry (leaf_of (texts None)) (IsShort l.limit)) (map (λ v. v.now) (take l.value-index l.values))
