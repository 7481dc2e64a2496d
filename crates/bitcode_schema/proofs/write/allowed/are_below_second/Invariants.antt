-- The numbers so far are those of nanoseconds below a second.
use Rattle.std.proofs.Common.{All, map, take}
use Rattle.bitcode_schema.specs.Allowing.{AsEntry, IsBelowSecond}
use Rattle.bitcode_schema.specs.Leaves.{int_leaf}
use Rattle.bitcode_schema.specs.declared.schema.IntKind.TheVariants as int
use Rattle.bitcode_schema.proofs.write.allowed.are_below_second.Given as goal

abbrev pub invariant-loop-value : goal.invariant-loop-value
invariant-loop-value l = All (AsEntry (int_leaf int.U32) IsBelowSecond) (map (λ v. v.now) (take l.value-index l.values))
