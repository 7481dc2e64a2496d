-- None of the values so far is 0.
use Rattle.std.proofs.Common.{All, map, take}
use Rattle.bitcode_schema.specs.Allowing.{AsEntry, IsNonzero}
use Rattle.bitcode_schema.specs.Leaves.{int_leaf}
use Rattle.bitcode_schema.specs.declared.schema.IntKind.{IntKind}
use Rattle.bitcode_schema.proofs.write.allowed.are_nonzero.Given as goal

abbrev pub invariant-loop-value : goal.invariant-loop-value
invariant-loop-value l = (kind : IntKind) → All (AsEntry (int_leaf kind) IsNonzero) (map (λ v. v.now) (take l.value-index l.values))
