-- The values so far are units.
use Rattle.std.proofs.Common.{◌≡◌, Some, All, map, take}
use Rattle.bitcode_shapes.specs.Datum.{unit}
use Rattle.bitcode_untyped.specs.declared.value.Value.{out-Value}
use Rattle.bitcode_schema.specs.Parts.{unit_content}
use Rattle.bitcode_schema.proofs.write.write_units.Given as goal

abbrev pub invariant-loop-value : goal.invariant-loop-value
invariant-loop-value l = All (λ v. unit_content (out-Value v) ≡ Some unit) (map (λ v. v.now) (take l.value-index l.values))
