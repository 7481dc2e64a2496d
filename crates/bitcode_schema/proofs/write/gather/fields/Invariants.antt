-- The fields of the rows so far.
use Rattle.std.proofs.Common.{slice_get, map, take}
use Rattle.bitcode_schema.specs.Views.{Hold}
use Rattle.bitcode_schema.proofs.write.gather.fields.Given as goal

abbrev pub invariant-loop-row : goal.invariant-loop-row
invariant-loop-row l = Hold (λ row. slice_get row l.i) (map (λ r. r.now) (take l.row-index l.rows)) (map (λ v. v.now) l.parts.items)
