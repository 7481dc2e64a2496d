use Rattle.std.proofs.Common.{◌≡◌, All, take}
use Rattle.std.specs.Float.{binary64}
use Rattle.bitcode_float_columns.specs.FloatColumn.{canonical}
use Rattle.bitcode_floats.specs.Floats.{residue_of}
use Rattle.bitcode_floats.proofs.float64.are_canonical.Given as goal

abbrev pub invariant-loop-entry : goal.invariant-loop-entry
invariant-loop-entry l = All (λ entry. canonical binary64 (residue_of entry) ≡ residue_of entry) (take l.entry-index l.entries)
