-- What is read in one call.
use Rattle.std.proofs.Common.{ℕ, Bool, IsTrue, List, Result, Ok, Err, OnOk, IfOk}
use Rattle.bitcode_memory.specs.declared.error.Error.{Error}
use Rattle.bitcode_columns.specs.Reading.{Reads}
use Rattle.bitcode_shapes.specs.Datum.{Datum}
use Rattle.bitcode_shapes.specs.Shape.{Shape}
use Rattle.bitcode_coder.specs.Spelling.{Spells}
use Rattle.bitcode_coder.specs.Strict.{JudgesData}
use Rattle.bitcode_schema.specs.Reading.{ReadsData}

pub reads_leaf : (shape : Shape) (k : ℕ) (strict : Bool) (old new : List ℕ) (found : List Datum) (result : Result Bool Error)
    → OnOk result (Reads (Spells shape) k old found new) → (IsTrue strict → IfOk result (λ written. JudgesData shape found written old new))
    → IfOk result (ReadsData shape k strict old new)
reads_leaf shape k strict old new found (Ok written) read judged = record { found = found; read = read; judged = judged }
reads_leaf shape k strict old new found (Err e) read judged = tt
