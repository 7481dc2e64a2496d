-- Fields that a constructor checks: what their decoder holds.
use Rattle.std.specs.Prelude.{◌≡◌, ℕ, Bool, true, List, [], ◌∷◌, ◌++◌, length, All, if◌then◌else◌}
use Rattle.bitcode_shapes.specs.Datum.{Datum}

-- the data before the first one that is not admitted: all of them, if a reader accepted them
abbrev pub admitted_front : (Datum → Bool) → List Datum → List Datum
admitted_front admits [] = []
admitted_front admits (d ∷ ds) = if admits d then d ∷ admitted_front admits ds else []

-- so many data were taken, and all of them are admitted
pub record TakesAdmitted (admits : Datum → Bool) (count : ℕ) (old new : List Datum) : Type 0 where
  pub taken : List Datum
  pub whole : old ≡ taken ++ new
  pub size : length taken ≡ count
  pub each : All (λ d. admits d ≡ true) taken
