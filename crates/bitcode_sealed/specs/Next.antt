-- What a reader of many sealed values finds next.
use Rattle.std.specs.Prelude.{◌≡◌, ℕ, List, drop}
use Rattle.bitcode_shapes.specs.Datum.{Datum}
use Rattle.bitcode_shapes.specs.Shape.{Shape}
use Rattle.bitcode_sealed.specs.declared.label.Expected.{Expected}
use Rattle.bitcode_sealed.specs.declared.error.OpenError.{OpenError}
use Rattle.bitcode_sealed.specs.declared.next.Next.{Next}
use Rattle.bitcode_sealed.specs.ErrorClasses.{IsOutOfMemory}
use Rattle.bitcode_sealed.specs.Front.{IsSkipped, EndIsCutOff}
use Rattle.bitcode_sealed.specs.Opening.{IsOpeningOfFront}

-- the front is refused for another reason than want of memory, and so many bytes of it are skipped
pub record SkipsFront (Refused : OpenError → Type 0) (expected : Expected) (input rest : List ℕ) (fault : OpenError) (bytes : ℕ) : Type 0 where
  pub refused : Refused fault
  pub not_memory : IsOutOfMemory fault → ⊥
  pub skipped : IsSkipped expected input bytes
  pub left : rest ≡ drop bytes input

abbrev pub IsNextOf : {T : Type 0} → (Datum → T → Type 0) → Shape → (OpenError → Type 0) → Expected → List ℕ → List ℕ → Next T → Type 0
IsNextOf makes shape Refused expected input rest (Next.Opened t) = IsOpeningOfFront makes shape expected input t rest
IsNextOf makes shape Refused expected input rest (Next.Skipped fault bytes) = SkipsFront Refused expected input rest fault bytes
IsNextOf makes shape Refused expected input rest (Next.EndCutOff present wanted) = (rest ≡ input) × EndIsCutOff expected input present wanted
