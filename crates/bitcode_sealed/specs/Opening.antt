-- What is opened, and what is refused.
use Rattle.std.specs.Prelude.{◌≡◌, ◌≢◌, ℕ, ◌<◌, Bool, List, [], length}
use Rattle.bitcode_memory.specs.declared.error.Error.{Error}
use Rattle.bitcode_memory.specs.declared.error.Reason.TheVariants.{OutOfMemory}
use Rattle.bitcode_shapes.specs.Datum.{Datum}
use Rattle.bitcode_shapes.specs.Shape.{Shape}
use Rattle.bitcode_coder.specs.Coder.{IsReadingReason}
use Rattle.bitcode_derive.specs.Whole.{IsDecodingOf, SpellsDatum, NamesWholeFault}
use Rattle.bitcode_sealed.specs.declared.label.Expected.{Expected}
use Rattle.bitcode_sealed.specs.declared.error.OpenError.{OpenError}
use Rattle.bitcode_sealed.specs.declared.error.OpenError.TheVariants.{BytesLeftOver, Value}
use Rattle.bitcode_sealed.specs.Faults.{IsSealedFront, IsFault}

-- at the front of the input bytes are sealed that `decode` takes for the value, and the rest is left
pub record IsOpeningOfFront {T : Type 0} (makes : Datum → T → Type 0) (shape : Shape) (expected : Expected) (input : List ℕ) (t : T) (rest : List ℕ) : Type 0 where
  pub value : List ℕ
  pub front : IsSealedFront expected input value rest
  pub decoded : IsDecodingOf makes shape value t

-- and nothing is left
abbrev pub IsOpeningOf : {T : Type 0} → (Datum → T → Type 0) → Shape → Expected → List ℕ → T → Type 0
IsOpeningOf makes shape expected bytes t = IsOpeningOfFront makes shape expected bytes t []

-- the fault is what `decode` refuses the value's bytes for
pub record IsDecodingRefusal (makes_free : Bool) (own shape : Shape) (value : List ℕ) (fault : OpenError) : Type 0 where
  pub error : Error
  pub named : fault ≡ Value error
  pub reasons : IsReadingReason error.reason
  pub refused : error.reason ≢ OutOfMemory → (d : Datum) → SpellsDatum shape value d → ⊥
  pub exact : NamesWholeFault makes_free own error.reason value

-- why the front of an input is not opened
pub data IsRefusalOfFront (makes_free : Bool) (own shape : Shape) (expected : Expected) (input : List ℕ) (fault : OpenError) : Type 0 where
  front_not_sealed : IsFault expected input fault → IsRefusalOfFront makes_free own shape expected input fault
  front_not_decoded : (value rest : List ℕ) → IsSealedFront expected input value rest → IsDecodingRefusal makes_free own shape value fault
      → IsRefusalOfFront makes_free own shape expected input fault

-- why all of an input is not opened
pub data IsRefusal (makes_free : Bool) (own shape : Shape) (expected : Expected) (input : List ℕ) (fault : OpenError) : Type 0 where
  all_not_sealed : IsFault expected input fault → IsRefusal makes_free own shape expected input fault
  bytes_left_over : (value rest : List ℕ) → fault ≡ BytesLeftOver (length rest) → IsSealedFront expected input value rest → 0 < length rest
      → IsRefusal makes_free own shape expected input fault
  all_not_decoded : (value : List ℕ) → IsSealedFront expected input value [] → IsDecodingRefusal makes_free own shape value fault
      → IsRefusal makes_free own shape expected input fault
