-- What stands at the front of an input, whatever its label.
use Rattle.std.specs.Prelude.{◌≡◌, ℕ, ◌+◌, ◌<◌, ◌≤◌, List, ◌++◌, length, drop}
use Rattle.bitcode_sealed.specs.declared.label.Label.{Label}
use Rattle.bitcode_sealed.specs.declared.label.Expected.{Expected}
use Rattle.bitcode_sealed.specs.declared.error.OpenError.{OpenError}
use Rattle.bitcode_sealed.specs.declared.error.OpenError.TheVariants.{CutOff}
use Rattle.bitcode_sealed.specs.Layout.{sealed, BeginsAsSealed, BeginsWithHead}
use Rattle.bitcode_sealed.specs.Faults.{IsWholeFault}

-- it begins with a head of this label
pub record HasLabel (label : Label) (input : List ℕ) : Type 0 where
  pub size : ℕ
  pub begins : BeginsWithHead (record { label = label; size = size }) input

-- a value is sealed at its front under this label, and the rest is left
pub record IsSkip (label : Label) (input rest : List ℕ) : Type 0 where
  pub value : List ℕ
  pub whole : input ≡ sealed label value ++ rest

-- the first place behind the first byte that begins as sealed bytes do, or else the end
pub record IsNextHead (input : List ℕ) (place : ℕ) : Type 0 where
  pub forward : 0 < place
  pub inside : place ≤ length input
  pub begins : place < length input → BeginsAsSealed (drop place input)
  pub first : (at : ℕ) → 0 < at → at < place → BeginsAsSealed (drop at input) → ⊥

-- it ends within sealed bytes, for which the program waits
pub record EndIsCutOff (expected : Expected) (input : List ℕ) (present wanted : ℕ) : Type 0 where
  pub cut_off : IsWholeFault input (CutOff present wanted)
  pub short : wanted ≤ expected.most_bytes + 24

-- What is skipped at the front: a whole value; or, where none is there and the program does not wait for it, the bytes
-- before the next place where one may begin.
pub data IsValueOrGap (expected : Expected) (input : List ℕ) (bytes : ℕ) : Type 0 where
  past_a_value : (label : Label) → IsSkip label input (drop bytes input) → IsValueOrGap expected input bytes
  to_a_head : (fault : OpenError) → IsWholeFault input fault
      → ((present wanted : ℕ) → fault ≡ CutOff present wanted → wanted ≤ expected.most_bytes + 24 → ⊥)
      → IsNextHead input bytes → IsValueOrGap expected input bytes

-- so many bytes at the front are skipped
pub record IsSkipped (expected : Expected) (input : List ℕ) (bytes : ℕ) : Type 0 where
  pub forward : 0 < bytes
  pub inside : bytes ≤ length input
  pub value_or_gap : IsValueOrGap expected input bytes
