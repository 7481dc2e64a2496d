-- What is at fault with an input that is to be opened: at most one of these, the first in this order.
use Rattle.std.specs.Prelude.{◌≡◌, ◌≢◌, ℕ, ◌+◌, ◌-◌, ◌^◌, ◌<◌, ◌≤◌, min, List, ◌++◌, length}
use Rattle.bitcode_memory.specs.LittleEndian.{little_endian, number_bytes}
use Rattle.bitcode_sealed.specs.declared.label.Expected.{Expected}
use Rattle.bitcode_sealed.specs.declared.head.Head.{Head}
use Rattle.bitcode_sealed.specs.declared.error.OpenError.{OpenError}
use Rattle.bitcode_sealed.specs.declared.error.OpenError.TheVariants.{NotSealed, CutOff, HeadDamaged, AnotherKind, AnotherVersion, TooLong, ValueDamaged}
use Rattle.bitcode_sealed.specs.Crc.{crc_32}
use Rattle.bitcode_sealed.specs.Layout.{checked, head_bytes, sealed, BeginsAsSealed, BeginsWithHead}

-- what is at fault with its front, up to the head's end
pub data IsHeadFault (input : List ℕ) (fault : OpenError) : Type 0 where
  not_sealed : fault ≡ NotSealed → (BeginsAsSealed input → ⊥) → IsHeadFault input fault
  head_cut_off : fault ≡ CutOff (length input) 20 → BeginsAsSealed input → length input < 20 → IsHeadFault input fault
  head_damaged : fault ≡ HeadDamaged → BeginsAsSealed input → 20 ≤ length input → ((head : Head) → BeginsWithHead head input → ⊥) → IsHeadFault input fault

-- ---- what a head tells

-- the program expects what the head says
pub record Admits (expected : Expected) (head : Head) : Type 0 where
  pub same_kind : head.label.kind ≡ expected.label.kind
  pub same_version : head.label.version ≡ expected.label.version
  pub short : head.size ≤ expected.most_bytes

-- what the program does not expect
pub data IsMismatch (expected : Expected) (head : Head) (fault : OpenError) : Type 0 where
  another_kind : fault ≡ AnotherKind head.label.kind expected.label.kind → head.label.kind ≢ expected.label.kind → IsMismatch expected head fault
  another_version : fault ≡ AnotherVersion head.label.version expected.label.version → head.label.kind ≡ expected.label.kind → head.label.version ≢ expected.label.version
      → IsMismatch expected head fault
  too_long : fault ≡ TooLong head.size expected.most_bytes → head.label.kind ≡ expected.label.kind → head.label.version ≡ expected.label.version → expected.most_bytes < head.size
      → IsMismatch expected head fault

-- ---- the value behind a head

-- the value's bytes stand behind the head, with their checksum, and then the rest
pub record HasValueBehind (head : Head) (input value rest : List ℕ) : Type 0 where
  pub whole : input ≡ head_bytes head ++ (checked value ++ rest)
  pub size : length value ≡ head.size

-- what is at fault with it
pub data IsValueFault (head : Head) (input : List ℕ) (fault : OpenError) : Type 0 where
  cut_off : fault ≡ CutOff (length input) (min (head.size + 24) (2 ^ 64 - 1)) → length input < head.size + 24 → IsValueFault head input fault
  value_damaged : (value stored rest : List ℕ) → fault ≡ ValueDamaged (little_endian stored) (crc_32 value)
      → input ≡ head_bytes head ++ (value ++ (stored ++ rest)) → length value ≡ head.size → length stored ≡ 4 → stored ≢ number_bytes 4 (crc_32 value)
      → IsValueFault head input fault

-- what is at fault with a value at the front of an input, whatever its label
pub data IsWholeFault (input : List ℕ) (fault : OpenError) : Type 0 where
  whole_in_head : IsHeadFault input fault → IsWholeFault input fault
  whole_in_value : (head : Head) → BeginsWithHead head input → IsValueFault head input fault → IsWholeFault input fault

-- ---- all of it

-- a value of the expected label, and not too long, is sealed at the front of the input, and the rest is left
pub record IsSealedFront (expected : Expected) (input value rest : List ℕ) : Type 0 where
  pub whole : input ≡ sealed expected.label value ++ rest
  pub short : length value ≤ expected.most_bytes

pub data IsFault (expected : Expected) (input : List ℕ) (fault : OpenError) : Type 0 where
  in_head : IsHeadFault input fault → IsFault expected input fault
  in_label : (head : Head) → BeginsWithHead head input → IsMismatch expected head fault → IsFault expected input fault
  in_value : (head : Head) → BeginsWithHead head input → Admits expected head → IsValueFault head input fault → IsFault expected input fault
