-- Which fault the reader of a column reports, and when it does not allocate. It reports a failed allocation only if it
-- allocates, and only after it found no fault in what it had looked at.
use Rattle.std.specs.Prelude.{◌≡◌, ◌≢◌, ℕ, ◌*◌, Bool, List, All, Some, IsTrue}
use Rattle.std.specs.Float.{Format, binary32, binary64}
use Rattle.bitcode_memory.specs.Ints.{number_of}
use Rattle.bitcode_memory.specs.declared.error.Reason.{Reason}
use Rattle.bitcode_memory.specs.declared.error.Reason.TheVariants.{InvalidBitPattern, OutOfMemory}
use Rattle.bitcode_columns.specs.IntColumn.{SpellsInts}
use Rattle.bitcode_columns.specs.Reading.{Reads, Names, NamesVariantFault, missing, bools_fault, bytes_fault, ints_fault, bytes_stand_raw, ints_stand_raw, variants_stand_raw}
use Rattle.bitcode_shapes.specs.Shape.{Allowed, IsAllowed}

-- reading no bools does not allocate
pub record NamesBoolsFault (reason : Reason) (count : ℕ) (input : List ℕ) : Type 0 where
  pub named : Names reason (bools_fault count input)
  pub free : count ≡ 0 → reason ≢ OutOfMemory

-- reading unpacked entries does not allocate
pub record NamesBytesFault (reason : Reason) (count : ℕ) (input : List ℕ) : Type 0 where
  pub named : Names reason (bytes_fault count input)
  pub free : IsTrue (bytes_stand_raw count input) → reason ≢ OutOfMemory

pub record NamesIntsFault (width : ℕ) (reason : Reason) (count : ℕ) (input : List ℕ) : Type 0 where
  pub named : Names reason (ints_fault width count input)
  pub free : IsTrue (ints_stand_raw width count input) → reason ≢ OutOfMemory

-- 4-byte floats are read without allocating: only their bytes can be missing
abbrev pub NamesSplitFault : Reason → ℕ → List ℕ → Type 0
NamesSplitFault reason count input = missing (count * 4) input ≡ Some reason

-- 8-byte floats are an integer column
abbrev pub NamesFloatsFault : Format → Reason → ℕ → List ℕ → Type 0
NamesFloatsFault binary32 reason count input = NamesSplitFault reason count input
NamesFloatsFault binary64 reason count input = NamesIntsFault 8 reason count input

pub record NamesVariantsFault (variants : ℕ) (reason : Reason) (count : ℕ) (input : List ℕ) : Type 0 where
  pub named : NamesVariantFault reason variants count input
  pub free : IsTrue (variants_stand_raw variants count) → reason ≢ OutOfMemory

-- An error reports the fault of the column or, if it can be read, an entry that is not allowed.
pub data NamesCheckedFault (width : ℕ) (signed : Bool) (allowed : Allowed) (reason : Reason) (count : ℕ) (input : List ℕ) : Type 0 where
  in_column : NamesIntsFault width reason count input → NamesCheckedFault width signed allowed reason count input
  not_allowed : (entries rest : List ℕ) → reason ≡ InvalidBitPattern → Reads (SpellsInts width) count input entries rest
      → (All (λ n. IsAllowed allowed (number_of width signed n)) entries → ⊥) → NamesCheckedFault width signed allowed reason count input
