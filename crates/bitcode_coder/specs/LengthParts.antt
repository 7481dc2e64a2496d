-- The two parts of a length column: the short bytes, and the large lengths after them. What a writer keeps of them, and
-- what a reader reports.
use Rattle.std.specs.Prelude.{◌≡◌, ℕ, ◌^◌, min, Option, Some, None, List, map, filter, sum, count_by, nat_lt, nat_le, ◌==◌, if◌then◌else◌}
use Rattle.bitcode_memory.specs.declared.error.Reason.{Reason}
use Rattle.bitcode_memory.specs.declared.error.Reason.TheVariants.{LengthOverflow, HugeLength}
use Rattle.bitcode_columns.specs.ByteColumn.{SpellsBytes}
use Rattle.bitcode_columns.specs.IntColumn.{SpellsInts}
use Rattle.bitcode_columns.specs.Reading.{Reads}
use Rattle.bitcode_coder.specs.Faults.{NamesBytesFault, NamesIntsFault}
use Rattle.bitcode_coder.specs.LengthColumn.{escape, lengths_from, length_limit}

abbrev pub escapes : List ℕ → ℕ
escapes short = count_by (λ byte. byte == escape) short

-- both parts are as they would be written for their lengths
pub record AreLengthParts (short large : List ℕ) : Type 0 where
  pub shorts : short ≡ map (λ n. min n escape) (lengths_from short large)
  pub larges : large ≡ filter (λ n. nat_le escape n) (lengths_from short large)

-- a prefix of the old input consists of so many short bytes and a large length for each escape
pub record ReadsParts (count : ℕ) (old short large new : List ℕ) : Type 0 where
  pub middle : List ℕ
  pub short_read : Reads SpellsBytes count old short middle
  pub large_read : Reads (SpellsInts 8) (escapes short) middle large new

-- the fault, if there is one, of lengths with this sum
abbrev pub sum_fault : ℕ → Option Reason
sum_fault total =
    if nat_lt total (2 ^ 64) then if nat_lt total length_limit then None else Some HugeLength else Some LengthOverflow

-- An error reports the fault of the short bytes; if they can be read, that of the large lengths; if both can be read,
-- that of the sum. A failed allocation is reported only if the current part allocates and has no fault.
pub data NamesLengthFault (reason : Reason) (count : ℕ) (input : List ℕ) : Type 0 where
  in_short : NamesBytesFault reason count input → NamesLengthFault reason count input
  in_large : {short middle : List ℕ} → Reads SpellsBytes count input short middle → NamesIntsFault 8 reason (escapes short) middle
      → NamesLengthFault reason count input
  in_sum : {short large rest : List ℕ} → ReadsParts count input short large rest → sum_fault (sum (lengths_from short large)) ≡ Some reason
      → NamesLengthFault reason count input
