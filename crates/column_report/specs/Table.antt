-- What the bytes of a table are: the number of its rows, and behind it a column for each field.
use Rattle.std.specs.Prelude.{◌≡◌, ℕ, List, [], None, sum, sum_by}
use Rattle.bitcode.specs.ByHand.{Datum, Reads, Shape, Spells, SpellsLengths, natural_in}

-- the columns of a table of so many rows: of three shapes, in the order of the fields, and the entries of the last
pub record HasLastColumn (first second third : Shape) (table : List ℕ) (count : ℕ) (entries : List Datum) : Type 0 where
  pub lengths : List ℕ
  pub behind_length : List ℕ
  pub one_length : Reads (SpellsLengths None) 1 table lengths behind_length
  pub count_is : count ≡ sum lengths
  pub firsts : List Datum
  pub behind_first : List ℕ
  pub first_read : Reads (Spells first) count behind_length firsts behind_first
  pub seconds : List Datum
  pub behind_second : List ℕ
  pub second_read : Reads (Spells second) count behind_first seconds behind_second
  pub last_read : Reads (Spells third) count behind_second entries []

-- the sum of a column of naturals
abbrev pub total_of : List Datum → ℕ
total_of entries = sum_by natural_in entries
