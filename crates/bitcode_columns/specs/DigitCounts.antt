-- How many digits of packed bytes are each number.
use Rattle.std.specs.Prelude.{ℕ, List, map}
use Rattle.std.specs.List.{range_with_len, sum_by}
use Rattle.bitcode_columns.specs.declared.pack.Base.{Base}
use Rattle.bitcode_columns.specs.Digits.{radix, digits_in_byte, digit}
use Rattle.bitcode_columns.specs.Histogram.{count_of}

-- the digits of a byte, the lowest first
unfoldable pub digits_of : Base → ℕ → List ℕ
digits_of base byte = map (digit (radix base) byte) (range_with_len 0 (digits_in_byte base))

-- how many digits of the bytes are the value
unfoldable pub digits_counted : Base → ℕ → List ℕ → ℕ
digits_counted base value bytes = sum_by (λ byte. count_of value (digits_of base byte)) bytes
