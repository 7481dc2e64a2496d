-- Which of the byte sequences that spell digits is the one that is written for them.
use Rattle.std.specs.Prelude.{◌≡◌, ◌++◌, length, ℕ, ◌/◌, ◌%◌, ◌^◌, ◌<◌, List, take, drop, All}
use Rattle.std.specs.Int.{div_ceil}
use Rattle.bitcode_columns.specs.declared.pack.Base.{Base}
use Rattle.bitcode_columns.specs.Digits.{radix, digits_in_byte}

-- Each byte is a number with only as many digits as it has entries: the unused digits are 0.
pub record UsesNoMore (base : Base) (count : ℕ) (bytes : List ℕ) : Type 0 where
  pub whole : All (λ byte. byte < radix base ^ digits_in_byte base) (take (count / digits_in_byte base) bytes)
  pub last : All (λ byte. byte < radix base ^ (count % digits_in_byte base)) (drop (count / digits_in_byte base) bytes)

-- A header, and after it the bytes of so many digits, with the unused digits 0.
pub record IsPacked (front : List ℕ) (base : Base) (count : ℕ) (packed : List ℕ) : Type 0 where
  pub body : List ℕ
  pub whole : packed ≡ front ++ body
  pub size : length body ≡ div_ceil count (digits_in_byte base)
  pub only : UsesNoMore base count body
