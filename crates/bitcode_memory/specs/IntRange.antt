-- The least and the greatest number of a width, signed (true) or not.
use Rattle.std.specs.Prelude.{ℕ, ◌-◌, ◌/◌, ◌^◌, Bool, true, false, ℤ, pos, negsuc}

abbrev pub least_number : ℕ → Bool → ℤ
least_number width false = pos 0
least_number width true = negsuc (256 ^ width / 2 - 1)

abbrev pub greatest_number : ℕ → Bool → ℤ
greatest_number width false = pos (256 ^ width - 1)
greatest_number width true = pos (256 ^ width / 2 - 1)
