-- The entries of a column as numbers. The bytes of an entry with a width of w bytes encode it modulo 256 ^ w: a
-- negative entry in two's complement.
use Rattle.std.specs.Prelude.{ℕ, suc, ◌-◌, ◌*◌, ◌^◌, ◌<◌, Bool, true, false, ℤ, pos, negsuc, List, [], ◌∷◌, fold, nat_lt, if◌then◌else◌}
use Rattle.std.specs.Int.{int_min, int_max}

-- z is a number of the width, signed or not
abbrev pub IsNumber : ℕ → Bool → ℤ → Type 0
IsNumber width false (pos n) = n < 256 ^ width
IsNumber width false (negsuc n) = ⊥
IsNumber width true (pos n) = 2 * n < 256 ^ width
IsNumber width true (negsuc n) = 2 * n < 256 ^ width

abbrev pub residue : ℕ → ℤ → ℕ
residue width (pos n) = n
residue width (negsuc n) = 256 ^ width - suc n

-- the number with a residue, for a signed type (true) or an unsigned one
abbrev pub number_of : ℕ → Bool → ℕ → ℤ
number_of width false n = pos n
number_of width true n = if nat_lt (2 * n) (256 ^ width) then pos n else negsuc (256 ^ width - suc n)

-- the least and the greatest of all entries, or 0 if there are none
abbrev pub least : List ℤ → ℤ
least [] = pos 0
least (entry ∷ entries) = fold int_min entry entries

abbrev pub greatest : List ℤ → ℤ
greatest [] = pos 0
greatest (entry ∷ entries) = fold int_max entry entries

-- a bool as a number
abbrev pub bool_digit : Bool → ℕ
bool_digit b = if b then 1 else 0
