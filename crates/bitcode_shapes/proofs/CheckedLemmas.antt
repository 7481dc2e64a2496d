-- The numbers that types allow.
use Rattle.std.proofs.Common.{◌≢◌, ℕ, zero, suc, ◌<◌, ℤ, pos, negsuc, arith}
use Rattle.std.specs.Prelude.{unsigned_abs}

pub nonzero_unsigned : (n : ℕ) → 0 < n → pos n ≢ pos 0
nonzero_unsigned zero h e = absurd (omega arith)
nonzero_unsigned (suc n) h e = cc

pub nonzero_signed : (z : ℤ) → 0 < unsigned_abs z → z ≢ pos 0
nonzero_signed (pos n) h e = nonzero_unsigned n h e
nonzero_signed (negsuc n) h e = cc
