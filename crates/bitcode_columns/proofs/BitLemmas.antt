-- The table of the bits of each byte.
use Rattle.std.proofs.Common.{◌≡◌, ℕ, zero, suc, ◌-◌, ◌<◌, Bool, true, ◌&&◌, T, [], get_or, map, eq-zero-or-pos, inl, inr, ℤ, sym, ap, ◌∙◌, nat_eq, arith}
use Rattle.std.specs.List.{range_with_len}
use Rattle.std.specs.Cmp.Lexicographic.{same_text}
use lib.Pointwise.{pointwise}
use lib.Ieee.Fits.{and_l, and_r}
use lib.Ieee.Bits.{is_true}
use Rattle.bitcode_columns.specs.declared.digit.TheConstants.{BITS}
use Rattle.bitcode_columns.specs.Digits.{digit}
use Rattle.bitcode_memory.specs.Ints.{bool_digit, residue, number_of}
use Rattle.bitcode_memory.proofs.IntLemmas.{residue-number_of}

-- what is so of each number below a bound, found by computing it for each
abbrev pub all_below : (ℕ → Bool) → ℕ → Bool
all_below p zero = true
all_below p (suc n) = p n && all_below p n

pub holds_below : (p : ℕ → Bool) (n k : ℕ) → T (all_below p n) → k < n → T (p k)
holds_below p zero k t h = absurd (omega arith)
holds_below p (suc n) k t h =
    elim (eq-zero-or-pos (n - k)) [
      | inl z ↦ let e : k ≡ n = omega arith in rw e (and_l _ (all_below p n) t)
      | inr g ↦ holds_below p n k (and_r _ (all_below p n) t) (omega arith)
    ]

pub BITS_at : (byte : ℕ) → byte < 256 → map bool_digit (get_or BITS byte []) ≡ map (digit 2 byte) (range_with_len 0 8)
BITS_at byte h =
    same_text (map bool_digit (get_or BITS byte [])) (map (digit 2 byte) (range_with_len 0 8))
    (sym (is_true _ (holds_below (λ b. pointwise nat_eq (map bool_digit (get_or BITS b [])) (map (digit 2 b) (range_with_len 0 8))) 256 byte tt h)))

-- a number below 256 that is a bit, as an integer of one byte
pub bit_is : (signed : Bool) (n bit : ℕ) (z : ℤ) → z ≡ number_of 1 signed n → n ≡ bit → n < 256 → residue 1 z ≡ bit
bit_is signed n bit z made is below = ap (residue 1) made ∙ residue-number_of 1 signed n below ∙ is
