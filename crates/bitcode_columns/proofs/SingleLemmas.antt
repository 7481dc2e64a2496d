-- The table of slices of one number.
use Rattle.std.proofs.Common.{◌≡◌, ℕ, ◌<◌, [], ◌∷◌, get_or, nat_eq, sym}
use Rattle.std.specs.Cmp.Lexicographic.{same_text}
use lib.Pointwise.{pointwise}
use lib.Ieee.Bits.{is_true}
use Rattle.bitcode_columns.specs.declared.single.TheConstants.{NUMBERS}
use Rattle.bitcode_columns.proofs.BitLemmas.{holds_below}

pub NUMBERS_at : (number : ℕ) → number < 16 → get_or NUMBERS number [] ≡ number ∷ []
NUMBERS_at number h =
    same_text (get_or NUMBERS number []) (number ∷ [])
    (sym (is_true _ (holds_below (λ n. pointwise nat_eq (get_or NUMBERS n []) (n ∷ [])) 16 number tt h)))
