-- What a reader leaves of its input where it refuses.
use Rattle.std.proofs.Common.{◌≡◌, ℕ, List, [], ◌∷◌, ◌++◌, Result, Ok, Err, OnErr, sym}
use Rattle.bitcode_columns.specs.Reading.{IsEndOf}

pub IsEndOf-same : (old new : List ℕ) → new ≡ old → IsEndOf old new
IsEndOf-same old new same = record { taken = []; whole = sym same }

pub IsEndOf-taken : (taken old new : List ℕ) → old ≡ taken ++ new → IsEndOf old new
IsEndOf-taken taken old new whole = record { taken = taken; whole = whole }

pub IsEndOf-byte : (byte : ℕ) (old new : List ℕ) → old ≡ byte ∷ new → IsEndOf old new
IsEndOf-byte byte old new whole = record { taken = byte ∷ []; whole = whole }

pub OnErr-always : {T E Q : Type 0} (r : Result T E) → Q → OnErr r Q
OnErr-always (Ok x) q = tt
OnErr-always (Err e) q = q
