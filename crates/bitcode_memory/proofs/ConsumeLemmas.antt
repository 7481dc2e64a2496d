-- Lists cut into chunks of one length, and joined again.
use Rattle.std.proofs.Common.{◌≡◌, ℕ, zero, suc, ◌+◌, ◌*◌, ◌≤◌, List, ◌∷◌, ◌++◌, take, drop, refl, ap, ◌∙◌, arith}
use Rattle.std.proofs.Math.Seq.{take-add}
use Rattle.std.specs.List.{concat}
use Rattle.std.specs.Simd.{first_chunks}

pub take-first_chunks : {X : Type 0} (size k count : ℕ) (xs : List X) → k ≤ count → take k (first_chunks size count xs) ≡ first_chunks size k xs
take-first_chunks size zero count xs h = refl
take-first_chunks size (suc k) zero xs h = absurd (omega arith)
take-first_chunks size (suc k) (suc count) xs h = ap (λ rest. take size xs ∷ rest) (take-first_chunks size k count (drop size xs) (omega arith))

pub concat-first_chunks : (size k : ℕ) (xs : List ℕ) → concat (first_chunks size k xs) ≡ take (k * size) xs
concat-first_chunks size zero xs = let e : zero * size ≡ 0 = omega arith in rw e
concat-first_chunks size (suc k) xs =
    let e : suc k * size ≡ size + k * size = omega arith in
    ap (λ rest. take size xs ++ rest) (concat-first_chunks size k (drop size xs)) ∙ rw (e, take-add)
