-- What stands in a list at an index.
use Rattle.std.proofs.Common.{◌≡◌, ℕ, zero, suc, ◌<◌, ◌≤◌, List, [], ◌∷◌, Some, None, slice_get, get_or, length, refl, sym, ap, arith}

pub found_entry : {A : Type 0} (xs : List A) (i : ℕ) (x : A) → i < length xs → x ≡ get_or xs i x → slice_get xs i ≡ Some x
found_entry [] i x inside h = absurd (omega arith)
found_entry (y ∷ xs) zero x inside h = ap Some (sym h)
found_entry (y ∷ xs) (suc i) x inside h = found_entry xs i x (let k : suc i < suc (length xs) = inside in omega arith) h

pub no_entry : {A : Type 0} (xs : List A) (i : ℕ) → length xs ≤ i → slice_get xs i ≡ None
no_entry [] i h = refl
no_entry (y ∷ xs) zero h = absurd (let k : suc (length xs) ≤ 0 = h in omega arith)
no_entry (y ∷ xs) (suc i) h = no_entry xs i (let k : suc (length xs) ≤ suc i = h in omega arith)

pub some_same : {A : Type 0} (x y : A) → Some x ≡ Some y → x ≡ y
some_same x y e = cc
