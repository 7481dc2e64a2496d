-- Several things as one, by pairs: the pair of the first half of them and of the rest, which has the middle one if they
-- are odd in number.
use Rattle.std.specs.Prelude.{ℕ, zero, suc, ◌/◌, List, [], ◌∷◌, length, take, drop}

module _ {A : Type 0} (none : A) (both : A → A → A) where
  -- by halving them at most so many times
  abbrev pub halved_within : List A → ℕ → A
  halved_within [] most = none
  halved_within (x ∷ []) most = x
  halved_within (x ∷ y ∷ xs) zero = none
  halved_within (x ∷ y ∷ xs) (suc most) =
      both (halved_within (take (length (x ∷ y ∷ xs) / 2) (x ∷ y ∷ xs)) most) (halved_within (drop (length (x ∷ y ∷ xs) / 2) (x ∷ y ∷ xs)) most)

  abbrev pub halved : List A → A
  halved xs = halved_within xs (length xs)
