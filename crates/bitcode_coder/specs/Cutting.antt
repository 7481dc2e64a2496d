-- Joined items, cut into pieces of given lengths: the elements of several lists, the bytes of several texts.
use Rattle.std.specs.Prelude.{ℕ, List, [], ◌∷◌, length, take, drop, nat_le, if◌then◌else◌}

-- a piece of each length, from the front; if fewer items are left, nothing more is cut
abbrev pub cut : {A : Type 0} → List ℕ → List A → List (List A)
cut [] items = []
cut (n ∷ ns) items = if nat_le n (length items) then take n items ∷ cut ns (drop n items) else []
