-- Concatenated texts. The concatenation and the ends of the texts determine whether each text is UTF-8.
use Rattle.std.specs.Prelude.{ℕ, ◌+◌, List, [], ◌∷◌, length, map, All, IsUtf8, ◌↔◌}
use Rattle.std.specs.List.{flat_map}
use Rattle.std.specs.Str.{IsCharBoundary}

abbrev pub join : List (List ℕ) → List ℕ
join texts = flat_map (λ text. text) texts

abbrev pub lengths_of : List (List ℕ) → List ℕ
lengths_of texts = map (λ text. length text) texts

-- where texts of such lengths end, if the first begins at a place
abbrev pub ends_from : ℕ → List ℕ → List ℕ
ends_from start [] = []
ends_from start (n ∷ ns) = (start + n) ∷ ends_from (start + n) ns

-- the bytes are UTF-8, and each text ends where a character begins or the bytes end
pub record IsCutAtChars (bytes lengths : List ℕ) : Type 0 where
  pub whole : IsUtf8 bytes
  pub ends : All (IsCharBoundary bytes) (ends_from 0 lengths)

-- all texts are UTF-8 if and only if their concatenation is, and is cut between characters
abbrev pub AreUtf8AsJoined : List (List ℕ) → Type 0
AreUtf8AsJoined texts = All IsUtf8 texts ↔ IsCutAtChars (join texts) (lengths_of texts)
