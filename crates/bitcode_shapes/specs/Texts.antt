-- The listings and making of texts, by their bytes. No text has an internal order.
use Rattle.std.specs.Prelude.{◌≡◌, ℕ, List, IsUtf8}
use Rattle.bitcode_shapes.specs.Datum.{Datum, text}

-- for a type whose values have bytes
abbrev pub IsTextValue : {T : Type 0} → (T → List ℕ) → T → Type 0
IsTextValue bytes t = IsUtf8 (bytes t)

abbrev pub ListsText : {T : Type 0} → (T → List ℕ) → T → Datum → Type 0
ListsText bytes t d = d ≡ text (bytes t)

abbrev pub MakesText : {T : Type 0} → (T → List ℕ) → Datum → T → Type 0
MakesText bytes d t = d ≡ text (bytes t)

abbrev pub SameText : {T : Type 0} → (T → List ℕ) → T → T → Type 0
SameText bytes t u = bytes t ≡ bytes u
