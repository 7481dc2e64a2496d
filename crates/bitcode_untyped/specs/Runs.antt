-- A machine that takes one use after another.
use Rattle.std.specs.Prelude.{◌≡◌, List, [], ◌∷◌}
use Rattle.bitcode_untyped.specs.Walk.{Use}

-- From a, the machine takes the uses in order and stands at b.
abbrev pub Runs : {S : Type 0} → (S → Use → S → Type 0) → S → List Use → S → Type 0
Runs T a [] b = a ≡ b
Runs {S} T a (u ∷ w) b = (c : S) × T a u c × Runs T c w b
