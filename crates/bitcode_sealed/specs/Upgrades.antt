-- What containers of values hold that were made from earlier ones.
use Rattle.std.specs.Prelude.{Bool, List, Option, Some, None}
use Rattle.std.specs.Map.{lookup}

-- both are none, or both are values, of which the second was made from the first
abbrev pub UpgradesOption : {A B : Type 0} → (A → B → Type 0) → Option A → Option B → Type 0
UpgradesOption of None None = Unit {0}
UpgradesOption of None (Some t) = ⊥
UpgradesOption of (Some b) None = ⊥
UpgradesOption of (Some b) (Some t) = of b t

-- the same keys have values, and each of these was made from the earlier one of its key
abbrev pub UpgradesMap : {K A B : Type 0} → (K → K → Bool) → (A → B → Type 0) → List (K × A) → List (K × B) → Type 0
UpgradesMap {K} eq of before entries = (key : K) → UpgradesOption of (lookup (eq key) before) (lookup (eq key) entries)
