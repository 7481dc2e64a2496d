-- Options as they are written: the variant of each, and the values of those that have one.
use Rattle.std.specs.Prelude.{ℕ, List, Option, Some, None}
use Rattle.std.specs.List.{filter_map}

module _ {A : Type 0} where
  -- 0 for none, 1 for a value
  abbrev pub option_index : Option A → ℕ
  option_index None = 0
  option_index (Some a) = 1

  -- the values, front to back
  abbrev pub values_in : List (Option A) → List A
  values_in os = filter_map (λ o. o) os
