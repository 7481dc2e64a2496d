-- The listings and making of pairs: each field according to its own type.
use Rattle.std.specs.Prelude.{◌≡◌}
use Rattle.bitcode_shapes.specs.Datum.{Datum, pair}

-- for a pair: each field according to its own type
abbrev pub IsPairValue : {A B : Type 0} → (A → Type 0) → (B → Type 0) → A × B → Type 0
IsPairValue is_first is_second t = is_first t.0 × is_second t.1

pub record ListsPair {A B : Type 0} (lists_a : A → Datum → Type 0) (lists_b : B → Datum → Type 0) (t : A × B) (d : Datum) : Type 0 where
  pub first : Datum
  pub second : Datum
  pub is : d ≡ pair first second
  pub lists_first : lists_a t.0 first
  pub lists_second : lists_b t.1 second

pub record MakesPair {A B : Type 0} (makes_a : Datum → A → Type 0) (makes_b : Datum → B → Type 0) (d : Datum) (t : A × B) : Type 0 where
  pub first : Datum
  pub second : Datum
  pub is : d ≡ pair first second
  pub makes_first : makes_a first t.0
  pub makes_second : makes_b second t.1

abbrev pub SamePair : {A B : Type 0} → (A → A → Type 0) → (B → B → Type 0) → A × B → A × B → Type 0
SamePair same_first same_second t u = same_first t.0 u.0 × same_second t.1 u.1
