-- What the coders of several variants hold.
use Rattle.std.specs.Prelude.{◌≡◌, ℕ, ◌+◌, List, ◌++◌, length}
use Rattle.bitcode_shapes.specs.Datum.{Datum}
use Rattle.bitcode_shapes.specs.Shape.{Shape}
use Rattle.bitcode_coder.specs.Columns.{Columns}

pub record HeldColumns (E : Type 0) : Type 0 where
  -- the columns of each variant
  pub lists : E → List Columns
  -- how many entries fit in their memory
  pub capacity : E → ℕ

-- for a type that contains these
abbrev pub columns_in : {C E : Type 0} → (C → E) → HeldColumns E → HeldColumns C
columns_in part held = record {
  lists = λ c. held.lists (part c);
  capacity = λ c. held.capacity (part c);
}

pub record HeldPayloads (D : Type 0) : Type 0 where
  -- the shape of the payloads of each variant
  pub shapes : List Shape
  -- the remaining payloads of each variant
  pub lists : D → List (List Datum)
  -- how many entries fit in the memory that they own
  pub owned : D → ℕ

-- for a type that contains these
abbrev pub payloads_in : {D E : Type 0} → (E → D) → HeldPayloads D → HeldPayloads E
payloads_in part held = record {
  shapes = held.shapes;
  lists = λ e. held.lists (part e);
  owned = λ e. held.owned (part e);
}

-- for a type that contains two of these, one behind the other
abbrev pub payloads_beside : {A B E : Type 0} → (E → A) → (E → B) → HeldPayloads A → HeldPayloads B → HeldPayloads E
payloads_beside first second a b = record {
  shapes = a.shapes ++ b.shapes;
  lists = λ e. a.lists (first e) ++ b.lists (second e);
  owned = λ e. a.owned (first e) + b.owned (second e);
}

-- they are the payloads of the variants from one number to the one before another
pub record AreCounted {D : Type 0} (held : HeldPayloads D) (first end : ℕ) : Type 0 where
  pub shapes : first + length held.shapes ≡ end
  pub lists : (d : D) → first + length (held.lists d) ≡ end
