-- A value of one of several variants holds its index and the data of its payload. Several variants are the first one
-- and the rest, down to the last one alone. Their values correspond to those of A ⊎ (B ⊎ C), which are listed by an
-- index and a datum.
use Rattle.std.specs.Prelude.{◌≡◌, ℕ, zero, suc, Option, Some, None, Result, Ok, Err, ◌⊎◌}
use Rattle.std.proofs.Common.{inl, inr}
use Rattle.bitcode_shapes.specs.Datum.{Datum, choice}

pub record ListsChoice {T : Type 0} (lists : T → ℕ → Datum → Type 0) (t : T) (d : Datum) : Type 0 where
  pub index : ℕ
  pub payload : Datum
  pub is : d ≡ choice index payload
  pub lists_payload : lists t index payload

pub record MakesChoice {T : Type 0} (makes : ℕ → Datum → T → Type 0) (d : Datum) (t : T) : Type 0 where
  pub index : ℕ
  pub payload : Datum
  pub is : d ≡ choice index payload
  pub makes_payload : makes index payload t

-- ---- the last variant alone

abbrev pub ListsLast : {A : Type 0} → (A → Datum → Type 0) → A → ℕ → Datum → Type 0
ListsLast lists t zero d = lists t d
ListsLast lists t (suc index) d = ⊥

abbrev pub MakesLast : {A : Type 0} → (Datum → A → Type 0) → ℕ → Datum → A → Type 0
MakesLast makes zero d t = makes d t
MakesLast makes (suc index) d t = ⊥

-- ---- the first variant and the rest

abbrev pub IsVariantValue : {A B : Type 0} → (A → Type 0) → (B → Type 0) → A ⊎ B → Type 0
IsVariantValue is_first is_rest (inl a) = is_first a
IsVariantValue is_first is_rest (inr b) = is_rest b

abbrev pub ListsVariant : {A B : Type 0} → (A → Datum → Type 0) → (B → ℕ → Datum → Type 0) → A ⊎ B → ℕ → Datum → Type 0
ListsVariant lists_first lists_rest (inl a) zero d = lists_first a d
ListsVariant lists_first lists_rest (inl a) (suc index) d = ⊥
ListsVariant lists_first lists_rest (inr b) zero d = ⊥
ListsVariant lists_first lists_rest (inr b) (suc index) d = lists_rest b index d

abbrev pub MakesVariant : {A B : Type 0} → (Datum → A → Type 0) → (ℕ → Datum → B → Type 0) → ℕ → Datum → A ⊎ B → Type 0
MakesVariant makes_first makes_rest zero d (inl a) = makes_first d a
MakesVariant makes_first makes_rest zero d (inr b) = ⊥
MakesVariant makes_first makes_rest (suc index) d (inl a) = ⊥
MakesVariant makes_first makes_rest (suc index) d (inr b) = makes_rest index d b

abbrev pub SameVariant : {A B : Type 0} → (A → A → Type 0) → (B → B → Type 0) → A ⊎ B → A ⊎ B → Type 0
SameVariant same_first same_rest (inl a) (inl b) = same_first a b
SameVariant same_first same_rest (inl a) (inr b) = ⊥
SameVariant same_first same_rest (inr a) (inl b) = ⊥
SameVariant same_first same_rest (inr a) (inr b) = same_rest a b

-- ---- options and results

-- nothing, or a value
abbrev pub option_variant : {A : Type 0} → Option A → Unit {0} ⊎ A
option_variant None = inl tt
option_variant (Some a) = inr a

abbrev pub result_variant : {A B : Type 0} → Result A B → A ⊎ B
result_variant (Ok a) = inl a
result_variant (Err b) = inr b
