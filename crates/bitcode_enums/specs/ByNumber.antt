-- The columns and the payloads of consecutive variants, by the index of a variant among them.
use Rattle.std.specs.Prelude.{◌≡◌, ℕ, zero, suc, ◌+◌, List, [], ◌∷◌, ◌++◌, length, map, drop, slice_index_or, slice_set, ◌⊎◌}
use Rattle.std.proofs.Common.{inl, inr}
use Rattle.bitcode_shapes.specs.Datum.{Datum}
use Rattle.bitcode_shapes.specs.Shape.{Shape, Shapes, no_shapes, shape_and, never_shape}
use Rattle.bitcode_coder.specs.Columns.{Columns, no_columns, two, emptied}
use Rattle.bitcode_coder.specs.Coder.{written_columns}

-- ---- by index

-- the variant of a payload: the first one, or one of the rest
abbrev pub index_either : {A R : Type 0} → (R → ℕ) → A ⊎ R → ℕ
index_either index (inl a) = zero
index_either index (inr r) = suc (index r)

-- the shape of the variant at an index
abbrev pub shape_at : ℕ → Shapes → Shape
shape_at place no_shapes = never_shape
shape_at zero (shape_and s ss) = s
shape_at (suc place) (shape_and s ss) = shape_at place ss

-- the same in a list
abbrev pub shape_among : ℕ → List Shape → Shape
shape_among place shapes = slice_index_or shapes place never_shape

-- the shapes of so many variants from a number on
abbrev pub shapes_of_variants : (first count : ℕ) → Shapes → List Shape
shapes_of_variants first zero ss = []
shapes_of_variants first (suc count) ss = shape_at first ss ∷ shapes_of_variants (first + 1) count ss

-- these are the shapes of the payloads of the variants from a number on
abbrev pub AreShapesOf : Shapes → (first : ℕ) → List Shape → Type 0
AreShapesOf shapes first among = among ≡ shapes_of_variants first (length among) shapes

-- the columns of the variant at an index
abbrev pub columns_at : ℕ → List Columns → Columns
columns_at place lists = slice_index_or lists place no_columns

-- nothing changed except at one index
abbrev pub KeepsOthers : {A : Type 0} → A → ℕ → (old new : List A) → Type 0
KeepsOthers none place old new = new ≡ slice_set old place (slice_index_or new place none)

-- ---- writing

-- the columns of each variant, those of the first one first
abbrev pub all_columns : List Columns → Columns
all_columns [] = no_columns
all_columns (c ∷ cs) = two c (all_columns cs)

-- the columns of each variant, without entries
abbrev pub bare_columns : Shapes → List Columns
bare_columns no_shapes = []
bare_columns (shape_and s ss) = written_columns s [] ∷ bare_columns ss

-- these are the columns of the variants from one number to the one before another: there are columns for each of them,
-- and without entries, followed by those of the later variants, they are those of the shapes of the payloads
abbrev pub AreColumnsOf : Shapes → (first end : ℕ) → List Columns → Type 0
AreColumnsOf shapes first end lists =
    (first + length lists ≡ end) × (map emptied lists ++ drop end (bare_columns shapes) ≡ drop first (bare_columns shapes))

-- a statement about the columns of the variant of a payload
abbrev pub joins_either : {A R : Type 0} → (A → Columns → Columns → Type 0) → (R → Columns → Columns → Type 0) → A ⊎ R → Columns → Columns → Type 0
joins_either joins_first joins_rest (inl a) = joins_first a
joins_either joins_first joins_rest (inr r) = joins_rest r

abbrev pub overflows_either : {A R : Type 0} → (A → Columns → Type 0) → (R → Columns → Type 0) → A ⊎ R → Columns → Type 0
overflows_either overflows_first overflows_rest (inl a) = overflows_first a
overflows_either overflows_first overflows_rest (inr r) = overflows_rest r

-- ---- reading

-- a statement about the data of the variant from which the payload was taken
abbrev pub takes_either : {A R : Type 0} → (A → List Datum → List Datum → Type 0) → (R → List Datum → List Datum → Type 0) → A ⊎ R → List Datum → List Datum → Type 0
takes_either takes_first takes_rest (inl a) = takes_first a
takes_either takes_first takes_rest (inr r) = takes_rest r
