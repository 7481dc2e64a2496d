-- Items of one of several variants each.
use Rattle.std.specs.Prelude.{◌≡◌, ℕ, suc, Option, Some, None, List, [], ◌∷◌, ◌==◌, filter, slice_get}
use Rattle.bitcode_shapes.specs.Datum.{Datum, unit, choice}
use Rattle.bitcode_shapes.specs.Shape.{Shape, Shapes, no_shapes, shape_and}
use Rattle.bitcode_schema.specs.Forms.{changed}
use Rattle.bitcode_schema.specs.Writing.{Writes}

-- the payload that an item of a variant has, and its shape
pub record Payload (A : Type 0) : Type 0 where
  pub content : A → Option Datum
  pub shape : Shape

abbrev pub shapes_from : {A : Type 0} → List (Payload A) → Shapes
shapes_from [] = no_shapes
shapes_from (p ∷ ps) = shape_and p.shape (shapes_from ps)

abbrev pub payload_of : {A : Type 0} → Option (Payload A) → ℕ → A → Option Datum
payload_of (Some p) i item = changed (choice i) (p.content item)
payload_of None i item = None

-- the datum of an item: its variant, with the payload of that variant
abbrev pub chosen : {A : Type 0} → (A → ℕ) → List (Payload A) → A → Option Datum
chosen variant payloads item = payload_of (slice_get payloads (variant item)) (variant item) item

-- the items of one variant
abbrev pub of_variant : {A : Type 0} → (A → ℕ) → ℕ → List A → List A
of_variant variant i items = filter (λ item. variant item == i) items

-- The payloads were written, those of one variant after those of another.
abbrev pub WritesPayloads : {A : Type 0} → (A → ℕ) → List (Payload A) → ℕ → List A → List ℕ → List ℕ → Type 0
WritesPayloads variant [] i items before after = after ≡ before
WritesPayloads variant (p ∷ ps) i items before after =
    (middle : List ℕ) × (Writes p.content p.shape (of_variant variant i items) before middle × WritesPayloads variant ps (suc i) items middle after)

-- ---- options: variant 0 is none, and variant 1 holds a value

abbrev pub option_variant : {A : Type 0} → Option A → ℕ
option_variant None = 0
option_variant (Some a) = 1

abbrev pub none_content : {A : Type 0} → Option A → Option Datum
none_content None = Some unit
none_content (Some a) = None

abbrev pub some_content : {A : Type 0} → (A → Option Datum) → Option A → Option Datum
some_content content None = None
some_content content (Some a) = content a
