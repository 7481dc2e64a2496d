-- Worked examples: what an enum of three variants states about them, computed from the definitions.
use Rattle.std.specs.Prelude.{◌≡◌, ℕ, [], ◌∷◌, false, pos, refl}
use Rattle.bitcode_shapes.specs.Datum.{number, unit}
use Rattle.bitcode_shapes.specs.Shape.{variant_count, unit_shape, never_shape}
use Rattle.bitcode_shapes.specs.Ints.{int_shape}
use Rattle.bitcode_shapes.specs.DataOf.{DataOf}
use Rattle.bitcode_shapes.specs.LawfulInts.{width_1}
use Rattle.bitcode_shapes.specs.LeafData.{unit_data, unsigned_data}
use Rattle.bitcode_coder.specs.Coder.{JoinsListing}
use Rattle.bitcode_coder.specs.Columns.{Columns, no_columns}
use Rattle.bitcode_enums.specs.EachVariant.{Payloads, last_payload, payload_and, PayloadAt, each_variant}
use Rattle.bitcode_enums.specs.ByNumber.{shape_at, shape_among, shapes_of_variants, AreShapesOf, columns_at, KeepsOthers}
use Rattle.bitcode_enums.specs.VariantsOf.{VariantsOf}

data Shot : Type 0 where
  missed : Shot
  hit : ℕ → Shot
  fell : ℕ → Shot

abbrev nothing : DataOf (Unit {0})
nothing = unit_data (record {}) (λ t u. refl)

abbrev byte : DataOf ℕ
byte = unsigned_data 1 width_1

abbrev payloads : Payloads
payloads = payload_and nothing (payload_and byte (last_payload byte))

abbrev shots : VariantsOf Shot
shots = (each_variant payloads refl (λ at. elim [ missed ↦ at 0 tt | hit a ↦ at 1 a | fell a ↦ at 2 a ]) ((λ p. (missed, refl)), ((λ p. (hit p, refl)), λ p. (fell p, refl))) (elim [ missed ↦ refl | hit a ↦ refl | fell a ↦ refl ])).variants

-- ---- the numbers of the variants, and the shapes of their payloads

row_count : variant_count shots.shapes ≡ 3
row_count = refl

row_missed : shots.index missed ≡ 0
row_missed = refl

row_hit : shots.index (hit 7) ≡ 1
row_hit = refl

row_fell : shots.index (fell 7) ≡ 2
row_fell = refl

row_shape : shape_at 1 shots.shapes ≡ int_shape 1 false
row_shape = refl

-- the decoders of the last two variants read payloads of these shapes
row_shapes_of_variants : shapes_of_variants 1 2 shots.shapes ≡ int_shape 1 false ∷ int_shape 1 false ∷ []
row_shapes_of_variants = refl

row_are_shapes : AreShapesOf shots.shapes 1 (int_shape 1 false ∷ int_shape 1 false ∷ [])
row_are_shapes = refl

row_other_shapes : AreShapesOf shots.shapes 0 (int_shape 1 false ∷ []) → ⊥
row_other_shapes e = cc

row_shape_among : shape_among 1 (unit_shape ∷ int_shape 1 false ∷ []) ≡ int_shape 1 false
row_shape_among = refl

-- none of two decoders reads a third variant
row_shape_of_none : shape_among 2 (unit_shape ∷ int_shape 1 false ∷ []) ≡ never_shape
row_shape_of_none = refl

row_payload : PayloadAt payloads 2 ≡ ℕ
row_payload = refl

-- no variant has the number 3
row_none : PayloadAt payloads 3 ≡ ⊥
row_none = refl

-- ---- what a value lists, and what it adds to the columns of its variant

row_lists : shots.lists (hit 7) 1 (number (pos 7))
row_lists = refl

row_lists_nothing : shots.lists missed 0 unit
row_lists_nothing = refl

row_joins : (old new : Columns) → shots.joins (fell 7) old new ≡ JoinsListing byte.lists byte.shape 7 old new
row_joins old new = refl

-- ---- by index

row_place : (c d : Columns) → columns_at 1 (c ∷ d ∷ []) ≡ d
row_place c d = refl

row_place_past : (c d : Columns) → columns_at 2 (c ∷ d ∷ []) ≡ no_columns
row_place_past c d = refl

row_keeps : KeepsOthers {A = ℕ} 0 1 (5 ∷ 6 ∷ 7 ∷ []) (5 ∷ 9 ∷ 7 ∷ [])
row_keeps = refl

row_changes : KeepsOthers {A = ℕ} 0 1 (5 ∷ 6 ∷ 7 ∷ []) (5 ∷ 9 ∷ 8 ∷ []) → ⊥
row_changes e = cc
