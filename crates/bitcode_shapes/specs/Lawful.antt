-- The laws of a lawful type T. A value of it satisfies is_value (the numbers and chars in it are within the ranges of
-- their types).
use Rattle.std.specs.Prelude.{◌≡◌, Bool, IsTrue}
use Rattle.std.specs.declared.alloc.Global.{Global}
use Rattle.bitcode_shapes.specs.Datum.{Datum}
use Rattle.bitcode_shapes.specs.Shape.{Shape, IsOf, IsSound}
use Rattle.bitcode_shapes.specs.Storable.{IsStorable}

-- Each value has a listing, each listing has the shape, and `same` is an equivalence. If nothing in the value has an
-- internal order, as hashed containers and heaps do, it has only one listing.
pub record Lawful {T : Type 0} (shape : Shape) (is_value : T → Type 0) (lists : T → Datum → Type 0) (same : T → T → Type 0) (in_order : Bool) : Type 0 where
  pub sound : IsSound shape
  pub listed : (t : T) → is_value t → (d : Datum) × lists t d
  pub of_shape : (t : T) (d : Datum) → is_value t → lists t d → IsOf shape d
  pub one_listing : IsTrue in_order → (t : T) (d e : Datum) → is_value t → lists t d → lists t e → d ≡ e
  pub reflexive : (t : T) → is_value t → same t t
  pub symmetric : (t u : T) → is_value t → is_value u → same t u → same u t
  pub transitive : (t u v : T) → is_value t → is_value u → is_value v → same t u → same u v → same t v

-- Each datum of the shape that containers can hold makes some value, given an allocator. All values that one datum
-- makes are equal, and a value is equal to what a listing of it makes.
pub record Makeable {T : Type 0} (shape : Shape) (is_value : T → Type 0) (lists : T → Datum → Type 0) (same : T → T → Type 0) (makes : Datum → T → Type 0) : Type 0 where
  pub made : Global → (d : Datum) → IsOf shape d → IsStorable shape d → (t : T) × (is_value t × makes d t)
  pub unambiguous : (d : Datum) (t u : T) → is_value t → is_value u → makes d t → makes d u → same t u
  pub remade : (t u : T) (d : Datum) → is_value t → is_value u → lists t d → makes d u → same t u
