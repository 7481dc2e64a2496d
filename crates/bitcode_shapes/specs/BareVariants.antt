-- An enum without payloads. A value holds the choice of its variant, with no data in it.
use Rattle.std.specs.Prelude.{◌≡◌, ℕ, zero, suc, IsTrue, ◌&&◌, leb, List, map}
use Rattle.std.specs.List.{range_with_len}
use Rattle.bitcode_shapes.specs.Datum.{Datum, choice, unit}
use Rattle.bitcode_shapes.specs.Shape.{Shape, Shapes, no_shapes, shape_and, unit_shape, choice_shape}

abbrev pub unit_shapes : ℕ → Shapes
unit_shapes zero = no_shapes
unit_shapes (suc count) = shape_and unit_shape (unit_shapes count)

-- the shape of an enum of so many variants
abbrev pub bare_shape : ℕ → Shape
bare_shape count = choice_shape (unit_shapes count)

-- enums have 2 to 256 variants
abbrev pub AreSomeVariants : ℕ → Type 0
AreSomeVariants count = IsTrue (leb 2 count && leb count 256)

module _ {T : Type 0} (variant : T → ℕ) where
  abbrev pub ListsBare : T → Datum → Type 0
  ListsBare t d = d ≡ choice (variant t) unit

  abbrev pub MakesBare : Datum → T → Type 0
  MakesBare d t = d ≡ choice (variant t) unit

  abbrev pub SameBare : T → T → Type 0
  SameBare t u = variant t ≡ variant u

  -- these are the values, in the order of their variants
  abbrev pub AreInOrder : List T → ℕ → Type 0
  AreInOrder values count = map variant values ≡ range_with_len 0 count

  -- and there are as many as enums may have
  abbrev pub AreSomeInOrder : List T → ℕ → Type 0
  AreSomeInOrder values count = AreInOrder values count × AreSomeVariants count
