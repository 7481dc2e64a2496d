-- Floats are lawful. Two floats are the same if they have the same bits, where all NaNs have the same: `==` is another
-- relation, since it tells a NaN from itself, and does not tell 0 from -0.
use Rattle.std.proofs.Common.{◌≡◌, true, refl, sym, ◌∙◌, ap}
use lib.Ieee.{Format, of_bits, to_bits}
use lib.Ieee.Bits.{of_bits-to_bits}
use Rattle.bitcode_shapes.specs.Datum.{number}
use Rattle.bitcode_shapes.specs.Shape.{float_shape}
use Rattle.bitcode_shapes.specs.Lawful.{Lawful, Makeable}
use Rattle.bitcode_shapes.specs.Ints.{ListsNumber, MakesNumber, SameNumber}
use Rattle.bitcode_shapes.specs.Floats.{float_number, IsFloatValue}
use Rattle.bitcode_shapes.specs.LawfulInts.{number_once}
use Rattle.bitcode_shapes.specs.SameIsOne.{SameIsOne}

pub float_lawful : (format : Format)
    → Lawful (float_shape format) (IsFloatValue format) (ListsNumber (float_number format)) (SameNumber (float_number format)) true
float_lawful format = record {
  sound = tt;
  listed = λ t h. (number (float_number format t), refl);
  of_shape = λ t d h l. record { value = t; is = l; in_format = h };
  one_listing = λ o t d e h l m. l ∙ sym m;
  reflexive = λ t h. refl;
  symmetric = λ t u h i s. sym s;
  transitive = λ t u v h i j s r. s ∙ r;
}

pub float_makeable : (format : Format)
    → Makeable (float_shape format) (IsFloatValue format) (ListsNumber (float_number format)) (SameNumber (float_number format)) (MakesNumber (float_number format))
float_makeable format = record {
  made = λ g d o s. (o.value, (o.in_format, o.is));
  unambiguous = λ d t u h i m n. number_once (sym m ∙ n);
  remade = λ t u d h i l m. number_once (sym l ∙ m);
}

-- floats that are the same are equal in every respect
pub floats_are_one : (format : Format) → SameIsOne (IsFloatValue format) (SameNumber (float_number format))
floats_are_one format t u h i same =
    let bits : to_bits format t ≡ to_bits format u = cc same in
    sym (of_bits-to_bits format t h) ∙ ap (of_bits format) bits ∙ of_bits-to_bits format u i
