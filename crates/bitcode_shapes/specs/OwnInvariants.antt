-- A type with an invariant of its own, under which its values correspond one to one to those of a lawful type: an
-- address, whose octets are four bytes, corresponds to the number that they spell.
use Rattle.std.proofs.Common.{◌≡◌, Bool, subst, sym}
use Rattle.bitcode_shapes.specs.Datum.{Datum}
use Rattle.bitcode_shapes.specs.Shape.{Shape}
use Rattle.bitcode_shapes.specs.ArrayCounts.{ListsSameArrays}
use Rattle.bitcode_shapes.specs.Lawful.{Lawful, Makeable}
use Rattle.bitcode_shapes.specs.SameData.{HoldSameData}
use Rattle.bitcode_shapes.specs.SameIsOne.{AreExact, SameIsOne}

module _ {T U : Type 0} (stands_for : T → U) (is_whole : T → Type 0) {is_value : U → Type 0} (fits : (t : T) → is_whole t → is_value (stands_for t)) where
  pub whole_lawful : {shape : Shape} {lists : U → Datum → Type 0} {same : U → U → Type 0} {order : Bool} → Lawful shape is_value lists same order
      → Lawful shape is_whole (λ t d. lists (stands_for t) d) (λ t u. same (stands_for t) (stands_for u)) order
  whole_lawful l = record {
    sound = l.sound;
    listed = λ t h. l.listed (stands_for t) (fits t h);
    of_shape = λ t d h m. l.of_shape (stands_for t) d (fits t h) m;
    one_listing = λ o t d e h m n. l.one_listing o (stands_for t) d e (fits t h) m n;
    reflexive = λ t h. l.reflexive (stands_for t) (fits t h);
    symmetric = λ t u h i s. l.symmetric (stands_for t) (stands_for u) (fits t h) (fits u i) s;
    transitive = λ t u v h i j s r. l.transitive (stands_for t) (stands_for u) (stands_for v) (fits t h) (fits u i) (fits v j) s r;
  }

  -- each value of the lawful type belongs to some value
  pub whole_makeable : {shape : Shape} {lists : U → Datum → Type 0} {same : U → U → Type 0} {makes : Datum → U → Type 0} → ((u : U) → is_value u → (t : T) × (is_whole t × (stands_for t ≡ u)))
      → Makeable shape is_value lists same makes
      → Makeable shape is_whole (λ t d. lists (stands_for t) d) (λ t u. same (stands_for t) (stands_for u)) (λ d t. makes d (stands_for t))
  whole_makeable {makes = makes} find m = record {
    made = λ g d o s.
        let inner = m.made g d o s in
        let found = find inner.0 inner.1.0 in
        (found.0, (found.1.0, subst (makes d) (sym found.1.1) inner.1.1));
    unambiguous = λ d t u h i x y. m.unambiguous d (stands_for t) (stands_for u) (fits t h) (fits u i) x y;
    remade = λ t u d h i l x. m.remade (stands_for t) (stands_for u) d (fits t h) (fits u i) l x;
  }

  pub whole_same_arrays : {shape : Shape} {lists : U → Datum → Type 0} → ListsSameArrays shape is_value lists → ListsSameArrays shape is_whole (λ t d. lists (stands_for t) d)
  whole_same_arrays of = record { at = λ t d e h l m way. of.at (stands_for t) d e (fits t h) l m way }

  pub whole_same_data : {determined : Bool} {lists : U → Datum → Type 0} {same : U → U → Type 0} {makes : Datum → U → Type 0} → HoldSameData determined is_value lists same makes
      → HoldSameData determined is_whole (λ t d. lists (stands_for t) d) (λ t u. same (stands_for t) (stands_for u)) (λ d t. makes d (stands_for t))
  whole_same_data of = record {
    at = λ o t u d e h i s l m. of.at o (stands_for t) (stands_for u) d e (fits t h) (fits u i) s l m;
    made = λ o t d h. of.made o (stands_for t) d (fits t h);
  }

  pub whole_exact : {exact : Bool} {same : U → U → Type 0} → SameIsOne is_whole (λ t u. stands_for t ≡ stands_for u) → AreExact exact is_value same
      → AreExact exact is_whole (λ t u. same (stands_for t) (stands_for u))
  whole_exact one_to_one of = record { at = λ o t u h i s. one_to_one t u h i (of.at o (stands_for t) (stands_for u) (fits t h) (fits u i) s) }
