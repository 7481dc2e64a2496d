-- A type whose values correspond one to one to those of a lawful type is lawful: a struct, by the pair of its fields; a
-- box, by its content.
use Rattle.std.proofs.Common.{◌≡◌, Bool, sym, subst}
use Rattle.std.specs.declared.alloc.Global.{Global}
use Rattle.bitcode_shapes.specs.Datum.{Datum}
use Rattle.bitcode_shapes.specs.Shape.{Shape}
use Rattle.bitcode_shapes.specs.Lawful.{Lawful, Makeable}

module _ {T U : Type 0} (stands_for : T → U) {shape : Shape} {is_value : U → Type 0} {lists : U → Datum → Type 0} {same : U → U → Type 0} where
  pub image_lawful : {order : Bool} → Lawful shape is_value lists same order
      → Lawful shape (λ t. is_value (stands_for t)) (λ t d. lists (stands_for t) d) (λ t u. same (stands_for t) (stands_for u)) order
  image_lawful l = record {
    sound = l.sound;
    listed = λ t h. l.listed (stands_for t) h;
    of_shape = λ t d h m. l.of_shape (stands_for t) d h m;
    one_listing = λ o t d e h m n. l.one_listing o (stands_for t) d e h m n;
    reflexive = λ t h. l.reflexive (stands_for t) h;
    symmetric = λ t u h i s. l.symmetric (stands_for t) (stands_for u) h i s;
    transitive = λ t u v h i j s r. l.transitive (stands_for t) (stands_for u) (stands_for v) h i j s r;
  }

  -- each value of the lawful type belongs to some value
  pub image_makeable : {makes : Datum → U → Type 0} → (Global → (u : U) → is_value u → (t : T) × (stands_for t ≡ u))
      → Makeable shape is_value lists same makes
      → Makeable shape (λ t. is_value (stands_for t)) (λ t d. lists (stands_for t) d) (λ t u. same (stands_for t) (stands_for u)) (λ d t. makes d (stands_for t))
  image_makeable {makes = makes} find m = record {
    made = λ g d o s.
        let inner = m.made g d o s in
        let found = find g inner.0 inner.1.0 in
        (found.0, (subst is_value (sym found.1) inner.1.0, subst (makes d) (sym found.1) inner.1.1));
    unambiguous = λ d t u h i x y. m.unambiguous d (stands_for t) (stands_for u) h i x y;
    remade = λ t u d h i l x. m.remade (stands_for t) (stands_for u) d h i l x;
  }
