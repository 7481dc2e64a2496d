-- The unit is lawful.
use Rattle.std.proofs.Common.{true, refl, sym, ◌∙◌}
use Rattle.bitcode_shapes.specs.Datum.{unit}
use Rattle.bitcode_shapes.specs.Shape.{unit_shape}
use Rattle.bitcode_shapes.specs.Lawful.{Lawful, Makeable}
use Rattle.bitcode_shapes.specs.Empty.{ListsUnit, MakesUnit}

pub unit_lawful : {T : Type 0} → Lawful unit_shape (λ (t : T). Unit {0}) ListsUnit (λ t u. Unit {0}) true
unit_lawful = record {
  sound = tt;
  listed = λ t h. (unit, refl);
  of_shape = λ t d h l. l;
  one_listing = λ o t d e h l m. l ∙ sym m;
  reflexive = λ t h. tt;
  symmetric = λ t u h i s. tt;
  transitive = λ t u v h i j s r. tt;
}

pub unit_makeable : {T : Type 0} → T → Makeable unit_shape (λ (t : T). Unit {0}) ListsUnit (λ t u. Unit {0}) MakesUnit
unit_makeable t = record {
  made = λ g d o s. (t, (tt, o));
  unambiguous = λ d t u h i m n. tt;
  remade = λ t u d h i l m. tt;
}
