-- Keys of maps.
use Rattle.std.specs.Prelude.{◌≡◌, Bool, true}
use Rattle.std.specs.Cmp.{IsEquivalence}
use Rattle.bitcode_shapes.specs.Datum.{Datum}

-- the test calls those keys equal that have the same content
pub record TellsKeys {K : Type 0} (eq : K → K → Bool) (key : K → Datum) : Type 0 where
  pub laws : IsEquivalence eq
  pub same : (a b : K) → eq a b ≡ true → key a ≡ key b
  pub tells : (a b : K) → key a ≡ key b → eq a b ≡ true
