-- What damage is detected for sure.
use Rattle.std.specs.Prelude.{◌≡◌, ◌≢◌, ℕ, ◌≤◌, List, ◌++◌, length}
use Rattle.bitcode_sealed.specs.Layout.{IsSealed}

-- the bytes differ from those that were within four bytes in a row, and nowhere else
pub record DiffersWithinFour (bytes damaged : List ℕ) : Type 0 where
  pub before : List ℕ
  pub was : List ℕ
  pub is : List ℕ
  pub after : List ℕ
  pub bytes_are : bytes ≡ before ++ was ++ after
  pub damaged_are : damaged ≡ before ++ is ++ after
  pub as_long : length is ≡ length was
  pub short : length was ≤ 4
  pub differs : was ≢ is

-- sealed bytes are at the front of the input
pub record BeginsSealed (input : List ℕ) : Type 0 where
  pub front : List ℕ
  pub rest : List ℕ
  pub whole : input ≡ front ++ rest
  pub is_sealed : IsSealed front

-- the input begins with the bytes, of which some within four bytes in a row are others now; what follows is anything
pub record BeginsDamaged (bytes input : List ℕ) : Type 0 where
  pub front : List ℕ
  pub rest : List ℕ
  pub whole : input ≡ front ++ rest
  pub differs : DiffersWithinFour bytes front
