-- A type without values is lawful: no datum has its shape.
use Rattle.std.proofs.Common.{ℕ, zero, suc, true}
use Rattle.bitcode_shapes.specs.Shape.{never_shape}
use Rattle.bitcode_shapes.specs.Lawful.{Lawful, Makeable}

-- the second of two claims at 1, the first one at 0
abbrev pub first_at_zero : Type 0 → Type 0 → ℕ → Type 0
first_at_zero P Q zero = P
first_at_zero P Q (suc n) = Q

-- a value of a type without values proves anything
pub from_never : {T : Type 0} → ((t : T) (P : ℕ → Type 0) → P 0 → P 1) → (t : T) (Q : Type 0) → Q
from_never never t Q = never t (first_at_zero (Unit {0}) Q) tt

pub never_lawful : {T : Type 0} → ((t : T) (P : ℕ → Type 0) → P 0 → P 1) → Lawful never_shape (λ (t : T). Unit {0}) (λ t d. ⊥) (λ t u. Unit {0}) true
never_lawful never = record {
  sound = tt;
  listed = λ t h. absurd (from_never never t ⊥);
  of_shape = λ t d h l. absurd l;
  one_listing = λ o t d e h l m. absurd l;
  reflexive = λ t h. tt;
  symmetric = λ t u h i s. tt;
  transitive = λ t u v h i j s r. tt;
}

pub never_makeable : {T : Type 0} → Makeable never_shape (λ (t : T). Unit {0}) (λ t d. ⊥) (λ t u. Unit {0}) (λ d t. ⊥)
never_makeable = record {
  made = λ g d o s. absurd o;
  unambiguous = λ d t u h i m n. absurd m;
  remade = λ t u d h i l m. absurd l;
}
