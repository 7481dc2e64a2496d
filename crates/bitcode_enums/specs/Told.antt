-- What is known of a payload's type, with the invariant as one statement. The invariant itself may be a function, as it is for a
-- list: the checker does not find such a function where it is a part of a pair. A record it finds.
use Rattle.std.proofs.Common.{refl}
use Rattle.bitcode_shapes.specs.ArrayCounts.{ListsSameArrays}
use Rattle.bitcode_shapes.specs.DataOf.{DataOf}
use Rattle.bitcode_shapes.specs.Lawful.{Lawful, Makeable}
use Rattle.bitcode_shapes.specs.OwnInvariants.{whole_exact, whole_lawful, whole_makeable, whole_same_arrays, whole_same_data}
use Rattle.bitcode_shapes.specs.SameData.{HoldSameData}
use Rattle.bitcode_shapes.specs.SameIsOne.{AreExact}

-- the payload satisfies its type's invariant
pub record IsTold {A : Type 0} (is_value : A → Type 0) (payload : A) : Type 0 where
  pub told : is_value payload

module _ {A : Type 0} (a : DataOf A) where
  pub told_lawful : Lawful a.shape (IsTold a.is_value) a.lists a.same a.in_order
  told_lawful = whole_lawful (λ p. p) (IsTold a.is_value) (λ p h. h.told) a.lawful

  pub told_makeable : Makeable a.shape (IsTold a.is_value) a.lists a.same a.makes
  told_makeable = whole_makeable (λ p. p) (IsTold a.is_value) (λ p h. h.told) (λ p h. (p, (record { told = h }, refl))) a.makeable

  pub told_same_arrays : ListsSameArrays a.shape (IsTold a.is_value) a.lists
  told_same_arrays = whole_same_arrays (λ p. p) (IsTold a.is_value) (λ p h. h.told) a.same_arrays

  pub told_same_data : HoldSameData a.determined (IsTold a.is_value) a.lists a.same a.makes
  told_same_data = whole_same_data (λ p. p) (IsTold a.is_value) (λ p h. h.told) a.same_data

  pub told_exact : AreExact a.exact (IsTold a.is_value) a.same
  told_exact = whole_exact (λ p. p) (IsTold a.is_value) (λ p h. h.told) (λ p q h i s. s) a.are_exact
