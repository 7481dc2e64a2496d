-- The places and the numbers of arrays, and what their encoder writes.
use Rattle.std.proofs.Common.{◌≡◌, ℕ, zero, suc, ◌+◌, ◌-◌, ◌*◌, ◌/◌, ◌^◌, ◌<◌, ◌≤◌, List, [], ◌∷◌, refl, sym, ◌∙◌, ap, ap₂, subst, arith, append-nil}
use Rattle.std.proofs.Math.Nat.{le-div_iff_mul-le}
use Rattle.bitcode_shapes.specs.Datum.{Datum, list, data_of}
use Rattle.bitcode_shapes.specs.Shape.{Shape, array_shape}
use Rattle.bitcode_shapes.specs.Lists.{ListsSequence}
use Rattle.bitcode_shapes.specs.LawfulLists.{list_of_data}
use Rattle.bitcode_coder.specs.Columns.{Columns, arrays, beside, CountsFit}
use Rattle.bitcode_coder.specs.Transposition.{array_columns, joined}
use Rattle.bitcode_coder.specs.Coder.{written_columns, JoinsListing, OverflowsWithListing, JoinsEach, OverflowsWithEach}
use Rattle.bitcode_parts.specs.Arrays.{array_room}

-- how many times a size goes into a number
goes_into : (size n number : ℕ) → n * suc size ≤ number → n ≤ number / suc size
goes_into size n number h = (le-div_iff_mul-le {k = suc size} {x = n} {y = number} (omega arith)).1 h

fills : (size n number : ℕ) → n ≤ number / suc size → n * suc size ≤ number
fills size n number h = (le-div_iff_mul-le {k = suc size} {x = n} {y = number} (omega arith)).0 h

-- arrays that have their place: their elements have theirs
pub array_room-elements : (size count n room : ℕ) → n ≤ array_room size count room → n * size ≤ room
array_room-elements zero count n room h = omega arith
array_room-elements (suc size) count n room h = fills size n room (omega arith)

-- and their number times their size is a length
pub array_room-count : (size count n room : ℕ) → n ≤ array_room size count room → count * size < 2 ^ 64 → (count + n) * size < 2 ^ 64
array_room-count zero count n room h fits = omega arith
array_room-count (suc size) count zero room h fits = omega arith
array_room-count (suc size) count (suc n) room h fits =
    let few : (count + suc n) * suc size ≤ 2 ^ 64 - 1 = fills size (count + suc n) (2 ^ 64 - 1) (omega arith) in
    omega arith

pub array_room-enough : (size count n room : ℕ) → n < 2 ^ 64 → (count + n) * size < 2 ^ 64 → n * size ≤ room → n ≤ array_room size count room
array_room-enough zero count n room small fits place = omega arith
array_room-enough (suc size) count n room small fits place =
    let a : n ≤ room / suc size = goes_into size n room place in
    let b : count + n ≤ (2 ^ 64 - 1) / suc size = goes_into size (count + n) (2 ^ 64 - 1) (omega arith) in
    omega arith

pub array_room-grows : (size count room more : ℕ) → room ≤ more → array_room size count room ≤ array_room size count more
array_room-grows zero count room more h = omega arith
array_room-grows (suc size) count room more h =
    let a : room / suc size ≤ more / suc size = goes_into size (room / suc size) more (omega (arith, fills size (room / suc size) room (omega arith))) in
    omega arith

one_less : (size times room left : ℕ) → times ≤ room / suc size → room ≤ left + suc size → times ≤ left / suc size + 1
one_less size zero room left h near = omega arith
one_less size (suc times) room left h near =
    let filled : suc times * suc size ≤ room = fills size (suc times) room h in
    let place : times ≤ left / suc size = goes_into size times left (omega arith) in
    omega arith

-- an array takes one place
pub array_room-taken : (size count after room left : ℕ) → after ≤ count + 1 → room ≤ left + size
    → array_room size count room ≤ array_room size after left + 1
array_room-taken zero count after room left near far = omega arith
array_room-taken (suc size) count after room left near far =
    let a : room / suc size ≤ left / suc size + 1 = one_less size (room / suc size) room left (omega arith) far in
    omega arith

-- ---- what is written

joined-one : (parts : List Datum) → joined (list (data_of parts) ∷ []) ≡ parts
joined-one parts = append-nil _ ∙ list_of_data parts

module _ {T : Type 0} (lists : T → Datum → Type 0) (shape : Shape) (t : List T) where
  -- its elements were joined, and it is counted where it has some
  pub joins_array : (size count after : ℕ) (old new : Columns) → (0 < size → after ≡ count + 1) → after * size < 2 ^ 64
      → JoinsEach lists shape t old new
      → JoinsListing (ListsSequence lists) (array_shape size shape) t (array_columns size count old) (array_columns size after new)
  joins_array zero count after old new counted small h = record {
    datum = list (data_of h.parts);
    listing = record { elements = h.parts; is = refl; each = h.listings };
    joined = h.joined ∙ ap (λ ds. beside old (written_columns shape ds)) (sym (joined-one h.parts));
    fits = h.fits;
  }
  joins_array (suc size) count after old new counted small h = record {
    datum = list (data_of h.parts);
    listing = record { elements = h.parts; is = refl; each = h.listings };
    joined =
        ap₂ (arrays (suc size)) (counted (omega arith))
        (h.joined ∙ ap (λ ds. beside old (written_columns shape ds)) (sym (joined-one h.parts)));
    fits = λ f. (small, h.fits f.1);
  }

  pub array_overflows : (size count : ℕ) (old : Columns) → OverflowsWithEach lists shape t old
      → OverflowsWithListing (ListsSequence lists) (array_shape size shape) t (array_columns size count old)
  array_overflows zero count old h = record {
    datum = list (data_of h.parts);
    listing = record { elements = h.parts; is = refl; each = h.listings };
    overflows = λ f. h.overflows (subst (λ ds. CountsFit (beside old (written_columns shape ds))) (joined-one h.parts) f);
  }
  array_overflows (suc size) count old h = record {
    datum = list (data_of h.parts);
    listing = record { elements = h.parts; is = refl; each = h.listings };
    overflows = λ f. h.overflows (subst (λ ds. CountsFit (beside old (written_columns shape ds))) (joined-one h.parts) f.1);
  }
