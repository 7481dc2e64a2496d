-- Types that allow only some numbers are lawful.
use Rattle.std.proofs.Common.{◌≡◌, ◌≢◌, ℕ, zero, suc, ◌<◌, Bool, true, false, ℤ, pos, negsuc, refl, sym, ◌∙◌, ap, subst, arith}
use Rattle.std.specs.Prelude.{unsigned_abs}
use Rattle.bitcode_shapes.specs.Datum.{number}
use Rattle.bitcode_shapes.specs.Shape.{Allowed, nonzero, scalar, number_shape, IsInWidth, IsAllowed, IsNumberWidth}
use Rattle.bitcode_shapes.specs.Lawful.{Lawful, Makeable}
use Rattle.bitcode_shapes.specs.Ints.{ListsNumber, MakesNumber, SameNumber}
use Rattle.bitcode_shapes.specs.Checked.{IsCheckedValue, nonzero_shape, char_shape}
use Rattle.bitcode_shapes.specs.LawfulInts.{number_once}

module _ {T : Type 0} (value : T → ℤ) (width : ℕ) (signed : Bool) (allowed : Allowed) where
  pub checked_lawful : IsNumberWidth width
      → Lawful (number_shape width signed allowed) (IsCheckedValue width signed allowed value) (ListsNumber value) (SameNumber value) true
  checked_lawful known = record {
    sound = known;
    listed = λ t h. (number (value t), refl);
    of_shape = λ t d h l. record { value = value t; is = l; in_width = h.0; in_allowed = h.1 };
    one_listing = λ o t d e h l m. l ∙ sym m;
    reflexive = λ t h. refl;
    symmetric = λ t u h i s. sym s;
    transitive = λ t u v h i j s r. s ∙ r;
  }

  -- each allowed number belongs to some value
  pub checked_makeable : ((z : ℤ) → IsInWidth width signed z → IsAllowed allowed z → (t : T) × (value t ≡ z))
      → Makeable (number_shape width signed allowed) (IsCheckedValue width signed allowed value) (ListsNumber value) (SameNumber value) (MakesNumber value)
  checked_makeable find = record {
    made = λ g d o s.
        let found = find o.value o.in_width o.in_allowed in (
          found.0,
          (
            subst (λ z. IsInWidth width signed z × IsAllowed allowed z) (sym found.1) (o.in_width, o.in_allowed),
            o.is ∙ ap number (sym found.1),
          ),
        );
    unambiguous = λ d t u h i m n. number_once (sym m ∙ n);
    remade = λ t u d h i l m. number_once (sym l ∙ m);
  }

-- ---- not 0

positive : (n : ℕ) → pos n ≢ pos 0 → 0 < n
positive zero other = absurd (other refl)
positive (suc n) other = omega arith

unsigned_nonzero_found : {T : Type 0} (value : T → ℕ) (width : ℕ) → ((n : ℕ) → 0 < n → (t : T) × (value t ≡ n))
    → (z : ℤ) → IsInWidth width false z → z ≢ pos 0 → (t : T) × (pos (value t) ≡ z)
unsigned_nonzero_found value width build (pos n) h other = let built = build n (positive n other) in (built.0, ap pos built.1)
unsigned_nonzero_found value width build (negsuc n) h other = absurd h

pub unsigned_nonzero_makeable : {T : Type 0} (value : T → ℕ) (width : ℕ) → ((n : ℕ) → 0 < n → (t : T) × (value t ≡ n))
    → Makeable (nonzero_shape width false) (IsCheckedValue width false nonzero (λ t. pos (value t))) (ListsNumber (λ t. pos (value t)))
    (SameNumber (λ t. pos (value t))) (MakesNumber (λ t. pos (value t)))
unsigned_nonzero_makeable value width build = checked_makeable (λ t. pos (value t)) width false nonzero (unsigned_nonzero_found value width build)

positive_size : (z : ℤ) → z ≢ pos 0 → 0 < unsigned_abs z
positive_size (pos n) other = positive n other
positive_size (negsuc n) other = omega arith

pub signed_nonzero_makeable : {T : Type 0} (value : T → ℤ) (width : ℕ) → ((z : ℤ) → 0 < unsigned_abs z → (t : T) × (value t ≡ z))
    → Makeable (nonzero_shape width true) (IsCheckedValue width true nonzero value) (ListsNumber value) (SameNumber value) (MakesNumber value)
signed_nonzero_makeable value width build =
    checked_makeable value width true nonzero (λ z h other. build z (positive_size z other))

-- ---- chars

char_found : (z : ℤ) → IsInWidth 4 false z → IsAllowed scalar z → (c : ℕ) × (pos c ≡ z)
char_found (pos n) h s = (n, refl)
char_found (negsuc n) h s = absurd h

pub char_makeable : Makeable char_shape (IsCheckedValue 4 false scalar pos) (ListsNumber pos) (SameNumber pos) (MakesNumber pos)
char_makeable = checked_makeable pos 4 false scalar char_found
