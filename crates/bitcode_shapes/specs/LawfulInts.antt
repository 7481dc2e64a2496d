-- Bools and integers are lawful.
use Rattle.std.proofs.Common.{◌≡◌, ℕ, zero, suc, ◌<◌, Bool, true, false, ℤ, pos, negsuc, refl, sym, ◌∙◌, ap, subst, arith, lit<, inl, inr}
use Rattle.bitcode_shapes.specs.Datum.{number}
use Rattle.bitcode_shapes.specs.Shape.{IsNaturalBelow, bool_shape, IsInWidth, IsNumberWidth}
use Rattle.bitcode_shapes.specs.Lawful.{Lawful, Makeable}
use Rattle.bitcode_shapes.specs.Ints.{bool_number, int_shape, ListsNumber, MakesNumber, SameNumber, IsValueOfWidth}

pub width_1 : IsNumberWidth 1
width_1 = inl refl

pub width_2 : IsNumberWidth 2
width_2 = inr (inl refl)

pub width_4 : IsNumberWidth 4
width_4 = inr (inr (inl refl))

pub width_8 : IsNumberWidth 8
width_8 = inr (inr (inr (inl refl)))

pub width_16 : IsNumberWidth 16
width_16 = inr (inr (inr (inr refl)))

pub number_once : {m n : ℤ} → number m ≡ number n → m ≡ n
number_once e = cc

pub int_lawful : {T : Type 0} (value : T → ℤ) (width : ℕ) (signed : Bool) → IsNumberWidth width
    → Lawful (int_shape width signed) (IsValueOfWidth width signed value) (ListsNumber value) (SameNumber value) true
int_lawful value width signed known = record {
  sound = known;
  listed = λ t h. (number (value t), refl);
  of_shape = λ t d h l. record { value = value t; is = l; in_width = h; in_allowed = tt };
  one_listing = λ o t d e h l m. l ∙ sym m;
  reflexive = λ t h. refl;
  symmetric = λ t u h i s. sym s;
  transitive = λ t u v h i j s r. s ∙ r;
}

pub int_makeable : {T : Type 0} (value : T → ℤ) (width : ℕ) (signed : Bool)
    → ((z : ℤ) → IsInWidth width signed z → (t : T) × (value t ≡ z))
    → Makeable (int_shape width signed) (IsValueOfWidth width signed value) (ListsNumber value) (SameNumber value) (MakesNumber value)
int_makeable value width signed find = record {
  made = λ g d o s. let found = find o.value o.in_width in
      (found.0, (subst (λ z. IsInWidth width signed z) (sym found.1) o.in_width, o.is ∙ ap number (sym found.1)));
  unambiguous = λ d t u h i m n. number_once (sym m ∙ n);
  remade = λ t u d h i l m. number_once (sym l ∙ m);
}

unsigned_found : (width : ℕ) (z : ℤ) → IsInWidth width false z → (n : ℕ) × (pos n ≡ z)
unsigned_found width (pos n) h = (n, refl)
unsigned_found width (negsuc n) h = absurd h

pub unsigned_makeable : (width : ℕ)
    → Makeable (int_shape width false) (IsValueOfWidth width false pos) (ListsNumber pos) (SameNumber pos) (MakesNumber pos)
unsigned_makeable width = int_makeable pos width false (unsigned_found width)

pub signed_makeable : (width : ℕ)
    → Makeable (int_shape width true) (IsValueOfWidth width true (λ (z : ℤ). z)) (ListsNumber (λ (z : ℤ). z)) (SameNumber (λ (z : ℤ). z)) (MakesNumber (λ (z : ℤ). z))
signed_makeable width = int_makeable (λ z. z) width true (λ z h. (z, refl))

bool_below : (b : Bool) → IsNaturalBelow 2 (number (bool_number b))
bool_below true = record { value = 1; is = refl; below = lit< tt }
bool_below false = record { value = 0; is = refl; below = lit< tt }

pub bool_lawful : Lawful bool_shape (λ (b : Bool). Unit {0}) (ListsNumber bool_number) (SameNumber bool_number) true
bool_lawful = record {
  sound = tt;
  listed = λ t h. (number (bool_number t), refl);
  of_shape = λ t d h l. subst (IsNaturalBelow 2) (sym l) (bool_below t);
  one_listing = λ o t d e h l m. l ∙ sym m;
  reflexive = λ t h. refl;
  symmetric = λ t u h i s. sym s;
  transitive = λ t u v h i j s r. s ∙ r;
}

bool_found : (n : ℕ) → n < 2 → (b : Bool) × (bool_number b ≡ pos n)
bool_found zero h = (false, refl)
bool_found (suc zero) h = (true, refl)
bool_found (suc (suc n)) h = absurd (omega arith)

pub bool_makeable : Makeable bool_shape (λ (b : Bool). Unit {0}) (ListsNumber bool_number) (SameNumber bool_number) (MakesNumber bool_number)
bool_makeable = record {
  made = λ g d o s. let found = bool_found o.value o.below in (found.0, (tt, o.is ∙ ap number (sym found.1)));
  unambiguous = λ d t u h i m n. number_once (sym m ∙ n);
  remade = λ t u d h i l m. number_once (sym l ∙ m);
}
