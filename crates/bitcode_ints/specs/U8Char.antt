-- A type whose values are bytes of texts. Such bytes are written unchanged.
use Rattle.std.proofs.Common.{ℕ, ◌<◌, ◌≡◌, true, pos, refl, sym, ap, subst, ◌∙◌}
use Rattle.bitcode_shapes.specs.Shape.{raw_shape}
use Rattle.bitcode_shapes.specs.Datum.{number}
use Rattle.bitcode_shapes.specs.DataOf.{DataOf, plain_data}
use Rattle.bitcode_shapes.specs.Lawful.{Lawful, Makeable}
use Rattle.bitcode_shapes.specs.Ints.{ListsNumber, MakesNumber, SameNumber}
use Rattle.bitcode_shapes.specs.LawfulInts.{number_once}
use Rattle.bitcode_shapes.specs.SameArrays.{one_datum_same_arrays}
use Rattle.bitcode_shapes.specs.SameData.{numbers_same_data}
use Rattle.bitcode_shapes.specs.SameIsOne.{inexact}

abbrev pub IsRawByte : {T : Type 0} → (T → ℕ) → T → Type 0
IsRawByte byte t = byte t < 256

pub raw_lawful : {T : Type 0} (byte : T → ℕ)
    → Lawful raw_shape (IsRawByte byte) (ListsNumber (λ t. pos (byte t))) (SameNumber (λ t. pos (byte t))) true
raw_lawful byte = record {
  sound = tt;
  listed = λ t h. (number (pos (byte t)), refl);
  of_shape = λ t d h l. record { value = byte t; is = l; below = h };
  one_listing = λ o t d e h l m. l ∙ sym m;
  reflexive = λ t h. refl;
  symmetric = λ t u h i s. sym s;
  transitive = λ t u v h i j s r. s ∙ r;
}

pub raw_makeable : {T : Type 0} (byte : T → ℕ) → ((n : ℕ) → n < 256 → (t : T) × (byte t ≡ n))
    → Makeable raw_shape (IsRawByte byte) (ListsNumber (λ t. pos (byte t))) (SameNumber (λ t. pos (byte t))) (MakesNumber (λ t. pos (byte t)))
raw_makeable byte build = record {
  made = λ g d o s. let built = build o.value o.below in
      (built.0, (subst (λ n. n < 256) (sym built.1) o.below, o.is ∙ ap (λ n. number (pos n)) (sym built.1)));
  unambiguous = λ d t u h i m n. number_once (sym m ∙ n);
  remade = λ t u d h i l m. number_once (sym l ∙ m);
}

abbrev pub raw_data : {T : Type 0} (byte : T → ℕ) → ((n : ℕ) → n < 256 → (t : T) × (byte t ≡ n)) → DataOf T
raw_data byte build =
    plain_data (raw_lawful byte) (raw_makeable byte build) one_datum_same_arrays (numbers_same_data (λ t. pos (byte t))) inexact
