-- The laws of the coders of pairs follow from those of the coders of the fields.
use Rattle.std.specs.Prelude.{◌≡◌, ℕ, List, length, map, All, ◌⊎◌}
use Rattle.std.proofs.Common.{sym, ◌∙◌, ap, subst, inl, inr}
use Rattle.std.proofs.lemmas.List.{length-map}
use Rattle.std.proofs.lemmas.List.Elements.{All-map, All-weaker}
use Rattle.bitcode_shapes.specs.Datum.{Datum, first_in, second_in}
use Rattle.bitcode_shapes.specs.Shape.{Shape, pair_shape, IsPairOf}
use Rattle.bitcode_coder.specs.Columns.{Columns, two}
use Rattle.bitcode_tuples.specs.declared.encoder.TupleEncoder.{TupleEncoder}

pub same_pair_shape : {s t u v : Shape} → s ≡ u → t ≡ v → pair_shape s t ≡ pair_shape u v
same_pair_shape {s} {t} {u} {v} e f = ap (λ x. pair_shape x t) e ∙ ap (λ y. pair_shape u y) f

pub same_two : {a b c d : Columns} → a ≡ c → b ≡ d → two a b ≡ two c d
same_two {a} {b} {c} {d} e f = ap (λ x. two x b) e ∙ ap (λ y. two c y) f

-- each field of a pair has its own shape
module _ (IsFirst IsSecond : Datum → Type 0) where
  pub first_is : (d : Datum) → IsPairOf IsFirst IsSecond d → IsFirst (first_in d)
  first_is d h = subst IsFirst (sym (ap first_in h.is)) h.is_first

  pub second_is : (d : Datum) → IsPairOf IsFirst IsSecond d → IsSecond (second_in d)
  second_is d h = subst IsSecond (sym (ap second_in h.is)) h.is_second

  pub firsts_are : (ds : List Datum) → All (IsPairOf IsFirst IsSecond) ds → All IsFirst (map first_in ds)
  firsts_are ds each = All-map IsFirst first_in ds (All-weaker (IsPairOf IsFirst IsSecond) (λ d. IsFirst (first_in d)) first_is ds each)

  pub seconds_are : (ds : List Datum) → All (IsPairOf IsFirst IsSecond) ds → All IsSecond (map second_in ds)
  seconds_are ds each = All-map IsSecond second_in ds (All-weaker (IsPairOf IsFirst IsSecond) (λ d. IsSecond (second_in d)) second_is ds each)

-- The laws of an encoder of pairs follow from those of the encoders of the fields, for each law of a field: that its
-- empty columns are those of its shape, and that so many values surely overflow.
pub both_of_shape : {A B : Type 0} {empty_a : A → Columns} {empty_b : B → Columns} {c d : Columns}
    → ((a : A) → empty_a a ≡ c) → ((b : B) → empty_b b ≡ d) → (e : TupleEncoder A B) → two (empty_a e.first) (empty_b e.second) ≡ two c d
both_of_shape of_first of_second e = same_two (of_first e.first) (of_second e.second)

pub both_surely : {A B : Type 0} {overflows_a : A → ℕ → Type 0} {overflows_b : B → ℕ → Type 0} {IsFirst IsSecond : Datum → Type 0}
    {fits_a : A → List Datum → Type 0} {fits_b : B → List Datum → Type 0}
    → ((a : A) (n : ℕ) → overflows_a a n → (ds : List Datum) → All IsFirst ds → length ds ≡ n → fits_a a ds → ⊥)
    → ((b : B) (n : ℕ) → overflows_b b n → (ds : List Datum) → All IsSecond ds → length ds ≡ n → fits_b b ds → ⊥)
    → (e : TupleEncoder A B) (n : ℕ) → overflows_a e.first n ⊎ overflows_b e.second n → (ds : List Datum) → All (IsPairOf IsFirst IsSecond) ds → length ds ≡ n
    → fits_a e.first (map first_in ds) × fits_b e.second (map second_in ds) → ⊥
both_surely {IsFirst} {IsSecond} of_first of_second e n (inl h) ds each size fits =
    of_first e.first n h (map first_in ds) (firsts_are IsFirst IsSecond ds each) (length-map ds first_in ∙ size) fits.0
both_surely {IsFirst} {IsSecond} of_first of_second e n (inr h) ds each size fits =
    of_second e.second n h (map second_in ds) (seconds_are IsFirst IsSecond ds each) (length-map ds second_in ∙ size) fits.1
