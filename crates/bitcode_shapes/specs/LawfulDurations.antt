-- Durations are lawful.
use Rattle.std.proofs.Common.{◌<◌, ap, ◌≡◌, ℕ, ◌+◌, ◌*◌, ◌/◌, ◌%◌, ◌≤◌, min, true, false, ℤ, pos, negsuc, refl, ap₂, arith}
use Rattle.std.proofs.lemmas.Int.{ints}
use Rattle.std.specs.declared.time.Duration.{Duration}
use Rattle.bitcode_shapes.specs.Shape.{IsInWidth, IsAllowed}
use Rattle.bitcode_shapes.specs.Lawful.{Lawful, Makeable}
use Rattle.bitcode_shapes.specs.Ints.{int_shape, ListsNumber, MakesNumber, SameNumber, IsValueOfWidth}
use Rattle.bitcode_shapes.specs.Checked.{below_second, nanosecond_shape, IsCheckedValue}
use Rattle.bitcode_shapes.specs.Durations.{seconds_and_nanos, duration_shape, IsSpan, ListsSpan, MakesSpan, SameSpan}
use Rattle.bitcode_shapes.specs.LawfulInts.{width_4, width_8, int_lawful, unsigned_makeable}
use Rattle.bitcode_shapes.specs.LawfulPairs.{pair_lawful, pair_makeable}
use Rattle.bitcode_shapes.specs.LawfulChecked.{checked_lawful, checked_makeable}
use Rattle.bitcode_shapes.specs.LawfulImages.{image_lawful, image_makeable}

pub duration_lawful : Lawful duration_shape (λ t. IsSpan (seconds_and_nanos t)) (λ t d. ListsSpan (seconds_and_nanos t) d)
    (λ t u. SameSpan (seconds_and_nanos t) (seconds_and_nanos u)) true
duration_lawful =
    image_lawful seconds_and_nanos
    (pair_lawful (int_shape 8 false) nanosecond_shape (IsValueOfWidth 8 false pos) (IsCheckedValue 4 false below_second pos) (ListsNumber pos) (ListsNumber pos)
    (SameNumber pos) (SameNumber pos) true true (int_lawful pos 8 false width_8) (checked_lawful pos 4 false below_second width_4))

-- ---- made

nanos_found : {T : Type 0} (value : T → ℕ) → ((n : ℕ) → n < 1_000_000_000 → (t : T) × (value t ≡ n))
    → (z : ℤ) → IsInWidth 4 false z → IsAllowed below_second z → (t : T) × (pos (value t) ≡ z)
nanos_found value build (pos n) h below = let built = build n (omega (arith, ints, below.1)) in (built.0, ap pos built.1)
nanos_found value build (negsuc n) h below = absurd h

-- a type whose data are the nanoseconds below one second
pub nanosecond_makeable : {T : Type 0} (value : T → ℕ) → ((n : ℕ) → n < 1_000_000_000 → (t : T) × (value t ≡ n))
    → Makeable nanosecond_shape (IsCheckedValue 4 false below_second (λ t. pos (value t))) (ListsNumber (λ t. pos (value t)))
    (SameNumber (λ t. pos (value t))) (MakesNumber (λ t. pos (value t)))
nanosecond_makeable value build = checked_makeable (λ t. pos (value t)) 4 false below_second (nanos_found value build)

span_found : (u : ℕ × ℕ) → IsSpan u → (t : Duration) × (seconds_and_nanos t ≡ u)
span_found u h =
    let below : u.1 ≤ 999_999_999 = omega (arith, ints, h.1.1.1) in
    let kept : min u.1 999_999_999 ≡ u.1 = omega arith in
    let whole : (u.0 * 1_000_000_000 + min u.1 999_999_999) / 1_000_000_000 ≡ u.0 = omega arith in
    let left : (u.0 * 1_000_000_000 + min u.1 999_999_999) % 1_000_000_000 ≡ u.1 = omega arith in
    (record { secs = u.0; nanos = u.1 }, ap₂ (λ seconds nanos. (seconds, nanos)) whole left)

pub duration_makeable : Makeable duration_shape (λ t. IsSpan (seconds_and_nanos t)) (λ t d. ListsSpan (seconds_and_nanos t) d)
    (λ t u. SameSpan (seconds_and_nanos t) (seconds_and_nanos u)) (λ d t. MakesSpan d (seconds_and_nanos t))
duration_makeable =
    image_makeable seconds_and_nanos (λ g. span_found)
    (pair_makeable (int_shape 8 false) nanosecond_shape (IsValueOfWidth 8 false pos) (IsCheckedValue 4 false below_second pos) (ListsNumber pos) (ListsNumber pos)
    (SameNumber pos) (SameNumber pos) (MakesNumber pos) (MakesNumber pos) (unsigned_makeable 8)
    (nanosecond_makeable (λ n. n) (λ n h. (n, refl))))
