-- A duration is the pair of its whole seconds and its remaining nanoseconds.
use Rattle.std.specs.Prelude.{ℕ, ◌/◌, ◌%◌, false, pos}
use Rattle.std.specs.Duration.{as_nanos}
use Rattle.std.specs.declared.time.Duration.{Duration}
use Rattle.bitcode_shapes.specs.Datum.{Datum}
use Rattle.bitcode_shapes.specs.Shape.{Shape, pair_shape}
use Rattle.bitcode_shapes.specs.Ints.{int_shape, ListsNumber, MakesNumber, SameNumber, IsValueOfWidth}
use Rattle.bitcode_shapes.specs.Pairs.{IsPairValue, ListsPair, MakesPair, SamePair}
use Rattle.bitcode_shapes.specs.Checked.{below_second, nanosecond_shape, IsCheckedValue}

abbrev pub seconds_and_nanos : Duration → ℕ × ℕ
seconds_and_nanos t = (as_nanos t / 1_000_000_000, as_nanos t % 1_000_000_000)

abbrev pub duration_shape : Shape
duration_shape = pair_shape (int_shape 8 false) nanosecond_shape

abbrev pub IsSpan : ℕ × ℕ → Type 0
IsSpan = IsPairValue (IsValueOfWidth 8 false pos) (IsCheckedValue 4 false below_second pos)

abbrev pub ListsSpan : ℕ × ℕ → Datum → Type 0
ListsSpan = ListsPair (ListsNumber pos) (ListsNumber pos)

abbrev pub MakesSpan : Datum → ℕ × ℕ → Type 0
MakesSpan = MakesPair (MakesNumber pos) (MakesNumber pos)

abbrev pub SameSpan : ℕ × ℕ → ℕ × ℕ → Type 0
SameSpan = SamePair (SameNumber pos) (SameNumber pos)
