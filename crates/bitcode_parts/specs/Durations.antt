-- Durations are written as seconds and nanoseconds, which have a wider shape.
use Rattle.std.proofs.Common.{false, refl}
use Rattle.bitcode_shapes.specs.Datum.{Datum}
use Rattle.bitcode_shapes.specs.Durations.{duration_shape}
use Rattle.bitcode_shapes.specs.Shape.{IsOf, pair_shape}
use Rattle.bitcode_shapes.specs.Ints.{int_shape}
use Rattle.bitcode_parts.specs.Convert.{IsWrittenAs}

wider : (d : Datum) → IsOf duration_shape d → IsOf (pair_shape (int_shape 8 false) (int_shape 4 false)) d
wider d h = record {
  first = h.first;
  second = h.second;
  is = h.is;
  is_first = h.is_first;
  is_second = record { value = h.is_second.value; is = h.is_second.is; in_width = h.is_second.in_width; in_allowed = tt };
}

pub duration_written_as : IsWrittenAs duration_shape (pair_shape (int_shape 8 false) (int_shape 4 false))
duration_written_as = record { columns = λ ds. refl; data_of = wider }
