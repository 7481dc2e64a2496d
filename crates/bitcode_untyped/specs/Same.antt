-- When two values are equal: they have the same cases and contents, and floats have the same bits. All NaNs have the same
-- bits, so a NaN is equal to itself, and 0 and -0 have different bits.
use Rattle.std.specs.Prelude.{Bool, true, false, ◌==◌, ◌&&◌}
use Rattle.std.specs.Ordering.{int_eq}
use Rattle.std.specs.Cmp.Lexicographic.{pointwise}
use Rattle.bitcode_shapes.specs.Datum.{Datum, Data, unit, number, text, list, tuple, choice, no_data, datum_and}
use Rattle.bitcode_untyped.specs.Content.{content_of}
use Rattle.bitcode_untyped.specs.declared.value.Value.{Value}

abbrev mutual
  pub same_datum : Datum → Datum → Bool
  same_datum unit unit = true
  same_datum (number z) (number y) = int_eq z y
  same_datum (text bytes) (text others) = pointwise ◌==◌ bytes others
  same_datum (list ds) (list es) = same_data ds es
  same_datum (tuple ds) (tuple es) = same_data ds es
  same_datum (choice i d) (choice j e) = (i == j) && same_datum d e
  same_datum _ _ = false

  pub same_data : Data → Data → Bool
  same_data no_data no_data = true
  same_data (datum_and d ds) (datum_and e es) = same_datum d e && same_data ds es
  same_data _ _ = false

-- what `==` answers
abbrev pub same_values : Value → Value → Bool
same_values v w = same_datum (content_of v) (content_of w)

abbrev pub same_pairs : Value × Value → Value × Value → Bool
same_pairs v w = same_values v.0 w.0 && same_values v.1 w.1
