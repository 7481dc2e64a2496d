-- What a value holds, with the case of each of its parts: a U8 and a U64 of one number have the same datum, and not the
-- same content.
use Rattle.std.specs.Prelude.{◌≡◌, ℕ, ◌+◌, Option, Some, None, []}
use Rattle.bitcode_shapes.specs.Datum.{Datum, choice}
use Rattle.bitcode_untyped.specs.Faults.{value_faults}
use Rattle.bitcode_untyped.specs.Leaves.{Entry, entry_of, leaf_number}
use Rattle.bitcode_untyped.specs.View.{datum_step, datum_of}
use Rattle.bitcode_untyped.specs.declared.shape.Shape.{Shape}
use Rattle.bitcode_untyped.specs.declared.value.Value.{Value, fold-Value}
use Rattle.bitcode_untyped.specs.declared.value.Value.TheOpen.{Value-F}

abbrev pub number_of_entry : Option Entry → ℕ
number_of_entry (Some e) = 7 + leaf_number e.leaf
number_of_entry None = 0

-- a number for each case
abbrev pub case_number : {A : Type 0} → Value-F A → ℕ
case_number Value-F.Unit = 0
case_number (Value-F.Bytes v) = 1
case_number (Value-F.Option o) = 2
case_number (Value-F.Seq v) = 3
case_number (Value-F.Map v) = 4
case_number (Value-F.Tuple v) = 5
case_number (Value-F.Enum i b) = 6
case_number value = number_of_entry (entry_of value)

abbrev pub content_step : Value-F Datum → Datum
content_step value = choice (case_number value) (datum_step value)

-- the datum of a value, with the case before each part
abbrev pub content_of : Value → Datum
content_of = fold-Value Datum content_step

-- Of the values of a shape at most one has a datum, as far as its content goes.
abbrev pub DatumDecides : Shape → Type 0
DatumDecides shape =
    (v w : Value) → value_faults shape v ≡ [] → value_faults shape w ≡ [] → datum_of v ≡ datum_of w → content_of v ≡ content_of w

-- the content of each value of the shape whose datum is such
abbrev pub IsOnlyContent : Shape → (Datum → Type 0) → Datum → Type 0
IsOnlyContent shape IsSuch content = (v : Value) → value_faults shape v ≡ [] → IsSuch (datum_of v) → content_of v ≡ content
