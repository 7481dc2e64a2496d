-- Values that a node allows, of those that are entries of its column.
use Rattle.std.specs.Prelude.{◌≡◌, ◌≤◌, ℕ, pos, Some, length, ◌≢◌}
use Rattle.bitcode_shapes.specs.Checked.{below_second}
use Rattle.bitcode_shapes.specs.Datum.{Datum, number_in, text_in}
use Rattle.bitcode_shapes.specs.Shape.{IsAllowed}
use Rattle.bitcode_untyped.specs.Leaves.{Leaf}
use Rattle.bitcode_untyped.specs.declared.value.Value.{Value}
use Rattle.bitcode_schema.specs.Forms.{leaf_content}

-- of the datum that the value has as an entry of the leaf's column
abbrev pub AsEntry : Leaf → (Datum → Type 0) → Value → Type 0
AsEntry leaf P value = (d : Datum) → leaf_content (Some leaf) value ≡ Some d → P d

abbrev pub IsZero : Datum → Type 0
IsZero d = number_in d ≡ pos 0

abbrev pub IsNonzero : Datum → Type 0
IsNonzero d = number_in d ≢ pos 0

abbrev pub IsBelowSecond : Datum → Type 0
IsBelowSecond d = IsAllowed below_second (number_in d)

abbrev pub IsShort : ℕ → Datum → Type 0
IsShort limit d = length (text_in d) ≤ limit
