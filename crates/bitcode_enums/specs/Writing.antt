-- The payload of a variant is added to the columns of that variant.
use Rattle.std.specs.Prelude.{ℕ, ◌+◌, List, map}
use Rattle.bitcode_shapes.specs.Datum.{Datum}
use Rattle.bitcode_shapes.specs.Shape.{Shapes}
use Rattle.bitcode_coder.specs.Columns.{Columns, one, two, variants}
use Rattle.bitcode_coder.specs.Spelling.{natural}
use Rattle.bitcode_parts.specs.Payloads.{JoinsPayload, OverflowsAtPayload}

-- The payload of a listing of a value was added to the columns of its variant, whatever the index of the first variant.
pub record JoinsVariant {V : Type 0} (index : V → ℕ) (lists : V → ℕ → Datum → Type 0) (shapes : Shapes) (v : V) (old new : Columns) : Type 0 where
  pub payload : Datum
  pub listing : lists v (index v) payload
  pub joined : (first : ℕ) → JoinsPayload shapes first (first + index v) payload old new

-- with the payload of some listing of the value, some number of arrays does not fit in a length
pub record OverflowsWithVariant {V : Type 0} (index : V → ℕ) (lists : V → ℕ → Datum → Type 0) (shapes : Shapes) (v : V) (old : Columns) : Type 0 where
  pub payload : Datum
  pub listing : lists v (index v) payload
  pub overflows : (first : ℕ) → OverflowsAtPayload shapes first (first + index v) payload old

-- the columns of an enum of so many variants: the variants, followed by the columns of the payloads
abbrev pub variant_columns : ℕ → List ℕ → Columns → Columns
variant_columns count entries payloads = two (one (variants count) (map natural entries)) payloads
