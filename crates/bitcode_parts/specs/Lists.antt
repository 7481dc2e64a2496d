-- Sequences, as the length of each and the elements of all.
use Rattle.std.specs.Prelude.{ℕ, List, map, None}
use Rattle.bitcode_shapes.specs.Datum.{Datum, list, data_of}
use Rattle.bitcode_coder.specs.Columns.{Columns, lengths, one, two}
use Rattle.bitcode_coder.specs.Cutting.{cut}
use Rattle.bitcode_coder.specs.Spelling.{natural}

-- lists of these lengths, of the data in their order
abbrev pub lists_of : List ℕ → List Datum → List Datum
lists_of sizes elements = map (λ ds. list (data_of ds)) (cut sizes elements)

-- the columns of lists: that of their lengths, and those of the elements of all
abbrev pub list_columns : List ℕ → Columns → Columns
list_columns ns elements = two (one (lengths None) (map natural ns)) elements
