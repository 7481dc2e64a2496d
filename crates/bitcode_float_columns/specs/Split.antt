-- The bits that are left of a split column.
use Rattle.std.specs.Prelude.{ℕ, ◌+◌, ◌*◌, ◌^◌, List, [], ◌∷◌}
use Rattle.bitcode_memory.specs.Fast.{slice_rest}
use Rattle.bitcode_float_columns.specs.declared.split.SplitBits.{SplitBits}

-- the numbers with these low bytes, three each, and these top bytes
abbrev pub joined_bits : List ℕ → List ℕ → List ℕ
joined_bits (low ∷ middle ∷ high ∷ lows) (top ∷ tops) = (low + 256 * middle + 256 ^ 2 * high + 256 ^ 3 * top) ∷ joined_bits lows tops
joined_bits [] tops = []
joined_bits (low ∷ []) tops = []
joined_bits (low ∷ middle ∷ []) tops = []
joined_bits (low ∷ middle ∷ high ∷ lows) [] = []

unfoldable pub split_rest : SplitBits → List ℕ
split_rest s = joined_bits (slice_rest s.lows) (slice_rest s.tops)
