-- Reading the variants, and then the payloads of one variant after another.
use Rattle.std.specs.Prelude.{◌≡◌, ℕ, ◌<◌, List, length, slice_index}
use Rattle.bitcode_columns.specs.Histogram.{count_of}

-- how many there are of each variant with an index
abbrev pub CountsEach : (variants counts : List ℕ) → Type 0
CountsEach variants counts = (variant : ℕ) → variant < length counts → slice_index counts variant ≡ count_of variant variants
