-- How many elements the slices of a chunk may have, and how often that can still be doubled. The fallback is the last
-- step.
use Rattle.std.specs.Prelude.{ℕ, ◌*◌, ◌/◌, max, Option, Some, None, if◌then◌else◌, nat_le}
use Rattle.bitcode_coder.specs.declared.length.width.ChunkWidth.{ChunkWidth}
use Rattle.bitcode_coder.specs.declared.length.width.ChunkWidth.TheVariants.{One, Two, Four, Eight, Sixteen, ThirtyTwo, SixtyFour, Fallback}

abbrev pub widenings_left : ChunkWidth → ℕ
widenings_left One = 7
widenings_left Two = 6
widenings_left Four = 5
widenings_left Eight = 4
widenings_left Sixteen = 3
widenings_left ThirtyTwo = 2
widenings_left SixtyFour = 1
widenings_left Fallback = 0

-- how many elements a slice may have, if there is a limit
abbrev pub elements_of : ChunkWidth → Option ℕ
elements_of One = Some 1
elements_of Two = Some 2
elements_of Four = Some 4
elements_of Eight = Some 8
elements_of Sixteen = Some 16
elements_of ThirtyTwo = Some 32
elements_of SixtyFour = Some 64
elements_of Fallback = None

-- as many elements as have at most 8 bytes together, but at least one; empty elements count as one byte
abbrev pub first_elements : (size : ℕ) → Option ℕ
first_elements size = Some (max 1 (8 / max 1 size))

-- twice as many, if these have at most 64 bytes together
abbrev pub doubled_elements : (size : ℕ) → Option ℕ → Option ℕ
doubled_elements size None = None
doubled_elements size (Some elements) = if nat_le (2 * elements * max 1 size) 64 then Some (2 * elements) else None
