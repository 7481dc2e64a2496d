-- Arrays of one size. Their columns are those of all their elements, and the elements make up the arrays again.
use Rattle.std.specs.Prelude.{ℕ, zero, suc, ◌+◌, ◌-◌, ◌*◌, ◌/◌, ◌^◌, ◌≤◌, List, min, replicate, ◌⊎◌}
use Rattle.bitcode_shapes.specs.Datum.{Datum}
use Rattle.bitcode_coder.specs.Coder.{endless_room}
use Rattle.bitcode_parts.specs.Lists.{lists_of}

-- With room for so many elements, and so many arrays present: how many more arrays surely fit. There must be room for
-- their elements, and the number of arrays times their size must fit in a length. Elements of empty arrays need no
-- room.
abbrev pub array_room : (size count room : ℕ) → ℕ
array_room zero count room = endless_room
array_room (suc size) count room = min (room / suc size) ((2 ^ 64 - 1) / suc size - count)

-- So many more arrays surely overflow: the number of all arrays times their size does not fit in a length, or so many
-- elements surely overflow after those that are there.
abbrev pub ArraysOverflow : {E : Type 0} (size : ℕ) (overflows : E → ℕ → Type 0) → E → (count more : ℕ) → Type 0
ArraysOverflow size overflows elements count more = (2 ^ 64 ≤ (count + more) * size) ⊎ overflows elements (more * size)

-- the elements of so many arrays, grouped into arrays
abbrev pub arrays_of : (size count : ℕ) → List Datum → List Datum
arrays_of size count elements = lists_of (replicate count size) elements
