-- What the coders of lengths hold.
use Rattle.std.specs.Prelude.{ℕ, ◌+◌, List, map, vec_capacity}
use Rattle.bitcode_memory.specs.Fast.{fast_items, fast_room, fast_capacity, cow_rest, cow_owned}
use Rattle.bitcode_memory.specs.LittleEndian.{little_endian}
use Rattle.bitcode_coder.specs.declared.length.encoder.LengthEncoder.{LengthEncoder}
use Rattle.bitcode_coder.specs.declared.length.decoder.LengthDecoder.{LengthDecoder}
use Rattle.bitcode_coder.specs.LengthColumn.{lengths_from}

-- the lengths that were written
unfoldable pub written_lengths : LengthEncoder → List ℕ
written_lengths e = lengths_from (fast_items e.small) e.large.items

-- the room for more lengths
unfoldable pub length_room : LengthEncoder → ℕ
length_room e = fast_room e.small

-- how many entries fit in the memory of both lists, including those that they hold
unfoldable pub length_capacity : LengthEncoder → ℕ
length_capacity e = fast_capacity e.small + vec_capacity e.large

-- the short bytes of the lengths that are left
unfoldable pub short_left : LengthDecoder → List ℕ
short_left d = cow_rest d.small

-- the large lengths that are left
unfoldable pub large_left : LengthDecoder → List ℕ
large_left d = map little_endian (cow_rest d.large)

-- the remaining lengths
unfoldable pub lengths_left : LengthDecoder → List ℕ
lengths_left d = lengths_from (cow_rest d.small) (map little_endian (cow_rest d.large))

-- the sum of the lengths that were read
unfoldable pub lengths_sum : LengthDecoder → ℕ
lengths_sum d = d.sum

-- how many entries fit in the memory that both parts own
unfoldable pub lengths_owned : LengthDecoder → ℕ
lengths_owned d = cow_owned d.small + cow_owned d.large
