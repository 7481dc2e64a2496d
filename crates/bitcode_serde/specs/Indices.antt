-- What the coders of indices hold.
use Rattle.std.specs.Prelude.{ℕ, List, map, drop}
use Rattle.bitcode_columns.specs.Histogram.{count_of}
use Rattle.bitcode_memory.specs.Fast.{fast_items, fast_room, fast_capacity, cow_rest, cow_owned}
use Rattle.bitcode_shapes.specs.Datum.{Datum}
use Rattle.bitcode_coder.specs.Spelling.{natural}
use Rattle.bitcode_serde.specs.declared.serde.encoder.VariantEncoder.{VariantEncoder}
use Rattle.bitcode_serde.specs.declared.serde.decoder.VariantDecoder.{VariantDecoder}

-- the indices that were written
unfoldable pub written_indices : VariantEncoder → List ℕ
written_indices e = fast_items e.indices

-- for how many more indices there is room
unfoldable pub index_room : VariantEncoder → ℕ
index_room e = fast_room e.indices

-- for how many indices it has memory, those that were written included
unfoldable pub index_capacity : VariantEncoder → ℕ
index_capacity e = fast_capacity e.indices

-- the indices that are left to take
unfoldable pub indices_left : VariantDecoder → List Datum
indices_left d = map natural (drop d.position (cow_rest d.indices))

-- for how many indices it has memory of its own
unfoldable pub indices_owned : VariantDecoder → ℕ
indices_owned d = cow_owned d.indices

-- how often an index was read
unfoldable pub index_count : VariantDecoder → ℕ → ℕ
index_count d index = count_of index (cow_rest d.indices)
