-- Lists with reserved room, and lists that are read front to back.
use Rattle.std.specs.Prelude.{ℕ, ◌+◌, ◌-◌, List, length, take, drop, vec_capacity}
use Rattle.bitcode_memory.specs.declared.fast.vec.FastVec.{FastVec}
use Rattle.bitcode_memory.specs.declared.fast.FastSlice.{FastSlice}
use Rattle.bitcode_memory.specs.declared.fast.CowSlice.{CowSlice}
use Rattle.bitcode_memory.specs.declared.fast.Held.{Held}
use Rattle.bitcode_memory.specs.declared.fast.Held.TheVariants.{Borrowed, Owned}

module _ {T : Type 0} where
  -- the items that were pushed
  unfoldable pub fast_items : FastVec T → List T
  fast_items v = take v.len v.places.items

  -- how many more items fit in the reserved room
  unfoldable pub fast_room : FastVec T → ℕ
  fast_room v = v.capacity - v.len

  -- how many items fit in its memory, including those that were pushed
  abbrev pub fast_capacity : FastVec T → ℕ
  fast_capacity v = fast_room v + length (fast_items v)

  -- the items that are left
  unfoldable pub slice_rest : FastSlice T → List T
  slice_rest s = s.rest.now

  -- all items, read or not
  abbrev pub held_items : Held T → List T
  held_items (Borrowed items) = items.now
  held_items (Owned vec) = vec.items

  -- the items that are left
  unfoldable pub cow_rest : CowSlice T → List T
  cow_rest c = drop c.position (held_items c.held)

  -- how many items fit in the memory that it owns
  abbrev pub held_owned : Held T → ℕ
  held_owned (Borrowed items) = 0
  held_owned (Owned vec) = vec_capacity vec

  -- how many items fit in the memory that it owns, read or not
  unfoldable pub cow_owned : CowSlice T → ℕ
  cow_owned c = held_owned c.held
