-- The final state of a list, once the slice that it lent is returned.
use Rattle.std.specs.Prelude.{◌≡◌, ⊤, ℕ, List, [], drop}
use Rattle.std.specs.Borrow.{Lends, follows_so, Fml, MutBor, RattleType, Array}
use mathlib.Core.Option.{none}
use mir.Syntax.{named}
use Rattle.bitcode_memory.specs.declared.fast.vec.FastVec.{FastVec}
use Rattle.bitcode_memory.specs.declared.fast.CowSlice.{CowSlice}
use Rattle.bitcode_memory.specs.contracts.fast.vec.FastVec.{the_row as fast_row}
use Rattle.bitcode_memory.specs.contracts.fast.CowSlice.{the_row as cow_row}
use Rattle.bitcode_memory.specs.Fast.{cow_rest}
use Rattle.bitcode_memory.specs.Places.{with_front, front_counts}

-- v with as many other items in place of its own
unfoldable pub with_fast_items : {T : Type 0} → FastVec T → List T → FastVec T
with_fast_items v items = record {
  start = v.start;
  capacity = v.capacity;
  len = v.len;
  places = with_front v.places v.len items;
  lease = v.lease;
  alloc = v.alloc;
  block = v.block;
  leased = v.leased;
  counts = front_counts v.len v.capacity v.places.items items v.counts;
}

module _ (T : RattleType) where
  -- r is a mutable slice of all items of v
  abbrev pub LendsItems : MutBor (FastVec T.Denot) → MutBor (List T.Denot) → Fml
  LendsItems v r = Lends (fast_row T) (Array T 0) v r (with_fast_items v.now)

  -- n items were taken
  abbrev pub EndsBehind : MutBor (CowSlice T.Denot) → ℕ → Fml
  EndsBehind c n =
      let row = cow_row (record { mir = named 1; lft = [] }) T in
      follows_so row row c.ghost_name none (λ _ _. ⊤) (λ new. cow_rest new ≡ drop n (cow_rest c.now))
