-- Queues and lists of any elements can be built.
use Rattle.std.proofs.Common.{◌≡◌, ◌^◌, ◌<◌, List, length, refl, arith}
use Rattle.std.specs.declared.alloc.Global.{Global}
use Rattle.std.specs.declared.collections.VecDeque.{VecDeque}
use Rattle.std.specs.VecDeque.{deque_items}
use Rattle.std.specs.VecDeque.Ownership.{in_place}
use denote.RawPtr.{block_ptr}

pub deque_built : {T : Type 0} → Global → (values : List T) → length values < 2 ^ 63 → (q : VecDeque T Global) × (deque_items q ≡ values)
deque_built g values small = (
  record {
    ptr = block_ptr 0 0;
    len = length values;
    cap = length values;
    head = 0;
    wrapped = 0;
    alloc = g;
    items = values;
    ok = (refl, omega arith);
    small = (small, omega arith);
    ring_fits = in_place (length values) (length values) 0 0 (omega arith, (omega arith, omega arith));
  },
  refl,
)

pub list_built : {T : Type 0} → (values : List T) → length values < 2 ^ 63 → (l : List T) × (l ≡ values)
list_built values small = (values, refl)
