-- The final state of the places, once the slice that was lent is returned.
use Rattle.std.specs.Prelude.{ℕ, ◌^◌, ◌<◌, ◌≤◌, List, ◌++◌, length, drop}
use native.Mathlib.Omega.{arith}
use lib.ListN.{length-append, length-take, length-drop}
use Rattle.std.specs.Borrow.{Fml, RattleType, MutBor, Array, Lends}
use Rattle.std.specs.List.{refill}
use Rattle.bitcode_memory.specs.declared.fast.memory.Places.{Places}
use Rattle.bitcode_memory.specs.contracts.fast.memory.Places.{the_row}

-- the first n items are ws, and there are no others
abbrev pub with_front : {X : Type 0} → Places X → ℕ → List X → Places X
with_front p n ws = record { mark = p.mark; at = p.at; capacity = p.capacity; items = refill n p.items ws }

abbrev pub lends_front : (R : RattleType) → MutBor (Places R.Denot) → ℕ → MutBor (List R.Denot) → Fml
lends_front R p n r = Lends (the_row R) (Array R 0) p r (with_front p.now n)

pub front_counts : {X : Type 0} (n c : ℕ) (xs ws : List X) → (n ≤ length xs) × (length xs ≤ c) × (c < 2 ^ 63)
    → (n ≤ length (refill n xs ws)) × (length (refill n xs ws) ≤ c) × (c < 2 ^ 63)
front_counts n c xs ws counts =
    let cut = length-take n (ws ++ drop (length ws) xs) in
    let both = length-append ws (drop (length ws) xs) in
    let rest = length-drop (length ws) xs in
    (omega arith, omega arith, counts.2)
