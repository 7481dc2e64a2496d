-- What a list with room owns of its memory and what it lends, for items of the row R: a block of places, of which the
-- first hold items.
use Rattle.std.specs.Prelude.{ℕ, ◌+◌, ◌-◌, ◌*◌, ◌^◌, List, [], ◌∷◌, length}
use Rattle.std.specs.Mem.{type_size}
use Rattle.std.specs.Vec.Ownership.{owns_if, has_block}
use base.Fraction.{full_share}
use base.Fml.{Lft, Fml, ffalse, fsep, flt, froom}
use mir.Syntax.{Ty, ty_array}
use mir.Raw.{raw}
use denote.RattleType.{RattleType}
use denote.Memory.{lone, shared_of}
use denote.Index.{row}
use denote.Sharing.{nothing, said, beside}
use denote.RawPtr.{Ptr, block_ptr, null_ptr}

module _ (R : RattleType) where
  -- the room after the items, o bytes into the block b
  abbrev pub room_behind : ℕ → ℕ → ℕ → ℕ → Fml
  room_behind b o c n = froom (raw (ty_array (lone R.mir) (c - n))) b (o + n * type_size R)

  -- the places occupy fewer than 2 ^ 63 bytes
  abbrev pub fit : ℕ → Fml
  fit c = flt (c * type_size R) (2 ^ 63)

  abbrev pub places_own : Ptr → ℕ → List R.Denot → Fml
  places_own (block_ptr b o) c xs = fsep (fit c) (fsep (row R full_share xs b o) (room_behind b o c (length xs)))
  places_own null_ptr c xs = ffalse

  abbrev pub items_lent : ℕ → ℕ → List R.Denot → Lft → Fml
  items_lent b o [] = nothing
  items_lent b o (x ∷ xs) = beside (shared_of R x b o) (items_lent b (o + type_size R) xs)

  abbrev pub places_lent : Ptr → ℕ → List R.Denot → Lft → Fml
  places_lent (block_ptr b o) c xs = beside (said (fit c)) (items_lent b o xs)
  places_lent null_ptr c xs = said ffalse

  -- the allocator's token for a block of c places, if there is one
  abbrev pub lease_owns : (Ty → Ptr → Fml) → Ptr → ℕ → Fml
  lease_owns token p c = owns_if (has_block c) (token (raw (ty_array (lone R.mir) c)) p)
