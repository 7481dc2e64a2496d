-- A `&` to the places is made where one to an item is, and they cross threads as the items do. Assumes `Logic`.
use Prim.Native.Nat.{ℕ, ◌+◌}
use mathlib.Core.Bool.{Bool, true, false}
use Rattle.std.specs.Prelude.{List, [], ◌∷◌, length}
use Rattle.std.specs.Mem.{type_size}
use Rattle.std.specs.Vec.Ownership.{owns_if, has_block}
use seplogic.Ra.Ura.{Ura}
use base.Fraction.{full_share}
use base.Fml.{Fml, Lft, Incl, ftrue, ffalse, fsep}
use base.Shift.{Keyless}
use types.Logic.{Logic}
use denote.RattleType.{RattleType, RowLaws}
use denote.Param.Laws.{Laws}
use denote.Param.Send.{IsSend, IsSync, Common, AllSend, part_keyless, owning_send, struct_send, struct_sync, sendable}
use denote.RawPtr.{Ptr, block_ptr, null_ptr}
use denote.Memory.{part_at, shared_of}
use denote.Index.{row}
use denote.Sharing.{ShrLaws, said}
use denote.SharingLaws.{beside_shr_laws, nothing_shr_laws, said_shr_laws}
use denote.Shares.{Shares-less}
use denote.Struct.Struct.{exits_of}
use denote.Struct.Owning.{shape, fields, to}
use denote.Struct.Lending.{Lends, Lends-both, Lends-first, Lends-nothing, Lends-said, Lends-false}
use Rattle.core.specs.declared.alloc.Allocator.{Ghosts}
use Rattle.std_alloc.proofs.SendSync.{FreesAnywhere, quiet}
use Rattle.bitcode_memory.specs.Memory.{fit, room_behind, items_lent, places_own, places_lent}
use Rattle.bitcode_memory.specs.contracts.fast.memory.Places as Places
use Rattle.bitcode_memory.specs.contracts.fast.memory.Lease as Lease

module _ (R : RattleType) (L : RowLaws R) where
  items_lent_laws : (b o : ℕ) (xs : List R.Denot) → ShrLaws (items_lent R b o xs)
  items_lent_laws b o [] = nothing_shr_laws
  items_lent_laws b o (x ∷ xs) = beside_shr_laws _ _ (L x b o) (items_lent_laws b (o + type_size R) xs)

  pub places_lent_laws : (p : Ptr) (c : ℕ) (xs : List R.Denot) → ShrLaws (places_lent R p c xs)
  places_lent_laws (block_ptr b o) c xs = beside_shr_laws _ _ (said_shr_laws (fit R c) tt) (items_lent_laws b o xs)
  places_lent_laws null_ptr c xs = said_shr_laws ffalse tt

module _ {M : Type 1} {𝓤 : Ura M} (𝓛 : Logic 𝓤) (l : Lft) (R : RattleType) (L : Laws R) (inc : Incl l R.lives) where
  Lends-items : (b o : ℕ) (xs : List R.Denot) → Lends 𝓛 (row R full_share xs b o) (items_lent R b o xs) l
  Lends-items b o [] = Lends-nothing 𝓛 ftrue l
  Lends-items b o (x ∷ xs) =
      Lends-both 𝓛 (part_at R full_share x b o) (row R full_share xs b (o + type_size R)) (shared_of R x b o) (items_lent R b (o + type_size R) xs) l
      (λ κ ts. Shares-less 𝓛 R R.lives l inc (L.shares 𝓛) x κ ts b o) (Lends-items b (o + type_size R) xs)

  pub Lends-places : (p : Ptr) (c : ℕ) (xs : List R.Denot) → Lends 𝓛 (places_own R p c xs) (places_lent R p c xs) l
  Lends-places (block_ptr b o) c xs =
      Lends-both 𝓛 (fit R c) (fsep (row R full_share xs b o) (room_behind R b o c (length xs))) (said (fit R c)) (items_lent R b o xs) l (Lends-said 𝓛 (fit R c) tt l)
      (Lends-first 𝓛 (row R full_share xs b o) (room_behind R b o c (length xs)) (items_lent R b o xs) l (Lends-items b o xs))
  Lends-places null_ptr c xs = Lends-false 𝓛 (said ffalse) l

module _ (R : RattleType) where
  row-Keyless : IsSend R → (b o : ℕ) (xs : List R.Denot) → Keyless (row R full_share xs b o)
  row-Keyless s b o [] = tt
  row-Keyless s b o (x ∷ xs) = (part_keyless R s full_share x b o, row-Keyless s b (o + type_size R) xs)

  places-Keyless : IsSend R → (p : Ptr) (c : ℕ) (xs : List R.Denot) → Keyless (places_own R p c xs)
  places-Keyless s (block_ptr b o) c xs = (tt, (row-Keyless s b o xs, tt))
  places-Keyless s null_ptr c xs = tt

  items_lent-Common : IsSync R → (b o : ℕ) (xs : List R.Denot) → Common (items_lent R b o xs)
  items_lent-Common y b o [] κ = tt
  items_lent-Common y b o (x ∷ xs) κ = (y.shared x b o κ, items_lent-Common y b (o + type_size R) xs κ)

  places_lent-Common : IsSync R → (p : Ptr) (c : ℕ) (xs : List R.Denot) → Common (places_lent R p c xs)
  places_lent-Common y (block_ptr b o) c xs κ = (tt, items_lent-Common y b o xs κ)
  places_lent-Common y null_ptr c xs κ = tt

  pub Places-send : IsSend R → IsSend (Places.the_row R)
  Places-send s =
      let O = Places.the_type R in let all : AllSend (fields O) = (search sendable, tt) in
      owning_send O all (λ d. places-Keyless s d.at d.capacity d.items) (λ k. quiet (to O) (exits_of k (fields O)) ((struct_send (shape O) all).leaving k))

  pub Places-sync : IsSync R → IsSync (Places.the_row R)
  Places-sync y = let O = Places.the_type R in record { shared = λ d b o κ. ((struct_sync (shape O) (search sendable, tt)).shared (to O d) b o κ, places_lent-Common y d.at d.capacity d.items κ) }

  owns_if-Keyless : (F : Fml) (y : Bool) → Keyless F → Keyless (owns_if y F)
  owns_if-Keyless F true k = k
  owns_if-Keyless F false k = tt

  module _ (A : RattleType) (g : Ghosts A.Denot) where
    pub Lease-send : FreesAnywhere A.Denot g → IsSend (Lease.the_row R A g)
    Lease-send f =
        let O = Lease.the_type R A g in let all : AllSend (fields O) = (search sendable, tt) in
        owning_send O all (λ d. owns_if-Keyless _ (has_block d.capacity) (f.frees d.alloc _ d.at)) (λ k. quiet (to O) (exits_of k (fields O)) ((struct_send (shape O) all).leaving k))

    pub Lease-sync : IsSync (Lease.the_row R A g)
    Lease-sync = let O = Lease.the_type R A g in record { shared = λ d b o κ. ((struct_sync (shape O) (search sendable, tt)).shared (to O d) b o κ, tt) }
