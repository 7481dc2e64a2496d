-- Lists of values of one case, as entries of one column.
use Rattle.std.proofs.Common.{◌≡◌, ◌⊎◌, ℕ, zero, suc, inl, inr, List, [], ◌∷◌, ◌++◌, Some, slice_get, length, map, drop, All, refl, ap, sym, subst, ◌∙◌, append_assoc, append-nil, add-one, ◌+◌, arith}
use Rattle.std.specs.List.{AllByRecursion, AllZip}
use Rattle.std.proofs.lemmas.List.{map-append}
use Rattle.bitcode_memory.specs.declared.error.Reason.{Reason}
use Rattle.bitcode_shapes.specs.Datum.{Datum}
use Rattle.bitcode_shapes.specs.Shape.{Shape, IsOf}
use Rattle.bitcode_coder.specs.Coder.{written_columns, JoinsListing, OverflowsWithListing, JoinsEach, OverflowsWithEach, IsWritingRefusal}
use Rattle.bitcode_memory.specs.declared.error.Reason.TheVariants.{OutOfMemory}
use Rattle.bitcode_coder.specs.Columns.{Kind, Columns, no_columns, one, two, arrays, emptied, beside, CountsFit, IsEntryOf}
use Rattle.bitcode_untyped.specs.View.{datum_of}
use Rattle.bitcode_untyped.specs.declared.value.Value.{Value}
use Rattle.bitcode_untyped.proofs.EachLemmas.{each_append}
use Rattle.bitcode_serde.specs.Leaves.{entries_in, IsEntryIn, HasOther}
use Rattle.bitcode_serde.specs.ReadColumns.{kind_of, IsCaseOf}
use Rattle.bitcode_serde.specs.declared.column.ColumnKind.{ColumnKind}
use Rattle.bitcode_serde.proofs.WritingLemmas.{all_each}

pub no_overflow : {A B C O : Type 0} → A ⊎ B ⊎ O → (B → ⊥) → (O → ⊥) → A ⊎ C
no_overflow (inl a) not_sure never = inl a
no_overflow (inr (inl b)) not_sure never = absurd (not_sure b)
no_overflow (inr (inr o)) not_sure never = absurd (never o)

pub memory_of_one : {A B C : Type 0} {reason : Reason} → (reason ≡ OutOfMemory) ⊎ (B × C) → (C → ⊥) → (reason ≡ OutOfMemory) ⊎ A
memory_of_one (inl memory) never = inl memory
memory_of_one (inr away) never = absurd (never away.1)

-- ---- one column beside others

pub entries_beside : (old new : Columns) (kind : Kind) (ds : List Datum) → emptied old ≡ one kind [] → new ≡ beside old (one kind ds)
    → entries_in new ≡ entries_in old ++ ds
entries_beside no_columns new kind ds form h = cc
entries_beside (one k es) new kind ds form h = ap entries_in h
entries_beside (two a b) new kind ds form h = cc
entries_beside (arrays size count elements) new kind ds form h = cc

beside_none : (c : Columns) (kind : Kind) → emptied c ≡ one kind [] → c ≡ beside c (one kind [])
beside_none no_columns kind h = refl
beside_none (one k es) kind h = ap (one k) (sym (append-nil es))
beside_none (two a b) kind h = cc
beside_none (arrays size count elements) kind h = cc

beside_more : (c : Columns) (kind : Kind) (ds es : List Datum) → beside (beside c (one kind ds)) (one kind es) ≡ beside c (one kind (ds ++ es))
beside_more no_columns kind ds es = refl
beside_more (one k entries) kind ds es = ap (one k) (append_assoc entries ds es)
beside_more (two a b) kind ds es = refl
beside_more (arrays size count elements) kind ds es = refl

fits_beside : (c : Columns) (kind : Kind) (ds : List Datum) → CountsFit (beside c (one kind ds))
fits_beside no_columns kind ds = tt
fits_beside (one k entries) kind ds = tt
fits_beside (two a b) kind ds = tt
fits_beside (arrays size count elements) kind ds = tt

-- ---- a value of another case

pub other_at : (kind : ColumnKind) (vs : List Value) (i : ℕ) (v : Value) → slice_get vs i ≡ Some v → (IsCaseOf kind v → ⊥) → HasOther kind vs
other_at kind [] i v there other = cc
other_at kind (w ∷ vs) zero v there other = let e : w ≡ v = cc in inl (λ is. other (subst (IsCaseOf kind) e is))
other_at kind (w ∷ vs) (suc i) v there other = inr (other_at kind vs i v there other)

other_front : (kind : ColumnKind) (vs ws : List Value) → HasOther kind vs → HasOther kind (vs ++ ws)
other_front kind [] ws h = absurd h
other_front kind (v ∷ vs) ws (inl other) = inl other
other_front kind (v ∷ vs) ws (inr h) = inr (other_front kind vs ws h)

other_back : (kind : ColumnKind) (vs ws : List Value) → HasOther kind ws → HasOther kind (vs ++ ws)
other_back kind [] ws h = h
other_back kind (v ∷ vs) ws h = inr (other_back kind vs ws h)

-- ---- what the values hold

module _ {T : Type 0} (kind : ColumnKind) (value : T → Value) (is_value : T → Type 0) (lists : T → Datum → Type 0) (shape : Shape)
    (datum : (t : T) (d : Datum) → lists t d → d ≡ datum_of (value t)) where
  data_are : (ts : List T) (ds : List Datum) → AllZip lists ts ds → ds ≡ map datum_of (map value ts)
  data_are [] [] h = refl
  data_are [] (d ∷ ds) h = absurd h
  data_are (t ∷ ts) [] h = absurd h
  data_are (t ∷ ts) (d ∷ ds) h = ap (λ e. e ∷ ds) (datum t d h.0) ∙ ap (λ es. datum_of (value t) ∷ es) (data_are ts ds h.1)

  entries_are : ((t : T) → IsCaseOf kind (value t)) → ((d : Datum) → IsOf shape d → IsEntryOf (kind_of kind) d)
      → ((t : T) (d : Datum) → is_value t → lists t d → IsOf shape d) → (ts : List T) (ds : List Datum) → AllByRecursion is_value ts → AllZip lists ts ds
      → AllByRecursion (IsEntryIn kind) (map value ts)
  entries_are case entry of_shape [] ds are h = tt
  entries_are case entry of_shape (t ∷ ts) [] are h = absurd h
  entries_are case entry of_shape (t ∷ ts) (d ∷ ds) are h = (
    record { case = case t; entry = subst (IsEntryOf (kind_of kind)) (datum t d h.0) (entry d (of_shape t d are.0 h.0)) },
    entries_are case entry of_shape ts ds are.1 h.1,
  )

  -- the columns of values that hold these
  pub columns_joined : ((ds : List Datum) → written_columns shape ds ≡ one (kind_of kind) ds) → (ts : List T) (vs : List Value) (old new : Columns)
      → map value ts ≡ vs → JoinsEach lists shape ts old new → new ≡ beside old (one (kind_of kind) (map datum_of vs))
  columns_joined columns ts vs old new are p =
      p.joined ∙ ap (beside old) (columns p.parts)
      ∙ ap (λ ds. beside old (one (kind_of kind) ds)) (data_are ts p.parts p.listings ∙ ap (map datum_of) are)

  pub entries_joined : ((t : T) → IsCaseOf kind (value t)) → ((d : Datum) → IsOf shape d → IsEntryOf (kind_of kind) d)
      → ((t : T) (d : Datum) → is_value t → lists t d → IsOf shape d) → (ts : List T) (vs : List Value) (old new : Columns)
      → map value ts ≡ vs → All is_value ts → JoinsEach lists shape ts old new → AllByRecursion (IsEntryIn kind) vs
  entries_joined case entry of_shape ts vs old new are all p =
      subst (AllByRecursion (IsEntryIn kind)) are (entries_are case entry of_shape ts p.parts (all_each is_value ts all) p.listings)

  -- one column has no numbers of arrays that could overflow
  pub memory_alone : ((ds : List Datum) → written_columns shape ds ≡ one (kind_of kind) ds) → (ts : List T) (old : Columns) (reason : Reason) (Other : Type 0)
      → IsWritingRefusal reason (OverflowsWithEach lists shape ts old) → (reason ≡ OutOfMemory) ⊎ Other
  memory_alone columns ts old reason Other (inl memory) = inl memory
  memory_alone columns ts old reason Other (inr (is, p)) =
      absurd (p.overflows (subst (λ added. CountsFit (beside old added)) (sym (columns p.parts)) (fits_beside old (kind_of kind) p.parts)))

pub never_overflows : {T : Type 0} (kind : ColumnKind) (lists : T → Datum → Type 0) (shape : Shape)
    → ((ds : List Datum) → written_columns shape ds ≡ one (kind_of kind) ds) → (t : T) (old : Columns) → OverflowsWithListing lists shape t old → ⊥
never_overflows kind lists shape columns t old some =
    let ds = some.datum ∷ [] in
    some.overflows (subst (λ added. CountsFit (beside old added)) (sym (columns ds)) (fits_beside old (kind_of kind) ds))

-- one value is a list of one
pub joins_one : {T : Type 0} (lists : T → Datum → Type 0) (shape : Shape) (t : T) (old new : Columns) → JoinsListing lists shape t old new
    → JoinsEach lists shape (t ∷ []) old new
joins_one lists shape t old new joins =
    record { parts = joins.datum ∷ []; listings = (joins.listing, tt); joined = joins.joined; fits = joins.fits }

pub all_one : {T : Type 0} (P : T → Type 0) (t : T) → P t → All P (t ∷ [])
all_one P t h zero d inside = h
all_one P t h (suc i) d inside = absurd (omega (arith, inside))

pub no_items : {A : Type 0} (xs : List A) → length xs ≡ 0 → xs ≡ []
no_items [] size = refl
no_items (x ∷ xs) size = absurd (omega (arith, size))

-- ---- chunk by chunk

-- the values before the rest were written
pub record JoinsSome (kind : ColumnKind) (all rest : List Value) (old now : Columns) : Type 0 where
  pub done : List Value
  pub parted : all ≡ done ++ rest
  pub joined : now ≡ beside old (one (kind_of kind) (map datum_of done))
  pub entries : AllByRecursion (IsEntryIn kind) done

pub some_none : (kind : ColumnKind) (all : List Value) (old now : Columns) → emptied old ≡ one (kind_of kind) [] → now ≡ old → JoinsSome kind all all old now
some_none kind all old now form same =
    record { done = []; parted = refl; joined = same ∙ beside_none old (kind_of kind) form; entries = tt }

pub some_more : (kind : ColumnKind) (all front rest : List Value) (old now new : Columns) → JoinsSome kind all (front ++ rest) old now
    → new ≡ beside now (one (kind_of kind) (map datum_of front)) → AllByRecursion (IsEntryIn kind) front → JoinsSome kind all rest old new
some_more kind all front rest old now new some joined entries = record {
  done = some.done ++ front;
  parted = some.parted ∙ sym (append_assoc some.done front rest);
  joined =
      joined ∙ ap (λ c. beside c (one (kind_of kind) (map datum_of front))) some.joined
      ∙ beside_more old (kind_of kind) (map datum_of some.done) (map datum_of front)
      ∙ ap (λ ds. beside old (one (kind_of kind) ds)) (sym (map-append datum_of some.done front));
  entries = each_append (IsEntryIn kind) some.done front some.entries entries;
}

-- one value after another
drop_at : (vs : List Value) (i : ℕ) (v : Value) → slice_get vs i ≡ Some v → drop i vs ≡ v ∷ drop (suc i) vs
drop_at [] i v there = cc
drop_at (w ∷ vs) zero v there = let e : w ≡ v = cc in ap (λ x. x ∷ vs) e
drop_at (w ∷ vs) (suc i) v there = drop_at vs i v there

pub none_left : (vs : List Value) (i : ℕ) → length vs ≡ i → drop i vs ≡ []
none_left vs i all = subst (λ n. drop n vs ≡ []) all (none_behind vs)
  where
    none_behind : (ws : List Value) → drop (length ws) ws ≡ []
    none_behind [] = refl
    none_behind (w ∷ ws) = none_behind ws

next_there : (kind : ColumnKind) (all : List Value) (i : ℕ) (v : Value) (old now : Columns) → slice_get all i ≡ Some v
    → JoinsSome kind all (drop i all) old now → JoinsSome kind all ((v ∷ []) ++ drop (i + 1) all) old now
next_there kind all i v old now there some = subst (λ vs. JoinsSome kind all vs old now) (rw add-one (drop_at all i v there)) some

pub some_next : (kind : ColumnKind) (all : List Value) (i : ℕ) (v : Value) (old now new : Columns) → slice_get all i ≡ Some v
    → JoinsSome kind all (drop i all) old now → new ≡ beside now (one (kind_of kind) (map datum_of (v ∷ []))) → AllByRecursion (IsEntryIn kind) (v ∷ [])
    → JoinsSome kind all (drop (i + 1) all) old new
some_next kind all i v old now new there some joined entries =
    some_more kind all (v ∷ []) (drop (i + 1) all) old now new (next_there kind all i v old now there some) joined entries

pub some_other : (kind : ColumnKind) (all front rest : List Value) (old now : Columns) → JoinsSome kind all (front ++ rest) old now → HasOther kind front
    → HasOther kind all
some_other kind all front rest old now some h =
    subst (HasOther kind) (sym some.parted) (other_back kind some.done (front ++ rest) (other_front kind front rest h))

pub some_other_next : (kind : ColumnKind) (all : List Value) (i : ℕ) (v : Value) (old now : Columns) → slice_get all i ≡ Some v
    → JoinsSome kind all (drop i all) old now → HasOther kind (v ∷ []) → HasOther kind all
some_other_next kind all i v old now there some h = some_other kind all (v ∷ []) (drop (i + 1) all) old now (next_there kind all i v old now there some) h

module _ (kind : ColumnKind) (all rest : List Value) (old now : Columns) (some : JoinsSome kind all rest old now) (none : rest ≡ []) where
  all_done : some.done ≡ all
  all_done = sym (some.parted ∙ ap (λ vs. some.done ++ vs) none ∙ append-nil some.done)

  pub all_joined : now ≡ beside old (one (kind_of kind) (map datum_of all))
  all_joined = some.joined ∙ ap (λ vs. beside old (one (kind_of kind) (map datum_of vs))) all_done

  pub all_entries : AllByRecursion (IsEntryIn kind) all
  all_entries = subst (AllByRecursion (IsEntryIn kind)) all_done some.entries
