-- What a writer's steps do to its places and columns.
use Rattle.std.proofs.Common.{◌≡◌, ◌≢◌, ℕ, zero, suc, ◌<◌, ◌≤◌, ◌⊎◌, inl, inr, List, [], ◌∷◌, ◌++◌, length, map, take, get_or, All, refl, ap, sym, subst, ◌∙◌, true, false, slice_get, arith}
use Rattle.std.specs.Prelude.{IsSomeAnd}
use Rattle.std.specs.List.{AllByRecursion}
use Rattle.std.proofs.Math.ListN.{set}
use Rattle.bitcode_memory.specs.declared.error.Reason.{Reason}
use Rattle.bitcode_memory.specs.declared.error.Reason.TheVariants.{OutOfMemory, NotOfTheShape}
use Rattle.bitcode_shapes.specs.Datum.{Datum}
use Rattle.bitcode_coder.specs.Columns.{Kind}
use Rattle.bitcode_untyped.specs.Growing.{put_all}
use Rattle.bitcode_untyped.specs.PlaceKinds.{HasKindFrom}
use Rattle.bitcode_untyped.specs.PlacedColumns.{same_place, column_at}
use Rattle.bitcode_untyped.specs.ShapeTree.{ShapeTree}
use Rattle.bitcode_untyped.specs.Walk.{Place, use_at}
use Rattle.bitcode_untyped.proofs.GrowingLemmas.{put_all_here, put_all_past, put_all_first}
use Rattle.bitcode_untyped.proofs.KindLemmas.{one_kind}
use Rattle.bitcode_untyped.proofs.PlaceLemmas.{same_place-refl, same_place-false}
use Rattle.bitcode_serde.specs.Places.{place_at, AreApart, places, IsGrown}
use Rattle.bitcode_untyped.specs.declared.value.Value.{Value}
use Rattle.bitcode_serde.specs.Leaves.{HasOther}
use Rattle.bitcode_serde.specs.ReadColumns.{kind_of}
use Rattle.bitcode_serde.specs.declared.column.ColumnKind.{ColumnKind}
use Rattle.bitcode_serde.specs.WrittenColumns.{kind_of_written, entries_of}
use Rattle.bitcode_serde.specs.Writing.{placed, column_of}
use Rattle.bitcode_serde.specs.declared.places.Below.{Below}
use Rattle.bitcode_serde.specs.declared.writer.state.PlacedWritten.{PlacedWritten}
use Rattle.bitcode_serde.proofs.PlaceLemmas.{at_front, inside_places, grown_places}

pub all_each : {T : Type 0} (P : T → Type 0) (xs : List T) → All P xs → AllByRecursion P xs
all_each P [] h = tt
all_each P (x ∷ xs) h = (h 0 x (omega arith), all_each P xs (λ k d g. h (suc k) d (omega arith)))

-- ---- columns

placed_more : (ps qs : List Place) (cs : List PlacedWritten) → AllByRecursion (λ c. c.place < length ps) cs → map (placed (ps ++ qs)) cs ≡ map (placed ps) cs
placed_more ps qs [] h = refl
placed_more ps qs (c ∷ cs) h =
    let e = at_front ps qs c.place h.0 in
    rw e (ap (λ xs. placed ps c ∷ xs) (placed_more ps qs cs h.1))

inside_each : (bs : List Below) (cs : List PlacedWritten) → All (λ c. c.place ≤ length bs) cs → AllByRecursion (λ c. c.place < length (places bs)) cs
inside_each bs [] h = tt
inside_each bs (c ∷ cs) h = (inside_places bs c.place (h 0 c (omega arith)), inside_each bs cs (λ k d g. h (suc k) d (omega arith)))

pub placed_grown : (bs more : List Below) (b : Below) (n : ℕ) (cs : List PlacedWritten) → IsGrown bs b more n → All (λ c. c.place ≤ length bs) cs
    → map (placed (places more)) cs ≡ map (placed (places bs)) cs
placed_grown bs more b n cs grown inside =
    let g = grown_places bs more b n grown in
    ap (λ (ps : List Place). map (placed ps) cs) g.1 ∙ placed_more (places bs) g.0 cs (inside_each bs cs inside)

pub all_within : (cs : List PlacedWritten) (n m : ℕ) → n ≤ m → All (λ c. c.place ≤ n) cs → All (λ c. c.place ≤ m) cs
all_within cs n m h all k d g = let a = all k d g in omega (arith, a, h)

pub within_last : (cs more : List PlacedWritten) (c : PlacedWritten) (n : ℕ) → more ≡ cs ++ c ∷ [] → All (λ c. c.place ≤ n) cs → c.place ≤ n → All (λ c. c.place ≤ n) more
within_last cs more c n e all one = subst (All (λ c. c.place ≤ n)) (sym e) (joined cs all)
  where
    joined : (xs : List PlacedWritten) → All (λ c. c.place ≤ n) xs → All (λ c. c.place ≤ n) (xs ++ c ∷ [])
    joined [] all zero d h = one
    joined [] all (suc k) d h = absurd (omega (arith, h))
    joined (x ∷ xs) all zero d h = all 0 d (omega arith)
    joined (x ∷ xs) all (suc k) d h = joined xs (λ j e g. all (suc j) e (omega (arith, g))) k d (omega (arith, h))

pub within_set : (cs : List PlacedWritten) (i n : ℕ) (c after : PlacedWritten) → c ≡ get_or cs i c → after.place ≡ c.place → All (λ c. c.place ≤ n) cs
    → All (λ c. c.place ≤ n) (set cs i after)
within_set [] i n c after is same all k d h = absurd (omega (arith, h))
within_set (x ∷ cs) zero n c after is same all zero d h = subst (λ m. m ≤ n) (sym (same ∙ ap (λ z. z.place) is)) (all 0 d (omega arith))
within_set (x ∷ cs) zero n c after is same all (suc k) d h = all (suc k) d h
within_set (x ∷ cs) (suc i) n c after is same all zero d h = all 0 d (omega arith)
within_set (x ∷ cs) (suc i) n c after is same all (suc k) d h =
    within_set cs i n c after is same (λ j e g. all (suc j) e (omega (arith, g))) k d (omega (arith, h))

pub unplaced_all : (ps : List Place) (cs : List PlacedWritten) → map column_at (map (placed ps) cs) ≡ map column_of cs
unplaced_all ps [] = refl
unplaced_all ps (c ∷ cs) = ap (λ xs. column_of c ∷ xs) (unplaced_all ps cs)

abbrev FirstAt : List PlacedWritten → ℕ → ℕ → Type 0
FirstAt [] n i = ⊥
FirstAt (c ∷ cs) n zero = c.place ≡ n
FirstAt (c ∷ cs) n (suc i) = (c.place ≢ n) × FirstAt cs n i

first_at : (cs : List PlacedWritten) (n i : ℕ) → All (λ c. c.place ≢ n) (take i cs) → IsSomeAnd (slice_get cs i) (λ c. c.place ≡ n) → FirstAt cs n i
first_at [] n i away here = absurd here
first_at (c ∷ cs) n zero away here = here
first_at (c ∷ cs) n (suc i) away here = (away 0 c (omega arith), first_at cs n i (λ k d h. away (suc k) d (omega arith)) here)

module _ (ps : List Place) (apart : AreApart ps) (n : ℕ) (inside : n < length ps) (kind : Kind) (ds : List Datum) where
  other : (c : PlacedWritten) → c.place < length ps → c.place ≢ n → same_place (place_at ps n) (place_at ps c.place) ≡ false
  other c high away = same_place-false _ _ (λ e. away (sym (apart n c.place inside high e)))

  put_first : (cs : List PlacedWritten) (i : ℕ) (c after : PlacedWritten) → AllByRecursion (λ c. c.place < length ps) cs → FirstAt cs n i → c ≡ get_or cs i c
      → after.place ≡ c.place → kind_of_written after.column ≡ kind_of_written c.column → entries_of after.column ≡ entries_of c.column ++ ds
      → map (placed ps) (set cs i after) ≡ put_all (map (use_at (place_at ps n) kind) ds) (map (placed ps) cs)
  put_first [] i c after all first is same_at same_kind more = absurd first
  put_first (x ∷ cs) zero c after all first is same_at same_kind more =
      let here : same_place (place_at ps n) (place_at ps x.place) ≡ true =
      subst (λ j. same_place (place_at ps n) (place_at ps j) ≡ true) (sym first) (same_place-refl (place_at ps n)) in
      let at : after.place ≡ x.place = same_at ∙ ap (λ z. z.place) is in
      let kinds : kind_of_written after.column ≡ kind_of_written x.column = same_kind ∙ ap (λ z. kind_of_written z.column) is in
      let entries : entries_of after.column ≡ entries_of x.column ++ ds = more ∙ ap (λ z. entries_of z.column ++ ds) is in
      rw (at, kinds, entries) (sym (put_all_here (place_at ps n) kind ds (placed ps x) (map (placed ps) cs) here))
  put_first (x ∷ cs) (suc i) c after all first is same_at same_kind more =
      ap (λ xs. placed ps x ∷ xs) (put_first cs i c after all.1 first.1 is same_at same_kind more)
      ∙ sym (put_all_past (place_at ps n) kind ds (placed ps x) (map (placed ps) cs) (other x all.0 first.0))

  put_last : (cs : List PlacedWritten) (c : PlacedWritten) → AllByRecursion (λ c. c.place < length ps) cs → AllByRecursion (λ c. c.place ≢ n) cs
      → c.place ≡ n → kind_of_written c.column ≡ kind → entries_of c.column ≡ ds → 0 < length ds
      → map (placed ps) (cs ++ c ∷ []) ≡ put_all (map (use_at (place_at ps n) kind) ds) (map (placed ps) cs)
  put_last [] c all away at same one some = rw (at, same, one) (sym (put_all_first (place_at ps n) kind ds some))
  put_last (x ∷ cs) c all away at same one some =
      ap (λ xs. placed ps x ∷ xs) (put_last cs c all.1 away.1 at same one some)
      ∙ sym (put_all_past (place_at ps n) kind ds (placed ps x) (map (placed ps) cs) (other x all.0 away.0))

pub put_there : (bs : List Below) (cs : List PlacedWritten) (n i : ℕ) (kind : Kind) (ds : List Datum) (c after : PlacedWritten) → AreApart (places bs)
    → n ≤ length bs → All (λ c. c.place ≤ length bs) cs → All (λ c. c.place ≢ n) (take i cs) → IsSomeAnd (slice_get cs i) (λ c. c.place ≡ n) → c ≡ get_or cs i c
    → after.place ≡ c.place → kind_of_written after.column ≡ kind_of_written c.column → entries_of after.column ≡ entries_of c.column ++ ds
    → map (placed (places bs)) (set cs i after) ≡ put_all (map (use_at (place_at (places bs) n) kind) ds) (map (placed (places bs)) cs)
put_there bs cs n i kind ds c after apart within inside away here is same_at same_kind more =
    put_first (places bs) apart n (inside_places bs n within) kind ds cs i c after (inside_each bs cs inside) (first_at cs n i away here) is same_at same_kind more

pub put_behind : (bs : List Below) (cs more : List PlacedWritten) (n : ℕ) (kind : Kind) (ds : List Datum) (c : PlacedWritten) → AreApart (places bs)
    → n ≤ length bs → All (λ c. c.place ≤ length bs) cs → All (λ c. c.place ≢ n) cs → more ≡ cs ++ c ∷ []
    → c.place ≡ n → kind_of_written c.column ≡ kind → entries_of c.column ≡ ds → 0 < length ds
    → map (placed (places bs)) more ≡ put_all (map (use_at (place_at (places bs) n) kind) ds) (map (placed (places bs)) cs)
put_behind bs cs more n kind ds c apart within inside away e at same one some =
    ap (map (placed (places bs))) e
    ∙ put_last (places bs) apart n (inside_places bs n within) kind ds cs c (inside_each bs cs inside) (all_each _ cs away) at same one some

-- a column of the shape at the place takes entries of the kind that the shape has there
kind_there : (ps : List Place) (cs : List PlacedWritten) (n i : ℕ) (c : PlacedWritten) (root : ShapeTree)
    → AllByRecursion (λ z. HasKindFrom root [] z.place z.kind) (map (placed ps) cs) → IsSomeAnd (slice_get cs i) (λ c. c.place ≡ n) → c ≡ get_or cs i c
    → HasKindFrom root [] (place_at ps n) (kind_of_written c.column)
kind_there ps [] n i c root of_shape here is = absurd here
kind_there ps (x ∷ cs) n zero c root of_shape here is =
    let e : c ≡ x = is in
    subst (λ z. HasKindFrom root [] (place_at ps n) (kind_of_written z.column)) (sym e)
    (subst (λ j. HasKindFrom root [] (place_at ps j) (kind_of_written x.column)) here of_shape.0)
kind_there ps (x ∷ cs) n (suc i) c root of_shape here is = kind_there ps cs n i c root of_shape.1 here is

pub memory_there : (ps : List Place) (cs : List PlacedWritten) (n i : ℕ) (kind : Kind) (c : PlacedWritten) (reason : Reason)
    → IsSomeAnd (slice_get cs i) (λ c. c.place ≡ n) → c ≡ get_or cs i c → (reason ≡ OutOfMemory) ⊎ (kind ≢ kind_of_written c.column)
    → (root : ShapeTree) → AllByRecursion (λ z. HasKindFrom root [] z.place z.kind) (map (placed ps) cs) → HasKindFrom root [] (place_at ps n) kind → reason ≡ OutOfMemory
memory_there ps cs n i kind c reason here is (inl m) root of_shape has = m
memory_there ps cs n i kind c reason here is (inr clash) root of_shape has =
    absurd (clash (one_kind root [] (place_at ps n) kind (kind_of_written c.column) has (kind_there ps cs n i c root of_shape here is)))

pub other_there : (ps : List Place) (cs : List PlacedWritten) (n i : ℕ) (kind : ColumnKind) (c : PlacedWritten) (vs : List Value) (reason : Reason)
    → IsSomeAnd (slice_get cs i) (λ c. c.place ≡ n) → c ≡ get_or cs i c
    → (reason ≡ OutOfMemory) ⊎ ((reason ≡ NotOfTheShape) × HasOther kind vs) ⊎ (kind_of kind ≢ kind_of_written c.column)
    → (root : ShapeTree) → AllByRecursion (λ z. HasKindFrom root [] z.place z.kind) (map (placed ps) cs) → HasKindFrom root [] (place_at ps n) (kind_of kind)
    → (reason ≡ OutOfMemory) ⊎ ((reason ≡ NotOfTheShape) × HasOther kind vs)
other_there ps cs n i kind c vs reason here is (inl m) root of_shape has = inl m
other_there ps cs n i kind c vs reason here is (inr (inl away)) root of_shape has = inr away
other_there ps cs n i kind c vs reason here is (inr (inr clash)) root of_shape has =
    inl (memory_there ps cs n i (kind_of kind) c reason here is (inr clash) root of_shape has)
