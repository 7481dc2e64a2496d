-- The pairs of a map, one after another.
use Rattle.std.proofs.Common.{◌≡◌, ℕ, ◌+◌, ◌≤◌, ◌<◌, inl, inr, false, List, [], ◌∷◌, ◌++◌, length, map, refl, ap, sym, subst, ◌∙◌}
use Rattle.bitcode_memory.specs.declared.error.Reason.{Reason}
use Rattle.bitcode_memory.specs.declared.error.Reason.TheVariants.{OutOfMemory}
use Rattle.bitcode_shapes.specs.Datum.{Datum, list, pair, data_of}
use Rattle.bitcode_untyped.specs.Bounds.{column_free}
use Rattle.bitcode_untyped.specs.Nodes.{node_count, node_counts}
use Rattle.bitcode_untyped.specs.ShapeTree.{ShapeTree, map_tree}
use Rattle.bitcode_serde.specs.Budget.{spend, IsLeft}
use Rattle.bitcode_serde.specs.ReadingValues.{IsSteady, Continues}
use Rattle.bitcode_serde.specs.declared.budget.Budget.{Budget}
use Rattle.bitcode_serde.specs.declared.reader.Reader.{Reader}
use Rattle.bitcode_serde.proofs.BudgetLemmas.{spend-then, left_before, pair_taken}
use Rattle.bitcode_serde.proofs.ValueLemmas.{EntersMap, ReadsPairsAt, asked_alike, still_there, continues_on, one_more_pair, key_stuck, value_stuck, map_read_at, map_stuck_at}
use Rattle.bitcode_serde_types.specs.Pairs.{ReadsPairsAs, pair_datum, map_datum}
use Rattle.bitcode_serde_types.specs.ReadingAs.{KeepsEachAs, ReadsAs}
use Rattle.bitcode_serde_types.specs.Refusals.{IsReasonOf, IsRefusalAt}
use Rattle.bitcode_serde_types.specs.Restates.{Restates, SameKey, KeepsAll, AreEntriesOf}
use Rattle.bitcode_serde_types.proofs.KeptLemmas.{keeps_more_as}
use Rattle.bitcode_serde_types.proofs.RefusalLemmas.{reason_up}
use Rattle.bitcode_serde_types.proofs.RestatesLemmas.{kept_whole}

module _ {K V : Type 0} (f : K → Datum) (g : V → Datum) (k v : ShapeTree) (keys values : ℕ) where
  -- so many pairs were read
  abbrev pub PairsKept : Reader → Budget → ℕ → List (K × V) → Reader → Budget → Type 0
  PairsKept old before i xs mid between =
      Continues old mid × KeepsEachAs (SameKey (Restates v)) (pair_datum f g) (λ ds. ReadsPairsAt k v keys values old i ds mid) before xs between

  pub no_pairs : (r : Reader) (b : Budget) → IsSteady r → PairsKept r b 0 [] r b
  no_pairs r b steady = (
    record { steady = steady; asked = asked_alike r; kept = λ i p at. at },
    record { listing = []; read = λ p at_key at_value a st. (a, st, record { size = refl; each = tt; runs = refl }); taken = refl; same = λ left. tt },
  )

  module _ (old mid : Reader) (before between : Budget) (i : ℕ) (xs : List (K × V)) (so_far : PairsKept old before i xs mid between) where
    pub pairs_more : KeepsAll k → (next new : Reader) (first_left value_left after : Budget) (ys : List (K × V)) (x : K) (y : V) → first_left ≡ spend 1 between
        → Continues mid next → ReadsAs f k keys mid first_left x next value_left → Continues next new → ReadsAs g v values next value_left y new after
        → (IsLeft after → ys ≡ xs ++ (x, y) ∷ []) → PairsKept old before (i + 1) ys new after
    pairs_more plain next new first_left value_left after ys x y taken c first d second pushed =
        let before_value : IsLeft after → IsLeft value_left = λ left. left_before (node_count second.datum) value_left (subst IsLeft second.taken left) in (
          continues_on old mid new so_far.0 (continues_on mid next new c d),
          keeps_more_as (SameKey (Restates v)) (pair_datum f g) _ _ before between after xs ys (x, y) (pair first.datum second.datum) so_far.1
              (one_more_pair k v keys values old mid i so_far.1.listing so_far.0 so_far.1.read next new first.datum second.datum c first.read second.read)
              (pair_taken between first_left value_left after first.datum second.datum taken first.taken second.taken)
              (λ left. (
                first.datum,
                second.datum,
                g y,
                refl,
                ap (λ z. pair z (g y)) (kept_whole k plain first.datum (f x) (first.same (before_value left))),
                second.same left,
              ))
              pushed,
        )

    pub keys_there : keys ≤ length old.places.below.items → keys ≤ length mid.places.below.items
    keys_there h = still_there old mid keys so_far.0 h

    pub values_there : values ≤ length old.places.below.items → values ≤ length mid.places.below.items
    values_there h = still_there old mid values so_far.0 h

    -- the map stands at a place, from where its length was taken
    module _ (start : Reader) (place n : ℕ) (enters : EntersMap start old place keys values n) (why : Reason) where
      pub key_not_kept : i < n → IsRefusalAt k keys mid why → IsRefusalAt (map_tree k v) place start why
      key_not_kept lt h = (
        reason_up k (map_tree k v) why inl h.0,
        λ other. map_stuck_at k v start old place keys values n enters
            (key_stuck k v keys values old mid i so_far.1.listing so_far.0 so_far.1.read n lt (h.1 other)),
      )

      pub value_not_kept : (next : Reader) (first_left value_left : Budget) (x : K) → i < n → Continues mid next → ReadsAs f k keys mid first_left x next value_left
          → IsRefusalAt v values next why → IsRefusalAt (map_tree k v) place start why
      value_not_kept next first_left value_left x lt c first h = (
        reason_up v (map_tree k v) why inr h.0,
        λ other. map_stuck_at k v start old place keys values n enters
            (value_stuck k v keys values old mid i so_far.1.listing so_far.0 so_far.1.read n next first.datum lt c first.read (h.1 other)),
      )

    pub pairs_kept : (start : Reader) (place n : ℕ) (first : Budget) → EntersMap start old place keys values n → column_free k ≡ false → i ≡ n
        → before ≡ spend 1 first → ReadsPairsAs f g k v place start first xs mid between
    pairs_kept start place n first enters column all taken = record {
      listing = so_far.1.listing;
      read = map_read_at k v start old mid place keys values n so_far.1.listing enters (λ free. absurd cc)
          (subst (λ j. ReadsPairsAt k v keys values old j so_far.1.listing mid) all so_far.1.read);
      taken = so_far.1.taken ∙ ap (spend (node_counts (data_of so_far.1.listing))) taken;
      same = so_far.1.same;
    }

-- want of memory
pub no_memory : (s : ShapeTree) (place : ℕ) (old : Reader) (why : Reason) → why ≡ OutOfMemory → IsRefusalAt s place old why
no_memory s place old why e = (subst (IsReasonOf s) (sym e) tt, λ other. absurd (other e))

-- the map has the entries of the pairs
pub map_kept : {K V M : Type 0} (f : K → Datum) (g : V → Datum) (h : M → Datum) (k v : ShapeTree) (place : ℕ) (old new : Reader) (before after : Budget)
    (pairs entries : List (K × V)) (m : M) → h m ≡ map_datum f g entries → AreEntriesOf (map (pair_datum f g) pairs) (map (pair_datum f g) entries)
    → ReadsPairsAs f g k v place old before pairs new after → ReadsAs h (map_tree k v) place old before m new after
map_kept f g h k v place old new before after pairs entries m is are r = record {
  datum = list (data_of r.listing);
  read = r.read;
  taken = r.taken ∙ spend-then 1 (node_counts (data_of r.listing)) before;
  same = λ left. (r.listing, map (pair_datum f g) pairs, map (pair_datum f g) entries, refl, is, r.same left, are);
}

pairs_mapped : {K V : Type 0} (f : K → Datum) (g : V → Datum) (es : List (K × V))
    → map (pair_datum f (λ d. d)) (map (λ e. (e.0, g e.1)) es) ≡ map (pair_datum f g) es
pairs_mapped f g [] = refl
pairs_mapped f g (e ∷ es) = ap (λ ps. pair_datum f g e ∷ ps) (pairs_mapped f g es)

-- the content of a map is that of its entries, with the content of each value in its place
pub entries_mapped : {K V : Type 0} (f : K → Datum) (g : V → Datum) (es : List (K × V))
    → map_datum f (λ d. d) (map (λ e. (e.0, g e.1)) es) ≡ map_datum f g es
entries_mapped f g es = ap (λ ps. list (data_of ps)) (pairs_mapped f g es)
