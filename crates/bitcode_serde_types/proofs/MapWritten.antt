-- Writing the pairs of a map, one after another.
use Rattle.std.proofs.Common.{◌≡◌, ℕ, zero, suc, ◌+◌, ◌≤◌, ◌<◌, Some, List, [], ◌∷◌, ◌++◌, length, map, drop, slice_get, refl, ap, sym, subst, ◌∙◌, arith}
use Rattle.std.specs.Prelude.{Ok}
use Rattle.std.specs.List.{flat_map}
use Rattle.std.proofs.lemmas.List.Folds.{flat_map-map}
use Rattle.bitcode_memory.specs.declared.error.Reason.{Reason}
use Rattle.bitcode_shapes.specs.Datum.{Datum, first_in, second_in}
use Rattle.bitcode_untyped.specs.ShapeTree.{ShapeTree, map_tree, IsOf}
use Rattle.bitcode_untyped.specs.Walk.{walk}
use Rattle.bitcode_serde.specs.Serializing.{Outcome}
use Rattle.bitcode_serde.specs.Writing.{place_in, Writes, RefusesAt, IsAmong}
use Rattle.bitcode_serde.specs.declared.writer.state.Writer.{Writer}
use Rattle.bitcode_serde.proofs.SerializeLemmas.{listed, among_front, among_back, written_outcome}
use Rattle.bitcode_serde.proofs.WalkLemmas.{EachWritten, among_entry, each_none, each_more, each_all, pair_there, key_refused, value_refused, map_done, map_is}
use Rattle.bitcode_serde_types.specs.DeepFaults.{deep_faults}
use Rattle.bitcode_serde_types.specs.Pairs.{BeginsMap, pair_datum, map_datum}

entry_left : {A : Type 0} (xs : List A) (i : ℕ) (x : A) (rest : List A) → drop i xs ≡ x ∷ rest
    → (slice_get xs i ≡ Some x) × (drop (i + 1) xs ≡ rest) × (i < length xs)
entry_left [] zero x rest e = absurd cc
entry_left [] (suc i) x rest e = absurd cc
entry_left (y ∷ ys) zero x rest e = let same : y ≡ x = cc in let tail : ys ≡ rest = cc in (ap (λ z. Some z) same, tail, omega arith)
entry_left (y ∷ ys) (suc i) x rest e =
    let r = entry_left ys i x rest e in
    let further : suc i + 1 ≡ suc (i + 1) = omega arith in
    let lt = r.2 in
    (r.0, ap (λ n. drop n (y ∷ ys)) further ∙ r.1, omega (arith, lt))

none_left : {A : Type 0} (xs : List A) (i : ℕ) → drop i xs ≡ [] → length xs ≤ i
none_left [] i e = omega arith
none_left (y ∷ ys) zero e = absurd cc
none_left (y ∷ ys) (suc i) e = let le = none_left ys i e in omega (arith, le)

none_dropped : {A : Type 0} (xs : List A) → drop 0 xs ≡ xs
none_dropped [] = refl
none_dropped (x ∷ xs) = refl

module _ {K V : Type 0} (f : K → Datum) (g : V → Datum) (k v : ShapeTree) (xs : List (K × V)) where
  abbrev faults_in : K × V → List Reason
  faults_in e = deep_faults k (f e.0) ++ deep_faults v (g e.1)

  map_faults : deep_faults (map_tree k v) (map_datum f g xs) ≡ flat_map faults_in xs
  map_faults =
      let each : Datum → List Reason = λ e. deep_faults k (first_in e) ++ deep_faults v (second_in e) in
      ap (flat_map each) (listed (map (pair_datum f g) xs)) ∙ flat_map-map each (pair_datum f g) xs

  module _ (old start : Writer) (n keys values : ℕ) where
    -- the pairs before those that are left were written
    pub record PairsWritten (left : List (K × V)) (now : Writer) : Type 0 where
      pub begins : BeginsMap old start n (length xs) keys values
      pub count : ℕ
      pub behind : drop count xs ≡ left
      pub within : count ≤ length xs
      pub each :
          EachWritten (λ e. walk k (place_in start keys) (f e.0) ++ walk v (place_in start values) (g e.1)) (λ e. IsOf k (f e.0) × IsOf v (g e.1)) faults_in xs start
          count now

    pub none_written : (left : List (K × V)) → left ≡ xs → BeginsMap old start n (length xs) keys values → PairsWritten left start
    none_written left all b = record {
      begins = b;
      count = 0;
      behind = none_dropped xs ∙ sym all;
      within = omega arith;
      each = each_none (λ e. walk k (place_in start keys) (f e.0) ++ walk v (place_in start values) (g e.1)) (λ e. IsOf k (f e.0) × IsOf v (g e.1)) faults_in xs start;
    }

    module _ (left : List (K × V)) (now : Writer) (so_far : PairsWritten left now) where
      pub keys_place : keys ≤ length now.places.below.items
      keys_place = let h = so_far.begins.keys_there in let g = so_far.each.written.grows.size in omega (arith, h, g)

      pub values_place : values ≤ length now.places.below.items
      values_place = let h = so_far.begins.values_there in let g = so_far.each.written.grows.size in omega (arith, h, g)

      module _ (x : K) (y : V) (rest : List (K × V)) (is : left ≡ (x, y) ∷ rest) where
        pub pair_written : (next new : Writer) → Writes now (walk k (place_in now keys) (f x)) next → IsOf k (f x) → deep_faults k (f x) ≡ []
            → Writes next (walk v (place_in next values) (g y)) new → IsOf v (g y) → deep_faults v (g y) ≡ [] → PairsWritten rest new
        pair_written next new one is_key whole_key two is_value whole_value =
            let e = entry_left xs so_far.count (x, y) rest (so_far.behind ∙ is) in
            let lt = e.2 in
            record {
              begins = so_far.begins;
              count = so_far.count + 1;
              behind = e.1;
              within = omega (arith, lt);
              each = each_more (λ e. walk k (place_in start keys) (f e.0) ++ walk v (place_in start values) (g e.1)) (λ e. IsOf k (f e.0) × IsOf v (g e.1)) faults_in xs
                  start so_far.count (x, y) now new e.0 so_far.each
                  (pair_there start now next new k v keys values (f x) (g y) so_far.each.written.grows so_far.begins.keys_there so_far.begins.values_there one two)
                  (is_key, is_value) (ap (λ rs. rs ++ deep_faults v (g y)) whole_key ∙ whole_value);
            }

        among : (reason : Reason) → IsAmong reason (faults_in (x, y)) → IsAmong reason (deep_faults (map_tree k v) (map_datum f g xs))
        among reason a =
            subst (IsAmong reason) (sym map_faults)
            (among_entry reason faults_in xs so_far.count (x, y) (entry_left xs so_far.count (x, y) rest (so_far.behind ∙ is)).0 a)

        pub key_not_written : (reason : Reason) → RefusesAt now k keys (deep_faults k (f x)) reason
            → RefusesAt old (map_tree k v) n (deep_faults (map_tree k v) (map_datum f g xs)) reason
        key_not_written reason refused =
            let b = so_far.begins in
            key_refused k v (λ e. f e.0) (λ e. g e.1) xs old start now n keys values (length xs) so_far.count _ (deep_faults k (f x)) reason b.written b.at_keys
            b.at_values b.keys_there so_far.each.written (λ a. among reason (among_front reason (deep_faults k (f x)) (deep_faults v (g y)) a)) refused

        pub value_not_written : (next : Writer) (reason : Reason) → Writes now (walk k (place_in now keys) (f x)) next
            → RefusesAt next v values (deep_faults v (g y)) reason → RefusesAt old (map_tree k v) n (deep_faults (map_tree k v) (map_datum f g xs)) reason
        value_not_written next reason one refused =
            let b = so_far.begins in
            value_refused k v (λ e. f e.0) (λ e. g e.1) xs old start now next n keys values (length xs) so_far.count (f x) _ (deep_faults v (g y)) reason b.written
            b.at_keys b.at_values b.keys_there b.values_there so_far.each.written one
            (λ a. among reason (among_back reason (deep_faults k (f x)) (deep_faults v (g y)) a)) refused

      pub all_written : {A : Type 0} (a : A) → left ≡ []
          → Outcome old (map_tree k v) n (map_datum f g xs) (deep_faults (map_tree k v) (map_datum f g xs)) (Ok a) now
      all_written a none =
          let b = so_far.begins in
          let all = each_all (λ e. walk k (place_in start keys) (f e.0) ++ walk v (place_in start values) (g e.1)) (λ e. IsOf k (f e.0) × IsOf v (g e.1)) faults_in xs
          start so_far.count now (none_left xs so_far.count (so_far.behind ∙ none)) so_far.within so_far.each in
          written_outcome old (map_tree k v) n _ _ a now
          (map_done k v (λ e. f e.0) (λ e. g e.1) xs old start now n keys values b.written b.at_keys b.at_values all.0)
          (map_is k v (λ e. f e.0) (λ e. g e.1) xs all.1) (map_faults ∙ all.2)
