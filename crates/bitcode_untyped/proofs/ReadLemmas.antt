-- The steps of a reader: what is read of a shape from what is read of its parts, and that nothing is where a part is not.
use Rattle.std.proofs.Common.{◌≡◌, ℕ, zero, suc, ◌+◌, ◌<◌, ◌≤◌, List, [], ◌∷◌, ◌++◌, length, flat_map, refl, ap, sym, ◌∙◌, subst, true, arith, length-append, append_assoc}
use Rattle.std.proofs.lemmas.Grind.{flat_map-append}
use Rattle.std.proofs.lemmas.List.{append-nil}
use Rattle.bitcode_shapes.specs.Datum.{Datum, Data, unit, list, tuple, choice, no_data, datum_and, data_of, list_of, pair, number_in, elements_in, fields_in, first_in, second_in, variant_in, payload_in}
use Rattle.bitcode_shapes.specs.Shape.{Allowed, IsAllowed}
use Rattle.bitcode_coder.specs.Columns.{Kind}
use Rattle.bitcode_coder.specs.Spelling.{natural}
use Rattle.bitcode_coder.specs.Transposition.{length_entry, variant_entry}
use Rattle.bitcode_untyped.specs.Bounds.{column_free, free_limit, IsLimited, IsLimitedVariant}
use Rattle.bitcode_untyped.specs.Machine.{State, start, Takes}
use Rattle.bitcode_untyped.specs.Reads.{ReadsOne, ReadsMany, IsReadable, ReadsDatum, ReadsNoDatum, ReadsElements, IsReadablePair, pair_walk, ReadsPair, ReadsPairs, ReadsFields, ReadsNoFields}
use Rattle.bitcode_untyped.specs.Runs.{Runs}
use Rattle.bitcode_untyped.specs.ShapeTree.{Note, ShapeTree, unit_tree, never_tree, leaf_tree, seq_tree, map_tree, tuple_tree, choice_tree, noted_tree, ShapeTrees, no_trees, tree_and, tree_at, IsList, IsPair, IsAdmitted, greatest_index, IsOf, IsOfVariant}
use Rattle.bitcode_untyped.specs.Spelling.{SpellsDatum}
use Rattle.bitcode_untyped.specs.Walk.{element, key, value, variant, Place, Use, use_at, length_kind, index_kind, field_place, walk, walk_fields, walk_variant}
use Rattle.bitcode_untyped.proofs.DatumLemmas.{pair_by_parts}
use Rattle.bitcode_untyped.proofs.EachLemmas.{each_if, each_append, each_both}
use Rattle.bitcode_untyped.proofs.OneRunLemmas.{OneRun, runs-append, one_run_then, one_run}
use Rattle.bitcode_untyped.proofs.HostLemmas.{walk_variant_at}
use Rattle.bitcode_untyped.proofs.OnceLemmas.{takes_one}
use Rattle.bitcode_untyped.proofs.LawLemmas.{run_spells, spelled_runs}

pub list_of-data_of : (ds : List Datum) → list_of (data_of ds) ≡ ds
list_of-data_of [] = refl
list_of-data_of (d ∷ ds) = ap (λ (xs : List Datum). d ∷ xs) (list_of-data_of ds)

pub data_of-list_of : (ds : Data) → data_of (list_of ds) ≡ ds
data_of-list_of no_data = refl
data_of-list_of (datum_and d ds) = ap (datum_and d) (data_of-list_of ds)

pub runs_on : (v w : List Use) (a b c : State) → Runs Takes a v b → Runs Takes b w c → Runs Takes a (v ++ w) c
runs_on [] w a b c r s = subst (λ z. Runs Takes z w c) (sym r) s
runs_on (u ∷ v) w a b c r s = (r.0, r.1, runs_on v w r.0 b c r.2 s)

-- ---- several, one after another

module _ {A : Type 0} (P : A → Type 0) (uses : A → List Use) where
  pub many_push : (a b c : State) (n : ℕ) (xs : List A) (x : A) → ReadsMany P uses a n xs b → ReadsOne P uses b x c
      → ReadsMany P uses a (n + 1) (xs ++ x ∷ []) c
  many_push a b c n xs x r h = record {
    size = omega (arith, length-append xs (x ∷ []), r.size);
    each = each_append P xs (x ∷ []) r.each (h.is, tt);
    runs = rw (flat_map-append uses xs (x ∷ [])) (runs_on (flat_map uses xs) _ a b c r.runs (rw append-nil h.runs));
  }

  -- After some were read, all of them are not unless the next is.
  pub many_stuck : OneRun Takes P uses → (a b : State) (i n : ℕ) (xs : List A) → ReadsMany P uses a i xs b
      → ((x : A) (c : State) → ReadsOne P uses b x c → ⊥) → i < n → (ys : List A) (c : State) → ReadsMany P uses a n ys c → ⊥
  many_stuck one a b i n [] r stuck lt [] c q = omega (arith, r.size, q.size)
  many_stuck one a b i n [] r stuck lt (y ∷ ys) c q =
      let w = runs-append Takes takes_one (uses y) (flat_map uses ys) a c q.runs in
      stuck y w.0 (record { is = q.each.0; runs = subst (λ z. Runs Takes z (uses y) w.0) r.runs w.1 })
  many_stuck one a b i n (x ∷ xs) r stuck lt [] c q = omega (arith, r.size, q.size)
  many_stuck one a b i n (x ∷ xs) r stuck lt (y ∷ ys) c q =
      let v = runs-append Takes takes_one (uses x) (flat_map uses xs) a b r.runs in
      let w = runs-append Takes takes_one (uses y) (flat_map uses ys) a c q.runs in
      let h = one x y a v.0 w.0 r.each.0 q.each.0 v.1 w.1 in
      let l : suc (length xs) ≡ i = r.size in
      let m : suc (length ys) ≡ n = q.size in
      many_stuck one v.0 b (length xs) (length ys) xs (record { size = refl; each = r.each.1; runs = v.2 }) stuck (omega arith) ys c
      (record { size = refl; each = q.each.1; runs = subst (λ z. Runs Takes z (flat_map uses ys) c) (sym h.1) w.2 })

-- ---- at most one is read

pub one_datum_read : (s : ShapeTree) (p : Place) → OneRun Takes (IsReadable s) (walk s p)
one_datum_read s p x y a b c h k r t = one_run Takes takes_one s p x y a b c h.0 k.0 r t

pub one_pair_read : (k v : ShapeTree) (p : Place) → OneRun Takes (IsReadablePair k v) (pair_walk k v p)
one_pair_read k v p d e a b c h i r t =
    let q = one_run_then Takes takes_one (IsOf k) (IsOf v) (walk k (key ∷ p)) (walk v (value ∷ p)) (one_run Takes takes_one k (key ∷ p))
    (one_run Takes takes_one v (value ∷ p)) first_in second_in d e a b c h.0.1 h.0.2 i.0.1 i.0.2 r t in
    (pair_by_parts d e h.0.0 i.0.0 q.0 q.1, q.2)

-- ---- units and leaves

pub unit_read : (p : Place) (a : State) → ReadsDatum unit_tree p a unit a
unit_read p a = record { is = (refl, tt); runs = refl }

pub never_read : (p : Place) (a : State) → ReadsNoDatum never_tree p a
never_read p a d b r = r.is.0

module _ (k : Kind) (allowed : Allowed) (p : Place) (a : State) where
  pub leaf_stuck : ((d : Datum) (b : State) → Takes a (use_at p k d) b → ⊥) → ReadsNoDatum (leaf_tree k allowed) p a
  leaf_stuck stuck d b r = stuck d r.runs.0 r.runs.1

  -- the entry is not allowed
  pub leaf_refused : (e : Datum) (b : State) → Takes a (use_at p k e) b → (IsAllowed allowed (number_in e) → ⊥) → ReadsNoDatum (leaf_tree k allowed) p a
  leaf_refused e b t bad d c r =
      let h = takes_one a b r.runs.0 p k e d t r.runs.1 in
      bad (subst (λ x. IsAllowed allowed (number_in x)) (sym h.0) r.is.0.1)

-- ---- lists

module _ (s : ShapeTree) (p : Place) (a : State) where
  pub seq_stuck_length : ((e : Datum) (b : State) → Takes a (use_at p length_kind e) b → ⊥) → ReadsNoDatum (seq_tree s) p a
  seq_stuck_length stuck d c r = stuck (length_entry d) r.runs.0 r.runs.1

  module _ (n : ℕ) (b : State) (taken : Takes a (use_at p length_kind (natural n)) b) where
    seq_read_as : (d : Datum) (c : State) → IsList d → (column_free s ≡ true → n ≤ free_limit) → ReadsElements s p b n (elements_in d) c
        → ReadsDatum (seq_tree s) p a d c
    seq_read_as d c l few r = record {
      is = (
        (l, each_if (IsReadable s) (IsOf s) (λ x h. h.0) (elements_in d) r.each),
        (
          λ free. subst (λ m. m ≤ free_limit) (sym r.size) (few free),
          each_if (IsReadable s) (IsLimited s) (λ x h. h.1) (elements_in d) r.each,
        ),
      );
      runs = (b, subst (λ m. Takes a (use_at p length_kind (natural m)) b) (sym r.size) taken, r.runs);
    }

    pub seq_read : (ds : List Datum) (c : State) → (column_free s ≡ true → n ≤ free_limit) → ReadsElements s p b n ds c
        → ReadsDatum (seq_tree s) p a (list (data_of ds)) c
    seq_read ds c few r =
        let e = list_of-data_of ds in
        seq_read_as (list (data_of ds)) c (ap (λ xs. list (data_of xs)) (sym e)) few (subst (λ xs. ReadsElements s p b n xs c) (sym e) r)

    seq_inside : (d : Datum) (c : State) → ReadsDatum (seq_tree s) p a d c → (n ≡ length (elements_in d)) × ReadsElements s p b n (elements_in d) c
    seq_inside d c r =
        let h = takes_one a b r.runs.0 p length_kind (natural n) (length_entry d) taken r.runs.1 in
        let e : n ≡ length (elements_in d) = cc in (
          e,
          record {
            size = sym e;
            each = each_both (IsOf s) (IsLimited s) (elements_in d) r.is.0.1 r.is.1.1;
            runs = subst (λ z. Runs Takes z (flat_map (walk s (element ∷ p)) (elements_in d)) c) (sym h.1) r.runs.2;
          },
        )

    pub seq_over_limit : column_free s ≡ true → free_limit < n → ReadsNoDatum (seq_tree s) p a
    seq_over_limit free many d c r =
        let e = (seq_inside d c r).0 in
        let few = r.is.1.0 free in
        omega (arith, e, few, many)

    pub seq_stuck : ((ds : List Datum) (c : State) → ReadsElements s p b n ds c → ⊥) → ReadsNoDatum (seq_tree s) p a
    seq_stuck stuck d c r = stuck (elements_in d) c (seq_inside d c r).1

-- ---- maps

module _ (k v : ShapeTree) (p : Place) (a : State) where
  pub pair_read : (x y : Datum) (b c : State) → ReadsDatum k (key ∷ p) a x b → ReadsDatum v (value ∷ p) b y c → ReadsPair k v p a (pair x y) c
  pair_read x y b c r t = record {
    is = ((refl, r.is.0, t.is.0), (r.is.1, t.is.1));
    runs = runs_on (walk k (key ∷ p) x) (walk v (value ∷ p) y) a b c r.runs t.runs;
  }

  pub pair_stuck_key : ReadsNoDatum k (key ∷ p) a → (e : Datum) (c : State) → ReadsPair k v p a e c → ⊥
  pair_stuck_key stuck e c r =
      let w = runs-append Takes takes_one (walk k (key ∷ p) (first_in e)) (walk v (value ∷ p) (second_in e)) a c r.runs in
      stuck (first_in e) w.0 (record { is = (r.is.0.1, r.is.1.0); runs = w.1 })

  pub pair_stuck_value : (x : Datum) (b : State) → ReadsDatum k (key ∷ p) a x b → ReadsNoDatum v (value ∷ p) b → (e : Datum) (c : State)
      → ReadsPair k v p a e c → ⊥
  pair_stuck_value x b t stuck e c r =
      let w = runs-append Takes takes_one (walk k (key ∷ p) (first_in e)) (walk v (value ∷ p) (second_in e)) a c r.runs in
      let h = one_datum_read k (key ∷ p) x (first_in e) a b w.0 t.is (r.is.0.1, r.is.1.0) t.runs w.1 in
      stuck (second_in e) c (record { is = (r.is.0.2, r.is.1.1); runs = subst (λ z. Runs Takes z (walk v (value ∷ p) (second_in e)) c) (sym h.1) w.2 })

  pub map_stuck_length : ((e : Datum) (b : State) → Takes a (use_at p length_kind e) b → ⊥) → ReadsNoDatum (map_tree k v) p a
  map_stuck_length stuck d c r = stuck (length_entry d) r.runs.0 r.runs.1

  module _ (n : ℕ) (b : State) (taken : Takes a (use_at p length_kind (natural n)) b) where
    abbrev AreWithin : Datum → Type 0
    AreWithin e = IsLimited k (first_in e) × IsLimited v (second_in e)

    map_read_as : (d : Datum) (c : State) → IsList d → (column_free k ≡ true → n ≤ free_limit) → ReadsPairs k v p b n (elements_in d) c
        → ReadsDatum (map_tree k v) p a d c
    map_read_as d c l few r = record {
      is = (
        (l, each_if (IsReadablePair k v) (IsPair (IsOf k) (IsOf v)) (λ x h. h.0) (elements_in d) r.each),
        (
          λ free. subst (λ m. m ≤ free_limit) (sym r.size) (few free),
          each_if (IsReadablePair k v) AreWithin (λ x h. h.1) (elements_in d) r.each,
        ),
      );
      runs = (b, subst (λ m. Takes a (use_at p length_kind (natural m)) b) (sym r.size) taken, r.runs);
    }

    pub map_read : (ds : List Datum) (c : State) → (column_free k ≡ true → n ≤ free_limit) → ReadsPairs k v p b n ds c
        → ReadsDatum (map_tree k v) p a (list (data_of ds)) c
    map_read ds c few r =
        let e = list_of-data_of ds in
        map_read_as (list (data_of ds)) c (ap (λ xs. list (data_of xs)) (sym e)) few (subst (λ xs. ReadsPairs k v p b n xs c) (sym e) r)

    map_inside : (d : Datum) (c : State) → ReadsDatum (map_tree k v) p a d c → (n ≡ length (elements_in d)) × ReadsPairs k v p b n (elements_in d) c
    map_inside d c r =
        let h = takes_one a b r.runs.0 p length_kind (natural n) (length_entry d) taken r.runs.1 in
        let e : n ≡ length (elements_in d) = cc in (
          e,
          record {
            size = sym e;
            each = each_both (IsPair (IsOf k) (IsOf v)) AreWithin (elements_in d) r.is.0.1 r.is.1.1;
            runs = subst (λ z. Runs Takes z (flat_map (pair_walk k v p) (elements_in d)) c) (sym h.1) r.runs.2;
          },
        )

    pub map_over_limit : column_free k ≡ true → free_limit < n → ReadsNoDatum (map_tree k v) p a
    map_over_limit free many d c r =
        let e = (map_inside d c r).0 in
        let few = r.is.1.0 free in
        omega (arith, e, few, many)

    pub map_stuck : ((ds : List Datum) (c : State) → ReadsPairs k v p b n ds c → ⊥) → ReadsNoDatum (map_tree k v) p a
    map_stuck stuck d c r = stuck (elements_in d) c (map_inside d c r).1

-- ---- tuples

module _ (ss : ShapeTrees) (p : Place) (a : State) where
  pub tuple_read : (ds : Data) (b : State) → ReadsFields ss (field_place ss p) 0 a ds b → ReadsDatum (tuple_tree ss) p a (tuple ds) b
  tuple_read ds b r = record { is = ((refl, r.is.0), r.is.1); runs = r.runs }

  pub tuple_stuck : ReadsNoFields ss (field_place ss p) 0 a → ReadsNoDatum (tuple_tree ss) p a
  tuple_stuck stuck d b r = stuck (fields_in d) b (record { is = (r.is.0.1, r.is.1); runs = r.runs })

module _ (at : ℕ → Place) where
  pub fields_none : (i : ℕ) (a : State) → ReadsFields no_trees at i a no_data a
  fields_none i a = record { is = (tt, tt); runs = refl }

  pub fields_and : (s : ShapeTree) (ss : ShapeTrees) (i : ℕ) (a b c : State) (d : Datum) (ds : Data) → ReadsDatum s (at i) a d b
      → ReadsFields ss at (i + 1) b ds c → ReadsFields (tree_and s ss) at i a (datum_and d ds) c
  fields_and s ss i a b c d ds r t = record {
    is = ((r.is.0, t.is.0), (r.is.1, t.is.1));
    runs = runs_on (walk s (at i) d) (walk_fields ss at (i + 1) ds) a b c r.runs t.runs;
  }

  pub fields_stuck_first : (s : ShapeTree) (ss : ShapeTrees) (i : ℕ) (a : State) → ReadsNoDatum s (at i) a → ReadsNoFields (tree_and s ss) at i a
  fields_stuck_first s ss i a stuck no_data c r = r.is.0
  fields_stuck_first s ss i a stuck (datum_and d ds) c r =
      let w = runs-append Takes takes_one (walk s (at i) d) (walk_fields ss at (i + 1) ds) a c r.runs in
      stuck d w.0 (record { is = (r.is.0.0, r.is.1.0); runs = w.1 })

  pub fields_stuck_rest : (s : ShapeTree) (ss : ShapeTrees) (i : ℕ) (a b : State) (d : Datum) → ReadsDatum s (at i) a d b
      → ReadsNoFields ss at (i + 1) b → ReadsNoFields (tree_and s ss) at i a
  fields_stuck_rest s ss i a b d t stuck no_data c r = r.is.0
  fields_stuck_rest s ss i a b d t stuck (datum_and e es) c r =
      let w = runs-append Takes takes_one (walk s (at i) e) (walk_fields ss at (i + 1) es) a c r.runs in
      let h = one_datum_read s (at i) d e a b w.0 t.is (r.is.0.0, r.is.1.0) t.runs w.1 in
      stuck es c (record { is = (r.is.0.1, r.is.1.1); runs = subst (λ z. Runs Takes z (walk_fields ss at (i + 1) es) c) (sym h.1) w.2 })

  -- How a loop over fields stands: some are read, and the others from the i-th on are left.
  pub record FieldsSoFar (all : ShapeTrees) (a : State) (done : List Datum) (left : ShapeTrees) (i : ℕ) (b : State) : Type 0 where
    pub read : (ds : Data) (c : State) → ReadsFields left at i b ds c → ReadsFields all at 0 a (data_of (done ++ list_of ds)) c
    pub stuck : ReadsNoFields left at i b → ReadsNoFields all at 0 a

  pub no_fields_yet : (all : ShapeTrees) (a : State) → FieldsSoFar all a [] all 0 a
  no_fields_yet all a = record {
    read = λ ds c r. subst (λ xs. ReadsFields all at 0 a xs c) (sym (data_of-list_of ds)) r;
    stuck = λ none. none;
  }

  pub one_field_more : (all : ShapeTrees) (a b c : State) (done : List Datum) (s : ShapeTree) (left : ShapeTrees) (i : ℕ) (d : Datum)
      → FieldsSoFar all a done (tree_and s left) i b → ReadsDatum s (at i) b d c → FieldsSoFar all a (done ++ d ∷ []) left (i + 1) c
  one_field_more all a b c done s left i d so_far r = record {
    read = λ ds e t. subst (λ xs. ReadsFields all at 0 a (data_of xs) e) (sym (append_assoc done (d ∷ []) (list_of ds)))
        (so_far.read (datum_and d ds) e (fields_and s left i b c e d ds r t));
    stuck = λ none. so_far.stuck (fields_stuck_rest s left i b c d r none);
  }

  pub all_fields : (all : ShapeTrees) (a b : State) (done : List Datum) (i : ℕ) → FieldsSoFar all a done no_trees i b
      → ReadsFields all at 0 a (data_of done) b
  all_fields all a b done i so_far =
      subst (λ xs. ReadsFields all at 0 a (data_of xs) b) (append-nil done) (so_far.read no_data b (fields_none i b))

-- ---- choices

pub IsOfVariant-tree_at : (ss : ShapeTrees) (i : ℕ) (d : Datum) → IsOfVariant ss i d ≡ IsOf (tree_at ss i) d
IsOfVariant-tree_at no_trees i d = refl
IsOfVariant-tree_at (tree_and s ss) zero d = refl
IsOfVariant-tree_at (tree_and s ss) (suc i) d = IsOfVariant-tree_at ss i d

pub IsLimitedVariant-tree_at : (ss : ShapeTrees) (i : ℕ) (d : Datum) → IsLimitedVariant ss i d ≡ IsLimited (tree_at ss i) d
IsLimitedVariant-tree_at no_trees i d = refl
IsLimitedVariant-tree_at (tree_and s ss) zero d = refl
IsLimitedVariant-tree_at (tree_and s ss) (suc i) d = IsLimitedVariant-tree_at ss i d

module _ (ss : ShapeTrees) (p : Place) (a : State) where
  pub choice_stuck_index : ((e : Datum) (b : State) → Takes a (use_at p index_kind e) b → ⊥) → ReadsNoDatum (choice_tree ss) p a
  choice_stuck_index stuck d c r = stuck (variant_entry d) r.runs.0 r.runs.1

  module _ (i : ℕ) (b : State) (taken : Takes a (use_at p index_kind (natural i)) b) where
    pub choice_read : (d : Datum) (c : State) → i ≤ greatest_index → ReadsDatum (tree_at ss i) (variant i ∷ p) b d c
        → ReadsDatum (choice_tree ss) p a (choice i d) c
    choice_read d c small r = record {
      is = (
        (refl, small, subst (λ (X : Type 0). X) (sym (IsOfVariant-tree_at ss i d)) r.is.0),
        subst (λ (X : Type 0). X) (sym (IsLimitedVariant-tree_at ss i d)) r.is.1,
      );
      runs = (b, taken, subst (λ w. Runs Takes b w c) (sym (walk_variant_at ss i (variant i ∷ p) d)) r.runs);
    }

    pub choice_stuck : ReadsNoDatum (tree_at ss i) (variant i ∷ p) b → ReadsNoDatum (choice_tree ss) p a
    choice_stuck stuck d c r =
        let h = takes_one a b r.runs.0 p index_kind (natural i) (variant_entry d) taken r.runs.1 in
        let e : i ≡ variant_in d = cc in
        let of : IsOfVariant ss i (payload_in d) = subst (λ j. IsOfVariant ss j (payload_in d)) (sym e) r.is.0.2 in
        let limited : IsLimitedVariant ss i (payload_in d) = subst (λ j. IsLimitedVariant ss j (payload_in d)) (sym e) r.is.1 in
        let run = subst (λ z. Runs Takes z (walk_variant ss (variant_in d) (variant (variant_in d) ∷ p) (payload_in d)) c) (sym h.1) r.runs.2 in
        let run_i = subst (λ j. Runs Takes b (walk_variant ss j (variant j ∷ p) (payload_in d)) c) (sym e) run in
        stuck (payload_in d) c (record {
          is = (
            subst (λ (X : Type 0). X) (IsOfVariant-tree_at ss i (payload_in d)) of,
            subst (λ (X : Type 0). X) (IsLimitedVariant-tree_at ss i (payload_in d)) limited,
          );
          runs = subst (λ w. Runs Takes b w c) (walk_variant_at ss i (variant i ∷ p) (payload_in d)) run_i;
        })

-- ---- notes

module _ (note : Note) (s : ShapeTree) (p : Place) (a : State) where
  pub noted_read : (d : Datum) (b : State) → IsAdmitted note d → ReadsDatum s p a d b → ReadsDatum (noted_tree note s) p a d b
  noted_read d b admitted r = record { is = ((r.is.0, admitted), r.is.1); runs = r.runs }

  pub noted_stuck : ReadsNoDatum s p a → ReadsNoDatum (noted_tree note s) p a
  noted_stuck stuck d b r = stuck d b (record { is = (r.is.0.0, r.is.1); runs = r.runs })

  -- the datum is not admitted
  pub noted_refused : (d : Datum) (b : State) → ReadsDatum s p a d b → (IsAdmitted note d → ⊥) → ReadsNoDatum (noted_tree note s) p a
  noted_refused d b t bad e c r =
      let one = one_datum_read s p d e a b c t.is (r.is.0.0, r.is.1) t.runs r.runs in
      bad (subst (IsAdmitted note) (sym one.0) r.is.0.1)

-- ---- the whole input

pub whole_read : (s : ShapeTree) (bytes : List ℕ) (d : Datum) (b : State) → ReadsDatum s [] (start bytes) d b → b.rest ≡ [] → SpellsDatum s bytes d
whole_read s bytes d b r last =
    let h = run_spells s d bytes b r.is.0 r.is.1 r.runs in
    subst (λ x. SpellsDatum s x d) (sym (h.1 ∙ ap (λ x. h.0 ++ x) last ∙ append-nil h.0)) h.2

pub whole_runs : (s : ShapeTree) (bytes : List ℕ) (d : Datum) → SpellsDatum s bytes d
    → (b : State) × ReadsDatum s [] (start bytes) d b × (b.rest ≡ [])
whole_runs s bytes d h =
    let r = spelled_runs s d bytes [] h in
    let run = subst (λ x. Runs Takes (start x) (walk s [] d) r.0) (append-nil bytes) r.1 in
    (r.0, record { is = (h.of_shape, h.limited); runs = run }, r.2)

pub whole_stuck : (s : ShapeTree) (bytes : List ℕ) → ReadsNoDatum s [] (start bytes) → (d : Datum) → SpellsDatum s bytes d → ⊥
whole_stuck s bytes stuck d h = let r = whole_runs s bytes d h in stuck d r.0 r.1

-- something is left behind the datum
pub whole_trailing : (s : ShapeTree) (bytes : List ℕ) (d : Datum) (b : State) → ReadsDatum s [] (start bytes) d b → (b.rest ≡ [] → ⊥)
    → (e : Datum) → SpellsDatum s bytes e → ⊥
whole_trailing s bytes d b r more e h =
    let t = whole_runs s bytes e h in
    let one = one_datum_read s [] d e (start bytes) b t.0 r.is t.1.is r.runs t.1.runs in
    more (ap (λ (x : State). x.rest) one.1 ∙ t.2)
