-- A machine that can take at most one entry at each place runs along the walk of at most one datum of a shape.
use Rattle.std.proofs.Common.{◌≡◌, ℕ, zero, suc, ◌+◌, List, [], ◌∷◌, ◌++◌, length, flat_map, refl, sym, ◌∙◌, subst}
use Rattle.std.specs.List.{AllByRecursion}
use Rattle.bitcode_shapes.specs.Datum.{Datum, no_data, datum_and, elements_in, first_of, rest_of, fields_in, first_in, second_in, variant_in, payload_in}
use Rattle.bitcode_coder.specs.Columns.{Kind}
use Rattle.bitcode_coder.specs.Spelling.{natural}
use Rattle.bitcode_untyped.specs.Runs.{Runs}
use Rattle.bitcode_untyped.specs.ShapeTree.{ShapeTree, unit_tree, never_tree, leaf_tree, seq_tree, map_tree, tuple_tree, choice_tree, noted_tree, ShapeTrees, no_trees, tree_and, IsPair, IsOf, AreOf, IsOfVariant}
use Rattle.bitcode_untyped.specs.Walk.{element, key, value, variant, Place, Use, use_at, length_kind, index_kind, field_place, walk, walk_fields, walk_variant}
use Rattle.bitcode_untyped.proofs.DatumLemmas.{list_by_parts, tuple_by_parts, pair_by_parts, choice_by_parts}

-- At one place and kind there is one entry to take, and one state after it.
abbrev pub TakesOne : {S : Type 0} → (S → Use → S → Type 0) → Type 0
TakesOne {S} T = (a b c : S) (p : Place) (k : Kind) (e f : Datum) → T a (use_at p k e) b → T a (use_at p k f) c → (e ≡ f) × (b ≡ c)

-- Of all x with P, at most one has uses that the machine runs along.
abbrev pub OneRun : {S A : Type 0} → (S → Use → S → Type 0) → (A → Type 0) → (A → List Use) → Type 0
OneRun {S} {A} T P f = (x y : A) (a b c : S) → P x → P y → Runs T a (f x) b → Runs T a (f y) c → (x ≡ y) × (b ≡ c)

module _ {S : Type 0} (T : S → Use → S → Type 0) (takes_one : TakesOne T) where
  pub runs-append : (v w : List Use) (a b : S) → Runs T a (v ++ w) b → (c : S) × Runs T a v c × Runs T c w b
  runs-append [] w a b r = (a, refl, r)
  runs-append (u ∷ v) w a b r =
      let t = runs-append v w r.0 b r.2 in (t.0, (r.0, r.1, t.1), t.2)

  -- one thing after another
  pub one_run_then : {A B C : Type 0} (P : A → Type 0) (Q : B → Type 0) (f : A → List Use) (g : B → List Use) → OneRun T P f → OneRun T Q g
      → (m : C → A) (n : C → B) → (x y : C) (a b c : S) → P (m x) → Q (n x) → P (m y) → Q (n y) → Runs T a (f (m x) ++ g (n x)) b
      → Runs T a (f (m y) ++ g (n y)) c → (m x ≡ m y) × (n x ≡ n y) × (b ≡ c)
  one_run_then P Q f g one two m n x y a b c px qx py qy r s =
      let r' = runs-append (f (m x)) (g (n x)) a b r in
      let s' = runs-append (f (m y)) (g (n y)) a c s in
      let h = one (m x) (m y) a r'.0 s'.0 px py r'.1 s'.1 in
      let k = two (n x) (n y) r'.0 b c qx qy r'.2 (subst (λ z. Runs T z (g (n y)) c) (sym h.1) s'.2) in
      (h.0, k.0, k.1)

  -- a list of known length, one element after another
  pub one_run_each : {A : Type 0} (P : A → Type 0) (f : A → List Use) → OneRun T P f → (xs ys : List A) (a b c : S) → length xs ≡ length ys
      → AllByRecursion P xs → AllByRecursion P ys → Runs T a (flat_map f xs) b → Runs T a (flat_map f ys) c → (xs ≡ ys) × (b ≡ c)
  one_run_each P f one [] [] a b c e px py r s = (refl, sym r ∙ s)
  one_run_each P f one [] (y ∷ ys) a b c e px py r s = cc
  one_run_each P f one (x ∷ xs) [] a b c e px py r s = cc
  one_run_each P f one (x ∷ xs) (y ∷ ys) a b c e px py r s =
      let r' = runs-append (f x) (flat_map f xs) a b r in
      let s' = runs-append (f y) (flat_map f ys) a c s in
      let h = one x y a r'.0 s'.0 px.0 py.0 r'.1 s'.1 in
      let k = one_run_each P f one xs ys r'.0 b c (cc) px.1 py.1 r'.2 (subst (λ z. Runs T z (flat_map f ys) c) (sym h.1) s'.2) in
      let hx : x ≡ y = h.0 in
      let kx : xs ≡ ys = k.0 in
      (cc, k.1)

  pub same_number : (m n : ℕ) → natural m ≡ natural n → m ≡ n
  same_number m n e = cc

  mutual
    pub one_run : (s : ShapeTree) (p : Place) → OneRun T (IsOf s) (walk s p)
    one_run unit_tree p x y a b c px py r s = (px ∙ sym py, sym r ∙ s)
    one_run never_tree p x y a b c px py r s = absurd px
    one_run (leaf_tree k allowed) p x y a b c px py r s =
        let h = takes_one a r.0 s.0 p k x y r.1 s.1 in
        (h.0, sym r.2 ∙ h.1 ∙ s.2)
    one_run (seq_tree t) p x y a b c px py r s =
        let h = takes_one a r.0 s.0 p length_kind _ _ r.1 s.1 in
        let e = same_number _ _ h.0 in
        let k =
        one_run_each (IsOf t) (walk t (element ∷ p)) (one_run t (element ∷ p)) (elements_in x) (elements_in y) r.0 b c e px.1 py.1 r.2
        (subst (λ z. Runs T z (flat_map (walk t (element ∷ p)) (elements_in y)) c) (sym h.1) s.2) in
        (list_by_parts x y px.0 py.0 k.0, k.1)
    one_run (map_tree t v) p x y a b c px py r s =
        let h = takes_one a r.0 s.0 p length_kind _ _ r.1 s.1 in
        let e = same_number _ _ h.0 in
        let f : Datum → List Use = λ d. walk t (key ∷ p) (first_in d) ++ walk v (value ∷ p) (second_in d) in
        let one : OneRun T (IsPair (IsOf t) (IsOf v)) f = λ d d' a' b' c' pd pd' r' s'.
        let q =
        one_run_then (IsOf t) (IsOf v) (walk t (key ∷ p)) (walk v (value ∷ p)) (one_run t (key ∷ p)) (one_run v (value ∷ p)) first_in second_in d d' a' b' c' pd.1 pd.2 pd'.1 pd'.2 r' s' in
        (pair_by_parts d d' pd.0 pd'.0 q.0 q.1, q.2) in
        let k =
        one_run_each (IsPair (IsOf t) (IsOf v)) f one (elements_in x) (elements_in y) r.0 b c e px.1 py.1 r.2 (subst (λ z. Runs T z (flat_map f (elements_in y)) c) (sym h.1) s.2) in
        (list_by_parts x y px.0 py.0 k.0, k.1)
    one_run (tuple_tree ts) p x y a b c px py r s =
        let k = one_run_fields ts (field_place ts p) 0 (fields_in x) (fields_in y) a b c px.1 py.1 r s in
        (tuple_by_parts x y px.0 py.0 k.0, k.1)
    one_run (choice_tree ts) p x y a b c px py r s =
        let h = takes_one a r.0 s.0 p index_kind _ _ r.1 s.1 in
        let e = same_number _ _ h.0 in
        let s' = subst (λ z. Runs T z (walk_variant ts (variant_in y) (variant (variant_in y) ∷ p) (payload_in y)) c) (sym h.1) s.2 in
        let s'' = subst (λ i. Runs T r.0 (walk_variant ts i (variant i ∷ p) (payload_in y)) c) (sym e) s' in
        let py' = subst (λ i. IsOfVariant ts i (payload_in y)) (sym e) py.2 in
        let k = one_run_variant ts (variant_in x) (variant (variant_in x) ∷ p) (payload_in x) (payload_in y) r.0 b c px.2 py' r.2 s'' in
        (choice_by_parts x y px.0 py.0 e k.0, k.1)
    one_run (noted_tree note t) p x y a b c px py r s = one_run t p x y a b c px.0 py.0 r s

    pub one_run_fields : (ts : ShapeTrees) (at : ℕ → Place) (i : ℕ) → OneRun T (AreOf ts) (walk_fields ts at i)
    one_run_fields no_trees at i no_data no_data a b c px py r s = (refl, sym r ∙ s)
    one_run_fields no_trees at i no_data (datum_and y ys) a b c px py r s = absurd py
    one_run_fields no_trees at i (datum_and x xs) ys a b c px py r s = absurd px
    one_run_fields (tree_and t ts) at i no_data ys a b c px py r s = absurd px
    one_run_fields (tree_and t ts) at i (datum_and x xs) no_data a b c px py r s = absurd py
    one_run_fields (tree_and t ts) at i (datum_and x xs) (datum_and y ys) a b c px py r s =
        let q =
        one_run_then (IsOf t) (AreOf ts) (walk t (at i)) (walk_fields ts at (i + 1)) (one_run t (at i)) (one_run_fields ts at (i + 1)) first_of rest_of (datum_and x xs)
        (datum_and y ys) a b c px.0 px.1 py.0 py.1 r s in
        let h : x ≡ y = q.0 in
        let k : xs ≡ ys = q.1 in
        (cc, q.2)

    pub one_run_variant : (ts : ShapeTrees) (i : ℕ) (p : Place) → OneRun T (IsOfVariant ts i) (walk_variant ts i p)
    one_run_variant no_trees i p x y a b c px py r s = absurd px
    one_run_variant (tree_and t ts) zero p x y a b c px py r s = one_run t p x y a b c px py r s
    one_run_variant (tree_and t ts) (suc i) p x y a b c px py r s = one_run_variant ts i p x y a b c px py r s
