-- Two data of one shape: either their walks have the same entries to the end, or they part at a place that is new to both.
use Rattle.std.proofs.Common.{◌≡◌, ℕ, zero, suc, ◌+◌, ◌⊎◌, inl, inr, List, [], ◌∷◌, ◌++◌, length, flat_map, refl, ap, sym, ◌∙◌, subst, Bool, true, false, append_assoc}
use Rattle.std.proofs.lemmas.Bool.{cases_Bool}
use Rattle.std.proofs.lemmas.List.{append_cancel_left}
use Rattle.std.specs.List.{AllByRecursion}
use Rattle.bitcode_shapes.specs.Datum.{Datum, no_data, datum_and, elements_in, first_of, rest_of, fields_in, first_in, second_in, variant_in, payload_in}
use Rattle.bitcode_coder.specs.Columns.{Kind}
use Rattle.bitcode_coder.specs.Spelling.{natural}
use Rattle.bitcode_untyped.specs.PlacedColumns.{entries_at}
use Rattle.bitcode_untyped.specs.ShapeTree.{ShapeTree, unit_tree, never_tree, leaf_tree, seq_tree, map_tree, tuple_tree, choice_tree, noted_tree, ShapeTrees, no_trees, tree_and, IsPair, IsOf, AreOf, IsOfVariant}
use Rattle.bitcode_untyped.specs.Walk.{element, key, value, variant, Place, Use, use_at, length_kind, index_kind, field_place, walk, walk_fields, walk_variant}
use Rattle.bitcode_untyped.proofs.DatumLemmas.{list_by_parts, tuple_by_parts, pair_by_parts, choice_by_parts}
use Rattle.bitcode_untyped.proofs.PlaceLemmas.{entries_here, entries-append}
use Rattle.bitcode_untyped.proofs.FreshLemmas.{AllIn}

abbrev pub Agree : (Place → Bool) → List Use → List Use → Type 0
Agree z v w = (q : Place) → z q ≡ true → entries_at q v ≡ entries_at q w

pub record Parts (z : Place → Bool) (v w : List Use) : Type 0 where
  pub front : List Use
  pub place : Place
  pub kind : Kind
  pub e : Datum
  pub f : Datum
  pub after_v : List Use
  pub after_w : List Use
  pub is_v : v ≡ front ++ use_at place kind e ∷ after_v
  pub is_w : w ≡ front ++ use_at place kind f ∷ after_w
  pub known : AllIn z front
  pub new : z place ≡ false

abbrev pub Outcome : (Place → Bool) → List Use → List Use → Type 0 → Type 0
Outcome z v w X = (AllIn z v × X) ⊎ Parts z v w

abbrev pub OneWay : {A : Type 0} → (Place → Bool) → (A → Type 0) → (A → List Use) → Type 0
OneWay {A} z P f = (x y : A) (t u : List Use) → P x → P y → Agree z (f x ++ t) (f y ++ u) → Outcome z (f x) (f y) (x ≡ y)

pub all_in_append : (z : Place → Bool) (v w : List Use) → AllIn z v → AllIn z w → AllIn z (v ++ w)
all_in_append z [] w h k = k
all_in_append z (u ∷ v) w h k = (h.0, all_in_append z v w h.1 k)

pub parts_before : (z : Place → Bool) (v w t u : List Use) → Parts z v w → Parts z (v ++ t) (w ++ u)
parts_before z v w t u p = record {
  front = p.front;
  place = p.place;
  kind = p.kind;
  e = p.e;
  f = p.f;
  after_v = p.after_v ++ t;
  after_w = p.after_w ++ u;
  is_v = ap (λ x. x ++ t) p.is_v ∙ append_assoc p.front (use_at p.place p.kind p.e ∷ p.after_v) t;
  is_w = ap (λ x. x ++ u) p.is_w ∙ append_assoc p.front (use_at p.place p.kind p.f ∷ p.after_w) u;
  known = p.known;
  new = p.new;
}

pub parts_behind : (z : Place → Bool) (c v w : List Use) → AllIn z c → Parts z v w → Parts z (c ++ v) (c ++ w)
parts_behind z c v w all p = record {
  front = c ++ p.front;
  place = p.place;
  kind = p.kind;
  e = p.e;
  f = p.f;
  after_v = p.after_v;
  after_w = p.after_w;
  is_v = ap (λ x. c ++ x) p.is_v ∙ sym (append_assoc c p.front (use_at p.place p.kind p.e ∷ p.after_v));
  is_w = ap (λ x. c ++ x) p.is_w ∙ sym (append_assoc c p.front (use_at p.place p.kind p.f ∷ p.after_w));
  known = all_in_append z c p.front all p.known;
  new = p.new;
}

pub agree_behind : (z : Place → Bool) (c v w : List Use) → Agree z (c ++ v) (c ++ w) → Agree z v w
agree_behind z c v w a q h = append_cancel_left (entries_at q c) (entries_at q v) (entries_at q w) (sym (entries-append q c v) ∙ a q h ∙ entries-append q c w)

module _ (z : Place → Bool) where
  -- one thing after another
  pub one_way_then : {A B C : Type 0} (P : A → Type 0) (Q : B → Type 0) (f : A → List Use) (g : B → List Use) → OneWay z P f → OneWay z Q g
      → (m : C → A) (n : C → B) → (x y : C) (t u : List Use) → P (m x) → Q (n x) → P (m y) → Q (n y)
      → Agree z ((f (m x) ++ g (n x)) ++ t) ((f (m y) ++ g (n y)) ++ u)
      → Outcome z (f (m x) ++ g (n x)) (f (m y) ++ g (n y)) ((m x ≡ m y) × (n x ≡ n y))
  one_way_then P Q f g one two m n x y t u px qx py qy a =
      let a' : Agree z (f (m x) ++ (g (n x) ++ t)) (f (m y) ++ (g (n y) ++ u)) =
      λ q h. ap (λ w. entries_at q w) (sym (append_assoc (f (m x)) (g (n x)) t)) ∙ a q h ∙ ap (λ w. entries_at q w) (append_assoc (f (m y)) (g (n y)) u) in
      elim (one (m x) (m y) (g (n x) ++ t) (g (n y) ++ u) px py a') [
        | inr p ↦ inr (parts_before z (f (m x)) (f (m y)) (g (n x)) (g (n y)) p)
        | inl h ↦
            let b : Agree z (f (m x) ++ (g (n x) ++ t)) (f (m x) ++ (g (n y) ++ u)) =
            subst (λ k. Agree z (f (m x) ++ (g (n x) ++ t)) (f k ++ (g (n y) ++ u))) (sym h.1) a' in
            let b' = agree_behind z (f (m x)) (g (n x) ++ t) (g (n y) ++ u) b in
            elim (two (n x) (n y) t u qx qy b') [
              | inr p ↦ inr (subst (λ k. Parts z (f (m x) ++ g (n x)) (f k ++ g (n y))) h.1 (parts_behind z (f (m x)) (g (n x)) (g (n y)) h.0 p))
              | inl k ↦ inl (all_in_append z (f (m x)) (g (n x)) h.0 k.0, (h.1, k.1))
            ]
      ]

  -- a list of known length, one element after another
  pub one_way_each : {A : Type 0} (P : A → Type 0) (f : A → List Use) → OneWay z P f → (xs ys : List A) (t u : List Use) → length xs ≡ length ys
      → AllByRecursion P xs → AllByRecursion P ys → Agree z (flat_map f xs ++ t) (flat_map f ys ++ u)
      → Outcome z (flat_map f xs) (flat_map f ys) (xs ≡ ys)
  one_way_each P f one [] [] t u e px py a = inl (tt, refl)
  one_way_each P f one [] (y ∷ ys) t u e px py a = cc
  one_way_each P f one (x ∷ xs) [] t u e px py a = cc
  one_way_each P f one (x ∷ xs) (y ∷ ys) t u e px py a =
      let a' : Agree z (f x ++ (flat_map f xs ++ t)) (f y ++ (flat_map f ys ++ u)) =
      λ q h. ap (λ w. entries_at q w) (sym (append_assoc (f x) (flat_map f xs) t)) ∙ a q h ∙ ap (λ w. entries_at q w) (append_assoc (f y) (flat_map f ys) u) in
      elim (one x y (flat_map f xs ++ t) (flat_map f ys ++ u) px.0 py.0 a') [
        | inr p ↦ inr (parts_before z (f x) (f y) (flat_map f xs) (flat_map f ys) p)
        | inl h ↦
            let b : Agree z (f x ++ (flat_map f xs ++ t)) (f x ++ (flat_map f ys ++ u)) =
            subst (λ k. Agree z (f x ++ (flat_map f xs ++ t)) (f k ++ (flat_map f ys ++ u))) (sym h.1) a' in
            let b' = agree_behind z (f x) (flat_map f xs ++ t) (flat_map f ys ++ u) b in
            let hx : x ≡ y = h.1 in
            elim (one_way_each P f one xs ys t u (cc) px.1 py.1 b') [
              | inr p ↦ inr (subst (λ k. Parts z (f x ++ flat_map f xs) (f k ++ flat_map f ys)) h.1 (parts_behind z (f x) (flat_map f xs) (flat_map f ys) h.0 p))
              | inl k ↦ inl (all_in_append z (f x) (flat_map f xs) h.0 k.0, let kx : xs ≡ ys = k.1 in cc)
            ]
      ]

  -- an entry first, and what follows
  pub one_way_first : (p : Place) (k : Kind) (e f : Datum) (v w t u : List Use) (X : Type 0)
      → Agree z ((use_at p k e ∷ v) ++ t) ((use_at p k f ∷ w) ++ u) → (e ≡ f → Agree z (v ++ t) (w ++ u) → Outcome z v w X)
      → Outcome z (use_at p k e ∷ v) (use_at p k f ∷ w) X
  one_way_first p k e f v w t u X a go =
      elim (cases_Bool (z p)) [
        | inr h ↦ inr (record { front = []; place = p; kind = k; e = e; f = f; after_v = v; after_w = w; is_v = refl; is_w = refl; known = tt; new = h })
        | inl h ↦
            let both : e ∷ entries_at p (v ++ t) ≡ f ∷ entries_at p (w ++ u) = sym (entries_here p k e (v ++ t)) ∙ a p h ∙ entries_here p k f (w ++ u) in
            let same : e ≡ f = cc in
            let a' : Agree z ((use_at p k e ∷ []) ++ (v ++ t)) ((use_at p k e ∷ []) ++ (w ++ u)) =
            subst (λ g. Agree z (use_at p k e ∷ (v ++ t)) (use_at p k g ∷ (w ++ u))) (sym same) a in
            elim (go same (agree_behind z (use_at p k e ∷ []) (v ++ t) (w ++ u) a')) [
              | inl r ↦ inl ((h, r.0), r.1)
              | inr r ↦ inr (subst (λ g. Parts z (use_at p k e ∷ v) (use_at p k g ∷ w)) same (parts_behind z (use_at p k e ∷ []) v w (h, tt) r))
            ]
      ]

  pub outcome_if : (v w : List Use) (X Y : Type 0) → (X → Y) → Outcome z v w X → Outcome z v w Y
  outcome_if v w X Y f (inl h) = inl (h.0, f h.1)
  outcome_if v w X Y f (inr p) = inr p

  pub same_number : (m n : ℕ) → natural m ≡ natural n → m ≡ n
  same_number m n e = cc

  mutual
    pub one_way : (s : ShapeTree) (p : Place) → OneWay z (IsOf s) (walk s p)
    one_way unit_tree p x y t u px py a = inl (tt, px ∙ sym py)
    one_way never_tree p x y t u px py a = absurd px
    one_way (leaf_tree k allowed) p x y t u px py a = one_way_first p k x y [] [] t u _ a (λ e b. inl (tt, e))
    one_way (seq_tree s) p x y t u px py a =
        one_way_first p length_kind _ _ _ _ t u _ a (λ e b. outcome_if _ _ _ _ (list_by_parts x y px.0 py.0)
        (one_way_each (IsOf s) (walk s (element ∷ p)) (one_way s (element ∷ p)) (elements_in x) (elements_in y) t u (same_number _ _ e) px.1 py.1 b))
    one_way (map_tree s v) p x y t u px py a =
        let f : Datum → List Use = λ d. walk s (key ∷ p) (first_in d) ++ walk v (value ∷ p) (second_in d) in
        let one : OneWay z (IsPair (IsOf s) (IsOf v)) f = λ d d' t' u' pd pd' a'.
        outcome_if _ _ _ _ (λ (h : (first_in d ≡ first_in d') × (second_in d ≡ second_in d')). pair_by_parts d d' pd.0 pd'.0 h.0 h.1)
        (one_way_then (IsOf s) (IsOf v) (walk s (key ∷ p)) (walk v (value ∷ p)) (one_way s (key ∷ p)) (one_way v (value ∷ p)) first_in second_in d d' t' u' pd.1 pd.2 pd'.1 pd'.2 a') in
        one_way_first p length_kind _ _ _ _ t u _ a (λ e b. outcome_if _ _ _ _ (list_by_parts x y px.0 py.0)
        (one_way_each (IsPair (IsOf s) (IsOf v)) f one (elements_in x) (elements_in y) t u (same_number _ _ e) px.1 py.1 b))
    one_way (tuple_tree ss) p x y t u px py a =
        outcome_if _ _ _ _ (tuple_by_parts x y px.0 py.0) (one_way_fields ss (field_place ss p) 0 (fields_in x) (fields_in y) t u px.1 py.1 a)
    one_way (choice_tree ss) p x y t u px py a =
        one_way_first p index_kind _ _ _ _ t u _ a (λ e b.
        let i : variant_in x ≡ variant_in y = same_number _ _ e in
        let py' = subst (λ j. IsOfVariant ss j (payload_in y)) (sym i) py.2 in
        let b' =
        subst (λ j. Agree z (walk_variant ss (variant_in x) (variant (variant_in x) ∷ p) (payload_in x) ++ t) (walk_variant ss j (variant j ∷ p) (payload_in y) ++ u)) (sym i) b in
        let o = one_way_variant ss (variant_in x) (variant (variant_in x) ∷ p) (payload_in x) (payload_in y) t u px.2 py' b' in
        outcome_if _ _ _ _ (λ k. choice_by_parts x y px.0 py.0 i k)
        (subst (λ j. Outcome z (walk_variant ss (variant_in x) (variant (variant_in x) ∷ p) (payload_in x)) (walk_variant ss j (variant j ∷ p) (payload_in y)) (payload_in x ≡ payload_in y)) i o))
    one_way (noted_tree note s) p x y t u px py a = one_way s p x y t u px.0 py.0 a

    pub one_way_fields : (ss : ShapeTrees) (at : ℕ → Place) (i : ℕ) → OneWay z (AreOf ss) (walk_fields ss at i)
    one_way_fields no_trees at i no_data no_data t u px py a = inl (tt, refl)
    one_way_fields no_trees at i no_data (datum_and y ys) t u px py a = absurd py
    one_way_fields no_trees at i (datum_and x xs) ys t u px py a = absurd px
    one_way_fields (tree_and s ss) at i no_data ys t u px py a = absurd px
    one_way_fields (tree_and s ss) at i (datum_and x xs) no_data t u px py a = absurd py
    one_way_fields (tree_and s ss) at i (datum_and x xs) (datum_and y ys) t u px py a =
        outcome_if _ _ _ _ (λ (h : (x ≡ y) × (xs ≡ ys)). let hx : x ≡ y = h.0 in let hs : xs ≡ ys = h.1 in let r : datum_and x xs ≡ datum_and y ys = cc in r)
        (one_way_then (IsOf s) (AreOf ss) (walk s (at i)) (walk_fields ss at (i + 1)) (one_way s (at i)) (one_way_fields ss at (i + 1)) first_of rest_of (datum_and x xs)
        (datum_and y ys) t u px.0 px.1 py.0 py.1 a)

    pub one_way_variant : (ss : ShapeTrees) (i : ℕ) (p : Place) → OneWay z (IsOfVariant ss i) (walk_variant ss i p)
    one_way_variant no_trees i p x y t u px py a = absurd px
    one_way_variant (tree_and s ss) zero p x y t u px py a = one_way s p x y t u px py a
    one_way_variant (tree_and s ss) (suc i) p x y t u px py a = one_way_variant ss i p x y t u px py a
