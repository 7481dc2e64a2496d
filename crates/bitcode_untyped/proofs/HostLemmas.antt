-- Where a walk has its entries.
use Rattle.std.proofs.Common.{◌≡◌, ℕ, zero, suc, ◌+◌, ◌⊎◌, inl, inr, List, [], ◌∷◌, ◌++◌, flat_map, refl, sym, ◌∙◌, subst, arith, zero-add}
use Rattle.std.proofs.lemmas.Bool.{cases_Bool}
use Rattle.bitcode_shapes.specs.Datum.{Datum, Data, elements_in, first_of, rest_of, fields_in, first_in, second_in, variant_in, payload_in}
use Rattle.bitcode_coder.specs.Columns.{Kind}
use Rattle.bitcode_untyped.specs.PlacedColumns.{same_place, entries_at}
use Rattle.bitcode_untyped.specs.ShapeTree.{ShapeTree, unit_tree, never_tree, leaf_tree, seq_tree, map_tree, tuple_tree, choice_tree, noted_tree, ShapeTrees, no_trees, tree_and, tree_at}
use Rattle.bitcode_untyped.specs.Walk.{element, key, value, variant, field, Place, Use, use_at, length_kind, index_kind, field_place, walk, walk_fields, walk_variant}
use Rattle.bitcode_untyped.proofs.PlaceLemmas.{same_place-true, entries-append, Under, Apart, under_step}

-- The shape, standing at p, has a column at q.
abbrev mutual
  pub Hosts : ShapeTree → Place → Place → Type 0
  Hosts unit_tree p q = ⊥
  Hosts never_tree p q = ⊥
  Hosts (leaf_tree k allowed) p q = q ≡ p
  Hosts (seq_tree s) p q = (q ≡ p) ⊎ Hosts s (element ∷ p) q
  Hosts (map_tree k v) p q = (q ≡ p) ⊎ (Hosts k (key ∷ p) q ⊎ Hosts v (value ∷ p) q)
  Hosts (tuple_tree ss) p q = (j : ℕ) × HostsAt ss j (field_place ss p j) q
  Hosts (choice_tree ss) p q = (q ≡ p) ⊎ ((j : ℕ) × HostsAt ss j (variant j ∷ p) q)
  Hosts (noted_tree note s) p q = Hosts s p q

  pub HostsAt : ShapeTrees → ℕ → Place → Place → Type 0
  HostsAt no_trees j p q = ⊥
  HostsAt (tree_and s ss) zero p q = Hosts s p q
  HostsAt (tree_and s ss) (suc j) p q = HostsAt ss j p q

-- no entry at q, or H
abbrev pub NoneOr : Place → List Use → Type 0 → Type 0
NoneOr q w H = (entries_at q w ≡ []) ⊎ H

pub none_or_append : (q : Place) (v w : List Use) (H : Type 0) → NoneOr q v H → NoneOr q w H → NoneOr q (v ++ w) H
none_or_append q v w H (inl a) (inl b) = inl (entries-append q v w ∙ rw (a, b) refl)
none_or_append q v w H (inr h) b = inr h
none_or_append q v w H (inl a) (inr h) = inr h

pub none_or_each : {A : Type 0} (q : Place) (f : A → List Use) (H : Type 0) → ((x : A) → NoneOr q (f x) H) → (xs : List A) → NoneOr q (flat_map f xs) H
none_or_each q f H e [] = inl refl
none_or_each q f H e (x ∷ xs) = none_or_append q (f x) (flat_map f xs) H (e x) (none_or_each q f H e xs)

pub none_or_first : (q p : Place) (k : Kind) (e : Datum) (w : List Use) (H : Type 0) → (q ≡ p → H) → NoneOr q w H → NoneOr q (use_at p k e ∷ w) H
none_or_first q p k e w H here (inr h) = inr h
none_or_first q p k e w H here (inl a) =
    elim (cases_Bool (same_place q p)) [ inl h ↦ inr (here (same_place-true q p h)) | inr h ↦ inl (rw h a) ]

pub none_or_if : (q : Place) (w : List Use) (H K : Type 0) → (H → K) → NoneOr q w H → NoneOr q w K
none_or_if q w H K f (inl a) = inl a
none_or_if q w H K f (inr h) = inr (f h)

pub hosts_at : (ts : ShapeTrees) (j : ℕ) (p q : Place) → Hosts (tree_at ts j) p q → HostsAt ts j p q
hosts_at no_trees j p q h = h
hosts_at (tree_and t ts) zero p q h = h
hosts_at (tree_and t ts) (suc j) p q h = hosts_at ts j p q h

pub hosts_tree_at : (ts : ShapeTrees) (j : ℕ) (p q : Place) → HostsAt ts j p q → Hosts (tree_at ts j) p q
hosts_tree_at no_trees j p q h = h
hosts_tree_at (tree_and t ts) zero p q h = h
hosts_tree_at (tree_and t ts) (suc j) p q h = hosts_tree_at ts j p q h

pub walk_variant_at : (ts : ShapeTrees) (i : ℕ) (p : Place) (d : Datum) → walk_variant ts i p d ≡ walk (tree_at ts i) p d
walk_variant_at no_trees i p d = refl
walk_variant_at (tree_and t ts) zero p d = refl
walk_variant_at (tree_and t ts) (suc i) p d = walk_variant_at ts i p d

mutual
  -- Each entry of a walk stands at a place that has a column.
  pub hosted : (s : ShapeTree) (p : Place) (d : Datum) (q : Place) → NoneOr q (walk s p d) (Hosts s p q)
  hosted unit_tree p d q = inl refl
  hosted never_tree p d q = inl refl
  hosted (leaf_tree k allowed) p d q = none_or_first q p k d [] (q ≡ p) (λ e. e) (inl refl)
  hosted (seq_tree t) p d q =
      none_or_first q p length_kind _ _ _ inl (none_or_if q _ _ _ inr (none_or_each q (walk t (element ∷ p)) (Hosts t (element ∷ p) q) (λ x. hosted t (element ∷ p) x q) (elements_in d)))
  hosted (map_tree t v) p d q =
      let H : Type 0 = Hosts t (key ∷ p) q ⊎ Hosts v (value ∷ p) q in
      let f : Datum → List Use = λ e. walk t (key ∷ p) (first_in e) ++ walk v (value ∷ p) (second_in e) in
      let one : (x : Datum) → NoneOr q (f x) H =
      λ x. none_or_append q _ _ H (none_or_if q _ _ _ inl (hosted t (key ∷ p) (first_in x) q)) (none_or_if q _ _ _ inr (hosted v (value ∷ p) (second_in x) q)) in
      none_or_first q p length_kind _ _ _ inl (none_or_if q _ _ _ inr (none_or_each q f H one (elements_in d)))
  hosted (tuple_tree ts) p d q =
      none_or_if q _ _ _ (λ (h : (j : ℕ) × HostsAt ts j (field_place ts p (0 + j)) q). (h.0, subst (λ z. HostsAt ts h.0 (field_place ts p z) q) (zero-add h.0) h.1))
      (hosted_fields ts (field_place ts p) 0 (fields_in d) q)
  hosted (choice_tree ts) p d q =
      none_or_first q p index_kind _ _ _ inl (none_or_if q _ _ _ (λ (h : HostsAt ts (variant_in d) (variant (variant_in d) ∷ p) q). inr (variant_in d, h))
      (hosted_variant ts (variant_in d) (variant (variant_in d) ∷ p) (payload_in d) q))
  hosted (noted_tree note t) p d q = hosted t p d q

  pub hosted_fields : (ts : ShapeTrees) (at : ℕ → Place) (i : ℕ) (xs : Data) (q : Place)
      → NoneOr q (walk_fields ts at i xs) ((j : ℕ) × HostsAt ts j (at (i + j)) q)
  hosted_fields no_trees at i xs q = inl refl
  hosted_fields (tree_and t ts) at i xs q =
      let zeroth : i + 0 ≡ i = omega arith in
      let H : Type 0 = (j : ℕ) × HostsAt (tree_and t ts) j (at (i + j)) q in
      let next : ((j : ℕ) × HostsAt ts j (at (i + 1 + j)) q) → H = λ h. (suc h.0, subst (λ z. HostsAt ts h.0 (at z) q) (omega arith) h.1) in
      none_or_append q _ _ H
      (none_or_if q _ _ H (λ (h : Hosts t (at i) q). (0, subst (λ z. Hosts t (at z) q) (sym zeroth) h)) (hosted t (at i) (first_of xs) q))
      (none_or_if q _ _ H next (hosted_fields ts at (i + 1) (rest_of xs) q))

  pub hosted_variant : (ts : ShapeTrees) (i : ℕ) (p : Place) (d : Datum) (q : Place) → NoneOr q (walk_variant ts i p d) (HostsAt ts i p q)
  hosted_variant no_trees i p d q = inl refl
  hosted_variant (tree_and t ts) zero p d q = hosted t p d q
  hosted_variant (tree_and t ts) (suc i) p d q = hosted_variant ts i p d q

mutual
  -- The columns of a shape stand below it.
  pub hosts_under : (s : ShapeTree) (p q : Place) → Hosts s p q → Under p q
  hosts_under unit_tree p q h = absurd h
  hosts_under never_tree p q h = absurd h
  hosts_under (leaf_tree k allowed) p q h = ([], h)
  hosts_under (seq_tree t) p q (inl h) = ([], h)
  hosts_under (seq_tree t) p q (inr h) = under_step element p q (hosts_under t (element ∷ p) q h)
  hosts_under (map_tree t v) p q (inl h) = ([], h)
  hosts_under (map_tree t v) p q (inr (inl h)) = under_step key p q (hosts_under t (key ∷ p) q h)
  hosts_under (map_tree t v) p q (inr (inr h)) = under_step value p q (hosts_under v (value ∷ p) q h)
  hosts_under (tuple_tree no_trees) p q h = absurd h.1
  hosts_under (tuple_tree (tree_and t no_trees)) p q h = hosts_under_at (tree_and t no_trees) h.0 p q h.1
  hosts_under (tuple_tree (tree_and t (tree_and u us))) p q h = under_step (field h.0) p q (hosts_under_at (tree_and t (tree_and u us)) h.0 (field h.0 ∷ p) q h.1)
  hosts_under (choice_tree ts) p q (inl h) = ([], h)
  hosts_under (choice_tree ts) p q (inr h) = under_step (variant h.0) p q (hosts_under_at ts h.0 (variant h.0 ∷ p) q h.1)
  hosts_under (noted_tree note t) p q h = hosts_under t p q h

  pub hosts_under_at : (ts : ShapeTrees) (j : ℕ) (p q : Place) → HostsAt ts j p q → Under p q
  hosts_under_at no_trees j p q h = absurd h
  hosts_under_at (tree_and t ts) zero p q h = hosts_under t p q h
  hosts_under_at (tree_and t ts) (suc j) p q h = hosts_under_at ts j p q h

-- A walk has no entry at a place that does not lie below it.
pub apart_none : (s : ShapeTree) (p : Place) (d : Datum) (q : Place) → Apart p q → entries_at q (walk s p d) ≡ []
apart_none s p d q h =
    elim (hosted s p d q) [ inl e ↦ e | inr k ↦ absurd (let u = hosts_under s p q k in h u.0 u.1) ]
