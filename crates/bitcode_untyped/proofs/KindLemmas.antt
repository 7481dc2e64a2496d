-- All entries of a place have one kind.
use Rattle.std.proofs.Common.{◌≡◌, ℕ, zero, suc, ◌+◌, inl, inr, List, [], ◌∷◌, ◌++◌, refl, sym, ◌∙◌, subst, arith, zero-add}
use Rattle.std.proofs.lemmas.Bool.{cases_Bool}
use Rattle.std.specs.List.{AllByRecursion}
use Rattle.bitcode_shapes.specs.Datum.{Datum, Data, elements_in, first_of, rest_of, fields_in, first_in, second_in, variant_in, payload_in}
use Rattle.bitcode_coder.specs.Columns.{Kind}
use Rattle.bitcode_untyped.specs.PlaceKinds.{HasKindFrom, HasKindAt}
use Rattle.bitcode_untyped.specs.PlacedColumns.{same_place, PlacedColumn, without, columns}
use Rattle.bitcode_untyped.specs.ShapeTree.{ShapeTree, unit_tree, never_tree, leaf_tree, seq_tree, map_tree, tuple_tree, choice_tree, noted_tree, ShapeTrees, no_trees, tree_and}
use Rattle.bitcode_untyped.specs.Walk.{Step, element, key, value, variant, field, Place, Use, field_place, walk, walk_fields, walk_variant}
use Rattle.bitcode_untyped.proofs.EachLemmas.{each_if, each_append, each_flat}
use Rattle.bitcode_untyped.proofs.PlaceLemmas.{Under, append_same_tail, under_step, under_not_above}

abbrev pub HasKind : ShapeTree → Place → Place → Kind → Type 0
HasKind s p q k = HasKindFrom s p q k

abbrev pub Kinded : ShapeTree → Place → Use → Type 0
Kinded s p u = HasKindFrom s p u.place u.kind

mutual
  pub kinded : (s : ShapeTree) (p : Place) (d : Datum) → AllByRecursion (λ (u : Use). HasKindFrom s p u.place u.kind) (walk s p d)
  kinded unit_tree p d = tt
  kinded never_tree p d = tt
  kinded (leaf_tree k allowed) p d = ((refl, refl), tt)
  kinded (seq_tree s) p d =
      (inl (refl, refl), each_if (Kinded s (element ∷ p)) (Kinded (seq_tree s) p) (λ u h. inr h) _ (each_flat (Kinded s (element ∷ p)) (walk s (element ∷ p)) (kinded s (element ∷ p)) (elements_in d)))
  kinded (map_tree s v) p d =
      let f : Datum → List Use = λ e. walk s (key ∷ p) (first_in e) ++ walk v (value ∷ p) (second_in e) in (
        inl (refl, refl),
        each_flat (Kinded (map_tree s v) p) f
            (λ e. each_append (Kinded (map_tree s v) p) _ _ (each_if (Kinded s (key ∷ p)) (Kinded (map_tree s v) p) (λ u h. inr (inl h)) _ (kinded s (key ∷ p) (first_in e)))
            (each_if (Kinded v (value ∷ p)) (Kinded (map_tree s v) p) (λ u h. inr (inr h)) _ (kinded v (value ∷ p) (second_in e)))) (elements_in d),
      )
  kinded (tuple_tree ss) p d =
      each_if (λ (u : Use). (j : ℕ) × HasKindAt ss j (field_place ss p (0 + j)) u.place u.kind) (Kinded (tuple_tree ss) p)
      (λ u h. (h.0, subst (λ z. HasKindAt ss h.0 (field_place ss p z) u.place u.kind) (zero-add h.0) h.1)) _ (kinded_fields ss (field_place ss p) 0 (fields_in d))
  kinded (choice_tree ss) p d = (
    inl (refl, refl),
    each_if (λ (u : Use). HasKindAt ss (variant_in d) (variant (variant_in d) ∷ p) u.place u.kind) (Kinded (choice_tree ss) p)
        (λ u h. inr (variant_in d, h)) _ (kinded_variant ss (variant_in d) (variant (variant_in d) ∷ p) (payload_in d)),
  )
  kinded (noted_tree note s) p d = kinded s p d

  pub kinded_fields : (ss : ShapeTrees) (at : ℕ → Place) (i : ℕ) (xs : Data)
      → AllByRecursion (λ (u : Use). (j : ℕ) × HasKindAt ss j (at (i + j)) u.place u.kind) (walk_fields ss at i xs)
  kinded_fields no_trees at i xs = tt
  kinded_fields (tree_and s ss) at i xs =
      let P : Use → Type 0 = λ u. (j : ℕ) × HasKindAt (tree_and s ss) j (at (i + j)) u.place u.kind in
      let zeroth : i ≡ i + 0 = omega arith in
      each_append P _ _
      (each_if (Kinded s (at i)) P (λ u h. (0, subst (λ z. HasKindFrom s (at z) u.place u.kind) zeroth h)) _ (kinded s (at i) (first_of xs)))
      (each_if (λ (u : Use). (j : ℕ) × HasKindAt ss j (at (i + 1 + j)) u.place u.kind) P
      (λ u h. (suc h.0, subst (λ z. HasKindAt ss h.0 (at z) u.place u.kind) (omega arith) h.1)) _ (kinded_fields ss at (i + 1) (rest_of xs)))

  pub kinded_variant : (ss : ShapeTrees) (i : ℕ) (p : Place) (d : Datum) → AllByRecursion (λ (u : Use). HasKindAt ss i p u.place u.kind) (walk_variant ss i p d)
  kinded_variant no_trees i p d = tt
  kinded_variant (tree_and s ss) zero p d = kinded s p d
  kinded_variant (tree_and s ss) (suc i) p d = kinded_variant ss i p d

mutual
  pub kind_under : (s : ShapeTree) (p q : Place) (k : Kind) → HasKindFrom s p q k → Under p q
  kind_under unit_tree p q k h = absurd h
  kind_under never_tree p q k h = absurd h
  kind_under (leaf_tree l allowed) p q k h = ([], h.0)
  kind_under (seq_tree s) p q k (inl h) = ([], h.0)
  kind_under (seq_tree s) p q k (inr h) = under_step element p q (kind_under s (element ∷ p) q k h)
  kind_under (map_tree s v) p q k (inl h) = ([], h.0)
  kind_under (map_tree s v) p q k (inr (inl h)) = under_step key p q (kind_under s (key ∷ p) q k h)
  kind_under (map_tree s v) p q k (inr (inr h)) = under_step value p q (kind_under v (value ∷ p) q k h)
  kind_under (tuple_tree no_trees) p q k h = absurd h.1
  kind_under (tuple_tree (tree_and s no_trees)) p q k h = kind_under_at (tree_and s no_trees) h.0 p q k h.1
  kind_under (tuple_tree (tree_and s (tree_and t ts))) p q k h = under_step (field h.0) p q (kind_under_at (tree_and s (tree_and t ts)) h.0 (field h.0 ∷ p) q k h.1)
  kind_under (choice_tree ss) p q k (inl h) = ([], h.0)
  kind_under (choice_tree ss) p q k (inr h) = under_step (variant h.0) p q (kind_under_at ss h.0 (variant h.0 ∷ p) q k h.1)
  kind_under (noted_tree note s) p q k h = kind_under s p q k h

  pub kind_under_at : (ss : ShapeTrees) (j : ℕ) (p q : Place) (k : Kind) → HasKindAt ss j p q k → Under p q
  kind_under_at no_trees j p q k h = absurd h
  kind_under_at (tree_and s ss) zero p q k h = kind_under s p q k h
  kind_under_at (tree_and s ss) (suc j) p q k h = kind_under_at ss j p q k h

pub same_step_below : (a b : Step) (p q : Place) → Under (a ∷ p) q → Under (b ∷ p) q → a ≡ b
same_step_below a b p q u v = append_same_tail u.0 v.0 a b p (sym u.1 ∙ v.1)

pub one_kind_single : (s : ShapeTree) (p q : Place) (k l : Kind) → (HasKindFrom s p q k → HasKindFrom s p q l → k ≡ l) → (i j : ℕ)
    → HasKindAt (tree_and s no_trees) i p q k → HasKindAt (tree_and s no_trees) j p q l → k ≡ l
one_kind_single s p q k l f zero zero h g = f h g
one_kind_single s p q k l f zero (suc j) h g = absurd g
one_kind_single s p q k l f (suc i) j h g = absurd h

pub one_kind_tuple : (ss : ShapeTrees) (p q : Place) (k l : Kind) → ((j : ℕ) (at : Place) → HasKindAt ss j at q k → HasKindAt ss j at q l → k ≡ l)
    → HasKindFrom (tuple_tree ss) p q k → HasKindFrom (tuple_tree ss) p q l → k ≡ l
one_kind_tuple no_trees p q k l f h g = absurd h.1
one_kind_tuple (tree_and s no_trees) p q k l f h g = one_kind_single s p q k l (f 0 p) h.0 g.0 h.1 g.1
one_kind_tuple (tree_and s (tree_and t ts)) p q k l f h g =
    let ss : ShapeTrees = tree_and s (tree_and t ts) in
    let e : field h.0 ≡ field g.0 =
    same_step_below (field h.0) (field g.0) p q (kind_under_at ss h.0 (field h.0 ∷ p) q k h.1) (kind_under_at ss g.0 (field g.0 ∷ p) q l g.1) in
    let i : h.0 ≡ g.0 = cc in
    f h.0 (field h.0 ∷ p) h.1 (subst (λ z. HasKindAt ss z (field z ∷ p) q l) (sym i) g.1)

pub key_value : key ≡ value → ⊥
key_value e = cc

mutual
  pub one_kind : (s : ShapeTree) (p q : Place) (k l : Kind) → HasKindFrom s p q k → HasKindFrom s p q l → k ≡ l
  one_kind unit_tree p q k l h g = absurd h
  one_kind never_tree p q k l h g = absurd h
  one_kind (leaf_tree m allowed) p q k l h g = h.1 ∙ sym g.1
  one_kind (seq_tree s) p q k l (inl h) (inl g) = h.1 ∙ sym g.1
  one_kind (seq_tree s) p q k l (inl h) (inr g) = absurd (under_not_above element p q (kind_under s (element ∷ p) q l g) h.0)
  one_kind (seq_tree s) p q k l (inr h) (inl g) = absurd (under_not_above element p q (kind_under s (element ∷ p) q k h) g.0)
  one_kind (seq_tree s) p q k l (inr h) (inr g) = one_kind s (element ∷ p) q k l h g
  one_kind (map_tree s v) p q k l (inl h) (inl g) = h.1 ∙ sym g.1
  one_kind (map_tree s v) p q k l (inl h) (inr (inl g)) = absurd (under_not_above key p q (kind_under s (key ∷ p) q l g) h.0)
  one_kind (map_tree s v) p q k l (inl h) (inr (inr g)) = absurd (under_not_above value p q (kind_under v (value ∷ p) q l g) h.0)
  one_kind (map_tree s v) p q k l (inr (inl h)) (inl g) = absurd (under_not_above key p q (kind_under s (key ∷ p) q k h) g.0)
  one_kind (map_tree s v) p q k l (inr (inr h)) (inl g) = absurd (under_not_above value p q (kind_under v (value ∷ p) q k h) g.0)
  one_kind (map_tree s v) p q k l (inr (inl h)) (inr (inl g)) = one_kind s (key ∷ p) q k l h g
  one_kind (map_tree s v) p q k l (inr (inr h)) (inr (inr g)) = one_kind v (value ∷ p) q k l h g
  one_kind (map_tree s v) p q k l (inr (inl h)) (inr (inr g)) = absurd (key_value (same_step_below key value p q (kind_under s (key ∷ p) q k h) (kind_under v (value ∷ p) q l g)))
  one_kind (map_tree s v) p q k l (inr (inr h)) (inr (inl g)) = absurd (key_value (same_step_below key value p q (kind_under s (key ∷ p) q l g) (kind_under v (value ∷ p) q k h)))
  one_kind (tuple_tree ss) p q k l h g = one_kind_tuple ss p q k l (λ j at x y. one_kind_at ss j at q k l x y) h g
  one_kind (choice_tree ss) p q k l (inl h) (inl g) = h.1 ∙ sym g.1
  one_kind (choice_tree ss) p q k l (inl h) (inr g) = absurd (under_not_above (variant g.0) p q (kind_under_at ss g.0 (variant g.0 ∷ p) q l g.1) h.0)
  one_kind (choice_tree ss) p q k l (inr h) (inl g) = absurd (under_not_above (variant h.0) p q (kind_under_at ss h.0 (variant h.0 ∷ p) q k h.1) g.0)
  one_kind (choice_tree ss) p q k l (inr h) (inr g) =
      let e : variant h.0 ≡ variant g.0 =
      same_step_below (variant h.0) (variant g.0) p q (kind_under_at ss h.0 (variant h.0 ∷ p) q k h.1) (kind_under_at ss g.0 (variant g.0 ∷ p) q l g.1) in
      let i : h.0 ≡ g.0 = cc in
      one_kind_at ss h.0 (variant h.0 ∷ p) q k l h.1 (subst (λ z. HasKindAt ss z (variant z ∷ p) q l) (sym i) g.1)
  one_kind (noted_tree note s) p q k l h g = one_kind s p q k l h g

  pub one_kind_at : (ss : ShapeTrees) (j : ℕ) (p q : Place) (k l : Kind) → HasKindAt ss j p q k → HasKindAt ss j p q l → k ≡ l
  one_kind_at no_trees j p q k l h g = absurd h
  one_kind_at (tree_and s ss) zero p q k l h g = one_kind s p q k l h g
  one_kind_at (tree_and s ss) (suc j) p q k l h g = one_kind_at ss j p q k l h g

pub each_without : (P : PlacedColumn → Type 0) (p : Place) (cs : List PlacedColumn) → AllByRecursion P cs → AllByRecursion P (without p cs)
each_without P p [] h = tt
each_without P p (c ∷ cs) h = elim (cases_Bool (same_place p c.place)) [ inl k ↦ rw k (each_without P p cs h.1) | inr k ↦ rw k (h.0, each_without P p cs h.1) ]

-- what holds of the kind of each use holds of the kind of each column
pub kind_columns : (K : Place → Kind → Type 0) (w : List Use) → AllByRecursion (λ (u : Use). K u.place u.kind) w
    → AllByRecursion (λ (c : PlacedColumn). K c.place c.kind) (columns w)
kind_columns K [] h = tt
kind_columns K (u ∷ w) h = (h.0, each_without (λ (c : PlacedColumn). K c.place c.kind) u.place (columns w) (kind_columns K w h.1))
