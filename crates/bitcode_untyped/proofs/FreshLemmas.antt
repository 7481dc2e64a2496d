-- The first column that is new, and the columns above each place.
use Rattle.std.proofs.Common.{◌≡◌, ℕ, zero, suc, ◌+◌, inl, inr, List, [], ◌∷◌, ◌++◌, flat_map, refl, ap, sym, subst, Bool, true, false, not, filter, ◌||◌}
use Rattle.std.proofs.lemmas.Bool.{cases_Bool, or_left, or_right, or_cases}
use Rattle.std.specs.List.{AllByRecursion}
use Rattle.bitcode_shapes.specs.Datum.{Datum, Data, elements_in, first_of, rest_of, fields_in, first_in, second_in, variant_in, payload_in}
use Rattle.bitcode_untyped.specs.PlacedColumns.{same_place, entries_at, PlacedColumn, without, columns}
use Rattle.bitcode_untyped.specs.Population.{total, count_of, population}
use Rattle.bitcode_untyped.specs.ShapeTree.{ShapeTree, unit_tree, never_tree, leaf_tree, seq_tree, map_tree, tuple_tree, choice_tree, noted_tree, ShapeTrees, no_trees, tree_and}
use Rattle.bitcode_untyped.specs.Walk.{element, key, value, variant, field, Place, Use, field_place, walk, walk_fields, walk_variant}
use Rattle.bitcode_untyped.proofs.PlaceLemmas.{same_place-true, same_place-refl}

abbrev pub fresh : (Place → Bool) → List PlacedColumn → List PlacedColumn
fresh z cs = filter (λ c. not (z c.place)) cs

-- z, and p too
abbrev pub also : Place → (Place → Bool) → Place → Bool
also p z q = same_place p q || z q

abbrev pub AllIn : (Place → Bool) → List Use → Type 0
AllIn z w = AllByRecursion (λ (u : Use). z u.place ≡ true) w

-- What is at a place of z is not fresh anyway.
pub fresh_without : (z : Place → Bool) (p : Place) (cs : List PlacedColumn) → z p ≡ true → fresh z (without p cs) ≡ fresh z cs
fresh_without z p [] h = refl
fresh_without z p (c ∷ cs) h =
    elim (cases_Bool (same_place p c.place)) [
      | inl k ↦
          let o : z c.place ≡ true = subst (λ q. z q ≡ true) (same_place-true p c.place k) h in
          rw (k, o) (fresh_without z p cs h)
      | inr k ↦ elim (cases_Bool (z c.place)) [ inl m ↦ rw (k, m) (fresh_without z p cs h) | inr m ↦ rw (k, m) (ap (λ (xs : List PlacedColumn). c ∷ xs) (fresh_without z p cs h)) ]
    ]

pub fresh_also : (z : Place → Bool) (p : Place) (cs : List PlacedColumn) → fresh z (without p cs) ≡ fresh (also p z) (without p cs)
fresh_also z p [] = refl
fresh_also z p (c ∷ cs) =
    elim (cases_Bool (same_place p c.place)) [
      | inl k ↦ rw k (fresh_also z p cs)
      | inr k ↦ elim (cases_Bool (z c.place)) [ inl m ↦ rw (k, k, m) (fresh_also z p cs) | inr m ↦ rw (k, k, m) (ap (λ (xs : List PlacedColumn). c ∷ xs) (fresh_also z p cs)) ]
    ]

-- Where all places so far are in z and the next is not, it has the first fresh column.
pub fresh_first : (z : Place → Bool) (w : List Use) (u : Use) (t : List Use) → AllIn z w → z u.place ≡ false
    → fresh z (columns (w ++ u ∷ t)) ≡ record { place = u.place; kind = u.kind; entries = entries_at u.place (w ++ u ∷ t) } ∷ fresh (also u.place z) (columns (w ++ u ∷ t))
fresh_first z [] u t all h =
    rw (h, same_place-refl u.place, fresh_also z u.place (columns t)) refl
fresh_first z (v ∷ w) u t all h =
    let differ : same_place u.place v.place ≡ false = elim (cases_Bool (same_place u.place v.place)) [
      | inl k ↦ absurd (let m : z u.place ≡ true = subst (λ q. z q ≡ true) (sym (same_place-true u.place v.place k)) all.0 in cc)
      | inr k ↦ k
    ] in
    let in_also : also u.place z v.place ≡ true = or_right (same_place u.place v.place) _ all.0 in
    rw (all.0, differ, fresh_without z v.place (columns (w ++ u ∷ t)) all.0, fresh_without (also u.place z) v.place (columns (w ++ u ∷ t)) in_also) (fresh_first z w u t all.1 h)

-- the column that tells how many data stand at the place is in z
abbrev pub GroundedBy : (Place → Bool) → Place → Type 0
GroundedBy z [] = Unit {0}
GroundedBy z (element ∷ p) = z p ≡ true
GroundedBy z (key ∷ p) = z p ≡ true
GroundedBy z (value ∷ p) = z p ≡ true
GroundedBy z (variant i ∷ p) = z p ≡ true
GroundedBy z (field i ∷ p) = GroundedBy z p

abbrev pub GroundedWalk : (Place → Bool) → List Use → Type 0
GroundedWalk z [] = Unit {0}
GroundedWalk z (u ∷ w) = GroundedBy z u.place × GroundedWalk (also u.place z) w

abbrev pub Within : (Place → Bool) → (Place → Bool) → Type 0
Within z y = (q : Place) → z q ≡ true → y q ≡ true

pub grounded_within : (z y : Place → Bool) → Within z y → (q : Place) → GroundedBy z q → GroundedBy y q
grounded_within z y h [] g = tt
grounded_within z y h (element ∷ p) g = h p g
grounded_within z y h (key ∷ p) g = h p g
grounded_within z y h (value ∷ p) g = h p g
grounded_within z y h (variant i ∷ p) g = h p g
grounded_within z y h (field i ∷ p) g = grounded_within z y h p g

pub also_within : (z y : Place → Bool) (p : Place) → Within z y → Within (also p z) (also p y)
also_within z y p h q k = elim (or_cases (same_place p q) (z q) k) [ inl e ↦ or_left _ _ e | inr e ↦ or_right (same_place p q) _ (h q e) ]

pub walk_within : (z y : Place → Bool) (w : List Use) → Within z y → GroundedWalk z w → GroundedWalk y w
walk_within z y [] h g = tt
walk_within z y (u ∷ w) h g = (grounded_within z y h u.place g.0, walk_within (also u.place z) (also u.place y) w (also_within z y u.place h) g.1)

pub within_also : (z : Place → Bool) (p : Place) → Within z (also p z)
within_also z p q h = or_right (same_place p q) (z q) h

pub grounded_then : (z : Place → Bool) (v w : List Use) → GroundedWalk z v → GroundedWalk z w → GroundedWalk z (v ++ w)
grounded_then z [] w g h = h
grounded_then z (u ∷ v) w g h = (g.0, grounded_then (also u.place z) v w g.1 (walk_within z (also u.place z) w (within_also z u.place) h))

pub grounded_each : {A : Type 0} (z : Place → Bool) (f : A → List Use) → ((x : A) → GroundedWalk z (f x)) → (xs : List A) → GroundedWalk z (flat_map f xs)
grounded_each z f h [] = tt
grounded_each z f h (x ∷ xs) = grounded_then z (f x) (flat_map f xs) (h x) (grounded_each z f h xs)

pub here_too : (z : Place → Bool) (p : Place) → also p z p ≡ true
here_too z p = or_left (same_place p p) (z p) (same_place-refl p)

pub grounded_field : (z : Place → Bool) (ts : ShapeTrees) (p : Place) (i : ℕ) → GroundedBy z p → GroundedBy z (field_place ts p i)
grounded_field z no_trees p i g = g
grounded_field z (tree_and t no_trees) p i g = g
grounded_field z (tree_and t (tree_and u us)) p i g = g

mutual
  -- In a walk each place comes after the place that tells how many data stand at it.
  pub walk_grounded : (s : ShapeTree) (p : Place) (d : Datum) (z : Place → Bool) → GroundedBy z p → GroundedWalk z (walk s p d)
  walk_grounded unit_tree p d z g = tt
  walk_grounded never_tree p d z g = tt
  walk_grounded (leaf_tree k allowed) p d z g = (g, tt)
  walk_grounded (seq_tree t) p d z g = (g, grounded_each (also p z) (walk t (element ∷ p)) (λ x. walk_grounded t (element ∷ p) x (also p z) (here_too z p)) (elements_in d))
  walk_grounded (map_tree t v) p d z g = (
    g,
    grounded_each (also p z) (λ e. walk t (key ∷ p) (first_in e) ++ walk v (value ∷ p) (second_in e))
        (λ x. grounded_then (also p z) _ _ (walk_grounded t (key ∷ p) (first_in x) (also p z) (here_too z p)) (walk_grounded v (value ∷ p) (second_in x) (also p z) (here_too z p))) (elements_in d),
  )
  walk_grounded (tuple_tree ts) p d z g = walk_grounded_fields ts (field_place ts p) 0 (fields_in d) z (λ i. grounded_field z ts p i g)
  walk_grounded (choice_tree ts) p d z g = (g, walk_grounded_variant ts (variant_in d) (variant (variant_in d) ∷ p) (payload_in d) (also p z) (here_too z p))
  walk_grounded (noted_tree note t) p d z g = walk_grounded t p d z g

  pub walk_grounded_fields : (ts : ShapeTrees) (at : ℕ → Place) (i : ℕ) (xs : Data) (z : Place → Bool) → ((i : ℕ) → GroundedBy z (at i))
      → GroundedWalk z (walk_fields ts at i xs)
  walk_grounded_fields no_trees at i xs z g = tt
  walk_grounded_fields (tree_and t ts) at i xs z g =
      grounded_then z _ _ (walk_grounded t (at i) (first_of xs) z (g i)) (walk_grounded_fields ts at (i + 1) (rest_of xs) z g)

  pub walk_grounded_variant : (ts : ShapeTrees) (i : ℕ) (p : Place) (d : Datum) (z : Place → Bool) → GroundedBy z p → GroundedWalk z (walk_variant ts i p d)
  walk_grounded_variant no_trees i p d z g = tt
  walk_grounded_variant (tree_and t ts) zero p d z g = walk_grounded t p d z g
  walk_grounded_variant (tree_and t ts) (suc i) p d z g = walk_grounded_variant ts i p d z g

-- Where all places so far are in y, the next is grounded by y.
pub grounded_at : (z y : Place → Bool) (w : List Use) (u : Use) (t : List Use) → Within z y → AllIn y w → GroundedWalk z (w ++ u ∷ t) → GroundedBy y u.place
grounded_at z y [] u t h all g = grounded_within z y h u.place g.0
grounded_at z y (v ∷ w) u t h all g =
    let h' : Within (also v.place z) y =
    λ q k. elim (or_cases (same_place v.place q) (z q) k) [ inl e ↦ subst (λ r. y r ≡ true) (same_place-true v.place q e) all.0 | inr e ↦ h q e ] in
    grounded_at (also v.place z) y w u t h' all.1 g.1

-- Columns that agree on y give one population to what y grounds.
pub population_by : (y : Place → Bool) (M N : Place → List Datum) → ((q : Place) → y q ≡ true → M q ≡ N q) → (q : Place) → GroundedBy y q
    → population M q ≡ population N q
population_by y M N h [] g = refl
population_by y M N h (element ∷ p) g = ap total (h p g)
population_by y M N h (key ∷ p) g = ap total (h p g)
population_by y M N h (value ∷ p) g = ap total (h p g)
population_by y M N h (variant i ∷ p) g = ap (count_of i) (h p g)
population_by y M N h (field i ∷ p) g = population_by y M N h p g
