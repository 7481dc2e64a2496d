-- Each column of a walk has as many entries as the columns above it say.
use Rattle.std.proofs.Common.{◌≡◌, ℕ, zero, suc, ◌+◌, ◌<◌, inl, inr, List, [], ◌∷◌, ◌++◌, length, flat_map, map, refl, ap, sym, ◌∙◌, subst, arith, zero-add, ◌==◌, length-append, if◌then◌else◌, cond}
use Rattle.std.proofs.lemmas.List.Sums.{sum_by-cons}
use Rattle.std.proofs.lemmas.Grind.{flat_map-append}
use Rattle.std.proofs.lemmas.List.{length-map, append-nil}
use Rattle.std.proofs.lemmas.List.Folds.{flat_map-map}
use Rattle.std.proofs.lemmas.Bool.{eqb-false, cases_Bool, eqb-true}
use Rattle.bitcode_shapes.specs.Datum.{Datum, Data, natural_in, elements_in, first_of, rest_of, fields_in, first_in, second_in, variant_in, payload_in}
use Rattle.bitcode_coder.specs.Columns.{Kind}
use Rattle.bitcode_coder.specs.Spelling.{natural}
use Rattle.bitcode_coder.specs.Transposition.{length_entry, variant_entry}
use Rattle.bitcode_untyped.specs.PlacedColumns.{entries_at}
use Rattle.bitcode_untyped.specs.Population.{total, count_of, population}
use Rattle.bitcode_untyped.specs.ShapeTree.{ShapeTree, unit_tree, never_tree, leaf_tree, seq_tree, map_tree, tuple_tree, choice_tree, noted_tree, ShapeTrees, no_trees, tree_and, tree_at}
use Rattle.bitcode_untyped.specs.Walk.{element, key, value, variant, field, Place, Use, use_at, length_kind, index_kind, walk, walk_fields, walk_variant}
use Rattle.bitcode_untyped.proofs.DatumLemmas.{field_at}
use Rattle.bitcode_untyped.proofs.PlaceLemmas.{entries_here, entries_other, entries-append, Under, apart_above, apart_beside, under_step, under_not_above}
use Rattle.bitcode_untyped.proofs.HostLemmas.{Hosts, HostsAt, hosts_tree_at, walk_variant_at, apart_none}

-- Walks with the same entries at q, one after another.
pub entries_ext : {A : Type 0} (q : Place) (f g : A → List Use) → ((x : A) → entries_at q (f x) ≡ entries_at q (g x)) → (xs : List A)
    → entries_at q (flat_map f xs) ≡ entries_at q (flat_map g xs)
entries_ext q f g e [] = refl
entries_ext q f g e (x ∷ xs) =
    entries-append q (f x) (flat_map f xs) ∙ rw (e x, entries_ext q f g e xs) (sym (entries-append q (g x) (flat_map g xs)))

pub entries_heads : {A : Type 0} (p : Place) (k : Kind) (e : A → Datum) (g : A → List Use) → ((x : A) → entries_at p (g x) ≡ []) → (xs : List A)
    → entries_at p (flat_map (λ x. use_at p k (e x) ∷ g x) xs) ≡ map e xs
entries_heads p k e g h [] = refl
entries_heads p k e g h (x ∷ xs) =
    entries-append p (use_at p k (e x) ∷ g x) (flat_map (λ x. use_at p k (e x) ∷ g x) xs)
    ∙ rw (entries_here p k (e x) (g x), h x, entries_heads p k e g h xs) refl

pub flat_map_flat : {A B C : Type 0} (f : B → List C) (g : A → List B) (xs : List A) → flat_map (λ x. flat_map f (g x)) xs ≡ flat_map f (flat_map g xs)
flat_map_flat f g [] = refl
flat_map_flat f g (x ∷ xs) =
    ap (λ w. flat_map f (g x) ++ w) (flat_map_flat f g xs) ∙ sym (flat_map-append f (g x) (flat_map g xs))

pub total_lengths : (ds : List Datum) → total (map length_entry ds) ≡ length (flat_map elements_in ds)
total_lengths [] = refl
total_lengths (d ∷ ds) =
    sum_by-cons (λ n. n) (length (elements_in d)) (map natural_in (map length_entry ds))
    ∙ ap (λ n. length (elements_in d) + n) (total_lengths ds) ∙ sym (length-append (elements_in d) (flat_map elements_in ds))

abbrev pub chosen : ℕ → List Datum → List Datum
chosen j [] = []
chosen j (d ∷ ds) = if variant_in d == j then payload_in d ∷ chosen j ds else chosen j ds

pub count_chosen : (j : ℕ) (ds : List Datum) → count_of j (map variant_entry ds) ≡ length (chosen j ds)
count_chosen j [] = refl
count_chosen j (d ∷ ds) =
    let first = sum_by-cons (λ n. cond (n == j) 1 0) (variant_in d) (map natural_in (map variant_entry ds)) in
    elim (cases_Bool (variant_in d == j)) [
      | inl h ↦ rw h (first ∙ rw h (ap (λ n. 1 + n) (count_chosen j ds) ∙ omega arith))
      | inr h ↦ rw h (first ∙ rw h (ap (λ n. 0 + n) (count_chosen j ds) ∙ zero-add (length (chosen j ds))))
    ]

pub same_field : (i j : ℕ) → field i ≡ field j → i ≡ j
same_field i j e = cc

pub same_variant : (i j : ℕ) → variant i ≡ variant j → i ≡ j
same_variant i j e = cc

-- The fields behind i have no entry below field i.
pub fields_none : (ts : ShapeTrees) (p q : Place) (i m : ℕ) (xs : Data) → i < m → Under (field i ∷ p) q
    → entries_at q (walk_fields ts (λ z. field z ∷ p) m xs) ≡ []
fields_none no_trees p q i m xs h u = refl
fields_none (tree_and t ts) p q i m xs h u =
    let a = apart_none t (field m ∷ p) (first_of xs) q (apart_beside (field i) (field m) p q (λ e. let k : i ≡ m = same_field i m e in omega arith) u) in
    entries-append q (walk t (field m ∷ p) (first_of xs)) (walk_fields ts (λ z. field z ∷ p) (m + 1) (rest_of xs))
    ∙ rw (a, fields_none ts p q i (m + 1) (rest_of xs) (omega arith) u) refl

-- Below a field stand the entries of that field.
pub fields_at : (ts : ShapeTrees) (p q : Place) (i j m : ℕ) (xs : Data) → m ≡ i + j → Under (field m ∷ p) q
    → entries_at q (walk_fields ts (λ z. field z ∷ p) i xs) ≡ entries_at q (walk (tree_at ts j) (field m ∷ p) (field_at xs j))
fields_at no_trees p q i j m xs e u = refl
fields_at (tree_and t ts) p q i zero m xs e u =
    let k : m ≡ i = omega arith in
    let n = fields_none ts p q m (i + 1) (rest_of xs) (omega arith) u in
    entries-append q (walk t (field i ∷ p) (first_of xs)) (walk_fields ts (λ z. field z ∷ p) (i + 1) (rest_of xs)) ∙ rw (n, append-nil, k) refl
fields_at (tree_and t ts) p q i (suc j) m xs e u =
    let lt : i < m = omega arith in
    let a = apart_none t (field i ∷ p) (first_of xs) q (apart_beside (field m) (field i) p q (λ e. let k : m ≡ i = same_field m i e in omega arith) u) in
    entries-append q (walk t (field i ∷ p) (first_of xs)) (walk_fields ts (λ z. field z ∷ p) (i + 1) (rest_of xs))
    ∙ rw a (fields_at ts p q (i + 1) j m (rest_of xs) (omega arith) u)

-- Below a variant stand the entries of the payloads that have it.
pub variants_at : (ts : ShapeTrees) (p q : Place) (j : ℕ) → Under (variant j ∷ p) q → (ds : List Datum)
    → entries_at q (flat_map (walk (choice_tree ts) p) ds) ≡ entries_at q (flat_map (walk (tree_at ts j) (variant j ∷ p)) (chosen j ds))
variants_at ts p q j u [] = refl
variants_at ts p q j u (d ∷ ds) =
    let i = variant_in d in
    let w : List Use = walk (tree_at ts i) (variant i ∷ p) (payload_in d) in
    let first : entries_at q (walk (choice_tree ts) p d) ≡ entries_at q w =
    entries_other q p index_kind (natural i) (walk_variant ts i (variant i ∷ p) (payload_in d)) (under_not_above (variant j) p q u)
    ∙ ap (λ v. entries_at q v) (walk_variant_at ts i (variant i ∷ p) (payload_in d)) in
    let later : entries_at q (flat_map (walk (choice_tree ts) p) ds) ≡ entries_at q (flat_map (walk (tree_at ts j) (variant j ∷ p)) (chosen j ds)) =
    variants_at ts p q j u ds in
    let both : entries_at q (flat_map (walk (choice_tree ts) p) (d ∷ ds)) ≡ entries_at q w ++ entries_at q (flat_map (walk (tree_at ts j) (variant j ∷ p)) (chosen j ds)) =
    entries-append q (walk (choice_tree ts) p d) (flat_map (walk (choice_tree ts) p) ds) ∙ rw (first, later) refl in
    elim (cases_Bool (i == j)) [
      | inl h ↦ both ∙ rw h
          (subst (λ z. entries_at q (walk (tree_at ts z) (variant z ∷ p) (payload_in d)) ++ entries_at q (flat_map (walk (tree_at ts j) (variant j ∷ p)) (chosen j ds))
          ≡ entries_at q (walk (tree_at ts j) (variant j ∷ p) (payload_in d) ++ flat_map (walk (tree_at ts j) (variant j ∷ p)) (chosen j ds))) (sym (eqb-true i j h))
          (sym (entries-append q (walk (tree_at ts j) (variant j ∷ p) (payload_in d)) _)))
      | inr h ↦ both ∙ rw h (rw (apart_none (tree_at ts i) (variant i ∷ p) (payload_in d) q (apart_beside (variant j) (variant i) p q (λ e. eqb-false i j h (sym (same_variant j i e))) u)) refl)
    ]

-- Where the columns below p are those of data at p, and there are as many data as the columns above say, each
-- column of the shape has as many entries as the columns above it say.
abbrev pub Populated : ShapeTree → Type 0
Populated s =
    (p : Place) (M : Place → List Datum) (ds : List Datum) → population M p ≡ length ds → ((q : Place) → Under p q → M q ≡ entries_at q (flat_map (walk s p) ds))
    → (q : Place) → Hosts s p q → length (M q) ≡ population M q

abbrev pub Known : (Place → List Datum) → ShapeTree → Place → List Datum → Type 0
Known M s p ds = (q : Place) → Under p q → M q ≡ entries_at q (flat_map (walk s p) ds)

-- the column at the shape's own place
pub own_column : (M : Place → List Datum) (p : Place) (k : Kind) (e : Datum → Datum) (g : Datum → List Use) (ds : List Datum)
    → ((x : Datum) → entries_at p (g x) ≡ []) → population M p ≡ length ds → M p ≡ entries_at p (flat_map (λ x. use_at p k (e x) ∷ g x) ds)
    → (M p ≡ map e ds) × ((q : Place) → q ≡ p → length (M q) ≡ population M q)
own_column M p k e g ds clear n m =
    let h : M p ≡ map e ds = m ∙ entries_heads p k e g clear ds in
    let l : length (M p) ≡ population M p = ap length h ∙ length-map ds e ∙ sym n in
    (h, λ q eq. subst (λ z. length (M z) ≡ population M z) (sym eq) l)

pub skip_heads : (q p : Place) (k : Kind) (e : Datum → Datum) (g : Datum → List Use) (ds : List Datum) → (q ≡ p → ⊥)
    → entries_at q (flat_map (λ x. use_at p k (e x) ∷ g x) ds) ≡ entries_at q (flat_map g ds)
skip_heads q p k e g ds h = entries_ext q (λ x. use_at p k (e x) ∷ g x) g (λ x. entries_other q p k (e x) (g x) h) ds

pub none_each : {A : Type 0} (q : Place) (f : A → List Use) → ((x : A) → entries_at q (f x) ≡ []) → (xs : List A) → entries_at q (flat_map f xs) ≡ []
none_each q f h [] = refl
none_each q f h (x ∷ xs) = entries-append q (f x) (flat_map f xs) ∙ rw (h x, none_each q f h xs) refl

pub none_both : (q : Place) (v w : List Use) → entries_at q v ≡ [] → entries_at q w ≡ [] → entries_at q (v ++ w) ≡ []
none_both q v w a b = entries-append q v w ∙ rw (a, b) refl

pub only_first : (q : Place) (v w : List Use) → entries_at q w ≡ [] → entries_at q (v ++ w) ≡ entries_at q v
only_first q v w b = entries-append q v w ∙ rw (b, append-nil) refl

pub only_second : (q : Place) (v w : List Use) → entries_at q v ≡ [] → entries_at q (v ++ w) ≡ entries_at q w
only_second q v w a = entries-append q v w ∙ rw a refl

pub key_not_value : key ≡ value → ⊥
key_not_value e = cc

pub value_not_key : value ≡ key → ⊥
value_not_key e = cc

-- a tuple of one
pub populated_single : (t : ShapeTree) → Populated t → (p : Place) (M : Place → List Datum) (ds : List Datum) → population M p ≡ length ds
    → Known M (tuple_tree (tree_and t no_trees)) p ds → (q : Place) (j : ℕ) → HostsAt (tree_and t no_trees) j p q → length (M q) ≡ population M q
populated_single t one p M ds n known q zero h =
    one p M (map (λ d. first_in d) ds) (n ∙ sym (length-map ds (λ d. first_in d)))
    (λ r u. known r u ∙ entries_ext r (λ d. walk t p (first_in d) ++ []) (λ d. walk t p (first_in d)) (λ d. only_first r _ [] refl) ds ∙ ap (λ w. entries_at r w)
    (sym (flat_map-map (walk t p) (λ d. first_in d) ds))) q h
populated_single t one p M ds n known q (suc j) h = absurd h

pub populated_tuple : (ts : ShapeTrees) → ((j : ℕ) → Populated (tree_at ts j)) → Populated (tuple_tree ts)
populated_tuple no_trees each p M ds n known q h = absurd h.1
populated_tuple (tree_and t no_trees) each p M ds n known q h = populated_single t (each 0) p M ds n known q h.0 h.1
populated_tuple (tree_and t (tree_and u us)) each p M ds n known q h =
    let j = h.0 in
    let ts : ShapeTrees = tree_and t (tree_and u us) in
    let at_field : Known M (tree_at ts j) (field j ∷ p) (map (λ d. field_at (fields_in d) j) ds) =
    λ r w. known r (under_step (field j) p r w) ∙ entries_ext r (λ d. walk_fields ts (λ z. field z ∷ p) 0 (fields_in d))
    (λ d. walk (tree_at ts j) (field j ∷ p) (field_at (fields_in d) j)) (λ d. fields_at ts p r 0 j j (fields_in d) (omega arith) w) ds ∙ ap (λ w. entries_at r w)
    (sym (flat_map-map (walk (tree_at ts j) (field j ∷ p)) (λ d. field_at (fields_in d) j) ds)) in
    each j (field j ∷ p) M (map (λ d. field_at (fields_in d) j) ds) (n ∙ sym (length-map ds (λ d. field_at (fields_in d) j))) at_field q (hosts_tree_at ts j (field j ∷ p) q h.1)

mutual
  pub populated : (s : ShapeTree) → Populated s
  populated unit_tree p M ds n known q h = absurd h
  populated never_tree p M ds n known q h = absurd h
  populated (leaf_tree k allowed) p M ds n known q h =
      let own = own_column M p k (λ x. x) (λ x. []) ds (λ x. refl) n (known p ([], refl)) in own.1 q h
  populated (seq_tree t) p M ds n known q (inl h) =
      let own =
      own_column M p length_kind length_entry (λ x. flat_map (walk t (element ∷ p)) (elements_in x)) ds
      (λ x. none_each p (walk t (element ∷ p)) (λ y. apart_none t (element ∷ p) y p (apart_above element p)) (elements_in x)) n (known p ([], refl)) in own.1 q h
  populated (seq_tree t) p M ds n known q (inr h) =
      let own =
      own_column M p length_kind length_entry (λ x. flat_map (walk t (element ∷ p)) (elements_in x)) ds
      (λ x. none_each p (walk t (element ∷ p)) (λ y. apart_none t (element ∷ p) y p (apart_above element p)) (elements_in x)) n (known p ([], refl)) in
      let m : total (M p) ≡ length (flat_map elements_in ds) = ap total own.0 ∙ total_lengths ds in
      let below : Known M t (element ∷ p) (flat_map elements_in ds) =
      λ r u. known r (under_step element p r u) ∙ skip_heads r p length_kind length_entry (λ x. flat_map (walk t (element ∷ p)) (elements_in x)) ds
      (under_not_above element p r u) ∙ ap (λ w. entries_at r w) (flat_map_flat (walk t (element ∷ p)) elements_in ds) in
      populated t (element ∷ p) M (flat_map elements_in ds) m below q h
  populated (map_tree t v) p M ds n known q h =
      let f : Datum → List Use = λ e. walk t (key ∷ p) (first_in e) ++ walk v (value ∷ p) (second_in e) in
      let own =
      own_column M p length_kind length_entry (λ x. flat_map f (elements_in x)) ds
      (λ x. none_each p f (λ y. none_both p _ _ (apart_none t (key ∷ p) (first_in y) p (apart_above key p))
      (apart_none v (value ∷ p) (second_in y) p (apart_above value p))) (elements_in x)) n (known p ([], refl)) in
      let es = flat_map elements_in ds in
      let m : total (M p) ≡ length es = ap total own.0 ∙ total_lengths ds in
      let flat : (r : Place) → Under p r → (r ≡ p → ⊥) → M r ≡ entries_at r (flat_map f es) =
      λ r u a. known r u ∙ skip_heads r p length_kind length_entry (λ x. flat_map f (elements_in x)) ds a ∙ ap (λ w. entries_at r w) (flat_map_flat f elements_in ds) in
      let at_keys : Known M t (key ∷ p) (map first_in es) =
      λ r u. flat r (under_step key p r u) (under_not_above key p r u) ∙ entries_ext r f (λ e. walk t (key ∷ p) (first_in e))
      (λ e. only_first r _ _ (apart_none v (value ∷ p) (second_in e) r (apart_beside key value p r key_not_value u))) es ∙ ap (λ w. entries_at r w)
      (sym (flat_map-map (walk t (key ∷ p)) first_in es)) in
      let at_values : Known M v (value ∷ p) (map second_in es) =
      λ r u. flat r (under_step value p r u) (under_not_above value p r u) ∙ entries_ext r f (λ e. walk v (value ∷ p) (second_in e))
      (λ e. only_second r _ _ (apart_none t (key ∷ p) (first_in e) r (apart_beside value key p r value_not_key u))) es ∙ ap (λ w. entries_at r w)
      (sym (flat_map-map (walk v (value ∷ p)) second_in es)) in
      elim h [
        | inl e ↦ own.1 q e
        | inr (inl k) ↦ populated t (key ∷ p) M (map first_in es) (m ∙ sym (length-map es first_in)) at_keys q k
        | inr (inr k) ↦ populated v (value ∷ p) M (map second_in es) (m ∙ sym (length-map es second_in)) at_values q k
      ]
  populated (tuple_tree ts) p M ds n known q h = populated_tuple ts (populated_at ts) p M ds n known q h
  populated (choice_tree ts) p M ds n known q h =
      let own =
      own_column M p index_kind variant_entry (λ x. walk_variant ts (variant_in x) (variant (variant_in x) ∷ p) (payload_in x)) ds
      (λ x. ap (λ w. entries_at p w) (walk_variant_at ts (variant_in x) (variant (variant_in x) ∷ p) (payload_in x)) ∙ apart_none (tree_at ts (variant_in x))
      (variant (variant_in x) ∷ p) (payload_in x) p (apart_above (variant (variant_in x)) p)) n (known p ([], refl)) in
      elim h [
        | inl e ↦ own.1 q e
        | inr k ↦ populated_at ts k.0 (variant k.0 ∷ p) M (chosen k.0 ds) (ap (count_of k.0) own.0 ∙ count_chosen k.0 ds)
            (λ r u. known r (under_step (variant k.0) p r u) ∙ variants_at ts p r k.0 u ds) q (hosts_tree_at ts k.0 (variant k.0 ∷ p) q k.1)
      ]
  populated (noted_tree note t) p M ds n known q h = populated t p M ds n known q h

  pub populated_at : (ts : ShapeTrees) (j : ℕ) → Populated (tree_at ts j)
  populated_at no_trees j p M ds n known q h = absurd h
  populated_at (tree_and t ts) zero p M ds n known q h = populated t p M ds n known q h
  populated_at (tree_and t ts) (suc j) p M ds n known q h = populated_at ts j p M ds n known q h
