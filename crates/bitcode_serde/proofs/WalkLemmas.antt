-- Writing lists, maps, variants and tuples, part by part.
use Rattle.std.proofs.Common.{◌≡◌, ◌≢◌, ℕ, zero, suc, ◌+◌, ◌-◌, ◌<◌, ◌≤◌, inl, inr, List, [], ◌∷◌, ◌++◌, length, map, take, drop, Some, None, slice_get, refl, ap, sym, subst, ◌∙◌, arith, add-one, sub-one, append_assoc}
use Rattle.std.specs.Prelude.{Result, Ok, Err, OnOk, IfErr}
use Rattle.std.specs.List.{AllByRecursion, flat_map}
use Rattle.std.proofs.lemmas.List.{append-nil, length-map}
use Rattle.std.proofs.lemmas.List.Folds.{flat_map-map}
use Rattle.std.proofs.lemmas.Grind.{flat_map-append}
use Rattle.std.proofs.Math.Seq.{take-length}
use Rattle.bitcode_memory.specs.declared.error.Error.{Error}
use Rattle.bitcode_memory.specs.declared.error.Reason.{Reason}
use Rattle.bitcode_memory.specs.declared.error.Reason.TheVariants.{OutOfMemory, NotOfTheShape}
use Rattle.bitcode_shapes.specs.Datum.{Datum, Data, datum_and, list, tuple, choice, pair, list_of, data_of, first_in, second_in}
use Rattle.bitcode_coder.specs.Columns.{Kind}
use Rattle.bitcode_coder.specs.Spelling.{natural}
use Rattle.bitcode_untyped.specs.Faults.{Judge, faults_of_fields, faults_of}
use Rattle.bitcode_untyped.specs.Growing.{put}
use Rattle.bitcode_untyped.specs.PlaceKinds.{HasKindFrom, HasKindAt}
use Rattle.bitcode_untyped.specs.ShapeTree.{Note, ShapeTree, leaf_tree, ShapeTrees, no_trees, tree_and, map_tree, tuple_tree, choice_tree, noted_tree, IsAdmitted, IsOf, AreOf, IsOfVariant, IsPair}
use Rattle.bitcode_untyped.specs.View.{datum_of, followed, tree_of_node, trees_of}
use Rattle.bitcode_untyped.specs.Walk.{key, value, variant, Place, Use, use_at, length_kind, index_kind, field_place, walk, walk_fields, walk_variant}
use Rattle.bitcode_untyped.specs.declared.shape.ShapeNode.{ShapeNode}
use Rattle.bitcode_untyped.specs.declared.shape.ShapeNode.TheVariants as node
use Rattle.bitcode_untyped.specs.declared.value.Value.{Value}
use Rattle.bitcode_untyped.proofs.EachLemmas.{each_if, each_append, each_front, each_flat}
use Rattle.bitcode_untyped.proofs.FaultLemmas.{faults-Ref, faults-away}
use Rattle.bitcode_untyped.proofs.FollowedLemmas.{followed_one, entry_there}
use Rattle.bitcode_untyped.proofs.KindLemmas.{kinded}
use Rattle.bitcode_untyped.proofs.ViewLemmas.{tree-Ref}
use Rattle.bitcode_serde.specs.ReadingValues.{field_at}
use Rattle.bitcode_serde.specs.Serializing.{Outcome, IsEntryAt, IsVariant}
use Rattle.bitcode_serde.specs.Writing.{written, place_in, Grows, Writes, AreOfShape, IsAmong, RefusesAt}
use Rattle.bitcode_serde.specs.declared.writer.state.Writer.{Writer}
use Rattle.bitcode_serde.proofs.FieldLemmas.{field_of}
use Rattle.bitcode_serde.proofs.OutcomeLemmas.{when_ok}
use Rattle.bitcode_serde.proofs.SerializeLemmas.{grows_same, grows_then, kept, writes_put, writes_none, writes_then, refuses_use, refuses_inside, among_front, among_back, listed, each_map, same_outcome}

-- ---- the entry at a number

pub take_entry : {A : Type 0} (xs : List A) (i : ℕ) (x : A) → slice_get xs i ≡ Some x → take (suc i) xs ≡ take i xs ++ x ∷ []
take_entry [] i x h = cc
take_entry (y ∷ xs) zero x h = let e : y ≡ x = cc in ap (λ z. z ∷ []) e
take_entry (y ∷ xs) (suc i) x h = ap (λ zs. y ∷ zs) (take_entry xs i x h)

pub drop_entry : {A : Type 0} (xs : List A) (i : ℕ) (x : A) → slice_get xs i ≡ Some x → drop i xs ≡ x ∷ drop (suc i) xs
drop_entry [] i x h = cc
drop_entry (y ∷ xs) zero x h = let e : y ≡ x = cc in ap (λ z. z ∷ xs) e
drop_entry (y ∷ xs) (suc i) x h = drop_entry xs i x h

drop_past : {A : Type 0} (xs : List A) (i : ℕ) → length xs ≤ i → drop i xs ≡ []
drop_past [] zero h = refl
drop_past [] (suc i) h = refl
drop_past (x ∷ xs) zero h = absurd (omega (arith, h))
drop_past (x ∷ xs) (suc i) h = drop_past xs i (omega (arith, h))

flat_more : {A B : Type 0} (f : A → List B) (xs : List A) (i : ℕ) (x : A) → slice_get xs i ≡ Some x
    → flat_map f (take (i + 1) xs) ≡ flat_map f (take i xs) ++ f x
flat_more f xs i x h =
    ap (λ j. flat_map f (take j xs)) (add-one i) ∙ ap (flat_map f) (take_entry xs i x h) ∙ flat_map-append f (take i xs) (x ∷ [])
    ∙ ap (λ ys. flat_map f (take i xs) ++ ys) (append-nil (f x))

pub among_entry : {A : Type 0} (reason : Reason) (f : A → List Reason) (xs : List A) (i : ℕ) (x : A) → slice_get xs i ≡ Some x
    → IsAmong reason (f x) → IsAmong reason (flat_map f xs)
among_entry reason f [] i x h a = cc
among_entry reason f (y ∷ xs) zero x h a = let e : x ≡ y = cc in among_front reason (f y) (flat_map f xs) (subst (λ z. IsAmong reason (f z)) e a)
among_entry reason f (y ∷ xs) (suc i) x h a = among_back reason (f y) (flat_map f xs) (among_entry reason f xs i x h a)

-- ---- what is written one after another

-- The first i were written, all of them are what they should be, and none has a fault.
pub record EachWritten {A : Type 0} (uses : A → List Use) (Is : A → Type 0) (faults : A → List Reason) (xs : List A) (start : Writer) (i : ℕ) (now : Writer) :
    Type 0 where
  pub written : Writes start (flat_map uses (take i xs)) now
  pub are : AllByRecursion Is (take i xs)
  pub whole : flat_map faults (take i xs) ≡ []

module _ {A : Type 0} (uses : A → List Use) (Is : A → Type 0) (faults : A → List Reason) (xs : List A) (start : Writer) where
  pub each_none : EachWritten uses Is faults xs start 0 start
  each_none = record { written = writes_none start start (grows_same start start refl) refl; are = tt; whole = refl }

  pub each_more : (i : ℕ) (x : A) (now new : Writer) → slice_get xs i ≡ Some x → EachWritten uses Is faults xs start i now
      → Writes now (uses x) new → Is x → faults x ≡ [] → EachWritten uses Is faults xs start (i + 1) new
  each_more i x now new there so_far step is whole = record {
    written = subst (λ w. Writes start w new) (sym (flat_more uses xs i x there)) (writes_then start now new _ _ so_far.written step);
    are = subst (AllByRecursion Is) (sym (ap (λ j. take j xs) (add-one i) ∙ take_entry xs i x there)) (each_append Is (take i xs) (x ∷ []) so_far.are (is, tt));
    whole = flat_more faults xs i x there ∙ ap (λ ys. ys ++ faults x) so_far.whole ∙ whole;
  }

  pub each_all : (i : ℕ) (now : Writer) → length xs ≤ i → i ≤ length xs → EachWritten uses Is faults xs start i now
      → Writes start (flat_map uses xs) now × AllByRecursion Is xs × (flat_map faults xs ≡ [])
  each_all i now low high so_far =
      let last : i ≡ length xs = omega (arith, low, high) in
      let e : take i xs ≡ xs = ap (λ j. take j xs) last ∙ take-length xs in (
        subst (λ ys. Writes start (flat_map uses ys) now) e so_far.written,
        subst (AllByRecursion Is) e so_far.are,
        sym (ap (flat_map faults) e) ∙ so_far.whole,
      )

-- what was written at a place that was known before
pub written_there : (start now new : Writer) (s : ShapeTree) (m : ℕ) (d : Datum) → Grows start now → m ≤ length start.places.below.items
    → Writes now (walk s (place_in now m) d) new → Writes now (walk s (place_in start m) d) new
written_there start now new s m d g inside w = subst (λ p. Writes now (walk s p d) new) (kept start now m g inside) w

-- ---- a part that ends what is written

pub outcome_inside : {A : Type 0} (old start new : Writer) (tree sub : ShapeTree) (n m : ℕ) (d e : Datum) (done : List Use) (faults : List Reason)
    (r : Result A Error)
    → Writes old done start → AllByRecursion (λ u. HasKindFrom tree (place_in old n) u.place u.kind) done
    → ((q : Place) (kind : Kind) → HasKindFrom sub (place_in start m) q kind → HasKindFrom tree (place_in old n) q kind)
    → done ++ walk sub (place_in start m) e ≡ walk tree (place_in old n) d → (IsOf sub e → IsOf tree d)
    → Outcome start sub m e faults r new → Outcome old tree n d faults r new
outcome_inside old start new tree sub n m d e done faults (Ok a) first kinds inside walked of o = record {
  written = subst (λ w. Writes old w new) walked (writes_then old start new _ _ first o.written);
  of_tree = of o.of_tree;
  whole = o.whole;
  refused = tt;
}
outcome_inside old start new tree sub n m d e done faults (Err y) first kinds inside walked of o = record {
  written = tt;
  of_tree = tt;
  whole = tt;
  refused = refuses_inside old start tree sub n m done faults faults y.reason first kinds inside (λ a. a) o.refused;
}

-- ---- one use

pub use_outcome : {A : Type 0} (old new : Writer) (tree : ShapeTree) (n : ℕ) (d entry : Datum) (kind : Kind) (r : Result A Error)
    → walk tree (place_in old n) d ≡ use_at (place_in old n) kind entry ∷ [] → HasKindFrom tree (place_in old n) (place_in old n) kind → IsOf tree d
    → OnOk r (new.places.below ≡ old.places.below) → OnOk r (written new ≡ put (use_at (place_in old n) kind entry) (written old))
    → IfErr r (λ e. (root : ShapeTree) → AreOfShape root (written old) → HasKindFrom root [] (place_in old n) kind → e.reason ≡ OutOfMemory)
    → Outcome old tree n d [] r new
use_outcome old new tree n d entry kind (Ok a) walked has of below more refused = record {
  written = subst (λ w. Writes old w new) (sym walked) (writes_put old new (use_at (place_in old n) kind entry) below more);
  of_tree = of;
  whole = refl;
  refused = tt;
}
use_outcome old new tree n d entry kind (Err e) walked has of below more refused =
    record { written = tt; of_tree = tt; whole = tt; refused = refuses_use old tree n [] e.reason (place_in old n) kind refused has }

-- the entry that a leaf is
pub leaf_outcome : {A : Type 0} (old new : Writer) (n : ℕ) (nd : ShapeNode) (v : Value) (kind : Kind) (d : Datum) (r : Result A Error) → IsEntryAt nd v kind d
    → OnOk r (new.places.below ≡ old.places.below) → OnOk r (written new ≡ put (use_at (place_in old n) kind d) (written old))
    → IfErr r (λ e. (root : ShapeTree) → AreOfShape root (written old) → HasKindFrom root [] (place_in old n) kind → e.reason ≡ OutOfMemory)
    → (table : List ShapeNode) (left : ℕ) → Outcome old (tree_of_node left table nd) n (datum_of v) (faults_of table v left nd) r new
leaf_outcome old new n nd v kind d r entry below more refused table left =
    same_outcome old (tree_of_node left table nd) (leaf_tree kind entry.allowed) n (datum_of v) d (faults_of table v left nd) [] r new
    (entry.tree (followed left table)) entry.datum (entry.whole table left)
    (use_outcome old new (leaf_tree kind entry.allowed) n d d kind r refl (refl, refl) entry.of_tree below more refused)

-- ---- references

pub reference_there : (left : ℕ) (table : List ShapeNode) (i : ℕ) (n : ShapeNode) → 0 < left → slice_get table i ≡ Some n
    → tree_of_node left table (node.Ref i) ≡ tree_of_node (left - 1) table n
reference_there left table i n some there =
    tree-Ref (followed left table) i ∙ followed_one left table i some ∙ entry_there (followed (left - 1) table) table i n there

pub faults_there : (left : ℕ) (table : List ShapeNode) (v : Value) (i : ℕ) (n : ShapeNode) → 0 < left → slice_get table i ≡ Some n
    → faults_of table v left (node.Ref i) ≡ faults_of table v (left - 1) n
faults_there zero table v i n some there = absurd (omega (arith, some))
faults_there (suc left) table v i n some there = rw sub-one (faults-Ref table v left i n there)

pub faults_nowhere : (left : ℕ) (table : List ShapeNode) (v : Value) (i : ℕ) → 0 < left → slice_get table i ≡ None
    → faults_of table v left (node.Ref i) ≡ NotOfTheShape ∷ []
faults_nowhere zero table v i some away = absurd (omega (arith, some))
faults_nowhere (suc left) table v i some away = faults-away table v left i away

-- ---- variants

pub walk_of_variant : (ss : ShapeTrees) (i : ℕ) (t : ShapeTree) (p : Place) (d : Datum) → IsVariant ss i t → walk_variant ss i p d ≡ walk t p d
walk_of_variant no_trees i t p d h = absurd h
walk_of_variant (tree_and s ss) zero t p d h = ap (λ z. walk z p d) h
walk_of_variant (tree_and s ss) (suc i) t p d h = walk_of_variant ss i t p d h

pub kind_of_variant : (ss : ShapeTrees) (i : ℕ) (t : ShapeTree) (p q : Place) (kind : Kind) → IsVariant ss i t → HasKindFrom t p q kind → HasKindAt ss i p q kind
kind_of_variant no_trees i t p q kind h k = absurd h
kind_of_variant (tree_and s ss) zero t p q kind h k = subst (λ z. HasKindFrom z p q kind) (sym h) k
kind_of_variant (tree_and s ss) (suc i) t p q kind h k = kind_of_variant ss i t p q kind h k

pub of_variant : (ss : ShapeTrees) (i : ℕ) (t : ShapeTree) (d : Datum) → IsVariant ss i t → IsOf t d → IsOfVariant ss i d
of_variant no_trees i t d h k = absurd h
of_variant (tree_and s ss) zero t d h k = subst (λ z. IsOf z d) (sym h) k
of_variant (tree_and s ss) (suc i) t d h k = of_variant ss i t d h k

pub variant_there : (f : ShapeNode → ShapeTree) (ns : List ShapeNode) (i : ℕ) (n : ShapeNode) → slice_get ns i ≡ Some n → IsVariant (trees_of (map f ns)) i (f n)
variant_there f [] i n h = cc
variant_there f (m ∷ ns) zero n h = let e : m ≡ n = cc in ap f e
variant_there f (m ∷ ns) (suc i) n h = variant_there f ns i n h

-- an index, and then what the variant holds
pub variant_outcome : {A : Type 0} (old start new : Writer) (ss : ShapeTrees) (t : ShapeTree) (i n m : ℕ) (e : Datum) (faults : List Reason) (r : Result A Error)
    → IsVariant ss i t → i ≤ 255 → Writes old (use_at (place_in old n) index_kind (natural i) ∷ []) start → place_in start m ≡ variant i ∷ place_in old n
    → Outcome start t m e faults r new → Outcome old (choice_tree ss) n (choice i e) faults r new
variant_outcome old start new ss t i n m e faults r is small first at o =
    let p = place_in old n in
    outcome_inside old start new (choice_tree ss) t n m (choice i e) e (use_at p index_kind (natural i) ∷ []) faults r first (inl (refl, refl), tt)
    (λ q kind h. inr (i, kind_of_variant ss i t (variant i ∷ p) q kind is (subst (λ z. HasKindFrom t z q kind) at h)))
    (ap (λ w. use_at p index_kind (natural i) ∷ w) (ap (λ z. walk t z e) at ∙ sym (walk_of_variant ss i t (variant i ∷ p) e is)))
    (λ of. (refl, small, of_variant ss i t e is of)) o

-- ---- notes

pub noted_outcome : {A : Type 0} (note : Note) (old new : Writer) (s : ShapeTree) (n : ℕ) (d : Datum) (faults : List Reason) (r : Result A Error)
    → IsAdmitted note d → Outcome old s n d faults r new → Outcome old (noted_tree note s) n d faults r new
noted_outcome note old new s n d faults r admitted o =
    record { written = o.written; of_tree = when_ok r (λ of. (of, admitted)) o.of_tree; whole = o.whole; refused = o.refused }

-- ---- maps

module _ {A : Type 0} (k v : ShapeTree) (first second : A → Datum) (xs : List A) where
  abbrev pub pair_of : A → Datum
  pair_of x = pair (first x) (second x)

  abbrev pub pair_uses : Place → Place → A → List Use
  pair_uses keys values x = walk k keys (first x) ++ walk v values (second x)

  pub map_walk : (p : Place) → walk (map_tree k v) p (list (data_of (map pair_of xs)))
      ≡ use_at p length_kind (natural (length xs)) ∷ flat_map (pair_uses (key ∷ p) (value ∷ p)) xs
  map_walk p =
      let f : Datum → List Use = λ e. walk k (key ∷ p) (first_in e) ++ walk v (value ∷ p) (second_in e) in
      let e : list_of (data_of (map pair_of xs)) ≡ map pair_of xs = listed (map pair_of xs) in
      ap (λ ds. use_at p length_kind (natural (length ds)) ∷ flat_map f ds) e
      ∙ ap (λ n. use_at p length_kind (natural n) ∷ flat_map f (map pair_of xs)) (length-map xs pair_of)
      ∙ ap (λ w. use_at p length_kind (natural (length xs)) ∷ w) (flat_map-map f pair_of xs)

  pub map_is : AllByRecursion (λ x. IsOf k (first x) × IsOf v (second x)) xs → IsOf (map_tree k v) (list (data_of (map pair_of xs)))
  map_is each =
      let e : list_of (data_of (map pair_of xs)) ≡ map pair_of xs = listed (map pair_of xs) in (
        sym (ap (λ ds. list (data_of ds)) e),
        subst (AllByRecursion (IsPair (IsOf k) (IsOf v))) (sym e)
            (each_map (IsPair (IsOf k) (IsOf v)) pair_of xs (each_if (λ x. IsOf k (first x) × IsOf v (second x)) (λ x. IsPair (IsOf k) (IsOf v) (pair_of x))
            (λ x h. (refl, h.0, h.1)) xs each)),
      )

  -- the uses of the first pairs, and of the key of the next one, are of the map
  pub pair_kinds : (p : Place) (n i : ℕ) (done : List Use) → AllByRecursion (λ u. HasKindFrom (map_tree k v) p u.place u.kind) done
      → AllByRecursion (λ u. HasKindFrom (map_tree k v) p u.place u.kind)
      (use_at p length_kind (natural n) ∷ (flat_map (pair_uses (key ∷ p) (value ∷ p)) (take i xs) ++ done))
  pair_kinds p n i done also =
      let P : Use → Type 0 = λ u. HasKindFrom (map_tree k v) p u.place u.kind in (
        inl (refl, refl),
        each_append P (flat_map (pair_uses (key ∷ p) (value ∷ p)) (take i xs)) done
            (each_flat P (pair_uses (key ∷ p) (value ∷ p))
            (λ x. each_append P _ _
            (each_if (λ (u : Use). HasKindFrom k (key ∷ p) u.place u.kind) P (λ u h. inr (inl h)) _ (kinded k (key ∷ p) (first x)))
            (each_if (λ (u : Use). HasKindFrom v (value ∷ p) u.place u.kind) P (λ u h. inr (inr h)) _ (kinded v (value ∷ p) (second x)))) (take i xs))
            also,
      )

  -- a key was refused
  pub key_refused : (old start now : Writer) (n keys values count i : ℕ) (faults part : List Reason) (reason : Reason)
      → Writes old (use_at (place_in old n) length_kind (natural count) ∷ []) start → place_in start keys ≡ key ∷ place_in old n
      → place_in start values ≡ value ∷ place_in old n
      → keys ≤ length start.places.below.items → Writes start (flat_map (pair_uses (place_in start keys) (place_in start values)) (take i xs)) now
      → (IsAmong reason part → IsAmong reason faults) → RefusesAt now k keys part reason → RefusesAt old (map_tree k v) n faults reason
  key_refused old start now n keys values count i faults part reason first at_keys at_values inside so_far among refused =
      let p = place_in old n in
      let pairs : List Use = flat_map (pair_uses (key ∷ p) (value ∷ p)) (take i xs) in
      let rest : Writes start (pairs ++ []) now = subst (λ w. Writes start w now) (sym (append-nil pairs))
      (subst (λ q. Writes start (flat_map (pair_uses q (value ∷ p)) (take i xs)) now) at_keys
      (subst (λ q. Writes start (flat_map (pair_uses (place_in start keys) q) (take i xs)) now) at_values so_far)) in
      refuses_inside old now (map_tree k v) k n keys (use_at p length_kind (natural count) ∷ (pairs ++ [])) faults part reason
      (writes_then old start now (use_at p length_kind (natural count) ∷ []) _ first rest) (pair_kinds p count i [] tt)
      (λ q kind h. inr (inl (subst (λ z. HasKindFrom k z q kind) (kept start now keys so_far.grows inside ∙ at_keys) h))) among refused

  -- a value was refused, behind its key
  pub value_refused : (old start now next : Writer) (n keys values count i : ℕ) (d : Datum) (faults part : List Reason) (reason : Reason)
      → Writes old (use_at (place_in old n) length_kind (natural count) ∷ []) start → place_in start keys ≡ key ∷ place_in old n
      → place_in start values ≡ value ∷ place_in old n
      → keys ≤ length start.places.below.items → values ≤ length start.places.below.items
      → Writes start (flat_map (pair_uses (place_in start keys) (place_in start values)) (take i xs)) now
      → Writes now (walk k (place_in now keys) d) next
      → (IsAmong reason part → IsAmong reason faults) → RefusesAt next v values part reason → RefusesAt old (map_tree k v) n faults reason
  value_refused old start now next n keys values count i d faults part reason first at_keys at_values inside_keys inside_values so_far step among refused =
      let p = place_in old n in
      let P : Use → Type 0 = λ u. HasKindFrom (map_tree k v) p u.place u.kind in
      let pairs : List Use = flat_map (pair_uses (key ∷ p) (value ∷ p)) (take i xs) in
      let there = kept start now keys so_far.grows inside_keys ∙ at_keys in
      let one : Writes now (walk k (key ∷ p) d) next = subst (λ q. Writes now (walk k q d) next) there step in
      let rest : Writes start pairs now =
      subst (λ q. Writes start (flat_map (pair_uses q (value ∷ p)) (take i xs)) now) at_keys
      (subst (λ q. Writes start (flat_map (pair_uses (place_in start keys) q) (take i xs)) now) at_values so_far) in
      refuses_inside old next (map_tree k v) v n values (use_at p length_kind (natural count) ∷ (pairs ++ walk k (key ∷ p) d)) faults part reason
      (writes_then old start next (use_at p length_kind (natural count) ∷ []) _ first (writes_then start now next pairs (walk k (key ∷ p) d) rest one))
      (pair_kinds p count i (walk k (key ∷ p) d) (each_if (λ (u : Use). HasKindFrom k (key ∷ p) u.place u.kind) P (λ u h. inr (inl h)) _ (kinded k (key ∷ p) d)))
      (λ q kind h. inr (inr (subst (λ z. HasKindFrom v z q kind) (kept start next values (grows_then start now next so_far.grows step.grows) inside_values
      ∙ at_values) h))) among refused

  pub map_done : (old start now : Writer) (n keys values : ℕ) → Writes old (use_at (place_in old n) length_kind (natural (length xs)) ∷ []) start
      → place_in start keys ≡ key ∷ place_in old n → place_in start values ≡ value ∷ place_in old n
      → Writes start (flat_map (pair_uses (place_in start keys) (place_in start values)) xs) now
      → Writes old (walk (map_tree k v) (place_in old n) (list (data_of (map pair_of xs)))) now
  map_done old start now n keys values first at_keys at_values so_far =
      let p = place_in old n in
      let rest : Writes start (flat_map (pair_uses (key ∷ p) (value ∷ p)) xs) now =
      subst (λ q. Writes start (flat_map (pair_uses q (value ∷ p)) xs) now) at_keys
      (subst (λ q. Writes start (flat_map (pair_uses (place_in start keys) q) xs) now) at_values so_far) in
      subst (λ w. Writes old w now) (sym (map_walk p)) (writes_then old start now (use_at p length_kind (natural (length xs)) ∷ []) _ first rest)

-- the places of the keys and of the values are known
pub both_begun : (old mid start : Writer) (n keys values : ℕ) (u : Use) → Writes old (u ∷ []) mid → place_in mid keys ≡ key ∷ place_in old n
    → keys ≤ length mid.places.below.items
    → n ≤ length old.places.below.items → place_in start values ≡ value ∷ place_in mid n → Grows mid start → written start ≡ written mid
    → Writes old (u ∷ []) start × (place_in start keys ≡ key ∷ place_in old n) × (place_in start values ≡ value ∷ place_in old n)
both_begun old mid start n keys values u first at_keys inside_keys inside at_values grows same = (
  writes_then old mid start (u ∷ []) [] first (writes_none mid start grows same),
  kept mid start keys grows inside_keys ∙ at_keys,
  at_values ∙ ap (λ p. value ∷ p) (kept old mid n first.grows inside),
)

-- a key and its value were written, at places that were known before
pub pair_there : (start now next new : Writer) (k v : ShapeTree) (keys values : ℕ) (d e : Datum) → Grows start now → keys ≤ length start.places.below.items
    → values ≤ length start.places.below.items
    → Writes now (walk k (place_in now keys) d) next → Writes next (walk v (place_in next values) e) new
    → Writes now (walk k (place_in start keys) d ++ walk v (place_in start values) e) new
pair_there start now next new k v keys values d e g inside_keys inside_values one two =
    writes_then now next new _ _ (written_there start now next k keys d g inside_keys one)
    (written_there start next new v values e (grows_then start now next g one.grows) inside_values two)

-- ---- tuples

pub uneven_fault : (judges : List Judge) (left : ℕ) (ns : List ShapeNode) → length judges ≢ length ns → IsAmong NotOfTheShape (faults_of_fields judges left ns)
uneven_fault [] left [] h = absurd (h refl)
uneven_fault [] left (n ∷ ns) h = inl refl
uneven_fault (j ∷ js) left [] h = inl refl
uneven_fault (j ∷ js) left (n ∷ ns) h = among_back NotOfTheShape (j left n) (faults_of_fields js left ns) (uneven_fault js left ns (λ e. h (ap (λ k. suc k) e)))

module _ (f : ShapeNode → ShapeTree) (judge : Value → Judge) (left : ℕ) (ns : List ShapeNode) (vs : List Value) (old : Writer) (n : ℕ) where
  abbrev trees_after : ℕ → ShapeTrees
  trees_after i = trees_of (map f (drop i ns))

  abbrev data_after : ℕ → Data
  data_after i = data_of (map datum_of (drop i vs))

  abbrev fields_at : ℕ → Place
  fields_at = field_place (trees_of (map f ns)) (place_in old n)

  -- The first i fields were written, and have no fault; what is left is the rest of the tuple's walk.
  pub record FieldsWritten (i : ℕ) (now : Writer) : Type 0 where
    pub done : List Use
    pub written : Writes old done now
    pub walked : done ++ walk_fields (trees_after i) fields_at i (data_after i) ≡ walk_fields (trees_after 0) fields_at 0 (data_after 0)
    pub are : AreOf (trees_after i) (data_after i) → AreOf (trees_after 0) (data_after 0)
    pub faults : faults_of_fields (map judge (drop i vs)) left (drop i ns) ≡ faults_of_fields (map judge vs) left ns

  pub fields_none : FieldsWritten 0 old
  fields_none = record { done = []; written = writes_none old old (grows_same old old refl) refl; walked = refl; are = λ h. h; faults = refl }

  module _ (i : ℕ) (node : ShapeNode) (v : Value) (node_there : slice_get ns i ≡ Some node) (value_there : slice_get vs i ≡ Some v) where
    trees_next : trees_after i ≡ tree_and (f node) (trees_after (i + 1))
    trees_next = rw add-one (ap (λ ms. trees_of (map f ms)) (drop_entry ns i node node_there))

    data_next : data_after i ≡ datum_and (datum_of v) (data_after (i + 1))
    data_next = rw add-one (ap (λ ws. data_of (map datum_of ws)) (drop_entry vs i v value_there))

    faults_next : faults_of_fields (map judge (drop i vs)) left (drop i ns)
        ≡ judge v left node ++ faults_of_fields (map judge (drop (i + 1) vs)) left (drop (i + 1) ns)
    faults_next =
        rw add-one
        (ap (λ ms. faults_of_fields (map judge (drop i vs)) left ms) (drop_entry ns i node node_there)
        ∙ ap (λ ws. faults_of_fields (map judge ws) left (node ∷ drop (suc i) ns)) (drop_entry vs i v value_there))

    walk_next : walk_fields (trees_after i) fields_at i (data_after i)
        ≡ walk (f node) (fields_at i) (datum_of v) ++ walk_fields (trees_after (i + 1)) fields_at (i + 1) (data_after (i + 1))
    walk_next =
        ap (λ ss. walk_fields ss fields_at i (data_after i)) trees_next ∙ ap (λ ds. walk_fields (tree_and (f node) (trees_after (i + 1))) fields_at i ds) data_next

    -- the place of the field, and the places that were met before it
    module _ (now below : Writer) (m : ℕ) (so_far : FieldsWritten i now) (grows : Grows now below) (same : written below ≡ written now)
        (at : place_in below m ≡ field_at (length ns) (place_in now n) i) (inside : n ≤ length old.places.below.items) where
      place_there : place_in below m ≡ fields_at i
      place_there = at ∙ ap (λ p. field_at (length ns) p i) (kept old now n so_far.written.grows inside) ∙ sym (field_of f ns (place_in old n) i)

      here : Writes old so_far.done below
      here = subst (λ w. Writes old w below) (append-nil so_far.done) (writes_then old now below so_far.done [] so_far.written (writes_none now below grows same))

      pub field_more : (new : Writer) → Writes below (walk (f node) (place_in below m) (datum_of v)) new → IsOf (f node) (datum_of v) → judge v left node ≡ []
          → FieldsWritten (i + 1) new
      field_more new step is whole = record {
        done = so_far.done ++ walk (f node) (place_in below m) (datum_of v);
        written = writes_then old below new so_far.done _ here step;
        walked = append_assoc so_far.done _ _ ∙ ap (λ w. so_far.done ++ w) (ap
            (λ p. walk (f node) p (datum_of v) ++ walk_fields (trees_after (i + 1)) fields_at (i + 1) (data_after (i + 1))) place_there ∙ sym walk_next) ∙ so_far.walked;
        are = λ h. so_far.are (subst (λ ss. AreOf ss (data_after i)) (sym trees_next)
            (subst (AreOf (tree_and (f node) (trees_after (i + 1)))) (sym data_next) (is, h)));
        faults = ap (λ rs. rs ++ faults_of_fields (map judge (drop (i + 1) vs)) left (drop (i + 1) ns)) (sym whole) ∙ sym faults_next ∙ so_far.faults;
      }

      pub field_refused : (reason : Reason) → RefusesAt below (f node) m (judge v left node) reason
          → RefusesAt old (tuple_tree (trees_after 0)) n (faults_of_fields (map judge vs) left ns) reason
      field_refused reason refused =
          let p = place_in old n in
          let ss = trees_after 0 in
          let all : AllByRecursion (λ u. HasKindFrom (tuple_tree ss) p u.place u.kind) (walk_fields ss fields_at 0 (data_after 0)) = kinded (tuple_tree ss) p
          (tuple (data_after 0)) in
          refuses_inside old below (tuple_tree ss) (f node) n m so_far.done (faults_of_fields (map judge vs) left ns) (judge v left node) reason here
          (each_front (λ (u : Use). HasKindFrom (tuple_tree ss) p u.place u.kind) so_far.done _
          (subst (AllByRecursion (λ (u : Use). HasKindFrom (tuple_tree ss) p u.place u.kind)) (sym so_far.walked) all))
          (λ q kind h. (
            i,
            kind_of_variant ss i (f node) (fields_at i) q kind (variant_there f ns i node node_there)
                (subst (λ z. HasKindFrom (f node) z q kind) place_there h),
          ))
          (λ a. subst (IsAmong reason) (sym faults_next ∙ so_far.faults) (among_front reason (judge v left node) _ a)) refused

  pub fields_done : (i : ℕ) (now : Writer) → i ≡ length ns → length vs ≡ length ns → FieldsWritten i now
      → Writes old (walk (tuple_tree (trees_after 0)) (place_in old n) (tuple (data_after 0))) now × IsOf (tuple_tree (trees_after 0)) (tuple (data_after 0))
      × (faults_of_fields (map judge vs) left ns ≡ [])
  fields_done i now last even so_far =
      let no_nodes : drop i ns ≡ [] = drop_past ns i (omega (arith, last)) in
      let no_values : drop i vs ≡ [] = drop_past vs i (omega (arith, last, even)) in (
        subst (λ w. Writes old w now) (sym (append-nil so_far.done) ∙ ap (λ w. so_far.done ++ w)
            (sym (ap (λ ms. walk_fields (trees_of (map f ms)) fields_at i (data_after i)) no_nodes)) ∙ so_far.walked) so_far.written,
        (
          refl,
          so_far.are (subst (λ ms. AreOf (trees_of (map f ms)) (data_after i)) (sym no_nodes)
              (subst (λ ws. AreOf no_trees (data_of (map datum_of ws))) (sym no_values) tt)),
        ),
        sym so_far.faults ∙ ap (λ ms. faults_of_fields (map judge (drop i vs)) left ms) no_nodes ∙ ap (λ ws. faults_of_fields (map judge ws) left []) no_values,
      )
