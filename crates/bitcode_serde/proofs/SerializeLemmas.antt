-- What was written, piece by piece.
use Rattle.std.proofs.Common.{◌≡◌, ℕ, zero, suc, ◌<◌, ◌≤◌, inl, inr, List, [], ◌∷◌, ◌++◌, length, map, take, get_or, refl, ap, sym, subst, ◌∙◌, arith, append_assoc}
use Rattle.std.specs.Prelude.{Result, Ok, Err, OnOk, IfErr}
use Rattle.std.specs.List.{AllByRecursion, flat_map}
use Rattle.std.proofs.lemmas.Bool.{cases_Bool}
use Rattle.std.proofs.lemmas.List.{append-nil}
use Rattle.std.proofs.Math.Seq.{take-length}
use Rattle.bitcode_memory.specs.declared.error.Error.{Error}
use Rattle.bitcode_memory.specs.declared.error.Reason.{Reason}
use Rattle.bitcode_memory.specs.declared.error.Reason.TheVariants.{OutOfMemory}
use Rattle.bitcode_shapes.specs.Datum.{Datum, list, list_of, data_of}
use Rattle.bitcode_shapes.specs.Shape.{Allowed}
use Rattle.bitcode_coder.specs.Columns.{Kind}
use Rattle.bitcode_untyped.specs.Growing.{put, put_all}
use Rattle.bitcode_untyped.specs.PlaceKinds.{HasKindFrom}
use Rattle.bitcode_untyped.specs.PlacedColumns.{same_place, PlacedColumn}
use Rattle.bitcode_untyped.specs.ShapeTree.{ShapeTree, leaf_tree, seq_tree, IsOf}
use Rattle.bitcode_untyped.specs.Walk.{Step, element, Place, Use, use_at, length_kind, walk}
use Rattle.bitcode_untyped.proofs.KindLemmas.{kinded}
use Rattle.std.proofs.lemmas.List.{length-map}
use Rattle.std.proofs.lemmas.List.Folds.{flat_map-map}
use Rattle.bitcode_coder.specs.Spelling.{natural}
use Rattle.bitcode_untyped.proofs.GrowingLemmas.{put_all-append}
use Rattle.bitcode_untyped.proofs.EachLemmas.{each_if, each_flat}
use Rattle.bitcode_serde.specs.Places.{place_at, places}
use Rattle.bitcode_serde.specs.Serializing.{Outcome}
use Rattle.bitcode_serde.specs.Writing.{written, place_in, Grows, Writes, AreOfShape, IsAmong, RefusesAt}
use Rattle.bitcode_serde.specs.declared.writer.state.Writer.{Writer}
use Rattle.bitcode_serde.proofs.PlaceLemmas.{at_front, inside_places}

-- ---- writers that grow

pub grows_same : (a b : Writer) → b.places.below ≡ a.places.below → Grows a b
grows_same a b e = record {
  more = [];
  places = ap (λ z. places z.items) e ∙ sym (append-nil (places a.places.below.items));
  size = let h : length b.places.below.items ≡ length a.places.below.items = ap (λ z. length z.items) e in omega (arith, h);
}

pub grows_then : (a b c : Writer) → Grows a b → Grows b c → Grows a c
grows_then a b c g h = record {
  more = g.more ++ h.more;
  places = h.places ∙ ap (λ (ps : List Place). ps ++ h.more) g.places ∙ append_assoc (places a.places.below.items) g.more h.more;
  size = let x = g.size in let y = h.size in omega (arith, x, y);
}

pub kept : (a b : Writer) (n : ℕ) → Grows a b → n ≤ length a.places.below.items → place_in b n ≡ place_in a n
kept a b n g h = ap (λ (ps : List Place). place_at ps n) g.places ∙ at_front (places a.places.below.items) g.more n (inside_places a.places.below.items n h)

pub writes_put : (a b : Writer) (u : Use) → b.places.below ≡ a.places.below → written b ≡ put u (written a) → Writes a (u ∷ []) b
writes_put a b u e h = record { grows = grows_same a b e; columns = h }

pub writes_none : (a b : Writer) → Grows a b → written b ≡ written a → Writes a [] b
writes_none a b g h = record { grows = g; columns = h }

pub writes_then : (a b c : Writer) (v w : List Use) → Writes a v b → Writes b w c → Writes a (v ++ w) c
writes_then a b c v w x y = record {
  grows = grows_then a b c x.grows y.grows;
  columns = y.columns ∙ ap (put_all w) x.columns ∙ sym (put_all-append v w (written a));
}

-- ---- columns of a shape

of_shape_put : (root : ShapeTree) (u : Use) (cs : List PlacedColumn) → AreOfShape root cs → HasKindFrom root [] u.place u.kind → AreOfShape root (put u cs)
of_shape_put root u [] h k = (k, tt)
of_shape_put root u (c ∷ cs) h k =
    elim (cases_Bool (same_place u.place c.place)) [
      | inl e ↦ rw e (h.0, h.1)
      | inr e ↦ rw e (h.0, of_shape_put root u cs h.1 k)
    ]

pub of_shape_all : (root : ShapeTree) (w : List Use) (cs : List PlacedColumn) → AreOfShape root cs → AllByRecursion (λ u. HasKindFrom root [] u.place u.kind) w
    → AreOfShape root (put_all w cs)
of_shape_all root [] cs h k = h
of_shape_all root (u ∷ w) cs h k = of_shape_all root w (put u cs) (of_shape_put root u cs h k.0) k.1

-- ---- refusals

-- the use that was refused is one of the tree
pub refuses_use : (w : Writer) (tree : ShapeTree) (n : ℕ) (faults : List Reason) (reason : Reason) (q : Place) (kind : Kind)
    → ((root : ShapeTree) → AreOfShape root (written w) → HasKindFrom root [] q kind → reason ≡ OutOfMemory) → HasKindFrom tree (place_in w n) q kind
    → RefusesAt w tree n faults reason
refuses_use w tree n faults reason q kind h has root of_shape part = inl (h root of_shape (part q kind has))

-- a part was refused, behind uses of the tree
pub refuses_inside : (old now : Writer) (tree sub : ShapeTree) (n m : ℕ) (done : List Use) (faults part_faults : List Reason) (reason : Reason) → Writes old done now
    → AllByRecursion (λ u. HasKindFrom tree (place_in old n) u.place u.kind) done
    → ((q : Place) (kind : Kind) → HasKindFrom sub (place_in now m) q kind → HasKindFrom tree (place_in old n) q kind)
    → (IsAmong reason part_faults → IsAmong reason faults) → RefusesAt now sub m part_faults reason → RefusesAt old tree n faults reason
refuses_inside old now tree sub n m done faults part_faults reason w kinds inside among refused root of_shape part =
    let of_shape_now = subst (AreOfShape root) (sym w.columns)
    (of_shape_all root done (written old) of_shape (each_if (λ (u : Use). HasKindFrom tree (place_in old n) u.place u.kind)
    (λ (u : Use). HasKindFrom root [] u.place u.kind) (λ u h. part u.place u.kind h) done kinds)) in
    elim (refused root of_shape_now (λ q kind h. part q kind (inside q kind h))) [
      | inl memory ↦ inl memory
      | inr fault ↦ inr (among fault)
    ]

-- ---- faults of parts

pub among_front : (reason : Reason) (xs ys : List Reason) → IsAmong reason xs → IsAmong reason (xs ++ ys)
among_front reason [] ys h = absurd h
among_front reason (x ∷ xs) ys (inl e) = inl e
among_front reason (x ∷ xs) ys (inr h) = inr (among_front reason xs ys h)

pub among_back : (reason : Reason) (xs ys : List Reason) → IsAmong reason ys → IsAmong reason (xs ++ ys)
among_back reason [] ys h = h
among_back reason (x ∷ xs) ys h = inr (among_back reason xs ys h)

pub among_each : {A : Type 0} (reason : Reason) (f : A → List Reason) (xs : List A) (i : ℕ) (d : A) → i < length xs → IsAmong reason (f (get_or xs i d))
    → IsAmong reason (flat_map f xs)
among_each reason f [] i d h a = absurd (omega (arith, h))
among_each reason f (x ∷ xs) zero d h a = among_front reason (f x) (flat_map f xs) a
among_each reason f (x ∷ xs) (suc i) d h a = among_back reason (f x) (flat_map f xs) (among_each reason f xs i d (omega (arith, h)) a)

-- ---- lists

pub listed : (ds : List Datum) → list_of (data_of ds) ≡ ds
listed [] = refl
listed (d ∷ ds) = ap (λ xs. d ∷ xs) (listed ds)

pub each_map : {A B : Type 0} (P : B → Type 0) (f : A → B) (xs : List A) → AllByRecursion (λ x. P (f x)) xs → AllByRecursion P (map f xs)
each_map P f [] h = tt
each_map P f (x ∷ xs) h = (h.0, each_map P f xs h.1)

-- ---- a list at its place

-- the number of elements was written, and the place of the elements is known
pub begun : (old first now : Writer) (n m : ℕ) (u : Use) (s : Step) → first.places.below ≡ old.places.below → written first ≡ put u (written old)
    → place_in now m ≡ s ∷ place_in first n → Grows first now → written now ≡ written first
    → Writes old (u ∷ []) now × (place_in now m ≡ s ∷ place_in old n)
begun old first now n m u s same put_there at grows rest = (
  writes_then old first now (u ∷ []) [] (writes_put old first u same put_there) (writes_none first now grows rest),
  at ∙ ap (λ z. s ∷ place_at (places z.items) n) same,
)

module _ {A : Type 0} (uses_of : Place → A → List Use) (xs : List A) where
  pub finished : (old start now : Writer) (u : Use) (p : Place) (i : ℕ) → Writes old (u ∷ []) start → i ≡ length xs
      → Writes start (flat_map (uses_of p) (take i xs)) now → Writes old (u ∷ flat_map (uses_of p) xs) now
  finished old start now u p i first e rest =
      writes_then old start now (u ∷ []) (flat_map (uses_of p) xs) first
      (subst (λ ys. Writes start (flat_map (uses_of p) ys) now) (ap (λ j. take j xs) e ∙ take-length xs) rest)

module _ {A : Type 0} (s : ShapeTree) (datum : A → Datum) (xs : List A) where
  -- the walk of a list, by what its elements come from
  pub list_walk : (p : Place)
      → walk (seq_tree s) p (list (data_of (map datum xs))) ≡ use_at p length_kind (natural (length xs)) ∷ flat_map (λ x. walk s (element ∷ p) (datum x)) xs
  list_walk p =
      let e : list_of (data_of (map datum xs)) ≡ map datum xs = listed (map datum xs) in
      ap (λ ds. use_at p length_kind (natural (length ds)) ∷ flat_map (walk s (element ∷ p)) ds) e
      ∙ ap (λ k. use_at p length_kind (natural k) ∷ flat_map (walk s (element ∷ p)) (map datum xs)) (length-map xs datum)
      ∙ ap (λ w. use_at p length_kind (natural (length xs)) ∷ w) (flat_map-map (walk s (element ∷ p)) datum xs)

  pub list_done : (old start now : Writer) (n m i : ℕ) → Writes old (use_at (place_in old n) length_kind (natural (length xs)) ∷ []) start
      → place_in start m ≡ element ∷ place_in old n → length xs ≤ i → i ≤ length xs
      → Writes start (flat_map (λ x. walk s (place_in start m) (datum x)) (take i xs)) now
      → Writes old (walk (seq_tree s) (place_in old n) (list (data_of (map datum xs)))) now
  list_done old start now n m i first at low high so_far =
      let p = place_in old n in
      let all = finished (λ q x. walk s q (datum x)) xs old start now (use_at p length_kind (natural (length xs))) (place_in start m) i first
      (omega (arith, low, high)) so_far in
      subst (λ w. Writes old w now) (sym (list_walk p))
      (subst (λ q. Writes old (use_at p length_kind (natural (length xs)) ∷ flat_map (λ x. walk s q (datum x)) xs) now) at all)

  pub list_is : AllByRecursion (λ x. IsOf s (datum x)) xs → IsOf (seq_tree s) (list (data_of (map datum xs)))
  list_is each =
      let e : list_of (data_of (map datum xs)) ≡ map datum xs = listed (map datum xs) in
      (sym (ap (λ ds. list (data_of ds)) e), subst (AllByRecursion (IsOf s)) (sym e) (each_map (IsOf s) datum xs each))

  pub list_kinds : (p : Place) (k i : ℕ)
      → AllByRecursion (λ u. HasKindFrom (seq_tree s) p u.place u.kind) (use_at p length_kind (natural k) ∷ flat_map (λ x. walk s (element ∷ p) (datum x))
      (take i xs))
  list_kinds p k i = (
    inl (refl, refl),
    each_if (λ (u : Use). HasKindFrom s (element ∷ p) u.place u.kind) (λ (u : Use). HasKindFrom (seq_tree s) p u.place u.kind) (λ u h. inr h) _
        (each_flat (λ (u : Use). HasKindFrom s (element ∷ p) u.place u.kind) (λ x. walk s (element ∷ p) (datum x)) (λ x. kinded s (element ∷ p) (datum x))
        (take i xs)),
  )

  -- an element was refused
  pub list_refused : (old start now : Writer) (n m k i : ℕ) (faults part_faults : List Reason) (reason : Reason)
      → Writes old (use_at (place_in old n) length_kind (natural k) ∷ []) start → place_in start m ≡ element ∷ place_in old n → m ≤ length start.places.below.items
      → Writes start (flat_map (λ x. walk s (place_in start m) (datum x)) (take i xs)) now
      → (IsAmong reason part_faults → IsAmong reason faults) → RefusesAt now s m part_faults reason → RefusesAt old (seq_tree s) n faults reason
  list_refused old start now n m k i faults part_faults reason first at inside so_far among refused =
      let p = place_in old n in
      let rest = subst (λ q. Writes start (flat_map (λ x. walk s q (datum x)) (take i xs)) now) at so_far in
      refuses_inside old now (seq_tree s) s n m (use_at p length_kind (natural k) ∷ flat_map (λ x. walk s (element ∷ p) (datum x)) (take i xs)) faults
      part_faults reason
      (writes_then old start now (use_at p length_kind (natural k) ∷ []) _ first rest) (list_kinds p k i)
      (λ q kind h. inr (subst (λ z. HasKindFrom s z q kind) (kept start now m so_far.grows inside ∙ at) h)) among refused

-- ---- outcomes

pub refused_outcome : {A : Type 0} (old : Writer) (tree : ShapeTree) (n : ℕ) (d : Datum) (faults : List Reason) (r : Result A Error) (new : Writer)
    (e y : Error) → r ≡ Err y → y ≡ e
    → RefusesAt old tree n faults e.reason → Outcome old tree n d faults r new
refused_outcome old tree n d faults r new e y h g k =
    rw (h, g) (record { written = tt; of_tree = tt; whole = tt; refused = k })

pub written_outcome : {A : Type 0} (old : Writer) (tree : ShapeTree) (n : ℕ) (d : Datum) (faults : List Reason) (a : A) (new : Writer)
    → Writes old (walk tree (place_in old n) d) new → IsOf tree d → faults ≡ [] → Outcome old tree n d faults (Ok a) new
written_outcome old tree n d faults a new w of e = record { written = w; of_tree = of; whole = e; refused = tt }

-- the walks of entries of one column are their uses
leaf_uses : {A : Type 0} (kind : Kind) (allowed : Allowed) (datum : A → Datum) (p : Place) (xs : List A)
    → map (use_at p kind) (map datum xs) ≡ flat_map (λ x. walk (leaf_tree kind allowed) p (datum x)) xs
leaf_uses kind allowed datum p [] = refl
leaf_uses kind allowed datum p (x ∷ xs) = ap (λ w. use_at p kind (datum x) ∷ w) (leaf_uses kind allowed datum p xs)

-- a list of entries of one column, which were written at once
pub entries_outcome : {A B : Type 0} (kind : Kind) (allowed : Allowed) (datum : A → Datum) (xs : List A) (old start now : Writer) (n m : ℕ) (r : Result B Error)
    → Writes old (use_at (place_in old n) length_kind (natural (length xs)) ∷ []) start → place_in start m ≡ element ∷ place_in old n
    → m ≤ length start.places.below.items → AllByRecursion (λ x. IsOf (leaf_tree kind allowed) (datum x)) xs
    → OnOk r (now.places.below ≡ start.places.below)
    → OnOk r (written now ≡ put_all (map (use_at (place_in start m) kind) (map datum xs)) (written start))
    → IfErr r (λ e. (root : ShapeTree) → AreOfShape root (written start) → HasKindFrom root [] (place_in start m) kind → e.reason ≡ OutOfMemory)
    → Outcome old (seq_tree (leaf_tree kind allowed)) n (list (data_of (map datum xs))) [] r now
entries_outcome kind allowed datum xs old start now n m (Ok b) first at inside each below more refused =
    let s = leaf_tree kind allowed in
    let p = place_in start m in
    let all : Writes start (flat_map (λ x. walk s p (datum x)) xs) now = record {
      grows = grows_same start now below;
      columns = more ∙ ap (λ w. put_all w (written start)) (leaf_uses kind allowed datum p xs);
    } in
    let so_far = subst (λ ys. Writes start (flat_map (λ x. walk s p (datum x)) ys) now) (sym (take-length xs)) all in
    written_outcome old (seq_tree s) n _ [] b now (list_done s datum xs old start now n m (length xs) first at (omega arith) (omega arith) so_far)
    (list_is s datum xs each) refl
entries_outcome kind allowed datum xs old start now n m (Err e) first at inside each below more refused =
    let s = leaf_tree kind allowed in
    refused_outcome old (seq_tree s) n _ [] (Err e) now e e refl refl
    (list_refused s datum xs old start start n m (length xs) 0 [] [] e.reason first at inside (writes_none start start (grows_same start start refl) refl) (λ h. h)
    (refuses_use start s m [] e.reason (place_in start m) kind refused (refl, refl)))

-- the same outcome, told otherwise
pub same_outcome : {A : Type 0} (old : Writer) (tree other : ShapeTree) (n : ℕ) (d e : Datum) (faults reasons : List Reason) (r : Result A Error) (new : Writer)
    → tree ≡ other → d ≡ e → faults ≡ reasons → Outcome old other n e reasons r new → Outcome old tree n d faults r new
same_outcome old tree other n d e faults reasons r new t k f h = rw (t, k, f) h

-- one fault, and the refusal that names it
pub one_fault : {A : Type 0} (old : Writer) (tree : ShapeTree) (n : ℕ) (d : Datum) (faults : List Reason) (reason : Reason) (r : Result A Error) (e : Error)
    (new : Writer)
    → r ≡ Err e → e.reason ≡ reason → faults ≡ reason ∷ [] → Outcome old tree n d faults r new
one_fault old tree n d faults reason r e new h g f =
    rw (h, f) (record { written = tt; of_tree = tt; whole = tt; refused = λ root of_shape part. inr (inl g) })
