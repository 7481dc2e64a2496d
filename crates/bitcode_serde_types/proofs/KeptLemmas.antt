-- What is kept of what is read, for content of any type.
use Rattle.std.proofs.Common.{◌≡◌, ℕ, zero, suc, ◌+◌, ◌≤◌, ◌<◌, length, List, [], ◌∷◌, ◌++◌, map, true, refl, ap, sym, subst, ◌∙◌, arith}
use Rattle.std.specs.List.{AllZip}
use Rattle.std.specs.Prelude.{Result, Ok, Err, IfOk}
use Rattle.std.proofs.lemmas.List.{map-append, length-append}
use Rattle.std.proofs.lemmas.List.Elements.{AllZip-push}
use Rattle.bitcode_memory.specs.declared.error.Error.{Error}
use Rattle.bitcode_memory.specs.declared.error.Reason.{Reason}
use Rattle.bitcode_shapes.specs.Datum.{Datum, unit, list, choice, data_of, number_in}
use Rattle.bitcode_shapes.specs.Shape.{Allowed, IsAllowed}
use Rattle.bitcode_untyped.specs.Bounds.{column_free, free_limit}
use Rattle.bitcode_untyped.specs.Nodes.{node_count, node_counts}
use Rattle.bitcode_untyped.specs.ShapeTree.{ShapeTree, ShapeTrees, no_trees, tree_and, unit_tree, leaf_tree, seq_tree, choice_tree, tree_at, IsSound}
use Rattle.bitcode_untyped.specs.Machine.{State}
use Rattle.bitcode_untyped.specs.Reads.{IsReadable, ReadsMany}
use Rattle.bitcode_untyped.specs.Walk.{Place, variant, index_kind, walk}
use Rattle.bitcode_untyped.proofs.FreeLemmas.{free_datum, free_read}
use Rattle.bitcode_untyped.proofs.NodeLemmas.{node_counts-push}
use Rattle.bitcode_untyped.proofs.ReadLemmas.{unit_read}
use Rattle.bitcode_coder.specs.Columns.{Kind}
use Rattle.bitcode_coder.specs.Spelling.{natural}
use Rattle.bitcode_serde.specs.Budget.{spend, IsLeft}
use Rattle.bitcode_serde.specs.Places.{places, place_at}
use Rattle.bitcode_serde.specs.Reading.{Leads}
use Rattle.bitcode_serde.specs.ReadingValues.{IsSteady, Continues, Enters, EntersList, ReadsAt}
use Rattle.bitcode_serde.specs.declared.budget.Budget.{Budget}
use Rattle.bitcode_serde.specs.declared.budget.Budget.TheVariants.{Endless, Spent}
use Rattle.bitcode_serde.specs.declared.reader.Reader.{Reader}
use Rattle.bitcode_serde.proofs.BudgetLemmas.{spend-then, spend-Endless, spend-Spent, left_before}
use Rattle.bitcode_serde.proofs.ValueLemmas.{led_at, asked_alike, still_there, continues_on, one_more, seq_read_at, choice_read_at}
use Rattle.bitcode_serde_types.specs.ReadingAs.{KeepsAs, KeepsEachAs, ReadsAs, ReadsEachAs}
use Rattle.bitcode_serde_types.specs.Refusals.{IsRefusalAt, IsListRefusalAt}
use Rattle.bitcode_serde_types.specs.Restates.{Restates, RestatesVariant}
use Rattle.bitcode_serde_types.proofs.RefusalLemmas.{list_stuck, choice_refused}

-- the same content, told otherwise
pub kept_otherwise : {A B : Type 0} (Is : Datum → Datum → Type 0) (f : A → Datum) (g : B → Datum) (R : Datum → Type 0) (before after : Budget) (a : A) (b : B) → g b ≡ f a
    → KeepsAs Is f R before a after → KeepsAs Is g R before b after
kept_otherwise Is f g R before after a b e k =
    record { datum = k.datum; read = k.read; taken = k.taken; same = λ left. subst (Is k.datum) (sym e) (k.same left) }

pub read_otherwise : {A : Type 0} (f g : A → Datum) → ((a : A) → f a ≡ g a) → (s : ShapeTree) (place : ℕ) (old : Reader) (before : Budget) (new : Reader) (after : Budget)
    (r : Result A Error) → IfOk r (λ a. ReadsAs f s place old before a new after) → IfOk r (λ a. ReadsAs g s place old before a new after)
read_otherwise f g e s place old before new after (Ok a) k = kept_otherwise (Restates s) f g _ before after a a (sym (e a)) k
read_otherwise f g e s place old before new after (Err y) k = tt

-- a value that has the content where the budget is left
pub kept_while_left : {A B : Type 0} (Is : Datum → Datum → Type 0) (f : A → Datum) (g : B → Datum) (R : Datum → Type 0) (before after : Budget) (a : A) (b : B)
    → (IsLeft after → g b ≡ f a) → KeepsAs Is f R before a after → KeepsAs Is g R before b after
kept_while_left Is f g R before after a b e k =
    record { datum = k.datum; read = k.read; taken = k.taken; same = λ left. subst (Is k.datum) (sym (e left)) (k.same left) }

-- one node
pub one_kept : {A : Type 0} (f : A → Datum) (R : Datum → Type 0) (before after : Budget) (a : A) → node_count (f a) ≡ 1 → after ≡ spend 1 before → R (f a)
    → KeepsAs (λ d e. e ≡ d) f R before a after
one_kept f R before after a one taken read =
    record { datum = f a; read = read; taken = taken ∙ ap (λ n. spend n before) (sym one); same = λ left. refl }

pub unit_kept : {A : Type 0} (f : A → Datum) (place : ℕ) (r : Reader) (before after : Budget) (a : A) → f a ≡ unit → after ≡ spend 1 before
    → ReadsAs f unit_tree place r before a r after
unit_kept f place r before after a is taken =
    record { datum = unit; read = λ p at b st. (b, st, unit_read p b); taken = taken; same = λ left. is }

-- an entry of a column was taken
pub leaf_led : (kind : Kind) (allowed : Allowed) (place : ℕ) (old new : Reader) (d : Datum) → IsAllowed allowed (number_in d)
    → Leads old (place_at (places old.places.below.items) place) kind d new → ReadsAt (leaf_tree kind allowed) place old d new
leaf_led kind allowed place old new d ok leads p at a st =
    let l = led_at old new place kind d leads p at a st in (l.0, l.1, record { is = ((l.2.1, ok), tt); runs = (l.0, l.2.0, refl) })

-- an endless budget keeps all
pub all_kept_of : {A : Type 0} (Is : Datum → Datum → Type 0) (f : A → Datum) (R : Datum → Type 0) (a : A) (after : Budget) → KeepsAs Is f R Endless a after
    → (d : Datum) × R d × Is d (f a)
all_kept_of Is f R a after k = (k.datum, k.read, k.same (subst IsLeft (sym (k.taken ∙ spend-Endless (node_count k.datum))) tt))

-- ---- lists

-- one more behind the others
pub keeps_more_as : {A : Type 0} (Is : Datum → Datum → Type 0) (content : A → Datum) (R S : List Datum → Type 0) (before mid after : Budget) (xs ys : List A) (x : A) (d : Datum)
    → (k : KeepsEachAs Is content R before xs mid) → S (k.listing ++ d ∷ []) → after ≡ spend (node_count d) mid → (IsLeft after → Is d (content x))
    → (IsLeft after → ys ≡ xs ++ x ∷ []) → KeepsEachAs Is content S before ys after
keeps_more_as Is content R S before mid after xs ys x d k read taken same pushed = record {
  listing = k.listing ++ d ∷ [];
  read = read;
  taken = taken ∙ ap (spend (node_count d)) k.taken ∙ spend-then (node_counts (data_of k.listing)) (node_count d) before
      ∙ ap (λ n. spend n before) (sym (node_counts-push k.listing d));
  same = λ h.
      let first = k.same (left_before (node_count d) mid (subst IsLeft taken h)) in
      subst (λ zs. AllZip Is (k.listing ++ d ∷ []) (map content zs)) (sym (pushed h))
      (subst (AllZip Is (k.listing ++ d ∷ [])) (sym (map-append content xs (x ∷ [])))
      (AllZip-push Is k.listing (map content xs) d (content x) first (same h)));
}

-- where one more stands behind the others, all are still there
pub one_longer : {A : Type 0} (xs ys : List A) (x : A) (i : ℕ) → length xs ≡ i → ys ≡ xs ++ x ∷ [] → length ys ≡ i + 1
one_longer xs ys x i all more =
    let e : length ys ≡ length (xs ++ x ∷ []) = ap length more in
    let n = length-append xs (x ∷ []) in
    omega (arith, e, n, all)

-- nothing is kept any more, and further elements without a column are read where they stand
pub rest_kept : {A : Type 0} (f : A → Datum) (s : ShapeTree) (place : ℕ) (old mid : Reader) (before : Budget) (xs : List A) (n i : ℕ) → Continues old mid → IsSound s
    → column_free s ≡ true → ReadsEachAs f s place old before i xs mid Spent → ReadsEachAs f s place old before (i + n) xs mid Spent
rest_kept f s place old mid before xs zero i c sound free k =
    let e : i ≡ i + 0 = omega arith in subst (λ j. ReadsEachAs f s place old before j xs mid Spent) e k
rest_kept f s place old mid before xs (suc n) i c sound free k =
    let d = free_datum s in
    let more : ReadsEachAs f s place old before (i + 1) xs mid Spent = record {
      listing = k.listing ++ d ∷ [];
      read = one_more s place old mid mid i k.listing d c k.read (λ p at a st. (a, st, free_read s p a sound free));
      taken = spent_too before k.listing d k.taken;
      same = λ h. absurd h;
    } in
    let e : i + 1 + n ≡ i + suc n = omega arith in
    subst (λ j. ReadsEachAs f s place old before j xs mid Spent) e (rest_kept f s place old mid before xs n (i + 1) c sound free more)
  where
    spent_too : (before : Budget) (ds : List Datum) (d : Datum) → Spent ≡ spend (node_counts (data_of ds)) before
        → Spent ≡ spend (node_counts (data_of (ds ++ d ∷ []))) before
    spent_too before ds d h =
        sym (spend-Spent (node_count d)) ∙ ap (spend (node_count d)) h ∙ spend-then (node_counts (data_of ds)) (node_count d) before
        ∙ ap (λ n. spend n before) (sym (node_counts-push ds d))

pub list_kept : {A B : Type 0} (f : A → Datum) (g : B → Datum) (s : ShapeTree) (old mid new : Reader) (place inside n : ℕ) (before between after : Budget)
    (xs : List A) (b : B) → g b ≡ list (data_of (map f xs)) → between ≡ spend 1 before → EntersList old mid place inside n
    → (column_free s ≡ true → n ≤ free_limit) → ReadsEachAs f s inside mid between n xs new after
    → ReadsAs g (seq_tree s) place old before b new after
list_kept f g s old mid new place inside n before between after xs b is taken enters few k = record {
  datum = list (data_of k.listing);
  read = seq_read_at s old mid new place inside n k.listing enters few k.read;
  taken = k.taken ∙ ap (spend (node_counts (data_of k.listing))) taken ∙ spend-then 1 (node_counts (data_of k.listing)) before;
  same = λ left. (k.listing, map f xs, refl, is, k.same left);
}

-- ---- choices

variant_restated : (ss : ShapeTrees) (i : ℕ) (x y : Datum) → Restates (tree_at ss i) x y → RestatesVariant ss i x y
variant_restated no_trees i x y h = h
variant_restated (tree_and s ss) zero x y h = h
variant_restated (tree_and s ss) (suc i) x y h = variant_restated ss i x y h

module _ {A B : Type 0} (f : A → Datum) (g : B → Datum) (ss : ShapeTrees) (i j : ℕ) (s : ShapeTree) (old mid : Reader) (place inside : ℕ)
    (enters : Enters (variant i) index_kind (natural i) old mid place inside) (this : i ≡ j) (at : tree_at ss j ≡ s) where
  there : tree_at ss i ≡ s
  there = ap (tree_at ss) this ∙ at

  pub choice_kept : (new : Reader) (before between after : Budget) (a : A) (b : B) → g b ≡ choice j (f a) → between ≡ spend 1 before
      → ReadsAs f s inside mid between a new after → ReadsAs g (choice_tree ss) place old before b new after
  choice_kept new before between after a b is taken k = record {
    datum = choice j k.datum;
    read = subst (λ m. ReadsAt (choice_tree ss) place old (choice m k.datum) new) this
        (choice_read_at ss i k.datum old mid new place inside enters (subst (λ t. ReadsAt t inside mid k.datum new) (sym there) k.read));
    taken = k.taken ∙ ap (spend (node_count k.datum)) taken ∙ spend-then 1 (node_count k.datum) before;
    same = λ left. (j, k.datum, f a, refl, is, variant_restated ss j k.datum (f a) (subst (λ t. Restates t k.datum (f a)) (sym at) (k.same left)));
  }

-- what a variant holds was refused
pub payload_refused : (ss : ShapeTrees) (i j : ℕ) (s : ShapeTree) (old mid : Reader) (place inside : ℕ) (why : Reason)
    → Enters (variant i) index_kind (natural i) old mid place inside → i ≡ j → tree_at ss j ≡ s → IsRefusalAt s inside mid why
    → IsRefusalAt (choice_tree ss) place old why
payload_refused ss i j s old mid place inside why enters this at h =
    choice_refused ss i old mid place inside why enters (subst (λ t. IsRefusalAt t inside mid why) (sym (ap (tree_at ss) this ∙ at)) h)

-- ---- the elements of a list, one after another

abbrev pub ElementsKept : {A : Type 0} → (A → Datum) → ShapeTree → ℕ → Reader → Budget → ℕ → List A → Reader → Budget → Type 0
ElementsKept f s place old before i xs mid between = Continues old mid × ReadsEachAs f s place old before i xs mid between

module _ {A : Type 0} (f : A → Datum) (s : ShapeTree) (place : ℕ) where
  pub no_elements : (r : Reader) (b : Budget) → IsSteady r → ElementsKept f s place r b 0 [] r b
  no_elements r b steady = (
    record { steady = steady; asked = asked_alike r; kept = λ i p at. at },
    record { listing = []; read = λ p at a st. (a, st, none_yet p a); taken = refl; same = λ left. tt },
  )
    where
      none_yet : (p : Place) (a : State) → ReadsMany (IsReadable s) (walk s p) a 0 [] a
      none_yet p a = record { size = refl; each = tt; runs = refl }

  module _ (old mid : Reader) (before between : Budget) (i : ℕ) (xs : List A) (so_far : ElementsKept f s place old before i xs mid between) where
    pub elements_more : (new : Reader) (after : Budget) (ys : List A) (x : A) → Continues mid new → ReadsAs f s place mid between x new after
        → (IsLeft after → ys ≡ xs ++ x ∷ []) → ElementsKept f s place old before (i + 1) ys new after
    elements_more new after ys x c one pushed = (
      continues_on old mid new so_far.0 c,
      keeps_more_as (Restates s) f _ _ before between after xs ys x one.datum so_far.1
          (one_more s place old mid new i so_far.1.listing one.datum so_far.0 so_far.1.read one.read) one.taken one.same pushed,
    )

    pub element_refused : (n : ℕ) (why : Reason) → i < n → IsRefusalAt s place mid why → IsListRefusalAt s place old n why
    element_refused n why lt refused = list_stuck s place old mid i n _ why so_far.0 so_far.1.read lt refused

    pub elements_there : place ≤ length old.places.below.items → place ≤ length mid.places.below.items
    elements_there h = still_there old mid place so_far.0 h
