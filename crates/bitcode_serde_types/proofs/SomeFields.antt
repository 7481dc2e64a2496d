-- Reading some fields of a tuple at once, behind others.
use Rattle.std.proofs.Common.{◌≡◌, ℕ, ◌+◌, List, [], ◌∷◌, ◌++◌, refl, ap, sym, subst, ◌∙◌, arith}
use Rattle.std.proofs.lemmas.List.{append_assoc}
use Rattle.bitcode_memory.specs.declared.error.Reason.{Reason}
use Rattle.bitcode_shapes.specs.Datum.{Datum, Data, no_data, datum_and, data_of, list_of}
use Rattle.bitcode_untyped.specs.Machine.{State}
use Rattle.bitcode_untyped.specs.Nodes.{node_counts}
use Rattle.bitcode_untyped.specs.Reads.{ReadsFields, ReadsNoFields}
use Rattle.bitcode_untyped.specs.ShapeTree.{ShapeTrees, no_trees, tree_and, tuple_tree}
use Rattle.bitcode_untyped.specs.Walk.{Place, field_place}
use Rattle.bitcode_untyped.proofs.ReadLemmas.{FieldsSoFar, data_of-list_of, tuple_stuck}
use Rattle.bitcode_serde.specs.Budget.{spend, IsLeft}
use Rattle.bitcode_serde.specs.ReadingValues.{Continues, field_at}
use Rattle.bitcode_serde.specs.declared.budget.Budget.{Budget}
use Rattle.bitcode_serde.specs.declared.reader.Reader.{Reader}
use Rattle.bitcode_serde.proofs.BudgetLemmas.{spend-then, left_before}
use Rattle.bitcode_serde.proofs.ValueLemmas.{continues_on}
use Rattle.bitcode_serde_types.specs.FieldsWritten.{tree_count}
use Rattle.bitcode_serde_types.specs.Joined.{joined, joined_data}
use Rattle.bitcode_serde_types.specs.ReadingAs.{ReadsFieldsAs}
use Rattle.bitcode_serde_types.specs.Refusals.{IsRefusalAt, IsFieldsRefusalAt}
use Rattle.bitcode_serde_types.specs.Restates.{RestatesFields}
use Rattle.bitcode_serde_types.proofs.FieldsRead.{FieldsKept}
use Rattle.bitcode_serde_types.proofs.PartsRead.{joined_restated, parts_read, first_stuck, rest_stuck}
use Rattle.bitcode_serde_types.proofs.RefusalLemmas.{reason_up, refuse_first, refuse_rest}

list_of-joined : (ds es : Data) → list_of (joined_data ds es) ≡ list_of ds ++ list_of es
list_of-joined no_data es = refl
list_of-joined (datum_and d ds) es = ap (λ xs. d ∷ xs) (list_of-joined ds es)

data_of-joined : (ds : Data) (xs : List Datum) → joined_data ds (data_of xs) ≡ data_of (list_of ds ++ xs)
data_of-joined no_data xs = refl
data_of-joined (datum_and d ds) xs = ap (datum_and d) (data_of-joined ds xs)

places_of_count : (ss : ShapeTrees) (p : Place) → (λ j. field_at (tree_count ss) p j) ≡ field_place ss p
places_of_count no_trees p = refl
places_of_count (tree_and s no_trees) p = refl
places_of_count (tree_and s (tree_and t ss)) p = refl

node_counts-joined : (xs : List Datum) (ds : Data) → node_counts (data_of (xs ++ list_of ds)) ≡ node_counts (data_of xs) + node_counts ds
node_counts-joined [] ds = let h = ap node_counts (data_of-list_of ds) in omega (arith, h)
node_counts-joined (x ∷ xs) ds = let h = node_counts-joined xs ds in omega (arith, h)

module _ (at : ℕ → Place) (all : ShapeTrees) (a : State) (done : List Datum) (ss left : ShapeTrees) (i : ℕ) (b : State)
    (so_far : FieldsSoFar at all a done (joined ss left) i b) where
  more_fields : (ds : Data) (c : State) → ReadsFields ss at i b ds c → FieldsSoFar at all a (done ++ list_of ds) left (i + tree_count ss) c
  more_fields ds c r = record {
    read = λ es e t.
        subst (λ xs. ReadsFields all at 0 a (data_of xs) e) (ap (λ xs. done ++ xs) (list_of-joined ds es) ∙ sym (append_assoc done (list_of ds) (list_of es)))
        (so_far.read (joined_data ds es) e (parts_read at ss left i b c e ds es r t));
    stuck = λ none. so_far.stuck (rest_stuck at ss left i b c ds r none);
  }

module _ (trees : ShapeTrees) (place : ℕ) (old : Reader) (before : Budget) {i : ℕ} {content : List Datum} (ss left : ShapeTrees) {mid : Reader} {between : Budget}
    (k : FieldsKept trees place old before i content (joined ss left) mid between) where
  pub some_kept : {A : Type 0} (held : A → Data) (t : A) (new : Reader) (after : Budget) → Continues mid new
      → ReadsFieldsAs held ss place i (tree_count trees) mid between t new after
      → FieldsKept trees place old before (i + tree_count ss) (content ++ list_of (held t)) left new after
  some_kept held t new after c some = record {
    listing = k.listing ++ list_of some.found;
    continues = continues_on old mid new k.continues c;
    read = λ p at a st.
        let g = k.read p at a st in
        let r = some.read p (k.continues.kept place p at) g.0 g.1 in (
          r.0,
          r.1,
          more_fields (field_place trees p) trees a k.listing ss left i g.0 g.2 some.found r.0
              (subst (λ f. ReadsFields ss f i g.0 some.found r.0) (places_of_count trees p) r.2),
        );
    taken = some.taken ∙ ap (spend (node_counts some.found)) k.taken ∙ spend-then (node_counts (data_of k.listing)) (node_counts some.found) before
        ∙ ap (λ n. spend n before) (sym (node_counts-joined k.listing some.found));
    same = λ h ds es rest.
        subst (λ xs. RestatesFields trees (data_of xs) (data_of ((content ++ list_of (held t)) ++ es))) (sym (append_assoc k.listing (list_of some.found) ds))
        (subst (λ ys. RestatesFields trees (data_of (k.listing ++ (list_of some.found ++ ds))) (data_of ys)) (sym (append_assoc content (list_of (held t)) es))
        (k.same (left_before (node_counts some.found) between (subst IsLeft some.taken h)) (list_of some.found ++ ds) (list_of (held t) ++ es)
        (subst (λ xs. RestatesFields (joined ss left) xs (data_of (list_of (held t) ++ es))) (data_of-joined some.found ds)
        (subst (λ ys. RestatesFields (joined ss left) (joined_data some.found (data_of ds)) ys) (data_of-joined (held t) es)
        (joined_restated ss left some.found (held t) (data_of ds) (data_of es) (some.same h) rest)))));
    among = λ why h. k.among why (refuse_rest ss left why h);
  }

  pub some_not_kept : (why : Reason) → IsFieldsRefusalAt ss place i (tree_count trees) mid why → IsRefusalAt (tuple_tree trees) place old why
  some_not_kept why h = (
    reason_up (tuple_tree ss) (tuple_tree trees) why (λ r. k.among why (refuse_first ss left why r)) h.0,
    λ other p at a st.
        let g = k.read p at a st in
        let none = h.1 other p (k.continues.kept place p at) g.0 g.1 in
        tuple_stuck trees p a (g.2.stuck (first_stuck (field_place trees p) ss left i g.0
        (subst (λ f. ReadsNoFields ss f i g.0) (places_of_count trees p) none))),
  )
