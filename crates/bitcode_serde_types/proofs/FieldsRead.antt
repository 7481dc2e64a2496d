-- Reading the fields of a tuple, one after another.
use Rattle.std.proofs.Common.{◌≡◌, ℕ, ◌+◌, ◌≤◌, List, [], ◌∷◌, ◌++◌, length, inl, inr, refl, ap, sym, subst, ◌∙◌}
use Rattle.bitcode_memory.specs.declared.error.Reason.{Reason}
use Rattle.std.proofs.lemmas.List.{append_assoc, append-nil}
use Rattle.bitcode_shapes.specs.Datum.{Datum, tuple, data_of}
use Rattle.bitcode_untyped.specs.Nodes.{node_count, node_counts}
use Rattle.bitcode_untyped.specs.Reads.{ReadsDatum, ReadsNoDatum}
use Rattle.bitcode_untyped.specs.ShapeTree.{ShapeTree, ShapeTrees, no_trees, tree_and, tuple_tree}
use Rattle.bitcode_untyped.specs.Walk.{Place, field_place}
use Rattle.bitcode_untyped.specs.Machine.{State}
use Rattle.bitcode_untyped.proofs.NodeLemmas.{node_counts-push}
use Rattle.bitcode_untyped.proofs.ReadLemmas.{FieldsSoFar, no_fields_yet, one_field_more, all_fields, fields_stuck_first, tuple_read, tuple_stuck}
use Rattle.bitcode_serde.specs.Budget.{spend, IsLeft}
use Rattle.bitcode_serde.specs.Places.{IsPlace}
use Rattle.bitcode_serde.specs.Reading.{Stands}
use Rattle.bitcode_serde.specs.ReadingValues.{IsSteady, Continues, GoesAlong, field_at}
use Rattle.bitcode_serde.specs.declared.budget.Budget.{Budget}
use Rattle.bitcode_serde.specs.declared.reader.Reader.{Reader}
use Rattle.bitcode_serde.proofs.BudgetLemmas.{spend-then, left_before}
use Rattle.bitcode_serde.proofs.FieldLemmas.{field_inside}
use Rattle.bitcode_serde.proofs.ValueLemmas.{asked_alike, continues_on, still_there}
use Rattle.bitcode_serde_types.specs.FieldsWritten.{tree_count}
use Rattle.bitcode_serde_types.specs.ReadingAs.{ReadsAs, ReadsFieldAs}
use Rattle.bitcode_serde_types.specs.Refusals.{Refuse, IsRefusalAt, IsFieldRefusalAt}
use Rattle.bitcode_serde_types.specs.Restates.{RestatesFields}
use Rattle.bitcode_serde_types.proofs.FieldLemmas.{field_of_count}
use Rattle.bitcode_serde_types.proofs.RefusalLemmas.{reason_up, field_inside_refused}

-- if the fields of the trees that are left restate others, those from the first on do so
abbrev AreRestated : ShapeTrees → List Datum → List Datum → ShapeTrees → Type 0
AreRestated trees listing content left =
    (ds es : List Datum) → RestatesFields left (data_of ds) (data_of es) → RestatesFields trees (data_of (listing ++ ds)) (data_of (content ++ es))

module _ (trees : ShapeTrees) (place : ℕ) (old : Reader) (before : Budget) where
  -- The fields before number i were read, with this content, as far as a budget keeps it. These trees are left.
  pub record FieldsKept (i : ℕ) (content : List Datum) (left : ShapeTrees) (mid : Reader) (after : Budget) : Type 0 where
    pub listing : List Datum
    pub continues : Continues old mid
    pub read : GoesAlong old place mid (λ p a b. FieldsSoFar (field_place trees p) trees a listing left i b)
    pub taken : after ≡ spend (node_counts (data_of listing)) before
    pub same : IsLeft after → AreRestated trees listing content left
    pub among : (why : Reason) → Refuse left why → Refuse trees why

  pub no_fields_kept : IsSteady old → FieldsKept 0 [] trees old before
  no_fields_kept steady = record {
    listing = [];
    continues = record { steady = steady; asked = asked_alike old; kept = λ i p at. at };
    read = λ p at a st. (a, st, no_fields_yet (field_place trees p) trees a);
    taken = refl;
    same = λ left ds es h. h;
    among = λ why h. h;
  }

  module _ {i : ℕ} {content : List Datum} {s : ShapeTree} {left : ShapeTrees} {mid : Reader} {between : Budget}
      (k : FieldsKept i content (tree_and s left) mid between) where
    -- the tuple's place is still there
    pub place_there : place ≤ length old.places.below.items → place ≤ length mid.places.below.items
    place_there h = still_there old mid place k.continues h

    pub field_kept : {A : Type 0} (datum : A → Datum) (t : A) (new : Reader) (after : Budget) → Continues mid new
        → ReadsFieldAs datum s place i (tree_count trees) mid between t new after → FieldsKept (i + 1) (content ++ datum t ∷ []) left new after
    field_kept datum t new after c one = record {
      listing = k.listing ++ one.datum ∷ [];
      continues = continues_on old mid new k.continues c;
      read = λ p at a st.
          let g = k.read p at a st in
          let r = one.read p (k.continues.kept place p at) g.0 g.1 in (
            r.0,
            r.1,
            one_field_more (field_place trees p) trees a g.0 r.0 k.listing s left i one.datum g.2
                (subst (λ q. ReadsDatum s q g.0 one.datum r.0) (sym (field_of_count trees p i)) r.2),
          );
      taken = one.taken ∙ ap (spend (node_count one.datum)) k.taken ∙ spend-then (node_counts (data_of k.listing)) (node_count one.datum) before
          ∙ ap (λ n. spend n before) (sym (node_counts-push k.listing one.datum));
      same = λ h ds es rest.
          subst (λ xs. RestatesFields trees (data_of xs) (data_of ((content ++ datum t ∷ []) ++ es))) (sym (append_assoc k.listing (one.datum ∷ []) ds))
          (subst (λ ys. RestatesFields trees (data_of (k.listing ++ one.datum ∷ ds)) (data_of ys)) (sym (append_assoc content (datum t ∷ []) es))
          (k.same (left_before (node_count one.datum) between (subst IsLeft one.taken h)) (one.datum ∷ ds) (datum t ∷ es) (one.same h, rest)));
      among = λ why h. k.among why (inr h);
    }

    pub field_not_kept : (why : Reason) → IsFieldRefusalAt s place i (tree_count trees) mid why → IsRefusalAt (tuple_tree trees) place old why
    field_not_kept why h = (
      reason_up s (tuple_tree trees) why (λ r. k.among why (inl r)) h.0,
      λ other p at a st.
          let g = k.read p at a st in
          let none = h.1 other p (k.continues.kept place p at) g.0 g.1 in
          tuple_stuck trees p a (g.2.stuck (fields_stuck_first (field_place trees p) s left i g.0
          (subst (λ q. ReadsNoDatum s q g.0) (sym (field_of_count trees p i)) none))),
    )

    -- the field's own place was found
    module _ (below : Reader) (inside : ℕ) (c : Continues mid below)
        (found : (p : Place) → IsPlace mid.places.below.items place p → IsPlace below.places.below.items inside (field_at (tree_count trees) p i))
        (stands : (a : State) → Stands mid a → Stands below a) where
      pub field_kept_at : {A : Type 0} (datum : A → Datum) (t : A) (new : Reader) (after : Budget) → Continues below new
          → ReadsAs datum s inside below between t new after → FieldsKept (i + 1) (content ++ datum t ∷ []) left new after
      field_kept_at datum t new after d one =
          field_kept datum t new after (continues_on mid below new c d) (record {
            datum = one.datum;
            read = field_inside s place i (tree_count trees) mid below inside found stands one.datum new one.read;
            taken = one.taken;
            same = one.same;
          })

      pub field_not_kept_at : (why : Reason) → IsRefusalAt s inside below why → IsRefusalAt (tuple_tree trees) place old why
      field_not_kept_at why h =
          field_not_kept why (field_inside_refused s place i (tree_count trees) mid below inside found stands why h)

  -- the tuple is a node, and so is each field
  pub tuple_kept : {A : Type 0} {i : ℕ} {content : List Datum} {mid : Reader} {after : Budget} → FieldsKept i content no_trees mid after
      → (datum : A → Datum) (t : A) (first : Budget) → datum t ≡ tuple (data_of content) → before ≡ spend 1 first
      → ReadsAs datum (tuple_tree trees) place old first t mid after
  tuple_kept {i = i} {content = content} k datum t first is taken = record {
    datum = tuple (data_of k.listing);
    read = λ p at a st.
        let g = k.read p at a st in
        (g.0, g.1, tuple_read trees p a (data_of k.listing) g.0 (all_fields (field_place trees p) trees a g.0 k.listing i g.2));
    taken = k.taken ∙ ap (spend (node_counts (data_of k.listing))) taken ∙ spend-then 1 (node_counts (data_of k.listing)) first;
    same = λ left. (
      data_of k.listing,
      data_of content,
      refl,
      is,
      subst (λ xs. RestatesFields trees (data_of xs) (data_of content)) (append-nil k.listing)
          (subst (λ ys. RestatesFields trees (data_of (k.listing ++ [])) (data_of ys)) (append-nil content) (k.same left [] [] tt)),
    );
  }
