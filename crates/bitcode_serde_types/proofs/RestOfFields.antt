-- Reading a field of a tuple, and then those behind it.
use Rattle.std.proofs.Common.{◌≡◌, ℕ, ◌+◌, inl, inr, refl, ap, sym, subst, ◌∙◌}
use Rattle.bitcode_memory.specs.declared.error.Reason.{Reason}
use Rattle.bitcode_shapes.specs.Datum.{Datum, Data, no_data, datum_and, tuple}
use Rattle.bitcode_untyped.specs.Machine.{Takes}
use Rattle.bitcode_untyped.specs.Nodes.{node_count, node_counts}
use Rattle.bitcode_untyped.specs.Runs.{Runs}
use Rattle.bitcode_untyped.specs.ShapeTree.{ShapeTree, ShapeTrees, no_trees, tree_and, tuple_tree}
use Rattle.bitcode_untyped.proofs.ReadLemmas.{fields_none, fields_and, fields_stuck_first, fields_stuck_rest, tuple_read, tuple_stuck}
use Rattle.bitcode_serde.specs.Budget.{spend, IsLeft}
use Rattle.bitcode_serde.specs.ReadingValues.{Continues, field_at}
use Rattle.bitcode_serde.specs.declared.budget.Budget.{Budget}
use Rattle.bitcode_serde.specs.declared.reader.Reader.{Reader}
use Rattle.bitcode_serde.proofs.BudgetLemmas.{spend-then, left_before}
use Rattle.bitcode_serde_types.specs.FieldsWritten.{tree_count}
use Rattle.bitcode_serde_types.specs.ReadingAs.{ReadsAs, ReadsFieldAs, ReadsFieldsAs}
use Rattle.bitcode_serde_types.specs.Refusals.{IsRefusalAt, IsFieldRefusalAt, IsFieldsRefusalAt}
use Rattle.bitcode_serde_types.specs.Restates.{RestatesFields}
use Rattle.bitcode_serde_types.proofs.FieldLemmas.{walk_of_fields}
use Rattle.bitcode_serde_types.proofs.RefusalLemmas.{reason_up}

pub no_fields : {A : Type 0} (content : A → Data) (t : A) (place i fields : ℕ) (r : Reader) (b : Budget) → content t ≡ no_data
    → ReadsFieldsAs content no_trees place i fields r b t r b
no_fields content t place i fields r b is = record {
  found = no_data;
  read = λ p at a st. (a, st, fields_none (λ j. field_at fields p j) i a);
  taken = refl;
  same = λ left. subst (λ ds. RestatesFields no_trees no_data ds) (sym is) tt;
}

module _ (s : ShapeTree) (ss : ShapeTrees) (place i fields : ℕ) (old : Reader) where
  pub first_refused : (why : Reason) → IsFieldRefusalAt s place i fields old why → IsFieldsRefusalAt (tree_and s ss) place i fields old why
  first_refused why h = (reason_up s (tuple_tree (tree_and s ss)) why inl h.0, λ other p at a st. fields_stuck_first (λ j. field_at fields p j) s ss i a (h.1 other p at a st))

  module _ {A : Type 0} (datum : A → Datum) (t : A) (before between : Budget) (mid : Reader) (c : Continues old mid)
      (one : ReadsFieldAs datum s place i fields old before t mid between) where
    pub rest_refused : (why : Reason) → IsFieldsRefusalAt ss place (i + 1) fields mid why → IsFieldsRefusalAt (tree_and s ss) place i fields old why
    rest_refused why h = (
      reason_up (tuple_tree ss) (tuple_tree (tree_and s ss)) why inr h.0,
      λ other p at a st.
          let g = one.read p at a st in
          fields_stuck_rest (λ j. field_at fields p j) s ss i a g.0 one.datum g.2 (h.1 other p (c.kept place p at) g.0 g.1),
    )

    pub field_and_rest : {R : Type 0} (content : R → Data) (r : R) (new : Reader) (after : Budget) → ReadsFieldsAs content ss place (i + 1) fields mid between r new after
        → ReadsFieldsAs (λ (x : A × R). datum_and (datum x.0) (content x.1)) (tree_and s ss) place i fields old before (t, r) new after
    field_and_rest content r new after rest = record {
      found = datum_and one.datum rest.found;
      read = λ p at a st.
          let g = one.read p at a st in
          let h = rest.read p (c.kept place p at) g.0 g.1 in
          (h.0, h.1, fields_and (λ j. field_at fields p j) s ss i a g.0 h.0 one.datum rest.found g.2 h.2);
      taken = rest.taken ∙ ap (spend (node_counts rest.found)) one.taken ∙ spend-then (node_count one.datum) (node_counts rest.found) before;
      same = λ left. (one.same (left_before (node_counts rest.found) between (subst IsLeft rest.taken left)), rest.same left);
    }

-- ---- the whole tuple

module _ (ss : ShapeTrees) (place : ℕ) (old : Reader) where
  pub fields_refused : (why : Reason) → IsFieldsRefusalAt ss place 0 (tree_count ss) old why → IsRefusalAt (tuple_tree ss) place old why
  fields_refused why h = (
    h.0,
    λ other p at a st.
        tuple_stuck ss p a (λ ds b r.
        h.1 other p at a st ds b (record { is = r.is; runs = subst (λ us. Runs Takes a us b) (sym (walk_of_fields ss p 0 ds)) r.runs })),
  )

  -- the tuple is a node, and so is each field
  pub all_read : {A : Type 0} (content : A → Data) (t : A) (first before : Budget) (new : Reader) (after : Budget) → before ≡ spend 1 first
      → ReadsFieldsAs content ss place 0 (tree_count ss) old before t new after → ReadsAs (λ x. tuple (content x)) (tuple_tree ss) place old first t new after
  all_read content t first before new after taken all = record {
    datum = tuple all.found;
    read = λ p at a st.
        let g = all.read p at a st in
        (g.0, g.1, tuple_read ss p a all.found g.0 (record { is = g.2.is; runs = subst (λ us. Runs Takes a us g.0) (walk_of_fields ss p 0 all.found) g.2.runs }));
    taken = all.taken ∙ ap (spend (node_counts all.found)) taken ∙ spend-then 1 (node_counts all.found) first;
    same = λ left. (all.found, content t, refl, refl, all.same left);
  }
