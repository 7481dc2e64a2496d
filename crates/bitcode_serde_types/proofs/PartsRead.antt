-- Reading the fields of a tuple in two parts.
use Rattle.std.proofs.Common.{◌≡◌, ℕ, suc, ◌+◌, Bool, true, false, ◌&&◌, refl, ap, sym, subst, ◌∙◌, arith}
use Rattle.bitcode_memory.specs.declared.error.Reason.{Reason}
use Rattle.bitcode_shapes.specs.Datum.{Data, no_data, datum_and}
use Rattle.bitcode_untyped.specs.Bounds.{column_free, all_free, AreLimited}
use Rattle.bitcode_untyped.specs.Machine.{State, Takes}
use Rattle.bitcode_untyped.specs.Nodes.{node_counts}
use Rattle.bitcode_untyped.specs.Reads.{ReadsFields, ReadsNoFields}
use Rattle.bitcode_untyped.specs.Runs.{Runs}
use Rattle.bitcode_untyped.specs.ShapeTree.{ShapeTrees, no_trees, tree_and, tuple_tree, AreOf}
use Rattle.bitcode_untyped.specs.Walk.{Place, walk, walk_fields}
use Rattle.bitcode_untyped.proofs.OneRunLemmas.{runs-append}
use Rattle.bitcode_untyped.proofs.OnceLemmas.{takes_one}
use Rattle.bitcode_untyped.proofs.ReadLemmas.{runs_on, fields_none, fields_and, fields_stuck_rest}
use Rattle.bitcode_serde.specs.Budget.{spend, IsLeft}
use Rattle.bitcode_serde.specs.ReadingValues.{Continues, field_at}
use Rattle.bitcode_serde.specs.declared.budget.Budget.{Budget}
use Rattle.bitcode_serde.specs.declared.reader.Reader.{Reader}
use Rattle.bitcode_serde.proofs.BudgetLemmas.{spend-then, left_before}
use Rattle.bitcode_serde_types.specs.FieldsWritten.{tree_count}
use Rattle.bitcode_serde_types.specs.Joined.{joined, joined_data}
use Rattle.bitcode_serde_types.specs.ReadingAs.{ReadsFieldsAs}
use Rattle.bitcode_serde_types.specs.Refusals.{IsFieldsRefusalAt}
use Rattle.bitcode_serde_types.specs.Restates.{RestatesFields}
use Rattle.bitcode_serde_types.proofs.JoinedLemmas.{walk_joined, are_joined}
use Rattle.bitcode_serde_types.proofs.RefusalLemmas.{reason_up, refuse_first, refuse_rest}

pub joined_count : (ps rs : ShapeTrees) → tree_count (joined ps rs) ≡ tree_count ps + tree_count rs
joined_count no_trees rs = omega arith
joined_count (tree_and s ps) rs = let h = joined_count ps rs in omega (arith, h)

pub joined_free : (ps rs : ShapeTrees) → all_free (joined ps rs) ≡ all_free ps && all_free rs
joined_free no_trees rs = refl
joined_free (tree_and s ps) rs = ap (λ b. column_free s && b) (joined_free ps rs) ∙ grouped (column_free s) (all_free ps) (all_free rs)
  where
    grouped : (a b c : Bool) → a && (b && c) ≡ (a && b) && c
    grouped true b c = refl
    grouped false b c = refl

limited_joined : (ps rs : ShapeTrees) (ds es : Data) → AreOf ps ds → AreLimited ps ds → AreLimited rs es → AreLimited (joined ps rs) (joined_data ds es)
limited_joined no_trees rs no_data es of h k = k
limited_joined no_trees rs (datum_and d ds) es of h k = absurd of
limited_joined (tree_and s ps) rs no_data es of h k = absurd of
limited_joined (tree_and s ps) rs (datum_and d ds) es of h k = (h.0, limited_joined ps rs ds es of.1 h.1 k)

joined_nodes : (ds es : Data) → node_counts (joined_data ds es) ≡ node_counts ds + node_counts es
joined_nodes no_data es = omega arith
joined_nodes (datum_and d ds) es = let h = joined_nodes ds es in omega (arith, h)

pub joined_restated : (ps rs : ShapeTrees) (ds es xs ys : Data) → RestatesFields ps ds es → RestatesFields rs xs ys
    → RestatesFields (joined ps rs) (joined_data ds xs) (joined_data es ys)
joined_restated no_trees rs no_data no_data xs ys h k = k
joined_restated no_trees rs no_data (datum_and e es) xs ys h k = absurd h
joined_restated no_trees rs (datum_and d ds) no_data xs ys h k = absurd h
joined_restated no_trees rs (datum_and d ds) (datum_and e es) xs ys h k = absurd h
joined_restated (tree_and s ps) rs no_data no_data xs ys h k = absurd h
joined_restated (tree_and s ps) rs no_data (datum_and e es) xs ys h k = absurd h
joined_restated (tree_and s ps) rs (datum_and d ds) no_data xs ys h k = absurd h
joined_restated (tree_and s ps) rs (datum_and d ds) (datum_and e es) xs ys h k = (h.0, joined_restated ps rs ds es xs ys h.1 k)

-- ---- the machine's steps

module _ (at : ℕ → Place) where
  pub parts_read : (ps rs : ShapeTrees) (i : ℕ) (a b c : State) (ds es : Data) → ReadsFields ps at i a ds b → ReadsFields rs at (i + tree_count ps) b es c
      → ReadsFields (joined ps rs) at i a (joined_data ds es) c
  parts_read ps rs i a b c ds es r t = record {
    is = (are_joined ps rs ds es r.is.0 t.is.0, limited_joined ps rs ds es r.is.0 r.is.1 t.is.1);
    runs = subst (λ w. Runs Takes a w c) (sym (walk_joined ps rs at i ds es r.is.0))
        (runs_on (walk_fields ps at i ds) (walk_fields rs at (i + tree_count ps) es) a b c r.runs t.runs);
  }

  pub first_stuck : (ps rs : ShapeTrees) (i : ℕ) (a : State) → ReadsNoFields ps at i a → ReadsNoFields (joined ps rs) at i a
  first_stuck no_trees rs i a stuck xs b r = stuck no_data a (fields_none at i a)
  first_stuck (tree_and s ps) rs i a stuck no_data b r = r.is.0
  first_stuck (tree_and s ps) rs i a stuck (datum_and d ds) b r =
      let w = runs-append Takes takes_one (walk s (at i) d) (walk_fields (joined ps rs) at (i + 1) ds) a b r.runs in
      first_stuck ps rs (i + 1) w.0
      (λ es c t. stuck (datum_and d es) c (fields_and at s ps i a w.0 c d es (record { is = (r.is.0.0, r.is.1.0); runs = w.1 }) t)) ds b
      (record { is = (r.is.0.1, r.is.1.1); runs = w.2 })

  pub rest_stuck : (ps rs : ShapeTrees) (i : ℕ) (a b : State) (ds : Data) → ReadsFields ps at i a ds b → ReadsNoFields rs at (i + tree_count ps) b
      → ReadsNoFields (joined ps rs) at i a
  rest_stuck no_trees rs i a b no_data r stuck =
      let e : i + 0 ≡ i = omega arith in
      subst (λ z. ReadsNoFields rs at i z) (sym r.runs) (subst (λ j. ReadsNoFields rs at j b) e stuck)
  rest_stuck no_trees rs i a b (datum_and d ds) r stuck = absurd r.is.0
  rest_stuck (tree_and s ps) rs i a b no_data r stuck = absurd r.is.0
  rest_stuck (tree_and s ps) rs i a b (datum_and d ds) r stuck =
      let w = runs-append Takes takes_one (walk s (at i) d) (walk_fields ps at (i + 1) ds) a b r.runs in
      let next : i + suc (tree_count ps) ≡ i + 1 + tree_count ps = omega arith in
      fields_stuck_rest at s (joined ps rs) i a w.0 d (record { is = (r.is.0.0, r.is.1.0); runs = w.1 })
      (rest_stuck ps rs (i + 1) w.0 b ds (record { is = (r.is.0.1, r.is.1.1); runs = w.2 }) (subst (λ j. ReadsNoFields rs at j b) next stuck))

-- ---- readers

module _ (ps rs : ShapeTrees) (place i fields : ℕ) (old : Reader) where
  pub first_part_refused : (why : Reason) → IsFieldsRefusalAt ps place i fields old why → IsFieldsRefusalAt (joined ps rs) place i fields old why
  first_part_refused why h = (reason_up (tuple_tree ps) (tuple_tree (joined ps rs)) why (refuse_first ps rs why) h.0, λ other p at a st. first_stuck (λ j. field_at fields p j) ps rs i a (h.1 other p at a st))

  module _ {A : Type 0} (content : A → Data) (t : A) (before between : Budget) (mid : Reader) (c : Continues old mid)
      (first : ReadsFieldsAs content ps place i fields old before t mid between) where
    pub rest_part_refused : (why : Reason) → IsFieldsRefusalAt rs place (i + tree_count ps) fields mid why
        → IsFieldsRefusalAt (joined ps rs) place i fields old why
    rest_part_refused why h = (
      reason_up (tuple_tree rs) (tuple_tree (joined ps rs)) why (refuse_rest ps rs why) h.0,
      λ other p at a st.
          let g = first.read p at a st in
          rest_stuck (λ j. field_at fields p j) ps rs i a g.0 first.found g.2 (h.1 other p (c.kept place p at) g.0 g.1),
    )

    pub both_parts : {R : Type 0} (more : R → Data) (r : R) (new : Reader) (after : Budget)
        → ReadsFieldsAs more rs place (i + tree_count ps) fields mid between r new after
        → ReadsFieldsAs (λ (x : A × R). joined_data (content x.0) (more x.1)) (joined ps rs) place i fields old before (t, r) new after
    both_parts more r new after rest = record {
      found = joined_data first.found rest.found;
      read = λ p at a st.
          let g = first.read p at a st in
          let h = rest.read p (c.kept place p at) g.0 g.1 in
          (h.0, h.1, parts_read (λ j. field_at fields p j) ps rs i a g.0 h.0 first.found rest.found g.2 h.2);
      taken = rest.taken ∙ ap (spend (node_counts rest.found)) first.taken ∙ spend-then (node_counts first.found) (node_counts rest.found) before
          ∙ ap (λ n. spend n before) (sym (joined_nodes first.found rest.found));
      same = λ left.
          joined_restated ps rs first.found (content t) rest.found (more r)
          (first.same (left_before (node_counts rest.found) between (subst IsLeft rest.taken left))) (rest.same left);
    }
