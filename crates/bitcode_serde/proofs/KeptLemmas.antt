-- What is kept of units, leaves, lists of bytes, and data without a column.
use Rattle.std.proofs.Common.{◌≡◌, ℕ, zero, suc, ◌+◌, Some, List, [], ◌∷◌, length, map, true, refl, ap, sym, subst, ◌∙◌, arith, Vec}
use Rattle.std.specs.Prelude.{Result, Ok, Err, IfOk}
use Rattle.std.specs.Global.{Global}
use Rattle.std.specs.List.{AllByRecursion}
use Rattle.bitcode_memory.specs.declared.error.Error.{Error}
use Rattle.bitcode_shapes.specs.Datum.{Datum, unit, list, pair, data_of}
use Rattle.bitcode_coder.specs.Spelling.{natural}
use Rattle.bitcode_untyped.specs.Bounds.{column_free}
use Rattle.bitcode_untyped.specs.Faults.{faults_of}
use Rattle.bitcode_untyped.specs.Leaves.{Entry, entry_of}
use Rattle.bitcode_untyped.specs.Nodes.{node_count, node_counts}
use Rattle.bitcode_untyped.specs.ShapeTree.{ShapeTree, unit_tree, IsSound}
use Rattle.bitcode_untyped.specs.View.{datum_of, datum_of_entry, followed, tree_by, tree_of_node}
use Rattle.bitcode_untyped.specs.declared.shape.ShapeNode.{ShapeNode}
use Rattle.bitcode_untyped.specs.declared.value.Value.{Value, out-Value}
use Rattle.bitcode_untyped.specs.declared.value.Value.TheOpen.{Value-F}
use Rattle.bitcode_untyped.specs.declared.value.Value.TheVariants as value
use Rattle.bitcode_untyped.proofs.FreeLemmas.{free_datum, free_read}
use Rattle.bitcode_untyped.proofs.LeafLemmas.{leaf_datum}
use Rattle.bitcode_untyped.proofs.ReadLemmas.{unit_read}
use Rattle.bitcode_untyped.proofs.ViewLemmas.{datum-Unit}
use Rattle.bitcode_serde.specs.Budget.{spend, KeepsEach}
use Rattle.bitcode_serde.specs.ReadColumns.{IsCaseOf}
use Rattle.bitcode_serde.specs.ReadingValues.{HasColumn, Continues, ReadsAt, ReadsListAt, ReadsLeafAt, AddsRead, ReadsWithin, ReadsListWithin, AddsWithin}
use Rattle.bitcode_serde.specs.declared.budget.Budget.{Budget}
use Rattle.bitcode_serde.specs.declared.budget.Budget.TheVariants.{Spent}
use Rattle.bitcode_serde.specs.declared.column.ColumnKind.{ColumnKind}
use Rattle.bitcode_serde.specs.declared.reader.Reader.{Reader}
use Rattle.bitcode_serde.proofs.BudgetLemmas.{spend-then, spend-Spent, keeps_more}
use Rattle.bitcode_serde.proofs.ValueLemmas.{asked_alike, one_more, ReadsPairsAt, one_more_pair}

-- ---- one node

entry_nodes : (y : Value-F Value) (e : Entry) → entry_of y ≡ Some e → node_count e.datum ≡ 1
entry_nodes Value-F.Unit e h = cc
entry_nodes (Value-F.Bytes v) e h = cc
entry_nodes (Value-F.Option o) e h = cc
entry_nodes (Value-F.Seq v) e h = cc
entry_nodes (Value-F.Map v) e h = cc
entry_nodes (Value-F.Tuple v) e h = cc
entry_nodes (Value-F.Enum i b) e h = cc
entry_nodes y e h = sym (ap (λ o. node_count (datum_of_entry o)) h)

pub one_node : (k : ColumnKind) (v : Value) → IsCaseOf k v → node_count (datum_of v) ≡ 1
one_node k v h = ap node_count (leaf_datum v _ h.1) ∙ entry_nodes (out-Value v) _ h.1

pub each_one_node : (k : ColumnKind) (vs : List Value) → AllByRecursion (IsCaseOf k) vs → node_counts (data_of (map datum_of vs)) ≡ length vs
each_one_node k [] h = refl
each_one_node k (v ∷ vs) h = let a = one_node k v h.0 in let b = each_one_node k vs h.1 in omega (arith, a, b)

pub bytes_nodes : (ns : List ℕ) → node_counts (data_of (map natural ns)) ≡ length ns
bytes_nodes [] = refl
bytes_nodes (n ∷ ns) = let h = bytes_nodes ns in omega (arith, h)

-- ---- what is kept

pub unit_within : (place : ℕ) (r : Reader) (before after : Budget) → after ≡ spend 1 before → ReadsWithin unit_tree place r before value.Unit r after
unit_within place r before after taken =
    record { datum = unit; read = λ p at a st. (a, st, unit_read p a); taken = taken; same = λ h. datum-Unit }

pub entry_within : (n : ShapeNode) (place : ℕ) (old new : Reader) (before after : Budget) (r : Result Value Error) (follow : ℕ → ShapeTree)
    → after ≡ spend 1 before → IfOk r (λ v. ReadsLeafAt n place old (datum_of v) new) → IfOk r (λ v. node_count (datum_of v) ≡ 1)
    → IfOk r (λ v. ReadsWithin (tree_by follow n) place old before v new after)
entry_within n place old new before after (Ok v) follow taken read single =
    record { datum = datum_of v; read = read follow; taken = taken ∙ ap (λ k. spend k before) (sym single); same = λ h. refl }
entry_within n place old new before after (Err e) follow taken read single = tt

pub leaf_adds : (n : ShapeNode) (kind : ColumnKind) (table : List ShapeNode) (left place : ℕ) (old new : Reader) (before after : Budget) (those all : List Value)
    → HasColumn n kind → after ≡ spend 1 before → AddsRead kind place old new those all
    → AddsWithin (tree_of_node left table n) (λ v. faults_of table v left n ≡ []) place old before those new after all
leaf_adds n kind table left place old new before after those all has taken one = record {
  value = one.value;
  read = record {
    datum = datum_of one.value;
    read = subst (λ s. ReadsAt s place old (datum_of one.value) new) (sym (has.tree (followed left table))) one.read;
    taken = taken ∙ ap (λ k. spend k before) (sym (one_node kind one.value one.of_case));
    same = λ h. refl;
  };
  whole = λ h. has.whole one.value one.of_case table left;
  added = λ h. one.added;
}

pub leaves_within : (s : ShapeTree) (place count : ℕ) (old new : Reader) (before after : Budget) (k : ColumnKind) (r : Result (Vec Value Global) Error)
    → after ≡ spend count before → IfOk r (λ vs. ReadsListAt s place old count (map datum_of vs.items) new) → IfOk r (λ vs. AllByRecursion (IsCaseOf k) vs.items)
    → IfOk r (λ vs. length vs.items ≡ count) → IfOk r (λ vs. ReadsListWithin s place old before count vs.items new after)
leaves_within s place count old new before after k (Ok vs) taken read of size = record {
  listing = map datum_of vs.items;
  read = read;
  taken = taken ∙ ap (λ n. spend n before) (sym (each_one_node k vs.items of ∙ size));
  same = λ h. refl;
}
leaves_within s place count old new before after k (Err e) taken read of size = tt

pub bytes_taken : (before mid after : Budget) (n : ℕ) (ns : List ℕ) → mid ≡ spend 1 before → after ≡ spend n mid → length ns ≡ n
    → after ≡ spend (node_count (list (data_of (map natural ns)))) before
bytes_taken before mid after n ns first second size =
    second ∙ ap (spend n) first ∙ spend-then 1 n before ∙ ap (λ k. spend (1 + k) before) (sym (bytes_nodes ns ∙ size))

-- ---- nothing is kept any more

-- Further elements without a column are read where they stand.
pub rest_within : (s : ShapeTree) (place : ℕ) (old mid : Reader) (before : Budget) (vs : List Value) (n i : ℕ) → Continues old mid → IsSound s
    → column_free s ≡ true → ReadsListWithin s place old before i vs mid Spent → ReadsListWithin s place old before (i + n) vs mid Spent
rest_within s place old mid before vs zero i c sound free k =
    let e : i ≡ i + 0 = omega arith in subst (λ j. ReadsListWithin s place old before j vs mid Spent) e k
rest_within s place old mid before vs (suc n) i c sound free k =
    let d = free_datum s in
    let more : ReadsListWithin s place old before (i + 1) vs mid Spent =
    keeps_more datum_of (λ ds. ReadsListAt s place old i ds mid) (λ ds. ReadsListAt s place old (i + 1) ds mid) before Spent Spent vs vs value.Unit d k
    (one_more s place old mid mid i k.listing d c k.read (λ p at a st. (a, st, free_read s p a sound free))) (sym (spend-Spent (node_count d))) (λ h. absurd h) (λ h. absurd h) in
    let e : i + 1 + n ≡ i + suc n = omega arith in
    subst (λ j. ReadsListWithin s place old before j vs mid Spent) e (rest_within s place old mid before vs n (i + 1) c sound free more)

-- Further pairs without a column are read where they stand.
pub rest_pairs_within : {A : Type 0} (content : A → Datum) (k v : ShapeTree) (keys values : ℕ) (old mid : Reader) (before : Budget) (es : List A) (e : A) (n i : ℕ)
    → Continues old mid → IsSound k → IsSound v → column_free k ≡ true → column_free v ≡ true
    → KeepsEach content (λ ds. ReadsPairsAt k v keys values old i ds mid) before es Spent
    → KeepsEach content (λ ds. ReadsPairsAt k v keys values old (i + n) ds mid) before es Spent
rest_pairs_within content k v keys values old mid before es e zero i c sound_key sound_value free_key free_value so_far =
    let same : i ≡ i + 0 = omega arith in subst (λ j. KeepsEach content (λ ds. ReadsPairsAt k v keys values old j ds mid) before es Spent) same so_far
rest_pairs_within content k v keys values old mid before es e (suc n) i c sound_key sound_value free_key free_value so_far =
    let stays : Continues mid mid = record { steady = c.steady; asked = asked_alike mid; kept = λ j p at. at } in
    let x = free_datum k in
    let y = free_datum v in
    let more : KeepsEach content (λ ds. ReadsPairsAt k v keys values old (i + 1) ds mid) before es Spent =
    keeps_more content (λ ds. ReadsPairsAt k v keys values old i ds mid) (λ ds. ReadsPairsAt k v keys values old (i + 1) ds mid) before Spent Spent es es e (pair x y) so_far
    (one_more_pair k v keys values old mid i so_far.listing c so_far.read mid mid x y stays (λ p at a st. (a, st, free_read k p a sound_key free_key))
    (λ p at a st. (a, st, free_read v p a sound_value free_value))) (sym (spend-Spent (node_count (pair x y)))) (λ h. absurd h) (λ h. absurd h) in
    let all : i + 1 + n ≡ i + suc n = omega arith in
    subst (λ j. KeepsEach content (λ ds. ReadsPairsAt k v keys values old j ds mid) before es Spent) all
    (rest_pairs_within content k v keys values old mid before es e n (i + 1) c sound_key sound_value free_key free_value more)
