-- Types that allow only some of the numbers of an integer: written and read as it, and then judged.
use Rattle.std.proofs.Common.{◌≡◌, ℕ, pos, ◌+◌, ◌*◌, ◌/◌, ◌%◌, ◌<◌, List, [], ap₂, sym, subst, arith}
use Rattle.std.specs.Prelude.{Result, Ok, Err}
use Rattle.std.specs.declared.time.Duration.{Duration}
use Rattle.std.specs.Duration.{as_nanos}
use Rattle.std.proofs.lemmas.Int.{ints}
use Rattle.bitcode_memory.specs.declared.error.Error.{Error}
use Rattle.bitcode_memory.specs.declared.error.Reason.{Reason}
use Rattle.bitcode_shapes.specs.Checked.{below_second}
use Rattle.bitcode_shapes.specs.Datum.{Datum, number_in, pair}
use Rattle.bitcode_shapes.specs.Durations.{seconds_and_nanos}
use Rattle.bitcode_shapes.specs.Shape.{Allowed, any_number, IsAllowed}
use Rattle.bitcode_coder.specs.Columns.{Kind}
use Rattle.bitcode_coder.specs.Spelling.{natural}
use Rattle.bitcode_untyped.specs.Nodes.{node_count}
use Rattle.bitcode_untyped.specs.Reads.{ReadsNoDatum}
use Rattle.bitcode_untyped.specs.ShapeTree.{leaf_tree, natural_tree, tuple_tree, tree_and, no_trees}
use Rattle.bitcode_untyped.proofs.ReadLemmas.{one_datum_read}
use Rattle.bitcode_serde.specs.Budget.{spend}
use Rattle.bitcode_serde.specs.ReadingValues.{HasNone, ReadsAt}
use Rattle.bitcode_serde.specs.Serializing.{Outcome}
use Rattle.bitcode_serde.specs.declared.budget.Budget.{Budget}
use Rattle.bitcode_serde.specs.declared.reader.Reader.{Reader}
use Rattle.bitcode_serde.specs.declared.writer.state.Writer.{Writer}
use Rattle.bitcode_serde_types.specs.Durations.{duration_tree, duration_datum}
use Rattle.bitcode_serde_types.specs.ReadingAs.{ReadsAs}
use Rattle.bitcode_serde_types.specs.Refusals.{IsReasonOf, IsRefusalAt}
use Rattle.bitcode_serde_types.proofs.KeptLemmas.{one_kept}
use Rattle.bitcode_serde_types.proofs.RefusalLemmas.{reason_up}

pub allowed_written : {A : Type 0} (kind : Kind) (allowed : Allowed) (old : Writer) (n : ℕ) (d : Datum) (faults : List Reason) (r : Result A Error) (new : Writer)
    → IsAllowed allowed (number_in d) → Outcome old (leaf_tree kind any_number) n d faults r new → Outcome old (leaf_tree kind allowed) n d faults r new
allowed_written kind allowed old n d faults (Ok a) new ok o =
    record { written = o.written; of_tree = (o.of_tree.0, ok); whole = o.whole; refused = o.refused }
allowed_written kind allowed old n d faults (Err e) new ok o = record { written = tt; of_tree = tt; whole = tt; refused = o.refused }

pub allowed_refused : (kind : Kind) (allowed : Allowed) (place : ℕ) (old : Reader) (why : Reason) → IsRefusalAt (leaf_tree kind any_number) place old why
    → IsRefusalAt (leaf_tree kind allowed) place old why
allowed_refused kind allowed place old why h = (
  reason_up (leaf_tree kind any_number) (leaf_tree kind allowed) why (λ never. absurd never) h.0,
  λ other p at a st d b r. h.1 other p at a st d b (record { is = ((r.is.0.0, tt), tt); runs = r.runs }),
)

-- the entry is none of the type
pub not_allowed : (kind : Kind) (allowed : Allowed) (place : ℕ) (old new : Reader) (d : Datum) → (IsAllowed allowed (number_in d) → ⊥)
    → ReadsAt (leaf_tree kind any_number) place old d new → HasNone old place (ReadsNoDatum (leaf_tree kind allowed))
not_allowed kind allowed place old new d none one p at a st e b r =
    let g = one p at a st in
    let same = one_datum_read (leaf_tree kind any_number) p d e a g.0 b g.2.is ((r.is.0.0, tt), tt) g.2.runs r.runs in
    none (subst (λ x. IsAllowed allowed (number_in x)) (sym same.0) r.is.0.1)

-- the number is none of the type
pub refused_number : (kind : Kind) (allowed : Allowed) (place : ℕ) (old new : Reader) (d e : Datum) (why : Reason) → d ≡ e → IsReasonOf (leaf_tree kind allowed) why
    → (IsAllowed allowed (number_in e) → ⊥) → ReadsAt (leaf_tree kind any_number) place old d new → IsRefusalAt (leaf_tree kind allowed) place old why
refused_number kind allowed place old new d e why same refuses bad read =
    (refuses, λ other. not_allowed kind allowed place old new d (λ ok. bad (subst (λ x. IsAllowed allowed (number_in x)) same ok)) read)

pub allowed_kept : {A : Type 0} (f : A → Datum) (kind : Kind) (allowed : Allowed) (place : ℕ) (old new : Reader) (before after : Budget) (t : A) (d : Datum)
    → d ≡ f t → node_count (f t) ≡ 1 → IsAllowed allowed (number_in (f t)) → after ≡ spend 1 before → ReadsAt (leaf_tree kind any_number) place old d new
    → ReadsAs f (leaf_tree kind allowed) place old before t new after
allowed_kept f kind allowed place old new before after t d same one ok taken read =
    one_kept f (λ e. ReadsAt (leaf_tree kind allowed) place old e new) before after t one taken
    (λ p at a st.
    let r = subst (λ e. ReadsAt (leaf_tree kind any_number) place old e new) same read p at a st in
    (r.0, r.1, record { is = ((r.2.is.0.0, ok), tt); runs = r.2.runs }))

pub below_a_second : (n : ℕ) → n < 1000000000 → IsAllowed below_second (pos n)
below_a_second n h = (omega (arith, ints), omega (arith, ints, h))

pub is_below_second : (n : ℕ) → IsAllowed below_second (pos n) → n < 1000000000
is_below_second n h = let below = h.1 in omega (arith, ints, below)

-- ---- durations

pub duration_written : {A : Type 0} (old : Writer) (n seconds nanos : ℕ) (t : Duration) (r : Result A Error) (new : Writer) → seconds ≡ (seconds_and_nanos t).0
    → nanos ≡ (seconds_and_nanos t).1 → nanos < 1000000000
    → Outcome old (tuple_tree (tree_and (natural_tree 8) (tree_and (natural_tree 4) no_trees))) n (pair (natural seconds) (natural nanos)) [] r new
    → Outcome old duration_tree n (duration_datum t) [] r new
duration_written {A = A} old n seconds nanos t r new whole left below o =
    subst (λ s. Outcome old duration_tree n (pair (natural s) (natural (seconds_and_nanos t).1)) [] r new) whole
    (subst (λ m. Outcome old duration_tree n (pair (natural seconds) (natural m)) [] r new) left (judged r o))
  where
    judged : (q : Result A Error)
        → Outcome old (tuple_tree (tree_and (natural_tree 8) (tree_and (natural_tree 4) no_trees))) n (pair (natural seconds) (natural nanos)) [] q new
        → Outcome old duration_tree n (pair (natural seconds) (natural nanos)) [] q new
    judged (Ok a) k = record {
      written = k.written;
      of_tree = (k.of_tree.0, (k.of_tree.1.0, ((k.of_tree.1.1.0.0, below_a_second nanos below), tt)));
      whole = k.whole;
      refused = tt;
    }
    judged (Err e) k = record { written = tt; of_tree = tt; whole = tt; refused = k.refused }

-- the seconds and the nanoseconds that a duration is made of
pub duration_made : (t : Duration) (seconds nanos : ℕ) → as_nanos t ≡ seconds * 1000000000 + nanos → nanos < 1000000000
    → duration_datum t ≡ pair (natural seconds) (natural nanos)
duration_made t seconds nanos made below =
    let whole : as_nanos t / 1000000000 ≡ seconds = omega (arith, made) in
    let left : as_nanos t % 1000000000 ≡ nanos = omega (arith, made) in
    ap₂ (λ s m. pair (natural s) (natural m)) whole left
