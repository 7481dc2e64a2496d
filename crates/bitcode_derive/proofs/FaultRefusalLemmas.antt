-- Where data of a shape have a first fault, no front of the input spells them.
use Rattle.std.proofs.Common.{◌≡◌, ℕ, zero, suc, ◌*◌, ◌^◌, ◌<◌, ◌≤◌, Option, Some, None, List, ◌++◌, length, sum, sym, ap, subst, inl, inr, ◌∙◌, arith, length-append}
use Rattle.std.specs.Float.{binary32, binary64}
use Rattle.std.proofs.lemmas.List.{length-map}
use Rattle.bitcode_memory.specs.declared.error.Reason.{Reason}
use Rattle.bitcode_columns.specs.Reading.{Reads}
use Rattle.bitcode_shapes.specs.Datum.{Datum}
use Rattle.bitcode_shapes.specs.Shape.{Shape, Shapes, unit_shape, never_shape, bool_shape, number_shape, float_shape, text_shape, raw_shape, seq_shape, map_shape, array_shape, pair_shape, choice_shape, admitted_shape, no_shapes, shape_and}
use Rattle.bitcode_coder.specs.Coder.{IsReadingReason, IsReadingRefusal}
use Rattle.bitcode_coder.specs.FirstFault.{IsFirstFault, IsPayloadsFault, ListsFault, PairsFault}
use Rattle.bitcode_coder.specs.Spelling.{Spells, natural}
use Rattle.bitcode_coder.proofs.AdmittedLemmas.{refuses_admitted, refuses_unadmitted}
use Rattle.bitcode_coder.proofs.BoolLemmas.{bools_refused}
use Rattle.bitcode_coder.proofs.DatumLemmas.{none_never}
use Rattle.bitcode_coder.proofs.StrLemmas.{text_refusal}
use Rattle.bitcode_coder.proofs.LimitedTextLemmas.{limited_refusal}
use Rattle.bitcode_ints.proofs.CheckedLemmas.{checked_refusal}
use Rattle.bitcode_floats.proofs.FloatLemmas.{long_refuses, split_refuses}
use Rattle.bitcode_tuples.proofs.ReadingLemmas.{refuses_first as refuses_first_field, refuses_second as refuses_second_field}
use Rattle.bitcode_parts.specs.Payloads.{IsPayloadsRefusal}
use Rattle.bitcode_parts.proofs.ListLemmas.{refuses_lengths, refuses_elements}
use Rattle.bitcode_parts.proofs.ArrayReadingLemmas.{refuses_elements as refuses_array_elements}
use Rattle.bitcode_parts.proofs.ChoiceReadingLemmas.{refuses_variants, refuses_payloads, refuses_first, refuses_later}
use Rattle.bitcode_derive.proofs.MapReadingLemmas.{refuses_map}

-- such faults are refusals of data of the shape
abbrev pub Refuse : Shape → (Reason → ℕ → List ℕ → Type 0) → Type 0
Refuse shape Fault = (reason : Reason) (k : ℕ) (input : List ℕ) → Fault reason k input → IsReadingRefusal shape reason k input

-- ---- columns

-- a byte of a text for each datum
raws_missing : (reason : Reason) (k : ℕ) (input : List ℕ) → length input < k → (ds : List Datum) (rest : List ℕ) → Reads (Spells raw_shape) k input ds rest → ⊥
raws_missing reason k input few ds rest r =
    let column = r.spelled.columns in
    let bytes : length r.piece ≡ length column.entries = ap (λ l. length l) column.spelled in
    let numbers : length ds ≡ length column.entries = ap (λ l. length l) column.are ∙ length-map column.entries natural in
    let whole : length input ≡ length (r.piece ++ rest) = ap (λ l. length l) r.whole in
    let parts = length-append r.piece rest in
    let size = r.size in
    omega (arith, few, bytes, numbers, whole, parts, size)

-- more arrays than a length counts elements
arrays_over : (size : ℕ) (element : Shape) (k : ℕ) (input : List ℕ) → 2 ^ 64 ≤ k * size → (ds : List Datum) (rest : List ℕ)
    → Reads (Spells (array_shape size element)) k input ds rest → ⊥
arrays_over zero element k input over ds rest r = absurd (omega (arith, over))
arrays_over (suc size) element k input over ds rest r =
    let fits : k * suc size < 2 ^ 64 = subst (λ n. n * suc size < 2 ^ 64) r.size r.spelled.counts.0 in
    absurd (omega (arith, over, fits))

-- ---- one part after another

pub lists_refuse : (limit : Option ℕ) (element : Shape) {Fault : Reason → ℕ → List ℕ → Type 0} → Refuse element Fault → Refuse (seq_shape limit element) (ListsFault Fault)
lists_refuse limit element refuse reason k input (inl fault) = refuses_lengths limit element k reason input fault
lists_refuse limit element refuse reason k input (inr behind) =
    refuses_elements limit element k reason input behind.rest behind.entries behind.read (refuse reason (sum behind.entries) behind.rest behind.fault)

pairs_refuse : (first second : Shape) {First Second : Reason → ℕ → List ℕ → Type 0} → Refuse first First → Refuse second Second
    → Refuse (pair_shape first second) (PairsFault first First Second)
pairs_refuse first second refuse behind_refuse reason k input (inl fault) = refuses_first_field first second k reason input (refuse reason k input fault)
pairs_refuse first second refuse behind_refuse reason k input (inr behind) =
    refuses_second_field first second k reason input behind.rest behind.entries behind.read (behind_refuse reason k behind.rest behind.fault)

-- ---- all shapes

mutual
  pub fault_refuses : (shape : Shape) → Refuse shape (IsFirstFault shape)
  fault_refuses unit_shape reason k input fault = absurd fault
  fault_refuses never_shape reason k input fault = (
    subst IsReadingReason (sym fault.0) tt,
    λ other ds rest r.
        let none : length ds ≡ 0 = ap (λ l. length l) (none_never ds r.spelled.of_shape) in
        let size = r.size in
        let some = fault.1 in
        omega (arith, none, size, some),
  )
  fault_refuses bool_shape reason k input fault = bools_refused reason k input fault.named
  fault_refuses (number_shape width signed allowed) reason k input fault = checked_refusal width signed allowed reason k input fault
  fault_refuses (float_shape binary32) reason k input fault = split_refuses reason k input fault
  fault_refuses (float_shape binary64) reason k input fault = long_refuses reason k input fault.named
  fault_refuses (text_shape None) reason k input fault = text_refusal reason k input fault
  fault_refuses (text_shape (Some limit)) reason k input fault = limited_refusal limit reason k input fault
  fault_refuses raw_shape reason k input fault =
      (subst IsReadingReason (sym fault.0) tt, λ other ds rest r. raws_missing reason k input fault.1 ds rest r)
  fault_refuses (seq_shape None element) reason k input fault =
      lists_refuse None element (λ r n i f. fault_refuses element r n i f) reason k input fault
  fault_refuses (seq_shape (Some limit) element) reason k input (inl fault) =
      lists_refuse (Some limit) element (λ r n i f. fault_refuses element r n i f) reason k input fault
  fault_refuses (seq_shape (Some limit) element) reason k input (inr broken) =
      (subst IsReadingReason (sym broken.is) tt, λ other ds rest r. broken.over ds rest r)
  fault_refuses (map_shape key value) reason k input fault =
      refuses_map key value k input reason
      (lists_refuse None (pair_shape key value)
      (pairs_refuse key value (λ r n i f. fault_refuses key r n i f) (λ r n i f. fault_refuses value r n i f)) reason k input fault)
  fault_refuses (array_shape size element) reason k input (inl over) =
      (subst IsReadingReason (sym over.1) tt, λ other ds rest r. arrays_over size element k input over.0 ds rest r)
  fault_refuses (array_shape size element) reason k input (inr fault) =
      refuses_array_elements size element k reason input (fault_refuses element reason (k * size) input fault.1)
  fault_refuses (pair_shape first second) reason k input fault =
      pairs_refuse first second (λ r n i f. fault_refuses first r n i f) (λ r n i f. fault_refuses second r n i f) reason k input fault
  fault_refuses (choice_shape shapes) reason k input (inl fault) = refuses_variants shapes reason k input fault.named
  fault_refuses (choice_shape shapes) reason k input (inr behind) =
      refuses_payloads shapes reason behind.read (payloads_refuse shapes reason 0 behind.entries behind.rest behind.fault)
  fault_refuses (admitted_shape admits shape) reason k input (inl fault) = refuses_admitted admits shape k reason input
      (fault_refuses shape reason k input fault)
  fault_refuses (admitted_shape admits shape) reason k input (inr broken) = refuses_unadmitted admits shape k reason input broken

  payloads_refuse : (shapes : Shapes) (reason : Reason) (index : ℕ) (variants input : List ℕ) → IsPayloadsFault shapes reason index variants input
      → IsPayloadsRefusal shapes index variants reason input
  payloads_refuse no_shapes reason index variants input fault = absurd fault
  payloads_refuse (shape_and s ss) reason index variants input (inl fault) = refuses_first s ss index variants reason (fault_refuses s reason _ input fault)
  payloads_refuse (shape_and s ss) reason index variants input (inr behind) =
      refuses_later s ss index variants reason behind.read (payloads_refuse ss reason (suc index) variants behind.rest behind.fault)
