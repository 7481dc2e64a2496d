-- Where a reader of lengths refuses, no front of its input spells so many lengths.
use Rattle.std.proofs.Common.{◌≡◌, ◌≢◌, ℕ, ◌^◌, ◌<◌, false, ltb, Option, Some, None, List, ◌++◌, length, sum, refl, sym, ap, ◌∙◌, subst, inl, inr, arith}
use Rattle.std.proofs.lemmas.Bool.{cond-true, cond_both, lt-ltb}
use Rattle.std.proofs.lemmas.List.{append_assoc}
use Rattle.bitcode_memory.specs.declared.error.Reason.{Reason}
use Rattle.bitcode_memory.specs.declared.error.Reason.TheVariants.{OutOfMemory, LengthOverflow, HugeLength}
use Rattle.bitcode_columns.specs.ByteColumn.{SpellsBytes}
use Rattle.bitcode_columns.specs.IntColumn.{SpellsInts}
use Rattle.bitcode_columns.specs.Laws.{IsReadOnce}
use Rattle.bitcode_columns.specs.Reading.{Reads, Names, bytes_fault, ints_fault}
use Rattle.bitcode_columns.proofs.ByteColumnLemmas.{SpellsBytes-unambiguous, bytes_fault-refuses}
use Rattle.bitcode_columns.proofs.IntColumnLemmas.{SpellsInts-unambiguous, ints_fault-refuses}
use Rattle.bitcode_coder.specs.Coder.{IsReadingReason}
use Rattle.bitcode_coder.specs.LengthColumn.{SpellsLengths, KeepsCap, lengths_from, length_limit}
use Rattle.bitcode_coder.specs.LengthParts.{escapes, ReadsParts, sum_fault, NamesLengthFault, in_short, in_large, in_sum}
use Rattle.bitcode_coder.proofs.IntLemmas.{ints_refused}
use Rattle.bitcode_coder.proofs.LengthLemmas.{length-lengths_from, other_limit}

-- two readings of so many entries from one input
pub reads_once : {Entry : Type 0} {Spelled : List ℕ → List Entry → Type 0} {count : ℕ} {input rest left : List ℕ} {entries others : List Entry}
    → IsReadOnce Spelled → Reads Spelled count input entries rest → Reads Spelled count input others left → (entries ≡ others) × (rest ≡ left)
reads_once {rest = rest} {left = left} {entries = entries} {others = others} law r s =
    law.unambiguous r.piece s.piece entries others rest left r.spelled s.spelled (r.size ∙ sym s.size) (sym r.whole ∙ s.whole)

-- the parts of a reading of lengths
parts_of : {limit : Option ℕ} {count : ℕ} {input lengths rest : List ℕ} (r : Reads (SpellsLengths limit) count input lengths rest)
    → ReadsParts count input r.spelled.short r.spelled.large rest
parts_of {rest = rest} r =
    let s = r.spelled in
    record {
      middle = s.large_piece ++ rest;
      short_read = record {
        size = sym (ap length s.joined ∙ length-lengths_from s.short s.large) ∙ r.size;
        piece = s.short_piece;
        whole = r.whole ∙ (ap (λ piece. piece ++ rest) s.whole ∙ append_assoc s.short_piece s.large_piece rest);
        spelled = s.short_spelled;
      };
      large_read = record { size = s.large_count; piece = s.large_piece; whole = refl; spelled = s.large_spelled };
    }

-- two readings of both parts from one input
pub parts_once : {count : ℕ} {input short large rest others larges left : List ℕ} → ReadsParts count input short large rest
    → ReadsParts count input others larges left → (short ≡ others) × (large ≡ larges) × (rest ≡ left)
parts_once {large = large} {rest = rest} {others = others} r s =
    let same = reads_once SpellsBytes-unambiguous r.short_read s.short_read in
    let behind : Reads (SpellsInts 8) (escapes others) s.middle large rest =
    subst (λ middle. Reads (SpellsInts 8) (escapes others) middle large rest) same.1
    (subst (λ bytes. Reads (SpellsInts 8) (escapes bytes) r.middle large rest) same.0 r.large_read) in
    let same_large = reads_once (SpellsInts-unambiguous 8) behind s.large_read in
    (same.0, same_large.0, same_large.1)

sum_fault-none : (total : ℕ) → total < length_limit → sum_fault total ≡ None
sum_fault-none total below =
    cond-true (ltb total (2 ^ 64)) _ _ (lt-ltb total (2 ^ 64) (omega arith)) ∙ cond-true (ltb total length_limit) _ _ (lt-ltb total length_limit below)

module _ (limit : Option ℕ) (reason : Reason) (count : ℕ) (input : List ℕ) (other : reason ≢ OutOfMemory) (lengths rest : List ℕ)
    (r : Reads (SpellsLengths limit) count input lengths rest) where
  short_refused : Names reason (bytes_fault count input) → ⊥
  short_refused (inl memory) = other memory.0
  short_refused (inr fault) =
      let short = (parts_of r).short_read in
      bytes_fault-refuses.refused count input reason fault short.piece r.spelled.short (parts_of r).middle short.spelled short.size short.whole

  large_refused : (short middle : List ℕ) → Reads SpellsBytes count input short middle → Names reason (ints_fault 8 (escapes short) middle) → ⊥
  large_refused short middle read (inl memory) = other memory.0
  large_refused short middle read (inr fault) =
      let parts = parts_of r in
      let same = reads_once SpellsBytes-unambiguous read parts.short_read in
      (ints_fault-refuses 8).refused (escapes short) middle reason fault parts.large_read.piece r.spelled.large rest parts.large_read.spelled
      (parts.large_read.size ∙ ap escapes (sym same.0)) (same.1 ∙ parts.large_read.whole)

  sum_refused : (short large left : List ℕ) → ReadsParts count input short large left → sum_fault (sum (lengths_from short large)) ≡ Some reason → ⊥
  sum_refused short large left read fault =
      let same = parts_once read (parts_of r) in
      let total : sum (lengths_from short large) ≡ sum lengths =
      ap sum (ap (λ bytes. lengths_from bytes large) same.0 ∙ (ap (lengths_from r.spelled.short) same.1 ∙ sym r.spelled.joined)) in
      let no_fault : sum_fault (sum lengths) ≡ None = sum_fault-none (sum lengths) r.spelled.below_limit in
      let clash : None ≡ Some reason = sym no_fault ∙ (ap sum_fault (sym total) ∙ fault) in
      cc

  lengths_refused_here : NamesLengthFault reason count input → ⊥
  lengths_refused_here (in_short named) = short_refused named.named
  lengths_refused_here (in_large {short = short} {middle = middle} read named) = large_refused short middle read named.named
  lengths_refused_here (in_sum {short = short} {large = large} {rest = left} read fault) = sum_refused short large left read fault

pub lengths_refused : (limit : Option ℕ) (reason : Reason) (count : ℕ) (input : List ℕ) → NamesLengthFault reason count input → reason ≢ OutOfMemory
    → (lengths rest : List ℕ) → Reads (SpellsLengths limit) count input lengths rest → ⊥
lengths_refused limit reason count input fault other lengths rest r = lengths_refused_here limit reason count input other lengths rest r fault

-- the lengths of a reading are those of parts that were read
joined_parts : {limit : Option ℕ} {count : ℕ} {input short large left lengths rest : List ℕ} → ReadsParts count input short large left
    → (r : Reads (SpellsLengths limit) count input lengths rest) → (short ≡ r.spelled.short) × (lengths ≡ lengths_from short large)
joined_parts {short = short} read r =
    let same = parts_once read (parts_of r) in
    (same.0, r.spelled.joined ∙ (ap (λ bytes. lengths_from bytes r.spelled.large) (sym same.0) ∙ ap (lengths_from short) (sym same.1)))

-- where lengths were read that keep a limit, a reading without it is one with it
pub cap_kept : (limit : Option ℕ) (count : ℕ) (input short large left : List ℕ) → ReadsParts count input short large left
    → KeepsCap limit short (lengths_from short large) → {lengths rest : List ℕ} (r : Reads (SpellsLengths None) count input lengths rest)
    → SpellsLengths limit r.piece lengths
cap_kept limit count input short large left read keeps {lengths} r =
    let same = joined_parts read r in
    other_limit limit r.spelled (subst (λ bytes. KeepsCap limit bytes lengths) same.0 (subst (KeepsCap limit short) (sym same.1) keeps))

-- where lengths were read that break a limit, none that keep it can be read
pub cap_refused : (limit : Option ℕ) (count : ℕ) (input short large left : List ℕ) → ReadsParts count input short large left
    → (KeepsCap limit short (lengths_from short large) → ⊥) → (lengths rest : List ℕ) → Reads (SpellsLengths limit) count input lengths rest → ⊥
cap_refused limit count input short large left read broken lengths rest r =
    let same = joined_parts read r in
    broken (subst (KeepsCap limit short) same.1 (subst (λ bytes. KeepsCap limit bytes lengths) (sym same.0) r.spelled.keeps_cap))

-- ---- the reasons

abbrev KnownReason : Option Reason → Type 0
KnownReason None = Unit {0}
KnownReason (Some reason) = IsReadingReason reason

sum_fault-known : (total : ℕ) → KnownReason (sum_fault total)
sum_fault-known total =
    cond_both (ltb total (2 ^ 64)) _ (Some LengthOverflow) KnownReason
    (λ fits. cond_both (ltb total length_limit) None (Some HugeLength) KnownReason (λ below. tt) (λ huge. tt))
    (λ over. tt)

pub length_reason : (reason : Reason) (count : ℕ) (input : List ℕ) → NamesLengthFault reason count input → IsReadingReason reason
length_reason reason count input (in_short named) = (ints_refused 1 false reason count input named.named).0
length_reason reason count input (in_large {short = short} {middle = middle} read named) = (ints_refused 8 false reason (escapes short) middle named.named).0
length_reason reason count input (in_sum {short = short} {large = large} {rest = left} read fault) = subst KnownReason fault (sum_fault-known (sum (lengths_from short large)))
