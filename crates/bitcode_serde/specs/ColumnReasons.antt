-- Why the columns of values are refused.
use Rattle.std.proofs.Common.{ℕ, Bool, ◌*◌, ◌%◌, ◌^◌, ltb, leb, eqb, Option, Some, None, List, [], ◌∷◌, length, sum, drop, inl, inr, sym, subst}
use Rattle.std.specs.Float.{Format, binary32, binary64}
use Rattle.std.proofs.lemmas.Bool.{cond_both}
use Rattle.bitcode_memory.specs.declared.error.Reason.{Reason}
use Rattle.bitcode_memory.specs.declared.error.Reason.TheVariants.{Eof, InvalidPacking, LengthOverflow, HugeLength}
use Rattle.bitcode_columns.specs.ByteColumn.{base_at_level, highest_byte_tag}
use Rattle.bitcode_columns.specs.IntColumn.{IntForm, bytes_form, bare_form, tagged_form, int_form, highest_int_tag, width_at_level}
use Rattle.bitcode_columns.specs.Reading.{missing, digits_fault, bytes_fault, tagged_fault, narrow_fault, ints_fault_as, ints_fault, Names}
use Rattle.bitcode_columns.specs.Tagged.{level_of_tag}
use Rattle.bitcode_shapes.specs.Ints.{int_shape}
use Rattle.bitcode_coder.specs.Faults.{NamesBoolsFault, NamesIntsFault, NamesFloatsFault, in_column, not_allowed}
use Rattle.bitcode_coder.specs.FirstFault.{IsFirstFault}
use Rattle.bitcode_coder.specs.LengthColumn.{length_limit, lengths_from}
use Rattle.bitcode_coder.specs.LengthParts.{NamesLengthFault, in_short, in_large, in_sum, sum_fault}
use Rattle.bitcode_coder.specs.TextParts.{NamesTextFault, in_lengths, missing_bytes, not_texts}
use Rattle.bitcode_serde.specs.ReadColumns.{IsColumnReason}

-- a fault, if there is one, is a reason to refuse a column
abbrev IsColumnFault : Option Reason → Type 0
IsColumnFault None = Unit {0}
IsColumnFault (Some reason) = IsColumnReason reason

missing_fault : (wanted : ℕ) (input : List ℕ) → IsColumnFault (missing wanted input)
missing_fault wanted input = cond_both (ltb (length input) wanted) (Some Eof) None IsColumnFault (λ short. tt) (λ enough. tt)

fault_behind_tag : (width highest : ℕ) (fault : ℕ → List ℕ → Option Reason) → ((level : ℕ) (input : List ℕ) → IsColumnFault (fault level input))
    → (input : List ℕ) → IsColumnFault (tagged_fault width highest fault input)
fault_behind_tag width highest fault known [] = tt
fault_behind_tag width highest fault known (tag ∷ input) =
    cond_both (ltb highest tag) (Some InvalidPacking) _ IsColumnFault (λ high. tt) λ low.
    cond_both (ltb (length input) (width * (tag % 2))) (Some Eof) _ IsColumnFault (λ short. tt) λ enough.
    known (level_of_tag tag) (drop (width * (tag % 2)) input)

fault_of_bytes : (count : ℕ) (input : List ℕ) → IsColumnFault (bytes_fault count input)
fault_of_bytes count input =
    cond_both (leb count 2) (missing count input) _ IsColumnFault (λ few. missing_fault count input) λ many.
    fault_behind_tag 1 highest_byte_tag (λ level. digits_fault (base_at_level level) count) (λ level rest. missing_fault _ rest) input

narrow : (count width : ℕ) (input : List ℕ) → IsColumnFault (narrow_fault count width input)
narrow count width input =
    cond_both (eqb width 1) (bytes_fault count input) _ IsColumnFault (λ one. fault_of_bytes count input) (λ wide. missing_fault (count * width) input)

fault_of_ints : (form : IntForm) (width count : ℕ) (input : List ℕ) → IsColumnFault (ints_fault_as form width count input)
fault_of_ints bytes_form width count input = fault_of_bytes count input
fault_of_ints bare_form width count input = missing_fault (count * width) input
fault_of_ints tagged_form width count input =
    fault_behind_tag width (highest_int_tag width) (λ level. narrow_fault count (width_at_level width level))
    (λ level rest. narrow count (width_at_level width level) rest) input

fault_of_sum : (total : ℕ) → IsColumnFault (sum_fault total)
fault_of_sum total =
    cond_both (ltb total (2 ^ 64)) _ (Some LengthOverflow) IsColumnFault
    (λ fits. cond_both (ltb total length_limit) None (Some HugeLength) IsColumnFault (λ below. tt) (λ huge. tt))
    (λ over. tt)

-- ---- refusals

by_name : (reason : Reason) (fault : Option Reason) → IsColumnFault fault → Names reason fault → IsColumnReason reason
by_name reason fault known (inl memory) = subst IsColumnReason (sym memory.0) tt
by_name reason fault known (inr named) = subst IsColumnFault named known

pub bools_reason : (reason : Reason) (count : ℕ) (input : List ℕ) → NamesBoolsFault reason count input → IsColumnReason reason
bools_reason reason count input h = by_name reason _ (missing_fault _ input) h.named

ints_reason : (width : ℕ) (reason : Reason) (count : ℕ) (input : List ℕ) → NamesIntsFault width reason count input → IsColumnReason reason
ints_reason width reason count input h = by_name reason (ints_fault width count input) (fault_of_ints (int_form width count) width count input) h.named

pub numbers_reason : (width : ℕ) (signed : Bool) (reason : Reason) (count : ℕ) (input : List ℕ) → IsFirstFault (int_shape width signed) reason count input
    → IsColumnReason reason
numbers_reason width signed reason count input (in_column h) = ints_reason width reason count input h
numbers_reason width signed reason count input (not_allowed entries rest is read broken) = absurd (broken (λ k n h. tt))

pub floats_reason : (format : Format) (reason : Reason) (count : ℕ) (input : List ℕ) → NamesFloatsFault format reason count input → IsColumnReason reason
floats_reason binary32 reason count input h = subst IsColumnFault h (missing_fault (count * 4) input)
floats_reason binary64 reason count input h = ints_reason 8 reason count input h

pub lengths_reason : (reason : Reason) (count : ℕ) (input : List ℕ) → NamesLengthFault reason count input → IsColumnReason reason
lengths_reason reason count input (in_short h) = by_name reason (bytes_fault count input) (fault_of_bytes count input) h.named
lengths_reason reason count input (in_large {short = short} {middle = middle} read h) = ints_reason 8 reason _ middle h
lengths_reason reason count input (in_sum {short = short} {large = large} {rest = left} read fault) =
    subst IsColumnFault fault (fault_of_sum (sum (lengths_from short large)))

pub texts_reason : (reason : Reason) (count : ℕ) (input : List ℕ) → NamesTextFault reason count input → IsColumnReason reason
texts_reason reason count input (in_lengths h) = lengths_reason reason count input h
texts_reason reason count input (missing_bytes lengths middle is read few) = subst IsColumnReason (sym is) tt
texts_reason reason count input (not_texts lengths bytes rest is read all broken) = subst IsColumnReason (sym is) tt
