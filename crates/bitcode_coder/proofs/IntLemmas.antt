-- Integers as data: what a reader refuses, and the numbers of a width.
use Rattle.std.proofs.Common.{◌≡◌, ℕ, ◌*◌, ◌%◌, Bool, ltb, leb, eqb, Option, Some, ℤ, List, [], ◌∷◌, length, map, drop, ◌^◌, ◌<◌, ◌≤◌, true, false, pos, negsuc, refl}
use Rattle.std.proofs.lemmas.Bool.{cond_both}
use Rattle.std.proofs.lemmas.Simd.{map-map}
use Rattle.bitcode_memory.specs.declared.error.Reason.{Reason}
use Rattle.bitcode_memory.specs.declared.error.Reason.TheVariants.{Eof, InvalidPacking}
use Rattle.bitcode_memory.specs.Ints.{IsNumber, number_of}
use Rattle.bitcode_memory.proofs.IntLemmas.{IsNumber-number_of}
use Rattle.bitcode_columns.specs.ByteColumn.{base_at_level, highest_byte_tag}
use Rattle.bitcode_columns.specs.IntColumn.{IntForm, bytes_form, bare_form, tagged_form, int_form, SpellsInts, highest_int_tag, width_at_level}
use Rattle.bitcode_columns.specs.Tagged.{level_of_tag}
use Rattle.bitcode_columns.specs.Reading.{missing, digits_fault, tagged_fault, bytes_fault, narrow_fault, ints_fault_as, ints_fault, Names}
use Rattle.bitcode_columns.proofs.IntColumnLemmas.{ints_fault-refuses}
use Rattle.bitcode_shapes.specs.Datum.{number, number_in}
use Rattle.bitcode_shapes.specs.Ints.{int_shape}
use Rattle.bitcode_shapes.specs.Shape.{Allowed, IsInWidth, IsAllowed, IsNumberOf}
use Rattle.bitcode_coder.specs.Spelling.{number_of_residue}
use Rattle.bitcode_coder.specs.Coder.{IsReadingRefusal}
use Rattle.bitcode_coder.proofs.OneColumnLemmas.{IsReadingFault, missing_known, refusal_of}

tagged_known : (width highest : ℕ) (fault : ℕ → List ℕ → Option Reason) → ((level : ℕ) (input : List ℕ) → IsReadingFault (fault level input))
    → (input : List ℕ) → IsReadingFault (tagged_fault width highest fault input)
tagged_known width highest fault known [] = tt
tagged_known width highest fault known (tag ∷ input) =
    cond_both (ltb highest tag) (Some InvalidPacking) _ IsReadingFault (λ high. tt) λ low.
    cond_both (ltb (length input) (width * (tag % 2))) (Some Eof) _ IsReadingFault (λ short. tt) λ enough.
    known (level_of_tag tag) (drop (width * (tag % 2)) input)

bytes_known : (count : ℕ) (input : List ℕ) → IsReadingFault (bytes_fault count input)
bytes_known count input =
    cond_both (leb count 2) (missing count input) _ IsReadingFault (λ few. missing_known count input) λ many.
    tagged_known 1 highest_byte_tag (λ level. digits_fault (base_at_level level) count) (λ level rest. missing_known _ rest) input

narrow_known : (count width : ℕ) (input : List ℕ) → IsReadingFault (narrow_fault count width input)
narrow_known count width input =
    cond_both (eqb width 1) (bytes_fault count input) _ IsReadingFault (λ one. bytes_known count input) (λ wide. missing_known (count * width) input)

ints_known_as : (form : IntForm) (width count : ℕ) (input : List ℕ) → IsReadingFault (ints_fault_as form width count input)
ints_known_as bytes_form width count input = bytes_known count input
ints_known_as bare_form width count input = missing_known (count * width) input
ints_known_as tagged_form width count input =
    tagged_known width (highest_int_tag width) (λ level. narrow_fault count (width_at_level width level))
    (λ level rest. narrow_known count (width_at_level width level) rest) input

-- the fault of a column of integers is one that a reader of data may name
pub ints_known : (width count : ℕ) (input : List ℕ) → IsReadingFault (ints_fault width count input)
ints_known width count input = ints_known_as (int_form width count) width count input

pub ints_refused : (width : ℕ) (signed : Bool) (reason : Reason) (count : ℕ) (input : List ℕ) → Names reason (ints_fault width count input)
    → IsReadingRefusal (int_shape width signed) reason count input
ints_refused width signed reason count input named =
    refusal_of (int_shape width signed) (number_of_residue width signed) (SpellsInts width) (ints_fault width) (ints_fault-refuses width)
    (λ bytes ds s. record { entries = s.columns.entries; are = s.columns.are; spelled = s.columns.spelled.spelled })
    reason count input (ints_known_as (int_form width count) width count input) named

in_width : (width : ℕ) (signed : Bool) (z : ℤ) → IsNumber width signed z → IsInWidth width signed z
in_width width false (pos n) h = h
in_width width false (negsuc n) h = h
in_width width true (pos n) h = h
in_width width true (negsuc n) h = h

pub number_is : (width : ℕ) (signed : Bool) (allowed : Allowed) (n : ℕ) → 1 ≤ width → n < 256 ^ width → IsAllowed allowed (number_of width signed n)
    → IsNumberOf width signed allowed (number_of_residue width signed n)
number_is width signed allowed n positive h kept = record {
  value = number_of width signed n;
  is = refl;
  in_width = in_width width signed (number_of width signed n) (IsNumber-number_of width signed n positive h);
  in_allowed = kept;
}

pub numbers_in : {T : Type 0} (value : T → ℤ) (ts : List T) → map number_in (map (λ t. number (value t)) ts) ≡ map value ts
numbers_in value ts = map-map number_in (λ t. number (value t)) ts
