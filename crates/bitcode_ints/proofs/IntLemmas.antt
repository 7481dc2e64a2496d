-- What is read of a column of integers, in terms of data.
use Rattle.std.specs.List.{AllZip}
use Rattle.std.specs.Prelude.{◌↔◌}
use Rattle.std.proofs.Common.{◌≡◌, ◌≢◌, ℕ, ◌^◌, ◌<◌, Bool, false, ℤ, pos, List, [], ◌∷◌, map, All, refl, sym, ◌∙◌, ap, subst, Result, OnOk, IfErr, Ok, Err, IsTrue, ◌+◌, ◌++◌, length, IfOk, take, slice_index_or}
use Rattle.std.proofs.lemmas.List.Elements.{All-map}
use Rattle.std.proofs.lemmas.Result.{IfErr-weaker}
use Rattle.std.proofs.lemmas.Simd.{map-map}
use Rattle.std.proofs.lemmas.List.{map-append, take_more}
use Rattle.bitcode_memory.specs.declared.error.Error.{Error}
use Rattle.bitcode_memory.specs.declared.error.Reason.TheVariants.{OutOfMemory}
use Rattle.bitcode_memory.specs.IntWidths.{IsWidth}
use Rattle.bitcode_memory.specs.Ints.{number_of}
use Rattle.bitcode_memory.specs.LittleEndian.{little_endian}
use Rattle.bitcode_columns.specs.IntColumn.{SpellsInts, int_text}
use Rattle.bitcode_columns.specs.Reading.{Reads, ints_fault, ints_stand_raw, Names}
use Rattle.bitcode_columns.proofs.IntColumnLemmas.{some_width}
use Rattle.bitcode_int_columns.proofs.IntReadingLemmas.{bytes_alone}
use Rattle.bitcode_shapes.specs.Datum.{Datum, number}
use Rattle.bitcode_shapes.specs.Shape.{IsNumberOf, any_number}
use Rattle.bitcode_shapes.specs.Ints.{int_shape}
use Rattle.bitcode_coder.specs.Spelling.{Spells, number_of_residue}
use Rattle.bitcode_coder.specs.Faults.{in_column}
use Rattle.bitcode_coder.specs.FirstFault.{IsFirstFault}
use Rattle.bitcode_coder.specs.Coder.{IsReadingRefusal}
use Rattle.bitcode_coder.specs.Columns.{ints}
use Rattle.bitcode_coder.specs.Strict.{JudgesColumn, JudgesData}
use Rattle.bitcode_coder.proofs.OneColumnLemmas.{reads_of}
use Rattle.bitcode_coder.proofs.TakingLemmas.{made_each}
use Rattle.bitcode_coder.proofs.IntLemmas.{ints_refused, number_is, numbers_in}
use Rattle.bitcode_coder.proofs.StrictLemmas.{judges_column}

-- a byte is the number that it stands for by itself, of an integer without a sign
pub bytes_themselves : (bytes : List ℕ) → map pos bytes ≡ map (λ byte. number_of 1 false (little_endian (byte ∷ []))) bytes
bytes_themselves bytes = ap (map pos) (sym (bytes_alone bytes)) ∙ map-map pos (λ byte. little_endian (byte ∷ [])) bytes

pub ints_refused_err : {T : Type 0} (r : Result T Error) (width : ℕ) (signed : Bool) (count : ℕ) (input : List ℕ)
    → IfErr r (λ e. Names e.reason (ints_fault width count input)) → IfErr r (λ e. IsReadingRefusal (int_shape width signed) e.reason count input)
ints_refused_err r width signed count input named =
    IfErr-weaker r (λ e. Names e.reason (ints_fault width count input)) (λ e. IsReadingRefusal (int_shape width signed) e.reason count input)
    (λ e h. ints_refused width signed e.reason count input h) named

-- integers that are refused, and those that stand as they are
pub ints_exact : {T : Type 0} (r : Result T Error) (width : ℕ) (signed : Bool) (count : ℕ) (input : List ℕ) → IfErr r (λ e. Names e.reason (ints_fault width count input))
    → (IsTrue (ints_stand_raw width count input) → IfErr r (λ e. e.reason ≢ OutOfMemory)) → IfErr r (λ e. IsFirstFault (int_shape width signed) e.reason count input)
ints_exact (Ok x) width signed count input named raw = tt
ints_exact (Err e) width signed count input named raw = in_column (record { named = named; free = raw })

-- entries that stand for residues
pub ints_read : {Entry : Type 0} (residue_of : Entry → ℕ) (width : ℕ) (signed : Bool) (count : ℕ) (old : List ℕ) (entries : List Entry) (new : List ℕ)
    → IsWidth width → Reads (SpellsInts width) count old (map residue_of entries) new → All (λ n. n < 256 ^ width) (map residue_of entries)
    → Reads (Spells (int_shape width signed)) count old (map (λ e. number_of_residue width signed (residue_of e)) entries) new
ints_read residue_of width signed count old entries new known r below =
    subst (λ ds. Reads (Spells (int_shape width signed)) count old ds new)
    (map-map (number_of_residue width signed) residue_of entries)
    (reads_of (int_shape width signed) (number_of_residue width signed) (SpellsInts width) count old (map residue_of entries) new r (λ piece s. record {
      of_shape = All-map (IsNumberOf width signed any_number) (number_of_residue width signed) (map residue_of entries)
          (λ k d h. number_is width signed any_number _ (some_width width known) (below k d h) tt);
      counts = tt;
      columns = record { entries = map residue_of entries; are = refl; spelled = record { spelled = s; in_width = below } };
    }))

pub ints_read_ok : {T E Entry : Type 0} (r : Result T E) (residue_of : Entry → ℕ) (width : ℕ) (signed : Bool) (count : ℕ) (old : List ℕ)
    (entries : List Entry) (new : List ℕ) → IsWidth width → OnOk r (Reads (SpellsInts width) count old (map residue_of entries) new)
    → OnOk r (All (λ n. n < 256 ^ width) (map residue_of entries))
    → OnOk r (Reads (Spells (int_shape width signed)) count old (map (λ e. number_of_residue width signed (residue_of e)) entries) new)
ints_read_ok (Ok value) residue_of width signed count old entries new known read below =
    ints_read residue_of width signed count old entries new known read below
ints_read_ok (Err error) residue_of width signed count old entries new known read below = tt

-- integers of such numbers are made of these
pub made_of_numbers : {T Entry : Type 0} (makes : Datum → T → Type 0) (value : T → ℤ) → ((t : T) → makes (number (value t)) t) → (value_of : Entry → ℤ)
    → (ts : List T) (entries : List Entry) → map value ts ≡ map value_of entries → AllZip makes (map (λ entry. number (value_of entry)) entries) ts
made_of_numbers makes value made value_of ts entries same =
    subst (λ ds. AllZip makes ds ts) (sym (map-map number value ts) ∙ ap (map number) same ∙ map-map number value_of entries)
    (made_each makes (λ t. number (value t)) made ts)

-- one item more was made, whose value is that of the next entry
pub one_value_more : {T Entry Value : Type 0} (value : T → Value) (value_of : Entry → Value) (before after : List T) (item : T) (entries : List Entry) (i : ℕ) (entry : Entry)
    → i < length entries → entry ≡ slice_index_or entries i entry → after ≡ before ++ item ∷ [] → value item ≡ value_of entry
    → map value before ≡ map value_of (take i entries) → map value after ≡ map value_of (take (i + 1) entries)
one_value_more value value_of before after item entries i entry here is grown same so_far =
    ap (map value) grown ∙ map-append value before (item ∷ []) ∙ ap (λ vs. vs ++ value item ∷ []) so_far
    ∙ ap (λ v. map value_of (take i entries) ++ v ∷ []) same ∙ sym (map-append value_of (take i entries) (entry ∷ []))
    ∙ ap (λ e. map value_of (take i entries ++ e ∷ [])) is ∙ ap (map value_of) (sym (take_more entries i entry here))

-- integers that are read strictly
ints_judges : {Entry : Type 0} (residue_of : Entry → ℕ) (width : ℕ) (signed : Bool) (written : Bool) (count : ℕ) (old : List ℕ) (entries : List Entry) (new : List ℕ)
    → Reads (SpellsInts width) count old (map residue_of entries) new → All (λ n. n < 256 ^ width) (map residue_of entries)
    → (IsTrue written ↔ (old ≡ int_text width (map (λ e. number_of width signed (residue_of e)) entries) ++ new))
    → JudgesColumn written (ints width signed) (map (λ e. number_of_residue width signed (residue_of e)) entries) old new
ints_judges residue_of width signed written count old entries new read below answer =
    judges_column (ints width signed) written (map (λ e. number_of_residue width signed (residue_of e)) entries) old new read.piece
    (int_text width (map (λ e. number_of width signed (residue_of e)) entries)) read.whole
    (record {
      entries = map residue_of entries;
      are = sym (map-map (number_of_residue width signed) residue_of entries);
      spelled = record { spelled = read.spelled; in_width = below };
    })
    (ap (int_text width) (numbers_in (λ e. number_of width signed (residue_of e)) entries)) answer

pub ints_judged : {E Entry : Type 0} (r : Result Bool E) (residue_of : Entry → ℕ) (width : ℕ) (signed : Bool) (count : ℕ) (old : List ℕ) (entries : List Entry) (new : List ℕ)
    → OnOk r (Reads (SpellsInts width) count old (map residue_of entries) new) → OnOk r (All (λ n. n < 256 ^ width) (map residue_of entries))
    → IfOk r (λ written. IsTrue written ↔ (old ≡ int_text width (map (λ e. number_of width signed (residue_of e)) entries) ++ new))
    → IfOk r (λ written. JudgesData (int_shape width signed) (map (λ e. number_of_residue width signed (residue_of e)) entries) written old new)
ints_judged (Ok written) residue_of width signed count old entries new read below answer =
    ints_judges residue_of width signed written count old entries new read below answer
ints_judged (Err e) residue_of width signed count old entries new read below answer = tt
