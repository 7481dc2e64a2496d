-- What is read of one column, in terms of its kind.
use Rattle.std.proofs.Common.{◌≡◌, ℕ, Bool, true, false, None, List, [], ◌∷◌, ◌++◌, All, append_assoc, length, map, refl, ap, sym, subst, ◌∙◌, lit<}
use lib.Ieee.Bits.{of_bits-fits}
use Rattle.std.specs.Float.{Format}
use Rattle.std.specs.Prelude.{IsTrue, ◌↔◌, Result, Err, IfErr, from_bits}
use Rattle.std.proofs.lemmas.List.{length-map, map-append}
use Rattle.std.proofs.lemmas.List.Elements.{All-map, All-weaker}
use Rattle.bitcode_memory.specs.declared.error.Error.{Error}
use Rattle.bitcode_memory.specs.declared.error.Reason.{Reason}
use Rattle.bitcode_columns.specs.Reading.{Reads}
use Rattle.bitcode_columns.proofs.IntColumnLemmas.{some_width}
use Rattle.bitcode_shapes.specs.Datum.{Datum, text}
use Rattle.bitcode_shapes.specs.Shape.{Shape, IsOf, IsNumberOf, IsFloatOf, IsNaturalBelow, IsTextOf, any_number}
use Rattle.bitcode_coder.specs.Coder.{IsReadingRefusal}
use Rattle.bitcode_coder.specs.Columns.{Kind, ints, floats, bools, texts, lengths, one, CountsFit, IsEntryOf, IsSoundKind}
use Rattle.bitcode_coder.specs.LengthColumn.{SpellsLengths, length_bytes}
use Rattle.bitcode_coder.specs.LengthParts.{NamesLengthFault}
use Rattle.bitcode_coder.specs.Spelling.{Spells, SpellsColumn, SpellsColumns, natural, truth, number_of_residue, float_of_bits}
use Rattle.bitcode_coder.specs.Strict.{JudgesColumn}
use Rattle.bitcode_coder.specs.Transposition.{columns_of}
use Rattle.bitcode_coder.proofs.IntLemmas.{number_is}
use Rattle.bitcode_coder.proofs.LengthPartLemmas.{naturals_in}
use Rattle.bitcode_coder.proofs.LengthRefusalLemmas.{lengths_refused}
use Rattle.bitcode_coder.proofs.StrictLemmas.{judges_column}
use Rattle.bitcode_untyped.specs.View.{datum_of}
use Rattle.bitcode_untyped.specs.declared.value.Value.{Value}
use Rattle.bitcode_untyped.proofs.SoundTreeLemmas.{kind_sound}
use Rattle.bitcode_serde.specs.ColumnReasons.{lengths_reason}
use Rattle.bitcode_serde.specs.ReadColumns.{ReadsColumn, IsColumnReason, IsColumnRefusal, kind_of}
use Rattle.bitcode_serde.specs.declared.column.ColumnKind.{ColumnKind}
use Rattle.bitcode_serde.specs.declared.column.ColumnKind.TheVariants as kind

-- ---- kinds

pub same_in_code : (a b : ColumnKind) → kind_of a ≡ kind_of b → a ≡ b
same_in_code kind.Bools kind.Bools e = refl
same_in_code _ kind.Bools e = cc
same_in_code _ _ e = cc

kind_is_sound : (k : ColumnKind) → IsSoundKind (kind_of k)
kind_is_sound kind.Lengths = tt
kind_is_sound k = kind_sound (kind_of k) refl

-- ---- what is read of a column are entries of its kind

truth_below : (b : Bool) → IsNaturalBelow 2 (truth b)
truth_below true = record { value = 1; is = refl; below = lit< tt }
truth_below false = record { value = 0; is = refl; below = lit< tt }

is_float : (format : Format) (bits : ℕ) → IsFloatOf format (float_of_bits format bits)
is_float format bits = record { value = from_bits format bits; is = refl; in_format = of_bits-fits format bits }

-- a kind without a limit
abbrev is_plain : Kind → Bool
is_plain bools = true
is_plain (ints width signed) = true
is_plain (floats format) = true
is_plain (lengths None) = true
is_plain (texts None) = true
is_plain _ = false

are_entries : (kind : Kind) → is_plain kind ≡ true → IsSoundKind kind → (piece : List ℕ) (ds : List Datum) → SpellsColumn kind piece ds → All (IsEntryOf kind) ds
are_entries bools plain known piece ds s = subst (All (IsNaturalBelow 2)) (sym s.are) (All-map (IsNaturalBelow 2) truth s.entries (λ k d g. truth_below _))
are_entries (ints width signed) plain known piece ds s =
    subst (All (IsNumberOf width signed any_number)) (sym s.are)
    (All-map (IsNumberOf width signed any_number) (number_of_residue width signed) s.entries
    (λ k d g. number_is width signed any_number _ (some_width width known) (s.spelled.in_width k d g) tt))
are_entries (floats format) plain known piece ds s =
    subst (All (IsFloatOf format)) (sym s.are) (All-map (IsFloatOf format) (float_of_bits format) s.entries (λ k d g. is_float format _))
are_entries (lengths None) plain known piece ds s =
    subst (All (IsEntryOf (lengths None))) (sym s.are) (All-map (IsEntryOf (lengths None)) natural s.entries (λ k d g. (_, (refl, tt))))
are_entries (texts None) plain known piece ds s =
    subst (All (IsTextOf None)) (sym s.are)
    (All-map (IsTextOf None) text s.entries (λ k d g. record { bytes = _; is = refl; utf8 = s.spelled.utf8 k d g; within = tt }))
are_entries _ plain known piece ds s = cc

pub entries_are : (k : ColumnKind) (piece : List ℕ) (ds : List Datum) → SpellsColumn (kind_of k) piece ds → All (IsEntryOf (kind_of k)) ds
entries_are kind.Lengths = are_entries (lengths None) refl tt
entries_are k = are_entries (kind_of k) refl (kind_is_sound k)

-- ---- read and refused

module _ (shape : Shape) (kind : ColumnKind) (columns : (ds : List Datum) → columns_of shape ds ≡ one (kind_of kind) ds) (count : ℕ) where
  pub column_read : (old : List ℕ) (ds : List Datum) (new : List ℕ) → Reads (Spells shape) count old ds new → ReadsColumn (kind_of kind) count old ds new
  column_read old ds new r =
      record { size = r.size; piece = r.piece; whole = r.whole; spelled = subst (λ cs. SpellsColumns cs r.piece) (columns ds) r.spelled.columns }

  pub column_refused : (reason : Reason) (input : List ℕ) → ((d : Datum) → IsEntryOf (kind_of kind) d → IsOf shape d) → IsColumnReason reason
      → IsReadingRefusal shape reason count input → IsColumnRefusal (kind_of kind) reason count input
  unfolding IsColumnRefusal
  column_refused reason input of_shape known h = (
    known,
    λ other ds rest r. h.1 other ds rest (record {
      size = r.size;
      piece = r.piece;
      whole = r.whole;
      spelled = record {
        of_shape = All-weaker (IsEntryOf (kind_of kind)) (IsOf shape) of_shape ds (entries_are kind r.piece ds r.spelled);
        counts = subst CountsFit (sym (columns ds)) tt;
        columns = subst (λ cs. SpellsColumns cs r.piece) (sym (columns ds)) r.spelled;
      };
    }),
  )

-- ---- lengths

pub lengths_column_read : (count : ℕ) (old ns new : List ℕ) → Reads (SpellsLengths None) count old ns new
    → ReadsColumn (lengths None) count old (map natural ns) new
lengths_column_read count old ns new r =
    record { size = length-map ns natural ∙ r.size; piece = r.piece; whole = r.whole; spelled = record { entries = ns; are = refl; spelled = r.spelled } }

-- the answer of a column of lengths
pub lengths_column_judged : (written : Bool) (count : ℕ) (old ns new : List ℕ) → Reads (SpellsLengths None) count old ns new
    → (IsTrue written ↔ (old ≡ length_bytes ns ++ new)) → JudgesColumn written (lengths None) (map natural ns) old new
lengths_column_judged written count old ns new r answer =
    judges_column (lengths None) written (map natural ns) old new r.piece (length_bytes ns) r.whole (record { entries = ns; are = refl; spelled = r.spelled })
    (ap length_bytes (naturals_in ns)) answer

pub lengths_column_refused : (reason : Reason) (count : ℕ) (input : List ℕ) → NamesLengthFault reason count input
    → IsColumnRefusal (lengths None) reason count input
unfolding IsColumnRefusal
lengths_column_refused reason count input h = (
  lengths_reason reason count input h,
  λ other ds rest r. lengths_refused None reason count input h other r.spelled.entries rest (record {
    size = sym (length-map r.spelled.entries natural) ∙ (sym (ap length r.spelled.are) ∙ r.size);
    piece = r.piece;
    whole = r.whole;
    spelled = r.spelled.spelled;
  }),
)

-- the error of a part is that of the whole
pub passed_on : {T : Type 0} (P : Error → Type 0) (r : Result T Error) (e y : Error) → r ≡ Err y → y ≡ e → P e → IfErr r P
passed_on P r e y h g k = rw (h, g) k

-- ---- taken

pub length_taken : (n : ℕ) (v : Value) (old new : List ℕ) → old ≡ n ∷ new → datum_of v ≡ natural n → map natural old ≡ datum_of v ∷ map natural new
length_taken n v old new r d = ap (map natural) r ∙ ap (λ first. first ∷ map natural new) (sym d)

pub one_taken : (vs ws : List Value) (v : Value) (all old new : List Datum) → all ≡ map datum_of vs ++ old → old ≡ datum_of v ∷ new → ws ≡ vs ++ v ∷ []
    → all ≡ map datum_of ws ++ new
one_taken vs ws v all old new h k e = rw (e, map-append, append_assoc) (h ∙ ap (λ ds. map datum_of vs ++ ds) k)
