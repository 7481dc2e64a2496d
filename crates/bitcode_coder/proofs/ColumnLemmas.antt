-- The laws of a column of each kind.
use Rattle.std.proofs.Common.{◌≡◌, ℕ, ◌*◌, ◌^◌, ◌<◌, ◌≤◌, Bool, true, false, eqb, Option, ℤ, pos, negsuc, List, [], ◌++◌, length, map, All, sum, refl, sym, ap, ◌∙◌, subst, arith}
use Rattle.std.specs.Prelude.{sum_by, IsUtf8}
use Rattle.std.proofs.lemmas.Bool.{cond_both, eqb-true, eqb-false}
use Rattle.std.proofs.lemmas.List.{length-map, map-id, nil_from_length}
use Rattle.std.proofs.lemmas.List.Sums.{sum-map}
use Rattle.std.proofs.lemmas.Simd.{map-map}
use Rattle.std.proofs.lemmas.List.Elements.{All-weaker, All-map}
use Rattle.bitcode_columns.specs.Laws.{IsReadOnce}
use Rattle.bitcode_columns.specs.declared.pack.Base.TheVariants.{Two}
use Rattle.bitcode_memory.specs.Ints.{IsNumber, residue, number_of, bool_digit}
use Rattle.bitcode_columns.specs.BoolColumn.{SpellsBools}
use Rattle.bitcode_columns.specs.IntColumn.{SpellsInts}
use Rattle.bitcode_columns.specs.VariantColumn.{SpellsVariants}
use Rattle.bitcode_columns.proofs.FrontLemmas.{append_split, map_further}
use Rattle.bitcode_columns.proofs.DigitLemmas.{SpellsDigits-size_bound}
use Rattle.bitcode_columns.proofs.VariantColumnLemmas.{SpellsVariants-unambiguous, SpellsVariants-size_bound, variant_text-spells}
use Rattle.bitcode_memory.proofs.IntLemmas.{number_of-residue, residue_below}
use Rattle.bitcode_columns.proofs.BoolColumnLemmas.{SpellsBools-unambiguous, bool_text-spells}
use Rattle.bitcode_columns.proofs.IntColumnLemmas.{SpellsInts-unambiguous, SpellsInts-size_bound, int_text-spells}
use Rattle.std.specs.Float.{Format, binary32, binary64}
use lib.Ieee.{top}
use lib.Ieee.Bits.{to_bits-lt}
use Rattle.bitcode_float_columns.proofs.CanonicalLemmas.{to_bits-canonical}
use Rattle.bitcode_float_columns.proofs.SplitLemmas.{SpellsSplit-unambiguous, SpellsSplit-size_bound}
use Rattle.bitcode_shapes.specs.Datum.{Datum, number, text, number_in, natural_in, text_in}
use Rattle.bitcode_shapes.specs.LawfulInts.{width_8}
use Rattle.bitcode_shapes.specs.Shape.{IsNumberWidth, IsNaturalBelow, IsNumberOf, IsFloatOf, IsTextOf, IsWithin, IsInWidth, any_number}
use Rattle.bitcode_coder.specs.Columns.{Kind, bools, ints, floats, lengths, texts, raws, variants, IsSoundKind, IsEntryOf, entry_count_of}
use Rattle.bitcode_coder.specs.LengthColumn.{SpellsLengths, length_limit}
use Rattle.bitcode_coder.specs.TextColumn.{SpellsTexts}
use Rattle.bitcode_coder.specs.Spelling.{SpellsColumn, SpellsAs, SpellsIntsInWidth, SpellsBits, bits_text, float_of_bits, natural, truth, number_of_residue, column_bytes, LengthsBelowLimitOf}
use Rattle.bitcode_coder.proofs.LengthLemmas.{SpellsLengths-unambiguous, SpellsLengths-size_bound, length_bytes-spells}
use Rattle.bitcode_coder.proofs.TextLemmas.{SpellsTexts-unambiguous, SpellsTexts-nothing, SpellsTexts-size_bound, texts_bytes-spells}

-- ---- what holds of entries holds of their data

as_once : {Entry : Type 0} (datum : Entry → Datum) (Spells : List ℕ → List Entry → Type 0) → IsReadOnce Spells → IsReadOnce (SpellsAs datum Spells)
as_once datum Spells read = record {
  unambiguous = λ piece other entries others rest left s t same e.
      let counts : length s.entries ≡ length t.entries =
      omega (arith, ap length s.are, ap length t.are, length-map s.entries datum, length-map t.entries datum) in
      let parts = read.unambiguous piece other s.entries t.entries rest left s.spelled t.spelled counts e in
      (s.are ∙ (ap (map datum) parts.0 ∙ sym t.are), parts.1);
}

as_nothing : {Entry : Type 0} (datum : Entry → Datum) (Spells : List ℕ → List Entry → Type 0) → ((piece : List ℕ) → Spells piece [] → piece ≡ [])
    → (piece : List ℕ) → SpellsAs datum Spells piece [] → piece ≡ []
as_nothing datum Spells none piece s =
    none piece (subst (Spells piece) (nil_from_length s.entries (omega (arith, ap length s.are, length-map s.entries datum))) s.spelled)

as_eighth : {Entry : Type 0} (datum : Entry → Datum) (Spells : List ℕ → List Entry → Type 0)
    → ((piece : List ℕ) (entries : List Entry) → Spells piece entries → length entries ≤ 8 * length piece)
    → (piece : List ℕ) (ds : List Datum) → SpellsAs datum Spells piece ds → length ds ≤ 8 * length piece
as_eighth datum Spells few piece ds s =
    omega (arith, few piece s.entries s.spelled, ap length s.are, length-map s.entries datum)

-- what a list was made from, found again
as_spells : {Entry : Type 0} (datum : Entry → Datum) (Spells : List ℕ → List Entry → Type 0) (entry : Datum → Entry) (bytes : List ℕ) (ds : List Datum)
    → All (λ d. datum (entry d) ≡ d) ds → Spells bytes (map entry ds) → SpellsAs datum Spells bytes ds
as_spells datum Spells entry bytes ds same s = record {
  entries = map entry ds;
  are = sym (map-id ds) ∙ map_further (λ d. d) entry datum ds same;
  spelled = s;
}

-- ---- bools

truth_is : (n : ℕ) → n < 2 → bool_digit (eqb n 1) ≡ n
truth_is n below =
    cond_both (eqb n 1) 1 0 (λ m. m ≡ n) (λ one. sym (eqb-true n 1 one)) (λ other. omega (arith, eqb-false n 1 other))

-- ---- integers

ints_once : (width : ℕ) → IsReadOnce (SpellsIntsInWidth width)
ints_once width = record {
  unambiguous = λ piece other entries others rest left s t same e.
      (SpellsInts-unambiguous width).unambiguous piece other entries others rest left s.spelled t.spelled same e;
}

-- ---- floats

pub SpellsBits-unambiguous : (format : Format) → IsReadOnce (SpellsBits format)
SpellsBits-unambiguous binary32 = SpellsSplit-unambiguous
SpellsBits-unambiguous binary64 = ints_once 8

SpellsBits-nothing : (format : Format) (piece : List ℕ) → SpellsBits format piece [] → piece ≡ []
SpellsBits-nothing binary32 piece s = SpellsSplit-size_bound.nothing piece s
SpellsBits-nothing binary64 piece s = (SpellsInts-size_bound 8 width_8).nothing piece s.spelled

SpellsBits-size_bound : (format : Format) (piece bits : List ℕ) → SpellsBits format piece bits → length bits ≤ 8 * length piece
SpellsBits-size_bound binary32 piece bits s = SpellsSplit-size_bound.size_bound piece bits s
SpellsBits-size_bound binary64 piece bits s = (SpellsInts-size_bound 8 width_8).size_bound piece bits s.spelled

same_residues : (bits : List ℕ) → map (residue 8) (map pos bits) ≡ bits
same_residues bits = map-map (residue 8) pos bits ∙ map-id bits

pub bits_text-spells : (format : Format) (bits : List ℕ) → All (λ b. b < 2 * top format) bits → SpellsBits format (bits_text format bits) bits
bits_text-spells binary32 bits below = record { whole = refl; fit = below }
bits_text-spells binary64 bits below = record {
  spelled = subst (SpellsInts 8 (bits_text binary64 bits)) (same_residues bits)
      ((int_text-spells 8 width_8).back false (map pos bits) (All-map (IsNumber 8 false) pos bits below));
  in_width = below;
}

-- ---- each kind

bytes_once : IsReadOnce (λ bytes entries. bytes ≡ entries)
bytes_once = record {
  unambiguous = λ piece other entries others rest left s t same e.
      append_split entries others rest left same (ap (λ x. x ++ rest) (sym s) ∙ (e ∙ ap (λ x. x ++ left) t));
}

pub SpellsColumn-unambiguous : (kind : Kind) → IsReadOnce (SpellsColumn kind)
SpellsColumn-unambiguous bools = as_once truth SpellsBools SpellsBools-unambiguous
SpellsColumn-unambiguous (ints width signed) = as_once (number_of_residue width signed) (SpellsIntsInWidth width) (ints_once width)
SpellsColumn-unambiguous (floats format) = as_once (float_of_bits format) (SpellsBits format) (SpellsBits-unambiguous format)
SpellsColumn-unambiguous (lengths limit) = as_once natural (SpellsLengths limit) (SpellsLengths-unambiguous limit)
SpellsColumn-unambiguous (texts limit) = as_once text (SpellsTexts limit) (SpellsTexts-unambiguous limit)
SpellsColumn-unambiguous raws = as_once natural (λ bytes entries. bytes ≡ entries) bytes_once
SpellsColumn-unambiguous (variants count) = as_once natural (SpellsVariants count) (SpellsVariants-unambiguous count)

pub SpellsColumn-nothing : (kind : Kind) → IsSoundKind kind → (piece : List ℕ) → SpellsColumn kind piece [] → piece ≡ []
SpellsColumn-nothing bools sound = as_nothing truth SpellsBools (SpellsDigits-size_bound Two).nothing
SpellsColumn-nothing (ints width signed) sound =
    as_nothing (number_of_residue width signed) (SpellsIntsInWidth width) (λ piece s. (SpellsInts-size_bound width sound).nothing piece s.spelled)
SpellsColumn-nothing (floats format) sound = as_nothing (float_of_bits format) (SpellsBits format) (SpellsBits-nothing format)
SpellsColumn-nothing (lengths limit) sound = as_nothing natural (SpellsLengths limit) (SpellsLengths-size_bound limit).nothing
SpellsColumn-nothing (texts limit) sound = as_nothing text (SpellsTexts limit) (SpellsTexts-nothing limit)
SpellsColumn-nothing raws sound = as_nothing natural (λ bytes entries. bytes ≡ entries) (λ piece s. s)
SpellsColumn-nothing (variants count) sound =
    as_nothing natural (SpellsVariants count) (SpellsVariants-size_bound count).nothing

texts_total : (ts : List (List ℕ)) → sum_by (λ d. length (text_in d)) (map text ts) ≡ sum_by (λ t. length t) ts
texts_total ts =
    sym (sum-map (λ d. length (text_in d)) (map text ts))
    ∙ (ap sum (map-map (λ d. length (text_in d)) text ts) ∙ sum-map (λ t. length t) ts)

pub SpellsColumn-size_bound : (kind : Kind) → IsSoundKind kind → (piece : List ℕ) (entries : List Datum) → SpellsColumn kind piece entries
    → entry_count_of kind entries ≤ 8 * length piece
SpellsColumn-size_bound bools sound = as_eighth truth SpellsBools (λ piece entries s. omega (arith, (SpellsDigits-size_bound Two).size_bound piece (map bool_digit entries) s, length-map entries bool_digit))
SpellsColumn-size_bound (ints width signed) sound =
    as_eighth (number_of_residue width signed) (SpellsIntsInWidth width) (λ piece entries s. (SpellsInts-size_bound width sound).size_bound piece entries s.spelled)
SpellsColumn-size_bound (floats format) sound = as_eighth (float_of_bits format) (SpellsBits format) (SpellsBits-size_bound format)
SpellsColumn-size_bound (lengths limit) sound = as_eighth natural (SpellsLengths limit) (SpellsLengths-size_bound limit).size_bound
SpellsColumn-size_bound (texts limit) sound = λ piece entries s.
    omega (
      arith,
      SpellsTexts-size_bound limit piece s.entries s.spelled,
      ap length s.are,
      length-map s.entries text,
      ap (sum_by (λ d. length (text_in d))) s.are,
      texts_total s.entries,
    )
SpellsColumn-size_bound raws sound = as_eighth natural (λ bytes entries. bytes ≡ entries) (λ piece entries s. omega (arith, ap length s))
SpellsColumn-size_bound (variants count) sound =
    as_eighth natural (SpellsVariants count) (SpellsVariants-size_bound count).size_bound

-- ---- read back

bool_columns_spell : (ds : List Datum) → All (IsNaturalBelow 2) ds → SpellsColumn bools (column_bytes bools ds) ds
bool_columns_spell ds each =
    as_spells truth SpellsBools (λ d. eqb (natural_in d) 1) (column_bytes bools ds) ds
    (All-weaker (IsNaturalBelow 2) (λ d. truth (eqb (natural_in d) 1) ≡ d)
    (λ d of. ap (λ x. truth (eqb (natural_in x) 1)) of.is ∙ (ap natural (truth_is of.value of.below) ∙ sym of.is)) ds each)
    (bool_text-spells (map (λ d. eqb (natural_in d) 1) ds))

naturals_found : (bound : ℕ) (ds : List Datum) → All (IsNaturalBelow bound) ds → All (λ d. natural (natural_in d) ≡ d) ds
naturals_found bound ds each =
    All-weaker (IsNaturalBelow bound) (λ d. natural (natural_in d) ≡ d) (λ d of. ap (λ x. natural (natural_in x)) of.is ∙ sym of.is) ds each

naturals_below : (bound : ℕ) (ds : List Datum) → All (IsNaturalBelow bound) ds → All (λ n. n < bound) (map natural_in ds)
naturals_below bound ds each =
    All-map (λ n. n < bound) natural_in ds
    (All-weaker (IsNaturalBelow bound) (λ d. natural_in d < bound) (λ d of. omega (arith, ap natural_in of.is, of.below)) ds each)

raw_columns_spell : (ds : List Datum) → All (IsNaturalBelow 256) ds → SpellsColumn raws (column_bytes raws ds) ds
raw_columns_spell ds each =
    as_spells natural (λ bytes entries. bytes ≡ entries) natural_in (column_bytes raws ds) ds (naturals_found 256 ds each) refl

variant_columns_spell : (count : ℕ) → 2 ≤ count → count ≤ 256 → (ds : List Datum) → All (IsNaturalBelow count) ds
    → SpellsColumn (variants count) (column_bytes (variants count) ds) ds
variant_columns_spell count some few ds each =
    as_spells natural (SpellsVariants count) natural_in (column_bytes (variants count) ds) ds (naturals_found count ds each)
    (variant_text-spells count (map natural_in ds) some few (naturals_below count ds each))

some_width : (width : ℕ) → IsNumberWidth width → 1 ≤ width
some_width width is_width = omega arith

is_number : (width : ℕ) (signed : Bool) (z : ℤ) → IsInWidth width signed z → IsNumber width signed z
is_number width false (pos n) h = h
is_number width false (negsuc n) h = h
is_number width true (pos n) h = h
is_number width true (negsuc n) h = h

int_columns_spell : (width : ℕ) (signed : Bool) → IsNumberWidth width → (ds : List Datum) → All (IsNumberOf width signed any_number) ds
    → SpellsColumn (ints width signed) (column_bytes (ints width signed) ds) ds
int_columns_spell width signed is_width ds each =
    as_spells (number_of_residue width signed) (SpellsIntsInWidth width) (λ d. residue width (number_in d)) (column_bytes (ints width signed) ds) ds
    (All-weaker (IsNumberOf width signed any_number) (λ d. number (number_of width signed (residue width (number_in d))) ≡ d)
    (λ d of. ap (λ x. number (number_of width signed (residue width (number_in x)))) of.is
    ∙ (ap number (number_of-residue width signed of.value (some_width width is_width) (is_number width signed of.value of.in_width)) ∙ sym of.is))
    ds each)
    (record {
      spelled = subst (SpellsInts width (column_bytes (ints width signed) ds)) (map-map (residue width) number_in ds)
          ((int_text-spells width is_width).back signed (map number_in ds) in_width);
      in_width = subst (All (λ n. n < 256 ^ width)) (map-map (residue width) number_in ds)
          (All-map (λ n. n < 256 ^ width) (residue width) (map number_in ds)
          (All-weaker (IsNumber width signed) (λ z. residue width z < 256 ^ width) (λ z of. residue_below width signed z of) (map number_in ds) in_width));
    })
  where
    in_width : All (IsNumber width signed) (map number_in ds)
    in_width = All-map (IsNumber width signed) number_in ds
        (All-weaker (IsNumberOf width signed any_number) (λ d. IsNumber width signed (number_in d))
        (λ d of. subst (λ x. IsNumber width signed (number_in x)) (sym of.is) (is_number width signed of.value of.in_width)) ds each)

float_columns_spell : (format : Format) (ds : List Datum) → All (IsFloatOf format) ds → SpellsColumn (floats format) (column_bytes (floats format) ds) ds
float_columns_spell format ds each =
    as_spells (float_of_bits format) (SpellsBits format) natural_in (column_bytes (floats format) ds) ds
    (All-weaker (IsFloatOf format) (λ d. float_of_bits format (natural_in d) ≡ d)
    (λ d of. ap (λ x. float_of_bits format (natural_in x)) of.is ∙ ap natural (to_bits-canonical format of.value of.in_format) ∙ sym of.is) ds each)
    (bits_text-spells format (map natural_in ds)
    (All-map (λ b. b < 2 * top format) natural_in ds
    (All-weaker (IsFloatOf format) (λ d. natural_in d < 2 * top format)
    (λ d of. subst (λ b. b < 2 * top format) (sym (ap natural_in of.is)) (to_bits-lt format of.value of.in_format)) ds each)))

length_columns_spell : (limit : Option ℕ) (ds : List Datum) → All (IsEntryOf (lengths limit)) ds → LengthsBelowLimitOf (lengths limit) ds
    → SpellsColumn (lengths limit) (column_bytes (lengths limit) ds) ds
length_columns_spell limit ds each below =
    as_spells natural (SpellsLengths limit) natural_in (column_bytes (lengths limit) ds) ds
    (All-weaker (IsEntryOf (lengths limit)) (λ d. natural (natural_in d) ≡ d)
    (λ d of. ap (λ x. natural (natural_in x)) of.1.0 ∙ sym of.1.0) ds each)
    (length_bytes-spells limit (map natural_in ds) below
    (All-map (IsWithin limit) natural_in ds (All-weaker (IsEntryOf (lengths limit)) (λ d. IsWithin limit (natural_in d))
    (λ d of. subst (λ x. IsWithin limit (natural_in x)) (sym of.1.0) of.1.1) ds each)))

text_columns_spell : (limit : Option ℕ) (ds : List Datum) → All (IsTextOf limit) ds → LengthsBelowLimitOf (texts limit) ds
    → SpellsColumn (texts limit) (column_bytes (texts limit) ds) ds
text_columns_spell limit ds each below =
    as_spells text (SpellsTexts limit) text_in (column_bytes (texts limit) ds) ds
    (All-weaker (IsTextOf limit) (λ d. text (text_in d) ≡ d) (λ d of. ap (λ x. text (text_in x)) of.is ∙ sym of.is) ds each)
    (texts_bytes-spells limit (map text_in ds) (subst (λ ns. sum ns < length_limit) (sym (map-map (λ t. length t) text_in ds)) below)
    (All-map (λ t. IsWithin limit (length t)) text_in ds (All-weaker (IsTextOf limit) (λ d. IsWithin limit (length (text_in d)))
    (λ d of. subst (λ x. IsWithin limit (length (text_in x))) (sym of.is) of.within) ds each))
    (All-map IsUtf8 text_in ds (All-weaker (IsTextOf limit) (λ d. IsUtf8 (text_in d)) (λ d of. subst (λ x. IsUtf8 (text_in x)) (sym of.is) of.utf8) ds each)))

pub column_bytes-spells : (kind : Kind) → IsSoundKind kind → (entries : List Datum) → All (IsEntryOf kind) entries → LengthsBelowLimitOf kind entries
    → SpellsColumn kind (column_bytes kind entries) entries
column_bytes-spells bools sound entries each below = bool_columns_spell entries each
column_bytes-spells (ints width signed) sound entries each below = int_columns_spell width signed sound entries each
column_bytes-spells (floats format) sound entries each below = float_columns_spell format entries each
column_bytes-spells (lengths limit) sound entries each below = length_columns_spell limit entries each below
column_bytes-spells (texts limit) sound entries each below = text_columns_spell limit entries each below
column_bytes-spells raws sound entries each below = raw_columns_spell entries each
column_bytes-spells (variants count) sound entries each below = variant_columns_spell count sound.0 sound.1 entries each
