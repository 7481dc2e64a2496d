-- What is read and written of a column of floats, in terms of data.
use Rattle.std.proofs.Common.{◌≡◌, ℕ, ◌*◌, ◌^◌, ◌<◌, Bool, true, false, ◌&&◌, IsTrue, MatchBool, pos, List, [], ◌∷◌, ◌++◌, length, map, take, drop, All, Some, refl, sym, ap, subst, ◌∙◌, inr, Result, Ok, Err, OnOk, IfOk, IfErr}
use Rattle.std.specs.List.{AllZip}
use Rattle.std.specs.Prelude.{◌↔◌, ◌≤◌, to_bits, from_bits}
use Rattle.std.specs.Float.{Float, Format, binary32, binary64}
use lib.Ieee.{top}
use lib.Ieee.Bits.{of_bits-fits}
use Rattle.std.proofs.lemmas.Bool.{false≢true}
use Rattle.std.proofs.lemmas.List.{length-map}
use Rattle.std.proofs.lemmas.List.Elements.{All-map}
use Rattle.std.proofs.lemmas.Simd.{map-map}
use Rattle.bitcode_memory.specs.declared.error.Error.{Error}
use Rattle.bitcode_memory.specs.declared.error.Reason.{Reason}
use Rattle.bitcode_columns.specs.IntColumn.{SpellsInts, int_text}
use Rattle.bitcode_columns.specs.Laws.{IsFaultOf}
use Rattle.bitcode_columns.specs.Reading.{Reads, missing, ints_fault, Names}
use Rattle.bitcode_columns.proofs.IntColumnLemmas.{ints_fault-refuses}
use Rattle.bitcode_float_columns.specs.FloatColumn.{canonical, SpellsSplit, split_text}
use Rattle.bitcode_float_columns.proofs.CanonicalLemmas.{canonical_below, canonical_each, each_canonical}
use Rattle.bitcode_float_columns.proofs.SplitLemmas.{missing-refuses_split}
use Rattle.bitcode_shapes.specs.Datum.{Datum, natural_in}
use Rattle.bitcode_shapes.specs.Shape.{Shape, IsFloatOf, float_shape}
use Rattle.bitcode_coder.specs.Columns.{Kind, one, beside, floats}
use Rattle.bitcode_coder.specs.Coder.{IsReadingRefusal, TakesEach, WritesEach, JoinsEach, written_columns}
use Rattle.bitcode_coder.specs.Spelling.{Spells, SpellsBits, SpellsIntsInWidth, float_of_bits, column_bytes}
use Rattle.bitcode_coder.specs.Strict.{JudgesData}
use Rattle.bitcode_coder.proofs.ColumnLemmas.{SpellsBits-unambiguous, bits_text-spells}
use Rattle.bitcode_coder.proofs.IntLemmas.{ints_known}
use Rattle.bitcode_coder.proofs.OneColumnLemmas.{missing_known, reads_of, refusal_of}
use Rattle.bitcode_coder.proofs.OneValueLemmas.{entries_in}
use Rattle.bitcode_coder.proofs.PushingLemmas.{listed_as_data, zip_itself, joins_entries}
use Rattle.bitcode_coder.proofs.StrictColumnLemmas.{mapped_told}
use Rattle.bitcode_coder.proofs.StrictLemmas.{judges_column}
use Rattle.bitcode_coder.proofs.TakingLemmas.{made_each, takes_front}
use Rattle.bitcode_floats.specs.Floats.{float_datum, data_of_floats, data_of_bits, long_bits, residue_of}

-- ---- data

pub bits_of_data : (format : Format) (xs : List Float) → map natural_in (data_of_floats format xs) ≡ map (λ x. to_bits format x) xs
bits_of_data format xs = map-map natural_in (float_datum format) xs

pub canonical_data : (format : Format) (bits : List ℕ) → map natural_in (data_of_bits format bits) ≡ map (canonical format) bits
canonical_data format bits = map-map natural_in (float_of_bits format) bits

is_float : (format : Format) (bits : ℕ) → IsFloatOf format (float_of_bits format bits)
is_float format bits = record { value = from_bits format bits; is = refl; in_format = of_bits-fits format bits }

zip_made : {A B : Type 0} (R : A → B → Type 0) (made : A → B) → ((x : A) → R x (made x)) → (xs : List A) → AllZip R xs (map made xs)
zip_made R made each [] = tt
zip_made R made each (x ∷ xs) = (each x, zip_made R made each xs)

-- an entry that is made of each value was pushed
pub joins_made : {T Entry : Type 0} (lists : T → Datum → Type 0) (shape : Shape) (kind : Kind) (datum : Entry → Datum) (entry_of : T → Entry) (values : List T) (old new : List Entry)
    → ((ds : List Datum) → written_columns shape ds ≡ one kind ds) → ((t : T) → lists t (datum (entry_of t))) → new ≡ old ++ map entry_of values
    → JoinsEach lists shape values (one kind (map datum old)) (one kind (map datum new))
joins_made lists shape kind datum entry_of values old new columns listed pushed =
    joins_entries lists shape kind datum values (map entry_of values) old new columns (zip_made (λ t entry. lists t (datum entry)) entry_of listed values) pushed

-- values that are their own entries were written
pub writes_themselves : {T : Type 0} (lists : T → Datum → Type 0) (shape : Shape) (kind : Kind) (datum : T → Datum) (values : List T) (held : List Datum) (before after : List ℕ)
    → ((ds : List Datum) → written_columns shape ds ≡ one kind ds) → ((t : T) → lists t (datum t)) → one kind held ≡ one kind []
    → after ≡ before ++ column_bytes kind (map datum values) → WritesEach lists shape values (one kind held) before after
writes_themselves lists shape kind datum values held before after columns listed none written =
    let entries = map datum values in
    record {
      new = one kind entries;
      joined = record {
        parts = entries;
        listings = listed_as_data lists datum values values (zip_itself (λ t entry. lists t (datum entry)) listed values);
        joined = subst (λ added. one kind entries ≡ beside (one kind held) added) (sym (columns entries))
            (sym (ap (λ held. one kind (held ++ entries)) (ap entries_in none)));
        fits = λ fit. tt;
      };
      written = written;
    }

-- ---- read

bits_read : (format : Format) (count : ℕ) (old bits new : List ℕ) → Reads (SpellsBits format) count old bits new
    → Reads (Spells (float_shape format)) count old (data_of_bits format bits) new
bits_read format count old bits new r =
    reads_of (float_shape format) (float_of_bits format) (SpellsBits format) count old bits new r (λ piece s. record {
      of_shape = All-map (IsFloatOf format) (float_of_bits format) bits (λ k d h. is_float format _);
      counts = tt;
      columns = record { entries = bits; are = refl; spelled = s };
    })

pub split_read : {E : Type 0} (r : Result Bool E) (count : ℕ) (old bits new : List ℕ) → OnOk r (Reads SpellsSplit count old bits new)
    → OnOk r (Reads (Spells (float_shape binary32)) count old (data_of_bits binary32 bits) new)
split_read (Ok written) count old bits new read = bits_read binary32 count old bits new read
split_read (Err e) count old bits new read = tt

pub split_judged_data : {E : Type 0} (r : Result Bool E) (count : ℕ) (old bits new : List ℕ) → OnOk r (Reads SpellsSplit count old bits new)
    → IfOk r (λ written. IsTrue written ↔ (old ≡ split_text (map (canonical binary32) bits) ++ new))
    → IfOk r (λ written. JudgesData (float_shape binary32) (data_of_bits binary32 bits) written old new)
split_judged_data (Ok written) count old bits new read answer =
    judges_column (floats binary32) written (data_of_bits binary32 bits) old new read.piece (split_text (map (canonical binary32) bits)) read.whole
    (record { entries = bits; are = refl; spelled = read.spelled }) (ap split_text (canonical_data binary32 bits)) answer
split_judged_data (Err e) count old bits new read answer = tt

pub split_refuses : (reason : Reason) (count : ℕ) (input : List ℕ) → missing (count * 4) input ≡ Some reason → IsReadingRefusal (float_shape binary32) reason count input
split_refuses reason count input named =
    refusal_of (float_shape binary32) (float_of_bits binary32) SpellsSplit (λ count input. missing (count * 4) input) missing-refuses_split (λ bytes ds s. s.columns)
    reason count input (missing_known _ input) (inr named)

pub split_refused : {T : Type 0} (r : Result T Error) (count : ℕ) (input : List ℕ) → IfErr r (λ e. missing (count * 4) input ≡ Some e.reason)
    → IfErr r (λ e. IsReadingRefusal (float_shape binary32) e.reason count input)
split_refused (Ok x) count input named = tt
split_refused (Err e) count input named = split_refuses e.reason count input named

-- the floats with the bits are made, one by one
pub made_floats : (format : Format) (makes : Datum → Float → Type 0) → ((x : Float) → makes (float_datum format x) x)
    → {Entry : Type 0} (bits_of : Entry → ℕ) (entries : List Entry) (xs : List Float) → xs ≡ map (λ e. from_bits format (bits_of e)) entries
    → AllZip makes (map (λ e. float_of_bits format (bits_of e)) entries) xs
made_floats format makes made bits_of entries xs are =
    subst (λ ds. AllZip makes ds xs) (ap (map (float_datum format)) are ∙ map-map (float_datum format) (λ e. from_bits format (bits_of e)) entries)
    (made_each makes (float_datum format) made xs)

pub takes_floats : {T E : Type 0} (items : T → List Float) (makes : Datum → Float → Type 0) → ((x : Float) → makes (float_datum binary32 x) x) → (r : Result T E) (count : ℕ) (old new : List ℕ)
    → count ≤ length (data_of_bits binary32 old) → IfOk r (λ t. items t ≡ map (from_bits binary32) (take count old)) → OnOk r (new ≡ drop count old)
    → IfOk r (λ t. TakesEach makes count (items t) (data_of_bits binary32 old) (data_of_bits binary32 new))
takes_floats items makes made (Ok t) count old new enough are rest =
    takes_front makes (float_of_bits binary32) count old (take count old) new (items t) enough refl rest
    (made_floats binary32 makes made (λ b. b) (take count old) (items t) are)
takes_floats items makes made (Err e) count old new enough are rest = tt

-- ---- 8-byte floats

pub takes_long_floats : {T E : Type 0} (items : T → List Float) (makes : Datum → Float → Type 0) → ((x : Float) → makes (float_datum binary64 x) x) → (r : Result T E) (count : ℕ) (old front new : List (List ℕ))
    → count ≤ length (data_of_bits binary64 (long_bits old)) → front ≡ take count old → new ≡ drop count old
    → IfOk r (λ t. items t ≡ map (λ entry. from_bits binary64 (residue_of entry)) front)
    → IfOk r (λ t. TakesEach makes count (items t) (data_of_bits binary64 (long_bits old)) (data_of_bits binary64 (long_bits new)))
takes_long_floats items makes made (Ok t) count old front new enough is rest are =
    let datum = λ (entry : List ℕ). float_of_bits binary64 (residue_of entry) in
    let one = λ (entries : List (List ℕ)). map-map (float_of_bits binary64) residue_of entries in
    let taken = takes_front makes datum count old front new (items t) (subst (λ ds. count ≤ length ds) (one old) enough) is rest
    (made_floats binary64 makes made residue_of front (items t) are) in
    subst (λ ds. TakesEach makes count (items t) ds (data_of_bits binary64 (long_bits new))) (sym (one old))
    (subst (TakesEach makes count (items t) (map datum old)) (sym (one new)) taken)
takes_long_floats items makes made (Err e) count old front new enough is rest are = tt

pub long_read : (count : ℕ) (old bits new : List ℕ) → Reads (SpellsInts 8) count old bits new → All (λ n. n < 256 ^ 8) bits
    → Reads (SpellsBits binary64) count old bits new
long_read count old bits new r below =
    record { size = r.size; piece = r.piece; whole = r.whole; spelled = record { spelled = r.spelled; in_width = below } }

pub long_read_data : (count : ℕ) (old bits new : List ℕ) → Reads (SpellsInts 8) count old bits new → All (λ n. n < 256 ^ 8) bits
    → Reads (Spells (float_shape binary64)) count old (data_of_bits binary64 bits) new
long_read_data count old bits new r below = bits_read binary64 count old bits new (long_read count old bits new r below)

both_parts : (a b : Bool) → IsTrue (a && b) → IsTrue a × IsTrue b
both_parts true b h = (refl, h)
both_parts false b h = absurd (false≢true h)

both_hold : (a b : Bool) → IsTrue a → IsTrue b → IsTrue (a && b)
both_hold true b h k = k
both_hold false b h k = absurd (false≢true h)

answer_of : {A : Type 0} (b : Bool) → MatchBool b A (A → ⊥) → A → IsTrue b
answer_of true told a = refl
answer_of false told a = absurd (told a)

fact_of : {A : Type 0} (b : Bool) → MatchBool b A (A → ⊥) → IsTrue b → A
fact_of true told is = told
fact_of false told is = absurd (false≢true is)

long_answer : (can written : Bool) (count : ℕ) (old bits new : List ℕ) → Reads (SpellsInts 8) count old bits new → All (λ n. n < 256 ^ 8) bits
    → MatchBool can (All (λ b. canonical binary64 b ≡ b) bits) (All (λ b. canonical binary64 b ≡ b) bits → ⊥)
    → (IsTrue written ↔ (old ≡ int_text 8 (map pos bits) ++ new))
    → (IsTrue (can && written) ↔ (old ≡ int_text 8 (map pos (map (canonical binary64) bits)) ++ new))
long_answer can written count old bits new read below told answer = (
  λ t.
      let parts = both_parts can written t in
      let same : map (canonical binary64) bits ≡ bits = canonical_each binary64 bits (fact_of can told parts.0) in
      answer.0 parts.1 ∙ ap (λ bs. int_text 8 (map pos bs) ++ new) (sym same),
  λ e.
      let others = map (canonical binary64) bits in
      let text = int_text 8 (map pos others) in
      let spelled : SpellsBits binary64 text others =
      bits_text-spells binary64 others (All-map (λ b. b < 2 * top binary64) (canonical binary64) bits (λ k d h. canonical_below binary64 _)) in
      let once : (bits ≡ others) × (new ≡ new) = (SpellsBits-unambiguous binary64).unambiguous read.piece text bits others new new (record { spelled = read.spelled; in_width = below }) spelled
      (sym (length-map bits (canonical binary64))) (sym read.whole ∙ e) in
      both_hold can written (answer_of can told (each_canonical binary64 bits (sym once.0)))
      (answer.1 (e ∙ ap (λ bs. int_text 8 (map pos bs) ++ new) (sym once.0))),
)

pub long_judged : (can written : Bool) (count : ℕ) (old : List ℕ) (entries : List (List ℕ)) (new : List ℕ) → Reads (SpellsInts 8) count old (long_bits entries) new
    → All (λ n. n < 256 ^ 8) (long_bits entries)
    → MatchBool can (All (λ entry. canonical binary64 (residue_of entry) ≡ residue_of entry) entries)
    (All (λ entry. canonical binary64 (residue_of entry) ≡ residue_of entry) entries → ⊥)
    → (IsTrue written ↔ (old ≡ int_text 8 (map (λ entry. pos (residue_of entry)) entries) ++ new))
    → JudgesData (float_shape binary64) (data_of_bits binary64 (long_bits entries)) (can && written) old new
long_judged can written count old entries new read below told answer =
    let bits = long_bits entries in
    let numbers : map pos bits ≡ map (λ entry. pos (residue_of entry)) entries = map-map pos residue_of entries in
    judges_column (floats binary64) (can && written) (data_of_bits binary64 bits) old new read.piece (int_text 8 (map pos (map (canonical binary64) bits))) read.whole
    (record { entries = bits; are = refl; spelled = record { spelled = read.spelled; in_width = below } })
    (ap (λ bs. int_text 8 (map pos bs)) (canonical_data binary64 bits))
    (long_answer can written count old bits new read below
    (mapped_told (λ b. canonical binary64 b ≡ b) residue_of entries can told)
    (λ t. answer.0 t ∙ ap (λ ns. int_text 8 ns ++ new) (sym numbers), λ e. answer.1 (e ∙ ap (λ ns. int_text 8 ns ++ new) numbers)))

fault_in_width : IsFaultOf (ints_fault 8) (SpellsIntsInWidth 8)
fault_in_width = record {
  refused = λ count input reason named piece entries rest s size whole.
      (ints_fault-refuses 8).refused count input reason named piece entries rest s.spelled size whole;
}

pub long_refuses : (reason : Reason) (count : ℕ) (input : List ℕ) → Names reason (ints_fault 8 count input) → IsReadingRefusal (float_shape binary64) reason count input
long_refuses reason count input named =
    refusal_of (float_shape binary64) (float_of_bits binary64) (SpellsIntsInWidth 8) (ints_fault 8) fault_in_width (λ bytes ds s. s.columns)
    reason count input (ints_known 8 count input) named
