-- The two parts of a length column, as a writer keeps them and as a reader takes them.
use Rattle.std.proofs.Common.{◌≡◌, ℕ, suc, ◌+◌, ◌<◌, ◌≤◌, min, Bool, leb, pos, Option, List, [], ◌∷◌, ◌++◌, length, map, All, sum, take, slice_index_or, refl, sym, ap, ◌∙◌, subst, arith, Result, OnOk}
use Rattle.std.specs.Prelude.{filter}
use Rattle.std.proofs.lemmas.Bool.{cond-true, cond-false, le-leb, lt-leb}
use Rattle.std.proofs.lemmas.List.{map-id, map-append, append_assoc, append-nil, take_more, take_all}
use Rattle.std.proofs.lemmas.List.Elements.{filter-append, All-head, All-tail}
use Rattle.std.proofs.lemmas.List.Sums.{sum_by-cons}
use Rattle.std.proofs.lemmas.Result.{on_ok_weaker}
use Rattle.std.proofs.lemmas.Simd.{map-map}
use Rattle.bitcode_columns.specs.ByteColumn.{SpellsBytes, byte_text}
use Rattle.bitcode_columns.specs.IntColumn.{SpellsInts, int_text}
use Rattle.bitcode_memory.specs.LittleEndian.{raw_text}
use Rattle.bitcode_memory.specs.declared.error.Reason.{Reason}
use Rattle.bitcode_columns.specs.Reading.{Reads, IsEndOf}
use Rattle.bitcode_shapes.specs.Datum.{natural_in}
use Rattle.bitcode_coder.specs.Spelling.{natural}
use Rattle.bitcode_coder.specs.LengthColumn.{SpellsLengths, KeepsCap, escape, lengths_from, length_bytes, length_limit}
use Rattle.bitcode_coder.specs.Faults.{NamesIntsFault}
use Rattle.bitcode_coder.specs.LengthParts.{escapes, AreLengthParts, ReadsParts, NamesLengthFault, in_large}
use Rattle.bitcode_coder.proofs.LengthLemmas.{length-lengths_from, found}

-- ---- written

abbrev short_byte : ℕ → ℕ
short_byte n = min n escape

abbrev is_large : ℕ → Bool
is_large n = leb escape n

-- parts that are those of some lengths
split_of : (lengths short large : List ℕ) → short ≡ map short_byte lengths → large ≡ filter is_large lengths
    → (lengths_from short large ≡ lengths) × AreLengthParts short large
split_of lengths short large shorts larges =
    let same : lengths_from short large ≡ lengths =
    ap (λ bytes. lengths_from bytes large) shorts ∙ (ap (lengths_from (map short_byte lengths)) larges ∙ found lengths) in
    (same, record { shorts = shorts ∙ sym (ap (map short_byte) same); larges = larges ∙ sym (ap (filter is_large) same) })

-- a length was pushed
pushed : (short large newer_short newer_large : List ℕ) (n : ℕ) → AreLengthParts short large → newer_short ≡ short ++ short_byte n ∷ []
    → newer_large ≡ large ++ filter is_large (n ∷ [])
    → (lengths_from newer_short newer_large ≡ lengths_from short large ++ n ∷ []) × AreLengthParts newer_short newer_large
pushed short large newer_short newer_large n split shorts larges =
    split_of (lengths_from short large ++ n ∷ []) newer_short newer_large
    (shorts ∙ (ap (λ front. front ++ short_byte n ∷ []) split.shorts ∙ sym (map-append short_byte (lengths_from short large) (n ∷ []))))
    (larges ∙ (ap (λ front. front ++ filter is_large (n ∷ [])) split.larges ∙ sym (filter-append is_large (lengths_from short large) (n ∷ []))))

pub pushed_short : (short large newer_short : List ℕ) (n : ℕ) → n < escape → AreLengthParts short large → newer_short ≡ short ++ n ∷ []
    → (lengths_from newer_short large ≡ lengths_from short large ++ n ∷ []) × AreLengthParts newer_short large
pushed_short short large newer_short n below split shorts =
    let same : short_byte n ≡ n = omega arith in
    let none_large : filter is_large (n ∷ []) ≡ [] = cond-false (leb escape n) (n ∷ []) [] (lt-leb escape n below) in
    pushed short large newer_short large n split (shorts ∙ ap (λ byte. short ++ byte ∷ []) (sym same))
    (sym (append-nil large) ∙ ap (λ more. large ++ more) (sym none_large))

-- several short bytes more
pub pushed_shorts : (short large ns : List ℕ) → All (λ n. n < escape) ns → AreLengthParts short large
    → (lengths_from (short ++ ns) large ≡ lengths_from short large ++ ns) × AreLengthParts (short ++ ns) large
pushed_shorts short large [] below split =
    (ap (λ s. lengths_from s large) (append-nil short) ∙ sym (append-nil (lengths_from short large)), subst (λ s. AreLengthParts s large) (sym (append-nil short)) split)
pushed_shorts short large (n ∷ ns) below split =
    let one = pushed_short short large (short ++ n ∷ []) n (All-head (λ m. m < escape) n ns below) split refl in
    let rest = pushed_shorts (short ++ n ∷ []) large ns (All-tail (λ m. m < escape) n ns below) one.1 in
    let seam : (short ++ n ∷ []) ++ ns ≡ short ++ n ∷ ns = append_assoc short (n ∷ []) ns in (
      ap (λ s. lengths_from s large) (sym seam) ∙ rest.0 ∙ ap (λ l. l ++ ns) one.0 ∙ append_assoc (lengths_from short large) (n ∷ []) ns,
      subst (λ s. AreLengthParts s large) seam rest.1,
    )

pub pushed_large : (short large newer_short newer_large : List ℕ) (n : ℕ) → escape ≤ n → AreLengthParts short large → newer_short ≡ short ++ escape ∷ []
    → newer_large ≡ large ++ n ∷ []
    → (lengths_from newer_short newer_large ≡ lengths_from short large ++ n ∷ []) × AreLengthParts newer_short newer_large
pushed_large short large newer_short newer_large n above split shorts larges =
    let same : short_byte n ≡ escape = omega arith in
    let one_large : filter is_large (n ∷ []) ≡ n ∷ [] = cond-true (leb escape n) (n ∷ []) [] (le-leb escape n above) in
    pushed short large newer_short newer_large n split (shorts ∙ ap (λ byte. short ++ byte ∷ []) (sym same))
    (larges ∙ ap (λ more. large ++ more) (sym one_large))

pub length_bytes-parts : (short large : List ℕ) → AreLengthParts short large
    → byte_text (map pos short) ++ int_text 8 (map pos large) ≡ length_bytes (lengths_from short large)
unfolding length_bytes
length_bytes-parts short large split =
    ap (λ bytes. byte_text bytes ++ int_text 8 (map pos large)) (ap (map pos) split.shorts ∙ map-map pos short_byte (lengths_from short large))
    ∙ ap (λ numbers. byte_text (map (λ n. pos (min n escape)) (lengths_from short large)) ++ int_text 8 (map pos numbers)) split.larges

-- no large lengths take no bytes
pub no_large : (large : List ℕ) → length large ≡ 0 → int_text 8 (map pos large) ≡ []
unfolding int_text raw_text
no_large [] none = refl
no_large (n ∷ large) none = absurd (omega arith)

-- and none are read without a byte
pub reads_no_large : (count : ℕ) (input larges : List ℕ) → count ≡ 0 → larges ≡ [] → Reads (SpellsInts 8) count input larges input
unfolding raw_text
reads_no_large count input larges none is = record {
  size = ap length is ∙ sym none;
  piece = [];
  whole = refl;
  spelled = subst (SpellsInts 8 []) (sym is) (record { whole = refl; fit = λ k d inside. absurd (omega arith) });
}

pub naturals_in : (ns : List ℕ) → map natural_in (map natural ns) ≡ ns
naturals_in ns = map-map natural_in natural ns ∙ map-id ns

-- what a writer of both parts wrote
pub written_parts : {T E : Type 0} (result : Result T E) (old new short large first second : List ℕ) → AreLengthParts short large → first ≡ short → second ≡ large
    → OnOk result (new ≡ old ++ (byte_text (map pos first) ++ int_text 8 (map pos second)))
    → OnOk result (new ≡ old ++ length_bytes (map natural_in (map natural (lengths_from short large))))
written_parts result old new short large first second split same_short same_large written =
    let text : byte_text (map pos first) ++ int_text 8 (map pos second) ≡ length_bytes (map natural_in (map natural (lengths_from short large))) =
    ap (λ bytes. byte_text (map pos bytes) ++ int_text 8 (map pos second)) same_short
    ∙ (ap (λ numbers. byte_text (map pos short) ++ int_text 8 (map pos numbers)) same_large
    ∙ (length_bytes-parts short large split ∙ ap length_bytes (sym (naturals_in (lengths_from short large))))) in
    on_ok_weaker result (λ (whole : new ≡ old ++ (byte_text (map pos first) ++ int_text 8 (map pos second))). whole ∙ ap (λ more. old ++ more) text) written

-- one size more was pushed, that of the next element
pub sizes_more : {T : Type 0} (size : T → ℕ) (old now new : List ℕ) (xs : List T) (i : ℕ) (x : T) (n : ℕ) → i < length xs → x ≡ slice_index_or xs i x → n ≡ size x
    → now ≡ old ++ map size (take i xs) → new ≡ now ++ n ∷ [] → new ≡ old ++ map size (take (i + 1) xs)
sizes_more size old now new xs i x n here is same front pushed =
    let grown : take (i + 1) xs ≡ take i xs ++ x ∷ [] = take_more xs i x here ∙ ap (λ y. take i xs ++ y ∷ []) (sym is) in
    pushed ∙ ap (λ sizes. sizes ++ n ∷ []) front ∙ append_assoc old (map size (take i xs)) (n ∷ [])
    ∙ ap (λ sizes. old ++ sizes) (ap (λ m. map size (take i xs) ++ m ∷ []) same ∙ sym (map-append size (take i xs) (x ∷ [])) ∙ ap (map size) (sym grown))

pub sizes_whole : {T : Type 0} (size : T → ℕ) (old now : List ℕ) (xs : List T) (i : ℕ) → length xs ≤ i → now ≡ old ++ map size (take i xs) → now ≡ old ++ map size xs
sizes_whole size old now xs i enough front = front ∙ ap (λ ys. old ++ map size ys) (take_all i xs enough)

-- ---- taken

pub taken_from : (old : List ℕ) (n : ℕ) (new : List ℕ) → old ≡ n ∷ new → (sum old ≡ n + sum new) × (length old ≡ suc (length new))
taken_from old n new taken = (ap sum taken ∙ sum_by-cons (λ x. x) n new, ap length taken)

-- ---- refused

-- a fault of the large lengths
pub fault_of_large : {k : ℕ} {old short middle : List ℕ} (reason : Reason) (count : ℕ) → Reads SpellsBytes k old short middle → count ≡ escapes short
    → NamesIntsFault 8 reason count middle → NamesLengthFault reason k old
fault_of_large {middle = middle} reason count read counted named =
    in_large read (subst (λ wanted. NamesIntsFault 8 reason wanted middle) counted named)

-- ---- read

-- both parts together
pub reads_lengths : (limit : Option ℕ) (count : ℕ) (old short large new : List ℕ) → ReadsParts count old short large new
    → sum (lengths_from short large) < length_limit → KeepsCap limit short (lengths_from short large)
    → Reads (SpellsLengths limit) count old (lengths_from short large) new
reads_lengths limit count old short large new parts below cap =
    let front = parts.short_read in
    let back = parts.large_read in
    record {
      size = length-lengths_from short large ∙ front.size;
      piece = front.piece ++ back.piece;
      whole = front.whole ∙ (ap (λ rest. front.piece ++ rest) back.whole ∙ sym (append_assoc front.piece back.piece new));
      spelled = record {
        short_piece = front.piece;
        large_piece = back.piece;
        short = short;
        large = large;
        whole = refl;
        short_spelled = front.spelled;
        large_spelled = back.spelled;
        large_count = back.size;
        joined = refl;
        below_limit = below;
        keeps_cap = cap;
      };
    }

-- what is left of the rest of a reading is an end of its input
pub ends_behind_read : {Entry : Type 0} {Spelled : List ℕ → List Entry → Type 0} {count : ℕ} {old middle : List ℕ} {entries : List Entry} (new : List ℕ)
    → Reads Spelled count old entries middle → IsEndOf middle new → IsEndOf old new
ends_behind_read new read end = record {
  taken = read.piece ++ end.taken;
  whole = read.whole ∙ (ap (λ rest. read.piece ++ rest) end.whole ∙ sym (append_assoc read.piece end.taken new));
}

pub ends_behind_parts : {count : ℕ} {old short large new : List ℕ} → ReadsParts count old short large new → IsEndOf old new
ends_behind_parts {count} {old} {short} {large} {new} parts =
    ends_behind_read new parts.short_read (record { taken = parts.large_read.piece; whole = parts.large_read.whole })
