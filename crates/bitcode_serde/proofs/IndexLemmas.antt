-- What is read and written of a column of indices.
use Rattle.std.proofs.Common.{ℕ, zero, suc, ◌+◌, ◌<◌, ◌≤◌, ◌≡◌, ◌++◌, [], ◌∷◌, Bool, false, IsTrue, List, All, refl, sym, subst, ◌∙◌, length, map, take, drop, get_or, ap, lit≤, arith}
use Rattle.std.specs.List.{slice_range}
use Rattle.std.proofs.lemmas.List.Folds.{drop_split}
use Rattle.std.proofs.lemmas.List.{map-append}
use Rattle.std.proofs.lemmas.List.Elements.{All-map}
use Rattle.bitcode_memory.specs.declared.error.Reason.{Reason}
use Rattle.std.specs.Prelude.{◌↔◌}
use Rattle.bitcode_columns.specs.ByteColumn.{SpellsBytes, byte_text}
use Rattle.bitcode_memory.specs.Ints.{number_of}
use Rattle.bitcode_int_columns.proofs.AppendLemmas.{int_text_bytes}
use Rattle.bitcode_columns.specs.Reading.{Reads, Names, bytes_fault}
use Rattle.bitcode_shapes.specs.Datum.{number_in}
use Rattle.bitcode_shapes.specs.Shape.{IsNumberOf, any_number}
use Rattle.bitcode_shapes.specs.Ints.{int_shape}
use Rattle.bitcode_coder.specs.Spelling.{Spells, natural}
use Rattle.bitcode_coder.specs.Coder.{IsReadingRefusal}
use Rattle.bitcode_coder.proofs.OneColumnLemmas.{reads_of}
use Rattle.bitcode_coder.specs.Columns.{ints}
use Rattle.bitcode_coder.specs.Strict.{JudgesData}
use Rattle.bitcode_coder.proofs.IntLemmas.{ints_refused, number_is, numbers_in}
use Rattle.bitcode_coder.proofs.StrictLemmas.{judges_column}
use Rattle.bitcode_coder.proofs.LengthPartLemmas.{naturals_in}
use Rattle.bitcode_untyped.specs.Population.{count_of}
use Rattle.bitcode_serde.proofs.FiledLemmas.{take_get}
use Rattle.bitcode_columns.specs.Histogram.{count_of as count_of_number}

pub indices_refused : (reason : Reason) (count : ℕ) (input : List ℕ) → Names reason (bytes_fault count input)
    → IsReadingRefusal (int_shape 1 false) reason count input
indices_refused reason count input named = ints_refused 1 false reason count input named

pub indices_read : (count : ℕ) (old entries new : List ℕ) → Reads SpellsBytes count old entries new → All (λ n. n < 256) entries
    → Reads (Spells (int_shape 1 false)) count old (map natural entries) new
indices_read count old entries new r below =
    reads_of (int_shape 1 false) natural SpellsBytes count old entries new r (λ piece s. record {
      of_shape = All-map (IsNumberOf 1 false any_number) natural entries (λ k d h. number_is 1 false any_number _ (lit≤ tt) (below k d h) tt);
      counts = tt;
      columns = record { entries = entries; are = refl; spelled = record { spelled = s; in_width = below } };
    })

pub indices_judged : (written : Bool) (count : ℕ) (old entries new : List ℕ) → Reads SpellsBytes count old entries new → All (λ n. n < 256) entries
    → (IsTrue written ↔ (old ≡ byte_text (map (number_of 1 false) entries) ++ new)) → JudgesData (int_shape 1 false) (map natural entries) written old new
indices_judged written count old entries new r below answer =
    judges_column (ints 1 false) written (map natural entries) old new r.piece (byte_text (map (number_of 1 false) entries)) r.whole
    (record { entries = entries; are = refl; spelled = record { spelled = r.spelled; in_width = below } })
    (int_text_bytes 1 (map number_in (map natural entries)) refl ∙ ap byte_text (numbers_in (λ n. number_of 1 false n) entries)) answer

pub indices_counted : (entries : List ℕ) (index : ℕ) → count_of index (map natural entries) ≡ count_of_number index entries
indices_counted entries index = ap (count_of_number index) (naturals_in entries)

-- ---- by position

length_map : (xs : List ℕ) → length (map natural xs) ≡ length xs
length_map [] = refl
length_map (x ∷ xs) = ap (λ k. suc k) (length_map xs)

pub index_left : (xs : List ℕ) (p : ℕ) → 0 < length (map natural (drop p xs)) → p < length xs
index_left [] zero h = absurd (omega (arith, h))
index_left [] (suc p) h = absurd (omega (arith, h))
index_left (x ∷ xs) zero h = omega arith
index_left (x ∷ xs) (suc p) h = let k = index_left xs p h in omega (arith, k)

next_at : (xs : List ℕ) (p d : ℕ) → p < length xs → drop p xs ≡ get_or xs p d ∷ drop (suc p) xs
next_at [] p d h = absurd (omega (arith, h))
next_at (x ∷ xs) zero d h = refl
next_at (x ∷ xs) (suc p) d h = next_at xs p d (omega (arith, h))

-- the next one is taken
pub index_next : (xs : List ℕ) (p d n : ℕ) → p < length xs → n ≡ get_or xs p d → map natural (drop p xs) ≡ natural n ∷ map natural (drop (p + 1) xs)
index_next xs p d n h is =
    let e : suc p ≡ p + 1 = omega arith in
    ap (map natural) (next_at xs p d h) ∙ ap (λ k. natural k ∷ map natural (drop (suc p) xs)) (sym is) ∙ ap (λ k. natural n ∷ map natural (drop k xs)) e

pub indices_within : (xs : List ℕ) (p n : ℕ) → p ≤ length xs → n ≤ length (map natural (drop p xs)) → p + n ≤ length xs
indices_within [] zero n inside h = omega (arith, h)
indices_within [] (suc p) n inside h = absurd (omega (arith, inside))
indices_within (x ∷ xs) zero n inside h = let l = length_map xs in omega (arith, h, l)
indices_within (x ∷ xs) (suc p) n inside h = let k = indices_within xs p n (omega (arith, inside)) h in omega (arith, k)

-- so many are taken
pub indices_taken : (xs taken : List ℕ) (p n : ℕ) → taken ≡ slice_range xs p (p + n) → map natural (drop p xs) ≡ map natural taken ++ map natural (drop (p + n) xs)
indices_taken xs taken p n e =
    let le : p ≤ p + n = omega arith in
    ap (map natural) (drop_split xs p (p + n) le ∙ ap (λ ys. ys ++ drop (p + n) xs) (sym e)) ∙ map-append natural taken (drop (p + n) xs)

-- the counts of the smallest indices
pub counts_kept : (entries counts kept : List ℕ) (n : ℕ) → kept ≡ take n counts → ((index : ℕ) → index < 256 → get_or counts index 0 ≡ count_of_number index entries)
    → length counts ≡ 256 → (index : ℕ) → index < length kept → get_or kept index 0 ≡ count_of_number index entries
counts_kept entries counts kept n is each size index h =
    let g = take_get n counts index 0 (subst (λ ks. index < length ks) is h) in
    let inside = g.1 in
    ap (λ ks. get_or ks index 0) is ∙ g.2 ∙ each index (omega (arith, inside, size))
