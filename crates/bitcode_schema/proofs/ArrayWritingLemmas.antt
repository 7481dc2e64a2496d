-- Arrays are written as the elements of all of them, and maps as lists of pairs.
use Rattle.std.proofs.Common.{◌≡◌, ℕ, zero, suc, ◌+◌, ◌*◌, ◌<◌, ◌^◌, Option, None, List, [], ◌∷◌, ◌++◌, length, refl, sym, ap, subst, ◌∙◌, arith, length-append, All}
use Rattle.std.proofs.lemmas.List.Elements.{All-head, All-tail}
use Rattle.bitcode_shapes.specs.Datum.{Datum}
use Rattle.bitcode_shapes.specs.Shape.{Shape, IsOf, array_shape, seq_shape, map_shape, pair_shape}
use Rattle.bitcode_coder.specs.Columns.{Columns, CountsFit}
use Rattle.bitcode_coder.specs.Spelling.{columns_bytes}
use Rattle.bitcode_coder.specs.Transposition.{columns_of, joined, array_columns}
use Rattle.bitcode_coder.proofs.DatumLemmas.{joined_each}
use Rattle.bitcode_schema.specs.Forms.{list_content}
use Rattle.bitcode_schema.specs.Writing.{Writes, HasStranger}
use Rattle.bitcode_schema.proofs.HoldLemmas.{hold_length}
use Rattle.bitcode_schema.proofs.ListWritingLemmas.{flat, listed, elements_held, counts_held}

flat_length : {A : Type 0} (size : ℕ) (lists : List (List A)) → All (λ l. length l ≡ size) lists → length (flat lists) ≡ length lists * size
flat_length size [] h = let e : 0 ≡ 0 * size = omega arith in e
flat_length size (l ∷ ls) h =
    let first = All-head (λ m. length m ≡ size) l ls h in
    let rest = flat_length size ls (All-tail (λ m. length m ≡ size) l ls h) in
    let whole : length (flat (l ∷ ls)) ≡ length l + length (flat ls) = length-append l (flat ls) in
    let more : suc (length ls) * size ≡ size + length ls * size = omega arith in
    whole ∙ (let e : length l + length (flat ls) ≡ size + length ls * size = omega arith in e) ∙ sym more

array_bytes : (size count : ℕ) (elements : Columns) → columns_bytes (array_columns size count elements) ≡ columns_bytes elements
array_bytes zero count elements = refl
array_bytes (suc size) count elements = refl

array_counts : (size count : ℕ) (elements : Columns) → count * size < 2 ^ 64 → CountsFit elements → CountsFit (array_columns size count elements)
array_counts zero count elements h k = k
array_counts (suc size) count elements h k = (h, k)

module _ {A : Type 0} (content : A → Option Datum) (s : Shape) (size : ℕ) (lists : List (List A)) where
  pub writes_arrays : (old new : List ℕ) → All (λ l. length l ≡ size) lists → length (flat lists) < 2 ^ 64
      → Writes content s (flat lists) old new → Writes (list_content content) (array_shape size s) lists old new
  writes_arrays old new sized few w =
      let l = listed content (IsOf s) (λ n. n ≡ size) lists w.contents w.are.held w.are.of_shape sized in
      let count : length lists ≡ length l.lists_of = hold_length (list_content content) lists l.lists_of l.held in
      let all = flat_length size lists sized in
      let fit : length l.lists_of * size < 2 ^ 64 = subst (λ n. n < 2 ^ 64) (all ∙ ap (λ n. n * size) count) few in
      record {
        contents = l.lists_of;
        are = record { held = l.held; of_shape = l.of_shape };
        counts = array_counts size (length l.lists_of) (columns_of s (joined l.lists_of)) fit (subst (λ ds. CountsFit (columns_of s ds)) (sym l.are) w.counts);
        written = w.written ∙ ap (λ bytes. old ++ bytes)
            (ap (λ ds. columns_bytes (columns_of s ds)) (sym l.are) ∙ sym (array_bytes size (length l.lists_of) (columns_of s (joined l.lists_of))));
      }

  pub stranger_in_arrays : HasStranger content s (flat lists) → HasStranger (list_content content) (array_shape size s) lists
  stranger_in_arrays stranger ds are =
      stranger (joined ds) (record {
        held = elements_held content (IsOf s) (λ n. n ≡ size) lists ds are.held;
        of_shape = joined_each (IsOf s) (λ n. n ≡ size) ds are.of_shape;
      })

  pub stranger_of_other_size : (All (λ l. length l ≡ size) lists → ⊥) → HasStranger (list_content content) (array_shape size s) lists
  stranger_of_other_size other ds are = other (counts_held content (IsOf s) (λ n. n ≡ size) lists ds are.held are.of_shape)

-- ---- maps

module _ {A : Type 0} (content : A → Option Datum) (k v : Shape) (maps : List A) where
  pub writes_maps : (old new : List ℕ) → Writes content (seq_shape None (pair_shape k v)) maps old new → Writes content (map_shape k v) maps old new
  writes_maps old new w = record {
    contents = w.contents;
    are = record { held = w.are.held; of_shape = w.are.of_shape };
    counts = w.counts;
    written = w.written;
  }

  pub stranger_in_maps : HasStranger content (seq_shape None (pair_shape k v)) maps → HasStranger content (map_shape k v) maps
  stranger_in_maps stranger ds are = stranger ds (record { held = are.held; of_shape = are.of_shape })
