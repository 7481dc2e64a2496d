-- Arrays are read as the elements of all, which are cut into arrays again.
use Rattle.std.proofs.Common.{◌≡◌, Bool, ℕ, zero, suc, ◌+◌, ◌-◌, ◌*◌, ◌^◌, ◌<◌, ◌≤◌, List, [], ◌∷◌, ◌++◌, length, map, take, drop, replicate, refl, sym, ◌∙◌, ap, ap₂, subst, arith}
use Rattle.std.specs.Prelude.{All}
use Rattle.std.proofs.Math.Seq.{take-append_seam, drop-append_seam, take-length}
use Rattle.std.proofs.lemmas.List.{take-append-drop, length-take-le, length-drop, nil_from_length}
use Rattle.std.proofs.lemmas.List.Elements.{All-nil, All-cons, All-take, All-drop}
use Rattle.bitcode_memory.specs.declared.error.Reason.{Reason}
use Rattle.bitcode_columns.specs.Reading.{Reads}
use Rattle.bitcode_shapes.specs.Datum.{Datum, list, data_of}
use Rattle.bitcode_shapes.specs.Shape.{Shape, array_shape, IsOf, IsListOf}
use Rattle.bitcode_shapes.specs.Lists.{MakesSequence}
use Rattle.bitcode_shapes.specs.LawfulLists.{list_of_data, zip_length}
use Rattle.bitcode_coder.specs.ColumnFree.{has_entry, count_if_free, free_count, saturated}
use Rattle.bitcode_coder.specs.Columns.{CountsFit}
use Rattle.bitcode_coder.specs.Transposition.{columns_of, joined}
use Rattle.bitcode_coder.specs.Spelling.{Spells, SpellsColumns}
use Rattle.bitcode_coder.specs.Coder.{IsReadingRefusal, ReadsValue, ReadsValues, TakesDatum, TakesEach}
use Rattle.bitcode_coder.specs.Strict.{JudgesData}
use Rattle.bitcode_coder.proofs.ColumnFreeLemmas.{saturated_more}
use Rattle.bitcode_coder.proofs.CuttingLemmas.{cut-enough, cut-few}
use Rattle.bitcode_coder.proofs.DatumLemmas.{joined_each}
use Rattle.bitcode_parts.specs.Arrays.{arrays_of}
use Rattle.bitcode_parts.specs.ArrayLaws.{length-joined_arrays}

-- ---- the arrays that elements make up

unless_none : (m n left : ℕ) → (m < n → left ≡ 0) → 0 < left → n ≤ m
unless_none m n left none some = grind (arith, none)

module _ (size : ℕ) where
  arrays_of-more : (count : ℕ) (elements : List Datum) → size ≤ length elements
      → arrays_of size (suc count) elements ≡ list (data_of (take size elements)) ∷ arrays_of size count (drop size elements)
  arrays_of-more count elements enough = ap (map (λ ds. list (data_of ds))) (cut-enough size (replicate count size) elements enough)

  none_left : (count : ℕ) (elements : List Datum) → length elements < size → arrays_of size (suc count) elements ≡ []
  none_left count elements few = ap (map (λ ds. list (data_of ds))) (cut-few size (replicate count size) elements few)

  -- where an array is left, so are its elements
  elements_left : (count : ℕ) (elements : List Datum) → 0 < length (arrays_of size count elements) → size ≤ length elements
  elements_left zero elements some = absurd (omega arith)
  elements_left (suc count) elements some =
      unless_none (length elements) size (length (arrays_of size (suc count) elements)) (λ few. ap length (none_left count elements few)) some

  -- there are enough elements for so many more arrays
  enough_left : (count : ℕ) (elements : List Datum) → length elements ≡ suc count * size → size ≤ length elements
  enough_left count elements all = grind (arith, all)

  rest_left : (count : ℕ) (elements : List Datum) → length elements ≡ suc count * size → length (drop size elements) ≡ count * size
  rest_left count elements all = length-drop size elements ∙ grind (arith, all)

  joined-arrays_of : (count : ℕ) (elements : List Datum) → length elements ≡ count * size → joined (arrays_of size count elements) ≡ elements
  joined-arrays_of zero elements all = sym (nil_from_length elements (omega arith))
  joined-arrays_of (suc count) elements all =
      ap joined (arrays_of-more count elements (enough_left count elements all))
      ∙ ap₂ (λ front back. front ++ back) (list_of_data (take size elements)) (joined-arrays_of count (drop size elements) (rest_left count elements all))
      ∙ take-append-drop size elements

  length-arrays_of : (count : ℕ) (elements : List Datum) → length elements ≡ count * size → length (arrays_of size count elements) ≡ count
  length-arrays_of zero elements all = refl
  length-arrays_of (suc count) elements all =
      ap length (arrays_of-more count elements (enough_left count elements all))
      ∙ ap suc (length-arrays_of count (drop size elements) (rest_left count elements all))

  arrays_are : (IsElement : Datum → Type 0) (count : ℕ) (elements : List Datum) → length elements ≡ count * size → All IsElement elements
      → All (IsListOf IsElement (λ n. n ≡ size)) (arrays_of size count elements)
  arrays_are IsElement zero elements all each = All-nil (IsListOf IsElement (λ n. n ≡ size))
  arrays_are IsElement (suc count) elements all each =
      let front : List Datum = take size elements in
      let rest : List Datum = drop size elements in
      subst (All (IsListOf IsElement (λ n. n ≡ size))) (sym (arrays_of-more count elements (enough_left count elements all))) (
      All-cons (IsListOf IsElement (λ n. n ≡ size)) (list (data_of front)) (arrays_of size count rest)
      (record {
        elements = front;
        is = refl;
        each = All-take IsElement size elements each;
        count = length-take-le size elements (enough_left count elements all);
      })
      (arrays_are IsElement count rest (rest_left count elements all) (All-drop IsElement size elements each)))

-- ---- readings of arrays

counts_of_arrays : (size : ℕ) (shape : Shape) (ds : List Datum) → length ds * size < 2 ^ 64 → CountsFit (columns_of shape (joined ds))
    → CountsFit (columns_of (array_shape size shape) ds)
counts_of_arrays zero shape ds few fits = fits
counts_of_arrays (suc size) shape ds few fits = (few, fits)

counts_of_elements : (size : ℕ) (shape : Shape) (ds : List Datum) → CountsFit (columns_of (array_shape size shape) ds) → CountsFit (columns_of shape (joined ds))
counts_of_elements zero shape ds fits = fits
counts_of_elements (suc size) shape ds fits = fits.1

spelled_as_arrays : (size : ℕ) (shape : Shape) (ds : List Datum) (bytes : List ℕ) → SpellsColumns (columns_of shape (joined ds)) bytes
    → SpellsColumns (columns_of (array_shape size shape) ds) bytes
spelled_as_arrays zero shape ds bytes s = s
spelled_as_arrays (suc size) shape ds bytes s = s

judged_as_arrays : (size : ℕ) (shape : Shape) (ds : List Datum) (written : Bool) (old new : List ℕ) → JudgesData shape (joined ds) written old new
    → JudgesData (array_shape size shape) ds written old new
judged_as_arrays zero shape ds written old new j = j
judged_as_arrays (suc size) shape ds written old new j = j

spelled_as_elements : (size : ℕ) (shape : Shape) (ds : List Datum) (bytes : List ℕ) → SpellsColumns (columns_of (array_shape size shape) ds) bytes
    → SpellsColumns (columns_of shape (joined ds)) bytes
spelled_as_elements zero shape ds bytes s = s
spelled_as_elements (suc size) shape ds bytes s = s

module _ (size : ℕ) (shape : Shape) (k : ℕ) where
  pub reads_arrays : (old new : List ℕ) (elements : List Datum) → k * size < 2 ^ 64 → Reads (Spells shape) (k * size) old elements new
      → Reads (Spells (array_shape size shape)) k old (arrays_of size k elements) new
  reads_arrays old new elements few r =
      let ds : List Datum = arrays_of size k elements in
      let are : elements ≡ joined ds = sym (joined-arrays_of size k elements r.size) in
      let many : length ds ≡ k = length-arrays_of size k elements r.size in
      record {
        size = many;
        piece = r.piece;
        whole = r.whole;
        spelled = record {
          of_shape = arrays_are size (IsOf shape) k elements r.size r.spelled.of_shape;
          counts =
              counts_of_arrays size shape ds (subst (λ n. n * size < 2 ^ 64) (sym many) few)
              (subst (λ es. CountsFit (columns_of shape es)) are r.spelled.counts);
          columns = spelled_as_arrays size shape ds r.piece (subst (λ es. SpellsColumns (columns_of shape es) r.piece) are r.spelled.columns);
        };
      }

  -- the elements without columns are the elements themselves, if they have none, and those inside them
  pub counts_arrays : (elements : List Datum) (inside : ℕ) → length elements ≡ k * size → saturated inside ≡ saturated (free_count shape elements)
      → saturated (count_if_free (has_entry shape) (k * size) + inside) ≡ saturated (free_count (array_shape size shape) (arrays_of size k elements))
  counts_arrays elements inside all counted =
      let same : elements ≡ joined (arrays_of size k elements) = sym (joined-arrays_of size k elements all) in
      saturated_more (count_if_free (has_entry shape) (k * size)) inside (free_count shape elements) counted
      ∙ ap₂ (λ n xs. saturated (count_if_free (has_entry shape) n + free_count shape xs)) (sym all ∙ ap length same) same

  -- the answer of the elements is that of arrays
  pub judges_arrays : (old new : List ℕ) (elements : List Datum) → Reads (Spells shape) (k * size) old elements new → (written : Bool)
      → JudgesData shape elements written old new → JudgesData (array_shape size shape) (arrays_of size k elements) written old new
  judges_arrays old new elements r written j =
      judged_as_arrays size shape (arrays_of size k elements) written old new
      (subst (λ es. JudgesData shape es written old new) (sym (joined-arrays_of size k elements r.size)) j)

  reads_elements : (old new : List ℕ) (ds : List Datum) → Reads (Spells (array_shape size shape)) k old ds new
      → Reads (Spells shape) (k * size) old (joined ds) new
  reads_elements old new ds r = record {
    size = length-joined_arrays (IsOf shape) size ds r.spelled.of_shape ∙ ap (λ n. n * size) r.size;
    piece = r.piece;
    whole = r.whole;
    spelled = record {
      of_shape = joined_each (IsOf shape) (λ n. n ≡ size) ds r.spelled.of_shape;
      counts = counts_of_elements size shape ds r.spelled.counts;
      columns = spelled_as_elements size shape ds r.piece r.spelled.columns;
    };
  }

  pub refuses_elements : (reason : Reason) (old : List ℕ) → IsReadingRefusal shape reason (k * size) old → IsReadingRefusal (array_shape size shape) reason k old
  refuses_elements reason old h = (h.0, λ other ds rest r. h.1 other (joined ds) rest (reads_elements old rest ds r))

-- ---- one array is read

pub array_read : {T : Type 0} (makes : Datum → T → Type 0) (size : ℕ) (shape : Shape) {old new : List ℕ} {items : List T} → size < 2 ^ 64
    → ReadsValues makes shape size old items new → ReadsValue (MakesSequence makes) (array_shape size shape) old items new
array_read makes size shape {old} {new} fits r =
    let same : size ≡ 1 * size = omega arith in
    let whole : arrays_of size 1 r.parts ≡ list (data_of r.parts) ∷ [] =
    arrays_of-more size 0 r.parts (omega (arith, r.read.size)) ∙ ap (λ n. list (data_of (take n r.parts)) ∷ []) (sym r.read.size)
    ∙ ap (λ ds. list (data_of ds) ∷ []) (take-length r.parts) in
    record {
      datum = list (data_of r.parts);
      read = subst (λ ds. Reads (Spells (array_shape size shape)) 1 old ds new) whole
          (reads_arrays size shape 1 old new r.parts (omega (arith, fits)) (subst (λ n. Reads (Spells shape) n old r.parts new) same r.read));
      made = record { elements = r.parts; is = refl; each = r.made };
    }

-- ---- an array is made

pub takes_array : {T : Type 0} (makes : Datum → T → Type 0) (size left : ℕ) (items : List T) (old new : List Datum)
    → 0 < length (arrays_of size left old) → TakesEach makes size items old new
    → TakesDatum (MakesSequence makes) items (arrays_of size left old) (arrays_of size (left - 1) new)
takes_array makes size zero items old new some h = absurd (omega arith)
takes_array makes size (suc left) items old new some h =
    let long : size ≡ length h.parts = sym (zip_length makes h.parts items h.made ∙ h.size) in
    let front : take size old ≡ h.parts = ap₂ take long h.taken ∙ take-append_seam h.parts new in
    let back : drop size old ≡ new = ap₂ drop long h.taken ∙ drop-append_seam h.parts new in
    let one_less : left ≡ suc left - 1 = omega arith in
    record {
      datum = list (data_of h.parts);
      taken =
          arrays_of-more size left old (elements_left size (suc left) old some)
          ∙ ap₂ (λ ds rest. list (data_of ds) ∷ arrays_of size left rest) front back
          ∙ ap (λ n. list (data_of h.parts) ∷ arrays_of size n new) one_less;
      made = record { elements = h.parts; is = refl; each = h.made };
    }
