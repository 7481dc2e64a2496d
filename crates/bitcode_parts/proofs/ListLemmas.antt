-- Data of lists are read as the lengths of all and then the elements of all.
use Rattle.std.proofs.Common.{◌≡◌, Bool, ◌&&◌, IsTrue, ℕ, ◌+◌, Option, List, [], ◌∷◌, ◌++◌, ◌<◌, ◌≤◌, length, map, sum, take, drop, refl, sym, ◌∙◌, ap, ap₂, subst, ⊎_elim, leb, arith, append_assoc, length-append}
use Rattle.std.specs.Prelude.{None, All, ◌↔◌}
use Rattle.std.specs.List.{flat_map}
use Rattle.std.proofs.Math.Seq.{take-append_seam, drop-append_seam}
use Rattle.std.proofs.lemmas.List.{length-map, length-take-le}
use Rattle.std.proofs.lemmas.List.Elements.{All-nil, All-cons, All-head, All-tail, All-take, All-drop}
use Rattle.std.proofs.lemmas.Bool.{cond_both, cases_Bool, leb-true, leb-false}
use Rattle.std.proofs.lemmas.List.Sums.{sum_by-cons}
use Rattle.bitcode_memory.specs.declared.error.Reason.{Reason}
use Rattle.bitcode_columns.specs.Reading.{Reads}
use Rattle.bitcode_shapes.specs.Datum.{Datum, list, data_of, elements_in, natural_in}
use Rattle.bitcode_shapes.specs.Shape.{Shape, seq_shape, IsOf, IsListOf, IsWithin}
use Rattle.bitcode_shapes.specs.Lists.{MakesSequence}
use Rattle.bitcode_shapes.specs.LawfulLists.{list_of_data, zip_length}
use Rattle.bitcode_coder.specs.Columns.{CountsFit, lengths as length_kind}
use Rattle.bitcode_coder.specs.Strict.{JudgesData}
use Rattle.bitcode_coder.proofs.LengthPartLemmas.{naturals_in}
use Rattle.bitcode_coder.proofs.StrictLemmas.{judges_column}
use Rattle.bitcode_coder.specs.ColumnFree.{has_entry, count_if_free, free_count, saturated}
use Rattle.bitcode_coder.specs.Cutting.{cut}
use Rattle.bitcode_coder.specs.Transposition.{columns_of, joined, length_entry}
use Rattle.bitcode_coder.specs.LengthColumn.{SpellsLengths, KeepsCap, lengths_from, length_bytes}
use Rattle.bitcode_coder.specs.LengthParts.{ReadsParts, NamesLengthFault}
use Rattle.bitcode_coder.specs.Spelling.{Spells, SpellsColumns, natural}
use Rattle.bitcode_coder.specs.Coder.{IsReadingRefusal, TakesDatum, TakesEach}
use Rattle.bitcode_coder.proofs.ColumnFreeLemmas.{saturated_more}
use Rattle.bitcode_coder.proofs.CuttingLemmas.{cut-enough, cut-few, joined-cut, lengths-cut}
use Rattle.bitcode_coder.proofs.LengthLemmas.{SpellsLengths-unambiguous}
use Rattle.bitcode_coder.proofs.LengthRefusalLemmas.{reads_once, lengths_refused, length_reason, cap_refused}
use Rattle.bitcode_coder.proofs.DatumLemmas.{joined_each}
use Rattle.bitcode_parts.specs.Elements.{MakesOfElements}
use Rattle.bitcode_parts.specs.Lists.{lists_of}
use Rattle.bitcode_parts.proofs.ListLimitLemmas.{spelled_within, reads_unlimited}

-- ---- lists of data

abbrev pub as_list : List Datum → Datum
as_list ds = list (data_of ds)

pub joined-as_list : (pieces : List (List Datum)) → joined (map as_list pieces) ≡ flat_map (λ l. l) pieces
joined-as_list [] = refl
joined-as_list (p ∷ ps) = ap₂ (λ front back. front ++ back) (list_of_data p) (joined-as_list ps)

pub lengths-as_list : (pieces : List (List Datum)) → map length_entry (map as_list pieces) ≡ map natural (map (λ l. length l) pieces)
lengths-as_list [] = refl
lengths-as_list (p ∷ ps) = ap₂ (λ first rest. first ∷ rest) (ap (λ ds. natural (length ds)) (list_of_data p)) (lengths-as_list ps)

pub joined-lists_of : (lengths : List ℕ) (elements : List Datum) → sum lengths ≡ length elements → joined (lists_of lengths elements) ≡ elements
joined-lists_of lengths elements all = joined-as_list (cut lengths elements) ∙ joined-cut lengths elements all

lengths-lists_of : (lengths : List ℕ) (elements : List Datum) → sum lengths ≡ length elements
    → map length_entry (lists_of lengths elements) ≡ map natural lengths
lengths-lists_of lengths elements all =
    lengths-as_list (cut lengths elements) ∙ ap (map natural) (lengths-cut lengths elements (omega arith))

length-lists_of : (lengths : List ℕ) (elements : List Datum) → sum lengths ≡ length elements → length (lists_of lengths elements) ≡ length lengths
length-lists_of lengths elements all =
    sym (length-map (lists_of lengths elements) length_entry) ∙ ap length (lengths-lists_of lengths elements all) ∙ length-map lengths natural

-- as many elements as the lengths say
joined-length : (ds : List Datum) (lengths : List ℕ) → map length_entry ds ≡ map natural lengths → length (joined ds) ≡ sum lengths
joined-length [] [] e = refl
joined-length [] (n ∷ ns) e = cc
joined-length (d ∷ ds) [] e = cc
joined-length (d ∷ ds) (n ∷ ns) e =
    let first : length (elements_in d) ≡ n = cc in
    let rest : length (joined ds) ≡ sum ns = joined-length ds ns cc in
    omega (arith, length-append (elements_in d) (joined ds), sum_by-cons (λ x. x) n ns)

module _ (limit : Option ℕ) (P : Datum → Type 0) where
  pieces_are : (lengths : List ℕ) (elements : List Datum) → All (IsWithin limit) lengths → All P elements
      → All (IsListOf P (IsWithin limit)) (lists_of lengths elements)
  pieces_are [] elements within each = All-nil (IsListOf P (IsWithin limit))
  pieces_are (n ∷ ns) elements within each =
      cond_both (leb n (length elements)) (take n elements ∷ cut ns (drop n elements)) [] (λ pieces. All (IsListOf P (IsWithin limit)) (map as_list pieces))
      (λ enough.
      All-cons (IsListOf P (IsWithin limit)) (as_list (take n elements)) (lists_of ns (drop n elements))
      (record {
        elements = take n elements;
        is = refl;
        each = All-take P n elements each;
        count = subst (IsWithin limit) (sym (length-take-le n elements (leb-true n (length elements) enough))) (All-head (IsWithin limit) n ns within);
      })
      (pieces_are ns (drop n elements) (All-tail (IsWithin limit) n ns within) (All-drop P n elements each)))
      (λ few. All-nil (IsListOf P (IsWithin limit)))

-- ---- readings of lists

module _ (limit : Option ℕ) (s : Shape) (k : ℕ) where
  pub reads_sequence : {old middle : List ℕ} {lengths : List ℕ} (new : List ℕ) (elements : List Datum) → Reads (SpellsLengths limit) k old lengths middle
      → Reads (Spells s) (sum lengths) middle elements new → Reads (Spells (seq_shape limit s)) k old (lists_of lengths elements) new
  reads_sequence {lengths = lengths} new elements r q =
      let all : sum lengths ≡ length elements = sym q.size in
      let same : elements ≡ joined (lists_of lengths elements) = sym (joined-lists_of lengths elements all) in
      record {
        size = length-lists_of lengths elements all ∙ r.size;
        piece = r.piece ++ q.piece;
        whole = r.whole ∙ ap (λ x. r.piece ++ x) q.whole ∙ sym (append_assoc r.piece q.piece new);
        spelled = record {
          of_shape = pieces_are limit (IsOf s) lengths elements (spelled_within limit r.piece lengths r.spelled) q.spelled.of_shape;
          counts = (tt, subst (λ ds. CountsFit (columns_of s ds)) same q.spelled.counts);
          columns = record {
            front = r.piece;
            back = q.piece;
            whole = refl;
            first = record { entries = lengths; are = lengths-lists_of lengths elements all; spelled = r.spelled };
            second = subst (λ ds. SpellsColumns (columns_of s ds) q.piece) same q.spelled.columns;
          };
        };
      }

  -- the elements without columns are the elements themselves, if they have none, and those inside them
  pub counts_sequence : (lengths : List ℕ) (elements : List Datum) (total inside : ℕ) → total ≡ sum lengths → length elements ≡ total
      → saturated inside ≡ saturated (free_count s elements)
      → saturated (count_if_free (has_entry s) total + inside) ≡ saturated (free_count (seq_shape limit s) (lists_of lengths elements))
  counts_sequence lengths elements total inside summed size counted =
      let same : joined (lists_of lengths elements) ≡ elements = joined-lists_of lengths elements (sym summed ∙ sym size) in
      saturated_more (count_if_free (has_entry s) total) inside (free_count s elements) counted
      ∙ ap₂ (λ n xs. saturated (count_if_free (has_entry s) n + free_count s xs)) (sym size ∙ ap length (sym same)) (sym same)

  -- the answer of the lengths and the elements is that of lists
  pub judges_sequence : {old middle : List ℕ} {lengths : List ℕ} (new : List ℕ) (elements : List Datum) (a b : Bool) → Reads (SpellsLengths None) k old lengths middle
      → Reads (Spells s) (sum lengths) middle elements new → (IsTrue a ↔ (old ≡ length_bytes lengths ++ middle)) → JudgesData s elements b middle new
      → JudgesData (seq_shape limit s) (lists_of lengths elements) (a && b) old new
  judges_sequence {old} {middle} {lengths} new elements a b r q first second =
      let all : sum lengths ≡ length elements = sym q.size in
      let ds = lists_of lengths elements in
      let are : map length_entry ds ≡ map natural lengths = lengths-lists_of lengths elements all in
      record {
        middle = middle;
        first_written = a;
        second_written = b;
        both = refl;
        first = judges_column (length_kind None) a (map length_entry ds) old middle r.piece (length_bytes lengths) r.whole
            (record { entries = lengths; are = are; spelled = r.spelled }) (ap (λ xs. length_bytes (map natural_in xs)) are ∙ ap length_bytes (naturals_in lengths)) first;
        second = subst (λ xs. JudgesData s xs b middle new) (sym (joined-lists_of lengths elements all)) second;
      }

  -- a reading of lists is a reading of their lengths and one of their elements
  pub record ReadsSequence (old new : List ℕ) (ds : List Datum) : Type 0 where
    pub lengths : List ℕ
    pub middle : List ℕ
    pub first : Reads (SpellsLengths limit) k old lengths middle
    pub second : Reads (Spells s) (sum lengths) middle (joined ds) new

  pub reads_parts : (old new : List ℕ) (ds : List Datum) → Reads (Spells (seq_shape limit s)) k old ds new → ReadsSequence old new ds
  reads_parts old new ds r =
      let c = r.spelled.columns in
      record {
        lengths = c.first.entries;
        middle = c.back ++ new;
        first = record {
          size = sym (length-map c.first.entries natural) ∙ ap length (sym c.first.are) ∙ length-map ds length_entry ∙ r.size;
          piece = c.front;
          whole = r.whole ∙ ap (λ x. x ++ new) c.whole ∙ append_assoc c.front c.back new;
          spelled = c.first.spelled;
        };
        second = record {
          size = joined-length ds c.first.entries c.first.are;
          piece = c.back;
          whole = refl;
          spelled = record { of_shape = joined_each (IsOf s) (IsWithin limit) ds r.spelled.of_shape; counts = r.spelled.counts.1; columns = c.second };
        };
      }

  -- ---- refusals

  pub refuses_lengths : (reason : Reason) (old : List ℕ) → NamesLengthFault reason k old → IsReadingRefusal (seq_shape limit s) reason k old
  refuses_lengths reason old fault =
      (length_reason reason k old fault, λ other ds rest r. let parts = reads_parts old rest ds r in lengths_refused limit reason k old fault other parts.lengths parts.middle parts.first)

  -- the lengths can be read without the limit
  pub refuses_elements : (reason : Reason) (old middle : List ℕ) (lengths : List ℕ) → Reads (SpellsLengths None) k old lengths middle
      → IsReadingRefusal s reason (sum lengths) middle → IsReadingRefusal (seq_shape limit s) reason k old
  refuses_elements reason old middle lengths q h = (
    h.0,
    λ other ds rest r.
        let parts = reads_parts old rest ds r in
        let same = reads_once (SpellsLengths-unambiguous None) q (reads_unlimited parts.first) in
        let count : sum parts.lengths ≡ sum lengths = ap sum (sym same.0) in
        let here : Reads (Spells s) (sum parts.lengths) middle (joined ds) rest =
        subst (λ x. Reads (Spells s) (sum parts.lengths) x (joined ds) rest) (sym same.1) parts.second in
        h.1 other (joined ds) rest (subst (λ n. Reads (Spells s) n middle (joined ds) rest) count here),
  )

  -- a list is longer than the limit
  pub refuses_cap : (old short large left : List ℕ) → ReadsParts k old short large left → (KeepsCap limit short (lengths_from short large) → ⊥)
      → (ds : List Datum) (rest : List ℕ) → Reads (Spells (seq_shape limit s)) k old ds rest → ⊥
  refuses_cap old short large left read broken ds rest r =
      let parts = reads_parts old rest ds r in
      cap_refused limit k old short large left read broken parts.lengths parts.middle parts.first

-- ---- taken

lists_of-parts : (n : ℕ) (ns : List ℕ) (parts rest : List Datum) → length parts ≡ n → lists_of (n ∷ ns) (parts ++ rest) ≡ as_list parts ∷ lists_of ns rest
lists_of-parts n ns parts rest size =
    ap (λ m. lists_of (m ∷ ns) (parts ++ rest)) (sym size)
    ∙ ap (map as_list)
    (cut-enough (length parts) ns (parts ++ rest) (omega (arith, length-append parts rest))
    ∙ ap₂ (λ first more. first ∷ cut ns more) (take-append_seam parts rest) (drop-append_seam parts rest))

-- where a list is left, its elements are
pub enough_elements : (n : ℕ) (old ns : List ℕ) (elements : List Datum) → old ≡ n ∷ ns → 0 < length (lists_of old elements) → n ≤ length elements
enough_elements n old ns elements is some =
    ⊎_elim
    (λ enough. leb-true n (length elements) enough)
    (λ few.
    let none : lists_of old elements ≡ [] =
    ap (λ lengths. lists_of lengths elements) is ∙ ap (map as_list) (cut-few n ns elements (leb-false n (length elements) few)) in
    omega (arith, some, ap length none))
    (cases_Bool (leb n (length elements)))

-- a list was made of the next length and so many elements
pub takes_list : {T C : Type 0} (makes : Datum → T → Type 0) (items : C → List T) (t : C) (n : ℕ) (old ns : List ℕ) (elements rest : List Datum) → old ≡ n ∷ ns
    → TakesEach makes n (items t) elements rest
    → TakesDatum (λ d c. MakesSequence makes d (items c)) t (lists_of old elements) (lists_of ns rest)
takes_list makes items t n old ns elements rest is taken = record {
  datum = as_list taken.parts;
  taken =
      ap₂ lists_of is taken.taken
      ∙ lists_of-parts n ns taken.parts rest (zip_length makes taken.parts (items t) taken.made ∙ taken.size);
  made = record { elements = taken.parts; is = refl; each = taken.made };
}

-- and a value of the list
pub takes_made : {T U : Type 0} (makes_whole : Datum → U → Type 0) (makes : Datum → T → Type 0) (t : U) (items : List T) (old new : List Datum)
    → MakesOfElements makes_whole makes t items → TakesDatum (λ d (ts : List T). MakesSequence makes d ts) items old new → TakesDatum makes_whole t old new
takes_made makes_whole makes t items old new whole taken = record { datum = taken.datum; taken = taken.taken; made = whole taken.datum taken.made }
