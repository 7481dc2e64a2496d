-- Data of pairs are read as the data of the first fields and then those of the second.
use Rattle.std.proofs.Common.{◌≡◌, Bool, ◌&&◌, ℕ, suc, ◌+◌, List, [], ◌∷◌, ◌++◌, length, map, refl, sym, ◌∙◌, ap, subst, arith, append_assoc}
use Rattle.std.specs.Prelude.{All, Result, Ok, Err, IfErr}
use Rattle.std.proofs.lemmas.List.{length-map}
use Rattle.std.proofs.lemmas.List.Elements.{All-nil, All-cons, All-head, All-tail}
use Rattle.bitcode_memory.specs.declared.error.Reason.{Reason}
use Rattle.bitcode_columns.specs.Reading.{Reads}
use Rattle.bitcode_shapes.specs.Datum.{Datum, pair, first_in, second_in}
use Rattle.bitcode_shapes.specs.Shape.{Shape, pair_shape, IsOf, IsPairOf}
use Rattle.bitcode_coder.specs.ColumnFree.{free_count, saturated}
use Rattle.bitcode_coder.specs.Columns.{CountsFit}
use Rattle.bitcode_coder.specs.Transposition.{columns_of}
use Rattle.bitcode_coder.specs.Spelling.{Spells, SpellsColumns}
use Rattle.bitcode_coder.specs.Coder.{IsReadingRefusal}
use Rattle.bitcode_coder.specs.Strict.{JudgesData}
use Rattle.bitcode_tuples.specs.Pairs.{pairs_of}
use Rattle.bitcode_tuples.specs.PairLaws.{firsts_are, seconds_are}
use Rattle.bitcode_coder.proofs.ColumnFreeLemmas.{saturated_sum}
use Rattle.bitcode_coder.proofs.SpellingLemmas.{Spells-unambiguous}

-- ---- lists of pairs

pub length-pairs_of : (ds es : List Datum) → length ds ≡ length es → length (pairs_of ds es) ≡ length ds
length-pairs_of [] es h = refl
length-pairs_of (d ∷ ds) [] h = absurd (omega arith)
length-pairs_of (d ∷ ds) (e ∷ es) h = ap suc (length-pairs_of ds es (omega arith))

pub firsts-pairs_of : (ds es : List Datum) → length ds ≡ length es → map first_in (pairs_of ds es) ≡ ds
firsts-pairs_of [] es h = refl
firsts-pairs_of (d ∷ ds) [] h = absurd (omega arith)
firsts-pairs_of (d ∷ ds) (e ∷ es) h = ap (λ xs. d ∷ xs) (firsts-pairs_of ds es (omega arith))

pub seconds-pairs_of : (ds es : List Datum) → length ds ≡ length es → map second_in (pairs_of ds es) ≡ es
seconds-pairs_of [] [] h = refl
seconds-pairs_of [] (e ∷ es) h = absurd (omega arith)
seconds-pairs_of (d ∷ ds) [] h = absurd (omega arith)
seconds-pairs_of (d ∷ ds) (e ∷ es) h = ap (λ xs. e ∷ xs) (seconds-pairs_of ds es (omega arith))

pub pairs_are : (IsFirst IsSecond : Datum → Type 0) (ds es : List Datum) → All IsFirst ds → All IsSecond es → All (IsPairOf IsFirst IsSecond) (pairs_of ds es)
pairs_are IsFirst IsSecond [] es h k = All-nil (IsPairOf IsFirst IsSecond)
pairs_are IsFirst IsSecond (d ∷ ds) [] h k = All-nil (IsPairOf IsFirst IsSecond)
pairs_are IsFirst IsSecond (d ∷ ds) (e ∷ es) h k =
    All-cons (IsPairOf IsFirst IsSecond) (pair d e) (pairs_of ds es)
    (record { first = d; second = e; is = refl; is_first = All-head IsFirst d ds h; is_second = All-head IsSecond e es k })
    (pairs_are IsFirst IsSecond ds es (All-tail IsFirst d ds h) (All-tail IsSecond e es k))

-- ---- readings of pairs

module _ (s t : Shape) (k : ℕ) where
  pub reads_pairs : {old middle : List ℕ} {ds : List Datum} (new : List ℕ) (es : List Datum) → Reads (Spells s) k old ds middle → Reads (Spells t) k middle es new
      → Reads (Spells (pair_shape s t)) k old (pairs_of ds es) new
  reads_pairs {ds = ds} new es r q =
      let same : length ds ≡ length es = r.size ∙ sym q.size in
      let firsts : ds ≡ map first_in (pairs_of ds es) = sym (firsts-pairs_of ds es same) in
      let seconds : es ≡ map second_in (pairs_of ds es) = sym (seconds-pairs_of ds es same) in
      record {
        size = length-pairs_of ds es same ∙ r.size;
        piece = r.piece ++ q.piece;
        whole = r.whole ∙ ap (λ x. r.piece ++ x) q.whole ∙ sym (append_assoc r.piece q.piece new);
        spelled = record {
          of_shape = pairs_are (IsOf s) (IsOf t) ds es r.spelled.of_shape q.spelled.of_shape;
          counts = (subst (λ xs. CountsFit (columns_of s xs)) firsts r.spelled.counts, subst (λ xs. CountsFit (columns_of t xs)) seconds q.spelled.counts);
          columns = record {
            front = r.piece;
            back = q.piece;
            whole = refl;
            first = subst (λ xs. SpellsColumns (columns_of s xs) r.piece) firsts r.spelled.columns;
            second = subst (λ xs. SpellsColumns (columns_of t xs) q.piece) seconds q.spelled.columns;
          };
        };
      }

  -- the elements without columns inside both parts are those inside the pairs
  pub counts_pairs : {old middle : List ℕ} {ds : List Datum} (new : List ℕ) (es : List Datum) → Reads (Spells s) k old ds middle → Reads (Spells t) k middle es new
      → (a b : ℕ) → saturated a ≡ saturated (free_count s ds) → saturated b ≡ saturated (free_count t es)
      → saturated (a + b) ≡ saturated (free_count (pair_shape s t) (pairs_of ds es))
  counts_pairs {ds = ds} new es r q a b first second =
      let same : length ds ≡ length es = r.size ∙ sym q.size in
      saturated_sum a (free_count s (map first_in (pairs_of ds es))) b (free_count t (map second_in (pairs_of ds es)))
      (first ∙ ap (λ xs. saturated (free_count s xs)) (sym (firsts-pairs_of ds es same)))
      (second ∙ ap (λ xs. saturated (free_count t xs)) (sym (seconds-pairs_of ds es same)))

  -- the answer of both parts is that of pairs
  pub judges_pairs : {old middle : List ℕ} {ds : List Datum} (new : List ℕ) (es : List Datum) (a b : Bool) → Reads (Spells s) k old ds middle
      → Reads (Spells t) k middle es new → JudgesData s ds a old middle → JudgesData t es b middle new
      → JudgesData (pair_shape s t) (pairs_of ds es) (a && b) old new
  judges_pairs {old} {middle} {ds} new es a b r q first second =
      let same : length ds ≡ length es = r.size ∙ sym q.size in
      record {
        middle = middle;
        first_written = a;
        second_written = b;
        both = refl;
        first = subst (λ xs. JudgesData s xs a old middle) (sym (firsts-pairs_of ds es same)) first;
        second = subst (λ xs. JudgesData t xs b middle new) (sym (seconds-pairs_of ds es same)) second;
      }

  -- a reading of pairs is a reading of the first fields and one of the second
  pub record ReadsBoth (old new : List ℕ) (ds : List Datum) : Type 0 where
    pub middle : List ℕ
    pub first : Reads (Spells s) k old (map first_in ds) middle
    pub second : Reads (Spells t) k middle (map second_in ds) new

  pub reads_both : (old new : List ℕ) (ds : List Datum) → Reads (Spells (pair_shape s t)) k old ds new → ReadsBoth old new ds
  reads_both old new ds r =
      let c = r.spelled.columns in
      record {
        middle = c.back ++ new;
        first = record {
          size = length-map ds first_in ∙ r.size;
          piece = c.front;
          whole = r.whole ∙ ap (λ x. x ++ new) c.whole ∙ append_assoc c.front c.back new;
          spelled = record { of_shape = firsts_are (IsOf s) (IsOf t) ds r.spelled.of_shape; counts = r.spelled.counts.0; columns = c.first };
        };
        second = record {
          size = length-map ds second_in ∙ r.size;
          piece = c.back;
          whole = refl;
          spelled = record { of_shape = seconds_are (IsOf s) (IsOf t) ds r.spelled.of_shape; counts = r.spelled.counts.1; columns = c.second };
        };
      }

  -- ---- refusals

  pub refuses_first : (reason : Reason) (old : List ℕ) → IsReadingRefusal s reason k old → IsReadingRefusal (pair_shape s t) reason k old
  refuses_first reason old h =
      (h.0, λ other ds rest r. let both = reads_both old rest ds r in h.1 other (map first_in ds) both.middle both.first)

  pub refuses_second : (reason : Reason) (old middle : List ℕ) (ds : List Datum) → Reads (Spells s) k old ds middle → IsReadingRefusal t reason k middle
      → IsReadingRefusal (pair_shape s t) reason k old
  refuses_second reason old middle ds q h = (
    h.0,
    λ other es rest r.
        let both = reads_both old rest es r in
        let same = (Spells-unambiguous s).unambiguous q.piece both.first.piece ds (map first_in es) middle both.middle q.spelled both.first.spelled
        (q.size ∙ sym both.first.size) (sym q.whole ∙ both.first.whole) in
        h.1 other (map second_in es) rest (subst (λ x. Reads (Spells t) k x (map second_in es) rest) (sym same.1) both.second),
  )

  pub refused_second : {T E : Type 0} (reason : E → Reason) (result : Result T E) (old middle : List ℕ) (ds : List Datum) → Reads (Spells s) k old ds middle
      → IfErr result (λ e. IsReadingRefusal t (reason e) k middle) → IfErr result (λ e. IsReadingRefusal (pair_shape s t) (reason e) k old)
  refused_second reason (Ok x) old middle ds q h = tt
  refused_second reason (Err e) old middle ds q h = refuses_second (reason e) old middle ds q h

-- ---- a value that stands for another one, as a tuple for a pair
