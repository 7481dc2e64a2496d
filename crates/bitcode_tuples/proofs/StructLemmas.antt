-- A struct written by hand: what the coders of its fields do makes up what its own coder does. Each lemma closes one goal
-- that the check leaves of such a struct's `read` or `encode`, from the clauses of the fields' calls.
use Rattle.std.proofs.Common.{◌≡◌, ℕ, ◌+◌, Bool, ◌&&◌, List, Result, Ok, Err, IfErr, subst, sym, inr}
use Rattle.std.specs.Result.{IsErrAnd, OnErr}
use Rattle.bitcode_memory.specs.declared.error.Error.{Error}
use Rattle.bitcode_columns.specs.Reading.{Reads, IsEndOf}
use Rattle.bitcode_shapes.specs.Datum.{Datum}
use Rattle.bitcode_shapes.specs.Shape.{Shape, pair_shape}
use Rattle.bitcode_shapes.specs.Pairs.{ListsPair}
use Rattle.bitcode_coder.specs.ColumnFree.{free_count, saturated}
use Rattle.bitcode_coder.specs.Columns.{Columns, two}
use Rattle.bitcode_coder.specs.Spelling.{Spells}
use Rattle.bitcode_coder.specs.Coder.{IsReadingRefusal, JoinsListing, OverflowsWithListing}
use Rattle.bitcode_coder.specs.Strict.{JudgesData}
use Rattle.bitcode_coder.proofs.LengthPartLemmas.{ends_behind_read}
use Rattle.bitcode_coder.specs.FirstFault.{IsFirstFault}
use Rattle.bitcode_tuples.specs.Pairs.{pairs_of}
use Rattle.bitcode_tuples.proofs.ReadingLemmas.{reads_pairs, counts_pairs, judges_pairs, refuses_first, refuses_second}
use Rattle.bitcode_tuples.proofs.WritingLemmas.{joins_pair, overflows_with_first, overflows_with_second}

-- ---- read

module _ {s : Shape} {k : ℕ} {old : List ℕ} (t : Shape) where
  -- the first field was refused
  pub struct_stopped : {T : Type 0} (e : Error) (r : Result T Error) → IsErrAnd r (λ f. f ≡ e) → IsReadingRefusal s e.reason k old
      → IfErr r (λ f. IsReadingRefusal (pair_shape s t) f.reason k old)
  struct_stopped e (Ok x) stopped first = absurd stopped
  struct_stopped e (Err f) stopped first = subst (λ (x : Error). IsReadingRefusal (pair_shape s t) x.reason k old) (sym stopped) (refuses_first s t k e.reason old first)

  -- the first field was read
  module _ {middle : List ℕ} {ds : List Datum} where
    pub struct_read : (new : List ℕ) (es : List Datum) → Reads (Spells s) k old ds middle → Reads (Spells t) k middle es new
        → Reads (Spells (pair_shape s t)) k old (pairs_of ds es) new
    struct_read new es first second = reads_pairs s t k new es first second

    -- the elements without columns are those inside both fields
    pub struct_counted : (new : List ℕ) (es : List Datum) (a b : ℕ) → Reads (Spells s) k old ds middle → Reads (Spells t) k middle es new
        → saturated a ≡ saturated (free_count s ds) → saturated b ≡ saturated (free_count t es) → saturated (a + b) ≡ saturated (free_count (pair_shape s t) (pairs_of ds es))
    struct_counted new es a b first second told told_behind = counts_pairs s t k new es first second a b told told_behind

    -- the answer is that of both fields
    pub struct_judged : (new : List ℕ) (es : List Datum) (a b : Bool) → Reads (Spells s) k old ds middle → Reads (Spells t) k middle es new
        → JudgesData s ds a old middle → JudgesData t es b middle new → JudgesData (pair_shape s t) (pairs_of ds es) (a && b) old new
    struct_judged new es a b first second told told_behind = judges_pairs s t k new es a b first second told told_behind

    -- the second field was refused
    pub struct_refused : {T : Type 0} (e : Error) (r : Result T Error) → IsErrAnd r (λ f. f ≡ e) → Reads (Spells s) k old ds middle → IsReadingRefusal t e.reason k middle
        → IfErr r (λ f. IsReadingRefusal (pair_shape s t) f.reason k old)
    struct_refused e (Ok x) stopped first second = absurd stopped
    struct_refused e (Err f) stopped first second =
        subst (λ (x : Error). IsReadingRefusal (pair_shape s t) x.reason k old) (sym stopped) (refuses_second s t k e.reason old middle ds first second)

    -- and this is the fault that the second field reports
    pub struct_exact : {T : Type 0} (e : Error) (r : Result T Error) → IsErrAnd r (λ f. f ≡ e) → Reads (Spells s) k old ds middle → IsFirstFault t e.reason k middle
        → IfErr r (λ f. IsFirstFault (pair_shape s t) f.reason k old)
    struct_exact e (Ok x) stopped first second = absurd stopped
    struct_exact e (Err f) stopped first second =
        subst (λ (x : Error). IsFirstFault (pair_shape s t) x.reason k old) (sym stopped) (inr (record { entries = _; rest = _; read = first; fault = second }))

pub struct_rest : {s : Shape} {k : ℕ} {old middle : List ℕ} {ds : List Datum} {T : Type 0} (new : List ℕ) (r : Result T Error)
    → Reads (Spells s) k old ds middle → IsEndOf middle new → OnErr r (IsEndOf old new)
struct_rest new (Ok x) first second = tt
struct_rest new (Err e) first second = ends_behind_read new first second

-- the lemmas that the check applies by itself where it is told to: #[tactic(auto, using(..::struct_reading))]
pub ruleset struct_reading = (struct_read, struct_counted, struct_judged, struct_rest)

-- ---- encode

module _ {F P Q : Type 0} (fields : F → P × Q) (x : F) {lists_p : P → Datum → Type 0} {lists_q : Q → Datum → Type 0} {s t : Shape} {a b : Columns} where
  pub struct_joins : {c d : Columns} → JoinsListing lists_p s (fields x).0 a c → JoinsListing lists_q t (fields x).1 b d
      → JoinsListing (λ y e. ListsPair lists_p lists_q (fields y) e) (pair_shape s t) x (two a b) (two c d)
  struct_joins {c} {d} first second =
      let joined = joins_pair lists_p lists_q s t (fields x) a b c d first second in
      record { datum = joined.datum; listing = joined.listing; joined = joined.joined; fits = joined.fits }

  -- where the first field overflows, whatever the second one lists, and where the second one does
  pub struct_overflows_first : (e : Datum) → lists_q (fields x).1 e → OverflowsWithListing lists_p s (fields x).0 a
      → OverflowsWithListing (λ y d. ListsPair lists_p lists_q (fields y) d) (pair_shape s t) x (two a b)
  struct_overflows_first e l h =
      let overflows = overflows_with_first lists_p lists_q s t (fields x) a b e l h in
      record { datum = overflows.datum; listing = overflows.listing; overflows = overflows.overflows }

  pub struct_overflows_second : (d : Datum) → lists_p (fields x).0 d → OverflowsWithListing lists_q t (fields x).1 b
      → OverflowsWithListing (λ y e. ListsPair lists_p lists_q (fields y) e) (pair_shape s t) x (two a b)
  struct_overflows_second d l h =
      let overflows = overflows_with_second lists_p lists_q s t (fields x) a b d l h in
      record { datum = overflows.datum; listing = overflows.listing; overflows = overflows.overflows }
