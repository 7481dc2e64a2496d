-- What the readers of single columns answer, in terms of data.
use Rattle.std.proofs.Common.{◌≡◌, ℕ, suc, ◌+◌, ◌<◌, ◌≤◌, min, eqb, leb, Bool, true, false, ◌&&◌, IsTrue, MatchBool, None, pos, List, [], ◌∷◌, ◌++◌, length, map, take, All, sum, refl, sym, ap, ap₂, subst, ◌∙◌, append_assoc, arith, inl, ⊎_elim, Result, Ok, Err, OnOk, IfOk}
use Rattle.std.specs.Prelude.{◌↔◌, filter}
use Rattle.std.proofs.lemmas.Bool.{false≢true, cases_Bool, cond-true, cond-false, le-leb, lt-leb, eqb-true, eqb-false}
use Rattle.std.proofs.lemmas.List.{length-map, nil_from_length, get_or-map}
use Rattle.std.proofs.lemmas.List.Elements.{All-nil, All-cons, All-head, All-tail, All-map}
use Rattle.std.proofs.lemmas.List.Sums.{length-filter}
use Rattle.std.proofs.lemmas.Simd.{map-map}
use Rattle.bitcode_columns.specs.Reading.{Reads}
use Rattle.bitcode_columns.specs.BoolColumn.{SpellsBools, bool_text}
use Rattle.bitcode_columns.specs.ByteColumn.{SpellsBytes, byte_text}
use Rattle.bitcode_columns.specs.IntColumn.{int_text}
use Rattle.bitcode_memory.specs.Ints.{IsNumber, residue}
use Rattle.bitcode_columns.proofs.ByteColumnLemmas.{SpellsBytes-unambiguous, byte_text-spells}
use Rattle.bitcode_shapes.specs.Datum.{text}
use Rattle.bitcode_shapes.specs.Shape.{bool_shape, text_shape}
use Rattle.bitcode_coder.specs.Columns.{bools, texts as text_kind}
use Rattle.bitcode_coder.specs.Cutting.{cut}
use Rattle.bitcode_coder.specs.LengthColumn.{escape, lengths_from, first_large, other_large, length_bytes}
use Rattle.bitcode_coder.specs.LengthParts.{escapes, AreLengthParts, ReadsParts}
use Rattle.bitcode_coder.specs.Spelling.{Spells, truth}
use Rattle.bitcode_coder.specs.Strict.{JudgesData}
use Rattle.bitcode_coder.proofs.BoolLemmas.{truths_in}
use Rattle.bitcode_coder.proofs.LengthLemmas.{length-lengths_from}
use Rattle.bitcode_coder.proofs.LengthPartLemmas.{length_bytes-parts, no_large, reads_no_large}
use Rattle.bitcode_coder.proofs.StrLemmas.{texts_bytes-cut}
use Rattle.bitcode_coder.proofs.StrictLemmas.{judges_column}

pub bools_judged : {E : Type 0} (r : Result Bool E) (count : ℕ) (old : List ℕ) (entries : List Bool) (new : List ℕ) → OnOk r (Reads SpellsBools count old entries new)
    → IfOk r (λ written. IsTrue written ↔ (old ≡ bool_text entries ++ new)) → IfOk r (λ written. JudgesData bool_shape (map truth entries) written old new)
bools_judged (Ok written) count old entries new read answer =
    judges_column bools written (map truth entries) old new read.piece (bool_text entries) read.whole (record { entries = entries; are = refl; spelled = read.spelled })
    (ap bool_text (truths_in entries)) answer
bools_judged (Err e) count old entries new read answer = tt

-- ---- texts

pub texts_judged : (written : Bool) (k : ℕ) (old lengths bytes new : List ℕ) → length bytes ≡ sum lengths
    → (read : Reads (Spells (text_shape None)) k old (map text (cut lengths bytes)) new) → (IsTrue written ↔ (old ≡ length_bytes lengths ++ (bytes ++ new)))
    → JudgesData (text_shape None) (map text (cut lengths bytes)) written old new
texts_judged written k old lengths bytes new all read answer =
    judges_column (text_kind None) written (map text (cut lengths bytes)) old new read.piece (length_bytes lengths ++ bytes) read.whole read.spelled.columns
    (texts_bytes-cut lengths bytes (sym all)) (rw append_assoc answer)

-- ---- lengths

both_parts : (a b : Bool) → IsTrue (a && b) → IsTrue a × IsTrue b
both_parts true b h = (refl, h)
both_parts false b h = absurd (false≢true h)

both_hold : (a b : Bool) → IsTrue a → IsTrue b → IsTrue (a && b)
both_hold true b h k = k
both_hold false b h k = absurd (false≢true h)

no_escapes : escapes [] ≡ 0
no_escapes = sym (length-filter (λ byte. eqb byte escape) [])

escapes_first : (byte : ℕ) (short : List ℕ) → eqb byte escape ≡ true → escapes (byte ∷ short) ≡ suc (escapes short)
escapes_first byte short is =
    sym (length-filter (λ b. eqb b escape) (byte ∷ short))
    ∙ ap length (cond-true (eqb byte escape) (byte ∷ filter (λ b. eqb b escape) short) (filter (λ b. eqb b escape) short) is)
    ∙ ap suc (length-filter (λ b. eqb b escape) short)

escapes_later : (byte : ℕ) (short : List ℕ) → eqb byte escape ≡ false → escapes (byte ∷ short) ≡ escapes short
escapes_later byte short not =
    sym (length-filter (λ b. eqb b escape) (byte ∷ short))
    ∙ ap length (cond-false (eqb byte escape) (byte ∷ filter (λ b. eqb b escape) short) (filter (λ b. eqb b escape) short) not)
    ∙ length-filter (λ b. eqb b escape) short

abbrev short_of : ℕ → ℕ
short_of n = min n escape

abbrev larges_of : List ℕ → List ℕ
larges_of ns = filter (λ n. leb escape n) ns

-- the parts of one length more
more_large : (byte n : ℕ) (short ns : List ℕ) → eqb byte escape ≡ true → escape ≤ n → AreLengthParts short ns → AreLengthParts (byte ∷ short) (n ∷ ns)
more_large byte n short ns is large rest =
    let whole : lengths_from (byte ∷ short) (n ∷ ns) ≡ n ∷ lengths_from short ns = cond-true (eqb byte escape) (n ∷ lengths_from short ns) (byte ∷ lengths_from short (n ∷ ns)) is in
    let first : byte ≡ min n escape = omega (arith, eqb-true byte escape is) in
    let kept : larges_of (n ∷ lengths_from short ns) ≡ n ∷ larges_of (lengths_from short ns) = cond-true (leb escape n) _ _ (le-leb escape n large) in
    record {
      shorts = ap₂ (λ b bs. b ∷ bs) first rest.shorts ∙ ap (map short_of) (sym whole);
      larges = ap (λ ls. n ∷ ls) rest.larges ∙ sym kept ∙ ap larges_of (sym whole);
    }

more_short : (byte : ℕ) (short large : List ℕ) → eqb byte escape ≡ false → byte < escape → AreLengthParts short large → AreLengthParts (byte ∷ short) large
more_short byte short large not small rest =
    let whole : lengths_from (byte ∷ short) large ≡ byte ∷ lengths_from short large =
    cond-false (eqb byte escape) (first_large large ∷ lengths_from short (other_large large)) (byte ∷ lengths_from short large) not in
    let first : byte ≡ min byte escape = omega arith in
    let left_out : larges_of (byte ∷ lengths_from short large) ≡ larges_of (lengths_from short large) = cond-false (leb escape byte) _ _ (lt-leb escape byte small) in
    record {
      shorts = ap₂ (λ b bs. b ∷ bs) first rest.shorts ∙ ap (map short_of) (sym whole);
      larges = rest.larges ∙ sym left_out ∙ ap larges_of (sym whole);
    }

no_parts : (large : List ℕ) → length large ≡ escapes [] → AreLengthParts [] large
no_parts large count = record { shorts = refl; larges = nil_from_length large (count ∙ no_escapes) }

pub written_parts_of : (short large : List ℕ) → All (λ b. b < 256) short → length large ≡ escapes short → All (λ n. escape ≤ n) large → AreLengthParts short large
written_parts_of [] large below count each = no_parts large count
written_parts_of (byte ∷ short) [] below count each =
    ⊎_elim
    (λ is. absurd (omega (arith, count, escapes_first byte short is)))
    (λ not.
    more_short byte short [] not (omega (arith, eqb-false byte escape not, All-head (λ b. b < 256) byte short below))
    (written_parts_of short [] (All-tail (λ b. b < 256) byte short below) (count ∙ escapes_later byte short not) each))
    (cases_Bool (eqb byte escape))
written_parts_of (byte ∷ short) (n ∷ ns) below count each =
    ⊎_elim
    (λ is.
    more_large byte n short ns is (All-head (λ m. escape ≤ m) n ns each)
    (written_parts_of short ns (All-tail (λ b. b < 256) byte short below) (omega (arith, count, escapes_first byte short is)) (All-tail (λ m. escape ≤ m) n ns each)))
    (λ not.
    more_short byte short (n ∷ ns) not (omega (arith, eqb-false byte escape not, All-head (λ b. b < 256) byte short below))
    (written_parts_of short (n ∷ ns) (All-tail (λ b. b < 256) byte short below) (count ∙ escapes_later byte short not) each))
    (cases_Bool (eqb byte escape))

-- where the short bytes are those that are written, each large length is one for which an escape is written
pub larges_of_short : (short large : List ℕ) → length large ≡ escapes short → short ≡ map short_of (lengths_from short large) → All (λ n. escape ≤ n) large
larges_of_short [] large count is = subst (All (λ n. escape ≤ n)) (sym (nil_from_length large (count ∙ no_escapes))) (All-nil (λ n. escape ≤ n))
larges_of_short (byte ∷ short) [] count is = All-nil (λ n. escape ≤ n)
larges_of_short (byte ∷ short) (n ∷ ns) count is =
    ⊎_elim
    (λ e.
    let whole : lengths_from (byte ∷ short) (n ∷ ns) ≡ n ∷ lengths_from short ns = cond-true (eqb byte escape) (n ∷ lengths_from short ns) (byte ∷ lengths_from short (n ∷ ns)) e in
    let same : byte ∷ short ≡ min n escape ∷ map short_of (lengths_from short ns) = is ∙ ap (map short_of) whole in
    let first : byte ≡ min n escape = cc same in
    let later : short ≡ map short_of (lengths_from short ns) = cc same in
    let large : escape ≤ n = omega (arith, eqb-true byte escape e) in
    All-cons (λ m. escape ≤ m) n ns large (larges_of_short short ns (omega (arith, count, escapes_first byte short e)) later))
    (λ not.
    let whole : lengths_from (byte ∷ short) (n ∷ ns) ≡ byte ∷ lengths_from short (n ∷ ns) =
    cond-false (eqb byte escape) (n ∷ lengths_from short ns) (byte ∷ lengths_from short (n ∷ ns)) not in
    let same : byte ∷ short ≡ min byte escape ∷ map short_of (lengths_from short (n ∷ ns)) = is ∙ ap (map short_of) whole in
    let later : short ≡ map short_of (lengths_from short (n ∷ ns)) = cc same in
    larges_of_short short (n ∷ ns) (count ∙ escapes_later byte short not) later)
    (cases_Bool (eqb byte escape))

answer_of : {A : Type 0} (b : Bool) → MatchBool b A (A → ⊥) → A → IsTrue b
answer_of true told a = refl
answer_of false told a = absurd (told a)

fact_of : {A : Type 0} (b : Bool) → MatchBool b A (A → ⊥) → IsTrue b → A
fact_of true told is = told
fact_of false told is = absurd (false≢true is)

pub mapped_told : {X Y : Type 0} (P : Y → Type 0) (f : X → Y) (xs : List X) (b : Bool) → MatchBool b (All (λ x. P (f x)) xs) (All (λ x. P (f x)) xs → ⊥)
    → MatchBool b (All P (map f xs)) (All P (map f xs) → ⊥)
mapped_told P f xs true told = All-map P f xs told
mapped_told P f xs false told = λ all. told (λ k d i. subst P (get_or-map f xs k d (f d) i) (all k (f d) (omega (arith, length-map xs f))))

pub lengths_judged : (a b c : Bool) (k : ℕ) (old middle new short large : List ℕ) → Reads SpellsBytes k old short middle → All (λ b. b < 256) short → length large ≡ escapes short
    → (IsTrue a ↔ (old ≡ byte_text (map pos short) ++ middle)) → (IsTrue b ↔ (middle ≡ int_text 8 (map pos large) ++ new))
    → MatchBool c (All (λ n. escape ≤ n) large) (All (λ n. escape ≤ n) large → ⊥)
    → (IsTrue ((a && b) && c) ↔ (old ≡ length_bytes (lengths_from short large) ++ new))
unfolding length_bytes
lengths_judged a b c k old middle new short large read below count short_told large_told told = (
  λ t.
      let parts = both_parts (a && b) c t in
      let ab = both_parts a b parts.0 in
      let split : AreLengthParts short large = written_parts_of short large below count (fact_of c told parts.1) in
      short_told.0 ab.0 ∙ ap (λ rest. byte_text (map pos short) ++ rest) (large_told.0 ab.1)
      ∙ sym (append_assoc (byte_text (map pos short)) (int_text 8 (map pos large)) new)
      ∙ ap (λ front. front ++ new) (length_bytes-parts short large split),
  λ same.
      let ns = lengths_from short large in
      let numbers = map (λ n. pos (min n escape)) ns in
      let text : List ℕ = byte_text numbers in
      let behind : List ℕ = int_text 8 (map pos (filter (λ n. leb escape n) ns)) in
      let spelled : SpellsBytes text (map short_of ns) =
      subst (SpellsBytes text) (map-map (residue 1) (λ n. pos (min n escape)) ns)
      (byte_text-spells.back false numbers (All-map (IsNumber 1 false) (λ n. pos (min n escape)) ns (λ i d inside. omega arith))) in
      let sizes : length short ≡ length (map short_of ns) = sym (length-map ns short_of ∙ length-lengths_from short large) in
      let once : (short ≡ map short_of ns) × (middle ≡ behind ++ new) =
      SpellsBytes-unambiguous.unambiguous read.piece text short (map short_of ns) middle (behind ++ new) read.spelled spelled sizes
      (sym read.whole ∙ same ∙ append_assoc text behind new) in
      let each = larges_of_short short large count once.0 in
      let split : AreLengthParts short large = written_parts_of short large below count each in
      let shorts : text ≡ byte_text (map pos short) = ap byte_text (sym (map-map pos short_of ns) ∙ ap (map pos) (sym once.0)) in
      let larges : behind ≡ int_text 8 (map pos large) = ap (λ ls. int_text 8 (map pos ls)) (sym split.larges) in
      both_hold (a && b) c
      (both_hold a b
      (short_told.1 (same ∙ append_assoc text behind new ∙ ap₂ (λ x y. x ++ y) shorts (sym once.1)))
      (large_told.1 (once.1 ∙ ap (λ x. x ++ new) larges)))
      (answer_of c told each),
)

-- ---- one length below 255, whose column is its byte

pub single_read : (k byte : ℕ) (input rest : List ℕ) → k ≡ 1 → input ≡ byte ∷ rest → eqb byte escape ≡ false
    → ReadsParts k input (take 1 input) [] rest
single_read k byte input rest one is short =
    subst (λ i. ReadsParts k i (take 1 i) [] rest) (sym is)
    (subst (λ n. ReadsParts n (byte ∷ rest) (byte ∷ []) [] rest) (sym one) (record {
      middle = rest;
      short_read = record { size = refl; piece = byte ∷ []; whole = refl; spelled = inl (omega arith, refl) };
      large_read = reads_no_large (escapes (byte ∷ [])) rest [] (escapes_later byte [] short ∙ no_escapes) refl;
    }))

pub single_written : (byte : ℕ) (input rest : List ℕ) → input ≡ byte ∷ rest → eqb byte escape ≡ false → All (λ b. b < 256) input
    → input ≡ length_bytes (lengths_from (take 1 input) []) ++ rest
unfolding byte_text
single_written byte input rest is short all =
    let below : byte < 256 = All-head (λ b. b < 256) byte rest (subst (All (λ b. b < 256)) is all) in
    let split : AreLengthParts (byte ∷ []) [] =
    written_parts_of (byte ∷ []) [] (All-cons (λ b. b < 256) byte [] below (All-nil (λ b. b < 256))) (sym (escapes_later byte [] short ∙ no_escapes))
    (All-nil (λ n. escape ≤ n)) in
    is ∙ ap (λ front. front ++ rest) (ap (λ more. byte ∷ more) (sym (no_large [] refl)) ∙ length_bytes-parts (byte ∷ []) [] split)
    ∙ ap (λ i. length_bytes (lengths_from (take 1 i) []) ++ rest) (sym is)
