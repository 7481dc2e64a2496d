-- What a reader answers of the columns of data is whether their bytes strictly spell them.
use Rattle.std.proofs.Common.{◌≡◌, ℕ, Bool, true, false, ◌&&◌, IsTrue, None, List, ◌++◌, refl, sym, ap, ap₂, subst, ◌∙◌, append_assoc, Result, Ok, Err, OnOk, IfOk}
use Rattle.std.specs.Prelude.{◌↔◌}
use Rattle.std.proofs.lemmas.Bool.{false≢true}
use Rattle.std.proofs.lemmas.List.{append_cancel_right}
use Rattle.bitcode_columns.specs.Reading.{Reads}
use Rattle.bitcode_shapes.specs.Datum.{Datum}
use Rattle.bitcode_shapes.specs.Shape.{Shape}
use Rattle.bitcode_coder.specs.Columns.{Kind, Columns, bools, ints, floats, lengths, texts, raws, variants, no_columns, one, two, arrays, plain, plain_kind}
use Rattle.bitcode_coder.specs.Transposition.{columns_of}
use Rattle.bitcode_coder.specs.Spelling.{Spells, SpellsColumn, SpellsColumns, column_bytes, columns_bytes}
use Rattle.bitcode_coder.specs.Strict.{StrictlySpells, StrictlySpellsColumns, JudgesColumn, Judges, JudgesData}
use Rattle.bitcode_coder.proofs.ColumnLemmas.{SpellsColumn-unambiguous}
use Rattle.bitcode_coder.proofs.LengthLemmas.{other_limit}

-- ---- one text

pub strict_text : (a : Columns) (bytes : List ℕ) → StrictlySpellsColumns a bytes → bytes ≡ columns_bytes a
strict_text no_columns bytes s = s
strict_text (one kind entries) bytes s = s.written
strict_text (two first second) bytes s = s.whole ∙ ap₂ (λ x y. x ++ y) (strict_text first s.front s.first) (strict_text second s.back s.second)
strict_text (arrays size count elements) bytes s = strict_text elements bytes s

-- data have at most one strict spelling
pub strict_once : (shape : Shape) (piece other : List ℕ) (ds : List Datum) → StrictlySpells shape piece ds → StrictlySpells shape other ds → piece ≡ other
strict_once shape piece other ds s t = strict_text (columns_of shape ds) piece s.columns ∙ sym (strict_text (columns_of shape ds) other t.columns)

-- strict pieces are pieces
pub strict_spells : (a : Columns) (bytes : List ℕ) → StrictlySpellsColumns a bytes → SpellsColumns a bytes
strict_spells no_columns bytes s = s
strict_spells (one kind entries) bytes s = s.spelled
strict_spells (two first second) bytes s = record {
  front = s.front;
  back = s.back;
  whole = s.whole;
  first = strict_spells first s.front s.first;
  second = strict_spells second s.back s.second;
}
strict_spells (arrays size count elements) bytes s = strict_spells elements bytes s

-- two pieces that spell the same columns at the front of one input are one
columns_once : (a : Columns) (piece other rest left : List ℕ) → SpellsColumns a piece → SpellsColumns a other → piece ++ rest ≡ other ++ left → rest ≡ left
columns_once no_columns piece other rest left s t h = ap (λ b. b ++ rest) (sym s) ∙ h ∙ ap (λ b. b ++ left) t
columns_once (one kind entries) piece other rest left s t h = ((SpellsColumn-unambiguous kind).unambiguous piece other entries entries rest left s t refl h).1
columns_once (two first second) piece other rest left s t h =
    columns_once second s.back t.back rest left s.second t.second
    (columns_once first s.front t.front (s.back ++ rest) (t.back ++ left) s.first t.first
    (sym (ap (λ b. b ++ rest) s.whole ∙ append_assoc s.front s.back rest) ∙ h ∙ ap (λ b. b ++ left) t.whole ∙ append_assoc t.front t.back left))
columns_once (arrays size count elements) piece other rest left s t h = columns_once elements piece other rest left s t h

-- ---- the answer

unlimited : (kind : Kind) (bytes : List ℕ) (ds : List Datum) → SpellsColumn kind bytes ds → SpellsColumn (plain_kind kind) bytes ds
unlimited bools bytes ds s = s
unlimited (ints width signed) bytes ds s = s
unlimited (floats format) bytes ds s = s
unlimited (lengths limit) bytes ds s = record { entries = s.entries; are = s.are; spelled = other_limit None s.spelled tt }
unlimited (texts limit) bytes ds s = record {
  entries = s.entries;
  are = s.are;
  spelled = record {
    lengths_piece = s.spelled.lengths_piece;
    whole = s.spelled.whole;
    lengths_spelled = other_limit None s.spelled.lengths_spelled tt;
    utf8 = s.spelled.utf8;
  };
}
unlimited raws bytes ds s = s
unlimited (variants count) bytes ds s = s

plain_text : (kind : Kind) (ds : List Datum) → column_bytes (plain_kind kind) ds ≡ column_bytes kind ds
plain_text bools ds = refl
plain_text (ints width signed) ds = refl
plain_text (floats format) ds = refl
plain_text (lengths limit) ds = refl
plain_text (texts limit) ds = refl
plain_text raws ds = refl
plain_text (variants count) ds = refl

both_parts : (a b : Bool) → IsTrue (a && b) → IsTrue a × IsTrue b
both_parts true b h = (refl, h)
both_parts false b h = absurd (false≢true h)

both_hold : (a b : Bool) → IsTrue a → IsTrue b → IsTrue (a && b)
both_hold true b h k = k
both_hold false b h k = absurd (false≢true h)

-- the pieces that were judged are those that spell the columns
record Judged (a : Columns) (written : Bool) (bytes new : List ℕ) (rest : List ℕ) : Type 0 where
  answer : IsTrue written ↔ StrictlySpellsColumns a bytes
  behind : rest ≡ new

judged : (a : Columns) (written : Bool) (old bytes new rest : List ℕ) → Judges (plain a) written old new → SpellsColumns a bytes → old ≡ bytes ++ rest
    → Judged a written bytes new rest
judged no_columns written old bytes new rest j s whole = record {
  answer = (λ t. s, λ none. j.1);
  behind = sym (whole ∙ ap (λ b. b ++ rest) s) ∙ j.0;
}
judged (one kind entries) written old bytes new rest j s whole =
    let same = (SpellsColumn-unambiguous (plain_kind kind)).unambiguous bytes j.read.piece entries entries rest new (unlimited kind bytes entries s) j.read.spelled refl
    (sym whole ∙ j.read.whole) in
    record {
      answer = (
        λ t. record { spelled = s; written = append_cancel_right bytes (column_bytes kind entries) rest (sym whole ∙ j.answer.0 t ∙ ap₂ (λ x y. x ++ y) (plain_text kind entries) (sym same.1)) },
        λ strict. j.answer.1 (whole ∙ ap₂ (λ x y. x ++ y) (strict.written ∙ sym (plain_text kind entries)) same.1),
      );
      behind = same.1;
    }
judged (two first second) written old bytes new rest j s whole =
    let front = judged first j.first_written old s.front j.middle (s.back ++ rest) j.first s.first (whole ∙ ap (λ b. b ++ rest) s.whole ∙ append_assoc s.front s.back rest) in
    let back = judged second j.second_written j.middle s.back new rest j.second s.second (sym front.behind) in
    record {
      answer = (
        λ t.
            let parts = both_parts j.first_written j.second_written (subst IsTrue j.both t) in
            record { front = s.front; back = s.back; whole = s.whole; first = front.answer.0 parts.0; second = back.answer.0 parts.1 },
        λ strict.
            let split : s.front ++ s.back ≡ strict.front ++ strict.back = sym s.whole ∙ strict.whole in
            let backs : s.back ≡ strict.back = columns_once first s.front strict.front s.back strict.back s.first (strict_spells first strict.front strict.first) split in
            let fronts : s.front ≡ strict.front = append_cancel_right s.front strict.front s.back (split ∙ ap (λ b. strict.front ++ b) (sym backs)) in
            subst IsTrue (sym j.both)
            (both_hold j.first_written j.second_written (front.answer.1 (subst (StrictlySpellsColumns first) (sym fronts) strict.first))
            (back.answer.1 (subst (StrictlySpellsColumns second) (sym backs) strict.second))),
      );
      behind = back.behind;
    }
judged (arrays size count elements) written old bytes new rest j s whole =
    let of_elements = judged elements written old bytes new rest j s whole in
    record { answer = of_elements.answer; behind = of_elements.behind }

-- what `read` answers is what `populate_strict` promises
pub judged_data : (shape : Shape) (k : ℕ) (old new : List ℕ) (ds : List Datum) (written : Bool) → Reads (Spells shape) k old ds new → JudgesData shape ds written old new
    → (IsTrue written ↔ Reads (StrictlySpells shape) k old ds new)
judged_data shape k old new ds written r j =
    let told = judged (columns_of shape ds) written old r.piece new new j r.spelled.columns r.whole in (
      λ t. record {
        size = r.size;
        piece = r.piece;
        whole = r.whole;
        spelled = record { of_shape = r.spelled.of_shape; counts = r.spelled.counts; columns = told.answer.0 t };
      },
      λ strict.
          let same : r.piece ≡ strict.piece = append_cancel_right r.piece strict.piece new (sym r.whole ∙ strict.whole) in
          told.answer.1 (subst (StrictlySpellsColumns (columns_of shape ds)) (sym same) strict.spelled.columns),
    )

pub judged_result : {E : Type 0} (shape : Shape) (k : ℕ) (old new : List ℕ) (ds : List Datum) (r : Result Bool E) → OnOk r (Reads (Spells shape) k old ds new)
    → IfOk r (λ written. JudgesData shape ds written old new) → IfOk r (λ written. IsTrue written ↔ Reads (StrictlySpells shape) k old ds new)
judged_result shape k old new ds (Ok written) read j = judged_data shape k old new ds written read j
judged_result shape k old new ds (Err e) read j = tt

-- ---- the answer of one column

pub judges_column : (kind : Kind) (written : Bool) (ds : List Datum) (old new piece text : List ℕ) → old ≡ piece ++ new → SpellsColumn kind piece ds
    → column_bytes kind ds ≡ text → (IsTrue written ↔ (old ≡ text ++ new)) → JudgesColumn written kind ds old new
judges_column kind written ds old new piece text whole spelled is answer = record {
  read = record { size = refl; piece = piece; whole = whole; spelled = spelled };
  answer = rw is answer;
}
