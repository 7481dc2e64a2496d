-- A datum has one strict spelling at most, and what a reader answers of its columns is whether their bytes are that one.
use Rattle.std.proofs.Common.{◌≡◌, Bool, true, false, ◌&&◌, IsTrue, List, [], ◌∷◌, ◌++◌, map, refl, sym, ap, ap₂, subst, ◌∙◌, append_assoc}
use Rattle.std.specs.Prelude.{ℕ, ◌↔◌}
use Rattle.std.specs.List.{AllByRecursion}
use Rattle.std.proofs.lemmas.Bool.{false≢true}
use Rattle.std.proofs.lemmas.List.{append-nil, append_cancel_right}
use Rattle.bitcode_shapes.specs.Datum.{Datum}
use Rattle.bitcode_coder.specs.Columns.{Column, IsEntryOf, IsSoundKind}
use Rattle.bitcode_coder.specs.Spelling.{SpellsEach, texts_of, column_bytes, LengthsBelowLimitOf}
use Rattle.bitcode_coder.specs.Strict.{JudgesColumn}
use Rattle.bitcode_coder.proofs.ColumnLemmas.{SpellsColumn-unambiguous, column_bytes-spells}
use Rattle.bitcode_untyped.specs.Bounds.{IsLimited}
use Rattle.bitcode_untyped.specs.Laws.{LengthsBelowLimit}
use Rattle.bitcode_untyped.specs.Machine.{State, start, whole}
use Rattle.bitcode_untyped.specs.PlacedColumns.{PlacedColumn, columns_of, unplaced}
use Rattle.bitcode_untyped.specs.Reads.{ReadsDatum}
use Rattle.bitcode_untyped.specs.ShapeTree.{ShapeTree, IsOf, IsSound}
use Rattle.bitcode_untyped.specs.Spelling.{SpellsDatum, datum_text}
use Rattle.bitcode_untyped.specs.Strict.{StrictlySpellsEach, StrictlySpellsDatum, JudgesEach}
use Rattle.bitcode_untyped.specs.Walk.{walk}
use Rattle.bitcode_untyped.proofs.EntryLemmas.{sound_columns, entered, columns_entered}
use Rattle.bitcode_untyped.proofs.KindLemmas.{kinded}
use Rattle.bitcode_untyped.proofs.ReadLemmas.{whole_read}
use Rattle.bitcode_untyped.proofs.SoundLemmas.{tracks_run, tracks_start, whole_is}
use Rattle.bitcode_untyped.proofs.SpellingLemmas.{all_from_recursion}

-- ---- one text

strict_text : (cs : List Column) (bytes : List ℕ) → StrictlySpellsEach cs bytes → bytes ≡ texts_of cs
strict_text [] bytes s = s
strict_text (c ∷ cs) bytes s = s.whole ∙ ap₂ (λ x y. x ++ y) s.first.written (strict_text cs s.back s.second)

strict_spells : (cs : List Column) (bytes : List ℕ) → StrictlySpellsEach cs bytes → SpellsEach cs bytes
strict_spells [] bytes s = s
strict_spells (c ∷ cs) bytes s = record { front = s.front; back = s.back; whole = s.whole; first = s.first.spelled; second = strict_spells cs s.back s.second }

pub strict_once : (shape : ShapeTree) (piece other : List ℕ) (d : Datum) → StrictlySpellsDatum shape piece d → StrictlySpellsDatum shape other d → piece ≡ other
strict_once shape piece other d s t =
    strict_text (unplaced (columns_of shape d)) piece s.columns ∙ sym (strict_text (unplaced (columns_of shape d)) other t.columns)

pub strict_is_text : (shape : ShapeTree) (piece : List ℕ) (d : Datum) → StrictlySpellsDatum shape piece d → SpellsDatum shape piece d × (piece ≡ datum_text shape d)
strict_is_text shape piece d s = (
  record { of_shape = s.of_shape; limited = s.limited; columns = strict_spells (unplaced (columns_of shape d)) piece s.columns },
  strict_text (unplaced (columns_of shape d)) piece s.columns,
)

texts_strictly : (cs : List PlacedColumn) → AllByRecursion (λ (c : PlacedColumn). IsSoundKind c.kind) cs
    → AllByRecursion (λ (c : PlacedColumn). AllByRecursion (IsEntryOf c.kind) c.entries) cs
    → AllByRecursion (λ (c : PlacedColumn). LengthsBelowLimitOf c.kind c.entries) cs → StrictlySpellsEach (unplaced cs) (texts_of (unplaced cs))
texts_strictly [] sound each below = refl
texts_strictly (c ∷ cs) sound each below = record {
  front = column_bytes c.kind c.entries;
  back = texts_of (unplaced cs);
  whole = refl;
  first = record {
    spelled = column_bytes-spells c.kind sound.0 c.entries (all_from_recursion (IsEntryOf c.kind) c.entries each.0) below.0;
    written = refl;
  };
  second = texts_strictly cs sound.1 each.1 below.1;
}

pub written_strictly : (s : ShapeTree) → IsSound s → (d : Datum) → IsOf s d → IsLimited s d → LengthsBelowLimit s d → StrictlySpellsDatum s (datum_text s d) d
written_strictly s good d of limited below = record {
  of_shape = of;
  limited = limited;
  columns = texts_strictly (columns_of s d) (sound_columns s good d) (columns_entered s (walk s [] d) (kinded s [] d) (entered s [] d of)) below;
}

-- ---- the answer of columns

both_parts : (a b : Bool) → IsTrue (a && b) → IsTrue a × IsTrue b
both_parts true b h = (refl, h)
both_parts false b h = absurd (false≢true h)

both_hold : (a b : Bool) → IsTrue a → IsTrue b → IsTrue (a && b)
both_hold true b h k = k
both_hold false b h k = absurd (false≢true h)

all_three : (a b c : Bool) → ((a && b) && c) ≡ (a && (b && c))
all_three true b c = refl
all_three false b c = refl

alone : (a w : Bool) → IsTrue a → (a && w) ≡ (w && true)
alone true true h = refl
alone true false h = refl
alone false w h = absurd (false≢true h)

-- a column is read behind others
pub judges_more : (cs : List Column) (c : Column) (a w : Bool) (old middle new : List ℕ) → JudgesEach cs a old middle
    → JudgesColumn w c.kind c.entries middle new → JudgesEach (cs ++ c ∷ []) (a && w) old new
judges_more [] c a w old middle new j k = record {
  middle = new;
  first_written = w;
  second_written = true;
  both = alone a w j.1;
  first = subst (λ before. JudgesColumn w c.kind c.entries before new) (sym j.0) k;
  second = (refl, refl);
}
judges_more (x ∷ cs) c a w old middle new j k = record {
  middle = j.middle;
  first_written = j.first_written;
  second_written = j.second_written && w;
  both = ap (λ b. b && w) j.both ∙ all_three j.first_written j.second_written w;
  first = j.first;
  second = judges_more cs c j.second_written w j.middle middle new j.second k;
}

record Judged (cs : List Column) (written : Bool) (bytes new rest : List ℕ) : Type 0 where
  answer : IsTrue written ↔ StrictlySpellsEach cs bytes
  behind : rest ≡ new

judged : (cs : List Column) (written : Bool) (old bytes new rest : List ℕ) → JudgesEach cs written old new → SpellsEach cs bytes → old ≡ bytes ++ rest
    → Judged cs written bytes new rest
judged [] written old bytes new rest j s whole = record {
  answer = (λ t. s, λ none. j.1);
  behind = sym (whole ∙ ap (λ b. b ++ rest) s) ∙ j.0;
}
judged (c ∷ cs) written old bytes new rest j s whole =
    let at : old ≡ s.front ++ (s.back ++ rest) = whole ∙ ap (λ b. b ++ rest) s.whole ∙ append_assoc s.front s.back rest in
    let same = (SpellsColumn-unambiguous c.kind).unambiguous s.front j.first.read.piece c.entries c.entries (s.back ++ rest) j.middle s.first j.first.read.spelled refl
    (sym at ∙ j.first.read.whole) in
    let back = judged cs j.second_written j.middle s.back new rest j.second s.second (sym same.1) in
    record {
      answer = (
        λ t.
            let parts = both_parts j.first_written j.second_written (subst IsTrue j.both t) in
            let text : s.front ≡ column_bytes c.kind c.entries =
            append_cancel_right s.front (column_bytes c.kind c.entries) (s.back ++ rest)
            (sym at ∙ j.first.answer.0 parts.0 ∙ ap (λ b. column_bytes c.kind c.entries ++ b) (sym same.1)) in
            record { front = s.front; back = s.back; whole = s.whole; first = record { spelled = s.first; written = text }; second = back.answer.0 parts.1 },
        λ strict.
            let split : s.front ++ s.back ≡ strict.front ++ strict.back = sym s.whole ∙ strict.whole in
            let backs : s.back ≡ strict.back = ((SpellsColumn-unambiguous c.kind).unambiguous s.front strict.front c.entries c.entries s.back strict.back s.first strict.first.spelled refl split).1 in
            let fronts : s.front ≡ strict.front = append_cancel_right s.front strict.front s.back (split ∙ ap (λ b. strict.front ++ b) (sym backs)) in
            subst IsTrue (sym j.both)
            (both_hold j.first_written j.second_written (j.first.answer.1 (at ∙ ap₂ (λ x y. x ++ y) (fronts ∙ strict.first.written) same.1))
            (back.answer.1 (subst (StrictlySpellsEach cs) (sym backs) strict.second))),
      );
      behind = back.behind;
    }

-- ---- the whole input

pub whole_judged : (s : ShapeTree) (bytes : List ℕ) (d : Datum) (b : State) (written : Bool) → ReadsDatum s [] (start bytes) d b → b.rest ≡ []
    → JudgesEach (unplaced (map whole b.opened)) written bytes [] → (IsTrue written ↔ StrictlySpellsDatum s bytes d)
whole_judged s bytes d b written r last j =
    let i = tracks_run bytes (walk s [] d) [] (start bytes) b (tracks_start bytes) r.runs in
    let spelled = whole_read s bytes d b r last in
    let answer = (judged (unplaced (columns_of s d)) written bytes bytes [] [] (subst (λ cs. JudgesEach (unplaced cs) written bytes []) (whole_is s d bytes b i) j) spelled.columns
    (sym (append-nil bytes))).answer in (
      λ t. record { of_shape = spelled.of_shape; limited = spelled.limited; columns = answer.0 t },
      λ strict. answer.1 strict.columns,
    )
