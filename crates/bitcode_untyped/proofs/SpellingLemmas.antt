-- The pieces of columns: how many entries there are, and that what is written spells them.
use Rattle.std.proofs.Common.{◌≡◌, ℕ, ◌+◌, ◌*◌, ◌≤◌, inl, inr, List, [], ◌∷◌, ◌++◌, length, refl, ap, sym, ◌∙◌, arith, append_assoc, length-append}
use Rattle.std.specs.Prelude.{All}
use Rattle.std.proofs.lemmas.List.{append-nil}
use Rattle.std.proofs.lemmas.List.Sums.{sum_by-cons}
use Rattle.std.proofs.lemmas.List.Elements.{All-nil, All-cons}
use Rattle.std.proofs.lemmas.Bool.{cases_Bool}
use Rattle.bitcode_shapes.specs.Datum.{Datum}
use Rattle.bitcode_coder.specs.Columns.{Kind, bools, ints, floats, lengths, texts, raws, variants, IsEntryOf, IsSoundKind, entry_count_of}
use Rattle.bitcode_coder.specs.Spelling.{SpellsEach, texts_of, column_bytes, LengthsBelowLimitOf}
use Rattle.std.specs.List.{AllByRecursion}
use Rattle.bitcode_untyped.specs.Growing.{put}
use Rattle.bitcode_untyped.specs.PlacedColumns.{same_place, PlacedColumn, columns, unplaced, entry_count}
use Rattle.bitcode_untyped.specs.Walk.{Use}
use Rattle.bitcode_untyped.proofs.GrowingLemmas.{columns_snoc}
use Rattle.bitcode_untyped.proofs.SoundLemmas.{Spelled, sound}
use Rattle.bitcode_coder.proofs.ColumnLemmas.{SpellsColumn-size_bound, column_bytes-spells}

pub all_from_recursion : {A : Type 0} (P : A → Type 0) (xs : List A) → AllByRecursion P xs → All P xs
all_from_recursion P [] h = All-nil P
all_from_recursion P (x ∷ xs) h = All-cons P x xs h.0 (all_from_recursion P xs h.1)

-- ---- one piece for each column

pub each_from_spelled : (cs : List PlacedColumn) (bytes rest : List ℕ) → Spelled bytes cs rest
    → (piece : List ℕ) × (bytes ≡ piece ++ rest) × SpellsEach (unplaced cs) piece
each_from_spelled [] bytes rest s = ([], s, refl)
each_from_spelled (c ∷ cs) bytes rest s =
    let t = each_from_spelled cs s.1 rest s.4 in (
      s.0 ++ t.0,
      s.2 ∙ ap (λ x. s.0 ++ x) t.1 ∙ sym (append_assoc s.0 t.0 rest),
      record { front = s.0; back = t.0; whole = refl; first = s.3; second = t.2 },
    )

pub spelled_from_each : (cs : List PlacedColumn) (piece rest : List ℕ) → SpellsEach (unplaced cs) piece → Spelled (piece ++ rest) cs rest
spelled_from_each [] piece rest s = ap (λ x. x ++ rest) s
spelled_from_each (c ∷ cs) piece rest s =
    (s.front, s.back ++ rest, ap (λ x. x ++ rest) s.whole ∙ append_assoc s.front s.back rest, s.first, spelled_from_each cs s.back rest s.second)

-- ---- entries and bytes

abbrev pub count_entries : List PlacedColumn → ℕ
count_entries [] = 0
count_entries (c ∷ cs) = length c.entries + count_entries cs

pub count-le-entry_count_of : (k : Kind) (ds : List Datum) → length ds ≤ entry_count_of k ds
count-le-entry_count_of bools ds = omega arith
count-le-entry_count_of (ints w s) ds = omega arith
count-le-entry_count_of (floats format) ds = omega arith
count-le-entry_count_of (lengths limit) ds = omega arith
count-le-entry_count_of (texts limit) ds = omega arith
count-le-entry_count_of raws ds = omega arith
count-le-entry_count_of (variants n) ds = omega arith

pub count-le-entry_count : (cs : List PlacedColumn) → count_entries cs ≤ entry_count cs
count-le-entry_count [] = omega arith
count-le-entry_count (c ∷ cs) =
    let e = sum_by-cons (λ (x : PlacedColumn). entry_count_of x.kind x.entries) c cs in
    omega (arith, e, count-le-entry_count_of c.kind c.entries, count-le-entry_count cs)

pub count-put : (u : Use) (cs : List PlacedColumn) → count_entries (put u cs) ≡ count_entries cs + 1
count-put u [] = refl
count-put u (c ∷ cs) =
    elim (cases_Bool (same_place u.place c.place)) [
      | inl k ↦ rw k (omega (arith, length-append c.entries (u.entry ∷ [])))
      | inr k ↦ rw k (omega (arith, count-put u cs))
    ]

-- each use of a walk is an entry
pub count-columns : (v w : List Use) → count_entries (columns (w ++ v)) ≡ count_entries (columns w) + length v
count-columns [] w = ap (λ x. count_entries (columns x)) (append-nil w) ∙ omega arith
count-columns (u ∷ v) w =
    let step : count_entries (columns (w ++ u ∷ [])) ≡ count_entries (columns w) + 1 = ap count_entries (columns_snoc w u) ∙ count-put u (columns w) in
    let e : count_entries (columns (w ++ u ∷ v)) ≡ count_entries (columns (w ++ u ∷ [])) + length v =
    ap (λ x. count_entries (columns x)) (sym (append_assoc w (u ∷ []) v)) ∙ count-columns v (w ++ u ∷ []) in
    omega (arith, e, step)

pub size_bound : (cs : List PlacedColumn) (bytes : List ℕ) → AllByRecursion (λ (c : PlacedColumn). IsSoundKind c.kind) cs
    → SpellsEach (unplaced cs) bytes → entry_count cs ≤ 8 * length bytes
size_bound [] bytes sound s = omega arith
size_bound (c ∷ cs) bytes sound s =
    let e = sum_by-cons (λ (x : PlacedColumn). entry_count_of x.kind x.entries) c cs in
    let a = SpellsColumn-size_bound c.kind sound.0 s.front c.entries s.first in
    let b = size_bound cs s.back sound.1 s.second in
    let l : length bytes ≡ length s.front + length s.back = ap length s.whole ∙ length-append s.front s.back in
    omega (arith, e, a, b, l)

-- ---- what is written

pub texts_spell : (cs : List PlacedColumn) → AllByRecursion (λ (c : PlacedColumn). IsSoundKind c.kind) cs
    → AllByRecursion (λ (c : PlacedColumn). AllByRecursion (IsEntryOf c.kind) c.entries) cs
    → AllByRecursion (λ (c : PlacedColumn). LengthsBelowLimitOf c.kind c.entries) cs → SpellsEach (unplaced cs) (texts_of (unplaced cs))
texts_spell [] sound each below = refl
texts_spell (c ∷ cs) sound each below = record {
  front = column_bytes c.kind c.entries;
  back = texts_of (unplaced cs);
  whole = refl;
  first = column_bytes-spells c.kind sound.0 c.entries (all_from_recursion (IsEntryOf c.kind) c.entries each.0) below.0;
  second = texts_spell cs sound.1 each.1 below.1;
}
