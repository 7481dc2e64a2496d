-- The columns of a walk: one for each place that is used, in the order of the first uses.
use Rattle.std.specs.Prelude.{ℕ, List, [], ◌∷◌, filter, map, Bool, true, false, ◌&&◌, not, ◌==◌, if◌then◌else◌, sum_by}
use Rattle.bitcode_shapes.specs.Datum.{Datum}
use Rattle.bitcode_coder.specs.Columns.{Kind, Column, entry_count_of}
use Rattle.bitcode_untyped.specs.ShapeTree.{ShapeTree}
use Rattle.bitcode_untyped.specs.Walk.{Step, element, key, value, variant, field, Place, Use, walk}

abbrev pub same_step : Step → Step → Bool
same_step element element = true
same_step key key = true
same_step value value = true
same_step (variant i) (variant j) = i == j
same_step (field i) (field j) = i == j
same_step _ _ = false

abbrev pub same_place : Place → Place → Bool
same_place [] [] = true
same_place (s ∷ p) (t ∷ q) = same_step s t && same_place p q
same_place _ _ = false

-- all entries of a place
abbrev pub entries_at : Place → List Use → List Datum
entries_at p [] = []
entries_at p (u ∷ us) = if same_place p u.place then u.entry ∷ entries_at p us else entries_at p us

pub record PlacedColumn : Type 0 where
  pub place : Place
  pub kind : Kind
  pub entries : List Datum

abbrev pub without : Place → List PlacedColumn → List PlacedColumn
without p cs = filter (λ c. not (same_place p c.place)) cs

-- The place of the first use has the first column, with all entries of that place. The other columns follow.
abbrev pub columns : List Use → List PlacedColumn
columns [] = []
columns (u ∷ us) = record { place = u.place; kind = u.kind; entries = u.entry ∷ entries_at u.place us } ∷ without u.place (columns us)

-- the columns of a datum
abbrev pub columns_of : ShapeTree → Datum → List PlacedColumn
columns_of s d = columns (walk s [] d)

-- ---- columns, wherever they stand

abbrev pub column_at : PlacedColumn → Column
column_at c = record { kind = c.kind; entries = c.entries }

abbrev pub unplaced : List PlacedColumn → List Column
unplaced = map column_at

-- how many entries there are; a text counts once, and once for each of its bytes
abbrev pub entry_count : List PlacedColumn → ℕ
entry_count = sum_by (λ c. entry_count_of c.kind c.entries)
