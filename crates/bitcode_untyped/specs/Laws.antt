-- What holds of the columns of data of a shape, and of the bytes that spell them.
use Rattle.std.specs.Prelude.{◌≡◌, ℕ, ◌*◌, ◌≤◌, List, [], ◌∷◌, ◌++◌, take, drop, length, map}
use Rattle.std.specs.List.{AllByRecursion}
use Rattle.bitcode_shapes.specs.Datum.{Datum}
use Rattle.bitcode_coder.specs.Spelling.{LengthsBelowLimitOf}
use Rattle.bitcode_untyped.specs.ShapeTree.{ShapeTree, IsOf}
use Rattle.bitcode_untyped.specs.Walk.{Place}
use Rattle.bitcode_untyped.specs.PlacedColumns.{PlacedColumn, columns_of, entry_count}
use Rattle.bitcode_untyped.specs.Bounds.{element_count, IsLimited}
use Rattle.bitcode_untyped.specs.Spelling.{SpellsDatum, datum_text}

-- ---- the columns so far decide the next one

-- a column without its kind
abbrev pub bare : PlacedColumn → Place × List Datum
bare c = (c.place, c.entries)

-- Either there are no more columns, and P, or the next columns agree in place, kind and count.
abbrev pub NextAgree : List PlacedColumn → List PlacedColumn → Type 0 → Type 0
NextAgree [] [] P = P
NextAgree (c ∷ cs) (d ∷ ds) P = (c.place ≡ d.place) × (c.kind ≡ d.kind) × (length c.entries ≡ length d.entries)
NextAgree _ _ P = ⊥

-- Where the first j columns of two data agree in place and entries, either neither has a further one and the data are
-- the same, or their next columns agree in place, kind and count.
abbrev pub ColumnsDecide : ShapeTree → Type 0
ColumnsDecide s = (d e : Datum) (j : ℕ) → IsOf s d → IsOf s e
    → map bare (take j (columns_of s d)) ≡ map bare (take j (columns_of s e))
    → NextAgree (drop j (columns_of s d)) (drop j (columns_of s e)) (d ≡ e)

-- ---- read

-- An input is read in at most one way: it has one datum of a shape at its front, and one rest.
abbrev pub SpellsOnce : ShapeTree → Type 0
SpellsOnce s = (piece other rest left : List ℕ) (d e : Datum) → SpellsDatum s piece d → SpellsDatum s other e
    → piece ++ rest ≡ other ++ left → (d ≡ e) × (rest ≡ left)

-- The entries of all columns together are at most eight times the bytes.
abbrev pub DatumTakesAnEighth : ShapeTree → Type 0
DatumTakesAnEighth s = (bytes : List ℕ) (d : Datum) → SpellsDatum s bytes d → entry_count (columns_of s d) ≤ 8 * length bytes

-- Elements and pairs are at most 65537 an entry, those without a column too, and so at most 524296 a byte.
pub record ElementsAreBounded (s : ShapeTree) : Type 0 where
  pub by_entries : (d : Datum) → IsOf s d → IsLimited s d → element_count d ≤ 65537 * entry_count (columns_of s d)
  pub by_bytes : (bytes : List ℕ) (d : Datum) → SpellsDatum s bytes d → element_count d ≤ 524296 * length bytes

-- ---- written

-- each column of lengths, those of texts too, sums below the limit
abbrev pub LengthsBelowLimit : ShapeTree → Datum → Type 0
LengthsBelowLimit s d = AllByRecursion (λ (c : PlacedColumn). LengthsBelowLimitOf c.kind c.entries) (columns_of s d)

-- What is written for a datum spells it.
abbrev pub ReadsBackDatum : ShapeTree → Type 0
ReadsBackDatum s = (d : Datum) → IsOf s d → IsLimited s d → LengthsBelowLimit s d → SpellsDatum s (datum_text s d) d
