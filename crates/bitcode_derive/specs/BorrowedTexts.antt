-- Where the decoded texts are in the input.
use Rattle.std.specs.Prelude.{◌≡◌, ℕ, ◌+◌, Option, None, List, [], ◌∷◌, ◌++◌, length, map}
use Rattle.std.specs.List.{slice_range, sum_by, AllZip}
use Rattle.bitcode_shapes.specs.Datum.{Datum, text}
use Rattle.bitcode_shapes.specs.Shape.{Shape}
use Rattle.bitcode_coder.specs.Columns.{Column, texts}
use Rattle.bitcode_coder.specs.JoinedTexts.{join, lengths_of}
use Rattle.bitcode_coder.specs.LengthColumn.{SpellsLengths}
use Rattle.bitcode_coder.specs.Spelling.{SpellsColumn}
use Rattle.bitcode_coder.specs.Transposition.{spread}

-- the total size of the pieces in bytes
abbrev pub size_of : List (List ℕ) → ℕ
size_of pieces = sum_by (λ piece. length piece) pieces

-- The bytes are one piece for each column, in order, each spelling its column.
pub record IsCutIntoColumns (bytes : List ℕ) (columns : List Column) (pieces : List (List ℕ)) : Type 0 where
  pub whole : bytes ≡ join pieces
  pub spelled : AllZip (λ column piece. SpellsColumn column.kind piece column.entries) columns pieces

-- A column's own piece of the bytes: what follows the pieces of the columns before it. The columns have no other
-- pieces.
pub record OwnPiece (bytes : List ℕ) (before : List Column) (column : Column) (after : List Column) : Type 0 where
  pub earlier_pieces : List (List ℕ)
  pub piece : List ℕ
  pub later_pieces : List (List ℕ)
  pub cut : IsCutIntoColumns bytes (before ++ column ∷ after) (earlier_pieces ++ piece ∷ later_pieces)
  pub as_many : length earlier_pieces ≡ length before
  pub alone : (pieces : List (List ℕ)) → IsCutIntoColumns bytes (before ++ column ∷ after) pieces → pieces ≡ earlier_pieces ++ piece ∷ later_pieces

-- The texts of a column are in the column's own piece, after their lengths, one after another. Each begins where the
-- columns before it, the column's lengths and the texts before it end, and has as many bytes as its length.
pub record StandIn (bytes : List ℕ) (before after : List Column) (limit : Option ℕ) (entries : List Datum) : Type 0 where
  pub own : OwnPiece bytes before (record { kind = texts limit; entries = entries }) after
  pub all : List (List ℕ)
  pub are : entries ≡ map text all
  pub lengths_piece : List ℕ
  pub parts : own.piece ≡ lengths_piece ++ join all
  pub lengths_spelled : SpellsLengths limit lengths_piece (lengths_of all)
  pub each : (earlier later : List (List ℕ)) (one : List ℕ) → all ≡ earlier ++ one ∷ later
      → one ≡ slice_range bytes (size_of own.earlier_pieces + length lengths_piece + size_of earlier)
      (size_of own.earlier_pieces + length lengths_piece + size_of earlier + length one)

-- the same for each text column of the data
abbrev pub TextsStandIn : Shape → List ℕ → List Datum → Type 0
TextsStandIn shape bytes ds = (before after : List Column) (limit : Option ℕ) (entries : List Datum)
    → spread shape ds ≡ before ++ record { kind = texts limit; entries = entries } ∷ after → StandIn bytes before after limit entries

-- a single text is everything after its length
pub record IsBorrowedFrom (bytes t : List ℕ) : Type 0 where
  pub lengths_piece : List ℕ
  pub whole : bytes ≡ lengths_piece ++ t
  pub lengths_spelled : SpellsLengths None lengths_piece (length t ∷ [])
  pub stands : t ≡ slice_range bytes (length lengths_piece) (length bytes)
