-- The texts that were read stand in the input.
use Rattle.std.proofs.Common.{◌≡◌, ℕ, suc, ◌+◌, ◌-◌, None, Option, List, [], ◌∷◌, ◌++◌, length, take, drop, map, refl, sym, ◌∙◌, ap, ap₂, subst, arith, append_assoc, length-append}
use Rattle.std.specs.List.{slice_range, AllZip}
use Rattle.std.proofs.Math.Seq.{take-append_seam, drop-append_seam}
use Rattle.std.proofs.lemmas.List.{append-nil, append_cancel_right}
use Rattle.std.proofs.lemmas.List.Concat.{flat_map-append, length-flat_map}
use Rattle.bitcode_shapes.specs.Datum.{Datum, text, text_in}
use Rattle.bitcode_shapes.specs.Shape.{Shape, text_shape}
use Rattle.bitcode_coder.specs.Columns.{Column, texts}
use Rattle.bitcode_coder.specs.JoinedTexts.{join, lengths_of}
use Rattle.bitcode_coder.specs.LengthColumn.{SpellsLengths}
use Rattle.bitcode_coder.specs.Spelling.{Spells, SpellsColumn, SpellsEach}
use Rattle.bitcode_coder.specs.Transposition.{spread}
use Rattle.bitcode_coder.proofs.ColumnLemmas.{SpellsColumn-unambiguous}
use Rattle.bitcode_coder.proofs.LawLemmas.{tree_is_list}
use Rattle.bitcode_coder.proofs.StrLemmas.{texts_in}
use Rattle.bitcode_derive.specs.BorrowedTexts.{size_of, IsCutIntoColumns, StandIn, TextsStandIn, IsBorrowedFrom}

-- what stands between two parts
between : (bytes front piece back : List ℕ) (from : ℕ) → bytes ≡ front ++ (piece ++ back) → length front ≡ from → piece ≡ slice_range bytes from (from + length piece)
between bytes front piece back from whole starts =
    let behind : drop from bytes ≡ piece ++ back =
    ap (λ n. drop n bytes) (sym starts) ∙ (ap (drop (length front)) whole ∙ drop-append_seam front (piece ++ back)) in
    let size : from + length piece - from ≡ length piece = omega arith in
    sym (ap₂ take size behind ∙ take-append_seam piece back)

-- ---- the pieces of the columns

pieces_of : (columns : List Column) (bytes : List ℕ) → SpellsEach columns bytes
    → (pieces : List (List ℕ)) × IsCutIntoColumns bytes columns pieces
pieces_of [] bytes s = ([], record { whole = s; spelled = tt })
pieces_of (c ∷ columns) bytes s =
    let later = pieces_of columns s.back s.second in
    (s.front ∷ later.0, record { whole = s.whole ∙ ap (λ back. s.front ++ back) later.1.whole; spelled = (s.first, later.1.spelled) })

-- the same bytes are cut in one way
cut_alone : (columns : List Column) (bytes : List ℕ) (pieces others : List (List ℕ))
    → IsCutIntoColumns bytes columns pieces → IsCutIntoColumns bytes columns others → pieces ≡ others
cut_alone [] bytes [] [] cut other = refl
cut_alone [] bytes (p ∷ pieces) others cut other = absurd cut.spelled
cut_alone [] bytes [] (q ∷ others) cut other = absurd other.spelled
cut_alone (c ∷ columns) bytes [] others cut other = absurd cut.spelled
cut_alone (c ∷ columns) bytes (p ∷ pieces) [] cut other = absurd other.spelled
cut_alone (c ∷ columns) bytes (p ∷ pieces) (q ∷ others) cut other =
    let seam : p ++ join pieces ≡ q ++ join others = sym cut.whole ∙ other.whole in
    let behind : join pieces ≡ join others =
    ((SpellsColumn-unambiguous c.kind).unambiguous p q c.entries c.entries (join pieces) (join others) cut.spelled.0 other.spelled.0 refl seam).1 in
    let first : p ≡ q = append_cancel_right p q (join others) (ap (λ back. p ++ back) (sym behind) ∙ seam) in
    let more : pieces ≡ others =
    cut_alone columns (join pieces) pieces others (record { whole = refl; spelled = cut.spelled.1 }) (record { whole = behind; spelled = other.spelled.1 }) in
    ap₂ (λ piece rest. piece ∷ rest) first more

-- as many pieces in front as there are columns in front
record PiecesApart (before after : List Column) (column : Column) (pieces : List (List ℕ)) : Type 0 where
  front : List (List ℕ)
  piece : List ℕ
  back : List (List ℕ)
  are : pieces ≡ front ++ piece ∷ back
  as_many : length front ≡ length before
  spelled : SpellsColumn column.kind piece column.entries

pieces_apart : (before after : List Column) (column : Column) (pieces : List (List ℕ))
    → AllZip (λ c piece. SpellsColumn c.kind piece c.entries) (before ++ column ∷ after) pieces → PiecesApart before after column pieces
pieces_apart [] after column [] each = absurd each
pieces_apart [] after column (p ∷ pieces) each = record { front = []; piece = p; back = pieces; are = refl; as_many = refl; spelled = each.0 }
pieces_apart (c ∷ before) after column [] each = absurd each
pieces_apart (c ∷ before) after column (p ∷ pieces) each =
    let inner = pieces_apart before after column pieces each.1 in
    record {
      front = p ∷ inner.front;
      piece = inner.piece;
      back = inner.back;
      are = ap (λ rest. p ∷ rest) inner.are;
      as_many = ap suc inner.as_many;
      spelled = inner.spelled;
    }

-- ---- the texts of a column

stand_in : (before after : List Column) (limit : Option ℕ) (entries : List Datum) (bytes : List ℕ)
    → SpellsEach (before ++ record { kind = texts limit; entries = entries } ∷ after) bytes → StandIn bytes before after limit entries
stand_in before after limit entries bytes spelled_each =
    let column : Column = record { kind = texts limit; entries = entries } in
    let pieces = pieces_of (before ++ column ∷ after) bytes spelled_each in
    let place = pieces_apart before after column pieces.0 pieces.1.spelled in
    let cut : IsCutIntoColumns bytes (before ++ column ∷ after) (place.front ++ place.piece ∷ place.back) =
    subst (IsCutIntoColumns bytes (before ++ column ∷ after)) place.are pieces.1 in
    let all = place.spelled.entries in
    let spelled = place.spelled.spelled in
    let lengths_piece = spelled.lengths_piece in
    let front = join place.front in
    let back = join place.back in
    let whole : bytes ≡ front ++ (lengths_piece ++ (join all ++ back)) =
    cut.whole ∙ (flat_map-append (λ piece. piece) place.front (place.piece ∷ place.back)
    ∙ ap (λ more. front ++ more) (ap (λ piece. piece ++ back) spelled.whole ∙ append_assoc lengths_piece (join all) back)) in
    record {
      own = record {
        earlier_pieces = place.front;
        piece = place.piece;
        later_pieces = place.back;
        cut = cut;
        as_many = place.as_many;
        alone = λ others other. cut_alone (before ++ column ∷ after) bytes others (place.front ++ place.piece ∷ place.back) other cut;
      };
      all = all;
      are = place.spelled.are;
      lengths_piece = lengths_piece;
      parts = spelled.whole;
      lengths_spelled = spelled.lengths_spelled;
      each = λ earlier later one is.
          let parts : join all ≡ join earlier ++ (one ++ join later) = ap join is ∙ flat_map-append (λ t. t) earlier (one ∷ later) in
          let sizes : length front + length lengths_piece + length (join earlier) ≡ size_of place.front + length lengths_piece + size_of earlier =
          ap₂ (λ m n. m + length lengths_piece + n) (length-flat_map (λ piece. piece) place.front) (length-flat_map (λ piece. piece) earlier) in
          between bytes (front ++ (lengths_piece ++ join earlier)) one (join later ++ back)
          (size_of place.front + length lengths_piece + size_of earlier)
          (whole ∙ (ap (λ more. front ++ (lengths_piece ++ (more ++ back))) parts ∙ simp append_assoc))
          (length-append front (lengths_piece ++ join earlier) ∙ ap (λ n. length front + n) (length-append lengths_piece (join earlier))
          ∙ omega arith ∙ sizes);
    }

pub texts_stand_in : (shape : Shape) (bytes : List ℕ) (ds : List Datum) → Spells shape bytes ds → TextsStandIn shape bytes ds
texts_stand_in shape bytes ds spelled before after limit entries among =
    let columns : SpellsEach (spread shape ds) bytes = ((tree_is_list shape ds).spelled bytes).0 spelled.columns in
    stand_in before after limit entries bytes (subst (λ cs. SpellsEach cs bytes) among columns)

pub borrowed_from : (bytes t : List ℕ) (d : Datum) → Spells (text_shape None) bytes (d ∷ []) → d ≡ text t → IsBorrowedFrom bytes t
borrowed_from bytes t d spelled made =
    let column = spelled.columns in
    let lengths_piece = column.spelled.lengths_piece in
    let one : column.entries ≡ t ∷ [] = sym (texts_in column.entries) ∙ (ap (map text_in) (sym column.are) ∙ ap (λ e. text_in e ∷ []) made) in
    let whole : bytes ≡ lengths_piece ++ t = column.spelled.whole ∙ ap (λ all. lengths_piece ++ join all) one ∙ ap (λ t. lengths_piece ++ t) (append-nil t) in
    let size : length lengths_piece + length t ≡ length bytes = omega (arith, ap length whole, length-append lengths_piece t) in
    record {
      lengths_piece = lengths_piece;
      whole = whole;
      lengths_spelled = subst (λ all. SpellsLengths None lengths_piece (lengths_of all)) one column.spelled.lengths_spelled;
      stands = between bytes lengths_piece t [] (length lengths_piece) (whole ∙ ap (λ t. lengths_piece ++ t) (sym (append-nil t))) refl
          ∙ ap (slice_range bytes (length lengths_piece)) size;
    }
