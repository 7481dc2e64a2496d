-- The laws of columns in the words of their contracts.
use Rattle.std.proofs.Common.{◌≡◌, ◌+◌, List, [], ◌∷◌, ◌++◌, length, refl, sym, ◌∙◌, ap, ap₂, subst, length-append, arith}
use Rattle.bitcode_shapes.specs.Datum.{Datum}
use Rattle.bitcode_shapes.specs.Shape.{Shape, IsSound}
use Rattle.bitcode_coder.specs.Columns.{Kind, Column, Columns, no_columns, one, two, arrays, flat, beside, emptied, IsSoundKind}
use Rattle.bitcode_coder.specs.Transposition.{columns_of, spread}
use Rattle.bitcode_coder.specs.Spelling.{Spells, SpellsEach, column_bytes, columns_bytes, texts_of}
use Rattle.bitcode_coder.specs.Laws.{ReadsBackColumn, ColumnTakesAnEighth, ReadsBackData, DataTakeAnEighth, column_by_column, JoinsColumnByColumn, TreeIsList}
use Rattle.bitcode_coder.proofs.ColumnLemmas.{SpellsColumn-nothing, SpellsColumn-size_bound, column_bytes-spells}
use Rattle.bitcode_coder.proofs.TranspositionLemmas.{columns_of-append, columns_of-none, flat-columns_of, texts_of-flat, SpellsEach-flat}
use Rattle.bitcode_coder.proofs.SpellingLemmas.{Spells-nothing, Spells-size_bound, columns_bytes-spells}

pub column_read_back : (kind : Kind) → IsSoundKind kind → ReadsBackColumn kind
column_read_back kind sound entries rest each below =
    record { size = refl; piece = column_bytes kind entries; whole = refl; spelled = column_bytes-spells kind sound entries each below }

pub column_takes_an_eighth : (kind : Kind) → IsSoundKind kind → ColumnTakesAnEighth kind
column_takes_an_eighth kind sound = record {
  nothing = SpellsColumn-nothing kind sound;
  size_bound = SpellsColumn-size_bound kind sound;
}

pub texts_of-spread : (shape : Shape) (ds : List Datum) → columns_bytes (columns_of shape ds) ≡ texts_of (spread shape ds)
texts_of-spread shape ds = sym (texts_of-flat (columns_of shape ds)) ∙ ap texts_of (flat-columns_of shape ds)

pub data_read_back : (shape : Shape) → IsSound shape → ReadsBackData shape
data_read_back shape sound ds rest each counts below = record {
  size = refl;
  piece = texts_of (spread shape ds);
  whole = refl;
  spelled = subst (λ bytes. Spells shape bytes ds) (texts_of-spread shape ds) (columns_bytes-spells shape sound ds each counts below);
}

pub data_take_an_eighth : (shape : Shape) → IsSound shape → DataTakeAnEighth shape
data_take_an_eighth shape sound = record { nothing = Spells-nothing shape sound; size_bound = Spells-size_bound shape sound }

pub tree_is_list : (shape : Shape) (ds : List Datum) → TreeIsList shape ds
tree_is_list shape ds = record {
  columns = flat-columns_of shape ds;
  written = texts_of-spread shape ds;
  spelled = λ bytes. (
    λ s. subst (λ cs. SpellsEach cs bytes) (flat-columns_of shape ds) ((SpellsEach-flat (columns_of shape ds) bytes).1 s),
    λ s. (SpellsEach-flat (columns_of shape ds) bytes).0 (subst (λ cs. SpellsEach cs bytes) (sym (flat-columns_of shape ds)) s),
  );
}

-- ---- joined lists

column_by_column-append : (xs ys us vs : List Column) → length xs ≡ length ys
    → column_by_column (xs ++ us) (ys ++ vs) ≡ column_by_column xs ys ++ column_by_column us vs
column_by_column-append [] [] us vs same = refl
column_by_column-append [] (y ∷ ys) us vs same = absurd (omega arith)
column_by_column-append (x ∷ xs) [] us vs same = absurd (omega arith)
column_by_column-append (x ∷ xs) (y ∷ ys) us vs same =
    ap (λ l. record { kind = x.kind; entries = x.entries ++ y.entries } ∷ l) (column_by_column-append xs ys us vs (omega arith))

-- how many columns there are
width-emptied : (a : Columns) → length (flat (emptied a)) ≡ length (flat a)
width-emptied no_columns = refl
width-emptied (one kind entries) = refl
width-emptied (two first second) =
    length-append (flat (emptied first)) (flat (emptied second)) ∙ ap₂ (λ m n. m + n) (width-emptied first) (width-emptied second)
    ∙ sym (length-append (flat first) (flat second))
width-emptied (arrays size count elements) = width-emptied elements

flat-beside : (a b : Columns) → emptied a ≡ emptied b → flat (beside a b) ≡ column_by_column (flat a) (flat b)
flat-beside no_columns b same = refl
flat-beside (one kind entries) (one other more) same = refl
flat-beside (one kind entries) no_columns same = absurd cc
flat-beside (one kind entries) (two third fourth) same = absurd cc
flat-beside (one kind entries) (arrays size count elements) same = absurd cc
flat-beside (two first second) (two third fourth) same =
    let f : emptied first ≡ emptied third = cc in
    let s : emptied second ≡ emptied fourth = cc in
    let n : length (flat first) ≡ length (flat third) = sym (width-emptied first) ∙ ap (λ a. length (flat a)) f ∙ width-emptied third in
    ap₂ (λ x y. x ++ y) (flat-beside first third f) (flat-beside second fourth s)
    ∙ sym (column_by_column-append (flat first) (flat third) (flat second) (flat fourth) n)
flat-beside (two first second) no_columns same = absurd cc
flat-beside (two first second) (one other more) same = absurd cc
flat-beside (two first second) (arrays size count elements) same = absurd cc
flat-beside (arrays size count elements) (arrays other more others) same =
    let e : emptied elements ≡ emptied others = cc in flat-beside elements others e
flat-beside (arrays size count elements) no_columns same = absurd cc
flat-beside (arrays size count elements) (one other more) same = absurd cc
flat-beside (arrays size count elements) (two third fourth) same = absurd cc

pub joins_column_by_column : (shape : Shape) → JoinsColumnByColumn shape
joins_column_by_column shape ds es =
    sym (flat-columns_of shape (ds ++ es)) ∙ ap flat (columns_of-append shape ds es)
    ∙ flat-beside (columns_of shape ds) (columns_of shape es) (sym (columns_of-none shape ds) ∙ columns_of-none shape es)
    ∙ ap₂ column_by_column (flat-columns_of shape ds) (flat-columns_of shape es)
