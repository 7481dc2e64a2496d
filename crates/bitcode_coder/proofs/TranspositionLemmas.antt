-- The columns of data: joined lists, the list of columns, limits left out.
use Rattle.std.proofs.Common.{◌≡◌, ℕ, zero, suc, ◌+◌, List, [], ◌∷◌, ◌++◌, map, filter, length, None, ◌==◌, refl, sym, ◌∙◌, ap, ap₂, subst, add_assoc, append_assoc, append-nil, length-append}
use Rattle.std.specs.Prelude.{◌↔◌}
use Rattle.std.proofs.lemmas.List.{map-append}
use Rattle.std.proofs.lemmas.List.Elements.{filter-append}
use Rattle.std.proofs.lemmas.Grind.{flat_map-append}
use Rattle.bitcode_shapes.specs.Datum.{Datum, elements_in, first_in, second_in, payload_in, variant_in}
use Rattle.bitcode_shapes.specs.Shape.{Shape, Shapes, unit_shape, never_shape, bool_shape, number_shape, float_shape, text_shape, raw_shape, seq_shape, map_shape, array_shape, pair_shape, choice_shape, admitted_shape, no_shapes, shape_and, variant_count}
use Rattle.bitcode_coder.specs.Columns.{Kind, Column, Columns, bools, ints, floats, lengths, texts, raws, variants, no_columns, one, two, arrays, flat, beside, plain, plain_kind, emptied, CountsFit}
use Rattle.bitcode_coder.specs.Transposition.{columns_of, payload_columns, spread, payload_spread, length_entry, variant_entry, joined, payloads, array_columns, column}
use Rattle.bitcode_coder.specs.Spelling.{SpellsColumns, SpellsEach, IsSplit, SpellsColumn, columns_bytes, texts_of, column_bytes}

joined-append : (ds es : List Datum) → joined (ds ++ es) ≡ joined ds ++ joined es
joined-append ds es = flat_map-append elements_in ds es

joined_map-append : (f : Datum → Datum) (ds es : List Datum) → map f (joined (ds ++ es)) ≡ map f (joined ds) ++ map f (joined es)
joined_map-append f ds es = ap (λ l. map f l) (joined-append ds es) ∙ map-append f (joined ds) (joined es)

payloads-append : (index : ℕ) (ds es : List Datum) → payloads index (ds ++ es) ≡ payloads index ds ++ payloads index es
payloads-append index ds es =
    ap (λ l. map payload_in l) (filter-append (λ d. variant_in d == index) ds es)
    ∙ map-append payload_in (filter (λ d. variant_in d == index) ds) (filter (λ d. variant_in d == index) es)

one-append : (kind : Kind) (f : Datum → Datum) (ds es : List Datum) → one kind (map f (ds ++ es)) ≡ one kind (map f ds ++ map f es)
one-append kind f ds es = ap (one kind) (map-append f ds es)

array_columns-beside : (size count more : ℕ) (a b : Columns) → array_columns size (count + more) (beside a b) ≡ beside (array_columns size count a) (array_columns size more b)
array_columns-beside zero count more a b = refl
array_columns-beside (suc size) count more a b = refl

mutual
  -- the columns of joined lists are the lists' columns joined, column by column
  pub columns_of-append : (shape : Shape) (ds es : List Datum) → columns_of shape (ds ++ es) ≡ beside (columns_of shape ds) (columns_of shape es)
  columns_of-append unit_shape ds es = refl
  columns_of-append never_shape ds es = refl
  columns_of-append bool_shape ds es = refl
  columns_of-append (number_shape width signed allowed) ds es = refl
  columns_of-append (float_shape format) ds es = refl
  columns_of-append (text_shape limit) ds es = refl
  columns_of-append raw_shape ds es = refl
  columns_of-append (seq_shape limit element) ds es =
      ap₂ two (one-append (lengths limit) length_entry ds es)
      (ap (columns_of element) (joined-append ds es) ∙ columns_of-append element (joined ds) (joined es))
  columns_of-append (map_shape key value) ds es =
      ap₂ two (one-append (lengths None) length_entry ds es)
      (ap₂ two (ap (columns_of key) (joined_map-append first_in ds es) ∙ columns_of-append key (map first_in (joined ds)) (map first_in (joined es)))
      (ap (columns_of value) (joined_map-append second_in ds es) ∙ columns_of-append value (map second_in (joined ds)) (map second_in (joined es))))
  columns_of-append (array_shape size element) ds es =
      ap₂ (array_columns size) (length-append ds es) (ap (columns_of element) (joined-append ds es) ∙ columns_of-append element (joined ds) (joined es))
      ∙ array_columns-beside size (length ds) (length es) (columns_of element (joined ds)) (columns_of element (joined es))
  columns_of-append (pair_shape first second) ds es =
      ap₂ two (ap (columns_of first) (map-append first_in ds es) ∙ columns_of-append first (map first_in ds) (map first_in es))
      (ap (columns_of second) (map-append second_in ds es) ∙ columns_of-append second (map second_in ds) (map second_in es))
  columns_of-append (choice_shape choices) ds es =
      ap₂ two (one-append (variants (variant_count choices)) variant_entry ds es) (payload_columns-append choices 0 ds es)
  columns_of-append (admitted_shape admits shape) ds es = columns_of-append shape ds es

  payload_columns-append : (shapes : Shapes) (index : ℕ) (ds es : List Datum)
      → payload_columns shapes index (ds ++ es) ≡ beside (payload_columns shapes index ds) (payload_columns shapes index es)
  payload_columns-append no_shapes index ds es = refl
  payload_columns-append (shape_and s ss) index ds es =
      ap₂ two (ap (columns_of s) (payloads-append index ds es) ∙ columns_of-append s (payloads index ds) (payloads index es))
      (payload_columns-append ss (suc index) ds es)

pub beside_assoc : (a b c : Columns) → beside (beside a b) c ≡ beside a (beside b c)
beside_assoc (one kind entries) (one _ more) (one _ last) = ap (one kind) (append_assoc entries more last)
beside_assoc (one _ _) (two _ _) (two _ _) = refl
beside_assoc (one _ _) (arrays _ _ _) (two _ _) = refl
beside_assoc (two a b) (two c d) (two e f) = ap₂ two (beside_assoc a c e) (beside_assoc b d f)
beside_assoc (two _ _) (one _ _) (one _ _) = refl
beside_assoc (two _ _) (arrays _ _ _) (one _ _) = refl
beside_assoc (arrays size l a) (arrays _ m b) (arrays _ n c) = ap₂ (arrays size) (add_assoc l m n) (beside_assoc a b c)
beside_assoc (arrays _ _ _) (one _ _) (one _ _) = refl
beside_assoc (arrays _ _ _) (two _ _) (two _ _) = refl
beside_assoc _ _ _ = refl

array_columns-none : (size count : ℕ) (a b : Columns) → a ≡ emptied b → array_columns size 0 a ≡ emptied (array_columns size count b)
array_columns-none zero count a b e = e
array_columns-none (suc size) count a b e = ap (arrays (suc size) 0) e

mutual
  pub columns_of-none : (shape : Shape) (ds : List Datum) → columns_of shape [] ≡ emptied (columns_of shape ds)
  columns_of-none unit_shape ds = refl
  columns_of-none never_shape ds = refl
  columns_of-none bool_shape ds = refl
  columns_of-none (number_shape width signed allowed) ds = refl
  columns_of-none (float_shape format) ds = refl
  columns_of-none (text_shape limit) ds = refl
  columns_of-none raw_shape ds = refl
  columns_of-none (seq_shape limit element) ds = ap (two (one (lengths limit) [])) (columns_of-none element (joined ds))
  columns_of-none (map_shape key value) ds =
      ap (two (one (lengths None) []))
      (ap₂ two (columns_of-none key (map first_in (joined ds))) (columns_of-none value (map second_in (joined ds))))
  columns_of-none (array_shape size element) ds =
      array_columns-none size (length ds) (columns_of element []) (columns_of element (joined ds)) (columns_of-none element (joined ds))
  columns_of-none (pair_shape first second) ds = ap₂ two (columns_of-none first (map first_in ds)) (columns_of-none second (map second_in ds))
  columns_of-none (choice_shape choices) ds = ap (two (one (variants (variant_count choices)) [])) (payload_columns-none choices 0 ds)
  columns_of-none (admitted_shape admits shape) ds = columns_of-none shape ds

  payload_columns-none : (shapes : Shapes) (index : ℕ) (ds : List Datum) → payload_columns shapes index [] ≡ emptied (payload_columns shapes index ds)
  payload_columns-none no_shapes index ds = refl
  payload_columns-none (shape_and s ss) index ds = ap₂ two (columns_of-none s (payloads index ds)) (payload_columns-none ss (suc index) ds)

pub plain-beside : (a b : Columns) → plain (beside a b) ≡ beside (plain a) (plain b)
plain-beside (one kind entries) (one _ more) = refl
plain-beside (two a b) (two c d) = ap₂ two (plain-beside a c) (plain-beside b d)
plain-beside (arrays size m a) (arrays _ n b) = ap (arrays size (m + n)) (plain-beside a b)
plain-beside _ _ = refl

pub plain-emptied : (a : Columns) → plain (emptied a) ≡ emptied (plain a)
plain-emptied no_columns = refl
plain-emptied (one kind entries) = refl
plain-emptied (two first second) = ap₂ two (plain-emptied first) (plain-emptied second)
plain-emptied (arrays size count elements) = ap (arrays size 0) (plain-emptied elements)

pub CountsFit-plain : (a : Columns) → CountsFit (plain a) ↔ CountsFit a
CountsFit-plain no_columns = (λ h. h, λ h. h)
CountsFit-plain (one kind entries) = (λ h. h, λ h. h)
CountsFit-plain (two first second) = (
  λ h. ((CountsFit-plain first).0 h.0, (CountsFit-plain second).0 h.1),
  λ h. ((CountsFit-plain first).1 h.0, (CountsFit-plain second).1 h.1),
)
CountsFit-plain (arrays size count elements) = (λ h. (h.0, (CountsFit-plain elements).0 h.1), λ h. (h.0, (CountsFit-plain elements).1 h.1))

column_bytes-plain : (kind : Kind) (entries : List Datum) → column_bytes (plain_kind kind) entries ≡ column_bytes kind entries
column_bytes-plain bools entries = refl
column_bytes-plain (ints width signed) entries = refl
column_bytes-plain (floats format) entries = refl
column_bytes-plain (lengths limit) entries = refl
column_bytes-plain (texts limit) entries = refl
column_bytes-plain raws entries = refl
column_bytes-plain (variants count) entries = refl

pub columns_bytes-plain : (a : Columns) → columns_bytes (plain a) ≡ columns_bytes a
columns_bytes-plain no_columns = refl
columns_bytes-plain (one kind entries) = column_bytes-plain kind entries
columns_bytes-plain (two first second) = ap₂ (λ x y. x ++ y) (columns_bytes-plain first) (columns_bytes-plain second)
columns_bytes-plain (arrays size count elements) = columns_bytes-plain elements

flat-array_columns : (size count : ℕ) (a : Columns) → flat (array_columns size count a) ≡ flat a
flat-array_columns zero count a = refl
flat-array_columns (suc size) count a = refl

mutual
  -- the tree of columns and their list are one
  pub flat-columns_of : (shape : Shape) (ds : List Datum) → flat (columns_of shape ds) ≡ spread shape ds
  flat-columns_of unit_shape ds = refl
  flat-columns_of never_shape ds = refl
  flat-columns_of bool_shape ds = refl
  flat-columns_of (number_shape width signed allowed) ds = refl
  flat-columns_of (float_shape format) ds = refl
  flat-columns_of (text_shape limit) ds = refl
  flat-columns_of raw_shape ds = refl
  flat-columns_of (seq_shape limit element) ds = ap (λ l. column (lengths limit) (map length_entry ds) ++ l) (flat-columns_of element (joined ds))
  flat-columns_of (map_shape key value) ds =
      ap (λ l. column (lengths None) (map length_entry ds) ++ l)
      (ap₂ (λ k l. k ++ l) (flat-columns_of key (map first_in (joined ds))) (flat-columns_of value (map second_in (joined ds))))
  flat-columns_of (array_shape size element) ds =
      flat-array_columns size (length ds) (columns_of element (joined ds)) ∙ flat-columns_of element (joined ds)
  flat-columns_of (pair_shape first second) ds =
      ap₂ (λ k l. k ++ l) (flat-columns_of first (map first_in ds)) (flat-columns_of second (map second_in ds))
  flat-columns_of (choice_shape choices) ds =
      ap (λ l. column (variants (variant_count choices)) (map variant_entry ds) ++ l) (flat-payload_columns choices 0 ds)
  flat-columns_of (admitted_shape admits shape) ds = flat-columns_of shape ds

  flat-payload_columns : (shapes : Shapes) (index : ℕ) (ds : List Datum) → flat (payload_columns shapes index ds) ≡ payload_spread shapes index ds
  flat-payload_columns no_shapes index ds = refl
  flat-payload_columns (shape_and s ss) index ds =
      ap₂ (λ k l. k ++ l) (flat-columns_of s (payloads index ds)) (flat-payload_columns ss (suc index) ds)

texts_of-append : (xs ys : List Column) → texts_of (xs ++ ys) ≡ texts_of xs ++ texts_of ys
texts_of-append [] ys = refl
texts_of-append (x ∷ xs) ys =
    ap (λ l. column_bytes x.kind x.entries ++ l) (texts_of-append xs ys)
    ∙ sym (append_assoc (column_bytes x.kind x.entries) (texts_of xs) (texts_of ys))

pub texts_of-flat : (a : Columns) → texts_of (flat a) ≡ columns_bytes a
texts_of-flat no_columns = refl
texts_of-flat (one kind entries) = append-nil (column_bytes kind entries)
texts_of-flat (two first second) = texts_of-append (flat first) (flat second) ∙ ap₂ (λ x y. x ++ y) (texts_of-flat first) (texts_of-flat second)
texts_of-flat (arrays size count elements) = texts_of-flat elements

SpellsEach_split : (xs ys : List Column) (bytes : List ℕ) → SpellsEach (xs ++ ys) bytes → IsSplit (SpellsEach xs) (SpellsEach ys) bytes
SpellsEach_split [] ys bytes s = record { front = []; back = bytes; whole = refl; first = refl; second = s }
SpellsEach_split (x ∷ xs) ys bytes s =
    let t : IsSplit (SpellsEach xs) (SpellsEach ys) s.back = SpellsEach_split xs ys s.back s.second in
    record {
      front = s.front ++ t.front;
      back = t.back;
      whole = s.whole ∙ ap (λ l. s.front ++ l) t.whole ∙ sym (append_assoc s.front t.front t.back);
      first = record { front = s.front; back = t.front; whole = refl; first = s.first; second = t.first };
      second = t.second;
    }

SpellsEach-append : (xs ys : List Column) (bytes : List ℕ) → IsSplit (SpellsEach xs) (SpellsEach ys) bytes → SpellsEach (xs ++ ys) bytes
SpellsEach-append [] ys bytes s = subst (SpellsEach ys) (sym (s.whole ∙ ap (λ l. l ++ s.back) s.first)) s.second
SpellsEach-append (x ∷ xs) ys bytes s = record {
  front = s.first.front;
  back = s.first.back ++ s.back;
  whole = s.whole ∙ ap (λ l. l ++ s.back) s.first.whole ∙ append_assoc s.first.front s.first.back s.back;
  first = s.first.first;
  second = SpellsEach-append xs ys (s.first.back ++ s.back)
      (record { front = s.first.back; back = s.back; whole = refl; first = s.first.second; second = s.second });
}

pub SpellsEach-flat : (a : Columns) (bytes : List ℕ) → SpellsEach (flat a) bytes ↔ SpellsColumns a bytes
SpellsEach-flat no_columns bytes = (λ s. s, λ s. s)
SpellsEach-flat (one kind entries) bytes = (
  λ s. subst (λ l. SpellsColumn kind l entries) (sym (s.whole ∙ ap (λ l. s.front ++ l) s.second ∙ append-nil s.front)) s.first,
  λ s. record { front = bytes; back = []; whole = sym (append-nil bytes); first = s; second = refl },
)
SpellsEach-flat (two first second) bytes = (
  λ s.
      let t : IsSplit (SpellsEach (flat first)) (SpellsEach (flat second)) bytes = SpellsEach_split (flat first) (flat second) bytes s in
      record {
        front = t.front;
        back = t.back;
        whole = t.whole;
        first = (SpellsEach-flat first t.front).0 t.first;
        second = (SpellsEach-flat second t.back).0 t.second;
      },
  λ s.
      SpellsEach-append (flat first) (flat second) bytes
      (record {
        front = s.front;
        back = s.back;
        whole = s.whole;
        first = (SpellsEach-flat first s.front).1 s.first;
        second = (SpellsEach-flat second s.back).1 s.second;
      }),
)
SpellsEach-flat (arrays size count elements) bytes = SpellsEach-flat elements bytes
