-- The fields of rows, some of them or all.
use Rattle.std.proofs.Common.{◌≡◌, ◌<◌, ◌+◌, ◌/◌, ℕ, zero, suc, Option, Some, None, List, [], ◌∷◌, ◌++◌, length, take, drop, slice_get, get_or, All, refl, sym, ap, ap₂, ◌∙◌, arith, length-append}
use Rattle.std.proofs.Math.Seq.{take-append_seam, drop-append_seam, take-length}
use Rattle.std.proofs.lemmas.List.{drop-drop}
use Rattle.std.proofs.lemmas.List.Elements.{All-nil, All-cons}
use Rattle.bitcode_shapes.specs.Datum.{Datum, unit, pair}
use Rattle.bitcode_shapes.specs.Shape.{Shape}
use Rattle.bitcode_untyped.specs.declared.value.Value.{Value}
use Rattle.bitcode_schema.specs.Forms.{Content, changed, both, contents_each, fields_datum, fields_content}
use Rattle.bitcode_schema.specs.Parts.{row_content}
use Rattle.bitcode_schema.specs.Views.{Hold, under}
use Rattle.bitcode_schema.specs.Writing.{HasStranger}
use Rattle.bitcode_schema.proofs.HalfLemmas.{halved_pair}
use Rattle.bitcode_schema.proofs.HoldLemmas.{some_same}

-- one field
changed_itself : (o : Option Datum) → changed fields_datum (both (λ d ds. d ∷ ds) o (Some [])) ≡ o
changed_itself (Some d) = refl
changed_itself None = refl

pub one_field : (c : Content) (at : ℕ) (row : List Value) → under (slice_get row at) c ≡ row_content (c ∷ []) at row
one_field c zero [] = refl
one_field c (suc at) [] = refl
one_field c zero (v ∷ vs) = sym (changed_itself (c v))
one_field c (suc at) (v ∷ vs) = one_field c at vs

-- ---- the fields of two parts

abbrev both_lists : Option (List Datum) → Option (List Datum) → Option (List Datum)
both_lists = both (λ ds es. ds ++ es)

cons_both : (o : Option Datum) (p q : Option (List Datum)) → both (λ d ds. d ∷ ds) o (both_lists p q) ≡ both_lists (both (λ d ds. d ∷ ds) o p) q
cons_both (Some d) (Some ds) (Some es) = refl
cons_both (Some d) (Some ds) None = refl
cons_both (Some d) None q = refl
cons_both None p q = refl

none_both : (p : Option (List Datum)) → both_lists p None ≡ None
none_both (Some ds) = refl
none_both None = refl

none_first : (o : Option Datum) (p : Option (List Datum)) → p ≡ None → both (λ d ds. d ∷ ds) o p ≡ None
none_first (Some d) p e = ap (both (λ x xs. x ∷ xs) (Some d)) e
none_first None p e = refl

itself_both : (q : Option (List Datum)) → q ≡ both_lists (Some []) q
itself_both (Some es) = refl
itself_both None = refl

-- a row that is too short has no data
too_short : (cs : List Content) (row : List Value) → length row < length cs → contents_each cs row ≡ None
too_short [] row less = absurd (omega (arith, less))
too_short (c ∷ cs) [] less = refl
too_short (c ∷ cs) (v ∷ vs) less = none_first (c v) (contents_each cs vs) (too_short cs vs (let h : suc (length vs) < suc (length cs) = less in omega arith))

each_of_both : (front back : List Content) (row : List Value)
    → contents_each (front ++ back) (take (length (front ++ back)) row)
    ≡ both_lists (contents_each front (take (length front) row)) (contents_each back (take (length back) (drop (length front) row)))
each_of_both [] back row = itself_both (contents_each back (take (length back) row))
each_of_both (c ∷ front) back [] = refl
each_of_both (c ∷ front) back (v ∷ row) =
    ap (both (λ d ds. d ∷ ds) (c v)) (each_of_both front back row)
    ∙ cons_both (c v) (contents_each front (take (length front) row)) (contents_each back (take (length back) (drop (length front) row)))

-- as many data as fields
pub each_length : (cs : List Content) (row : List Value) (ds : List Datum) → contents_each cs row ≡ Some ds → (length ds ≡ length cs) × (length row ≡ length cs)
each_length [] [] ds e = (ap length (sym (some_same e)), refl)
each_length [] (v ∷ vs) ds e = cc
each_length (c ∷ cs) [] ds e = cc
each_length (c ∷ cs) (v ∷ vs) ds e = split (c v) (contents_each cs vs) refl refl (λ es f. each_length cs vs es f)
  where
    split : (o : Option Datum) (p : Option (List Datum)) → c v ≡ o → contents_each cs vs ≡ p
        → ((es : List Datum) → contents_each cs vs ≡ Some es → (length es ≡ length cs) × (length vs ≡ length cs)) → (length ds ≡ suc (length cs)) × (suc (length vs) ≡ suc (length cs))
    split (Some d) (Some es) x y each =
        let rest = each es y in
        let whole : d ∷ es ≡ ds = some_same (sym (ap₂ (both (λ x xs. x ∷ xs)) x y) ∙ e) in
        (ap length (sym whole) ∙ ap suc rest.0, ap suc rest.1)
    split (Some d) None x y each = let never : None ≡ Some ds = sym (ap₂ (both (λ x xs. x ∷ xs)) x y) ∙ e in cc
    split None p x y each = let never : None ≡ Some ds = sym (ap₂ (both (λ x xs. x ∷ xs)) x y) ∙ e in cc

halved_data : (front back : List Datum) → 1 < length (front ++ back) → length front ≡ length (front ++ back) / 2
    → fields_datum (front ++ back) ≡ pair (fields_datum front) (fields_datum back)
halved_data front back some half =
    halved_pair unit pair (front ++ back) some
    ∙ ap₂ (λ f b. pair (fields_datum f) (fields_datum b))
    (ap (λ n. take n (front ++ back)) (sym half) ∙ take-append_seam front back) (ap (λ n. drop n (front ++ back)) (sym half) ∙ drop-append_seam front back)

pair_of_both : (front back : List Content) (o p : Option (List Datum)) → 1 < length (front ++ back) → length front ≡ length (front ++ back) / 2
    → ((ds : List Datum) → o ≡ Some ds → length ds ≡ length front) → ((es : List Datum) → p ≡ Some es → length es ≡ length back)
    → changed fields_datum (both_lists o p) ≡ both pair (changed fields_datum o) (changed fields_datum p)
pair_of_both front back (Some ds) (Some es) some half first second =
    let size : length (ds ++ es) ≡ length (front ++ back) = omega (arith, length-append ds es, length-append front back, first ds refl, second es refl) in
    ap Some (halved_data ds es (omega (arith, size, some)) (first ds refl ∙ half ∙ ap (λ n. n / 2) (sym size)))
pair_of_both front back (Some ds) None some half first second = refl
pair_of_both front back None p some half first second = refl

-- the fields of a part are those of its first half and the rest
pub rows_pair : (front back : List Content) (at : ℕ) (row : List Value) → 1 < length (front ++ back) → length front ≡ length (front ++ back) / 2
    → both pair (row_content front at row) (row_content back (at + length front) row) ≡ row_content (front ++ back) at row
rows_pair front back at row some half =
    let here = drop at row in
    let o = contents_each front (take (length front) here) in
    let p = contents_each back (take (length back) (drop (length front) here)) in
    ap (λ r. both pair (changed fields_datum o) (fields_content back (take (length back) r))) (sym (drop-drop (length front) at row))
    ∙ sym (pair_of_both front back o p some half (λ ds e. (each_length front (take (length front) here) ds e).0)
    (λ es e. (each_length back (take (length back) (drop (length front) here)) es e).0))
    ∙ ap (changed fields_datum) (sym (each_of_both front back here))

-- ---- whole rows

pub whole_row : (cs : List Content) (row : List Value) → length row ≡ length cs → row_content cs 0 row ≡ fields_content cs row
whole_row cs row size = ap (fields_content cs) (ap (λ n. take n row) (sym size) ∙ take-length row)

pub whole_rows : (cs : List Content) (rows : List (List Value)) → All (λ row. length row ≡ length cs) rows
    → All (λ row. row_content cs 0 row ≡ fields_content cs row) rows
whole_rows cs rows sized k d lt = whole_row cs (get_or rows k d) (sized k d lt)

pub fields_size : (cs : List Content) (row : List Value) (d : Datum) → fields_content cs row ≡ Some d → length row ≡ length cs
fields_size cs row d e = split (contents_each cs row) refl
  where
    split : (o : Option (List Datum)) → contents_each cs row ≡ o → length row ≡ length cs
    split (Some ds) h = (each_length cs row ds h).1
    split None h = let never : None ≡ Some d = sym (ap (changed fields_datum) h) ∙ e in cc

sizes_held : (cs : List Content) (rows : List (List Value)) (ds : List Datum) → Hold (fields_content cs) rows ds → All (λ row. length row ≡ length cs) rows
sizes_held cs [] ds h = All-nil (λ row. length row ≡ length cs)
sizes_held cs (row ∷ rows) [] h = absurd h
sizes_held cs (row ∷ rows) (d ∷ ds) h =
    All-cons (λ r. length r ≡ length cs) row rows (fields_size cs row d h.0) (sizes_held cs rows ds h.1)

pub stranger_rows : (cs : List Content) (s : Shape) (rows : List (List Value)) → (All (λ row. length row ≡ length cs) rows → ⊥)
    → HasStranger (fields_content cs) s rows
stranger_rows cs s rows other ds are = other (sizes_held cs rows ds are.held)
