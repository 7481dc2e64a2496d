-- Lists are written as their lengths and then the elements of all of them.
use Rattle.std.proofs.Common.{◌≡◌, ℕ, Option, List, [], ◌∷◌, ◌++◌, length, map, refl, sym, ap, ap₂, subst, ◌∙◌, append_assoc, All}
use Rattle.std.specs.List.{flat_map}
use Rattle.std.proofs.lemmas.List.Elements.{All-nil, All-cons, All-head, All-tail}
use Rattle.bitcode_shapes.specs.Datum.{Datum, list, data_of, elements_in, natural_in}
use Rattle.bitcode_shapes.specs.LawfulLists.{list_of_data, elements_once}
use Rattle.bitcode_shapes.specs.Shape.{Shape, IsOf, IsListOf, IsWithin, seq_shape}
use Rattle.bitcode_coder.specs.Columns.{CountsFit}
use Rattle.bitcode_coder.specs.LengthColumn.{length_bytes}
use Rattle.bitcode_coder.specs.Spelling.{natural, columns_bytes}
use Rattle.bitcode_coder.specs.Transposition.{columns_of, joined, length_entry}
use Rattle.bitcode_coder.proofs.DatumLemmas.{joined_each}
use Rattle.bitcode_coder.proofs.LengthPartLemmas.{naturals_in}
use Rattle.bitcode_schema.specs.Forms.{list_content}
use Rattle.bitcode_schema.specs.Views.{Hold}
use Rattle.bitcode_schema.specs.Writing.{Writes, HasStranger}
use Rattle.bitcode_schema.proofs.HoldLemmas.{hold_parts, hold_length, hold-append, list_held, held_list}

abbrev pub flat : {A : Type 0} → List (List A) → List A
flat lists = flat_map (λ l. l) lists

abbrev pub sizes : {A : Type 0} → List (List A) → List ℕ
sizes lists = map (λ l. length l) lists

module _ {A : Type 0} (content : A → Option Datum) (IsElement : Datum → Type 0) (IsCount : ℕ → Type 0) where
  -- the data of lists, whose elements are these
  pub record Listed (lists : List (List A)) (elements : List Datum) : Type 0 where
    pub lists_of : List Datum
    pub held : Hold (list_content content) lists lists_of
    pub of_shape : All (IsListOf IsElement IsCount) lists_of
    pub are : joined lists_of ≡ elements
    pub entries : map length_entry lists_of ≡ map natural (sizes lists)

  All-front : (xs ys : List Datum) → All IsElement (xs ++ ys) → All IsElement xs
  All-front [] ys h = All-nil IsElement
  All-front (x ∷ xs) ys h = All-cons IsElement x xs (All-head IsElement x (xs ++ ys) h) (All-front xs ys (All-tail IsElement x (xs ++ ys) h))

  All-back : (xs ys : List Datum) → All IsElement (xs ++ ys) → All IsElement ys
  All-back [] ys h = h
  All-back (x ∷ xs) ys h = All-back xs ys (All-tail IsElement x (xs ++ ys) h)

  pub listed : (lists : List (List A)) (elements : List Datum) → Hold content (flat lists) elements → All IsElement elements
      → All (λ l. IsCount (length l)) lists → Listed lists elements
  listed [] [] h each counts = record { lists_of = []; held = tt; of_shape = All-nil (IsListOf IsElement IsCount); are = refl; entries = refl }
  listed [] (d ∷ ds) h each counts = absurd h
  listed (l ∷ ls) elements h each counts =
      let p = hold_parts content l (flat ls) elements h in
      let all = subst (All IsElement) p.whole each in
      let rest = listed ls p.back p.second (All-back p.front p.back all) (All-tail (λ m. IsCount (length m)) l ls counts) in
      let size : length l ≡ length p.front = hold_length content l p.front p.first in
      record {
        lists_of = list (data_of p.front) ∷ rest.lists_of;
        held = (list_held content l p.front p.first, rest.held);
        of_shape = All-cons (IsListOf IsElement IsCount) (list (data_of p.front)) rest.lists_of
            (record { elements = p.front; is = refl; each = All-front p.front p.back all; count = subst IsCount size (All-head (λ m. IsCount (length m)) l ls counts) })
            rest.of_shape;
        are = ap₂ (λ a b. a ++ b) (list_of_data p.front) rest.are ∙ sym p.whole;
        entries = ap₂ (λ n ns. n ∷ ns) (ap (λ ds. natural (length ds)) (list_of_data p.front) ∙ ap natural (sym size)) rest.entries;
      }

  -- the elements of lists that have data
  pub elements_held : (lists : List (List A)) (ds : List Datum) → Hold (list_content content) lists ds → Hold content (flat lists) (joined ds)
  elements_held [] [] h = tt
  elements_held [] (d ∷ ds) h = absurd h
  elements_held (l ∷ ls) [] h = absurd h
  elements_held (l ∷ ls) (d ∷ ds) h =
      let e = held_list content l d h.0 in
      let same : elements_in d ≡ e.0 = ap elements_in e.1.1 ∙ list_of_data e.0 in
      hold-append content l (flat ls) (elements_in d) (joined ds) (subst (Hold content l) (sym same) e.1.0) (elements_held ls ds h.1)

  -- and how many there are
  pub counts_held : (lists : List (List A)) (ds : List Datum) → Hold (list_content content) lists ds → All (IsListOf IsElement IsCount) ds
      → All (λ l. IsCount (length l)) lists
  counts_held [] ds h each = All-nil (λ l. IsCount (length l))
  counts_held (l ∷ ls) [] h each = absurd h
  counts_held (l ∷ ls) (d ∷ ds) h each =
      let e = held_list content l d h.0 in
      let is = All-head (IsListOf IsElement IsCount) d ds each in
      let same : is.elements ≡ e.0 = elements_once is.elements e.0 (sym is.is ∙ e.1.1) in
      All-cons (λ m. IsCount (length m)) l ls (subst IsCount (ap length same ∙ sym (hold_length content l e.0 e.1.0)) is.count)
      (counts_held ls ds h.1 (All-tail (IsListOf IsElement IsCount) d ds each))

module _ {A : Type 0} (content : A → Option Datum) (s : Shape) (capacity : Option ℕ) (lists : List (List A)) where
  pub writes_lists : (old middle new : List ℕ) → All (λ l. IsWithin capacity (length l)) lists → middle ≡ old ++ length_bytes (sizes lists)
      → Writes content s (flat lists) middle new → Writes (list_content content) (seq_shape capacity s) lists old new
  writes_lists old middle new within lengths w =
      let l = listed content (IsOf s) (IsWithin capacity) lists w.contents w.are.held w.are.of_shape within in
      record {
        contents = l.lists_of;
        are = record { held = l.held; of_shape = l.of_shape };
        counts = (tt, subst (λ ds. CountsFit (columns_of s ds)) (sym l.are) w.counts);
        written = w.written ∙ ap (λ bytes. bytes ++ columns_bytes (columns_of s w.contents)) lengths
            ∙ append_assoc old (length_bytes (sizes lists)) (columns_bytes (columns_of s w.contents))
            ∙ ap (λ bytes. old ++ bytes)
            (ap₂ (λ a b. a ++ b) (ap length_bytes (sym (ap (map natural_in) l.entries ∙ naturals_in (sizes lists)))) (ap (λ ds. columns_bytes (columns_of s ds)) (sym l.are)));
      }

  pub stranger_among_elements : HasStranger content s (flat lists) → HasStranger (list_content content) (seq_shape capacity s) lists
  stranger_among_elements stranger ds are =
      stranger (joined ds) (record {
        held = elements_held content (IsOf s) (IsWithin capacity) lists ds are.held;
        of_shape = joined_each (IsOf s) (IsWithin capacity) ds are.of_shape;
      })

  pub stranger_too_long : (All (λ l. IsWithin capacity (length l)) lists → ⊥) → HasStranger (list_content content) (seq_shape capacity s) lists
  stranger_too_long long ds are = long (counts_held content (IsOf s) (IsWithin capacity) lists ds are.held are.of_shape)
