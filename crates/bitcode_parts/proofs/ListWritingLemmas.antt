-- Data of lists are written as the lengths of all and then the elements of all.
use Rattle.std.proofs.Common.{◌≡◌, ℕ, List, [], ◌∷◌, ◌++◌, length, map, refl, sym, ◌∙◌, ap, ap₂, subst, append-nil}
use Rattle.std.specs.Prelude.{None, Bool, All}
use Rattle.std.proofs.lemmas.List.{map-append}
use Rattle.bitcode_shapes.specs.Datum.{Datum, list, data_of, elements_in}
use Rattle.bitcode_shapes.specs.Shape.{Shape, seq_shape}
use Rattle.bitcode_shapes.specs.Lawful.{Lawful}
use Rattle.bitcode_shapes.specs.Lists.{ListsSequence}
use Rattle.bitcode_shapes.specs.LawfulLists.{list_of_data, zip_length, each_listed, each_of_shape}
use Rattle.bitcode_coder.specs.Columns.{Columns, lengths, one, two, beside, CountsFit}
use Rattle.bitcode_coder.specs.Spelling.{natural}
use Rattle.bitcode_coder.specs.Coder.{written_columns, JoinsListing, OverflowsWithListing, SurelyOverflows, JoinsEach, OverflowsWithEach}

pub elements_again : (parts : List Datum) → elements_in (list (data_of parts)) ++ [] ≡ parts
elements_again parts = append-nil (elements_in (list (data_of parts))) ∙ list_of_data parts

module _ {T : Type 0} (lists : T → Datum → Type 0) (s : Shape) (items : List T) where
  -- the length of a sequence was written, and its elements
  pub joins_sequence : (old_lengths new_lengths : List ℕ) (old new : Columns) → new_lengths ≡ old_lengths ++ length items ∷ [] → JoinsEach lists s items old new
      → JoinsListing (λ (v : List T) d. ListsSequence lists v d) (seq_shape None s) items (two (one (lengths None) (map natural old_lengths)) old)
      (two (one (lengths None) (map natural new_lengths)) new)
  joins_sequence old_lengths new_lengths old new grown each = record {
    datum = list (data_of each.parts);
    listing = record { elements = each.parts; is = refl; each = each.listings };
    joined =
        ap₂ two
        (ap (one (lengths None))
        (ap (map natural) grown ∙ map-append natural old_lengths (length items ∷ [])
        ∙ ap (λ n. map natural old_lengths ++ natural n ∷ []) (zip_length lists items each.parts each.listings ∙ ap length (sym (list_of_data each.parts)))))
        (each.joined ∙ ap (λ ds. beside old (written_columns s ds)) (sym (elements_again each.parts)));
    fits = λ f. (tt, each.fits f.1);
  }

  -- the elements pass, and so does the sequence
  pub overflows_sequence : (old_lengths : List ℕ) (old : Columns) → OverflowsWithEach lists s items old
      → OverflowsWithListing (λ (v : List T) d. ListsSequence lists v d) (seq_shape None s) items (two (one (lengths None) (map natural old_lengths)) old)
  overflows_sequence old_lengths old each = record {
    datum = list (data_of each.parts);
    listing = record { elements = each.parts; is = refl; each = each.listings };
    overflows = λ f. each.overflows (subst (λ ds. CountsFit (beside old (written_columns s ds))) (elements_again each.parts) f.1);
  }

  -- where so many elements pass whatever they are, these do
  pub overflows_surely : (is_value : T → Type 0) (same : T → T → Type 0) (order : Bool) → Lawful s is_value lists same order → All is_value items → (old : Columns)
      → SurelyOverflows s old (length items) → OverflowsWithEach lists s items old
  overflows_surely is_value same order lawful values old surely =
      let found = each_listed s is_value lists same order lawful items values in
      record {
        parts = found.0;
        listings = found.1;
        overflows =
            surely found.0 (each_of_shape s is_value lists same order lawful items found.0 values found.1) (sym (zip_length lists items found.0 found.1));
      }

-- ---- a type that is written as the sequence of its elements

module _ {T U : Type 0} (lists : T → Datum → Type 0) (s : Shape) (lists_whole : U → Datum → Type 0) (whole : Shape) (t : U) (items : List T)
    (listed : (d : Datum) → ListsSequence lists items d → lists_whole t d)
    (columns : (ds : List Datum) → written_columns whole ds ≡ written_columns (seq_shape None s) ds) (old : Columns) where
  pub joins_as : (new : Columns) → JoinsListing (λ (v : List T) d. ListsSequence lists v d) (seq_shape None s) items old new → JoinsListing lists_whole whole t old new
  joins_as new j = record {
    datum = j.datum;
    listing = listed j.datum j.listing;
    joined = j.joined ∙ ap (beside old) (sym (columns (j.datum ∷ [])));
    fits = j.fits;
  }

  pub overflows_as : OverflowsWithListing (λ (v : List T) d. ListsSequence lists v d) (seq_shape None s) items old → OverflowsWithListing lists_whole whole t old
  overflows_as j = record {
    datum = j.datum;
    listing = listed j.datum j.listing;
    overflows = λ fits. j.overflows (subst (λ added. CountsFit (beside old added)) (columns (j.datum ∷ [])) fits);
  }
