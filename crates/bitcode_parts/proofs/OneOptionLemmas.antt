-- The bytes of one option: its variant, and behind it the columns of its value.
use Rattle.std.proofs.Common.{◌≡◌, ℕ, List, [], ◌∷◌, ◌++◌, map, refl, sym, ap, ◌∙◌, append_assoc, append-nil}
use Rattle.bitcode_columns.specs.Digits.{digits_text}
use Rattle.bitcode_columns.specs.VariantColumn.{variant_text}
use Rattle.bitcode_shapes.specs.Datum.{Datum, natural_in}
use Rattle.bitcode_coder.specs.Columns.{Columns, no_columns, one, two, variants, emptied}
use Rattle.bitcode_coder.specs.Spelling.{natural, columns_bytes}
use Rattle.bitcode_coder.proofs.LengthPartLemmas.{naturals_in}

pub none_is_0 : variant_text 2 (0 ∷ []) ≡ 0 ∷ []
unfolding variant_text digits_text
none_is_0 = refl

pub some_is_1 : variant_text 2 (1 ∷ []) ≡ 1 ∷ []
unfolding variant_text digits_text
some_is_1 = refl

abbrev variants_in : Columns → List Datum
variants_in (two (one kind entries) payloads) = entries
variants_in _ = []

module _ (entries : List ℕ) (some : Columns) (none_yet : two (one (variants 2) (map natural entries)) (two no_columns (two some no_columns))
    ≡ emptied (two (one (variants 2) (map natural entries)) (two no_columns (two some no_columns)))) where
  no_variants : entries ≡ []
  no_variants = sym (naturals_in entries) ∙ ap (λ columns. map natural_in (variants_in columns)) none_yet

  pub option_bytes : (n : ℕ) (new : Columns) (before middle after : List ℕ) → variant_text 2 (n ∷ []) ≡ n ∷ [] → middle ≡ before ++ n ∷ []
      → after ≡ middle ++ columns_bytes new
      → after ≡ before ++ columns_bytes (two (one (variants 2) (map natural (entries ++ n ∷ []))) (two no_columns (two new no_columns)))
  option_bytes n new before middle after text first then =
      let value : List ℕ = columns_bytes new ++ [] in
      let whole : columns_bytes (two (one (variants 2) (map natural (entries ++ n ∷ []))) (two no_columns (two new no_columns))) ≡ n ∷ columns_bytes new =
      ap (λ ns. variant_text 2 ns ++ value) (naturals_in (entries ++ n ∷ []) ∙ ap (λ es. es ++ n ∷ []) no_variants)
      ∙ (ap (λ bytes. bytes ++ value) text ∙ ap (λ bytes. n ∷ bytes) (append-nil (columns_bytes new))) in
      then ∙ (ap (λ front. front ++ columns_bytes new) first
      ∙ (append_assoc before (n ∷ []) (columns_bytes new) ∙ ap (λ bytes. before ++ bytes) (sym whole)))
