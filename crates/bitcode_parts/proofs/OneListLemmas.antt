-- The bytes of one list: its length, and behind it the columns of its elements.
use Rattle.std.proofs.Common.{◌≡◌, ℕ, None, List, [], ◌∷◌, ◌++◌, map, sym, ap, ◌∙◌, append_assoc}
use Rattle.bitcode_shapes.specs.Datum.{Datum, natural_in}
use Rattle.bitcode_coder.specs.Columns.{Columns, one, two, lengths, emptied}
use Rattle.bitcode_coder.specs.LengthColumn.{length_bytes}
use Rattle.bitcode_coder.specs.Spelling.{natural, columns_bytes}
use Rattle.bitcode_coder.proofs.LengthPartLemmas.{naturals_in}

abbrev lengths_in : Columns → List Datum
lengths_in (two (one kind entries) elements) = entries
lengths_in _ = []

pub list_bytes : (old_lengths : List ℕ) (old new : Columns)
    → two (one (lengths None) (map natural old_lengths)) old ≡ emptied (two (one (lengths None) (map natural old_lengths)) old)
    → (n : ℕ) (before middle after : List ℕ) → middle ≡ before ++ length_bytes (n ∷ []) → after ≡ middle ++ columns_bytes new
    → after ≡ before ++ columns_bytes (two (one (lengths None) (map natural (old_lengths ++ n ∷ []))) new)
list_bytes old_lengths old new none_yet n before middle after first then =
    let none : old_lengths ≡ [] = sym (naturals_in old_lengths) ∙ ap (λ columns. map natural_in (lengths_in columns)) none_yet in
    let same : map natural_in (map natural (old_lengths ++ n ∷ [])) ≡ n ∷ [] = naturals_in (old_lengths ++ n ∷ []) ∙ ap (λ ls. ls ++ n ∷ []) none in
    then ∙ (ap (λ front. front ++ columns_bytes new) first
    ∙ (append_assoc before (length_bytes (n ∷ [])) (columns_bytes new) ∙ ap (λ ls. before ++ (length_bytes ls ++ columns_bytes new)) (sym same)))
