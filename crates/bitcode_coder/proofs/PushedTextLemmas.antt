-- Texts that are pushed behind those of a column, one by one or several at once.
use Rattle.std.proofs.Common.{◌≡◌, ℕ, ◌+◌, ◌<◌, List, [], ◌∷◌, ◌++◌, length, map, take, drop, slice_index_or, sum, sym, ap, ap₂, subst, ◌∙◌, append_assoc, append-nil, arith}
use Rattle.std.proofs.lemmas.List.{map-append, take_more, take-take, drop-take, take-append-drop}
use Rattle.bitcode_shapes.specs.Datum.{Datum, text}
use Rattle.bitcode_coder.specs.PushedTexts.{PushesTexts}
use Rattle.bitcode_coder.proofs.EachLemmas.{AllZip-append}
use Rattle.bitcode_coder.proofs.StrLemmas.{whole_with}

take_sum : {X : Type 0} (k n : ℕ) (xs : List X) → take (k + n) xs ≡ take k xs ++ take n (drop k xs)
take_sum k n xs =
    sym (take-append-drop k (take (k + n) xs)) ∙ ap₂ (λ front back. front ++ back) (take-take k (k + n) xs (omega arith)) (drop-take k n xs)

-- the lengths take all bytes, and those of a text more
pub whole_more : (ns ms bytes more piece : List ℕ) → sum ns ≡ length bytes → ms ≡ ns ++ length piece ∷ [] → more ≡ bytes ++ piece → sum ms ≡ length more
whole_more ns ms bytes more piece all sizes whole =
    whole_with ns bytes (piece ∷ []) all ms more sizes (whole ∙ ap (λ last. bytes ++ last) (sym (append-nil piece)))

module _ {T : Type 0} (lists : T → Datum → Type 0) where
  pub texts_none : (old : List (List ℕ)) → PushesTexts lists [] old old
  texts_none old = record { texts = []; pushed = sym (append-nil old); stand = tt }

  texts_both : (before after : List T) (old now new : List (List ℕ)) → PushesTexts lists before old now → PushesTexts lists after now new
      → PushesTexts lists (before ++ after) old new
  texts_both before after old now new front back = record {
    texts = front.texts ++ back.texts;
    pushed = back.pushed ∙ ap (λ all. all ++ back.texts) front.pushed ∙ append_assoc old front.texts back.texts;
    stand = AllZip-append (λ t bytes. lists t (text bytes)) before after front.texts back.texts front.stand back.stand;
  }

  module _ {S : Type 0} (of : S → T) (items : List S) (old now new : List (List ℕ)) where
    -- the text of one item more
    pub texts_more : (i : ℕ) (item : S) (bytes : List ℕ) → i < length items → item ≡ slice_index_or items i item
        → PushesTexts lists (map of (take i items)) old now → lists (of item) (text bytes) → new ≡ now ++ bytes ∷ []
        → PushesTexts lists (map of (take (i + 1) items)) old new
    texts_more i item bytes here is front listed pushed =
        let grown : map of (take (i + 1) items) ≡ map of (take i items) ++ of item ∷ [] =
        ap (map of) (take_more items i item here ∙ ap (λ t. take i items ++ t ∷ []) (sym is)) ∙ map-append of (take i items) (item ∷ []) in
        subst (λ ts. PushesTexts lists ts old new) (sym grown)
        (texts_both (map of (take i items)) (of item ∷ []) old now new front (record { texts = bytes ∷ []; pushed = pushed; stand = (listed, tt) }))

    -- the texts of some items more
    pub texts_behind : (k n : ℕ) (rest : List S) → rest ≡ drop k items
        → PushesTexts lists (map of (take k items)) old now → PushesTexts lists (map of (take n rest)) now new
        → PushesTexts lists (map of (take (k + n) items)) old new
    texts_behind k n rest behind front back =
        let grown : map of (take (k + n) items) ≡ map of (take k items) ++ map of (take n rest) =
        ap (map of) (take_sum k n items ∙ ap (λ xs. take k items ++ take n xs) (sym behind)) ∙ map-append of (take k items) (take n rest) in
        subst (λ ts. PushesTexts lists ts old new) (sym grown) (texts_both (map of (take k items)) (map of (take n rest)) old now new front back)
