-- Texts that are taken one by one.
use Rattle.std.proofs.Common.{◌≡◌, ℕ, ◌+◌, ◌<◌, ◌≤◌, List, [], ◌∷◌, ◌++◌, length, take, drop, get_or, map, refl, sym, ◌∙◌, ap, arith, append_assoc, ⊎_elim}
use Rattle.std.proofs.lemmas.Bool.{cases_lt}
use Rattle.std.proofs.lemmas.List.{drop_all, drop_more, map-append}
use Rattle.std.proofs.lemmas.Simd.{map-map}
use Rattle.bitcode_shapes.specs.Datum.{text}
use Rattle.bitcode_shapes.specs.Texts.{MakesText}
use Rattle.bitcode_coder.specs.Coder.{TakesEach}
use Rattle.bitcode_coder.specs.Cutting.{cut}
use Rattle.bitcode_coder.proofs.CuttingLemmas.{length-cut}
use Rattle.bitcode_coder.proofs.StrLemmas.{taken_piece, piece_fits}
use Rattle.bitcode_coder.proofs.TakingLemmas.{made_each}

-- a piece that is left behind some has a length
module _ (ns : List ℕ) (i : ℕ) (bytes : List ℕ) (some : 0 < length (cut (drop i ns) bytes)) where
  pub has_length : i < length ns
  has_length =
      ⊎_elim (λ h. h)
      (λ past. absurd (omega (arith, some, length-cut (drop i ns) bytes, ap length (drop_all i ns (omega arith)))))
      (cases_lt i (length ns))

  pub next_piece : (d : ℕ) → cut (drop i ns) bytes ≡ take (get_or ns i d) bytes ∷ cut (drop (i + 1) ns) (drop (get_or ns i d) bytes)
  next_piece d = taken_piece (drop i ns) bytes (get_or ns i d) (drop (i + 1) ns) (drop_more ns i d has_length) some

  pub next_fits : (d : ℕ) → get_or ns i d ≤ length bytes
  next_fits d = piece_fits (drop i ns) bytes (get_or ns i d) (drop (i + 1) ns) (drop_more ns i d has_length) some

-- one text more was taken
pub one_text_more : {T : Type 0} (bytes_of : T → List ℕ) (before after : List T) (t : T) (piece : List ℕ) (old new : List (List ℕ)) → after ≡ before ++ t ∷ []
    → bytes_of t ≡ piece → old ≡ piece ∷ new → map bytes_of after ++ new ≡ map bytes_of before ++ old
one_text_more bytes_of before after t piece old new grown same taken =
    ap (λ ts. map bytes_of ts ++ new) grown ∙ ap (λ front. front ++ new) (map-append bytes_of before (t ∷ [])) ∙ append_assoc (map bytes_of before) (bytes_of t ∷ []) new
    ∙ ap (λ more. map bytes_of before ++ more) (ap (λ p. p ∷ new) same ∙ sym taken)

-- the values are made of the texts that were taken
pub takes_texts : {T : Type 0} (bytes_of : T → List ℕ) (count : ℕ) (old new : List (List ℕ)) (items : List T) → length items ≡ count
    → map bytes_of items ++ new ≡ old → TakesEach (MakesText bytes_of) count items (map text old) (map text new)
takes_texts bytes_of count old new items size joined = record {
  size = size;
  parts = map (λ t. text (bytes_of t)) items;
  taken = ap (map text) (sym joined) ∙ map-append text (map bytes_of items) new ∙ ap (λ ds. ds ++ map text new) (map-map text bytes_of items);
  made = made_each (MakesText bytes_of) (λ t. text (bytes_of t)) (λ t. refl) items;
}
