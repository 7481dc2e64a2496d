-- The laws of text columns.
use Rattle.std.proofs.Common.{◌≡◌, ℕ, ◌+◌, ◌*◌, ◌<◌, ◌≤◌, Option, List, [], ◌∷◌, ◌++◌, length, map, All, sum, refl, sym, ap, ◌∙◌, arith}
use Rattle.std.specs.Prelude.{IsUtf8, sum_by}
use Rattle.std.specs.List.{flat_map}
use Rattle.std.proofs.lemmas.List.{append_assoc, length-append, length-map}
use Rattle.std.proofs.lemmas.List.Elements.{All-map}
use Rattle.std.proofs.lemmas.List.Concat.{length-flat_map}
use Rattle.bitcode_columns.specs.Laws.{IsReadOnce}
use Rattle.bitcode_columns.proofs.FrontLemmas.{append_split}
use Rattle.bitcode_shapes.specs.Shape.{IsWithin}
use Rattle.bitcode_coder.specs.LengthColumn.{length_bytes, length_limit}
use Rattle.bitcode_coder.specs.TextColumn.{SpellsTexts, texts_bytes}
use Rattle.bitcode_coder.proofs.LengthLemmas.{SpellsLengths-unambiguous, SpellsLengths-size_bound, length_bytes-spells}

-- texts of the same lengths, joined at the front of one list, are the same texts
cut_once : (texts others : List (List ℕ)) (rest left : List ℕ) → map (λ text. length text) texts ≡ map (λ text. length text) others
    → flat_map (λ text. text) texts ++ rest ≡ flat_map (λ text. text) others ++ left → (texts ≡ others) × (rest ≡ left)
cut_once [] [] rest left same e = (refl, e)
cut_once [] (other ∷ others) rest left same e = absurd (cc)
cut_once (text ∷ texts) [] rest left same e = absurd (cc)
cut_once (text ∷ texts) (other ∷ others) rest left same e =
    let size : length text ≡ length other = cc in
    let sizes : map (λ t. length t) texts ≡ map (λ t. length t) others = cc in
    let parts = append_split text other (flat_map (λ t. t) texts ++ rest) (flat_map (λ t. t) others ++ left) size
    (sym (append_assoc text (flat_map (λ t. t) texts) rest) ∙ (e ∙ append_assoc other (flat_map (λ t. t) others) left)) in
    let later : (texts ≡ others) × (rest ≡ left) = cut_once texts others rest left sizes parts.1 in
    (cc, later.1)

pub SpellsTexts-unambiguous : (limit : Option ℕ) → IsReadOnce (SpellsTexts limit)
SpellsTexts-unambiguous limit = record {
  unambiguous = λ piece other entries others rest left s t same e.
      let split : s.lengths_piece ++ (flat_map (λ text. text) entries ++ rest) ≡ t.lengths_piece ++ (flat_map (λ text. text) others ++ left) =
      sym (append_assoc s.lengths_piece (flat_map (λ text. text) entries) rest)
      ∙ (ap (λ front. front ++ rest) (sym s.whole)
      ∙ (e ∙ (ap (λ front. front ++ left) t.whole ∙ append_assoc t.lengths_piece (flat_map (λ text. text) others) left))) in
      let counts : length (map (λ text. length text) entries) ≡ length (map (λ text. length text) others) =
      length-map entries (λ text. length text) ∙ (same ∙ sym (length-map others (λ text. length text))) in
      let sizes = (SpellsLengths-unambiguous limit).unambiguous s.lengths_piece t.lengths_piece (map (λ text. length text) entries) (map (λ text. length text) others)
      (flat_map (λ text. text) entries ++ rest) (flat_map (λ text. text) others ++ left) s.lengths_spelled t.lengths_spelled counts split in
      cut_once entries others rest left sizes.0 sizes.1;
}

pub SpellsTexts-nothing : (limit : Option ℕ) (piece : List ℕ) → SpellsTexts limit piece [] → piece ≡ []
SpellsTexts-nothing limit piece s =
    s.whole ∙ ap (λ front. front ++ []) ((SpellsLengths-size_bound limit).nothing s.lengths_piece s.lengths_spelled)

-- the texts and all their bytes
pub SpellsTexts-size_bound : (limit : Option ℕ) (piece : List ℕ) (texts : List (List ℕ)) → SpellsTexts limit piece texts
    → length texts + sum_by (λ text. length text) texts ≤ 8 * length piece
SpellsTexts-size_bound limit piece texts s =
    omega (
      arith,
      (SpellsLengths-size_bound limit).size_bound s.lengths_piece (map (λ text. length text) texts) s.lengths_spelled,
      length-map texts (λ text. length text),
      ap length s.whole,
      length-append s.lengths_piece (flat_map (λ text. text) texts),
      length-flat_map (λ (text : List ℕ). text) texts,
    )

pub texts_bytes-spells : (limit : Option ℕ) (texts : List (List ℕ)) → sum (map (λ text. length text) texts) < length_limit
    → All (λ text. IsWithin limit (length text)) texts → All IsUtf8 texts → SpellsTexts limit (texts_bytes texts) texts
unfolding texts_bytes
texts_bytes-spells limit texts below within utf8 = record {
  lengths_piece = length_bytes (map (λ text. length text) texts);
  whole = refl;
  lengths_spelled = length_bytes-spells limit (map (λ text. length text) texts) below (All-map (IsWithin limit) (λ text. length text) texts within);
  utf8 = utf8;
}
