-- The column of one integer.
use Rattle.std.proofs.Common.{◌≡◌, ℕ, ◌-◌, ◌%◌, ◌^◌, ◌<◌, ◌≤◌, Bool, true, false, eqb, ◌||◌, ◌&&◌, ℤ, pos, List, [], ◌∷◌, ◌++◌, refl, sym, ap, ◌∙◌, subst, arith, append-nil, mod-eq_of_lt}
use Rattle.std.specs.Prelude.{◌≤ℤ◌}
use Rattle.std.proofs.lemmas.List.Elements.{All-nil, All-cons}
use Rattle.std.proofs.lemmas.Bool.{cond_both, ne_eqb, eqb-true}
use Rattle.bitcode_memory.specs.IntWidths.{IsWidth}
use Rattle.bitcode_memory.specs.LittleEndian.{number_bytes, raw_text}
use Rattle.bitcode_memory.specs.Ints.{IsNumber, residue}
use Rattle.bitcode_columns.specs.ByteColumn.{byte_text}
use Rattle.bitcode_columns.specs.IntColumn.{halvings, int_text, narrow_text}
use Rattle.bitcode_columns.specs.Tagged.{tag_of}
use Rattle.bitcode_int_columns.specs.Narrowing.{plain_width, shifted_width}
use Rattle.bitcode_int_columns.proofs.AppendLemmas.{int_text_tagged, ordered, tagged_plain}
use Rattle.bitcode_int_columns.proofs.NarrowLemmas.{above_zero}

raw_single : (width n : ℕ) → raw_text width (n ∷ []) ≡ number_bytes width n
unfolding raw_text
raw_single width n = append-nil (number_bytes width n)

byte_single : (n : ℕ) → byte_text (pos n ∷ []) ≡ n ∷ []
unfolding byte_text
byte_single n = refl

-- the bytes of a number at a narrow width
pub narrow_single : (width n : ℕ) → n < 256 ^ width → number_bytes width n ≡ narrow_text width (n ∷ [])
narrow_single width n small =
    cond_both (eqb width 1) (byte_text (pos n ∷ [])) (raw_text width (n ∷ [])) (λ text. number_bytes width n ≡ text)
    (λ one. subst (λ w. n < 256 ^ w → number_bytes w n ≡ byte_text (pos n ∷ [])) (sym (eqb-true width 1 one))
    (λ below. ap (λ m. m ∷ []) (mod-eq_of_lt below) ∙ sym (byte_single n)) small)
    (λ wider. sym (raw_single width n))

pub same_order : (z : ℤ) → z ≤ℤ z
same_order z = ordered (z ∷ []) z z (omega arith) refl refl

-- what was appended for one integer
pub single_written : (width plain : ℕ) (signed : Bool) (z : ℤ) (old new : List ℕ) → IsWidth width → 4 ≤ width → IsNumber width signed z
    → plain ≡ plain_width width z z
    → new ≡ old ++ (tag_of (halvings width - halvings plain) false ∷ narrow_text plain (residue width z % 256 ^ plain ∷ []))
    → new ≡ old ++ int_text width (z ∷ [])
single_written width plain signed z old new is_width wide number is_plain written =
    tagged_plain (λ entry. entry) (z ∷ []) width plain (shifted_width z z) signed z z old new is_width (omega arith) (All-cons (IsNumber width signed) z [] number (All-nil (IsNumber width signed))) refl refl is_plain refl refl
    (written ∙ ap (λ n. old ++ (tag_of (halvings width - halvings plain) false ∷ narrow_text plain (n % 256 ^ plain ∷ []))) (sym (above_zero width signed z number)))
    ∙ ap (λ text. old ++ text) (sym (int_text_tagged width (z ∷ []) (λ one. omega (arith, wide, one)) (ap (λ b. false || (b && true)) (ne_eqb width 2 (λ two. omega (arith, wide, two))))))
