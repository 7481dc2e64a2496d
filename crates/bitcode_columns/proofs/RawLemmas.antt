-- Raw numbers of one width.
use Rattle.std.proofs.Common.{◌≡◌, ℕ, ◌*◌, ◌^◌, ◌<◌, ◌≤◌, List, [], ◌∷◌, ◌++◌, length, All, refl, sym, ap, ◌∙◌, Some, arith, ltb, mul-le-mul_left, append_assoc, length-append}
use Rattle.std.proofs.lemmas.List.Elements.{All-head, All-tail}
use Rattle.std.proofs.lemmas.Option.{cond_some}
use Rattle.std.proofs.lemmas.Bool.{ltb-true}
use Rattle.bitcode_memory.specs.declared.error.Reason.{Reason}
use Rattle.bitcode_memory.specs.declared.error.Reason.TheVariants.{Eof}
use Rattle.bitcode_memory.specs.LittleEndian.{little_endian, number_bytes, raw_text, SpellsRaw}
use Rattle.bitcode_columns.specs.Reading.{missing}
use Rattle.bitcode_columns.specs.Laws.{IsReadOnce, TakesAnEighth, IsFaultOf}
use Rattle.bitcode_memory.proofs.LittleEndianLemmas.{length-number_bytes, little_endian-number_bytes}
use Rattle.bitcode_columns.proofs.FrontLemmas.{append_split}

pub length-raw_text : (width : ℕ) (numbers : List ℕ) → length (raw_text width numbers) ≡ length numbers * width
unfolding raw_text
length-raw_text width [] = omega arith
length-raw_text width (n ∷ numbers) =
    omega (arith, length-append (number_bytes width n) (raw_text width numbers), length-number_bytes width n, length-raw_text width numbers)

-- equally many numbers of one width at the front of one list are the same numbers
raw_once : (width : ℕ) (numbers others rest left : List ℕ) → All (λ n. n < 256 ^ width) numbers → All (λ n. n < 256 ^ width) others
    → length numbers ≡ length others → raw_text width numbers ++ rest ≡ raw_text width others ++ left → (numbers ≡ others) × (rest ≡ left)
unfolding raw_text
raw_once width [] [] rest left h g same e = (refl, e)
raw_once width [] (m ∷ others) rest left h g same e = absurd (omega arith)
raw_once width (n ∷ numbers) [] rest left h g same e = absurd (omega arith)
raw_once width (n ∷ numbers) (m ∷ others) rest left h g same e =
    let P : ℕ → Type 0 = λ k. k < 256 ^ width in
    let parts = append_split (number_bytes width n) (number_bytes width m) (raw_text width numbers ++ rest) (raw_text width others ++ left)
    (length-number_bytes width n ∙ sym (length-number_bytes width m))
    (sym (append_assoc (number_bytes width n) (raw_text width numbers) rest) ∙ (e ∙ append_assoc (number_bytes width m) (raw_text width others) left)) in
    let first : n ≡ m = sym (little_endian-number_bytes width n (All-head P n numbers h))
    ∙ (ap little_endian parts.0 ∙ little_endian-number_bytes width m (All-head P m others g)) in
    let later : (numbers ≡ others) × (rest ≡ left) =
    raw_once width numbers others rest left (All-tail P n numbers h) (All-tail P m others g) (omega arith) parts.1 in
    (cc, later.1)

pub SpellsRaw-unambiguous : (width : ℕ) → IsReadOnce (SpellsRaw width)
SpellsRaw-unambiguous width = record {
  unambiguous = λ piece other entries others rest left s t same e.
      raw_once width entries others rest left s.fit t.fit same (ap (λ x. x ++ rest) (sym s.whole) ∙ (e ∙ ap (λ x. x ++ left) t.whole));
}

pub SpellsRaw-size_bound : (width : ℕ) → 1 ≤ width → TakesAnEighth (SpellsRaw width)
unfolding raw_text
SpellsRaw-size_bound width positive = record {
  nothing = λ piece s. s.whole;
  size_bound = λ piece entries s. omega (arith, ap length s.whole, length-raw_text width entries, mul-le-mul_left (length entries) positive);
}

-- where bytes are missing there are fewer than are wanted
pub missing_short : (wanted : ℕ) (input : List ℕ) (reason : Reason) → missing wanted input ≡ Some reason → length input < wanted
missing_short wanted input reason e = ltb-true (length input) wanted (cond_some (ltb (length input) wanted) Eof reason e).0

pub missing-refuses_raw : (width : ℕ) → IsFaultOf (λ count input. missing (count * width) input) (SpellsRaw width)
missing-refuses_raw width = record {
  refused = λ count input reason fault piece entries rest s size whole.
      omega (
        arith,
        missing_short (count * width) input reason fault,
        ap length whole,
        length-append piece rest,
        ap length s.whole,
        length-raw_text width entries,
        ap (λ n. n * width) size,
      );
}
