-- The laws of bool columns.
use Rattle.std.proofs.Common.{◌≡◌, ◌<◌, Bool, true, false, eqb, List, [], ◌∷◌, length, map, get_or, refl, sym, ap, ◌∙◌, arith}
use Rattle.std.proofs.lemmas.List.{length-map}
use Rattle.std.proofs.lemmas.List.Elements.{All-map}
use Rattle.bitcode_columns.specs.declared.pack.Base.TheVariants.{Two}
use Rattle.bitcode_memory.specs.Ints.{bool_digit}
use Rattle.bitcode_columns.specs.BoolColumn.{SpellsBools, bool_text}
use Rattle.bitcode_columns.specs.Digits.{digits_text}
use Rattle.bitcode_columns.specs.Reading.{bools_fault}
use Rattle.bitcode_columns.specs.Laws.{IsReadOnce, TakesAnEighth, IsFaultOf}
use Rattle.bitcode_columns.proofs.DigitLemmas.{SpellsDigits-unambiguous, SpellsDigits-size_bound, digits_text-spells, digits_fault-refuses}

pub bool_text-is : (entries : List Bool) → bool_text entries ≡ digits_text Two (map bool_digit entries)
unfolding bool_text
bool_text-is entries = refl

bools_found : (bs : List Bool) → map (λ n. eqb n 1) (map bool_digit bs) ≡ bs
bools_found [] = refl
bools_found (true ∷ bs) = ap (λ later. true ∷ later) (bools_found bs)
bools_found (false ∷ bs) = ap (λ later. false ∷ later) (bools_found bs)

pub SpellsBools-unambiguous : IsReadOnce SpellsBools
SpellsBools-unambiguous = record {
  unambiguous = λ piece other entries others rest left s t same e.
      let counts : length (map bool_digit entries) ≡ length (map bool_digit others) =
      omega (arith, length-map entries bool_digit, length-map others bool_digit) in
      let parts = (SpellsDigits-unambiguous Two).unambiguous piece other (map bool_digit entries) (map bool_digit others) rest left s t counts e in
      (sym (bools_found entries) ∙ (ap (map (λ n. eqb n 1)) parts.0 ∙ bools_found others), parts.1);
}

bool_digit_below : (b : Bool) → bool_digit b < 2
bool_digit_below true = omega arith
bool_digit_below false = omega arith

pub bool_text-spells : (bs : List Bool) → SpellsBools (bool_text bs) bs
unfolding bool_text
bool_text-spells bs =
    digits_text-spells Two (map bool_digit bs) (All-map (λ n. n < 2) bool_digit bs (λ k d inside. bool_digit_below (get_or bs k d)))

pub SpellsBools-size_bound : TakesAnEighth SpellsBools
SpellsBools-size_bound = record {
  nothing = λ piece s. (SpellsDigits-size_bound Two).nothing piece s;
  size_bound = λ piece entries s. omega (arith, (SpellsDigits-size_bound Two).size_bound piece (map bool_digit entries) s, length-map entries bool_digit);
}

pub bools_fault-refuses : IsFaultOf bools_fault SpellsBools
bools_fault-refuses = record {
  refused = λ count input reason named piece entries rest s size whole.
      (digits_fault-refuses Two).refused count input reason named piece (map bool_digit entries) rest s (length-map entries bool_digit ∙ size) whole;
}
