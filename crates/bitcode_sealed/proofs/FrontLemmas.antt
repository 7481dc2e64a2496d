-- What is skipped at the front of an input.
use Rattle.std.proofs.Common.{◌≡◌, ℕ, ◌+◌, ◌-◌, ◌<◌, List, [], ◌∷◌, ◌++◌, length, drop, refl, sym, ap, subst, ◌∙◌, arith, length-append, append_assoc}
use Rattle.std.proofs.lemmas.List.{drop_at}
use Rattle.bitcode_sealed.specs.declared.label.Label.{Label}
use Rattle.bitcode_sealed.specs.declared.label.Expected.{Expected}
use Rattle.bitcode_sealed.specs.declared.head.Head.{Head}
use Rattle.bitcode_sealed.specs.declared.error.OpenError.{OpenError}
use Rattle.bitcode_sealed.specs.declared.error.OpenError.TheVariants.{CutOff}
use Rattle.bitcode_sealed.specs.Layout.{checked, head_bytes, sealed}
use Rattle.bitcode_sealed.specs.Faults.{HasValueBehind, not_sealed, head_cut_off, head_damaged, IsWholeFault, whole_in_head, whole_in_value}
use Rattle.bitcode_sealed.specs.Front.{IsSkip, past_a_value, IsSkipped}
use Rattle.bitcode_sealed.proofs.DamageLemmas.{length-checked, length-head_bytes}

-- a value behind a head is sealed under the head's label
pub skipped_value : (head : Head) (input value rest : List ℕ) → HasValueBehind head input value rest → IsSkip head.label input rest
unfolding sealed
skipped_value head input value rest has =
    let made : ℕ → Head = λ size. record { label = head.label; size = size } in
    record {
      value = value;
      whole =
          has.whole ∙ ap (λ s. head_bytes (made s) ++ (checked value ++ rest)) (sym has.size)
          ∙ sym (append_assoc (head_bytes (made (length value))) (checked value) rest);
    }

pub length_sealed : (label : Label) (value : List ℕ) → length (sealed label value) ≡ 24 + length value
unfolding sealed
length_sealed label value =
    let head : Head = record { label = label; size = length value } in
    omega (arith, length-append (head_bytes head) (checked value), length-head_bytes head, length-checked value)

pub length_skip : (label : Label) (input rest : List ℕ) → IsSkip label input rest → length rest < length input
length_skip label input rest skip =
    omega (arith, ap length skip.whole, length-append (sealed label skip.value) rest, length_sealed label skip.value)

pub past_value : (expected : Expected) (label : Label) (input rest : List ℕ) → IsSkip label input rest → IsSkipped expected input (length input - length rest)
past_value expected label input rest skip =
    let front = sealed label skip.value in
    let size : length front ≡ length input - length rest = omega (arith, ap length skip.whole, length-append front rest) in
    let left : rest ≡ drop (length input - length rest) input =
    sym (ap (drop (length input - length rest)) skip.whole ∙ drop_at front rest (length input - length rest) size) in
    record {
      forward = omega (arith, length_skip label input rest skip);
      inside = omega arith;
      value_or_gap = past_a_value label (subst (IsSkip label input) left skip);
    }

-- nothing is at fault with an empty input but that it is cut off within the header
pub some_of_fault : (input : List ℕ) (fault : OpenError) → IsWholeFault input fault → (fault ≡ CutOff 0 20 → ⊥) → 0 < length input
some_of_fault [] fault (whole_in_head (not_sealed _ none)) other = absurd (none refl)
some_of_fault [] fault (whole_in_head (head_cut_off is _ _)) other = absurd (other is)
some_of_fault [] fault (whole_in_head (head_damaged _ _ long _)) other = absurd (omega (arith, long))
some_of_fault [] fault (whole_in_value head begins _) other =
    absurd (omega (arith, ap length begins.whole, length-append (head_bytes head) begins.behind, length-head_bytes head))
some_of_fault (x ∷ xs) fault f other = omega arith
