-- What is answered of the payloads of variants that are read one after the other.
use Rattle.std.proofs.Common.{◌≡◌, ℕ, suc, ◌<◌, ◌≤◌, Bool, true, false, ◌&&◌, IsTrue, List, [], ◌∷◌, ◌++◌, length, refl, sym, ap, subst, ◌∙◌}
use Rattle.std.specs.Prelude.{◌↔◌}
use Rattle.bitcode_columns.specs.Reading.{Reads}
use Rattle.bitcode_columns.specs.VariantColumn.{SpellsVariants, variant_text}
use Rattle.bitcode_shapes.specs.Datum.{Datum}
use Rattle.bitcode_shapes.specs.Shape.{Shapes, choice_shape, variant_count}
use Rattle.bitcode_coder.specs.Strict.{JudgesData}
use Rattle.bitcode_parts.specs.Payloads.{payloads_of, choices_of, ReadsPayloads, JudgesPayloads}
use Rattle.bitcode_parts.proofs.StrictLemmas.{judges_choices}
use Rattle.bitcode_enums.specs.ByNumber.{shape_at, KeepsOthers}
use Rattle.bitcode_enums.proofs.PayloadReadingLemmas.{shapes_from, lists_to, from_place, from_last, lists_next, lists_whole}

all_three : (a b c : Bool) → ((a && b) && c) ≡ (a && (b && c))
all_three true b c = refl
all_three false b c = refl

and_true : (a : Bool) → a ≡ (a && true)
and_true true = refl
and_true false = refl

-- the payloads of all variants were judged, and the answer is theirs and that of the variants
pub record JudgedWith (ss : Shapes) (lists : List (List Datum)) (input rest : List ℕ) (variants whole : Bool) : Type 0 where
  pub answer : Bool
  pub judged : JudgesPayloads ss lists answer input rest
  pub is : whole ≡ (variants && answer)

module _ (ss : Shapes) (input : List ℕ) (variants : Bool) where
  -- The payloads of the variants up to a place were judged: with those from there on, all are.
  pub record JudgedTo (place : ℕ) (lists : List (List Datum)) (written : Bool) (now : List ℕ) : Type 0 where
    pub more : (behind : List (List Datum)) (answer : Bool) (rest : List ℕ) → JudgesPayloads (shapes_from place ss) behind answer now rest
        → JudgedWith ss (lists_to place lists behind) input rest variants (written && answer)

  pub judged_none : (lists : List (List Datum)) → JudgedTo 0 lists variants input
  judged_none lists = record { more = λ behind answer rest j. record { answer = answer; judged = j; is = refl } }

  pub judged_next : (place : ℕ) (lists : List (List Datum)) (written : Bool) (now : List ℕ) → JudgedTo place lists written now → place < variant_count ss
      → (new_lists : List (List Datum)) (new : List ℕ) → place < length lists → KeepsOthers [] place lists new_lists
      → (payload : Bool) → JudgesData (shape_at place ss) (payloads_of place new_lists) payload now new → JudgedTo (suc place) new_lists (written && payload) new
  judged_next place lists written now before below new_lists new among others payload told = record {
    more = λ behind answer rest j.
        let here : JudgesPayloads (shapes_from place ss) (payloads_of place new_lists ∷ behind) (payload && answer) now rest =
        subst (λ from. JudgesPayloads from (payloads_of place new_lists ∷ behind) (payload && answer) now rest) (sym (from_place place ss below))
        (record { middle = new; first_written = payload; second_written = answer; both = refl; first = told; second = j }) in
        let r = before.more (payloads_of place new_lists ∷ behind) (payload && answer) rest here in
        record {
          answer = r.answer;
          judged = subst (λ ls. JudgesPayloads ss ls r.answer input rest)
              (lists_next place lists behind (payloads_of place new_lists) among ∙ ap (λ ls. lists_to (suc place) ls behind) (sym others)) r.judged;
          is = all_three written payload answer ∙ r.is;
        };
  }

  pub judged_all : (place : ℕ) (lists : List (List Datum)) (written : Bool) (now : List ℕ) → JudgedTo place lists written now → variant_count ss ≤ place → length lists ≤ place
      → (count : ℕ) → variant_count ss ≡ count → {k : ℕ} (old entries : List ℕ) → Reads (SpellsVariants count) k old entries input → ReadsPayloads ss 0 entries input lists now
      → (IsTrue variants ↔ (old ≡ variant_text count entries ++ input)) → JudgesData (choice_shape ss) (choices_of entries lists) written old now
  judged_all place lists written now before past few count is {k} old entries read payloads told =
      let nothing : JudgesPayloads (shapes_from place ss) [] true now now = subst (λ from. JudgesPayloads from [] true now now) (sym (from_last place ss past)) (refl, refl) in
      let r = before.more [] true now nothing in
      let all : JudgesPayloads ss lists r.answer input now = subst (λ ls. JudgesPayloads ss ls r.answer input now) (lists_whole place lists few) r.judged in
      subst (λ w. JudgesData (choice_shape ss) (choices_of entries lists) w old now) (sym (and_true written ∙ r.is))
      (judges_choices ss lists now variants r.answer (subst (λ n. Reads (SpellsVariants n) k old entries input) (sym is) read) payloads
      (subst (λ n. IsTrue variants ↔ (old ≡ variant_text n entries ++ input)) (sym is) told) all)
