-- The answers of variants and payloads are those of choices.
use Rattle.std.proofs.Common.{◌≡◌, ℕ, suc, ◌+◌, ◌<◌, Bool, true, false, ◌&&◌, IsTrue, List, [], ◌∷◌, ◌++◌, map, get_or, refl, sym, ap, subst, ◌∙◌, arith}
use Rattle.std.specs.Prelude.{◌↔◌}
use Rattle.std.proofs.lemmas.Simd.{map-map}
use Rattle.bitcode_columns.specs.Histogram.{AreCounts, count_of}
use Rattle.bitcode_columns.specs.Reading.{Reads}
use Rattle.bitcode_columns.specs.VariantColumn.{SpellsVariants, variant_text}
use Rattle.bitcode_shapes.specs.Datum.{Datum, variant_in, natural_in}
use Rattle.bitcode_shapes.specs.Shape.{Shape, Shapes, no_shapes, shape_and, choice_shape, variant_count}
use Rattle.bitcode_coder.specs.Columns.{plain, variants}
use Rattle.bitcode_coder.specs.Transposition.{payload_columns, payloads, variant_entry}
use Rattle.bitcode_coder.specs.Spelling.{Spells, natural}
use Rattle.bitcode_coder.specs.Strict.{Judges, JudgesData}
use Rattle.bitcode_coder.proofs.LengthPartLemmas.{naturals_in}
use Rattle.bitcode_coder.proofs.StrictLemmas.{judges_column}
use Rattle.bitcode_parts.specs.Payloads.{payloads_of, choices_of, ReadsPayloads, JudgesPayloads}
use Rattle.bitcode_parts.proofs.ChoiceLemmas.{Recovers, recovers}
use Rattle.bitcode_parts.proofs.ChoiceReadingLemmas.{length-lists, length-lists_at}

judges_payloads : (shapes : Shapes) (index : ℕ) (lists : List (List Datum)) (ds : List Datum) (written : Bool) (old new : List ℕ)
    → JudgesPayloads shapes lists written old new → ((v : ℕ) → v < variant_count shapes → payloads (index + v) ds ≡ payloads_of v lists)
    → Judges (plain (payload_columns shapes index ds)) written old new
judges_payloads no_shapes index lists ds written old new j are = j
judges_payloads (shape_and s ss) index [] ds written old new j are = absurd j
judges_payloads (shape_and s ss) index (ps ∷ lists) ds written old new j are = record {
  middle = j.middle;
  first_written = j.first_written;
  second_written = j.second_written;
  both = j.both;
  first = subst (λ xs. JudgesData s xs j.first_written old j.middle)
      (sym (ap (λ i. payloads i ds) (let e : index ≡ index + 0 = omega arith in e) ∙ are 0 (omega arith))) j.first;
  second = judges_payloads ss (suc index) lists ds j.second_written j.middle new j.second
      (λ v below. ap (λ i. payloads i ds) (let e : suc index + v ≡ index + suc v = omega arith in e) ∙ are (suc v) (omega arith));
}

pub judges_choices : (shapes : Shapes) {k : ℕ} {old middle entries : List ℕ} (lists : List (List Datum)) (new : List ℕ) (a b : Bool)
    → Reads (SpellsVariants (variant_count shapes)) k old entries middle → ReadsPayloads shapes 0 entries middle lists new
    → (IsTrue a ↔ (old ≡ variant_text (variant_count shapes) entries ++ middle)) → JudgesPayloads shapes lists b middle new
    → JudgesData (choice_shape shapes) (choices_of entries lists) (a && b) old new
judges_choices shapes {old = old} {middle} {entries} lists new a b q r first second =
    let ds = choices_of entries lists in
    let found : Recovers (variant_count shapes) entries lists ds = recovers (variant_count shapes) entries lists (record {
      lists_are = length-lists shapes 0 entries _ lists new r;
      known = q.spelled.known;
      enough = λ v below. length-lists_at shapes 0 entries _ lists new r v below ∙ ap (λ i. count_of i entries) (let e : 0 + v ≡ v = omega arith in e);
    }) in
    let are : map variant_entry ds ≡ map natural entries = sym (map-map natural variant_in ds) ∙ ap (map natural) found.variants_are in
    record {
      middle = middle;
      first_written = a;
      second_written = b;
      both = refl;
      first = judges_column (variants (variant_count shapes)) a (map variant_entry ds) old middle q.piece (variant_text (variant_count shapes) entries) q.whole
          (record { entries = entries; are = are; spelled = q.spelled })
          (ap (λ xs. variant_text (variant_count shapes) (map natural_in xs)) are ∙ ap (variant_text (variant_count shapes)) (naturals_in entries)) first;
      second = judges_payloads shapes 0 lists ds b middle new second
          (λ v below. ap (λ i. payloads i ds) (let e : 0 + v ≡ v = omega arith in e) ∙ found.payloads_are v below);
    }

three_answers : (a b c : Bool) → (a && (b && (c && true))) ≡ ((a && b) && c)
three_answers true true true = refl
three_answers true true false = refl
three_answers true false c = refl
three_answers false b c = refl

-- of two variants
module _ (s u : Shape) {k k0 k1 : ℕ} {old middle left new entries counts : List ℕ} {ds es : List Datum} (read : Reads (SpellsVariants 2) k old entries middle)
    (are : AreCounts 2 entries counts) (first_count : k0 ≡ get_or counts 0 0) (first : Reads (Spells s) k0 middle ds left) (second_count : k1 ≡ get_or counts 1 0)
    (second : Reads (Spells u) k1 left es new) (a b c : Bool) (variants_told : IsTrue a ↔ (old ≡ variant_text 2 entries ++ middle))
    (first_told : JudgesData s ds b middle left) (second_told : JudgesData u es c left new) where
  both_payloads : ReadsPayloads (shape_and s (shape_and u no_shapes)) 0 entries middle (ds ∷ es ∷ []) new
  both_payloads = record {
    middle = left;
    first = subst (λ n. Reads (Spells s) n middle ds left) (first_count ∙ are.each 0 (omega arith)) first;
    behind = record { middle = new; first = subst (λ n. Reads (Spells u) n left es new) (second_count ∙ are.each 1 (omega arith)) second; behind = refl };
  }

  pub judges_two : JudgesData (choice_shape (shape_and s (shape_and u no_shapes))) (choices_of entries (ds ∷ es ∷ [])) ((a && b) && c) old new
  judges_two =
      subst (λ w. JudgesData (choice_shape (shape_and s (shape_and u no_shapes))) (choices_of entries (ds ∷ es ∷ [])) w old new) (three_answers a b c)
      (judges_choices (shape_and s (shape_and u no_shapes)) (ds ∷ es ∷ []) new a (b && (c && true)) read both_payloads variants_told (record {
        middle = left;
        first_written = b;
        second_written = c && true;
        both = refl;
        first = first_told;
        second = record { middle = new; first_written = c; second_written = true; both = refl; first = second_told; second = (refl, refl) };
      }))
