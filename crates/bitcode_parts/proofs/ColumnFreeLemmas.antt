-- The elements without columns inside choices are those inside the payloads.
use Rattle.std.proofs.Common.{◌≡◌, ℕ, zero, suc, ◌+◌, ◌<◌, List, [], ◌∷◌, length, get_or, refl, sym, ap, ap₂, subst, ◌∙◌, arith}
use Rattle.bitcode_columns.specs.Histogram.{AreCounts, count_of}
use Rattle.bitcode_columns.specs.Reading.{Reads}
use Rattle.bitcode_columns.specs.VariantColumn.{SpellsVariants}
use Rattle.bitcode_shapes.specs.BareVariants.{unit_shapes, bare_shape}
use Rattle.bitcode_shapes.specs.Datum.{Datum}
use Rattle.bitcode_shapes.specs.Shape.{Shape, Shapes, no_shapes, shape_and, choice_shape, variant_count}
use Rattle.bitcode_coder.specs.ColumnFree.{free_count, free_in_payloads, saturated}
use Rattle.bitcode_coder.specs.Transposition.{payloads}
use Rattle.bitcode_coder.specs.Spelling.{Spells}
use Rattle.bitcode_coder.proofs.ColumnFreeLemmas.{saturated_sum}
use Rattle.bitcode_parts.specs.Payloads.{payloads_of, choices_of, ReadsPayloads}
use Rattle.bitcode_parts.proofs.ChoiceLemmas.{Recovers, recovers}
use Rattle.bitcode_parts.proofs.ChoiceReadingLemmas.{length-lists, length-lists_at}

-- how many there are in the lists of payloads, one list for each variant
abbrev pub free_in_lists : Shapes → List (List Datum) → ℕ
free_in_lists no_shapes lists = 0
free_in_lists (shape_and s ss) [] = 0
free_in_lists (shape_and s ss) (ds ∷ lists) = free_count s ds + free_in_lists ss lists

free_payloads : (shapes : Shapes) (index : ℕ) (lists : List (List Datum)) (ds : List Datum) → length lists ≡ variant_count shapes
    → ((v : ℕ) → v < variant_count shapes → payloads (index + v) ds ≡ payloads_of v lists) → free_in_payloads shapes index ds ≡ free_in_lists shapes lists
free_payloads no_shapes index lists ds size are = refl
free_payloads (shape_and s ss) index [] ds size are = absurd (omega (arith, size))
free_payloads (shape_and s ss) index (ps ∷ lists) ds size are =
    ap₂ (λ xs n. free_count s xs + n)
    (ap (λ i. payloads i ds) (let e : index ≡ index + 0 = omega arith in e) ∙ are 0 (omega arith))
    (free_payloads ss (suc index) lists ds (omega (arith, size))
    (λ v below. ap (λ i. payloads i ds) (let e : suc index + v ≡ index + suc v = omega arith in e) ∙ are (suc v) (omega (arith, below))))

pub free_choices : (shapes : Shapes) {k : ℕ} {old middle entries : List ℕ} (lists : List (List Datum)) (new : List ℕ)
    → Reads (SpellsVariants (variant_count shapes)) k old entries middle → ReadsPayloads shapes 0 entries middle lists new
    → free_count (choice_shape shapes) (choices_of entries lists) ≡ free_in_lists shapes lists
free_choices shapes {entries = entries} lists new q r =
    let ds = choices_of entries lists in
    let found : Recovers (variant_count shapes) entries lists ds = recovers (variant_count shapes) entries lists (record {
      lists_are = length-lists shapes 0 entries _ lists new r;
      known = q.spelled.known;
      enough = λ v below. length-lists_at shapes 0 entries _ lists new r v below ∙ ap (λ i. count_of i entries) (let e : 0 + v ≡ v = omega arith in e);
    }) in
    free_payloads shapes 0 lists ds (length-lists shapes 0 entries _ lists new r)
    (λ v below. ap (λ i. payloads i ds) (let e : 0 + v ≡ v = omega arith in e) ∙ found.payloads_are v below)

-- payloads that are units contain none
free_units : (count index : ℕ) (ds : List Datum) → free_in_payloads (unit_shapes count) index ds ≡ 0
free_units zero index ds = refl
free_units (suc count) index ds =
    let rest = free_units count (suc index) ds in
    let none : 0 + free_in_payloads (unit_shapes count) (suc index) ds ≡ 0 = omega (arith, rest) in
    none

pub counts_bare : (count : ℕ) (ds : List Datum) → saturated 0 ≡ saturated (free_count (bare_shape count) ds)
counts_bare count ds = ap saturated (sym (free_units count 0 ds))

-- of two variants
module _ (s u : Shape) {k k0 k1 : ℕ} {old middle left new entries counts : List ℕ} {ds es : List Datum} (read : Reads (SpellsVariants 2) k old entries middle)
    (are : AreCounts 2 entries counts) (first_count : k0 ≡ get_or counts 0 0) (first : Reads (Spells s) k0 middle ds left) (second_count : k1 ≡ get_or counts 1 0)
    (second : Reads (Spells u) k1 left es new) where
  pub counts_two : (a b : ℕ) → saturated a ≡ saturated (free_count s ds) → saturated b ≡ saturated (free_count u es)
      → saturated (a + b) ≡ saturated (free_count (choice_shape (shape_and s (shape_and u no_shapes))) (choices_of entries (ds ∷ es ∷ [])))
  counts_two a b first_counted second_counted =
      saturated_sum a (free_count s ds) b (free_count u es) first_counted second_counted
      ∙ ap saturated (let e : free_count s ds + free_count u es ≡ free_count s ds + (free_count u es + 0) = omega arith in e)
      ∙ ap saturated (sym (free_choices (shape_and s (shape_and u no_shapes)) (ds ∷ es ∷ []) new read (record {
        middle = left;
        first = subst (λ n. Reads (Spells s) n middle ds left) (first_count ∙ are.each 0 (omega arith)) first;
        behind = record { middle = new; first = subst (λ n. Reads (Spells u) n left es new) (second_count ∙ are.each 1 (omega arith)) second; behind = refl };
      })))

  -- the payloads of the first variant contain none
  pub counts_second : (b : ℕ) → free_count s ds ≡ 0 → saturated b ≡ saturated (free_count u es)
      → saturated b ≡ saturated (free_count (choice_shape (shape_and s (shape_and u no_shapes))) (choices_of entries (ds ∷ es ∷ [])))
  counts_second b none counted =
      ap saturated (let e : b ≡ 0 + b = omega arith in e) ∙ counts_two 0 b (ap saturated (sym none)) counted
