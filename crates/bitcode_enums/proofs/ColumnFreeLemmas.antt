-- The elements without columns inside an enum are those inside the payloads of each variant, counted one variant after another.
use Rattle.std.proofs.Common.{◌≡◌, ℕ, zero, suc, ◌+◌, ◌<◌, ◌≤◌, List, [], ◌∷◌, length, slice_set, refl, sym, ap, subst, ◌∙◌, arith}
use Rattle.bitcode_columns.specs.Reading.{Reads}
use Rattle.bitcode_columns.specs.VariantColumn.{SpellsVariants}
use Rattle.bitcode_shapes.specs.Datum.{Datum}
use Rattle.bitcode_shapes.specs.Shape.{Shapes, no_shapes, shape_and, choice_shape, variant_count}
use Rattle.bitcode_coder.specs.ColumnFree.{free_count, saturated}
use Rattle.bitcode_parts.specs.Payloads.{payloads_of, choices_of, ReadsPayloads}
use Rattle.bitcode_parts.proofs.ColumnFreeLemmas.{free_in_lists, free_choices}
use Rattle.bitcode_enums.specs.ByNumber.{shape_at, KeepsOthers}

-- how many there are in the payloads of the variants up to a place
abbrev pub free_to : ℕ → Shapes → List (List Datum) → ℕ
free_to zero ss lists = 0
free_to (suc place) no_shapes lists = 0
free_to (suc place) (shape_and s ss) [] = 0
free_to (suc place) (shape_and s ss) (ds ∷ lists) = free_count s ds + free_to place ss lists

free_set : (place : ℕ) (ss : Shapes) (lists : List (List Datum)) (ds : List Datum) → place < variant_count ss → place < length lists
    → free_to (suc place) ss (slice_set lists place ds) ≡ free_to place ss lists + free_count (shape_at place ss) ds
free_set place no_shapes lists ds below among = absurd (omega (arith, below))
free_set place (shape_and s ss) [] ds below among = absurd (omega (arith, among))
free_set zero (shape_and s ss) (x ∷ lists) ds below among = let e : free_count s ds + 0 ≡ 0 + free_count s ds = omega arith in e
free_set (suc place) (shape_and s ss) (x ∷ lists) ds below among =
    let rest = free_set place ss lists ds (omega (arith, below)) (omega (arith, among)) in
    let e : free_count s x + free_to (suc place) ss (slice_set lists place ds) ≡ (free_count s x + free_to place ss lists) + free_count (shape_at place ss) ds = omega (arith, rest) in e

free_whole : (place : ℕ) (ss : Shapes) (lists : List (List Datum)) → variant_count ss ≤ place → free_to place ss lists ≡ free_in_lists ss lists
free_whole zero no_shapes lists past = refl
free_whole zero (shape_and s ss) lists past = absurd (omega (arith, past))
free_whole (suc place) no_shapes lists past = refl
free_whole (suc place) (shape_and s ss) [] past = refl
free_whole (suc place) (shape_and s ss) (ds ∷ lists) past = ap (λ n. free_count s ds + n) (free_whole place ss lists (omega (arith, past)))

pub counted_none : (ss : Shapes) (lists : List (List Datum)) → 0 ≡ saturated (free_to 0 ss lists)
counted_none ss lists = let e : 0 ≡ saturated 0 = omega arith in e

-- with the payloads of one more variant
pub counted_next : (place : ℕ) (ss : Shapes) (lists new_lists : List (List Datum)) (old new : ℕ) → place < variant_count ss → place < length lists
    → KeepsOthers [] place lists new_lists → old ≡ saturated (free_to place ss lists)
    → new ≡ saturated (old + free_count (shape_at place ss) (payloads_of place new_lists)) → new ≡ saturated (free_to (suc place) ss new_lists)
counted_next place ss lists new_lists old new below among others before told =
    let all = ap (free_to (suc place) ss) others ∙ free_set place ss lists (payloads_of place new_lists) below among in
    omega (arith, all, before, told)

-- with those of all variants
pub counted_all : (ss : Shapes) (count k : ℕ) (old : List ℕ) → variant_count ss ≡ count → (entries middle : List ℕ) → Reads (SpellsVariants count) k old entries middle
    → (lists : List (List Datum)) (rest : List ℕ) → ReadsPayloads ss 0 entries middle lists rest → (place free : ℕ) → variant_count ss ≤ place
    → free ≡ saturated (free_to place ss lists) → saturated free ≡ saturated (free_count (choice_shape ss) (choices_of entries lists))
counted_all ss count k old counted entries middle read lists rest payloads place free past told =
    let whole = free_whole place ss lists past in
    let choices =
    free_choices ss lists rest (subst (λ n. Reads (SpellsVariants n) k old entries middle) (sym counted) read) payloads in
    ap saturated told ∙ (let e : saturated (saturated (free_to place ss lists)) ≡ saturated (free_to place ss lists) = omega arith in e)
    ∙ ap saturated (whole ∙ sym choices)
