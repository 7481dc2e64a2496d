-- Variants are read, and then the payloads of each; a value is made of the next payload of its variant.
use Rattle.std.proofs.Common.{◌≡◌, ℕ, ◌<◌, List, [], ◌∷◌, length, refl, sym, ap, subst, inl, inr, arith}
use Rattle.bitcode_memory.specs.declared.error.Reason.{Reason}
use Rattle.bitcode_columns.specs.Histogram.{AreCounts}
use Rattle.bitcode_columns.specs.Reading.{Reads, NamesVariantFault}
use Rattle.bitcode_columns.specs.VariantColumn.{SpellsVariants}
use Rattle.bitcode_shapes.specs.Datum.{Datum}
use Rattle.bitcode_shapes.specs.Shape.{Shapes, choice_shape, variant_count}
use Rattle.bitcode_coder.specs.Faults.{NamesVariantsFault}
use Rattle.bitcode_coder.specs.FirstFault.{IsFirstFault, IsPayloadsFault}
use Rattle.bitcode_coder.specs.Spelling.{Spells}
use Rattle.bitcode_coder.specs.Coder.{IsReadingRefusal}
use Rattle.bitcode_parts.specs.Payloads.{payloads_of, choices_of, ReadsPayloads, IsPayloadsRefusal}
use Rattle.bitcode_parts.proofs.ChoiceLemmas.{choices_of-none}
use Rattle.bitcode_parts.proofs.ChoiceReadingLemmas.{reads_choices, refuses_variants, refuses_payloads}
use Rattle.bitcode_enums.specs.Reading.{CountsEach}

-- ---- the payloads of variants

-- as many were read of each variant as were counted
pub counts_each : (count : ℕ) (entries given counts : List ℕ) → AreCounts count entries counts → given ≡ counts → CountsEach entries given
counts_each count entries given counts are is =
    subst (CountsEach entries) (sym is) (λ variant below. are.each variant (let size = are.size in omega (arith, size, below)))

-- ---- the whole enum

module _ (ss : Shapes) (count k : ℕ) (old : List ℕ) (counted : variant_count ss ≡ count) where
  pub refuses_enum_variants : (reason : Reason) → NamesVariantsFault count reason k old → IsReadingRefusal (choice_shape ss) reason k old
  refuses_enum_variants reason fault = refuses_variants ss reason k old (subst (λ n. NamesVariantFault reason n k old) (sym counted) fault.named)

  pub fault_of_variants : (reason : Reason) → NamesVariantsFault count reason k old → IsFirstFault (choice_shape ss) reason k old
  fault_of_variants reason fault = inl (subst (λ n. NamesVariantsFault n reason k old) (sym counted) fault)

  module _ (entries middle : List ℕ) (read : Reads (SpellsVariants count) k old entries middle) where
    variants_read : Reads (SpellsVariants (variant_count ss)) k old entries middle
    variants_read = subst (λ n. Reads (SpellsVariants n) k old entries middle) (sym counted) read

    pub reads_enum : (lists : List (List Datum)) (new : List ℕ) → ReadsPayloads ss 0 entries middle lists new
        → Reads (Spells (choice_shape ss)) k old (choices_of entries lists) new
    reads_enum lists new payloads = reads_choices ss lists new variants_read payloads

    pub refuses_enum_payloads : (reason : Reason) → IsPayloadsRefusal ss 0 entries reason middle → IsReadingRefusal (choice_shape ss) reason k old
    refuses_enum_payloads reason refused = refuses_payloads ss reason variants_read refused

    pub fault_of_payloads : (reason : Reason) → IsPayloadsFault ss reason 0 entries middle → IsFirstFault (choice_shape ss) reason k old
    fault_of_payloads reason fault = inr (record { entries = entries; rest = middle; read = variants_read; fault = fault })

-- ---- making a value

-- a choice that is left has a payload
pub some_payload : (variant : ℕ) (entries : List ℕ) (lists : List (List Datum)) → 0 < length (choices_of (variant ∷ entries) lists) → 0 < length (payloads_of variant lists)
some_payload variant entries lists left = split (payloads_of variant lists) refl
  where
    split : (ds : List Datum) → payloads_of variant lists ≡ ds → 0 < length (payloads_of variant lists)
    split [] is = absurd (omega (arith, left, ap length (choices_of-none variant entries lists is)))
    split (d ∷ ds) is = omega (arith, ap length is)
