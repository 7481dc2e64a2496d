-- Bytes with a value sealed at their front have no fault.
use Rattle.std.proofs.Common.{◌≡◌, ℕ, ◌+◌, ◌^◌, ◌<◌, ◌≤◌, List, ◌++◌, length, take, drop, refl, sym, ap, subst, ◌∙◌, arith, length-append, append_assoc}
use Rattle.std.proofs.lemmas.List.{take_at, drop_at}
use Rattle.bitcode_memory.specs.LittleEndian.{number_bytes}
use Rattle.bitcode_memory.proofs.LittleEndianLemmas.{length-number_bytes}
use Rattle.bitcode_sealed.specs.declared.label.Label.{Label}
use Rattle.bitcode_sealed.specs.declared.label.Expected.{Expected}
use Rattle.bitcode_sealed.specs.declared.head.Head.{Head}
use Rattle.bitcode_sealed.specs.declared.error.OpenError.{OpenError}
use Rattle.bitcode_sealed.specs.Crc.{crc_32}
use Rattle.bitcode_sealed.specs.Layout.{checked, head_bytes, sealed, BeginsAsSealed, BeginsWithHead}
use Rattle.bitcode_sealed.specs.Faults.{IsHeadFault, not_sealed, head_cut_off, head_damaged, IsMismatch, another_kind, another_version, too_long, IsValueFault, cut_off, value_damaged, IsWholeFault, whole_in_head, whole_in_value, IsFault, in_head, in_label, in_value}
use Rattle.bitcode_sealed.proofs.DamageLemmas.{length-checked, length-head_bytes}
use Rattle.bitcode_sealed.proofs.AgainLemmas.{same_head}

-- the numbers of a label fit in their bytes
pub record LabelFits (label : Label) : Type 0 where
  pub kind : label.kind < 256 ^ 4
  pub version : label.version < 256 ^ 2

head_begins : (head : Head) (behind : List ℕ) → BeginsAsSealed (head_bytes head ++ behind)
unfolding checked
head_begins head behind = refl

-- what stands behind a head where the value is intact is not damaged
intact : (head : Head) (value rest was stored more : List ℕ) → head_bytes head ++ (checked value ++ rest) ≡ head_bytes head ++ (was ++ (stored ++ more))
    → length was ≡ length value → length stored ≡ 4 → stored ≡ number_bytes 4 (crc_32 was)
unfolding checked
intact head value rest was stored more same size four =
    let sum = number_bytes 4 (crc_32 value) in
    let behind : value ++ (sum ++ rest) ≡ was ++ (stored ++ more) =
    sym (append_assoc value sum rest) ∙ sym (drop_at (head_bytes head) (checked value ++ rest) 20 (length-head_bytes head)) ∙ ap (drop 20) same
    ∙ drop_at (head_bytes head) (was ++ (stored ++ more)) 20 (length-head_bytes head) in
    let values : value ≡ was =
    sym (take_at value (sum ++ rest) (length value) refl) ∙ ap (take (length value)) behind ∙ take_at was (stored ++ more) (length value) size in
    let sums : sum ++ rest ≡ stored ++ more =
    sym (drop_at value (sum ++ rest) (length value) refl) ∙ ap (drop (length value)) behind ∙ drop_at was (stored ++ more) (length value) size in
    sym (take_at stored more 4 four) ∙ ap (take 4) (sym sums) ∙ take_at sum rest 4 (length-number_bytes 4 (crc_32 value)) ∙ ap (λ v. number_bytes 4 (crc_32 v)) values

module _ (label : Label) (fits : LabelFits label) (value rest input : List ℕ) (below : length input < 256 ^ 8) (whole : input ≡ sealed label value ++ rest) where
  the_head : Head
  the_head = record { label = label; size = length value }

  parts : input ≡ head_bytes (record { label = label; size = length value }) ++ (checked value ++ rest)
  unfolding sealed
  parts = whole ∙ append_assoc (head_bytes (record { label = label; size = length value })) (checked value) rest

  pub long : length input ≡ 24 + (length value + length rest)
  long =
      let head : Head = record { label = label; size = length value } in
      omega (arith, ap length parts, length-append (head_bytes head) (checked value ++ rest), length-append (checked value) rest, length-head_bytes head, length-checked value)

  pub begins : BeginsWithHead (record { label = label; size = length value }) input
  begins = record { kind_fits = fits.kind; version_fits = fits.version; size_fits = omega (arith, long, below); behind = checked value ++ rest; whole = parts }

  the_only_head : (head : Head) → BeginsWithHead head input → head ≡ record { label = label; size = length value }
  the_only_head head again = same_head head (record { label = label; size = length value }) input again begins

  no_head_fault : (fault : OpenError) → IsHeadFault input fault → ⊥
  no_head_fault fault (not_sealed _ none) = none (subst BeginsAsSealed (sym parts) (head_begins (record { label = label; size = length value }) (checked value ++ rest)))
  no_head_fault fault (head_cut_off _ _ short) = absurd (omega (arith, short, long))
  no_head_fault fault (head_damaged _ _ _ none) = none (record { label = label; size = length value }) begins

  no_value_fault : (head : Head) (fault : OpenError) → BeginsWithHead head input → IsValueFault head input fault → ⊥
  no_value_fault head fault again (cut_off _ short) =
      let size : head.size ≡ length value = ap (λ h. h.size) (the_only_head head again) in
      absurd (omega (arith, short, size, long))
  no_value_fault head fault again (value_damaged was stored more _ is size four differs) =
      let own : Head = record { label = label; size = length value } in
      let same : head ≡ own = the_only_head head again in
      differs (intact own value rest was stored more (sym parts ∙ is ∙ ap (λ h. head_bytes h ++ (was ++ (stored ++ more))) same) (size ∙ ap (λ h. h.size) same) four)

  pub no_whole_fault : (fault : OpenError) → IsWholeFault input fault → ⊥
  no_whole_fault fault (whole_in_head f) = no_head_fault fault f
  no_whole_fault fault (whole_in_value head again f) = no_value_fault head fault again f

  no_mismatch : (expected : Expected) (head : Head) (fault : OpenError) → expected.label ≡ label → length value ≤ expected.most_bytes
      → BeginsWithHead head input → IsMismatch expected head fault → ⊥
  no_mismatch expected head fault same short again (another_kind _ differs) =
      differs (ap (λ h. h.label.kind) (the_only_head head again) ∙ ap (λ l. l.kind) (sym same))
  no_mismatch expected head fault same short again (another_version _ _ differs) =
      differs (ap (λ h. h.label.version) (the_only_head head again) ∙ ap (λ l. l.version) (sym same))
  no_mismatch expected head fault same short again (too_long _ _ _ more) =
      let size : head.size ≡ length value = ap (λ h. h.size) (the_only_head head again) in
      absurd (omega (arith, more, size, short))

  pub no_fault : (expected : Expected) (fault : OpenError) → expected.label ≡ label → length value ≤ expected.most_bytes → IsFault expected input fault → ⊥
  no_fault expected fault same short (in_head f) = no_head_fault fault f
  no_fault expected fault same short (in_label head again f) = no_mismatch expected head fault same short again f
  no_fault expected fault same short (in_value head again _ f) = no_value_fault head fault again f
