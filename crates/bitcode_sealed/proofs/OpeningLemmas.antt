-- What was sealed is refused only for want of memory.
use Rattle.std.proofs.Common.{◌≡◌, ◌≢◌, Bool, ℕ, ◌+◌, ◌^◌, ◌<◌, ◌≤◌, List, [], ◌++◌, length, refl, sym, ap, subst, ◌∙◌, arith, append-nil}
use Rattle.bitcode_memory.specs.declared.error.Reason.{Reason}
use Rattle.bitcode_memory.specs.declared.error.Reason.TheVariants.{OutOfMemory}
use Rattle.bitcode_shapes.specs.Datum.{Datum}
use Rattle.bitcode_shapes.specs.Shape.{Shape}
use Rattle.bitcode_derive.specs.Whole.{SpellsDatum}
use Rattle.bitcode_sealed.specs.declared.label.Expected.{Expected}
use Rattle.bitcode_sealed.specs.declared.error.OpenError.{OpenError}
use Rattle.bitcode_sealed.specs.ErrorClasses.{IsOutOfMemory}
use Rattle.bitcode_sealed.specs.Layout.{sealed}
use Rattle.bitcode_sealed.specs.Faults.{IsSealedFront}
use Rattle.bitcode_sealed.specs.Opening.{IsRefusal, all_not_sealed, bytes_left_over, all_not_decoded}
use Rattle.bitcode_sealed.proofs.AgainLemmas.{only_value}
use Rattle.bitcode_sealed.proofs.NoFaultLemmas.{LabelFits, long, no_fault}

module _ (expected : Expected) (fits : LabelFits expected.label) (encoding bytes : List ℕ) (below : length bytes < 256 ^ 8) (is : bytes ≡ sealed expected.label encoding)
    (room : length bytes ≤ expected.most_bytes + 24) where
  whole : bytes ≡ sealed expected.label encoding ++ []
  whole = is ∙ sym (append-nil (sealed expected.label encoding))

  size : length bytes ≡ 24 + (length encoding + 0)
  size = long expected.label fits encoding [] bytes below whole

  same_value : (value rest : List ℕ) → IsSealedFront expected bytes value rest → value ≡ encoding
  same_value value rest front = only_value expected.label expected.label encoding value rest bytes below is front.whole

  pub only_for_memory : (free : Bool) (own shape : Shape) (fault : OpenError)
      → ((reason : Reason) → (reason ≢ OutOfMemory → (d : Datum) → SpellsDatum shape encoding d → ⊥) → reason ≡ OutOfMemory)
      → IsRefusal free own shape expected bytes fault → IsOutOfMemory fault
  only_for_memory free own shape fault memory (all_not_sealed f) =
      let short : length encoding ≤ expected.most_bytes = omega (arith, size, room) in
      absurd (no_fault expected.label fits encoding [] bytes below whole expected fault refl short f)
  only_for_memory free own shape fault memory (bytes_left_over value rest _ front some) =
      let more = long expected.label fits value rest bytes below front.whole in
      absurd (omega (arith, some, more, size, ap length (same_value value rest front)))
  only_for_memory free own shape fault memory (all_not_decoded value front refusal) =
      let same = same_value value [] front in
      subst IsOutOfMemory (sym refusal.named)
      (memory refusal.error.reason (λ other d spelled. refusal.refused other d (subst (λ b. SpellsDatum shape b d) (sym same) spelled)))
