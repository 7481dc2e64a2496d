-- Bytes of version 1 are opened and refused as version 1.
use Rattle.std.proofs.Common.{refl, inl, inr, arith}
use Rattle.bitcode_sealed.specs.Versions.{earlier_not_opened, not_upgraded}
use Rattle.bitcode_changed_types.proofs.opened.first_job_again.Goals as goal

pub earlier_comes_back-requires : goal.earlier_comes_back-requires
earlier_comes_back-requires c κs = (
  (refl, tt),
  (
    λ e b t v o. elim o [ inl x ↦ absurd (omega (arith, v, x.of_version)) | inr x ↦ x ],
    λ e b f v r. elim r [ inl x ↦ elim x [ earlier_not_opened h _ ↦ absurd (omega (arith, v, h)) | not_upgraded h _ ↦ absurd (omega (arith, v, h)) ] | inr x ↦ record { makes_free = _; own = _; refusal = x } ],
  ),
)
