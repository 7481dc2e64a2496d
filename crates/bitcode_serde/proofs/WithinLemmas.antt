-- Refusals under a limit on nodes.
use Rattle.std.proofs.Common.{◌≢◌, ℕ, ◌<◌, refl, subst}
use Rattle.bitcode_memory.specs.declared.error.Reason.{Reason}
use Rattle.bitcode_memory.specs.declared.error.Reason.TheVariants.{TooManyNodes, OutOfMemory}
use Rattle.bitcode_shapes.specs.Datum.{Datum}
use Rattle.bitcode_untyped.specs.Nodes.{node_count}
use Rattle.bitcode_serde.specs.ReadingValues.{IsValueReason, IsRefusalWithin}

-- a refusal without a limit is one under it
pub refused_too : (limit : ℕ) (Spells : Datum → Type 0) (why : Reason) → IsValueReason why × (why ≢ OutOfMemory → (d : Datum) → Spells d → ⊥)
    → IsRefusalWithin limit Spells why
refused_too limit Spells why h = record {
  known = λ other. h.0;
  too_many = λ is. let never : ⊥ = subst IsValueReason is h.0 in absurd never;
  none_spelled = λ other memory. h.1 memory;
}

pub too_many_refused : (limit : ℕ) (Spells : Datum → Type 0) (d : Datum) → Spells d → limit < node_count d → IsRefusalWithin limit Spells TooManyNodes
too_many_refused limit Spells d spelled over = record {
  known = λ other. absurd (other refl);
  too_many = λ is. (d, spelled, over);
  none_spelled = λ other memory. absurd (other refl);
}
