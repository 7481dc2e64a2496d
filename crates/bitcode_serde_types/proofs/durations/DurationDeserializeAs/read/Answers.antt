-- The duration has the seconds and the nanoseconds that were read.
use Rattle.std.proofs.Common.{ap, ◌∙◌}
use Rattle.bitcode_shapes.specs.Datum.{pair}
use Rattle.bitcode_coder.specs.Spelling.{natural}
use Rattle.bitcode_serde_types.specs.Durations.{duration_datum}
use Rattle.bitcode_serde_types.proofs.KeptLemmas.{kept_otherwise}
use Rattle.bitcode_serde_types.proofs.NumberLemmas.{duration_made}
use Rattle.bitcode_serde_types.proofs.durations.DurationDeserializeAs.read.Goals as goal

pub returns-clause-read : goal.returns-clause-read
returns-clause-read c =
    let parts = c.in_ok-parts.parts in
    kept_otherwise _ (λ t. pair (natural t.0) (natural t.1.nanos)) duration_datum _ _ _ parts c.new.result
    (duration_made c.new.result parts.0 c.into_inner.result c.new.ensures c.into_inner.ensures.below
    ∙ ap (λ n. pair (natural parts.0) (natural n)) c.into_inner.ensures.value) c.in_ok-parts.ensures.read
