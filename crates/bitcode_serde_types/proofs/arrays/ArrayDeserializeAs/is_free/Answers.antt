-- Several fields have no column if one has none.
use Rattle.std.proofs.Common.{◌∙◌}
use Rattle.bitcode_serde_types.proofs.AlikeLemmas.{repeated_free}
use Rattle.bitcode_serde_types.proofs.arrays.ArrayDeserializeAs.is_free.Goals as goal

pub returns : goal.returns
returns g c = λ left. c.is_free.ensures left ∙ repeated_free g.row.N (g.T.HasShape.tree left) c.if-this-eq0.false
