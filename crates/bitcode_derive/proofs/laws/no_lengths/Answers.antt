use Rattle.std.proofs.Common.{[], ◌∷◌}
use Rattle.bitcode_derive.proofs.ShortLengthLemmas.{no_lengths_below}
use Rattle.bitcode_derive.proofs.laws.no_lengths.Goals as goal

pub returns : goal.returns
returns g c none d listed = no_lengths_below g.T.Shaped.data.shape none (d ∷ [])
