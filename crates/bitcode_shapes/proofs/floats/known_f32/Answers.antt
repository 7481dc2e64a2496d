-- What a float's type says of it.
use Rattle.std.proofs.Common.{sym, subst}
use lib.Dec.{T}
use Rattle.bitcode_shapes.proofs.floats.known_f32.Goals as goal

pub returns : goal.returns
returns c = subst T (sym c.well_formed.0.1) tt
