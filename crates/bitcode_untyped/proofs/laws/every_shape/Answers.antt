-- By the nodes.
use Rattle.bitcode_untyped.proofs.SoundTreeLemmas.{sound_shape}
use Rattle.bitcode_untyped.proofs.laws.every_shape.Goals as goal

pub returns : goal.returns
returns c = sound_shape
