use Rattle.std.proofs.Common.{All}
use Rattle.bitcode_shapes.specs.Pairs.{IsPairValue}
use Rattle.bitcode_shapes.proofs.maps.BTreeMapShaped.told.Given as goal

-- the entries are values if what is left is
abbrev pub invariant-loop-key : goal.invariant-loop-key
invariant-loop-key g l = All (IsPairValue g.K.Shaped.data.is_value g.V.Shaped.data.is_value) l.key-iterator → All (IsPairValue g.K.Shaped.data.is_value g.V.Shaped.data.is_value) l.fn.self.entries
