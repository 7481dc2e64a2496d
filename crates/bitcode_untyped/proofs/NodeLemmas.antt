-- How many nodes there are in several data.
use Rattle.std.proofs.Common.{◌≡◌, ◌+◌, List, [], ◌∷◌, ◌++◌, arith}
use Rattle.bitcode_shapes.specs.Datum.{Datum, data_of}
use Rattle.bitcode_untyped.specs.Nodes.{node_count, node_counts}

pub node_counts-push : (ds : List Datum) (d : Datum) → node_counts (data_of (ds ++ d ∷ [])) ≡ node_counts (data_of ds) + node_count d
node_counts-push [] d = omega arith
node_counts-push (e ∷ ds) d = let h = node_counts-push ds d in omega (arith, h)
