-- Lists of values of any type.
use Rattle.std.proofs.Common.{◌≡◌, List, map, ap, ◌∙◌}
use Rattle.std.specs.List.{flat_map}
use Rattle.std.proofs.lemmas.List.Folds.{flat_map-map}
use Rattle.bitcode_shapes.specs.Datum.{Datum, list, data_of}
use Rattle.bitcode_untyped.specs.ShapeTree.{ShapeTree, seq_tree}
use Rattle.bitcode_serde.proofs.SerializeLemmas.{listed}
use Rattle.bitcode_serde_types.specs.DeepFaults.{deep_faults}

pub seq_faults : {A : Type 0} (s : ShapeTree) (datum : A → Datum) (xs : List A)
    → deep_faults (seq_tree s) (list (data_of (map datum xs))) ≡ flat_map (λ x. deep_faults s (datum x)) xs
seq_faults s datum xs = ap (flat_map (deep_faults s)) (listed (map datum xs)) ∙ flat_map-map (deep_faults s) datum xs
