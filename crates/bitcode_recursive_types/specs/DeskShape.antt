-- The shapes of `Desk`, and the content of their values. Written by `scripts/second_format`.
use Rattle.std.specs.Prelude.{ℕ, map, refl}
use Rattle.std.specs.BinaryHeap.{heap_items}
use Rattle.bitcode_serde_types.specs.Heaps.{heap_tree}
use Rattle.bitcode_serde_types.specs.Limited.{array_string_tree, array_string_datum, array_vec_tree}
use Rattle.bitcode_serde_types.specs.Uuids.{uuid_tree, uuid_datum}
use Rattle.bitcode_serde_types.specs.Written.{Datum, list, tuple, no_data, datum_and, data_of, width_1, width_4, natural, ShapeTree, natural_tree, tuple_tree, no_trees, tree_and, IsSound}
use Rattle.bitcode_recursive_types.specs.declared.desk.Desk.{Desk}

-- the shape of `Desk`
abbrev pub desk_tree : ℕ → ShapeTree
desk_tree left = tuple_tree (tree_and uuid_tree (tree_and (array_string_tree 12) (tree_and (array_vec_tree 4 (natural_tree 1)) (tree_and (heap_tree (natural_tree 4)) no_trees))))

abbrev pub desk_datum : Desk → Datum
desk_datum t = tuple (datum_and (uuid_datum t.id) (datum_and (array_string_datum t.label) (datum_and (list (data_of (map natural t.open.items))) (datum_and (list (data_of (map natural (heap_items t.waiting)))) no_data))))

pub desk_sound : (left : ℕ) → IsSound (desk_tree left)
desk_sound left = ((width_1, refl), ((tt, refl), ((width_1, refl), ((width_4, refl), tt))))
