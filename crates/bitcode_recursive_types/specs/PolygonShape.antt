-- The shapes of `Polygon`, `Corner`, `Fill`, and the content of their values. Written by `scripts/second_format`.
use Rattle.std.specs.Prelude.{ℕ, map, string_bytes}
use Rattle.std.specs.Box.{boxed_str_bytes}
use Rattle.bitcode_serde_types.specs.Written.{Datum, unit, number, text, list, tuple, choice, no_data, datum_and, data_of, width_4, width_8, natural, ShapeTree, ShapeTrees, unit_tree, natural_tree, integer_tree, text_tree, seq_tree, option_tree, tuple_tree, choice_tree, no_trees, tree_and, IsSound, option_datum, KeepsAll}
use Rattle.bitcode_recursive_types.specs.declared.polygon.Polygon.{Polygon}
use Rattle.bitcode_recursive_types.specs.declared.polygon.Corner.{Corner}
use Rattle.bitcode_recursive_types.specs.declared.polygon.Fill.{Fill}
use Rattle.bitcode_recursive_types.specs.declared.polygon.Fill.TheVariants as fill'

-- the shape of `Corner`
abbrev pub corner_tree : ℕ → ShapeTree
corner_tree left = tuple_tree (tree_and (integer_tree 4) (tree_and (integer_tree 4) no_trees))

abbrev pub corner_datum : Corner → Datum
corner_datum t = tuple (datum_and (number t.x) (datum_and (number t.y) no_data))

pub corner_sound : (left : ℕ) → IsSound (corner_tree left)
corner_sound left = (width_4, (width_4, tt))

-- a value keeps all that was read: no map or heap is in it
pub corner_plain : (left : ℕ) → KeepsAll (corner_tree left)
corner_plain left = (tt, (tt, tt))

-- what each variant of `Fill` holds
abbrev pub fill_trees : ℕ → ShapeTrees
fill_trees left = (tree_and unit_tree (tree_and (natural_tree 4) (tree_and (tuple_tree (tree_and text_tree (tree_and (integer_tree 8) no_trees))) no_trees)))

-- the shape of `Fill`
abbrev pub fill_tree : ℕ → ShapeTree
fill_tree left = choice_tree (fill_trees left)

abbrev pub fill_datum : Fill → Datum
fill_datum fill'.Nothing = choice 0 unit
fill_datum (fill'.Colour x0) = choice 1 (natural x0)
fill_datum (fill'.Pattern x0 x1) = choice 2 (tuple (datum_and (text (string_bytes x0)) (datum_and (number x1) no_data)))

pub fill_sound : (left : ℕ) → IsSound (fill_tree left)
fill_sound left = (tt, (width_4, ((tt, (width_8, tt)), tt)))

-- a value keeps all that was read: no map or heap is in it
pub fill_plain : (left : ℕ) → KeepsAll (fill_tree left)
fill_plain left = (tt, (tt, ((tt, (tt, tt)), tt)))

-- the shape of `Polygon`
abbrev pub polygon_tree : ℕ → ShapeTree
polygon_tree left = tuple_tree (tree_and (seq_tree (corner_tree left)) (tree_and (fill_tree left) (tree_and (option_tree text_tree) no_trees)))

abbrev pub polygon_datum : Polygon → Datum
polygon_datum t = tuple (datum_and (list (data_of (map corner_datum t.corners.items))) (datum_and (fill_datum t.fill) (datum_and ((option_datum (λ s. text (boxed_str_bytes s))) t.label) no_data)))

pub polygon_sound : (left : ℕ) → IsSound (polygon_tree left)
polygon_sound left = ((corner_sound left), ((fill_sound left), ((tt, (tt, tt)), tt)))

-- a value keeps all that was read: no map or heap is in it
pub polygon_plain : (left : ℕ) → KeepsAll (polygon_tree left)
polygon_plain left = ((corner_plain left), ((fill_plain left), ((tt, (tt, tt)), tt)))
