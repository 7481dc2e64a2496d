-- The words of contracts that `scripts/second_format` writes, in one module.
pub use Rattle.bitcode_shapes.specs.Datum.{Datum, unit, number, text, list, tuple, choice, no_data, datum_and, data_of}
pub use Rattle.bitcode_shapes.specs.Floats.{float_number}
pub use Rattle.bitcode_shapes.specs.LawfulInts.{width_1, width_2, width_4, width_8, width_16}
pub use Rattle.bitcode_coder.specs.Spelling.{natural, truth}
pub use Rattle.bitcode_untyped.specs.Bounds.{column_free}
pub use Rattle.bitcode_untyped.specs.ShapeTree.{ShapeTree, ShapeTrees, unit_tree, never_tree, bool_tree, natural_tree, integer_tree, float_tree, char_tree, text_tree, seq_tree, map_tree, option_tree, tuple_tree, choice_tree, no_trees, tree_and, IsSound}
pub use Rattle.bitcode_serde.specs.ReadingValues.{IsSteady, Continues}
pub use Rattle.bitcode_serde_types.specs.Options.{option_datum}
pub use Rattle.bitcode_serde_types.specs.Pairs.{map_datum, set_datum}
pub use Rattle.bitcode_serde_types.specs.ReadingAs.{ReadsAs}
pub use Rattle.bitcode_serde_types.specs.Refusals.{IsRefusalAt}
pub use Rattle.bitcode_serde_types.specs.Restates.{KeepsAll}
pub use Rattle.bitcode_serde_types.specs.Results.{result_tree, result_datum}
