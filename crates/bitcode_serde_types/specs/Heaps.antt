-- The shape of a heap: a list whose order says nothing.
use Rattle.bitcode_untyped.specs.ShapeTree.{any_order, ShapeTree, seq_tree, noted_tree}

abbrev pub heap_tree : ShapeTree → ShapeTree
heap_tree s = noted_tree any_order (seq_tree s)
