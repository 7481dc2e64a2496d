-- The value is an entry of its column.
use Rattle.std.proofs.Common.{◌≡◌}
use Rattle.std.proofs.lemmas.Result.{IfOk-weaker}
use Rattle.bitcode_shapes.specs.Shape.{any_number}
use Rattle.bitcode_untyped.specs.Nodes.{node_count}
use Rattle.bitcode_untyped.specs.ShapeTree.{leaf_tree, char_tree}
use Rattle.bitcode_untyped.specs.View.{datum_of}
use Rattle.bitcode_untyped.specs.declared.shape.ShapeNode.TheVariants as node
use Rattle.bitcode_serde.specs.ReadColumns.{kind_of, IsCaseOf}
use Rattle.bitcode_serde.proofs.KeptLemmas.{one_node}
use Rattle.bitcode_serde.proofs.LeafEntryLemmas.{char_tree_by}
use Rattle.bitcode_serde.proofs.LeafLemmas.{leaf_read_at, leaf_refused_at}
use Rattle.bitcode_serde.proofs.read_leaf.read_entry.Goals as goal

pub returns-in-Some-clause-read : goal.returns-in-Some-clause-read
returns-in-Some-clause-read c =
    leaf_read_at c.args.node.now (leaf_tree (kind_of c.in-Some.kind) any_number) c.in-Some.ensures.some.tree c.read_leaf.result c.args.place c.args.reader.now
    c.read_leaf.new.reader c.read_leaf.ensures.read

pub returns-in-Some-clause-refused : goal.returns-in-Some-clause-refused
returns-in-Some-clause-refused c =
    leaf_refused_at c.args.node.now (leaf_tree (kind_of c.in-Some.kind) any_number) c.in-Some.ensures.some.tree c.read_leaf.result c.args.place c.args.reader.now
    c.read_leaf.ensures.refused

pub returns-in-None-clause-read : goal.returns-in-None-clause-read
returns-in-None-clause-read c =
    rw (c.in-None.ensures.none c.requires.leaf)
    (leaf_read_at node.Char char_tree char_tree_by c.read_char.result c.args.place c.args.reader.now c.read_char.new.reader c.read_char.ensures.read)

pub returns-in-None-clause-refused : goal.returns-in-None-clause-refused
returns-in-None-clause-refused c =
    rw (c.in-None.ensures.none c.requires.leaf)
    (leaf_refused_at node.Char char_tree char_tree_by c.read_char.result c.args.place c.args.reader.now c.read_char.ensures.refused)

pub returns-in-Some-clause-single : goal.returns-in-Some-clause-single
returns-in-Some-clause-single c =
    IfOk-weaker c.read_leaf.result (IsCaseOf c.in-Some.kind) (λ v. node_count (datum_of v) ≡ 1) (one_node c.in-Some.kind) c.read_leaf.ensures.of_case
