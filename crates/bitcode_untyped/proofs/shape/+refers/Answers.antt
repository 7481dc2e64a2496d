-- By the variant, and node by node.
use Rattle.std.proofs.Common.{◌∙◌, ap, true}
use Rattle.std.specs.List.{list_all}
use Rattle.bitcode_untyped.specs.References.{refers_soundly}
use Rattle.bitcode_untyped.proofs.ViewLemmas.{refers-Tuple, refers-Enum}
use Rattle.bitcode_untyped.proofs.shape.+refers.Goals as goal

pub ShapeNode::refers_soundly-returns-in-Tuple : goal.ShapeNode::refers_soundly-returns-in-Tuple
ShapeNode::refers_soundly-returns-in-Tuple t c =
    rw (c.in-Tuple.is, refers-Tuple c.args.count c.in-Tuple.nodes c.args.below)
    (c.all_refer_soundly.ensures ∙ ap (list_all (λ n. refers_soundly c.args.count n c.args.below)) c.deref-in-Tuple.ensures.value)

pub ShapeNode::refers_soundly-returns-in-Enum : goal.ShapeNode::refers_soundly-returns-in-Enum
ShapeNode::refers_soundly-returns-in-Enum t c =
    rw (c.in-Enum.is, refers-Enum c.args.count c.in-Enum.nodes c.args.below)
    (c.all_refer_soundly-in-Enum.ensures ∙ ap (list_all (λ n. refers_soundly c.args.count n true)) c.deref-in-Enum.ensures.value)
