-- A leaf is an entry of its column.
use Rattle.bitcode_untyped.specs.declared.shape.ShapeNode.TheVariants as node
use Rattle.bitcode_serde.proofs.LeavesLemmas.{value_outcome}
use Rattle.bitcode_serde.proofs.WalkLemmas.{leaf_outcome}
use Rattle.bitcode_serde.proofs.walk.write_leaf.Goals as goal

pub put_one-requires : goal.put_one-requires
put_one-requires c = record { place = c.requires.place; values = c.in-Some.ensures.some.values }

pub returns-in-Some : goal.returns-in-Some
returns-in-Some c =
    λ table left.
    value_outcome c.args.node.now c.in-Some.kind c.args.value.now c.args.writer.now c.put_one.new.self c.args.place c.put_one.result c.in-Some.ensures.some
    c.put_one.ensures.below c.put_one.ensures.written c.put_one.ensures.entries
    c.put_one.ensures.refused table left

pub returns-in_ok-char_entry-in-None : goal.returns-in_ok-char_entry-in-None
returns-in_ok-char_entry-in-None c =
    λ table left.
    rw (c.in-None.ensures.none c.requires.leaf) (leaf_outcome c.args.writer.now c.put.new.self c.args.place node.Char c.args.value.now _ _ c.put.result
    c.in_ok-char_entry-in-None.ensures.entry
    c.put.ensures.below c.put.ensures.written c.put.ensures.refused table left)
