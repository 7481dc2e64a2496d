-- By the variant, and node by node.
use Rattle.std.proofs.Common.{rules, arith, ◌<◌, ◌-◌, ◌∙◌, ap, sym}
use Rattle.std.specs.List.{list_all}
use Rattle.bitcode_untyped.specs.Bounds.{column_free}
use Rattle.bitcode_untyped.specs.View.{tree_of_node, followed}
use Rattle.bitcode_untyped.proofs.FollowedLemmas.{followed-zero, followed_one, entry_there, entry_away}
use Rattle.bitcode_untyped.proofs.ViewLemmas.{tree-Tuple, tree-Ref}
use Rattle.bitcode_serde.proofs.DepthLemmas.{depth-Tuple, entry_deep, reference_falls}
use Rattle.bitcode_serde.proofs.EntryLemmas.{found_entry, no_entry}
use Rattle.bitcode_serde.proofs.FreeLemmas.{all_free-trees_of}
use Rattle.bitcode_serde.proofs.free.+free.Goals as goal

pub is_free-are_free-requires : goal.is_free-are_free-requires
is_free-are_free-requires t c =
    let d = rw (← c.in-Tuple.is, ← c.deref.ensures.value) at (depth-Tuple c.in-Tuple.nodes) in
    search (rules, d)

pub are_free-is_free-requires : goal.are_free-is_free-requires
are_free-is_free-requires t c =
    let d = entry_deep c.args.nodes.now c.loop-node.node-index c.node-item.result (found_entry c.args.nodes.now c.loop-node.node-index c.node-item.result c.loop-node-test.true c.node-item.is) in
    search (rules, d)

pub is_free-is_free-requires : goal.is_free-is_free-requires
is_free-is_free-requires t c =
    let h : 0 < c.args.left = omega arith in
    let d = reference_falls c.args.left c.args.table.now c.in-Ref.i 0 c.in-Some.entry.now
    (found_entry c.args.table.now c.in-Ref.i c.in-Some.entry.now c.in-Some.ensures.lookup.3.0 (c.in-Some.ensures.lookup.3.1 c.in-Some.entry.now)) h in
    search (rules, d)

pub is_free-returns-then-left-eq0 : goal.is_free-returns-then-left-eq0
is_free-returns-then-left-eq0 t c = rw (c.in-Ref.is, tree-Ref, c.if-left-eq0.true, followed-zero)

pub is_free-returns-in-None : goal.is_free-returns-in-None
is_free-returns-in-None t c =
    let left : 0 < c.args.left = omega arith in
    let e = followed_one c.args.left c.args.table.now c.in-Ref.i left in
    let a = entry_away (followed (c.args.left - 1) c.args.table.now) c.args.table.now c.in-Ref.i (no_entry c.args.table.now c.in-Ref.i c.in-None.ensures.lookup.3) in
    rw (c.in-Ref.is, tree-Ref, e, a)

pub is_free-returns-in-Some : goal.is_free-returns-in-Some
is_free-returns-in-Some t c =
    let left : 0 < c.args.left = omega arith in
    let e = followed_one c.args.left c.args.table.now c.in-Ref.i left in
    let a = entry_there (followed (c.args.left - 1) c.args.table.now) c.args.table.now c.in-Ref.i c.in-Some.entry.now
    (found_entry c.args.table.now c.in-Ref.i c.in-Some.entry.now c.in-Some.ensures.lookup.3.0 (c.in-Some.ensures.lookup.3.1 c.in-Some.entry.now)) in
    rw (c.in-Ref.is, tree-Ref, e, a) c.is_free.ensures

pub is_free-returns-in-Tuple : goal.is_free-returns-in-Tuple
is_free-returns-in-Tuple t c =
    let follow = followed c.args.left c.args.table.now in
    rw (c.in-Tuple.is, tree-Tuple follow c.in-Tuple.nodes)
    (c.are_free.ensures ∙ ap (list_all (λ n. column_free (tree_of_node c.args.left c.args.table.now n))) c.deref.ensures.value ∙ sym (all_free-trees_of follow c.in-Tuple.nodes.items))
