use Rattle.std.proofs.Common.{rules, subst}
use Rattle.bitcode_shapes.specs.Sets.{IsOrderedSet}
use Rattle.bitcode_shapes.proofs.sets.BTreeSetShaped.told.Goals as goal

-- the order of the type is that of its data
pub returns : goal.returns
returns g c =
    let whole : IsOrderedSet {T = g.row.T.Denot} g.T.Shaped.data.is_value g.T.Ord.cmp c.args.self.now.keys = search rules in
    subst (λ order. IsOrderedSet {T = g.row.T.Denot} g.T.Shaped.data.is_value order c.args.self.now.keys) g.met.T.Key.ordered whole
