use Rattle.std.proofs.Common.{rules, subst}
use Rattle.bitcode_shapes.specs.Sets.{IsDistinctSet}
use Rattle.bitcode_shapes.proofs.sets.HashSetShaped.told.Goals as goal

-- the `==` of the type is that of its data
pub returns : goal.returns
returns g c =
    let whole : IsDistinctSet {T = g.row.T.Denot} g.T.Shaped.data.is_value g.T.PartialEq.eq c.args.self.now.keys = search rules in
    subst (λ equal. IsDistinctSet {T = g.row.T.Denot} g.T.Shaped.data.is_value equal c.args.self.now.keys) g.met.T.Key.equal whole
