use Rattle.std.proofs.Common.{rules, subst}
use Rattle.bitcode_shapes.specs.Maps.{IsDistinctMap}
use Rattle.bitcode_shapes.proofs.maps.HashMapShaped.told.Goals as goal

-- the `==` of the keys is that of their data
pub returns : goal.returns
returns g c =
    let whole : IsDistinctMap {K = g.row.K.Denot} {X = g.row.V.Denot} g.K.Shaped.data.is_value g.V.Shaped.data.is_value g.K.PartialEq.eq c.args.self.now.entries = search rules in
    subst (λ equal. IsDistinctMap {K = g.row.K.Denot} {X = g.row.V.Denot} g.K.Shaped.data.is_value g.V.Shaped.data.is_value equal c.args.self.now.entries) g.met.K.Key.equal whole
