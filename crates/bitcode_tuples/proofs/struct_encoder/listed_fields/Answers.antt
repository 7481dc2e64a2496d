-- By the law of the struct.
use Rattle.std.proofs.Common.{map}
use Rattle.bitcode_shapes.specs.LawfulLists.{each_listed}
use Rattle.bitcode_tuples.proofs.FieldLemmas.{each_listed_as}
use Rattle.bitcode_tuples.proofs.struct_encoder.listed_fields.Goals as goal

pub returns : goal.returns
returns g c =
    let of = g.W.Part.of c.args.which.now in
    let items = c.args.items.now in
    let listed =
    each_listed g.T.Shaped.data.shape g.T.Shaped.data.is_value g.T.Shaped.data.lists g.T.Shaped.data.same g.T.Shaped.data.in_order g.T.Shaped.data.lawful (map of items) c.told_parts.ensures in
    (listed.0, each_listed_as of (λ t. t) g.T.Shaped.data.lists g.T.Numbers.PartOf.lists (λ t. (g.met.T.InFields.same_listings t).to) items listed.0 listed.1)
