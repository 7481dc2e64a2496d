use Rattle.std.proofs.Common.{refl}
use Rattle.bitcode_serde.proofs.LinkLemmas.{column_set, column_set-others, children_set-same, last_set-same}
use Rattle.bitcode_serde.proofs.places.set_column.Goals as goal

pub returns-clause-there : goal.returns-clause-there
returns-clause-there c = column_set _ c.args.links.now c.args.place c.requires

pub returns-clause-others : goal.returns-clause-others
returns-clause-others c = column_set-others _ c.args.links.now c.args.place

pub returns-clause-children : goal.returns-clause-children
returns-clause-children c = children_set-same _ c.args.links.now c.args.place c.index-links-place.result refl

pub returns-clause-last : goal.returns-clause-last
returns-clause-last c = last_set-same _ c.args.links.now c.args.place c.index-links-place.result refl
