-- The place of an open column is linked to it.
use Rattle.bitcode_serde.proofs.FiledLemmas.{filed_none, filed_some, filed_first}
use Rattle.bitcode_serde.proofs.reader.Reader.column.Goals as goal

pub returns-clause-none : goal.returns-clause-none
returns-clause-none c =
    let r = c.args.self.now in filed_none (λ c. c.place) r.places.links.items r.columns.items c.args.place r.filed c.column.result c.column.ensures

pub returns-clause-some : goal.returns-clause-some
returns-clause-some c =
    let r = c.args.self.now in filed_some (λ c. c.place) r.places.links.items r.columns.items c.args.place r.filed c.column.result c.column.ensures

pub returns-clause-first : goal.returns-clause-first
returns-clause-first c =
    let r = c.args.self.now in filed_first (λ c. c.place) r.places.links.items r.columns.items c.args.place r.filed c.column.result c.column.ensures
