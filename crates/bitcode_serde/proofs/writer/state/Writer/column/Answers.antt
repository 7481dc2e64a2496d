-- The place of a column is linked to it.
use Rattle.bitcode_serde.proofs.FiledLemmas.{filed_none, filed_some, filed_first}
use Rattle.bitcode_serde.proofs.writer.state.Writer.column.Goals as goal

pub returns-clause-none : goal.returns-clause-none
returns-clause-none c =
    let w = c.args.self.now in filed_none (λ c. c.place) w.places.links.items w.columns.items c.args.place w.filed c.column.result c.column.ensures

pub returns-clause-some : goal.returns-clause-some
returns-clause-some c =
    let w = c.args.self.now in filed_some (λ c. c.place) w.places.links.items w.columns.items c.args.place w.filed c.column.result c.column.ensures

pub returns-clause-first : goal.returns-clause-first
returns-clause-first c =
    let w = c.args.self.now in filed_first (λ c. c.place) w.places.links.items w.columns.items c.args.place w.filed c.column.result c.column.ensures
