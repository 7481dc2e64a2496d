use Rattle.std.proofs.Common.{◌++◌, map, ap, sym, ◌∙◌}
use Rattle.bitcode_coder.specs.Spelling.{texts_of}
use Rattle.bitcode_serde.specs.Places.{places}
use Rattle.bitcode_serde.specs.Writing.{column_of}
use Rattle.bitcode_serde.proofs.WritingLemmas.{unplaced_all}
use Rattle.bitcode_serde.proofs.writer.state.Writer.collect.Goals as goal

pub returns-clause-text : goal.returns-clause-text
returns-clause-text c =
    c.in_ok-collect_columns.ensures.written
    ∙ ap (λ cs. c.new-bytes.result.items ++ texts_of (map column_of cs)) c.deref_mut.ensures.value
    ∙ ap (λ bytes. bytes ++ texts_of (map column_of c.args.self.columns.items)) c.new-bytes.ensures.items
    ∙ ap texts_of (sym (unplaced_all (places c.args.self.places.below.items) c.args.self.columns.items))
