-- The length, and then the bytes.
use Rattle.std.proofs.Common.{map}
use Rattle.std.proofs.lemmas.Result.{err_from_is_err_and}
use Rattle.bitcode_shapes.specs.Datum.{list, data_of}
use Rattle.bitcode_coder.specs.Spelling.{natural}
use Rattle.bitcode_untyped.specs.Reads.{ReadsNoDatum}
use Rattle.bitcode_untyped.specs.ShapeTree.{natural_tree, seq_tree}
use Rattle.bitcode_untyped.specs.Walk.{length_kind}
use Rattle.bitcode_untyped.proofs.FaultLemmas.{faults-Bytes}
use Rattle.bitcode_untyped.proofs.ReadLemmas.{seq_stuck_length}
use Rattle.bitcode_untyped.proofs.ViewLemmas.{datum-Bytes}
use Rattle.bitcode_serde.specs.ReadingValues.{IsRefusalAt}
use Rattle.bitcode_serde.proofs.ColumnLemmas.{passed_on}
use Rattle.bitcode_serde.proofs.ValueLemmas.{refused_entry, continues_stepped, continues_on, enters_list, seq_read_at, seq_refused}
use Rattle.bitcode_serde.proofs.KeptLemmas.{bytes_taken}
use Rattle.bitcode_serde.proofs.read_leaf.read_bytes.Goals as goal

pub returns-in_err-taken-clause-refused : goal.returns-in_err-taken-clause-refused
returns-in_err-taken-clause-refused c =
    let y = err_from_is_err_and c.from_residual.result c.from_residual.ensures.1 in
    let s = seq_tree (natural_tree 1) in
    passed_on (λ e. IsRefusalAt s c.args.place c.args.reader.now e.reason) c.from_residual.result c.in_err-taken.field-0.0 y.0 y.1 y.2
    (refused_entry c.args.reader.now c.args.place length_kind (ReadsNoDatum s) _ (λ p a stuck. seq_stuck_length (natural_tree 1) p a stuck) c.in_err-taken.ensures.refused)

pub returns-in_err-bytes-clause-refused : goal.returns-in_err-bytes-clause-refused
returns-in_err-bytes-clause-refused c =
    let y = err_from_is_err_and c.from_residual-in_err-bytes.result c.from_residual-in_err-bytes.ensures.1 in
    let enters = enters_list c.args.reader.now c.take_length.new.self c.step.new.self c.args.place c.in_ok-elements.elements c.in_ok-taken.taken.length c.in_ok-taken.taken.total
    c.in_ok-taken.ensures.leads c.take_length.ensures.below c.in_ok-elements.ensures.found c.in_ok-elements.ensures.stands in
    passed_on (λ e. IsRefusalAt (seq_tree (natural_tree 1)) c.args.place c.args.reader.now e.reason) c.from_residual-in_err-bytes.result c.in_err-bytes.field-0.0 y.0 y.1 y.2
    (seq_refused (natural_tree 1) c.args.reader.now c.step.new.self c.args.place c.in_ok-elements.elements c.in_ok-taken.taken.length _ enters c.in_err-bytes.ensures.refused)

pub returns-clause-continues : goal.returns-clause-continues
returns-clause-continues c =
    continues_on c.args.reader.now c.step.new.self _
    (continues_stepped c.args.reader.now c.take_length.new.self c.step.new.self c.take_length.ensures.below c.take_length.ensures.asked c.in_ok-taken.ensures.sized c.step.ensures.columns c.step.ensures.asked
    c.in_ok-elements.ensures.kept)
    c.in_ok-bytes.ensures.continues

pub returns-clause-read : goal.returns-clause-read
returns-clause-read c =
    let enters = enters_list c.args.reader.now c.take_length.new.self c.step.new.self c.args.place c.in_ok-elements.elements c.in_ok-taken.taken.length c.in_ok-taken.taken.total
    c.in_ok-taken.ensures.leads c.take_length.ensures.below c.in_ok-elements.ensures.found c.in_ok-elements.ensures.stands in
    record {
      datum = list (data_of (map natural c.in_ok-bytes.bytes.items));
      read = seq_read_at (natural_tree 1) c.args.reader.now c.step.new.self _ c.args.place c.in_ok-elements.elements c.in_ok-taken.taken.length
          (map natural c.in_ok-bytes.bytes.items) enters (λ free. cc) c.in_ok-bytes.ensures.read;
      taken = bytes_taken c.args.budget.now c.take.new.self c.take-2.new.self c.in_ok-taken.taken.length c.in_ok-bytes.bytes.items c.take.ensures c.take-2.ensures
          c.in_ok-bytes.ensures.size;
      same = λ h. datum-Bytes c.in_ok-bytes.bytes;
    }

pub returns-clause-whole : goal.returns-clause-whole
returns-clause-whole c = λ table left. faults-Bytes table left c.in_ok-bytes.bytes
