use Rattle.std.proofs.Common.{◌*◌, ap, ◌∙◌}
use Rattle.bitcode_int_columns.proofs.IntReadingLemmas.{ReadsWidened-raw}
use Rattle.bitcode_columns.proofs.ReadingLemmas.{OnErr-always, IsEndOf-taken}
use Rattle.bitcode_int_columns.proofs.pack_ints.read.read_raw.Goals as goal

pub returns-in_err-entries-clause-rest : goal.returns-in_err-entries-clause-rest
returns-in_err-entries-clause-rest g c = OnErr-always c.from_residual-in_err-entries.result (IsEndOf-taken c.in_ok-bytes.bytes.now _ _ c.in_ok-bytes.ensures.whole)

pub returns-clause-read : goal.returns-clause-read
returns-clause-read g c =
    ReadsWidened-raw g.T.Int.width _ g.N.SizedUInt.width c.args.count _ c.in_ok-bytes.bytes.now _ _ c.known_bytes.ensures
    (c.in_ok-bytes.ensures.size ∙ ap (λ w. c.args.count * w) c.requires) c.in_ok-bytes.ensures.whole c.in_ok-entries.ensures.widened
