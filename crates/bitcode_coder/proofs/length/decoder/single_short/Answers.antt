-- One byte that is no escape.
use Rattle.std.proofs.lemmas.Bool.{ne_eqb}
use Rattle.bitcode_coder.specs.LengthColumn.{escape}
use Rattle.bitcode_coder.proofs.StrictColumnLemmas.{single_read, single_written}
use Rattle.bitcode_coder.proofs.length.decoder.single_short.Goals as goal

pub returns-clause-read : goal.returns-clause-read
returns-clause-read c =
    single_read c.args.k c.in_ok-first.first.now c.args.bytes.now c.in_ok-first.rest.now c.if-k-ne1.false c.in_ok-first.ensures.cases.0
    (ne_eqb c.in_ok-first.first.now escape c.if-first.false)

pub returns-clause-written : goal.returns-clause-written
returns-clause-written c =
    single_written c.in_ok-first.first.now c.args.bytes.now c.in_ok-first.rest.now c.in_ok-first.ensures.cases.0
    (ne_eqb c.in_ok-first.first.now escape c.if-first.false) c.known_bytes.ensures
