use Rattle.std.proofs.Common.{ap, ◌∙◌, arith}
use Rattle.std.proofs.lemmas.List.{take-append-drop, take_rest}
use Rattle.std.specs.List.{concat}
use Rattle.bitcode_memory.proofs.ConsumeLemmas.{take-first_chunks, concat-first_chunks}
use Rattle.bitcode_memory.proofs.consume.consume_byte_arrays.Goals as goal

pub returns-clause-taken : goal.returns-clause-taken
returns-clause-taken g c = rw c.as_chunks.ensures.front (take-first_chunks g.row.N c.args.k _ c.args.input.now.now (omega arith))

pub returns-clause-joined : goal.returns-clause-joined
returns-clause-joined g c = ap concat (returns-clause-taken g c) ∙ concat-first_chunks g.row.N c.args.k c.args.input.now.now

pub returns-clause-whole : goal.returns-clause-whole
returns-clause-whole g c = rw (returns-clause-joined g c, take_rest, take-append-drop)
