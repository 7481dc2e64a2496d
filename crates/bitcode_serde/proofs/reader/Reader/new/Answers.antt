-- A new reader stands at the start.
use Rattle.std.proofs.Common.{refl}
use Rattle.bitcode_serde.proofs.ReadingLemmas.{stands_first}
use Rattle.bitcode_serde.proofs.reader.Reader.new.Goals as goal

pub returns-clause-stands : goal.returns-clause-stands
returns-clause-stands c = stands_first _ c.args.bytes.now c.new.ensures.root c.new-2.ensures.items c.new-3.ensures.items refl refl refl
