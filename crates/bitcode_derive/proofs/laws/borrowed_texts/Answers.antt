-- The input is one piece for each column.
use Rattle.std.proofs.Common.{[], ◌∷◌}
use Rattle.bitcode_derive.proofs.BorrowedTextLemmas.{texts_stand_in}
use Rattle.bitcode_derive.proofs.laws.borrowed_texts.Goals as goal

pub returns : goal.returns
returns g c found = texts_stand_in g.T.Shaped.data.shape c.args.bytes.now (found.datum ∷ []) found.spelled
