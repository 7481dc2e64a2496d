-- The whole input is the text's column.
use Rattle.bitcode_derive.proofs.BorrowedTextLemmas.{borrowed_from}
use Rattle.bitcode_derive.proofs.laws.borrowed_text.Goals as goal

pub returns : goal.returns
returns c found = borrowed_from c.args.bytes.now c.args.text.now.now found.datum found.spelled found.made
