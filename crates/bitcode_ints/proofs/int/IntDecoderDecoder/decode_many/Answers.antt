-- The integers are made of the numbers of the bytes that were taken.
use Rattle.std.proofs.Common.{take, refl}
use Rattle.std.proofs.lemmas.Result.{IfOk-weaker}
use Rattle.bitcode_memory.specs.Fast.{cow_rest}
use Rattle.bitcode_memory.specs.LittleEndian.{little_endian}
use Rattle.bitcode_memory.specs.Ints.{number_of}
use Rattle.bitcode_coder.specs.Spelling.{number_of_residue}
use Rattle.bitcode_ints.proofs.IntLemmas.{made_of_numbers}
use Rattle.bitcode_coder.proofs.TakingLemmas.{takes_front}
use Rattle.bitcode_ints.proofs.int.IntDecoderDecoder.decode_many.Goals as goal

pub returns-clause-made : goal.returns-clause-made
returns-clause-made g c =
    let residue_of = λ (u : g.row.T-Une.Denot). little_endian (g.T.ColumnInt.une_bytes u) in
    let width = g.T.ColumnInt.width in
    let signed = g.T.ColumnInt.signed in
    let rest = cow_rest c.args.self.now.values in
    IfOk-weaker c.list_unchecked.result _ _ (λ ints numbers.
    takes_front g.T.Shaped.data.makes (λ u. number_of_residue width signed (residue_of u)) c.args.count rest (take c.args.count rest) _ ints.items
    c.requires refl c.list_unchecked.ensures.rest
    (made_of_numbers g.T.Shaped.data.makes g.T.ColumnInt.number g.met.T.Integer.integer_makes (λ u. number_of width signed (residue_of u)) ints.items (take c.args.count rest) numbers))
    c.list_unchecked.ensures.numbers
