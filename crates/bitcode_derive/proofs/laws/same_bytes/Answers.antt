-- Values that are the same have one listing, and it is written as one text.
use Rattle.std.proofs.Common.{ap, sym, ◌∙◌, [], ◌∷◌}
use Rattle.bitcode_coder.specs.Spelling.{texts_of}
use Rattle.bitcode_coder.specs.Transposition.{spread}
use Rattle.bitcode_derive.proofs.laws.same_bytes.Goals as goal

pub returns : goal.returns
returns g c determined same written other =
    let one = g.T.Shaped.data.same_data.at determined c.args.t.now c.args.u.now written.datum other.datum c.told.ensures c.told-2.ensures same written.listing other.listing in
    written.written ∙ ap (λ d. texts_of (spread g.T.Shaped.data.shape (d ∷ []))) one ∙ sym other.written
