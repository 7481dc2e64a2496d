-- Where there is no value, nothing is joined.
use Rattle.std.proofs.Common.{sym, subst}
use Rattle.bitcode_coder.specs.Coder.{JoinsEach}
use Rattle.bitcode_coder.proofs.EachLemmas.{joins_none}
use Rattle.bitcode_parts.proofs.choices.option.gathered.encode_values.Goals as goal

pub returns-in-None-clause-joined : goal.returns-in-None-clause-joined
returns-in-None-clause-joined g c =
    subst (λ values. JoinsEach g.T.Shaped.data.lists g.T.Shaped.data.shape values (g.E.HoldsColumns.columns c.args.encoder.now) (g.E.HoldsColumns.columns c.args.encoder.now))
    (sym c.in-None.ensures.none)
    (joins_none g.T.Shaped.data.lists g.T.Shaped.data.shape (g.E.HoldsColumns.columns c.args.encoder.now) (g.met.E.EncodeMany.of_shape c.args.encoder.now))
