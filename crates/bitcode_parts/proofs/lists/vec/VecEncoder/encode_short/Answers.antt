-- None was written, or those that were pushed.
use Rattle.std.proofs.Common.{None, [], sym, ap, ◌∙◌}
use Rattle.bitcode_coder.specs.Columns.{lengths, one, two}
use Rattle.bitcode_coder.specs.Length.{written_lengths}
use Rattle.bitcode_coder.proofs.EachLemmas.{joins_none}
use Rattle.bitcode_parts.specs.Lists.{list_columns}
use Rattle.bitcode_parts.proofs.lists.vec.VecEncoder.encode_short.Goals as goal

pub returns-then-is_err-clause-joined : goal.returns-then-is_err-clause-joined
returns-then-is_err-clause-joined g c =
    let self = c.args.self.now in
    rw c.reserve.ensures.columns (
    joins_none g.S.Shaped.data.lists g.S.Shaped.data.shape (list_columns (written_lengths self.lengths) (g.E.HoldsColumns.columns self.elements))
    (ap (two (one (lengths None) [])) (g.met.E.EncodeMany.of_shape self.elements) ∙ sym (g.met.S.Sequence.items_columns []))
    )
