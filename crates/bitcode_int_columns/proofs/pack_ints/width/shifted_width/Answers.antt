use Rattle.std.proofs.Common.{ap, ◌∙◌}
use Rattle.bitcode_columns.specs.IntColumn.{width_for}
use Rattle.bitcode_int_columns.proofs.NarrowLemmas.{wide_distance}
use Rattle.bitcode_int_columns.proofs.pack_ints.width.shifted_width.Goals as goal

pub returns : goal.returns
returns g c =
    c.width_for.ensures ∙ ap width_for
    (wide_distance g.T.Int.width _ _ _ _ _ g.T.Int.signed _ _ g.met.T.Int.unsigned_law g.met.T.Int.width_law c.to_unsigned-low.ensures.value
    c.to_unsigned-high.ensures.value c.to_unsigned-low.ensures.in_range c.to_unsigned-high.ensures.in_range c.wrapping_sub.ensures c.to_wide.ensures.same c.requires)
