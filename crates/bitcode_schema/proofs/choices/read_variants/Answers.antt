-- The digits are read, and then compared with the number of variants.
use Rattle.std.proofs.Common.{sym, ◌∙◌}
use Rattle.bitcode_schema.proofs.VariantLemmas.{unknown_named}
use Rattle.bitcode_schema.proofs.choices.read_variants.Goals as goal

pub returns-then-not-are_below-clause-refused : goal.returns-then-not-are_below-clause-refused
returns-then-not-are_below-clause-refused c =
    rw c.err.ensures (unknown_named c.in_ok-written.ensures.read (rw c.as_slice.ensures at (sym c.are_below.ensures ∙ c.if-not-are_below.true)))
