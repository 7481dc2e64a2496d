-- The bits of the column are those that were pushed.
use Rattle.std.proofs.Common.{ap, sym, ◌∙◌, ◌++◌, map, pos}
use Rattle.bitcode_columns.specs.IntColumn.{int_text}
use Rattle.bitcode_memory.specs.Fast.{fast_items}
use Rattle.bitcode_coder.proofs.LengthPartLemmas.{naturals_in}
use Rattle.bitcode_floats.proofs.float64.F64EncoderBuffer.collect_into.Goals as goal

pub returns-clause-written : goal.returns-clause-written
returns-clause-written c =
    c.in_ok-pack.ensures.written
    ∙ ap (λ bits. c.args.out.now.items ++ int_text 8 (map pos bits))
    (c.as_mut_slice.ensures.value ∙ sym (naturals_in (fast_items c.args.self.now.bits)))
