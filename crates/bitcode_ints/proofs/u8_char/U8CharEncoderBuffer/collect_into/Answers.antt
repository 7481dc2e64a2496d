-- The text of the column is its bytes.
use Rattle.std.proofs.Common.{◌++◌, ap, sym, ◌∙◌}
use Rattle.bitcode_memory.specs.Fast.{fast_items}
use Rattle.bitcode_coder.proofs.LengthPartLemmas.{naturals_in}
use Rattle.bitcode_ints.proofs.u8_char.U8CharEncoderBuffer.collect_into.Goals as goal

pub returns-clause-written : goal.returns-clause-written
returns-clause-written c =
    c.in_ok-extend_from_slice.ensures.items
    ∙ ap (λ more. c.args.out.now.items ++ more) (c.as_slice.ensures ∙ sym (naturals_in (fast_items c.args.self.now.bytes)))
