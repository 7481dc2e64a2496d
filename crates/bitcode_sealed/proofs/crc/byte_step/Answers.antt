-- The table has what the lowest byte becomes.
use Rattle.std.proofs.Common.{◌/◌, ap, ◌∙◌, arith}
use Rattle.std.specs.Prelude.{bit_xor, bit_and}
use Rattle.bitcode_sealed.specs.Crc.{bit_steps}
use Rattle.bitcode_sealed.proofs.CrcStepLemmas.{byte_step_is}
use Rattle.bitcode_sealed.proofs.crc.byte_step.Goals as goal

pub returns : goal.returns
returns c =
    ap (λ r. bit_xor r (c.args.register / 256)) c.shifted_8.ensures
    ∙ ap (λ b. bit_xor (bit_steps 8 (bit_and (bit_xor c.args.register b) 255)) (c.args.register / 256)) c.from.ensures
    ∙ byte_step_is c.args.register c.args.byte (omega arith)
