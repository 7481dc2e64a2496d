-- One byte more is at most the greater of it and the greatest so far.
use Rattle.std.proofs.Common.{◌≤◌, All, take, subst, arith}
use Rattle.std.proofs.lemmas.List.{take_all}
use Rattle.std.proofs.lemmas.List.Elements.{All-more, All-weaker}
use Rattle.bitcode_coder.proofs.str.decoder.greatest_byte.Goals as goal

pub loop-byte-preserved : goal.loop-byte-preserved
loop-byte-preserved c =
    let bytes = c.args.bytes.now in
    let i = c.loop-byte.byte-index in
    let new = c.greater-greatest.result in
    All-more (λ byte. byte ≤ new) bytes i 0 c.loop-byte-test.true
    (All-weaker (λ byte. byte ≤ c.loop-byte.greatest) (λ byte. byte ≤ new) (λ byte h. omega (arith, h, c.greater-greatest.ensures.first)) (take i bytes) c.loop-byte.invariant)
    c.greater-greatest.ensures.second

pub returns : goal.returns
returns c = subst (All (λ byte. byte ≤ c.loop-byte.greatest)) (take_all c.loop-byte.byte-index c.args.bytes.now (omega arith)) c.loop-byte.invariant
