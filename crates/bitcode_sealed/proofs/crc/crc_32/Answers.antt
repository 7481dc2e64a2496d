-- The chunks, and the bytes behind them, are taken in one by one.
use Rattle.std.proofs.Common.{◌≡◌, ◌+◌, ◌*◌, ◌/◌, ◌++◌, length, take, drop, ap, sym, ◌∙◌}
use Rattle.std.specs.Prelude.{bit_xor}
use Rattle.std.specs.List.{concat}
use Rattle.std.proofs.lemmas.List.{at_drop_more, at_drop_all, take-append-drop}
use Rattle.bitcode_memory.proofs.ConsumeLemmas.{concat-first_chunks}
use Rattle.bitcode_sealed.specs.Crc.{ones, register_after, crc_32}
use Rattle.bitcode_sealed.proofs.CrcLemmas.{register-append}
use Rattle.bitcode_sealed.proofs.crc.crc_32.Goals as goal

pub loop-chunk-preserved : goal.loop-chunk-preserved
loop-chunk-preserved c =
    let chunks = c.as_chunks.result.0.now in
    let place = c.loop-chunk.chunk-index in
    let register = c.loop-chunk.register in
    let next = concat (drop (place + 1) chunks) in
    ap (λ s. register_after s next) c.eight_steps-register.ensures
    ∙ sym (register-append register _ next)
    ∙ sym (at_drop_more (λ ls. register_after register (concat ls)) chunks place _ c.loop-chunk-test.true)
    ∙ c.loop-chunk.invariant

pub loop-byte-init : goal.loop-byte-init
unfolding register_after
loop-byte-init c =
    let bytes = c.args.bytes.now in
    let chunks = c.as_chunks.result.0.now in
    let rest = c.as_chunks.result.1.now in
    let register = c.loop-chunk.register in
    let all : register ≡ register_after ones (concat chunks) =
    sym (at_drop_all (λ ls. register_after register (concat ls)) chunks c.loop-chunk.chunk-index c.loop-chunk-test.false) ∙ c.loop-chunk.invariant in
    let whole : concat chunks ++ rest ≡ bytes =
    ap (λ l. concat l ++ rest) c.as_chunks.ensures.front ∙ ap (λ l. l ++ rest) (concat-first_chunks 8 (length bytes / 8) bytes)
    ∙ ap (λ l. take (length bytes / 8 * 8) bytes ++ l) c.as_chunks.ensures.back ∙ take-append-drop (length bytes / 8 * 8) bytes in
    ap (λ s. register_after s rest) all ∙ sym (register-append ones (concat chunks) rest) ∙ ap (register_after ones) whole

pub loop-byte-preserved : goal.loop-byte-preserved
unfolding register_after
loop-byte-preserved c =
    let rest = c.as_chunks.result.1.now in
    let place = c.loop-byte.byte-index in
    ap (λ s. register_after s (drop (place + 1) rest)) c.byte_step-register.ensures
    ∙ sym (at_drop_more (register_after c.loop-byte.register) rest place 0 c.loop-byte-test.true)
    ∙ c.loop-byte.invariant

pub returns : goal.returns
unfolding register_after crc_32
returns c =
    let rest = c.as_chunks.result.1.now in
    let all = sym (at_drop_all (register_after c.loop-byte.register) rest c.loop-byte.byte-index c.loop-byte-test.false) ∙ c.loop-byte.invariant in
    ap (λ s. bit_xor s ones) all
