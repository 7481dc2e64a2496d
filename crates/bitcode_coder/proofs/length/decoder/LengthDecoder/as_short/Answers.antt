-- Without large lengths no byte is an escape.
use Rattle.std.proofs.Common.{◌≡◌, length, map, sym, ap, ◌∙◌, arith}
use Rattle.bitcode_memory.specs.Fast.{cow_rest}
use Rattle.bitcode_memory.specs.LittleEndian.{little_endian}
use Rattle.bitcode_coder.specs.Length.{lengths_left}
use Rattle.bitcode_coder.proofs.LengthLemmas.{no_escapes}
use Rattle.bitcode_coder.proofs.length.decoder.LengthDecoder.as_short.Goals as goal

pub returns-then-is_empty-clause-lengths : goal.returns-then-is_empty-clause-lengths
unfolding lengths_left
returns-then-is_empty-clause-lengths c =
    let self = c.args.self.now in
    let none : length (cow_rest self.large) ≡ 0 = grind (arith, c.is_empty.ensures, c.if-is_empty.true, ap length c.as_slice.ensures) in
    c.as_slice-then-is_empty.ensures ∙ sym (no_escapes (cow_rest self.small) (map little_endian (cow_rest self.large)) (sym self.enough ∙ none))
