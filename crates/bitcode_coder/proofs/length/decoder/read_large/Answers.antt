-- No large lengths take no bytes.
use Rattle.std.proofs.Common.{◌≡◌, ◌++◌, [], IsTrue, pos, length, map, refl, sym, ap, subst, arith}
use Rattle.std.specs.Prelude.{◌↔◌, IfOk}
use Rattle.std.proofs.lemmas.Simd.{map-map}
use Rattle.bitcode_memory.specs.Fast.{cow_rest}
use Rattle.bitcode_memory.specs.LittleEndian.{little_endian}
use Rattle.bitcode_columns.specs.IntColumn.{int_text}
use Rattle.bitcode_coder.proofs.LengthPartLemmas.{reads_no_large, no_large}
use Rattle.bitcode_coder.proofs.length.decoder.read_large.Goals as goal

pub returns-then-count-eq0-clause-read : goal.returns-then-count-eq0-clause-read
returns-then-count-eq0-clause-read c =
    reads_no_large c.args.count c.args.input.now.now (map little_endian (cow_rest c.set_borrowed.new.self)) (omega arith) (ap (map little_endian) c.set_borrowed.ensures)

pub returns-then-count-eq0-clause-judged : goal.returns-then-count-eq0-clause-judged
returns-then-count-eq0-clause-judged c strict =
    let larges = map little_endian (cow_rest c.set_borrowed.new.self) in
    let none : int_text 8 (map pos larges) ≡ [] = no_large larges (ap length (ap (map little_endian) c.set_borrowed.ensures)) in
    (λ t. ap (λ front. front ++ c.args.input.now.now) (sym none), λ same. refl)

pub returns-clause-judged : goal.returns-clause-judged
returns-clause-judged c strict =
    subst (λ ns. IfOk c.read_ints.result (λ written. IsTrue written ↔ (c.args.input.now.now ≡ int_text 8 ns ++ c.read_ints.new.input.now)))
    (sym (map-map pos little_endian (cow_rest c.read_ints.new.out))) (c.read_ints.ensures.judged strict)
