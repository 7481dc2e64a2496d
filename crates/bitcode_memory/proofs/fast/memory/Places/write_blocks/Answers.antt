-- Each block goes on where the items were written that lie before it.
use Rattle.std.proofs.Common.{◌≡◌, ◌+◌, ◌-◌, ◌≤◌, ◌++◌, length, take, ap, ◌∙◌, sym, arith}
use Rattle.std.proofs.lemmas.List.{append-nil, take_all}
use Rattle.bitcode_memory.proofs.PlacesLemmas.{block_written}
use Rattle.bitcode_memory.proofs.fast.memory.Places.write_blocks.Goals as goal

pub returns-clause-items : goal.returns-clause-items
returns-clause-items g c =
    let old = c.args.self.now.items in
    let src = c.args.src.now in
    let n = c.args.index in
    let size = length src in
    let fits : n ≤ length old = omega (arith, c.requires.places) in
    let last = size - 16 in
    let second_from = c.min.result in
    let third_from = c.max.result - 32 in
    let begun : n + 0 ≡ n = omega arith in
    let none : take (n + 0) old ≡ take n old ++ take 0 src = ap (λ m. take m old) begun ∙ sym (append-nil (take n old)) in
    let first = block_written old old c.write_block.new.self.items src n 0 0 fits (omega arith) none c.write_block.ensures.items in
    let second = block_written old c.write_block.new.self.items c.write_block-2.new.self.items src n 16 second_from fits (omega (arith, c.min.ensures)) first c.write_block-2.ensures.items in
    let third = block_written old c.write_block-2.new.self.items c.write_block-3.new.self.items src n (second_from + 16) third_from fits (omega (arith, c.requires.size, c.min.ensures, c.max.ensures)) second c.write_block-3.ensures.items in
    let fourth = block_written old c.write_block-3.new.self.items c.write_block-4.new.self.items src n (third_from + 16) last fits (omega (arith, c.requires.size, c.max.ensures)) third c.write_block-4.ensures.items in
    let all : last + 16 ≡ size = omega (arith, c.requires.size) in
    ap (λ m. take (n + m) c.write_block-4.new.self.items) (sym all) ∙ fourth ∙ ap (λ m. take n old ++ take m src) all
    ∙ ap (λ ys. take n old ++ ys) (take_all size src (omega arith))
