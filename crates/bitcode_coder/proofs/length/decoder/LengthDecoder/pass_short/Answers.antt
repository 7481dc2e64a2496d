-- No byte is an escape, so that those behind are the lengths behind.
use Rattle.std.proofs.Common.{◌≡◌, ◌≤◌, length, map, drop, sym, ap, subst, ◌∙◌}
use Rattle.std.proofs.lemmas.List.{length-map}
use Rattle.bitcode_memory.specs.Fast.{cow_rest}
use Rattle.bitcode_memory.specs.LittleEndian.{little_endian}
use Rattle.bitcode_coder.specs.Length.{large_left, lengths_left}
use Rattle.bitcode_coder.specs.LengthColumn.{lengths_from}
use Rattle.bitcode_coder.specs.LengthParts.{escapes}
use Rattle.bitcode_coder.proofs.LengthLemmas.{length-lengths_from, no_escapes, no_escapes_behind}
use Rattle.bitcode_coder.proofs.length.decoder.LengthDecoder.pass_short.Goals as goal

pub chunk_unchecked-passed-requires : goal.chunk_unchecked-passed-requires
unfolding lengths_left
chunk_unchecked-passed-requires c =
    let self = c.args.self.now in
    subst (λ size. c.args.n ≤ size) (length-lengths_from (cow_rest self.small) (map little_endian (cow_rest self.large))) c.requires.left

pub invariant_of-self : goal.invariant_of-self
unfolding large_left
invariant_of-self c =
    let self = c.args.self.now in
    let none : length (cow_rest self.large) ≡ 0 = sym (length-map (cow_rest self.large) little_endian) ∙ ap length c.requires.short in
    record {
      enough = none
          ∙ sym (ap escapes c.chunk_unchecked-passed.follows.holds-at-none ∙ no_escapes_behind c.args.n (cow_rest self.small) (sym self.enough ∙ none));
    }

pub returns : goal.returns
unfolding large_left lengths_left
returns c =
    let self = c.args.self.now in
    let small = cow_rest self.small in
    let large = map little_endian (cow_rest self.large) in
    let none : length (cow_rest self.large) ≡ 0 = sym (length-map (cow_rest self.large) little_endian) ∙ ap length c.requires.short in
    let no_escape : escapes small ≡ 0 = sym self.enough ∙ none in
    ap (λ shorts. lengths_from shorts large) c.chunk_unchecked-passed.follows.holds-at-none ∙ no_escapes (drop c.args.n small) large (no_escapes_behind c.args.n small no_escape)
    ∙ sym (ap (drop c.args.n) (no_escapes small large no_escape))
