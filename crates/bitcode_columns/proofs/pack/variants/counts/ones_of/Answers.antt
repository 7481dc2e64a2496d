use Rattle.std.proofs.Common.{◌≡◌, ◌+◌, ◌*◌, ◌/◌, [], length, take, get_or, refl, ap, arith}
use Rattle.bitcode_columns.specs.declared.pack.Base.TheVariants.{Two}
use Rattle.bitcode_columns.specs.DigitCounts.{digits_counted}
use Rattle.bitcode_columns.proofs.BitCountLemmas.{bits_counted, ones_in_front, one_block_more, blocks_and_rest}
use Rattle.bitcode_columns.proofs.pack.variants.counts.ones_of.Goals as goal

pub loop-block-init : goal.loop-block-init
unfolding digits_counted
loop-block-init c = refl

pub overflow_add-ones : goal.overflow_add-ones
overflow_add-ones c =
    let packed = c.args.packed.now in
    let i = c.loop-block.block-index in
    omega (
      arith,
      c.loop-block.invariant,
      c.ones_of_eight-ones.ensures,
      one_block_more 8 (length packed / 8) i packed (get_or c.as_chunks.result.0.now i []) (omega arith) (ap (λ bs. get_or bs i []) c.as_chunks.ensures.front),
      ones_in_front ((i + 1) * 8) packed c.known_bytes.ensures,
      c.requires,
    )

pub loop-block-preserved : goal.loop-block-preserved
loop-block-preserved c =
    let packed = c.args.packed.now in
    let i = c.loop-block.block-index in
    omega (
      arith,
      c.loop-block.invariant,
      c.ones_of_eight-ones.ensures,
      one_block_more 8 (length packed / 8) i packed (get_or c.as_chunks.result.0.now i []) (omega arith) (ap (λ bs. get_or bs i []) c.as_chunks.ensures.front),
    )

-- the bits of the blocks and of what is behind them are all
whole : (c : goal.After-ones_of_each) → c.loop-block.ones + c.ones_of_each.result ≡ digits_counted Two 1 c.args.packed.now
whole c =
    let packed = c.args.packed.now in
    let all : c.loop-block.block-index ≡ length packed / 8 = omega arith in
    omega (
      arith,
      c.loop-block.invariant,
      c.ones_of_each.ensures,
      ap (λ n. digits_counted Two 1 (take (n * 8) packed)) all,
      blocks_and_rest 8 (length packed / 8) packed c.as_chunks.result.1.now c.as_chunks.ensures.back,
    )

pub overflow_add-result : goal.overflow_add-result
overflow_add-result c = omega (arith, whole c, bits_counted c.args.packed.now c.known_bytes.ensures, c.requires)

pub returns : goal.returns
returns c = whole c
