-- The counts are those of all indices.
use Rattle.std.proofs.Common.{◌≤◌, ◌<◌, ◌-◌, sym, subst, ap, ◌∙◌, arith}
use Rattle.bitcode_columns.specs.Histogram.{count_of}
use Rattle.bitcode_serde.specs.Indices.{index_count}
use Rattle.bitcode_serde.proofs.serde.decoder.VariantDecoder.max_variant_index.Goals as goal

pub returns-then-counts-index-gt0 : goal.returns-then-counts-index-gt0
unfolding index_count
returns-then-counts-index-gt0 c =
    let at = c.loop-index.index - 1 in
    let within = c.loop-index.auto.index in
    let some = c.loop-index-test.true in
    let small : at < 256 = omega (arith, within, some) in (
      subst (λ n. 0 < n) (c.histogram-counts.ensures.each at small ∙ ap (count_of at) c.as_slice.ensures) c.if-counts-index-gt0.true,
      λ index above below.
          let over : c.loop-index.index ≤ index = omega (arith, above, some) in
          sym (c.histogram-counts.ensures.each index below ∙ ap (count_of index) c.as_slice.ensures) ∙ c.loop-index.invariant index over below,
    )

pub returns : goal.returns
unfolding index_count
returns c = λ index below.
    let done = c.loop-index-test.false in
    let over : c.loop-index.index ≤ index = omega (arith, done) in
    sym (c.histogram-counts.ensures.each index below ∙ ap (count_of index) c.as_slice.ensures) ∙ c.loop-index.invariant index over below
