use Rattle.std.proofs.Common.{◌≡◌, ◌*◌, ◌/◌, length, take, get_or, [], rules, ap, ◌∙◌, arith}
use Rattle.bitcode_columns.specs.Histogram.{count_of, counted}
use Rattle.bitcode_columns.proofs.TableLemmas.{no_counts, block_counted, rest_counted}
use Rattle.bitcode_columns.proofs.histogram.count_in_tables.Goals as goal

pub loop-block-init : goal.loop-block-init
loop-block-init c = λ value below. no_counts 1024 value

pub loop-block-preserved : goal.loop-block-preserved
loop-block-preserved c = λ value below.
    let bytes = c.args.bytes.now in
    let i = c.loop-block.block-index in
    let so_far : counted c.loop-block.tables value ≡ count_of value (take (i * 16) bytes) = c.loop-block.invariant value below in
    omega (
      arith,
      c.count_each.ensures value below,
      so_far,
      block_counted value 16 (length bytes / 16) i bytes (get_or c.as_chunks.result.0.now i []) [] (omega arith) (ap (λ bs. get_or bs i []) c.as_chunks.ensures.front),
    )

pub returns : goal.returns
returns c = record {
  size = search rules;
  each = λ value below.
      let bytes = c.args.bytes.now in
      let i = c.loop-block.block-index in
      let blocks : i ≡ length bytes / 16 = omega arith in
      let so_far : counted c.loop-block.tables value ≡ count_of value (take (i * 16) bytes) = c.loop-block.invariant value below in
      c.sums_of.ensures value below
      ∙ omega (arith, c.count_each-2.ensures value below, so_far, rest_counted value 16 (length bytes / 16) i bytes c.as_chunks.result.1.now blocks c.as_chunks.ensures.back);
}
