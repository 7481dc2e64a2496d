use Rattle.std.proofs.Common.{◌≡◌, ℕ, ◌+◌, ◌*◌, ◌<◌, All, ap, sym, ◌∙◌, rules, arith}
use Rattle.std.proofs.lemmas.Grind.{common_steps}
use Rattle.std.proofs.lemmas.List.{get_or_default}
use Rattle.bitcode_columns.specs.DigitCounts.{digits_of, digits_counted}
use Rattle.bitcode_columns.specs.Histogram.{count_of}
use Rattle.bitcode_columns.proofs.DigitCountLemmas.{of_below, below_none, below_more, below_least, below_all}
use Rattle.bitcode_columns.proofs.TableLemmas.{no_count}
use Rattle.bitcode_columns.proofs.pack.variants.counts.counts_of_digits.Goals as goal

pub loop-byte-init : goal.loop-byte-init
loop-byte-init g c = λ value below.
    no_count g.row.N value 0 ∙ sym (below_none (λ byte. count_of value (digits_of c.args.base byte)) c.args.packed.now)

pub count_digits-requires : goal.count_digits-requires
unfolding digits_counted
count_digits-requires g c = (
  first_of (search rules, omega arith, grind (arith, common_steps)),
  λ value below.
      let w : ℕ → ℕ = λ byte. count_of value (digits_of c.args.base byte) in
      let packed = c.args.packed.now in
      let byte = c.loop-byte.byte in
      omega (
        arith,
        c.requires value below,
        c.loop-byte.invariant value below,
        below_more w byte packed,
        below_least w (byte + 1) packed,
        ap (λ n. n * w byte) (c.histogram-of_bytes.ensures.each byte (omega arith)),
      ),
)

pub loop-byte-preserved : goal.loop-byte-preserved
loop-byte-preserved g c = λ value below.
    let w : ℕ → ℕ = λ byte. count_of value (digits_of c.args.base byte) in
    let packed = c.args.packed.now in
    let byte = c.loop-byte.byte in
    omega (
      arith,
      c.count_digits.ensures value below,
      c.loop-byte.invariant value below,
      below_more w byte packed,
      ap (λ n. n * w byte) (c.histogram-of_bytes.ensures.each byte (omega arith)),
    )

pub returns : goal.returns
unfolding digits_counted
returns g c = λ value below.
    let w : ℕ → ℕ = λ byte. count_of value (digits_of c.args.base byte) in
    let packed = c.args.packed.now in
    let all : c.loop-byte.byte ≡ 256 = omega arith in
    let bytes : All (λ byte. byte < 256) packed = λ i d inside. omega (arith, get_or_default packed i d 0 inside, c.type_inv.packed i) in
    c.loop-byte.invariant value below ∙ ap (λ n. of_below w n packed) all ∙ below_all w 256 packed bytes
