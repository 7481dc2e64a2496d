-- The lengths are short bytes.
use Rattle.std.proofs.Common.{◌<◌, ◌≤◌, ◌++◌, All, map, sym, subst, ap, ◌∙◌, arith}
use Rattle.std.proofs.lemmas.List.Elements.{All-map, All-weaker}
use Rattle.bitcode_memory.specs.Fast.{fast_items}
use Rattle.bitcode_coder.specs.Length.{written_lengths}
use Rattle.bitcode_coder.specs.LengthColumn.{escape, lengths_from}
use Rattle.bitcode_coder.specs.LengthParts.{AreLengthParts}
use Rattle.bitcode_coder.proofs.LengthPartLemmas.{pushed_shorts}
use Rattle.bitcode_coder.proofs.length.encoder.LengthEncoder.push_each_short.Goals as goal

pub invariant_of-self : goal.invariant_of-self
invariant_of-self g c =
    let self = c.args.self.now in
    let sizes = map g.T.Len.size c.args.chunk.now in
    let below : All (λ n. n < escape) sizes =
    All-map (λ n. n < escape) g.T.Len.size c.args.chunk.now
    (All-weaker (λ t. g.T.Len.size t ≤ c.args.max) (λ t. g.T.Len.size t < escape) (λ t h. omega (arith, h, c.requires.max)) c.args.chunk.now c.requires.within) in
    let pushed = c.push_short.ensures.written ∙ ap (λ v. fast_items v ++ sizes) c.replace-small.ensures.value in
    record {
      split = subst (λ s. AreLengthParts s self.large.items) (sym pushed) (pushed_shorts (fast_items self.small) self.large.items sizes below self.split).1;
    }

pub returns-clause-written : goal.returns-clause-written
unfolding written_lengths
returns-clause-written g c =
    let self = c.args.self.now in
    let sizes = map g.T.Len.size c.args.chunk.now in
    let below : All (λ n. n < escape) sizes =
    All-map (λ n. n < escape) g.T.Len.size c.args.chunk.now
    (All-weaker (λ t. g.T.Len.size t ≤ c.args.max) (λ t. g.T.Len.size t < escape) (λ t h. omega (arith, h, c.requires.max)) c.args.chunk.now c.requires.within) in
    let pushed = c.push_short.ensures.written ∙ ap (λ v. fast_items v ++ sizes) c.replace-small.ensures.value in
    ap (λ s. lengths_from s self.large.items) pushed ∙ (pushed_shorts (fast_items self.small) self.large.items sizes below self.split).0
