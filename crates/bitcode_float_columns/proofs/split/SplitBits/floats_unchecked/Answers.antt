-- Those of whole blocks, and then the last few.
use Rattle.std.proofs.Common.{◌≡◌, ◌+◌, ◌-◌, ◌*◌, ◌/◌, ◌++◌, map, take, drop, sym, ap, ap₂, ◌∙◌, arith}
use Rattle.std.specs.Prelude.{from_bits}
use Rattle.std.specs.Float.{binary32}
use Rattle.std.proofs.Math.Seq.{take-add}
use Rattle.std.proofs.lemmas.List.{map-append}
use Rattle.bitcode_float_columns.specs.Split.{split_rest}
use Rattle.bitcode_float_columns.proofs.split.SplitBits.floats_unchecked.Goals as goal

pub returns-clause-taken : goal.returns-clause-taken
returns-clause-taken c =
    let all = split_rest c.args.self.now in
    let front = 4 * (c.saturating_sub-blocks.result / 4) in
    let back = c.args.count - front in
    let whole : front + back ≡ c.args.count = omega (arith, c.saturating_sub-blocks.ensures) in
    c.push_few.ensures.taken
    ∙ ap₂ (λ xs bits. xs ++ map (from_bits binary32) (take back bits))
    (c.push_fours-floats.ensures.taken ∙ ap (λ xs. xs ++ map (from_bits binary32) (take front all)) c.in_ok-floats.ensures.items)
    c.push_fours-floats.ensures.rest
    ∙ sym (map-append (from_bits binary32) (take front all) (take back (drop front all)))
    ∙ ap (map (from_bits binary32)) (sym (take-add front back all) ∙ ap (λ n. take n all) whole)
