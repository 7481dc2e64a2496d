-- Of five bytes and more one element takes more than half of eight.
use Rattle.std.proofs.Common.{◌≡◌, ◌<◌, ◌≤◌, ◌/◌, Some, sym, ap, ◌∙◌, max, arith}
use Rattle.std.proofs.Math.Nat.{max-eq_left, max-eq_right}
use Rattle.std.proofs.lemmas.Nat.{div_below}
use Rattle.bitcode_coder.proofs.length.width.ChunkWidth.first.Goals as goal

pub returns-in_default : goal.returns-in_default
returns-in_default c =
    let large : 5 ≤ c.args.size = omega (arith, c) in
    let size : max 1 c.args.size ≡ c.args.size = max-eq_right (omega (arith, large)) in
    let one : 8 / c.args.size < 2 = div_below 8 c.args.size 2 (omega (arith, large)) (omega (arith, large)) in
    let first : max 1 (8 / c.args.size) ≡ 1 = max-eq_left (omega (arith, one)) in
    sym (ap (λ n. Some (max 1 (8 / n))) size ∙ ap Some first)
