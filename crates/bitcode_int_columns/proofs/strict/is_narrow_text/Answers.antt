use Rattle.std.proofs.Common.{◌≡◌, ◌%◌, arith}
use Rattle.bitcode_int_columns.proofs.StrictIntLemmas.{narrow_told}
use Rattle.bitcode_int_columns.proofs.strict.is_narrow_text.Goals as goal

pub returns : goal.returns
returns c =
    let one = c.if-width-ne1.false in
    let order = c.requires one in
    let low : c.args.low % 256 ≡ c.args.low = omega arith in
    let high : c.args.high % 256 ≡ c.args.high = omega arith in
    narrow_told c.is_bytes_text.result c.args.body.now c.args.count c.args.width c.args.low c.args.high _ _ one low high c.is_bytes_text.ensures
