-- The bytes of one number are its text at each width.
use Rattle.std.proofs.Common.{◌≡◌, rules, ◌%◌, ◌^◌, ◌++◌, ap, ◌∙◌, arith}
use Rattle.bitcode_memory.specs.LittleEndian.{number_bytes}
use Rattle.bitcode_int_columns.proofs.SingleLemmas.{narrow_single}
use Rattle.bitcode_int_columns.proofs.pack_ints.single.push_narrow.Goals as goal

pub returns-in-1 : goal.returns-in-1
returns-in-1 c = rw c.in-1.is
    (c.push.ensures.written ∙ ap (λ n. c.args.out.now.items ++ number_bytes 1 n) c.from_wide.ensures
    ∙ ap (λ text. c.args.out.now.items ++ text) (narrow_single 1 (c.args.number % 256 ^ 1) (omega arith)))

pub returns-in-2 : goal.returns-in-2
returns-in-2 c = rw c.in-2.is
    (c.push-in-2.ensures.written ∙ ap (λ n. c.args.out.now.items ++ number_bytes 2 n) c.from_wide-in-2.ensures
    ∙ ap (λ text. c.args.out.now.items ++ text) (narrow_single 2 (c.args.number % 256 ^ 2) (omega arith)))

pub returns-in-4 : goal.returns-in-4
returns-in-4 c = rw c.in-4.is
    (c.push-in-4.ensures.written ∙ ap (λ n. c.args.out.now.items ++ number_bytes 4 n) c.from_wide-in-4.ensures
    ∙ ap (λ text. c.args.out.now.items ++ text) (narrow_single 4 (c.args.number % 256 ^ 4) (omega arith)))

pub returns-in-8 : goal.returns-in-8
returns-in-8 c = rw c.in-8.is
    (c.push-in-8.ensures.written ∙ ap (λ n. c.args.out.now.items ++ number_bytes 8 n) c.from_wide-in-8.ensures
    ∙ ap (λ text. c.args.out.now.items ++ text) (narrow_single 8 (c.args.number % 256 ^ 8) (omega arith)))

pub returns-in_default : goal.returns-in_default
returns-in_default c =
    let wide : c.args.width ≡ 16 = search rules in
    rw wide
    (c.push-in_default.ensures.written ∙ ap (λ n. c.args.out.now.items ++ number_bytes 16 n) c.from_wide-in_default.ensures
    ∙ ap (λ text. c.args.out.now.items ++ text) (narrow_single 16 (c.args.number % 256 ^ 16) (omega arith)))
