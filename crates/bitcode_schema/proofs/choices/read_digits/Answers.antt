-- By the base of the digits.
use Rattle.std.proofs.Common.{◌≡◌, ◌++◌, IsTrue, subst, arith}
use Rattle.std.specs.Prelude.{◌↔◌}
use Rattle.std.proofs.lemmas.Result.{IfErr-weaker, IfOk-weaker}
use Rattle.bitcode_memory.specs.Fast.{cow_rest}
use Rattle.bitcode_schema.proofs.VariantLemmas.{whole_6, whole_16, whole_256, same_text, same_fault}
use Rattle.bitcode_schema.proofs.choices.read_digits.Goals as goal

pub returns-in-5-to-6-clause-judged : goal.returns-in-5-to-6-clause-judged
returns-in-5-to-6-clause-judged c = λ asked.
    IfOk-weaker c.read_below-in-5-to-6.result _ _
    (λ written told. subst (λ text. IsTrue written ↔ (c.args.input.now.now ≡ text ++ c.read_below-in-5-to-6.new.input.now))
    (same_text (whole_6 c.args.count (grind (arith, c.in-5-to-6)) (grind (arith, c.in-5-to-6))) (cow_rest c.read_below-in-5-to-6.new.out)) told)
    (c.read_below-in-5-to-6.ensures.judged asked)

pub returns-in-5-to-6-clause-refused : goal.returns-in-5-to-6-clause-refused
returns-in-5-to-6-clause-refused c =
    IfErr-weaker c.read_below-in-5-to-6.result _ _ (λ e fault. same_fault (whole_6 c.args.count (grind (arith, c.in-5-to-6)) (grind (arith, c.in-5-to-6))) c.args.k c.args.input.now.now e.reason fault) c.read_below-in-5-to-6.ensures.refused

pub returns-in-7-to-16-clause-judged : goal.returns-in-7-to-16-clause-judged
returns-in-7-to-16-clause-judged c = λ asked.
    IfOk-weaker c.read_below-in-7-to-16.result _ _
    (λ written told. subst (λ text. IsTrue written ↔ (c.args.input.now.now ≡ text ++ c.read_below-in-7-to-16.new.input.now))
    (same_text (whole_16 c.args.count (grind (arith, c.in-7-to-16)) (grind (arith, c.in-7-to-16))) (cow_rest c.read_below-in-7-to-16.new.out)) told)
    (c.read_below-in-7-to-16.ensures.judged asked)

pub returns-in-7-to-16-clause-refused : goal.returns-in-7-to-16-clause-refused
returns-in-7-to-16-clause-refused c =
    IfErr-weaker c.read_below-in-7-to-16.result _ _ (λ e fault. same_fault (whole_16 c.args.count (grind (arith, c.in-7-to-16)) (grind (arith, c.in-7-to-16))) c.args.k c.args.input.now.now e.reason fault) c.read_below-in-7-to-16.ensures.refused

pub returns-in_default-clause-judged : goal.returns-in_default-clause-judged
returns-in_default-clause-judged c = λ asked.
    IfOk-weaker c.read_below-in_default.result _ _
    (λ written told. subst (λ text. IsTrue written ↔ (c.args.input.now.now ≡ text ++ c.read_below-in_default.new.input.now))
    (same_text (whole_256 c.args.count (grind (arith, c.in_default))) (cow_rest c.read_below-in_default.new.out)) told)
    (c.read_below-in_default.ensures.judged asked)

pub returns-in_default-clause-refused : goal.returns-in_default-clause-refused
returns-in_default-clause-refused c =
    IfErr-weaker c.read_below-in_default.result _ _ (λ e fault. same_fault (whole_256 c.args.count (grind (arith, c.in_default))) c.args.k c.args.input.now.now e.reason fault) c.read_below-in_default.ensures.refused
