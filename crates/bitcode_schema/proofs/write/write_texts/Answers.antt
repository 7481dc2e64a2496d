-- Without a limit, each text is short enough.
use Rattle.std.proofs.Common.{inr, refl, map}
use Rattle.std.proofs.lemmas.Result.{on_ok_weaker, IfErr-weaker}
use Rattle.bitcode_schema.proofs.AllowedLemmas.{writes_short, stranger_short}
use Rattle.bitcode_schema.proofs.SeenLemmas.{refusal_as}
use Rattle.bitcode_schema.proofs.write.write_texts.Goals as goal

pub returns-in_default-clause-refused : goal.returns-in_default-clause-refused
returns-in_default-clause-refused c = rw c.in_default.is c.write_leaf.ensures.refused

pub returns-then-not-are_short-clause-refused : goal.returns-then-not-are_short-clause-refused
returns-then-not-are_short-clause-refused c = rw (c.in-Some.is, c.err.ensures) (inr (refl, c.if-not-are_short.ensures))

pub returns-clause-written : goal.returns-clause-written
returns-clause-written c =
    rw c.in-Some.is
    (on_ok_weaker c.write_leaf-2.result
    (writes_short c.in-Some.limit (map (λ v. v.now) c.args.values.now) c.args.out.now.items c.write_leaf-2.new.out.items c.if-not-are_short.ensures)
    c.write_leaf-2.ensures.written)

pub returns-clause-refused : goal.returns-clause-refused
returns-clause-refused c =
    rw c.in-Some.is
    (IfErr-weaker c.write_leaf-2.result _ _ (λ e. refusal_as e.reason (stranger_short c.in-Some.limit (map (λ v. v.now) c.args.values.now)))
    c.write_leaf-2.ensures.refused)
