-- A length within the limit changes nothing for those left.
use Rattle.std.proofs.Common.{ℕ, ◌≤◌, All, subst, sym, arith}
use Rattle.std.proofs.lemmas.List.Elements.{All-cons, All-tail}
use Rattle.bitcode_coder.specs.Length.{lengths_left}
use Rattle.bitcode_coder.proofs.LengthPartLemmas.{taken_from}
use Rattle.bitcode_schema.proofs.limits.is_any_over.Goals as goal

pub loop-preserved : goal.loop-preserved
loop-preserved c =
    let P : ℕ → Type 0 = λ n. n ≤ c.args.limit in
    let taken = c.decode.ensures.taken in
    let rest = lengths_left c.decode.new.self in
    record {
      left = omega (arith, (taken_from (lengths_left c.loop.lengths) c.decode.result rest taken).1);
      kept = λ all. c.loop.invariant.kept (subst (All P) (sym taken) (All-cons P c.decode.result rest c.if-decode-limit.false all));
      broken = λ all. All-tail P c.decode.result rest (subst (All P) taken (c.loop.invariant.broken all));
    }
