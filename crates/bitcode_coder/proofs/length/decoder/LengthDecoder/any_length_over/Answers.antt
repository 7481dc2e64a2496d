-- A length that keeps the limit changes nothing for those left.
use Rattle.std.proofs.Common.{ℕ, ◌≤◌, All, subst, sym, arith}
use Rattle.std.proofs.lemmas.List.Elements.{All-cons, All-tail}
use Rattle.bitcode_coder.specs.Length.{lengths_left}
use Rattle.bitcode_coder.proofs.LengthPartLemmas.{taken_from}
use Rattle.bitcode_coder.proofs.length.decoder.LengthDecoder.any_length_over.Goals as goal

pub loop-preserved : goal.loop-preserved
loop-preserved c =
    let P : ℕ → Type 0 = λ n. n ≤ c.args.limit in
    let taken = c.decode.ensures.taken in
    record {
      left = omega (arith, (taken_from (lengths_left c.loop.lengths) c.decode.result (lengths_left c.decode.new.self) taken).1);
      kept = λ rest. c.loop.invariant.kept (subst (All P) (sym taken) (All-cons P c.decode.result (lengths_left c.decode.new.self) c.if-decode-limit.false rest));
      broken = λ all. All-tail P c.decode.result (lengths_left c.decode.new.self) (subst (All P) taken (c.loop.invariant.broken all));
    }
