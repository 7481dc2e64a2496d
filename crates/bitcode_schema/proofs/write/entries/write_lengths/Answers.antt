-- The column has the lengths of all lists.
use Rattle.std.proofs.Common.{◌≡◌, ◌++◌, length, map, take, ap, ◌∙◌, subst, arith}
use Rattle.std.proofs.Math.Seq.{take-length}
use Rattle.std.specs.Prelude.{OnOk}
use Rattle.bitcode_coder.specs.Length.{written_lengths}
use Rattle.bitcode_coder.specs.LengthColumn.{length_bytes}
use Rattle.bitcode_coder.proofs.LengthPartLemmas.{naturals_in}
use Rattle.bitcode_schema.proofs.write.entries.write_lengths.Goals as goal

pub returns-clause-written : goal.returns-clause-written
returns-clause-written g c =
    let at_end : c.loop-list.list-index ≡ length c.args.lists.now = omega (arith, c.loop-list-test.false, c.loop-list.auto.list-index-end) in
    let all = ap (λ ls. map (λ l. length l) (map (λ l. l.now) ls)) (ap (λ n. take n c.args.lists.now) at_end ∙ take-length c.args.lists.now) in
    subst (λ text. OnOk c.collect_into.result (c.collect_into.new.out.items ≡ c.args.out.now.items ++ text))
    (ap length_bytes (naturals_in (written_lengths c.loop-list.column) ∙ c.loop-list.invariant.written ∙ all)) c.collect_into.ensures.written
