use Rattle.std.proofs.Common.{true, false, ap, subst}
use Rattle.bitcode_memory.proofs.MinmaxLemmas.{least_more, greatest_more, least_of, greatest_of, all_of}
use Rattle.bitcode_memory.specs.Ints.{IsNumber}
use Rattle.std.proofs.lemmas.List.Elements.{All-more}
use Rattle.bitcode_memory.proofs.minmax.bounds.Goals as goal
use Rattle.bitcode_memory.proofs.minmax.bounds.Goals.{then-is_less, else-is_less, then-is_less-2, else-is_less-2}

pub loop-entry-preserved : goal.loop-entry-preserved
loop-entry-preserved g c = record {
  least = elim c.if-is_less.branch [
    | then-is_less w ↦ least_more g.T.Int.number _ _ _ _ _ _ _ true c.loop-entry-test.true c.entry-item.is c.loop-entry.invariant.least w.if-is_less.ensures (ap g.T.Int.number w.least-is)
    | else-is_less w ↦ least_more g.T.Int.number _ _ _ _ _ _ _ false c.loop-entry-test.true c.entry-item.is c.loop-entry.invariant.least w.if-is_less.ensures (ap g.T.Int.number w.least-is)
  ];
  greatest = elim c.if-is_less-2.branch [
    | then-is_less-2 w ↦ greatest_more g.T.Int.number _ _ _ _ _ _ _ true c.loop-entry-test.true c.entry-item.is c.loop-entry.invariant.greatest w.if-is_less-2.ensures (ap g.T.Int.number w.greatest-is)
    | else-is_less-2 w ↦ greatest_more g.T.Int.number _ _ _ _ _ _ _ false c.loop-entry-test.true c.entry-item.is c.loop-entry.invariant.greatest w.if-is_less-2.ensures (ap g.T.Int.number w.greatest-is)
  ];
  in_range = All-more (λ e. IsNumber g.T.Int.width g.T.Int.signed (g.T.Int.number e)) _ _ _ c.loop-entry-test.true c.loop-entry.invariant.in_range (subst (λ e. IsNumber g.T.Int.width g.T.Int.signed (g.T.Int.number e)) c.entry-item.is c.to_unsigned-in_range-in-loop-entry.ensures.in_range);
}

pub returns-clause-least : goal.returns-clause-least
returns-clause-least g c = least_of g.T.Int.number _ _ _ _ _ c.in_ok-first.ensures.cases.0 c.loop-entry-test.false c.loop-entry.invariant.least

pub returns-clause-greatest : goal.returns-clause-greatest
returns-clause-greatest g c = greatest_of g.T.Int.number _ _ _ _ _ c.in_ok-first.ensures.cases.0 c.loop-entry-test.false c.loop-entry.invariant.greatest

pub returns-clause-in_range : goal.returns-clause-in_range
returns-clause-in_range g c =
    all_of (λ e. IsNumber g.T.Int.width g.T.Int.signed (g.T.Int.number e)) _ _ _ _ c.in_ok-first.ensures.cases.0 c.loop-entry-test.false c.to_unsigned-in_range.ensures.in_range c.loop-entry.invariant.in_range
