-- The choices so far were dealt to the first variants.
use Rattle.std.specs.Prelude.{◌≡◌, ◌≤◌, map, drop}
use Rattle.std.specs.VecDeque.{deque_len, deque_capacity}
use Rattle.bitcode_schema.proofs.DealLemmas.{DealtTo}
use Rattle.bitcode_schema.proofs.make.deal.deal.Given as goal

abbrev pub invariant-loop-i : goal.invariant-loop-i
invariant-loop-i l = record {
  dealt : DealtTo l.variants (map (λ p. p.items) l.fn.payloads.items) (drop l.i l.variants) (map (λ p. p.items) l.payloads.items) l.choices.items;
  len : deque_len l.choices ≡ l.i;
  room : l.k ≤ deque_capacity l.choices;
}
