-- One bool is the lowest digit of its byte.
use Rattle.std.proofs.Common.{length, [], ◌∷◌, ap, sym, ◌∙◌}
use Rattle.bitcode_columns.proofs.pack.unpack_bools.Goals as goal

pub returns-then-count-eq1-clause-read : goal.returns-then-count-eq1-clause-read
returns-then-count-eq1-clause-read c = record {
  size = ap length c.set_borrowed.ensures ∙ c.single_bool.ensures.len ∙ sym c.if-count-eq1.true;
  piece = c.in_ok-byte.byte ∷ [];
  whole = c.in_ok-byte.ensures.taken;
  spelled = rw c.set_borrowed.ensures c.single_bool.ensures.spelled;
}
