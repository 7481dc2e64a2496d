-- The value that was taken stands behind the others.
use Rattle.bitcode_serde.proofs.read_column.push_byte.Goals as goal

pub returns-clause-taken : goal.returns-clause-taken
returns-clause-taken c = record {
  value = c.next_byte-value.result;
  added = c.push_reserved.ensures.items;
  taken = c.next_byte-value.ensures.taken;
  of_case = c.next_byte-value.ensures.of_case;
}
