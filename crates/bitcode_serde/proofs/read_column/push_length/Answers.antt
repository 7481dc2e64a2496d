-- The value that was taken stands behind the others.
use Rattle.bitcode_serde.proofs.read_column.push_length.Goals as goal

pub returns-clause-taken : goal.returns-clause-taken
returns-clause-taken c = record {
  value = c.next_length-value.result;
  added = c.push_reserved.ensures.items;
  taken = c.next_length-value.ensures.taken;
  of_case = c.next_length-value.ensures.of_case;
}
