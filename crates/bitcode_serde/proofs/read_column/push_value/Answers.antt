-- The value that was taken stands behind the others.
use Rattle.bitcode_serde.proofs.read_column.push_value.Goals as goal

pub returns-clause-taken : goal.returns-clause-taken
returns-clause-taken g c = record {
  value = c.in_ok-value.value;
  added = c.push_reserved.ensures.items;
  taken = c.in_ok-value.ensures.taken;
  of_case = c.in_ok-value.ensures.of_case;
}
