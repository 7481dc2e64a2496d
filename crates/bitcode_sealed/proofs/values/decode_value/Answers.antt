-- What `decode` promises of its error.
use Rattle.std.proofs.Common.{refl}
use Rattle.bitcode_sealed.proofs.values.decode_value.Goals as goal

pub returns-in-Err-clause-refused : goal.returns-in-Err-clause-refused
returns-in-Err-clause-refused g c = record {
  error = c.in-Err.e;
  named = refl;
  reasons = c.in-Err.ensures.reasons;
  refused = c.in-Err.ensures.refused;
  exact = c.in-Err.ensures.exact;
}
