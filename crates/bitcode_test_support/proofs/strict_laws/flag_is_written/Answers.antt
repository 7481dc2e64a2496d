-- A flag has no set, map or heap.
use Rattle.std.proofs.Common.{refl}
use Rattle.bitcode_test_support.proofs.strict_laws.flag_is_written.Goals as goal

pub returns-clause-written : goal.returns-clause-written
returns-clause-written c = c.strictly_written.ensures.written refl

pub returns-clause-read : goal.returns-clause-read
returns-clause-read c = c.strictly_written.ensures.read refl
