-- The head that was read.
use Rattle.bitcode_sealed.proofs.front.read_label.Goals as goal

pub returns-clause-found : goal.returns-clause-found
returns-clause-found c = record { size = c.in_ok-head.head.size; begins = c.in_ok-head.ensures.found }
