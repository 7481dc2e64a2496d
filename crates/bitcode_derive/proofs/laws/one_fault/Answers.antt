-- The first fault of a shape.
use Rattle.bitcode_derive.proofs.FaultRefusalLemmas.{fault_refuses}
use Rattle.bitcode_derive.proofs.OneFaultLemmas.{fault_once, whole_fault_once, front_fault_once}
use Rattle.bitcode_derive.proofs.laws.one_fault.Goals as goal

pub returns-clause-refused : goal.returns-clause-refused
returns-clause-refused c = fault_refuses

pub returns-clause-once : goal.returns-clause-once
returns-clause-once c = fault_once

pub returns-clause-whole : goal.returns-clause-whole
returns-clause-whole c = whole_fault_once

pub returns-clause-front : goal.returns-clause-front
returns-clause-front c = front_fault_once
