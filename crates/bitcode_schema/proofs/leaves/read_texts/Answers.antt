-- With a capacity and without.
use Rattle.bitcode_schema.proofs.leaves.read_texts.Goals as goal

pub returns-in-None-clause-read : goal.returns-in-None-clause-read
returns-in-None-clause-read c = rw c.in-None.is c.read_leaf.ensures.read

pub returns-in-None-clause-exact : goal.returns-in-None-clause-exact
returns-in-None-clause-exact c = rw c.in-None.is c.read_leaf.ensures.exact

pub returns-in-Some-clause-read : goal.returns-in-Some-clause-read
returns-in-Some-clause-read c = rw c.in-Some.is c.read_limited.ensures.read

pub returns-in-Some-clause-exact : goal.returns-in-Some-clause-exact
returns-in-Some-clause-exact c = rw c.in-Some.is c.read_limited.ensures.exact
