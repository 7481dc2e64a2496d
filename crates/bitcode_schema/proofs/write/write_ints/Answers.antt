-- By the kind.
use Rattle.bitcode_schema.proofs.write.write_ints.Goals as goal

pub returns-in-U8-clause-refused : goal.returns-in-U8-clause-refused
returns-in-U8-clause-refused c = rw c.in-U8.is c.write_leaf.ensures.refused

pub returns-in-U16-clause-refused : goal.returns-in-U16-clause-refused
returns-in-U16-clause-refused c = rw c.in-U16.is c.write_leaf-in-U16.ensures.refused

pub returns-in-U32-clause-refused : goal.returns-in-U32-clause-refused
returns-in-U32-clause-refused c = rw c.in-U32.is c.write_leaf-in-U32.ensures.refused

pub returns-in-U64-clause-refused : goal.returns-in-U64-clause-refused
returns-in-U64-clause-refused c = rw c.in-U64.is c.write_leaf-in-U64.ensures.refused

pub returns-in-U128-clause-refused : goal.returns-in-U128-clause-refused
returns-in-U128-clause-refused c = rw c.in-U128.is c.write_leaf-in-U128.ensures.refused

pub returns-in-I8-clause-refused : goal.returns-in-I8-clause-refused
returns-in-I8-clause-refused c = rw c.in-I8.is c.write_leaf-in-I8.ensures.refused

pub returns-in-I16-clause-refused : goal.returns-in-I16-clause-refused
returns-in-I16-clause-refused c = rw c.in-I16.is c.write_leaf-in-I16.ensures.refused

pub returns-in-I32-clause-refused : goal.returns-in-I32-clause-refused
returns-in-I32-clause-refused c = rw c.in-I32.is c.write_leaf-in-I32.ensures.refused

pub returns-in-I64-clause-refused : goal.returns-in-I64-clause-refused
returns-in-I64-clause-refused c = rw c.in-I64.is c.write_leaf-in-I64.ensures.refused

pub returns-in-I128-clause-refused : goal.returns-in-I128-clause-refused
returns-in-I128-clause-refused c = rw c.in-I128.is c.write_leaf-in-I128.ensures.refused
