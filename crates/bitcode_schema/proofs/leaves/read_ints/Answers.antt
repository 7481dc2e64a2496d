-- By the kind.
use Rattle.bitcode_schema.proofs.leaves.read_ints.Goals as goal

pub returns-in-U8-clause-read : goal.returns-in-U8-clause-read
returns-in-U8-clause-read c = rw c.in-U8.is c.read_leaf.ensures.read

pub returns-in-U8-clause-exact : goal.returns-in-U8-clause-exact
returns-in-U8-clause-exact c = rw c.in-U8.is c.read_leaf.ensures.exact

pub returns-in-U16-clause-read : goal.returns-in-U16-clause-read
returns-in-U16-clause-read c = rw c.in-U16.is c.read_leaf-in-U16.ensures.read

pub returns-in-U16-clause-exact : goal.returns-in-U16-clause-exact
returns-in-U16-clause-exact c = rw c.in-U16.is c.read_leaf-in-U16.ensures.exact

pub returns-in-U32-clause-read : goal.returns-in-U32-clause-read
returns-in-U32-clause-read c = rw c.in-U32.is c.read_leaf-in-U32.ensures.read

pub returns-in-U32-clause-exact : goal.returns-in-U32-clause-exact
returns-in-U32-clause-exact c = rw c.in-U32.is c.read_leaf-in-U32.ensures.exact

pub returns-in-U64-clause-read : goal.returns-in-U64-clause-read
returns-in-U64-clause-read c = rw c.in-U64.is c.read_leaf-in-U64.ensures.read

pub returns-in-U64-clause-exact : goal.returns-in-U64-clause-exact
returns-in-U64-clause-exact c = rw c.in-U64.is c.read_leaf-in-U64.ensures.exact

pub returns-in-U128-clause-read : goal.returns-in-U128-clause-read
returns-in-U128-clause-read c = rw c.in-U128.is c.read_leaf-in-U128.ensures.read

pub returns-in-U128-clause-exact : goal.returns-in-U128-clause-exact
returns-in-U128-clause-exact c = rw c.in-U128.is c.read_leaf-in-U128.ensures.exact

pub returns-in-I8-clause-read : goal.returns-in-I8-clause-read
returns-in-I8-clause-read c = rw c.in-I8.is c.read_leaf-in-I8.ensures.read

pub returns-in-I8-clause-exact : goal.returns-in-I8-clause-exact
returns-in-I8-clause-exact c = rw c.in-I8.is c.read_leaf-in-I8.ensures.exact

pub returns-in-I16-clause-read : goal.returns-in-I16-clause-read
returns-in-I16-clause-read c = rw c.in-I16.is c.read_leaf-in-I16.ensures.read

pub returns-in-I16-clause-exact : goal.returns-in-I16-clause-exact
returns-in-I16-clause-exact c = rw c.in-I16.is c.read_leaf-in-I16.ensures.exact

pub returns-in-I32-clause-read : goal.returns-in-I32-clause-read
returns-in-I32-clause-read c = rw c.in-I32.is c.read_leaf-in-I32.ensures.read

pub returns-in-I32-clause-exact : goal.returns-in-I32-clause-exact
returns-in-I32-clause-exact c = rw c.in-I32.is c.read_leaf-in-I32.ensures.exact

pub returns-in-I64-clause-read : goal.returns-in-I64-clause-read
returns-in-I64-clause-read c = rw c.in-I64.is c.read_leaf-in-I64.ensures.read

pub returns-in-I64-clause-exact : goal.returns-in-I64-clause-exact
returns-in-I64-clause-exact c = rw c.in-I64.is c.read_leaf-in-I64.ensures.exact

pub returns-in-I128-clause-read : goal.returns-in-I128-clause-read
returns-in-I128-clause-read c = rw c.in-I128.is c.read_leaf-in-I128.ensures.read

pub returns-in-I128-clause-exact : goal.returns-in-I128-clause-exact
returns-in-I128-clause-exact c = rw c.in-I128.is c.read_leaf-in-I128.ensures.exact
