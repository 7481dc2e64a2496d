-- By the kind.
use Rattle.bitcode_schema.proofs.make.leaf_values.make_ints.Goals as goal

pub returns-in-U8 : goal.returns-in-U8
returns-in-U8 c = record { made = rw c.in-U8.is c.make_leaf.ensures.made }

pub returns-in-U16 : goal.returns-in-U16
returns-in-U16 c = record { made = rw c.in-U16.is c.make_leaf-in-U16.ensures.made }

pub returns-in-U32 : goal.returns-in-U32
returns-in-U32 c = record { made = rw c.in-U32.is c.make_leaf-in-U32.ensures.made }

pub returns-in-U64 : goal.returns-in-U64
returns-in-U64 c = record { made = rw c.in-U64.is c.make_leaf-in-U64.ensures.made }

pub returns-in-U128 : goal.returns-in-U128
returns-in-U128 c = record { made = rw c.in-U128.is c.make_leaf-in-U128.ensures.made }

pub returns-in-I8 : goal.returns-in-I8
returns-in-I8 c = record { made = rw c.in-I8.is c.make_leaf-in-I8.ensures.made }

pub returns-in-I16 : goal.returns-in-I16
returns-in-I16 c = record { made = rw c.in-I16.is c.make_leaf-in-I16.ensures.made }

pub returns-in-I32 : goal.returns-in-I32
returns-in-I32 c = record { made = rw c.in-I32.is c.make_leaf-in-I32.ensures.made }

pub returns-in-I64 : goal.returns-in-I64
returns-in-I64 c = record { made = rw c.in-I64.is c.make_leaf-in-I64.ensures.made }

pub returns-in-I128 : goal.returns-in-I128
returns-in-I128 c = record { made = rw c.in-I128.is c.make_leaf-in-I128.ensures.made }
