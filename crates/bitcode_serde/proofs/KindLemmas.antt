-- Kinds of columns are one where they stand at one place among all of them.
use Rattle.std.proofs.Common.{◌≡◌, ◌≢◌, refl, ap}
use Rattle.bitcode_serde.specs.Kinds.{kind_of, kind_index}
use Rattle.bitcode_serde.specs.declared.column.ColumnKind.{ColumnKind}
use Rattle.bitcode_serde.specs.declared.column.ColumnKind.TheVariants as kind
use Rattle.bitcode_serde.proofs.ColumnLemmas.{same_in_code}

pub same_index : (a b : ColumnKind) → kind_index a ≡ kind_index b → kind_of a ≡ kind_of b
same_index kind.Bools kind.Bools e = refl
same_index _ kind.Bools e = cc
same_index _ _ e = cc

pub other_index : (a b : ColumnKind) → kind_index a ≢ kind_index b → kind_of a ≢ kind_of b
other_index a b away e = away (ap kind_index (same_in_code a b e))
