-- Lists of values that are entries of one column.
use Rattle.std.specs.Prelude.{◌⊎◌, List, [], ◌∷◌}
use Rattle.bitcode_shapes.specs.Datum.{Datum}
use Rattle.bitcode_coder.specs.Columns.{Columns, one, IsEntryOf}
use Rattle.bitcode_untyped.specs.View.{datum_of}
use Rattle.bitcode_untyped.specs.declared.value.Value.{Value}
use Rattle.bitcode_serde.specs.ReadColumns.{kind_of, IsCaseOf}
use Rattle.bitcode_serde.specs.declared.column.ColumnKind.{ColumnKind}

-- the value is of the case of a column's entries, and its datum is an entry
pub record IsEntryIn (kind : ColumnKind) (v : Value) : Type 0 where
  pub case : IsCaseOf kind v
  pub entry : IsEntryOf (kind_of kind) (datum_of v)

-- the entries of one column
abbrev pub entries_in : Columns → List Datum
entries_in (one kind entries) = entries
entries_in _ = []

-- one of the values is of another case
abbrev pub HasOther : ColumnKind → List Value → Type 0
HasOther kind [] = ⊥
HasOther kind (v ∷ vs) = (IsCaseOf kind v → ⊥) ⊎ HasOther kind vs
