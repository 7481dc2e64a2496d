-- What holds of the payload type of a case of `Value` whose values are entries of one column.
use Rattle.std.specs.Prelude.{◌≡◌, ℕ, Some, List}
use Rattle.std.proofs.Common.{sym, ◌∙◌}
use Rattle.bitcode_memory.specs.declared.error.Reason.{Reason}
use Rattle.bitcode_coder.specs.Coder.{written_columns}
use Rattle.bitcode_coder.specs.Columns.{one, IsEntryOf}
use Rattle.bitcode_coder.specs.FirstFault.{IsFirstFault}
use Rattle.bitcode_coder.specs.Transposition.{columns_of}
use Rattle.bitcode_shapes.specs.Datum.{Datum}
use Rattle.bitcode_shapes.specs.Shape.{Shape, IsOf}
use Rattle.bitcode_untyped.proofs.LeafLemmas.{rolled_entry, rolled_node, leaf_datum}
use Rattle.bitcode_untyped.specs.Leaves.{leaf_of, leaf_of_node, entry_of}
use Rattle.bitcode_untyped.specs.View.{datum_of}
use Rattle.bitcode_untyped.specs.declared.shape.ShapeNode.{ShapeNode, out-ShapeNode}
use Rattle.bitcode_untyped.specs.declared.shape.ShapeNode.TheOpen.{ShapeNode-F}
use Rattle.bitcode_untyped.specs.declared.shape.ShapeNode.TheViews.{roll-ShapeNode}
use Rattle.bitcode_untyped.specs.declared.value.Value.{Value}
use Rattle.bitcode_untyped.specs.declared.value.Value.TheOpen.{Value-F}
use Rattle.bitcode_untyped.specs.declared.value.Value.TheViews.{roll-Value}
use Rattle.bitcode_serde.specs.Kinds.{kind_of}
use Rattle.bitcode_serde.specs.ReadColumns.{kind_of_case, IsCaseOf, IsColumnReason}
use Rattle.bitcode_serde.specs.declared.column.ColumnKind.{ColumnKind}

module _ {T : Type 0} (shape : Shape) (lists : T → Datum → Type 0) (makes : Datum → T → Type 0) (kind : ColumnKind) (node : ShapeNode) (holder : T → Value) where
  pub record CaseLaws : Type 0 where
    pub leaf : leaf_of_node (out-ShapeNode node) ≡ Some (leaf_of (kind_of kind))
    pub reason : (reason : Reason) (count : ℕ) (input : List ℕ) → IsFirstFault shape reason count input → IsColumnReason reason
    pub of_case : (t : T) → IsCaseOf kind (holder t)
    pub columns : (ds : List Datum) → columns_of shape ds ≡ one (kind_of kind) ds
    pub one_column : (ds : List Datum) → written_columns shape ds ≡ one (kind_of kind) ds
    pub entry : (d : Datum) → IsOf shape d → IsEntryOf (kind_of kind) d
    pub of_shape : (d : Datum) → IsEntryOf (kind_of kind) d → IsOf shape d
    pub datum : (t : T) (d : Datum) → lists t d → d ≡ datum_of (holder t)
    pub made : (t : T) (d : Datum) → makes d t → d ≡ datum_of (holder t)

  pub case_laws : (layer : ShapeNode-F ShapeNode) (value : T → Value-F Value) (datum : T → Datum) → roll-ShapeNode layer ≡ node
      → ((t : T) → roll-Value (value t) ≡ holder t) → leaf_of_node layer ≡ Some (leaf_of (kind_of kind))
      → ((t : T) → entry_of (value t) ≡ Some (record { leaf = leaf_of (kind_of_case kind); datum = datum t }))
      → ((ds : List Datum) → columns_of shape ds ≡ one (kind_of kind) ds) → ((ds : List Datum) → written_columns shape ds ≡ one (kind_of kind) ds)
      → ((d : Datum) → IsOf shape d → IsEntryOf (kind_of kind) d) → ((d : Datum) → IsEntryOf (kind_of kind) d → IsOf shape d)
      → ((t : T) (d : Datum) → lists t d → d ≡ datum t) → ((t : T) (d : Datum) → makes d t → d ≡ datum t)
      → ((reason : Reason) (count : ℕ) (input : List ℕ) → IsFirstFault shape reason count input → IsColumnReason reason) → CaseLaws
  case_laws layer value datum rolls rolls_each is entries columns written entry of_shape listed made reason = record {
    leaf = rolled_node layer node rolls ∙ is;
    reason = reason;
    of_case = λ t. (datum t, rolled_entry (value t) (holder t) (rolls_each t) ∙ entries t);
    columns = columns;
    one_column = written;
    entry = entry;
    of_shape = of_shape;
    datum = λ t d h. listed t d h ∙ sym (leaf_datum (holder t) _ (rolled_entry (value t) (holder t) (rolls_each t) ∙ entries t));
    made = λ t d h. made t d h ∙ sym (leaf_datum (holder t) _ (rolled_entry (value t) (holder t) (rolls_each t) ∙ entries t));
  }
