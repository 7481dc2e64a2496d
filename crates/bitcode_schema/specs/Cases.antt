-- What holds of a type whose values are those of one case of `Value`, each an entry of one column.
use Rattle.std.specs.Prelude.{◌≡◌, true, Some, List}
use Rattle.std.proofs.Common.{sym, ◌∙◌, ap}
use Rattle.bitcode_coder.specs.Coder.{written_columns}
use Rattle.bitcode_coder.specs.Columns.{CountsFit}
use Rattle.bitcode_coder.specs.Transposition.{columns_of}
use Rattle.bitcode_shapes.specs.Datum.{Datum}
use Rattle.bitcode_shapes.specs.Shape.{Shape}
use Rattle.bitcode_untyped.proofs.LeafLemmas.{rolled_entry}
use Rattle.bitcode_untyped.specs.Leaves.{Leaf, entry_of, is_of}
use Rattle.bitcode_untyped.specs.declared.value.Value.{Value, out-Value}
use Rattle.bitcode_untyped.specs.declared.value.Value.TheOpen.{Value-F}
use Rattle.bitcode_untyped.specs.declared.value.Value.TheViews.{roll-Value}

-- the value is an entry of the leaf's column
abbrev pub IsEntryAs : Leaf → Value → Datum → Type 0
IsEntryAs leaf value d = entry_of (out-Value value) ≡ Some (record { leaf = leaf; datum = d })

module _ {T : Type 0} (shape : Shape) (lists : T → Datum → Type 0) (leaf : Leaf) (holder : T → Value) where
  pub record CaseLaws : Type 0 where
    pub entry : (t : T) (d : Datum) → lists t d → IsEntryAs leaf (holder t) d
    pub columns : (ds : List Datum) → written_columns shape ds ≡ columns_of shape ds
    pub fits : (ds : List Datum) → CountsFit (columns_of shape ds)
    pub itself : (d : Datum) → is_of (Some (record { leaf = leaf; datum = d })) (Some leaf) ≡ true

  pub case_laws : (value : T → Value-F Value) (datum : T → Datum) → ((t : T) → roll-Value (value t) ≡ holder t)
      → ((t : T) → entry_of (value t) ≡ Some (record { leaf = leaf; datum = datum t })) → ((t : T) (d : Datum) → lists t d → d ≡ datum t)
      → ((ds : List Datum) → written_columns shape ds ≡ columns_of shape ds) → ((ds : List Datum) → CountsFit (columns_of shape ds))
      → ((d : Datum) → is_of (Some (record { leaf = leaf; datum = d })) (Some leaf) ≡ true) → CaseLaws
  case_laws value datum rolls entries listed columns fits itself = record {
    entry = λ t d h.
        rolled_entry (value t) (holder t) (rolls t) ∙ entries t ∙ ap (λ e. Some (record { leaf = leaf; datum = e })) (sym (listed t d h));
    columns = columns;
    fits = fits;
    itself = itself;
  }
