-- Bytes of an array of entries are a column of these entries.
use Rattle.std.proofs.Common.{◌≡◌, ℕ, zero, suc, ◌+◌, ◌<◌, List, [], ◌∷◌, ◌++◌, length, map, replicate, All, Vec, Box, Global, refl, sym, ap, ap₂, subst, ◌∙◌, append-nil}
use Rattle.std.proofs.lemmas.List.{length-map}
use Rattle.std.proofs.lemmas.List.Elements.{All-nil, All-cons, All-head, All-tail, All-append, All-map}
use Rattle.std.specs.List.{slice_range}
use Rattle.std.specs.declared.string.String.{String}
use Rattle.bitcode_shapes.specs.Datum.{Datum, elements_in}
use Rattle.bitcode_shapes.specs.Shape.{Shape, IsOf, IsNaturalBelow, array_shape, raw_shape, unit_shape}
use Rattle.bitcode_coder.specs.Columns.{CountsFit}
use Rattle.bitcode_coder.specs.Spelling.{SpellsColumns, natural}
use Rattle.bitcode_coder.specs.Transposition.{columns_of, joined}
use Rattle.bitcode_coder.proofs.DatumLemmas.{elements_count, joined_each}
use Rattle.bitcode_coder.proofs.StrictLemmas.{strict_spells}
use Rattle.bitcode_derive.specs.Strict.{StrictlySpellsDatum}
use Rattle.bitcode_derive.specs.Whole.{SpellsDatum}
use Rattle.bitcode_schema.specs.Forms.{shape_of, enum_shape, parts_of}
use Rattle.bitcode_schema.specs.declared.schema.SchemaNode.{SchemaNode}
use Rattle.bitcode_schema.specs.declared.schema.SchemaNode.TheVariants as node
use Rattle.bitcode_schema.proofs.ShapeLemmas.{shape-Unit, shape-Array, shape-Enum, variants-Enum}
use Rattle.bitcode_command.specs.Columns.{SpellsMany, SpellsItsEntries, shape_of_kind}
use Rattle.bitcode_command.specs.declared.column.Column.{Column}

-- ---- the elements of one array

counts_within : (size : ℕ) (shape : Shape) (ds : List Datum) → CountsFit (columns_of (array_shape size shape) ds) → CountsFit (columns_of shape (joined ds))
counts_within zero shape ds fits = fits
counts_within (suc size) shape ds fits = fits.1

columns_within : (size : ℕ) (shape : Shape) (ds : List Datum) (bytes : List ℕ) → SpellsColumns (columns_of (array_shape size shape) ds) bytes
    → SpellsColumns (columns_of shape (joined ds)) bytes
columns_within zero shape ds bytes s = s
columns_within (suc size) shape ds bytes s = s

array_entries : (size : ℕ) (shape : Shape) (bytes : List ℕ) (d : Datum) → SpellsDatum (array_shape size shape) bytes d → SpellsMany shape size bytes
array_entries size shape bytes d s = record {
  found = joined (d ∷ []);
  size =
      ap length (append-nil (elements_in d))
      ∙ elements_count (IsOf shape) (λ n. n ≡ size) d (All-head (IsOf (array_shape size shape)) d [] s.of_shape);
  spelled = record {
    of_shape = joined_each (IsOf shape) (λ n. n ≡ size) (d ∷ []) s.of_shape;
    counts = counts_within size shape (d ∷ []) s.counts;
    columns = columns_within size shape (d ∷ []) bytes s.columns;
  };
}

pub node_entries : (part : SchemaNode) (count : ℕ) (element : Box SchemaNode Global) (root : SchemaNode) (bytes : List ℕ) → element.value ≡ part
    → root ≡ node.Array count element → (d : Datum) × SpellsDatum (shape_of root) bytes d → SpellsMany (shape_of part) count bytes
node_entries part count element root bytes held is q =
    let shape : shape_of root ≡ array_shape count (shape_of part) =
    ap shape_of is ∙ shape-Array count element ∙ ap (λ n. array_shape count (shape_of n)) held in
    array_entries count (shape_of part) bytes q.0 (subst (λ s. SpellsDatum s bytes q.0) shape q.1)

pub spelled_strictly : (shape : Shape) (bytes : List ℕ) → (d : Datum) × StrictlySpellsDatum shape bytes d → (d : Datum) × SpellsDatum shape bytes d
spelled_strictly shape bytes q = (
  q.0,
  record { of_shape = q.1.of_shape; counts = q.1.counts; columns = strict_spells (columns_of shape (q.0 ∷ [])) bytes q.1.columns },
)

-- ---- bytes of texts

pub raw_entries : (bytes : List ℕ) (count : ℕ) → All (λ b. b < 256) bytes → length bytes ≡ count → SpellsMany raw_shape count bytes
raw_entries bytes count each many = record {
  found = map natural bytes;
  size = length-map bytes natural ∙ many;
  spelled = record {
    of_shape = All-map (IsNaturalBelow 256) natural bytes (are bytes each);
    counts = tt;
    columns = record { entries = bytes; are = refl; spelled = refl };
  };
}
  where
    are : (bs : List ℕ) → All (λ b. b < 256) bs → All (λ b. IsNaturalBelow 256 (natural b)) bs
    are [] each = All-nil (λ b. IsNaturalBelow 256 (natural b))
    are (b ∷ bs) each =
        All-cons (λ b. IsNaturalBelow 256 (natural b)) b bs
        (record { value = b; is = refl; below = All-head (λ b. b < 256) b bs each })
        (are bs (All-tail (λ b. b < 256) b bs each))

-- ---- enums of units

abbrev pub IsUnit : String Global × SchemaNode → Type 0
IsUnit part = part.1 ≡ node.Unit

units : (parts : List (String Global × SchemaNode)) → All IsUnit parts → map shape_of (parts_of parts) ≡ replicate (length parts) unit_shape
units [] each = refl
units (p ∷ ps) each = ap₂ (λ s ss. s ∷ ss) (ap shape_of (All-head IsUnit p ps each) ∙ shape-Unit) (units ps (All-tail IsUnit p ps each))

pub units_shape : (v : Vec (String Global × SchemaNode) Global) (count : ℕ) → All IsUnit v.items → length v.items ≡ count
    → shape_of (node.Enum v) ≡ enum_shape (replicate count unit_shape)
units_shape v count each many =
    shape-Enum v ∙ ap enum_shape (variants-Enum v ∙ units v.items each ∙ ap (λ n. replicate n unit_shape) many)

-- ---- one column more

pub spelled_next : (bytes : List ℕ) (columns : List Column) (column : Column) (end : ℕ) → column.offset + column.extent.size ≡ end
    → All (SpellsItsEntries bytes) columns → SpellsMany (shape_of_kind column.kind) column.entries (slice_range bytes column.offset end)
    → All (SpellsItsEntries bytes) (columns ++ column ∷ [])
spelled_next bytes columns column end size before more =
    All-append (SpellsItsEntries bytes) columns (column ∷ []) before
    (All-cons (SpellsItsEntries bytes) column []
    ∣ subst (λ to. SpellsMany (shape_of_kind column.kind) column.entries (slice_range bytes column.offset to)) (sym size) more ∣₁
    (All-nil (SpellsItsEntries bytes)))
