-- Why a value is not of a shape: every fault that stands in it. A value is of the shape where there is none.
use Rattle.std.specs.Prelude.{ℕ, zero, suc, Bool, true, false, Option, Some, None, List, [], ◌∷◌, ◌++◌, slice_get, nat_lt, if◌then◌else◌}
use Rattle.std.specs.List.{flat_map}
use Rattle.bitcode_memory.specs.declared.error.Reason.{Reason}
use Rattle.bitcode_memory.specs.declared.error.Reason.TheVariants.{TooManyVariants, NotOfTheShape, NestedTooDeep}
use Rattle.bitcode_untyped.specs.Leaves.{leaf_of_node, entry_of, is_of}
use Rattle.bitcode_untyped.specs.ShapeTree.{greatest_index}
use Rattle.bitcode_untyped.specs.View.{reference_limit}
use Rattle.bitcode_untyped.specs.declared.value.Value.{Value, fold-Value}
use Rattle.bitcode_untyped.specs.declared.value.Value.TheOpen.{Value-F}
use Rattle.bitcode_untyped.specs.declared.shape.ShapeNode.{ShapeNode, out-ShapeNode}
use Rattle.bitcode_untyped.specs.declared.shape.ShapeNode.TheOpen.{ShapeNode-F}
use Rattle.bitcode_untyped.specs.declared.shape.Shape.{Shape}

-- ---- what stands at a node once its references are followed

pub data Followed : Type 0 where
  -- a node that is no reference; so many more may be followed below it
  stands : ℕ → ShapeNode-F ShapeNode → Followed
  -- one reference too many
  too_deep : Followed
  -- out of the table
  nowhere : Followed

abbrev pub follow_by : (ℕ → Followed) → ℕ → ShapeNode-F ShapeNode → Followed
follow_by refer left (ShapeNode-F.Ref i) = refer i
follow_by refer left node = stands left node

abbrev pub follow_entry : (ShapeNode → Followed) → Option ShapeNode → Followed
follow_entry go None = nowhere
follow_entry go (Some node) = go node

abbrev pub follow : ℕ → List ShapeNode → ShapeNode → Followed
follow zero table node = follow_by (λ i. too_deep) zero (out-ShapeNode node)
follow (suc left) table node = follow_by (λ i. follow_entry (follow left table) (slice_get table i)) (suc left) (out-ShapeNode node)

-- ---- the faults of a value

-- the faults of a value, by how many references may be followed and the node
abbrev pub Judge : Type 0
Judge = ℕ → ShapeNode → List Reason

-- as many values as nodes, each by its node
abbrev pub faults_of_fields : List Judge → ℕ → List ShapeNode → List Reason
faults_of_fields [] left [] = []
faults_of_fields (judge ∷ judges) left (node ∷ nodes) = judge left node ++ faults_of_fields judges left nodes
faults_of_fields _ left _ = NotOfTheShape ∷ []

abbrev pub faults_of_variant : Judge → ℕ → Option ShapeNode → List Reason
faults_of_variant judge left None = NotOfTheShape ∷ []
faults_of_variant judge left (Some node) = judge left node

-- a value of a leaf has no fault if the node is that leaf
abbrev pub faults_of_leaf : Bool → List Reason
faults_of_leaf true = []
faults_of_leaf false = NotOfTheShape ∷ []

-- one level, at a node that is no reference: the cases are the same
abbrev pub faults_by : Value-F Judge → ℕ → ShapeNode-F ShapeNode → List Reason
faults_by Value-F.Unit left ShapeNode-F.Unit = []
faults_by (Value-F.Bytes v) left ShapeNode-F.Bytes = []
faults_by (Value-F.Option None) left (ShapeNode-F.Option node) = []
faults_by (Value-F.Option (Some judge)) left (ShapeNode-F.Option node) = judge.value left node.value
faults_by (Value-F.Seq judges) left (ShapeNode-F.Seq node) = flat_map (λ judge. judge left node.value) judges.items
faults_by (Value-F.Map judges) left (ShapeNode-F.Map key value) = flat_map (λ judge. judge.0 left key.value ++ judge.1 left value.value) judges.items
faults_by (Value-F.Tuple judges) left (ShapeNode-F.Tuple nodes) = faults_of_fields judges.items left nodes.items
faults_by (Value-F.Enum i judge) left (ShapeNode-F.Enum nodes) =
    if nat_lt greatest_index i then TooManyVariants ∷ [] else faults_of_variant judge.value left (slice_get nodes.items i)
faults_by value left node = faults_of_leaf (is_of (entry_of value) (leaf_of_node node))

abbrev pub faults_at : Value-F Judge → Followed → List Reason
faults_at value (stands left node) = faults_by value left node
faults_at value too_deep = NestedTooDeep ∷ []
faults_at value nowhere = NotOfTheShape ∷ []

abbrev pub faults_step : List ShapeNode → Value-F Judge → Judge
faults_step table value left node = faults_at value (follow left table node)

-- the faults of a value at a node of the table, below which so many references may be followed
abbrev pub faults_of : List ShapeNode → Value → ℕ → ShapeNode → List Reason
faults_of table = fold-Value Judge (faults_step table)

-- the faults of a value under a shape
abbrev pub value_faults : Shape → Value → List Reason
value_faults shape value = faults_of_variant (faults_of shape.table.items value) reference_limit (slice_get shape.table.items shape.root)
