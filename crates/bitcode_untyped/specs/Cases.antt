-- Which cases a value has, beside those of its shape: a U8 and a U64 of one number have the same datum, and not the same
-- case. How many fields there are, and which variants, is no matter of cases: that is said of the datum.
use Rattle.std.specs.Prelude.{◌≡◌, ℕ, ◌<◌, Bool, true, ◌&&◌, Option, Some, None, List, [], ◌∷◌, slice_get}
use Rattle.std.specs.List.{list_all, AllByRecursion}
use Rattle.bitcode_untyped.specs.Faults.{Followed, stands, follow, value_faults}
use Rattle.bitcode_untyped.specs.Leaves.{leaf_of_node, entry_of, is_of, IsTypedEntry}
use Rattle.bitcode_untyped.specs.ShapeTree.{IsOf}
use Rattle.bitcode_untyped.specs.View.{datum_of, tree_of, reference_limit}
use Rattle.bitcode_untyped.specs.declared.shape.Shape.{Shape}
use Rattle.bitcode_untyped.specs.declared.shape.ShapeNode.{ShapeNode}
use Rattle.bitcode_untyped.specs.declared.shape.ShapeNode.TheOpen.{ShapeNode-F}
use Rattle.bitcode_untyped.specs.declared.value.Value.{Value, fold-Value}
use Rattle.bitcode_untyped.specs.declared.value.Value.TheOpen.{Value-F}
use Rattle.bitcode_untyped.specs.declared.value.Value.TheFolds.{every-Value}

-- ---- the cases agree

-- whether the cases of a value agree with a node, below which so many references may be followed
abbrev pub Comparison : Type 0
Comparison = ℕ → ShapeNode → Bool

-- each field with its node, as far as there are both
abbrev pub fields_agree : List Comparison → ℕ → List ShapeNode → Bool
fields_agree (agrees ∷ fields) left (node ∷ nodes) = agrees left node && fields_agree fields left nodes
fields_agree _ left _ = true

abbrev pub agrees_if_there : Comparison → ℕ → Option ShapeNode → Bool
agrees_if_there agrees left (Some node) = agrees left node
agrees_if_there agrees left None = true

-- one level, at a node that is no reference
abbrev pub agrees_by : Value-F Comparison → ℕ → ShapeNode-F ShapeNode → Bool
agrees_by Value-F.Unit left ShapeNode-F.Unit = true
agrees_by (Value-F.Bytes v) left ShapeNode-F.Bytes = true
agrees_by (Value-F.Option None) left (ShapeNode-F.Option node) = true
agrees_by (Value-F.Option (Some agrees)) left (ShapeNode-F.Option node) = agrees.value left node.value
agrees_by (Value-F.Seq elements) left (ShapeNode-F.Seq node) = list_all (λ agrees. agrees left node.value) elements.items
agrees_by (Value-F.Map pairs) left (ShapeNode-F.Map key value) = list_all (λ pair. pair.0 left key.value && pair.1 left value.value) pairs.items
agrees_by (Value-F.Tuple fields) left (ShapeNode-F.Tuple nodes) = fields_agree fields.items left nodes.items
agrees_by (Value-F.Enum i agrees) left (ShapeNode-F.Enum nodes) = agrees_if_there agrees.value left (slice_get nodes.items i)
agrees_by value left node = is_of (entry_of value) (leaf_of_node node)

-- where a reference leads to no node, none disagrees
abbrev pub agrees_at : Value-F Comparison → Followed → Bool
agrees_at value (stands left node) = agrees_by value left node
agrees_at value _ = true

abbrev pub agrees_step : List ShapeNode → Value-F Comparison → Comparison
agrees_step table value left node = agrees_at value (follow left table node)

abbrev pub agrees_with : List ShapeNode → Value → Comparison
agrees_with table = fold-Value Comparison (agrees_step table)

-- The value has the cases of the shape.
abbrev pub HasCasesOf : Shape → Value → Type 0
HasCasesOf shape value = agrees_if_there (agrees_with shape.table.items value) reference_limit (slice_get shape.table.items shape.root) ≡ true

-- ---- values that there are

-- a number is one of its type, a char is a scalar value, and a text is UTF-8
abbrev pub IsOfItsType : Value-F Value → Type 0
IsOfItsType (Value-F.Bytes v) = AllByRecursion (λ n. n < 256) v.items
IsOfItsType value = IsTypedEntry (entry_of value)

-- ---- the faults tell whether a value is of a shape

-- A value has no fault just where it has the cases of the shape, and a datum of it. Its numbers, chars and texts have to be of their
-- types for a datum of the shape alone: no fault is one of these.
pub record FaultsTell (shape : Shape) : Type 0 where
  pub cases : (v : Value) → value_faults shape v ≡ [] → HasCasesOf shape v
  pub datum : (v : Value) → every-Value IsOfItsType v → value_faults shape v ≡ [] → IsOf (tree_of shape) (datum_of v)
  pub none : (v : Value) → HasCasesOf shape v → IsOf (tree_of shape) (datum_of v) → value_faults shape v ≡ []
