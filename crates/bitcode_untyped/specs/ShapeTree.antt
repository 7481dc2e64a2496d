-- A shape with its references followed away is a tree, and says which data are of it.
use Rattle.std.specs.Prelude.{◌≡◌, ℕ, zero, suc, ◌≤◌, Bool, None, true, false, ◌&&◌}
use Rattle.std.specs.Float.{Format}
use Rattle.std.specs.List.{AllByRecursion}
use Rattle.bitcode_memory.specs.declared.error.Reason.{Reason}
use Rattle.bitcode_shapes.specs.Datum.{Datum, Data, unit, list, tuple, choice, no_data, datum_and, data_of, pair, number_in, elements_in, fields_in, first_in, second_in, variant_in, payload_in}
use Rattle.bitcode_shapes.specs.Shape.{Allowed, any_number, scalar, IsAllowed}
use Rattle.bitcode_coder.specs.Columns.{Kind, bools, ints, floats, texts, IsEntryOf, IsSoundKind}

-- what a type says of its data beyond their columns
pub data Note : Type 0 where
  -- the order of the elements says nothing
  any_order : Note
  -- a check admits the datum, or it is refused for the reason
  admits : (Datum → Bool) → Reason → Note

mutual
  pub data ShapeTree : Type 0 where
    unit_tree : ShapeTree
    -- nothing is of it
    never_tree : ShapeTree
    -- an entry of a column of a kind, its number allowed
    leaf_tree : Kind → Allowed → ShapeTree
    -- a list
    seq_tree : ShapeTree → ShapeTree
    -- a list of keys with their values
    map_tree : ShapeTree → ShapeTree → ShapeTree
    tuple_tree : ShapeTrees → ShapeTree
    -- one of several variants, each with a payload
    choice_tree : ShapeTrees → ShapeTree
    -- the columns of a tree, with a note
    noted_tree : Note → ShapeTree → ShapeTree

  pub data ShapeTrees : Type 0 where
    no_trees : ShapeTrees
    tree_and : ShapeTree → ShapeTrees → ShapeTrees

-- ---- the leaves, and trees with a name of their own

abbrev pub bool_tree : ShapeTree
bool_tree = leaf_tree bools any_number

abbrev pub natural_tree : ℕ → ShapeTree
natural_tree width = leaf_tree (ints width false) any_number

abbrev pub integer_tree : ℕ → ShapeTree
integer_tree width = leaf_tree (ints width true) any_number

abbrev pub float_tree : Format → ShapeTree
float_tree format = leaf_tree (floats format) any_number

-- a scalar value, in 4 bytes
abbrev pub char_tree : ShapeTree
char_tree = leaf_tree (ints 4 false) scalar

abbrev pub text_tree : ShapeTree
text_tree = leaf_tree (texts None) any_number

abbrev pub option_tree : ShapeTree → ShapeTree
option_tree some = choice_tree (tree_and unit_tree (tree_and some no_trees))

-- the tree of variant i; nothing is of it where there is none
abbrev pub tree_at : ShapeTrees → ℕ → ShapeTree
tree_at no_trees i = never_tree
tree_at (tree_and s ss) zero = s
tree_at (tree_and s ss) (suc i) = tree_at ss i

-- ---- which data are of a shape

abbrev pub IsList : Datum → Type 0
IsList d = d ≡ list (data_of (elements_in d))

abbrev pub IsTuple : Datum → Type 0
IsTuple d = d ≡ tuple (fields_in d)

abbrev pub IsChoice : Datum → Type 0
IsChoice d = d ≡ choice (variant_in d) (payload_in d)

-- a tuple of two
abbrev pub IsPair : (Datum → Type 0) → (Datum → Type 0) → Datum → Type 0
IsPair IsFirst IsSecond d = (d ≡ pair (first_in d) (second_in d)) × IsFirst (first_in d) × IsSecond (second_in d)

-- the note admits the datum
abbrev pub IsAdmitted : Note → Datum → Type 0
IsAdmitted any_order d = Unit {0}
IsAdmitted (admits check reason) d = check d ≡ true

-- the index of a variant is one byte
abbrev pub greatest_index : ℕ
greatest_index = 255

abbrev mutual
  -- the datum is of the shape
  pub IsOf : ShapeTree → Datum → Type 0
  IsOf unit_tree d = d ≡ unit
  IsOf never_tree d = ⊥
  IsOf (leaf_tree kind allowed) d = IsEntryOf kind d × IsAllowed allowed (number_in d)
  IsOf (seq_tree s) d = IsList d × AllByRecursion (IsOf s) (elements_in d)
  IsOf (map_tree k v) d = IsList d × AllByRecursion (IsPair (IsOf k) (IsOf v)) (elements_in d)
  IsOf (tuple_tree ss) d = IsTuple d × AreOf ss (fields_in d)
  IsOf (choice_tree ss) d = IsChoice d × (variant_in d ≤ greatest_index) × IsOfVariant ss (variant_in d) (payload_in d)
  IsOf (noted_tree note s) d = IsOf s d × IsAdmitted note d

  -- as many data, each of its shape
  pub AreOf : ShapeTrees → Data → Type 0
  AreOf no_trees no_data = Unit {0}
  AreOf (tree_and s ss) (datum_and d ds) = IsOf s d × AreOf ss ds
  AreOf no_trees (datum_and d ds) = ⊥
  AreOf (tree_and s ss) no_data = ⊥

  -- the payload is of the shape of variant i
  pub IsOfVariant : ShapeTrees → ℕ → Datum → Type 0
  IsOfVariant no_trees i d = ⊥
  IsOfVariant (tree_and s ss) zero d = IsOf s d
  IsOfVariant (tree_and s ss) (suc i) d = IsOfVariant ss i d

-- ---- its data have no entry in any column

abbrev mutual
  pub column_free : ShapeTree → Bool
  column_free unit_tree = true
  column_free (tuple_tree ss) = all_free ss
  column_free (noted_tree note s) = column_free s
  column_free _ = false

  pub all_free : ShapeTrees → Bool
  all_free no_trees = true
  all_free (tree_and s ss) = column_free s && all_free ss

-- ---- the kinds in it are of columns that there are, and a note is of data with a column

abbrev mutual
  pub IsSound : ShapeTree → Type 0
  IsSound unit_tree = Unit {0}
  IsSound never_tree = Unit {0}
  IsSound (leaf_tree kind allowed) = IsSoundKind kind
  IsSound (seq_tree s) = IsSound s
  IsSound (map_tree k v) = IsSound k × IsSound v
  IsSound (tuple_tree ss) = AreSound ss
  IsSound (choice_tree ss) = AreSound ss
  IsSound (noted_tree note s) = IsSound s × (column_free s ≡ false)

  pub AreSound : ShapeTrees → Type 0
  AreSound no_trees = Unit {0}
  AreSound (tree_and s ss) = IsSound s × AreSound ss
