-- The tree of each node and the datum of each value, by its variant.
use Rattle.std.proofs.Common.{◌≡◌, ℕ, Bool, true, map, Some, None, Vec, Box, Global, sym, ap, ◌∙◌}
use Rattle.std.specs.List.{list_all}
use Rattle.std.proofs.lemmas.List.Folds.{list_all-map}
use Rattle.std.proofs.lemmas.Simd.{map-map}
use Rattle.bitcode_shapes.specs.Datum.{Datum, unit, list, tuple, choice, pair, data_of}
use Rattle.bitcode_coder.specs.Spelling.{natural}
use Rattle.bitcode_untyped.specs.ShapeTree.{ShapeTree, unit_tree, seq_tree, map_tree, tuple_tree, choice_tree, natural_tree, option_tree}
use Rattle.bitcode_untyped.specs.View.{datum_of, datum_step, trees_of, tree_by, tree_step}
use Rattle.bitcode_untyped.specs.References.{refers_soundly, refers_step}
use Rattle.bitcode_untyped.specs.declared.shape.ShapeNode.{ShapeNode}
use Rattle.bitcode_untyped.specs.declared.shape.ShapeNode.TheOpen.{ShapeNode-F}
use Rattle.bitcode_untyped.specs.declared.shape.ShapeNode.TheFolds.{fold-roll-ShapeNode}
use Rattle.bitcode_untyped.specs.declared.shape.ShapeNode.TheVariants as node
use Rattle.bitcode_untyped.specs.declared.value.Value.{Value}
use Rattle.bitcode_untyped.specs.declared.value.Value.TheOpen.{Value-F}
use Rattle.bitcode_untyped.specs.declared.value.Value.TheFolds.{fold-roll-Value}
use Rattle.bitcode_untyped.specs.declared.value.Value.TheVariants as value

-- ---- the trees of nodes

module _ (follow : ℕ → ShapeTree) where
  pub tree-Unit : tree_by follow node.Unit ≡ unit_tree
  tree-Unit = ap (tree_by follow) (sym node.rolls-Unit) ∙ fold-roll-ShapeNode ShapeTree (tree_step follow) ShapeNode-F.Unit

  pub tree-Bytes : tree_by follow node.Bytes ≡ seq_tree (natural_tree 1)
  tree-Bytes = ap (tree_by follow) (sym node.rolls-Bytes) ∙ fold-roll-ShapeNode ShapeTree (tree_step follow) ShapeNode-F.Bytes

  pub tree-Option : (b : Box ShapeNode Global) → tree_by follow (node.Option b) ≡ option_tree (tree_by follow b.value)
  tree-Option b = ap (tree_by follow) (sym (node.rolls-Option b)) ∙ fold-roll-ShapeNode ShapeTree (tree_step follow) (ShapeNode-F.Option b)

  pub tree-Seq : (b : Box ShapeNode Global) → tree_by follow (node.Seq b) ≡ seq_tree (tree_by follow b.value)
  tree-Seq b = ap (tree_by follow) (sym (node.rolls-Seq b)) ∙ fold-roll-ShapeNode ShapeTree (tree_step follow) (ShapeNode-F.Seq b)

  pub tree-Map : (k : Box ShapeNode Global) (v : Box ShapeNode Global)
      → tree_by follow (node.Map k v) ≡ map_tree (tree_by follow k.value) (tree_by follow v.value)
  tree-Map k v = ap (tree_by follow) (sym (node.rolls-Map k v)) ∙ fold-roll-ShapeNode ShapeTree (tree_step follow) (ShapeNode-F.Map k v)

  pub tree-Tuple : (v : Vec ShapeNode Global) → tree_by follow (node.Tuple v) ≡ tuple_tree (trees_of (map (tree_by follow) v.items))
  tree-Tuple v = ap (tree_by follow) (sym (node.rolls-Tuple v)) ∙ fold-roll-ShapeNode ShapeTree (tree_step follow) (ShapeNode-F.Tuple v)

  pub tree-Enum : (v : Vec ShapeNode Global) → tree_by follow (node.Enum v) ≡ choice_tree (trees_of (map (tree_by follow) v.items))
  tree-Enum v = ap (tree_by follow) (sym (node.rolls-Enum v)) ∙ fold-roll-ShapeNode ShapeTree (tree_step follow) (ShapeNode-F.Enum v)

  pub tree-Ref : (i : ℕ) → tree_by follow (node.Ref i) ≡ follow i
  tree-Ref i = ap (tree_by follow) (sym (node.rolls-Ref i)) ∙ fold-roll-ShapeNode ShapeTree (tree_step follow) (ShapeNode-F.Ref i)

-- ---- the data of values

pub datum-Unit : datum_of value.Unit ≡ unit
datum-Unit = ap datum_of (sym value.rolls-Unit) ∙ fold-roll-Value Datum datum_step Value-F.Unit

pub datum-Bytes : (v : Vec ℕ Global) → datum_of (value.Bytes v) ≡ list (data_of (map natural v.items))
datum-Bytes v = ap datum_of (sym (value.rolls-Bytes v)) ∙ fold-roll-Value Datum datum_step (Value-F.Bytes v)

pub datum-None : datum_of (value.Option None) ≡ choice 0 unit
datum-None = ap datum_of (sym (value.rolls-Option None)) ∙ fold-roll-Value Datum datum_step (Value-F.Option None)

pub datum-Some : (b : Box Value Global) → datum_of (value.Option (Some b)) ≡ choice 1 (datum_of b.value)
datum-Some b = ap datum_of (sym (value.rolls-Option (Some b))) ∙ fold-roll-Value Datum datum_step (Value-F.Option (Some b))

pub datum-Seq : (v : Vec Value Global) → datum_of (value.Seq v) ≡ list (data_of (map datum_of v.items))
datum-Seq v = ap datum_of (sym (value.rolls-Seq v)) ∙ fold-roll-Value Datum datum_step (Value-F.Seq v)

pub datum-Map : (v : Vec (Value × Value) Global) → datum_of (value.Map v) ≡ list (data_of (map (λ e. pair (datum_of e.0) (datum_of e.1)) v.items))
datum-Map v = ap datum_of (sym (value.rolls-Map v)) ∙ fold-roll-Value Datum datum_step (Value-F.Map v)
    ∙ ap (λ ds. list (data_of ds)) (map-map _ _ v.items)

pub datum-Tuple : (v : Vec Value Global) → datum_of (value.Tuple v) ≡ tuple (data_of (map datum_of v.items))
datum-Tuple v = ap datum_of (sym (value.rolls-Tuple v)) ∙ fold-roll-Value Datum datum_step (Value-F.Tuple v)

pub datum-Enum : (i : ℕ) (b : Box Value Global) → datum_of (value.Enum i b) ≡ choice i (datum_of b.value)
datum-Enum i b = ap datum_of (sym (value.rolls-Enum i b)) ∙ fold-roll-Value Datum datum_step (Value-F.Enum i b)

-- ---- the references in nodes

pub refers-Tuple : (count : ℕ) (v : Vec ShapeNode Global) (below : Bool)
    → refers_soundly count (node.Tuple v) below ≡ list_all (λ n. refers_soundly count n below) v.items
refers-Tuple count v below =
    ap (λ n. refers_soundly count n below) (sym (node.rolls-Tuple v))
    ∙ ap (λ f. f below) (fold-roll-ShapeNode (Bool → Bool) (refers_step count) (ShapeNode-F.Tuple v))
    ∙ list_all-map (λ f. f below) (refers_soundly count) v.items

pub refers-Enum : (count : ℕ) (v : Vec ShapeNode Global) (below : Bool)
    → refers_soundly count (node.Enum v) below ≡ list_all (λ n. refers_soundly count n true) v.items
refers-Enum count v below =
    ap (λ n. refers_soundly count n below) (sym (node.rolls-Enum v))
    ∙ ap (λ f. f below) (fold-roll-ShapeNode (Bool → Bool) (refers_step count) (ShapeNode-F.Enum v))
    ∙ list_all-map (λ f. f true) (refers_soundly count) v.items
