-- What stands at a node, by the variant.
use Rattle.std.proofs.Common.{◌≡◌, ℕ, zero, suc, Some, List, Vec, Box, Global, slice_get, refl, sym, ◌∙◌, ap}
use Rattle.bitcode_untyped.specs.Faults.{Followed, stands, too_deep, follow, follow_by, follow_entry}
use Rattle.bitcode_untyped.specs.Leaves.{Leaf, leaf_of_node}
use Rattle.bitcode_untyped.specs.declared.shape.ShapeNode.{ShapeNode, out-ShapeNode}
use Rattle.bitcode_untyped.specs.declared.shape.ShapeNode.TheOpen.{ShapeNode-F}
use Rattle.bitcode_untyped.specs.declared.shape.ShapeNode.TheViews.{roll-ShapeNode, out-roll-ShapeNode, roll-out-ShapeNode}
use Rattle.bitcode_untyped.specs.declared.shape.ShapeNode.TheVariants as node

-- ---- what stands at a node

module _ (table : List ShapeNode) where
  -- what a reference leads to, where so many may be followed
  abbrev pub reference : ℕ → ℕ → Followed
  reference zero i = too_deep
  reference (suc left) i = follow_entry (follow left table) (slice_get table i)

  pub follow-roll : (left : ℕ) (x : ShapeNode-F ShapeNode) → follow left table (roll-ShapeNode x) ≡ follow_by (reference left) left x
  follow-roll zero x = ap (follow_by (λ i. too_deep) zero) (out-roll-ShapeNode x)
  follow-roll (suc left) x = ap (follow_by (λ i. follow_entry (follow left table) (slice_get table i)) (suc left)) (out-roll-ShapeNode x)

  stands_there : (refer : ℕ → Followed) (left : ℕ) (x : ShapeNode-F ShapeNode) (leaf : Leaf) → leaf_of_node x ≡ Some leaf → follow_by refer left x ≡ stands left x
  stands_there refer left (ShapeNode-F.Ref i) leaf h = cc
  stands_there refer left _ leaf h = refl

  pub follow-leaf : (left : ℕ) (n : ShapeNode) (leaf : Leaf) → leaf_of_node (out-ShapeNode n) ≡ Some leaf → follow left table n ≡ stands left (out-ShapeNode n)
  follow-leaf left n leaf h =
      ap (follow left table) (sym (roll-out-ShapeNode n)) ∙ follow-roll left (out-ShapeNode n) ∙ stands_there (reference left) left (out-ShapeNode n) leaf h

  pub follow-Unit : (left : ℕ) → follow left table node.Unit ≡ stands left ShapeNode-F.Unit
  follow-Unit left = ap (follow left table) (sym node.rolls-Unit) ∙ follow-roll left ShapeNode-F.Unit

  pub follow-Bytes : (left : ℕ) → follow left table node.Bytes ≡ stands left ShapeNode-F.Bytes
  follow-Bytes left = ap (follow left table) (sym node.rolls-Bytes) ∙ follow-roll left ShapeNode-F.Bytes

  pub follow-Option : (left : ℕ) (b : Box ShapeNode Global) → follow left table (node.Option b) ≡ stands left (ShapeNode-F.Option b)
  follow-Option left b = ap (follow left table) (sym (node.rolls-Option b)) ∙ follow-roll left (ShapeNode-F.Option b)

  pub follow-Seq : (left : ℕ) (b : Box ShapeNode Global) → follow left table (node.Seq b) ≡ stands left (ShapeNode-F.Seq b)
  follow-Seq left b = ap (follow left table) (sym (node.rolls-Seq b)) ∙ follow-roll left (ShapeNode-F.Seq b)

  pub follow-Map : (left : ℕ) (k : Box ShapeNode Global) (v : Box ShapeNode Global) → follow left table (node.Map k v) ≡ stands left (ShapeNode-F.Map k v)
  follow-Map left k v = ap (follow left table) (sym (node.rolls-Map k v)) ∙ follow-roll left (ShapeNode-F.Map k v)

  pub follow-Tuple : (left : ℕ) (v : Vec ShapeNode Global) → follow left table (node.Tuple v) ≡ stands left (ShapeNode-F.Tuple v)
  follow-Tuple left v = ap (follow left table) (sym (node.rolls-Tuple v)) ∙ follow-roll left (ShapeNode-F.Tuple v)

  pub follow-Enum : (left : ℕ) (v : Vec ShapeNode Global) → follow left table (node.Enum v) ≡ stands left (ShapeNode-F.Enum v)
  follow-Enum left v = ap (follow left table) (sym (node.rolls-Enum v)) ∙ follow-roll left (ShapeNode-F.Enum v)

  pub follow-Ref : (left : ℕ) (i : ℕ) → follow left table (node.Ref i) ≡ reference left i
  follow-Ref left i = ap (follow left table) (sym (node.rolls-Ref i)) ∙ follow-roll left (ShapeNode-F.Ref i)
