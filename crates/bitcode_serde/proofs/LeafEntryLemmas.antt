-- Nodes that are leaves, and chars.
use Rattle.std.proofs.Common.{◌≡◌, ℕ, ◌<◌, pos, true, false, Some, Vec, Box, Global, inl, inr, refl, sym, ap, ◌∙◌, arith}
use Rattle.std.specs.Char.{IsScalar}
use Rattle.std.proofs.Math.Utf8.{scalar_cases}
use Rattle.bitcode_memory.specs.declared.error.Reason.TheVariants.{NotOfTheShape}
use Rattle.bitcode_shapes.specs.Shape.{scalar}
use Rattle.bitcode_coder.specs.Columns.{ints}
use Rattle.bitcode_coder.specs.Spelling.{natural}
use Rattle.bitcode_untyped.specs.Faults.{faults_of_leaf}
use Rattle.bitcode_untyped.specs.Leaves.{Entry, char_leaf, leaf_of_node, entry_of, is_of}
use Rattle.bitcode_untyped.specs.ShapeTree.{ShapeTree, char_tree}
use Rattle.bitcode_untyped.specs.View.{datum_of, tree_by}
use Rattle.bitcode_untyped.specs.declared.shape.ShapeNode.{ShapeNode, out-ShapeNode}
use Rattle.bitcode_untyped.specs.declared.shape.ShapeNode.TheOpen.{ShapeNode-F}
use Rattle.bitcode_untyped.specs.declared.shape.ShapeNode.TheViews.{roll-ShapeNode, roll-out-ShapeNode, out-roll-ShapeNode}
use Rattle.bitcode_untyped.specs.declared.shape.ShapeNode.TheVariants as node
use Rattle.bitcode_untyped.specs.declared.value.Value.{Value, out-Value}
use Rattle.bitcode_untyped.specs.declared.value.Value.TheOpen.{Value-F}
use Rattle.bitcode_untyped.specs.declared.value.Value.TheViews.{roll-Value, roll-out-Value}
use Rattle.bitcode_untyped.specs.declared.value.Value.TheVariants as value
use Rattle.bitcode_untyped.proofs.FaultLemmas.{faults-leaf}
use Rattle.bitcode_untyped.proofs.LeafLemmas.{leaf_datum, leaf_tree_by, rolled_entry, rolled_node}
use Rattle.bitcode_serde.specs.ReadingValues.{IsOfChar}
use Rattle.bitcode_serde.specs.Serializing.{is_leaf, IsLeaf, IsEntryAt, HasOneFault}

-- ---- nodes

pub leaf_else : (n : ShapeNode) → (n ≡ node.Unit → ⊥) → (n ≡ node.Bytes → ⊥) → ((b : Box ShapeNode Global) → n ≡ (node.Option b) → ⊥)
    → ((b : Box ShapeNode Global) → n ≡ (node.Seq b) → ⊥) → ((k s : Box ShapeNode Global) → n ≡ (node.Map k s) → ⊥)
    → ((ns : Vec ShapeNode Global) → n ≡ (node.Tuple ns) → ⊥) → ((ns : Vec ShapeNode Global) → n ≡ (node.Enum ns) → ⊥) → ((i : ℕ) → n ≡ (node.Ref i) → ⊥) → IsLeaf n
leaf_else n hUnit hBytes hOption hSeq hMap hTuple hEnum hRef = by (out-ShapeNode n) (sym (roll-out-ShapeNode n))
  where
    by : (w : ShapeNode-F ShapeNode) → n ≡ roll-ShapeNode w → is_leaf w ≡ true
    by ShapeNode-F.Unit e = absurd (hUnit (e ∙ node.rolls-Unit))
    by ShapeNode-F.Bytes e = absurd (hBytes (e ∙ node.rolls-Bytes))
    by (ShapeNode-F.Option b) e = absurd (hOption b (e ∙ node.rolls-Option b))
    by (ShapeNode-F.Seq b) e = absurd (hSeq b (e ∙ node.rolls-Seq b))
    by (ShapeNode-F.Map k s) e = absurd (hMap k s (e ∙ node.rolls-Map k s))
    by (ShapeNode-F.Tuple ns) e = absurd (hTuple ns (e ∙ node.rolls-Tuple ns))
    by (ShapeNode-F.Enum ns) e = absurd (hEnum ns (e ∙ node.rolls-Enum ns))
    by (ShapeNode-F.Ref i) e = absurd (hRef i (e ∙ node.rolls-Ref i))
    by _ e = refl

pub no_leaf : {A : Type 0} (x : ShapeNode-F ShapeNode) (n m : ShapeNode) → roll-ShapeNode x ≡ m → n ≡ m → is_leaf x ≡ false → IsLeaf n → A
no_leaf x n m rolls is other leaf =
    let here : is_leaf (out-ShapeNode n) ≡ is_leaf x = ap (λ o. is_leaf (out-ShapeNode o)) (is ∙ sym rolls) ∙ ap is_leaf (out-roll-ShapeNode x) in
    let bad : true ≡ false = sym leaf ∙ here ∙ other in cc

-- ---- chars

scalar_below : (c : ℕ) → IsScalar c → c < 4294967296
scalar_below c h = elim (scalar_cases c h) [ inl low ↦ omega (arith, low) | inr high ↦ let top = high.1 in omega (arith, top) ]

abbrev char_entry : ℕ → Entry
char_entry c = record { leaf = char_leaf; datum = natural c }

char_node : leaf_of_node (out-ShapeNode node.Char) ≡ Some char_leaf
char_node = rolled_node ShapeNode-F.Char node.Char node.rolls-Char

char_value : (c : ℕ) → entry_of (out-Value (value.Char c)) ≡ Some (char_entry c)
char_value c = rolled_entry (Value-F.Char c) (value.Char c) (value.rolls-Char c)

pub char_tree_by : (follow : ℕ → ShapeTree) → tree_by follow node.Char ≡ char_tree
char_tree_by follow = leaf_tree_by follow node.Char char_leaf char_node

pub char_datum : (c : ℕ) → datum_of (value.Char c) ≡ natural c
char_datum c = leaf_datum (value.Char c) (char_entry c) (char_value c)

pub char_whole : (c : ℕ) → IsOfChar (value.Char c)
char_whole c = λ table left.
    faults-leaf table (value.Char c) left node.Char char_leaf char_node ∙ ap (λ o. faults_of_leaf (is_of o (Some char_leaf))) (char_value c)

pub entry-Char : (v : Value) (c : ℕ) → v ≡ value.Char c → IsScalar c → IsEntryAt node.Char v (ints 4 false) (natural c)
entry-Char v c is_value is_char =
    rw is_value (record {
      allowed = scalar;
      tree = char_tree_by;
      datum = char_datum c;
      of_tree = (record { value = pos c; is = refl; in_width = scalar_below c is_char; in_allowed = tt }, is_char);
      whole = char_whole c;
    })

pub fault-Char : (v : Value) → ((c : ℕ) → v ≡ value.Char c → ⊥) → HasOneFault node.Char v NotOfTheShape
fault-Char v away = λ table left.
    faults-leaf table v left node.Char char_leaf char_node ∙ ap faults_of_leaf (by (out-Value v) (sym (roll-out-Value v)))
  where
    by : (w : Value-F Value) → v ≡ roll-Value w → is_of (entry_of w) (Some char_leaf) ≡ false
    by (Value-F.Char c) e = absurd (away c (e ∙ value.rolls-Char c))
    by _ e = refl
