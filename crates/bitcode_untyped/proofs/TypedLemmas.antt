-- Numbers, chars and texts of their types are entries of their columns.
use Rattle.std.proofs.Common.{◌≡◌, ℕ, suc, pos, Option, Some, None, List, [], ◌∷◌, get_or, ◌<◌, arith, Bool, true, false, refl, subst}
use Rattle.std.specs.List.{AllByRecursion}
use Rattle.bitcode_shapes.specs.Datum.{Datum, number, text}
use Rattle.bitcode_shapes.specs.Shape.{IsNaturalBelow}
use Rattle.bitcode_coder.specs.Columns.{Kind, bools, ints, floats, texts, IsEntryOf}
use Rattle.bitcode_coder.specs.Spelling.{natural, truth}
use Rattle.bitcode_untyped.specs.Cases.{IsOfItsType}
use Rattle.bitcode_untyped.specs.Leaves.{Leaf, Entry, entry_of, same_kind, is_of, IsTyped, IsTypedEntry}
use Rattle.bitcode_untyped.specs.ShapeTree.{ShapeTree, natural_tree, IsOf}
use Rattle.bitcode_untyped.specs.View.{tree_of_leaf}
use Rattle.bitcode_untyped.specs.declared.value.Value.{Value}
use Rattle.bitcode_untyped.specs.declared.value.Value.TheOpen.{Value-F}
use Rattle.bitcode_untyped.proofs.LeafLemmas.{is_leaf}

-- ---- bytes

of_byte : (n : ℕ) → n < 256 → IsOf (natural_tree 1) (natural n)
of_byte n small = (record { value = pos n; is = refl; in_width = small; in_allowed = tt }, tt)

pub all_bytes : (bytes : List ℕ) → AllByRecursion (λ n. n < 256) bytes → AllByRecursion (λ n. IsOf (natural_tree 1) (natural n)) bytes
all_bytes [] h = tt
all_bytes (b ∷ bs) h = (of_byte b h.0, all_bytes bs h.1)

pub bytes_are : (bytes : List ℕ) → ((i : ℕ) → get_or bytes i 0 < 256) → AllByRecursion (λ n. IsOf (natural_tree 1) (natural n)) bytes
bytes_are [] h = tt
bytes_are (b ∷ bs) h = (of_byte b (h 0), bytes_are bs (λ i. h (suc i)))

-- ---- leaves

abbrev pub IsEntry : Option Entry → Type 0
IsEntry (Some e) = IsOf (tree_of_leaf (Some e.leaf)) e.datum
IsEntry None = Unit {0}

of_truth : (b : Bool) → IsNaturalBelow 2 (truth b)
of_truth true = record { value = 1; is = refl; below = omega arith }
of_truth false = record { value = 0; is = refl; below = omega arith }

typed_in : (kind : Kind) (d : Datum) → same_kind kind bools ≡ false → IsTyped kind d → IsEntryOf kind d
typed_in bools d other t = cc
typed_in (ints width signed) (number z) other t = record { value = z; is = refl; in_width = t; in_allowed = tt }
typed_in (floats format) d other t = t
typed_in (texts None) (text bytes) other t = record { bytes = bytes; is = refl; utf8 = t; within = tt }
typed_in _ _ other t = absurd t

abbrev is_bools : Option Entry → Bool
is_bools (Some e) = same_kind e.leaf.kind bools
is_bools None = false

typed_is : (o : Option Entry) → is_bools o ≡ false → IsTypedEntry o → IsEntry o
typed_is (Some e) other t = (typed_in e.leaf.kind e.datum other t.0, t.1)
typed_is None other t = tt

pub entry_is : (y : Value-F Value) → IsOfItsType y → IsEntry (entry_of y)
entry_is (Value-F.Bool b) t = (of_truth b, tt)
entry_is (Value-F.Bytes v) t = tt
entry_is (Value-F.Option None) t = tt
entry_is (Value-F.Option (Some b)) t = tt
entry_is y t = typed_is (entry_of y) refl t

-- an entry of the leaf of a node is of the tree of the node
pub leaf_one : (o : Option Entry) (l : Option Leaf) (tree : ShapeTree) (d : Datum) → is_of o l ≡ true → IsEntry o
    → ((leaf : Leaf) → l ≡ Some leaf → tree ≡ tree_of_leaf (Some leaf)) → ((e : Entry) → o ≡ Some e → d ≡ e.datum) → IsOf tree d
leaf_one None l tree d is one there datum = cc
leaf_one (Some e) None tree d is one there datum = cc
leaf_one (Some e) (Some leaf) tree d is one there datum =
    rw (there leaf refl, datum e refl) (subst (λ l. IsOf (tree_of_leaf (Some l)) e.datum) (is_leaf e leaf is) one)
