-- What a value keeps of a datum that was read: all but the order of a heap's elements, and the pairs of a map before the
-- last one with their key.
use Rattle.std.specs.Prelude.{◌≡◌, ◌≢◌, ◌⊎◌, ℕ, zero, suc, List, [], ◌∷◌}
use Rattle.std.specs.List.{AllByRecursion, AllZip, Contains}
use Rattle.std.specs.List.Sorted.{IsPermutation}
use Rattle.bitcode_shapes.specs.Datum.{Datum, Data, list, tuple, choice, no_data, datum_and, data_of, pair, first_in}
use Rattle.bitcode_untyped.specs.ShapeTree.{any_order, admits, ShapeTree, ShapeTrees, unit_tree, never_tree, leaf_tree, seq_tree, map_tree, tuple_tree, choice_tree, noted_tree, no_trees, tree_and}

-- none of the pairs has the key
abbrev pub HasNoKey : Datum → List Datum → Type 0
HasNoKey key pairs = AllByRecursion (λ p. first_in p ≢ key) pairs

-- the pair is the last one with its key
abbrev pub IsLast : List Datum → Datum → Type 0
IsLast [] p = ⊥
IsLast (q ∷ qs) p = IsLast qs p ⊎ ((q ≡ p) × HasNoKey (first_in p) qs)

-- no two pairs have the same key
abbrev pub HasKeysOnce : List Datum → Type 0
HasKeysOnce [] = Unit {0}
HasKeysOnce (p ∷ ps) = HasNoKey (first_in p) ps × HasKeysOnce ps

-- the entries of a map after the pairs were inserted in turn, in some order
pub record AreEntriesOf (pairs entries : List Datum) : Type 0 where
  pub once : HasKeysOnce entries
  pub each : AllByRecursion (IsLast pairs) entries
  pub all : (p : Datum) → IsLast pairs p → Contains entries p

-- two pairs with the same key, whose values are as this says
abbrev pub SameKey : (Datum → Datum → Type 0) → Datum → Datum → Type 0
SameKey AreValues p q = (key : Datum) × (v : Datum) × (w : Datum) × (p ≡ pair key v) × (q ≡ pair key w) × AreValues v w

-- two lists of the same elements, each in its own order
pub record AreReordered (d e : Datum) : Type 0 where
  pub first : List Datum
  pub second : List Datum
  pub of_first : d ≡ list (data_of first)
  pub of_second : e ≡ list (data_of second)
  pub reordered : IsPermutation first second

abbrev mutual
  -- e is what a value keeps of d
  pub Restates : ShapeTree → Datum → Datum → Type 0
  Restates unit_tree d e = e ≡ d
  Restates never_tree d e = e ≡ d
  Restates (leaf_tree kind allowed) d e = e ≡ d
  Restates (seq_tree s) d e = (ds : List Datum) × (es : List Datum) × (d ≡ list (data_of ds)) × (e ≡ list (data_of es)) × AllZip (Restates s) ds es
  Restates (map_tree k v) d e =
      (ds : List Datum) × (ps : List Datum) × (es : List Datum) × (d ≡ list (data_of ds)) × (e ≡ list (data_of es)) × AllZip (SameKey (Restates v)) ds ps
      × AreEntriesOf ps es
  Restates (tuple_tree ss) d e = (ds : Data) × (es : Data) × (d ≡ tuple ds) × (e ≡ tuple es) × RestatesFields ss ds es
  Restates (choice_tree ss) d e = (i : ℕ) × (x : Datum) × (y : Datum) × (d ≡ choice i x) × (e ≡ choice i y) × RestatesVariant ss i x y
  Restates (noted_tree any_order s) d e = (kept : Datum) × Restates s d kept × AreReordered kept e
  Restates (noted_tree (admits check reason) s) d e = Restates s d e

  -- so do the fields of a tuple, each of its shape
  pub RestatesFields : ShapeTrees → Data → Data → Type 0
  RestatesFields no_trees no_data no_data = Unit {0}
  RestatesFields (tree_and s ss) (datum_and d ds) (datum_and e es) = Restates s d e × RestatesFields ss ds es
  RestatesFields _ _ _ = ⊥

  -- and the payload of variant i
  pub RestatesVariant : ShapeTrees → ℕ → Datum → Datum → Type 0
  RestatesVariant no_trees i x y = y ≡ x
  RestatesVariant (tree_and s ss) zero x y = Restates s x y
  RestatesVariant (tree_and s ss) (suc i) x y = RestatesVariant ss i x y

-- ---- shapes without maps and heaps: a value keeps all that was read

abbrev mutual
  pub KeepsAll : ShapeTree → Type 0
  KeepsAll (seq_tree s) = KeepsAll s
  KeepsAll (map_tree k v) = ⊥
  KeepsAll (tuple_tree ss) = KeepAll ss
  KeepsAll (choice_tree ss) = KeepAll ss
  KeepsAll (noted_tree any_order s) = ⊥
  KeepsAll (noted_tree (admits check reason) s) = KeepsAll s
  KeepsAll _ = Unit {0}

  pub KeepAll : ShapeTrees → Type 0
  KeepAll no_trees = Unit {0}
  KeepAll (tree_and s ss) = KeepsAll s × KeepAll ss
