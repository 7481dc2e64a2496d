-- What the reader's machine reads: it runs along the walk of a datum of a shape, which is within the limit on what has no
-- column.
use Rattle.std.specs.Prelude.{◌≡◌, ℕ, List, ◌∷◌, ◌++◌, length}
use Rattle.std.specs.List.{AllByRecursion, flat_map}
use Rattle.bitcode_shapes.specs.Datum.{Datum, Data, first_in, second_in}
use Rattle.bitcode_untyped.specs.ShapeTree.{ShapeTree, ShapeTrees, IsOf, AreOf, IsPair}
use Rattle.bitcode_untyped.specs.Walk.{element, key, value, Place, Use, walk, walk_fields}
use Rattle.bitcode_untyped.specs.Runs.{Runs}
use Rattle.bitcode_untyped.specs.Machine.{State, Takes}
use Rattle.bitcode_untyped.specs.Bounds.{IsLimited, AreLimited}

-- something is read, which has such uses
pub record ReadsOne {A : Type 0} (P : A → Type 0) (uses : A → List Use) (a : State) (x : A) (b : State) : Type 0 where
  pub is : P x
  pub runs : Runs Takes a (uses x) b

-- so many, one after another
pub record ReadsMany {A : Type 0} (P : A → Type 0) (uses : A → List Use) (a : State) (count : ℕ) (xs : List A) (b : State) : Type 0 where
  pub size : length xs ≡ count
  pub each : AllByRecursion P xs
  pub runs : Runs Takes a (flat_map uses xs) b

abbrev pub IsReadable : ShapeTree → Datum → Type 0
IsReadable s d = IsOf s d × IsLimited s d

-- from one state to another a datum is read at a place
abbrev pub ReadsDatum : ShapeTree → Place → State → Datum → State → Type 0
ReadsDatum s p = ReadsOne (IsReadable s) (walk s p)

abbrev pub ReadsNoDatum : ShapeTree → Place → State → Type 0
ReadsNoDatum s p a = (d : Datum) (b : State) → ReadsDatum s p a d b → ⊥

-- the elements of a list
abbrev pub ReadsElements : ShapeTree → Place → State → ℕ → List Datum → State → Type 0
ReadsElements s p = ReadsMany (IsReadable s) (walk s (element ∷ p))

-- the pairs of a map
abbrev pub IsReadablePair : ShapeTree → ShapeTree → Datum → Type 0
IsReadablePair k v e = IsPair (IsOf k) (IsOf v) e × (IsLimited k (first_in e) × IsLimited v (second_in e))

abbrev pub pair_walk : ShapeTree → ShapeTree → Place → Datum → List Use
pair_walk k v p e = walk k (key ∷ p) (first_in e) ++ walk v (value ∷ p) (second_in e)

abbrev pub ReadsPair : ShapeTree → ShapeTree → Place → State → Datum → State → Type 0
ReadsPair k v p = ReadsOne (IsReadablePair k v) (pair_walk k v p)

abbrev pub ReadsPairs : ShapeTree → ShapeTree → Place → State → ℕ → List Datum → State → Type 0
ReadsPairs k v p = ReadsMany (IsReadablePair k v) (pair_walk k v p)

-- the fields of a tuple, from the i-th on
abbrev pub ReadsFields : ShapeTrees → (ℕ → Place) → ℕ → State → Data → State → Type 0
ReadsFields ss at i = ReadsOne (λ ds. AreOf ss ds × AreLimited ss ds) (walk_fields ss at i)

abbrev pub ReadsNoFields : ShapeTrees → (ℕ → Place) → ℕ → State → Type 0
ReadsNoFields ss at i a = (ds : Data) (b : State) → ReadsFields ss at i a ds b → ⊥
