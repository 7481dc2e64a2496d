-- The pairs of maps, and what writing and reading them does.
use Rattle.std.specs.Prelude.{◌≡◌, ℕ, ◌≤◌, List, [], ◌∷◌, length, map}
use Rattle.bitcode_shapes.specs.Datum.{Datum, unit, list, data_of, pair}
use Rattle.bitcode_coder.specs.Spelling.{natural}
use Rattle.bitcode_untyped.specs.ShapeTree.{ShapeTree, map_tree}
use Rattle.bitcode_untyped.specs.Walk.{key, value, length_kind, use_at}
use Rattle.bitcode_serde.specs.Budget.{spend}
use Rattle.bitcode_serde.specs.ReadingValues.{ReadsAt}
use Rattle.bitcode_serde.specs.Writing.{place_in, Writes}
use Rattle.bitcode_serde.specs.declared.budget.Budget.{Budget}
use Rattle.bitcode_serde.specs.declared.reader.Reader.{Reader}
use Rattle.bitcode_serde.specs.declared.writer.state.Writer.{Writer}
use Rattle.bitcode_serde_types.specs.ReadingAs.{KeepsEachAs}
use Rattle.bitcode_serde_types.specs.Restates.{Restates, SameKey}

-- the content of a pair of a key and its value
abbrev pub pair_datum : {K V : Type 0} → (K → Datum) → (V → Datum) → K × V → Datum
pair_datum f g e = pair (f e.0) (g e.1)

-- the content of a map with these entries
abbrev pub map_datum : {K V : Type 0} → (K → Datum) → (V → Datum) → List (K × V) → Datum
map_datum f g es = list (data_of (map (pair_datum f g) es))

-- a key with a unit
abbrev pub with_unit : {K : Type 0} → K → K × Unit {0}
with_unit k = (k, tt)

-- the content of a set with these elements: that of a map from them to units
abbrev pub set_datum : {K : Type 0} → (K → Datum) → List K → Datum
set_datum f ks = map_datum f (λ u. unit) (map with_unit ks)

-- The length of a map at the place was written, and its keys and values have these places.
pub record BeginsMap (old new : Writer) (place count keys values : ℕ) : Type 0 where
  pub written : Writes old (use_at (place_in old place) length_kind (natural count) ∷ []) new
  pub at_keys : place_in new keys ≡ key ∷ place_in old place
  pub at_values : place_in new values ≡ value ∷ place_in old place
  pub keys_there : keys ≤ length new.places.below.items
  pub values_there : values ≤ length new.places.below.items

-- A map is read at the place, and its nodes are taken from the budget. Unless that is spent, the pairs have its keys,
-- and values that restate its values.
abbrev pub ReadsPairsAs : {K V : Type 0} → (K → Datum) → (V → Datum) → ShapeTree → ShapeTree → ℕ → Reader → Budget → List (K × V) → Reader → Budget → Type 0
ReadsPairsAs f g k v place old before pairs new after =
    KeepsEachAs (SameKey (Restates v)) (pair_datum f g) (λ ds. ReadsAt (map_tree k v) place old (list (data_of ds)) new) (spend 1 before) pairs after
