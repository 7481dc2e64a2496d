-- Maps that are made by inserting pairs one by one.
use Rattle.std.proofs.Common.{◌≡◌, Bool, cond, Option, Some, None, List, [], ◌∷◌, ◌∙◌, ap}
use Rattle.std.specs.Prelude.{All}
use Rattle.std.specs.Map.{lookup, update, update_all}
use Rattle.bitcode_shapes.specs.Datum.{Datum}
use Rattle.bitcode_shapes.specs.Maps.{MakesMap}
use Rattle.bitcode_shapes.specs.Pairs.{IsPairValue, MakesPair}
use Rattle.bitcode_parts.specs.Elements.{MakesOfElements}

module _ {K X : Type 0} (eq : K → K → Bool) where
  -- pairs that are inserted in turn give the same over what finds the same
  updates_alike : (key : K) (f g : K → Option X) (pairs : List (K × X)) → f key ≡ g key → update_all eq f pairs key ≡ update_all eq g pairs key
  updates_alike key f g [] e = e
  updates_alike key f g (p ∷ ps) e =
      updates_alike key (update eq f p.0 (Some p.1)) (update eq g p.0 (Some p.1)) ps (ap (λ rest. cond (eq p.0 key) (Some p.1) rest) e)

  -- what the entries have, with the rest inserted, is what the whole gives
  abbrev pub GivesWhole : List (K × X) → List (K × X) → List (K × X) → Type 0
  GivesWhole entries rest whole = (key : K) → update_all eq (λ q. lookup (eq q) entries) rest key ≡ update_all eq (λ _. None) whole key

  -- a pair went from the rest into the map
  pub pair_inserted : (k : K) (v : X) (old new rest whole : List (K × X)) → ((q : K) → lookup (eq q) new ≡ cond (eq k q) (Some v) (lookup (eq q) old))
      → GivesWhole old ((k, v) ∷ rest) whole → GivesWhole new rest whole
  pair_inserted k v old new rest whole inserted so_far key =
      updates_alike key (λ q. lookup (eq q) new) (update eq (λ q. lookup (eq q) old) k (Some v)) rest (inserted key) ∙ so_far key

  -- all pairs are in the map
  pub map_of_elements : {C : Type 0} (entries : C → List (K × X)) (is_key : K → Type 0) (is_value : X → Type 0) (makes_key : Datum → K → Type 0) (makes_value : Datum → X → Type 0)
      (map : C) (pairs : List (K × X)) → All (IsPairValue is_key is_value) pairs → GivesWhole (entries map) [] pairs
      → MakesOfElements (λ d m. MakesMap is_key is_value eq makes_key makes_value d (entries m)) (MakesPair makes_key makes_value) map pairs
  map_of_elements entries is_key is_value makes_key makes_value map pairs h found d making =
      record { pairs = pairs; are = h; making = making; found = found }
