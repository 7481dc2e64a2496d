-- Sets, as maps to units.
use Rattle.std.proofs.Common.{◌≡◌, Bool, true, false, cond, Some, None, List, [], ◌∷◌, ◌++◌, map, refl, ap, sym, subst, ◌∙◌, ◌||◌}
use Rattle.std.specs.List.{IsDistinct, list_any}
use Rattle.std.specs.Map.{lookup, keys_of}
use Rattle.std.specs.Set.{is_member}
use Rattle.std.proofs.lemmas.List.{map-append}
use Rattle.std.proofs.lemmas.Map.Made.{update_all_pairs}
use Rattle.bitcode_shapes.specs.Datum.{Datum, unit}
use Rattle.bitcode_serde_types.specs.Keys.{TellsKeys}
use Rattle.bitcode_serde_types.specs.Pairs.{pair_datum, with_unit}
use Rattle.bitcode_serde_types.specs.Restates.{AreEntriesOf}
use Rattle.bitcode_serde_types.proofs.EntryLemmas.{entries_are}

keys_with_units : {K : Type 0} (ks : List K) → keys_of (map with_unit ks) ≡ ks
keys_with_units [] = refl
keys_with_units (k ∷ ks) = ap (λ xs. k ∷ xs) (keys_with_units ks)

module _ {K : Type 0} (eq : K → K → Bool) (key : K → Datum) (t : TellsKeys eq key) where
  looked_up : (q : K) (ks : List K) → lookup (eq q) (map with_unit ks) ≡ cond (list_any (eq q) ks) (Some tt) None
  looked_up q [] = refl
  looked_up q (k ∷ ks) = by (eq q k) (looked_up q ks)
    where
      by : (b : Bool) → lookup (eq q) (map with_unit ks) ≡ cond (list_any (eq q) ks) (Some tt) None
          → cond b (Some tt) (lookup (eq q) (map with_unit ks)) ≡ cond (b || list_any (eq q) ks) (Some tt) None
      by true h = refl
      by false h = h

  pub elements_are : (xs ks : List K) → ((q : K) → list_any (eq q) ks ≡ is_member eq xs q) → IsDistinct eq ks
      → AreEntriesOf (map (pair_datum key (λ u. unit)) (map with_unit xs)) (map (pair_datum key (λ u. unit)) (map with_unit ks))
  elements_are xs ks found distinct =
      entries_are eq key (λ u. unit) t (map with_unit xs) (map with_unit ks)
      (λ q.
      looked_up q ks ∙ ap (λ b. cond b (Some tt) None) (found q)
      ∙ sym (update_all_pairs t.laws (λ k. tt) (λ a b h. refl) xs q))
      (subst (IsDistinct eq) (sym (keys_with_units ks)) distinct)

-- one key more
pub with_unit_more : {K : Type 0} (ks ls : List K) (k : K) → ls ≡ ks ++ k ∷ [] → map with_unit ls ≡ map with_unit ks ++ (k, tt) ∷ []
with_unit_more ks ls k e = ap (map with_unit) e ∙ map-append with_unit ks (k ∷ [])
