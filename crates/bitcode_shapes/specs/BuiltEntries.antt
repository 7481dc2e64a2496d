-- For every list of entries there is an ordered map and a hashed map with exactly these, and for every list of keys a
-- hashed set. The proof writes such values down in the layout of the standard library. Only here do proofs depend on
-- that layout, and so on crates below `std` that `crates.txt` names. They use only that such a layout exists.
use Rattle.std.proofs.Common.{◌≡◌, List, refl, inl}
use Rattle.core.specs.declared.hash.build.BuildHasherDefault.{BuildHasherDefault}
use Rattle.core.specs.declared.hash.fold.FoldHasher.{FoldHasher}
use Rattle.std_collections.specs.Layout.BTreeMap.{BTreeMap, btree_map}
use Rattle.std_collections.specs.Layout.HashMap.{HashMap, hash_map}
use Rattle.std_collections.specs.Layout.HashSet.{HashSet, hash_set}

-- the hasher of the keys
some_hasher : BuildHasherDefault FoldHasher
some_hasher = record { initial = record { state = 0 } }

module _ {K X : Type 0} where
  pub ordered_map_of : (entries : List (K × X)) → (m : BTreeMap K X) × (m.entries ≡ entries)
  ordered_map_of entries = (btree_map entries (inl tt), refl)

  pub hashed_map_of : (entries : List (K × X)) → (m : HashMap K X (BuildHasherDefault FoldHasher)) × (m.entries ≡ entries)
  hashed_map_of entries = (hash_map entries some_hasher 0, refl)

pub hashed_set_of : {K : Type 0} (keys : List K) → (s : HashSet K (BuildHasherDefault FoldHasher)) × (s.keys ≡ keys)
hashed_set_of keys = (hash_set keys some_hasher 0, refl)
