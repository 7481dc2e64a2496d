-- Columns that are found by the links of their places.
use Rattle.std.proofs.Common.{◌≡◌, ◌≢◌, ℕ, zero, suc, ◌<◌, ◌⊎◌, inl, inr, List, [], ◌∷◌, ◌++◌, length, map, take, get_or, All, Option, None, Some, slice_get, refl, ap, sym, ◌∙◌, subst, arith}
use Rattle.std.specs.Prelude.{IsSomeAnd, IfSome, IfNone}
use Rattle.std.proofs.Math.ListN.{set}
use Rattle.bitcode_serde.specs.Links.{column_link, AreFiled}
use Rattle.bitcode_serde.specs.declared.links.Links.{Links}

pub take_get : {C : Type 0} (i : ℕ) (cs : List C) (k : ℕ) (d : C) → k < length (take i cs) → (k < i) × (k < length cs) × (get_or (take i cs) k d ≡ get_or cs k d)
take_get zero cs k d h = absurd (omega (arith, h))
take_get (suc i) [] k d h = absurd (omega (arith, h))
take_get (suc i) (c ∷ cs) zero d h = (omega arith, omega arith, refl)
take_get (suc i) (c ∷ cs) (suc k) d h =
    let g = take_get i cs k d (omega (arith, h)) in
    let below = g.0 in
    let inside = g.1 in
    (omega (arith, below), omega (arith, inside), g.2)

module _ {C : Type 0} (place : C → ℕ) where
  got_map : (cs : List C) (k : ℕ) (d : C) → k < length cs → slice_get (map place cs) k ≡ Some (place (get_or cs k d))
  got_map [] k d h = absurd (omega (arith, h))
  got_map (c ∷ cs) zero d h = refl
  got_map (c ∷ cs) (suc k) d h = got_map cs k d (omega (arith, h))

  some_of : (cs : List C) (i n : ℕ) → slice_get (map place cs) i ≡ Some n → IsSomeAnd (slice_get cs i) (λ c. place c ≡ n)
  some_of [] i n h = cc
  some_of (c ∷ cs) zero n h = cc
  some_of (c ∷ cs) (suc i) n h = some_of cs i n h

  module _ (ls : List Links) (cs : List C) (n : ℕ) (filed : AreFiled ls (map place cs)) where
    away_from : column_link ls n ≡ None → All (λ c. place c ≢ n) cs
    away_from none k d h e =
        let there : Some k ≡ None = sym ((filed n k).1 (got_map cs k d h ∙ ap Some e)) ∙ none in cc

    first_of : (i : ℕ) → column_link ls n ≡ Some i → All (λ c. place c ≢ n) (take i cs)
    first_of i at k d h e =
        let g = take_get i cs k d h in
        let there : Some k ≡ Some i = sym ((filed n k).1 (got_map cs k d g.1 ∙ ap Some (ap place (sym g.2) ∙ e))) ∙ at in
        let same : k ≡ i = cc in
        let below = g.0 in
        omega (arith, below, same)

    pub filed_none : (r : Option ℕ) → r ≡ column_link ls n → IfNone r (All (λ c. place c ≢ n) cs)
    filed_none None e = away_from (sym e)
    filed_none (Some i) e = tt

    pub filed_some : (r : Option ℕ) → r ≡ column_link ls n → IfSome r (λ i. IsSomeAnd (slice_get cs i) (λ c. place c ≡ n))
    filed_some None e = tt
    filed_some (Some i) e = some_of cs i n ((filed n i).0 (sym e))

    pub filed_first : (r : Option ℕ) → r ≡ column_link ls n → IfSome r (λ i. All (λ c. place c ≢ n) (take i cs))
    filed_first None e = tt
    filed_first (Some i) e = first_of i (sym e)

  -- another column with the same place
  pub map_set : (cs : List C) (i : ℕ) (d after : C) → place after ≡ place (get_or cs i d) → map place (set cs i after) ≡ map place cs
  map_set [] i d after e = refl
  map_set (c ∷ cs) zero d after e = ap (λ x. x ∷ map place cs) e
  map_set (c ∷ cs) (suc i) d after e = ap (λ xs. place c ∷ xs) (map_set cs i d after e)

  map_more : (cs : List C) (c : C) → map place (cs ++ c ∷ []) ≡ map place cs ++ place c ∷ []
  map_more [] c = refl
  map_more (x ∷ cs) c = ap (λ xs. place x ∷ xs) (map_more cs c)

  pub filed_set : (ls : List Links) (cs : List C) (i : ℕ) (d after : C) → place after ≡ place (get_or cs i d) → AreFiled ls (map place cs)
      → AreFiled ls (map place (set cs i after))
  filed_set ls cs i d after e filed = subst (AreFiled ls) (sym (map_set cs i d after e)) filed

  length_map : (cs : List C) → length (map place cs) ≡ length cs
  length_map [] = refl
  length_map (c ∷ cs) = ap (λ k. suc k) (length_map cs)

  absent : (cs : List C) (n i : ℕ) → All (λ c. place c ≢ n) cs → slice_get (map place cs) i ≡ Some n → ⊥
  absent [] n i away h = cc
  absent (c ∷ cs) n zero away h = let e : place c ≡ n = cc in away 0 c (omega arith) e
  absent (c ∷ cs) n (suc i) away h = absent cs n i (λ k d g. away (suc k) d (omega (arith, g))) h

got_last : (ps : List ℕ) (n i m : ℕ) → slice_get (ps ++ n ∷ []) i ≡ Some m → (slice_get ps i ≡ Some m) ⊎ ((i ≡ length ps) × (n ≡ m))
got_last [] n zero m h = let e : n ≡ m = cc in inr (refl, e)
got_last [] n (suc i) m h = cc
got_last (p ∷ ps) n zero m h = inl h
got_last (p ∷ ps) n (suc i) m h = elim (got_last ps n i m h) [ inl e ↦ inl e | inr e ↦ inr (ap (λ k. suc k) e.0, e.1) ]

got_front : (ps qs : List ℕ) (i m : ℕ) → slice_get ps i ≡ Some m → slice_get (ps ++ qs) i ≡ Some m
got_front [] qs i m h = cc
got_front (p ∷ ps) qs zero m h = h
got_front (p ∷ ps) qs (suc i) m h = got_front ps qs i m h

got_end : (ps : List ℕ) (n : ℕ) → slice_get (ps ++ n ∷ []) (length ps) ≡ Some n
got_end [] n = refl
got_end (p ∷ ps) n = got_end ps n

filed_last : (ls after : List Links) (ps : List ℕ) (n : ℕ) → AreFiled ls ps → ((i : ℕ) → slice_get ps i ≡ Some n → ⊥) → column_link after n ≡ Some (length ps)
    → ((m : ℕ) → (column_link after m ≡ column_link ls m) ⊎ (m ≡ n)) → AreFiled after (ps ++ n ∷ [])
filed_last ls after ps n filed away there others m i = (
  λ h. elim (others m) [
    | inl e ↦ got_front ps (n ∷ []) i m ((filed m i).0 (sym e ∙ h))
    | inr e ↦
        let number : Some i ≡ Some (length ps) = sym h ∙ ap (column_link after) e ∙ there in
        let at : i ≡ length ps = cc in
        ap (slice_get (ps ++ n ∷ [])) at ∙ got_end ps n ∙ ap Some (sym e)
  ],
  λ h. elim (got_last ps n i m h) [
    | inl e ↦ elim (others m) [
      | inl same ↦ same ∙ (filed m i).1 e
      | inr is ↦ absurd (away i (e ∙ ap Some is))
    ]
    | inr e ↦ ap (column_link after) (sym e.1) ∙ there ∙ ap Some (sym e.0)
  ],
)

-- one more column, at a place that has none
pub filed_grown : {C : Type 0} (place : C → ℕ) (ls after : List Links) (cs more : List C) (c : C) → more ≡ cs ++ c ∷ [] → AreFiled ls (map place cs)
    → All (λ x. place x ≢ place c) cs → (n i : ℕ) → n ≡ place c → i ≡ length cs → column_link after n ≡ Some i
    → ((m : ℕ) → (column_link after m ≡ column_link ls m) ⊎ (m ≡ n)) → AreFiled after (map place more)
filed_grown place ls after cs more c is filed away n i at last there others =
    subst (AreFiled after) (sym (ap (map place) is ∙ map_more place cs c))
    (filed_last ls after (map place cs) (place c) filed (λ k. absent place cs (place c) k away)
    (ap (column_link after) (sym at) ∙ there ∙ ap Some (last ∙ sym (length_map place cs)))
    (λ m. elim (others m) [ inl e ↦ inl e | inr e ↦ inr (e ∙ at) ]))

pub filed_same : (ls after : List Links) (ps : List ℕ) → ((n : ℕ) → column_link after n ≡ column_link ls n) → AreFiled ls ps → AreFiled after ps
filed_same ls after ps same filed n i = (λ h. (filed n i).0 (sym (same n) ∙ h), λ h. same n ∙ (filed n i).1 h)
