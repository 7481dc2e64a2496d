-- Containers that are made from earlier ones, element by element.
use Rattle.std.proofs.Common.{◌≡◌, Bool, true, false, cond, List, [], ◌∷◌, ◌++◌, append_assoc, append-nil, refl, sym, ◌∙◌, ap, subst}
use Rattle.std.specs.Prelude.{Option, Some, None}
use Rattle.std.specs.Cmp.{IsEquivalence}
use Rattle.std.specs.List.{AllZip, IsDistinct}
use Rattle.std.specs.Map.{keys_of, lookup, update_all}
use Rattle.std.proofs.lemmas.Map.{update_all_push}
use Rattle.std.proofs.lemmas.Map.Made.{update_all_none}
use Rattle.std.proofs.lemmas.Slice.Zip.{all_zipped_more}
use Rattle.bitcode_sealed.specs.Upgrades.{UpgradesOption, UpgradesMap}

-- ---- lists

-- of all elements, the first ones are made, and the rest is left
pub record MadeFront {A B : Type 0} (of : A → B → Type 0) (whole rest : List A) (made : List B) : Type 0 where
  pub front : List A
  pub joined : whole ≡ front ++ rest
  pub each : AllZip of front made

pub front_none : {A B : Type 0} (of : A → B → Type 0) (whole : List A) → MadeFront of whole whole []
front_none of whole = record { front = []; joined = refl; each = tt }

pub front_more : {A B : Type 0} (of : A → B → Type 0) (whole rest new : List A) (made : List B) (x : A) (y : B) → rest ≡ x ∷ new
    → MadeFront of whole rest made → of x y → MadeFront of whole new (made ++ (y ∷ []))
front_more of whole rest new made x y e m h = record {
  front = m.front ++ (x ∷ []);
  joined = m.joined ∙ ap (λ l. m.front ++ l) e ∙ sym (append_assoc m.front (x ∷ []) new);
  each = all_zipped_more of m.front made x y m.each h;
}

pub front_all : {A B : Type 0} (of : A → B → Type 0) (whole rest : List A) (made : List B) → rest ≡ [] → MadeFront of whole rest made → AllZip of whole made
front_all of whole rest made e m = subst (λ l. AllZip of l made) (sym (m.joined ∙ ap (λ l. m.front ++ l) e ∙ append-nil m.front)) m.each

-- ---- maps

-- the keys are identical, and the value was made from the earlier one
abbrev pub UpgradesPair : {K A B : Type 0} → (A → B → Type 0) → K × A → K × B → Type 0
UpgradesPair of b t = (b.0 ≡ t.0) × of b.1 t.1

found_here : {A B : Type 0} (of : A → B → Type 0) (here : Bool) (b : A) (t : B) (before : Option A) (found : Option B) → of b t → UpgradesOption of before found
    → UpgradesOption of (cond here (Some b) before) (cond here (Some t) found)
found_here of true b t before found h rest = h
found_here of false b t before found h rest = rest

-- what is looked up in both
found_alike : {K A B : Type 0} (of : A → B → Type 0) (test : K → Bool) (before : List (K × A)) (pairs : List (K × B)) → AllZip (UpgradesPair of) before pairs
    → UpgradesOption of (lookup test before) (lookup test pairs)
found_alike of test [] [] h = tt
found_alike of test [] (t ∷ ts) h = absurd h
found_alike of test (b ∷ bs) [] h = absurd h
found_alike of test (b ∷ bs) (t ∷ ts) h =
    subst (λ (k : _). UpgradesOption of (cond (test b.0) (Some b.1) (lookup test bs)) (cond (test k) (Some t.1) (lookup test ts))) h.0.0
    (found_here of (test b.0) b.1 t.1 (lookup test bs) (lookup test ts) h.0.1 (found_alike of test bs ts h.1))

same_keys : {K A B : Type 0} (of : A → B → Type 0) (before : List (K × A)) (pairs : List (K × B)) → AllZip (UpgradesPair of) before pairs → keys_of before ≡ keys_of pairs
same_keys of [] [] h = refl
same_keys of [] (t ∷ ts) h = absurd h
same_keys of (b ∷ bs) [] h = absurd h
same_keys of (b ∷ bs) (t ∷ ts) h = ap (λ k. k ∷ keys_of bs) h.0.0 ∙ ap (λ ks. t.0 ∷ ks) (same_keys of bs ts h.1)

-- of all pairs, the first ones are made and inserted, and the rest is left
pub record InsertedFront {K A B : Type 0} (eq : K → K → Bool) (of : A → B → Type 0) (whole rest : List (K × A)) (entries : List (K × B)) : Type 0 where
  pub pairs : List (K × B)
  pub made : MadeFront (UpgradesPair of) whole rest pairs
  pub found : (key : K) → lookup (eq key) entries ≡ update_all eq (λ _. None) pairs key

pub inserted_none : {K A B : Type 0} (eq : K → K → Bool) (of : A → B → Type 0) (whole : List (K × A)) (entries : List (K × B)) → ((key : K) → lookup (eq key) entries ≡ None)
    → InsertedFront eq of whole whole entries
inserted_none eq of whole entries none = record { pairs = []; made = front_none (UpgradesPair of) whole; found = none }

pub inserted_more : {K A B : Type 0} (eq : K → K → Bool) (of : A → B → Type 0) (whole rest new : List (K × A)) (entries after : List (K × B)) (k : K) (x : A) (y : B)
    → rest ≡ (k, x) ∷ new → ((q : K) → lookup (eq q) after ≡ cond (eq k q) (Some y) (lookup (eq q) entries)) → of x y
    → InsertedFront eq of whole rest entries → InsertedFront eq of whole new after
inserted_more eq of whole rest new entries after k x y e inserted h m = record {
  pairs = m.pairs ++ ((k, y) ∷ []);
  made = front_more (UpgradesPair of) whole rest new m.pairs (k, x) (k, y) e m.made (refl, h);
  found = λ key. inserted key ∙ update_all_push eq (λ _. None) (λ q. lookup (eq q) entries) m.pairs (k, y) key (m.found key);
}

pub inserted_all : {K A B : Type 0} (eq : K → K → Bool) (of : A → B → Type 0) (whole rest : List (K × A)) (entries : List (K × B)) → IsEquivalence eq → IsDistinct eq (keys_of whole)
    → rest ≡ [] → InsertedFront eq of whole rest entries → UpgradesMap eq of whole entries
inserted_all eq of whole rest entries laws apart e m =
    let each = front_all (UpgradesPair of) whole rest m.pairs e m.made in
    λ key. subst (UpgradesOption of (lookup (eq key) whole))
    (sym (m.found key ∙ update_all_none laws eq (λ x y. refl) m.pairs key (subst (IsDistinct eq) (same_keys of whole m.pairs each) apart)))
    (found_alike of (eq key) whole m.pairs each)
