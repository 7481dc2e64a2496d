-- The keys and the values of pairs that were taken from the front of a map's, and elements that were taken from the front
-- of others.
use Rattle.std.proofs.Common.{◌≡◌, ◌+◌, List, [], ◌∷◌, ◌++◌, length, map, All, Bor, ap, ◌∙◌, subst, length-append}
use Rattle.std.specs.Map.{keys_of, values_of}
use Rattle.std.specs.Map.Iter.{deref_pair}
use Rattle.std.proofs.lemmas.List.{map-append, length-map}
use Rattle.std.proofs.lemmas.List.Elements.{All-tail}
use Rattle.std.proofs.lemmas.Simd.{map-map}

pub all_behind : {X : Type 0} (P : X → Type 0) (front rest : List X) → All P (front ++ rest) → All P rest
all_behind P [] rest each = each
all_behind P (x ∷ front) rest each = all_behind P front rest (All-tail P x (front ++ rest) each)

module _ {X : Type 0} (left rest : List X) (several : List (Bor X)) (taken : left ≡ map (λ item. item.now) several ++ rest) where
  pub many_left : length left ≡ length several + length rest
  many_left = ap length taken ∙ length-append (map (λ item. item.now) several) rest ∙ ap (λ n. n + length rest) (length-map several (λ item. item.now))

  pub all_taken : (P : X → Type 0) → All P left → All P rest
  all_taken P each = all_behind P (map (λ item. item.now) several) rest (subst (All P) taken each)

module _ {K X : Type 0} (left rest : List (K × X)) (pairs : List (Bor K × Bor X)) (taken : left ≡ map deref_pair pairs ++ rest) where
  pub keys_taken : keys_of left ≡ map (λ pair. pair.0.now) pairs ++ keys_of rest
  keys_taken = ap keys_of taken ∙ map-append (λ e. e.0) (map deref_pair pairs) rest ∙ ap (λ ks. ks ++ keys_of rest) (map-map (λ e. e.0) deref_pair pairs)

  pub values_taken : values_of left ≡ map (λ pair. pair.1.now) pairs ++ values_of rest
  values_taken = ap values_of taken ∙ map-append (λ e. e.1) (map deref_pair pairs) rest ∙ ap (λ vs. vs ++ values_of rest) (map-map (λ e. e.1) deref_pair pairs)

  pub as_many_left : length left ≡ length pairs + length rest
  as_many_left = ap length taken ∙ length-append (map deref_pair pairs) rest ∙ ap (λ n. n + length rest) (length-map pairs deref_pair)

  pub keys_are : (P : K → Type 0) → All P (keys_of left) → All P (keys_of rest)
  keys_are P each = all_behind P (map (λ pair. pair.0.now) pairs) (keys_of rest) (subst (All P) keys_taken each)

  pub values_are : (P : X → Type 0) → All P (values_of left) → All P (values_of rest)
  values_are P each = all_behind P (map (λ pair. pair.1.now) pairs) (values_of rest) (subst (All P) values_taken each)
