-- `==` calls ordered sets and maps equal that are the same. It compares the keys in their order, one by one, while two
-- are the same if each key finds the same value in both.
use Rattle.std.proofs.Common.{◌≡◌, Bool, true, cond, Option, Some, None, List, [], ◌∷◌, map, refl, sym, ◌∙◌, ap, subst, true≢false}
use Rattle.std.specs.Prelude.{All, ◌&&◌, is_some}
use Rattle.std.specs.declared.cmp.Ordering.{Ordering}
use Rattle.std.specs.declared.cmp.Ordering.TheVariants.{Less, Equal, Greater}
use Rattle.std.specs.Ordering.{is_eq, eq_by_cmp, ordering_reverse}
use Rattle.std.specs.Cmp.{IsTotalOrder, alike_right, tied_itself}
use Rattle.std.specs.Cmp.Lexicographic.{pointwise}
use Rattle.std.specs.List.{AllByRecursion}
use Rattle.std.specs.List.Sorted.{IsStrictlySortedBy}
use Rattle.std.specs.Map.{lookup, keys_of}
use Rattle.std.specs.Set.{is_member}
use Rattle.std.proofs.lemmas.Bool.{and_from}
use Rattle.std.proofs.lemmas.List.Elements.{All-nil, All-cons, All-head, All-tail}
use Rattle.std.proofs.lemmas.Map.Keys.{sorted_head, sorted_tail}
use Rattle.std.proofs.lemmas.Map.Made.{is_some-lookup}
use Rattle.bitcode_shapes.specs.DataOf.{TellsEqual}
use Rattle.bitcode_shapes.specs.Sets.{SameMembers, IsOrderedSet}
use Rattle.bitcode_shapes.specs.Maps.{SameFound, SameEntries, IsOrderedMap}
use Rattle.bitcode_shapes.specs.Pairs.{IsPairValue}
use Rattle.bitcode_shapes.specs.BuiltOrdered.{below_more}
use Rattle.bitcode_shapes.specs.BuiltSets.{alone, keys_alone}

-- ---- what a key finds among entries in order

module _ {K : Type 0} {R : K → K → Ordering} (o : IsTotalOrder R) where
  below_equal : (q k : K) (ks : List K) → R q k ≡ Equal → AllByRecursion (λ y. R k y ≡ Less) ks → AllByRecursion (λ y. R q y ≡ Less) ks
  below_equal q k [] equal below = tt
  below_equal q k (y ∷ ys) equal below = (o.congr q k y equal ∙ below.0, below_equal q k ys equal below.1)

module _ {K X : Type 0} {R : K → K → Ordering} (o : IsTotalOrder R) where
  found_first : (e : K × X) (es : List (K × X)) (q : K) → R q e.0 ≡ Equal → lookup (eq_by_cmp R q) (e ∷ es) ≡ Some e.1
  found_first e es q equal = ap (λ r. cond (is_eq r) (Some e.1) (lookup (eq_by_cmp R q) es)) equal

  found_below : (q : K) (es : List (K × X)) → AllByRecursion (λ k. R q k ≡ Less) (keys_of es) → lookup (eq_by_cmp R q) es ≡ None
  found_below q [] below = refl
  found_below q (e ∷ es) below = ap (λ r. cond (is_eq r) (Some e.1) (lookup (eq_by_cmp R q) es)) below.0 ∙ found_below q es below.1

  -- a key below the first is below all
  below_first : (q : K) (e : K × X) (es : List (K × X)) → IsStrictlySortedBy R (keys_of (e ∷ es)) → R q e.0 ≡ Less → lookup (eq_by_cmp R q) (e ∷ es) ≡ None
  below_first q e es ascending less = found_below q (e ∷ es) (less, below_more o q e.0 (keys_of es) less (sorted_head R e.0 (keys_of es) ascending))

  -- a key equal to the first is below the others
  below_rest : (q : K) (e : K × X) (es : List (K × X)) → IsStrictlySortedBy R (keys_of (e ∷ es)) → R q e.0 ≡ Equal → lookup (eq_by_cmp R q) es ≡ None
  below_rest q e es ascending equal = found_below q es (below_equal o q e.0 (keys_of es) equal (sorted_head R e.0 (keys_of es) ascending))

-- ---- entries

module _ {K X : Type 0} {R : K → K → Ordering} (o : IsTotalOrder R) {eq : K → K → Bool} (tied : (k l : K) → eq k l ≡ is_eq (R k l))
    (is_key : K → Type 0) {is_value : X → Type 0} {same : X → X → Type 0} {eq_value : X → X → Bool} (tells : TellsEqual is_value same eq_value) where
  abbrev IsEntry : K × X → Type 0
  IsEntry = IsPairValue is_key is_value

  abbrev eq_entry : K × X → K × X → Bool
  eq_entry e f = eq e.0 f.0 && eq_value e.1 f.1

  abbrev Found : K → List (K × X) → List (K × X) → Type 0
  Found q es fs = SameFound same (lookup (eq_by_cmp R q) es) (lookup (eq_by_cmp R q) fs)

  found_as : {a b c d : Option X} → a ≡ c → b ≡ d → SameFound same a b → SameFound same c d
  found_as {b = b} {c = c} p r s = subst (SameFound same c) r (subst (λ x. SameFound same x b) p s)

  -- two with equal first keys: what a key finds in the rest
  in_rest : (e f : K × X) (es fs : List (K × X)) → IsStrictlySortedBy R (keys_of (e ∷ es)) → IsStrictlySortedBy R (keys_of (f ∷ fs)) → R e.0 f.0 ≡ Equal
      → (q : K) → Found q (e ∷ es) (f ∷ fs) → Found q es fs
  in_rest e f es fs up_e up_f equal q s =
      by (R q e.0) refl (subst (λ r. SameFound same (lookup (eq_by_cmp R q) (e ∷ es)) (cond (is_eq r) (Some f.1) (lookup (eq_by_cmp R q) fs))) (sym alike) s)
    where
      alike : R q e.0 ≡ R q f.0
      alike = alike_right o e.0 f.0 q equal

      by : (r : Ordering) → R q e.0 ≡ r → SameFound same (cond (is_eq r) (Some e.1) (lookup (eq_by_cmp R q) es)) (cond (is_eq r) (Some f.1) (lookup (eq_by_cmp R q) fs))
          → Found q es fs
      by Less p g = g
      by Equal p g = found_as (sym (below_rest o q e es up_e p)) (sym (below_rest o q f fs up_f (sym alike ∙ p))) tt
      by Greater p g = g

  entries_equal : (es fs : List (K × X)) → All IsEntry es → All IsEntry fs → IsStrictlySortedBy R (keys_of es) → IsStrictlySortedBy R (keys_of fs)
      → SameEntries (eq_by_cmp R) same es fs → pointwise eq_entry es fs ≡ true
  entries_equal [] [] h i up_e up_f s = refl
  entries_equal [] (f ∷ fs) h i up_e up_f s = absurd (found_as {a = None} refl (found_first o f fs f.0 (tied_itself o f.0)) (s f.0))
  entries_equal (e ∷ es) [] h i up_e up_f s = absurd (found_as {b = None} (found_first o e es e.0 (tied_itself o e.0)) refl (s e.0))
  entries_equal (e ∷ es) (f ∷ fs) h i up_e up_f s =
      by (R e.0 f.0) refl
      (λ equal. entries_equal es fs (All-tail IsEntry e es h) (All-tail IsEntry f fs i) (sorted_tail R e.0 (keys_of es) up_e) (sorted_tail R f.0 (keys_of fs) up_f)
      (λ q. in_rest e f es fs up_e up_f equal q (s q)))
    where
      first : lookup (eq_by_cmp R e.0) (e ∷ es) ≡ Some e.1
      first = found_first o e es e.0 (tied_itself o e.0)

      by : (r : Ordering) → R e.0 f.0 ≡ r → (R e.0 f.0 ≡ Equal → pointwise eq_entry es fs ≡ true) → pointwise eq_entry (e ∷ es) (f ∷ fs) ≡ true
      by Less p rest = absurd (found_as first (below_first o e.0 f fs up_f p) (s e.0))
      by Equal p rest =
          let value : same e.1 f.1 = found_as first (found_first o f fs e.0 p) (s e.0) in
          let is = tells e.1 f.1 (All-head IsEntry e es h).1 (All-head IsEntry f fs i).1 value in
          and_from (eq_entry e f) (pointwise eq_entry es fs) (and_from (eq e.0 f.0) (eq_value e.1 f.1) (tied e.0 f.0 ∙ ap is_eq p) is) (rest p)
      by Greater p rest =
          absurd (found_as (below_first o f.0 e es up_e (o.antisymm f.0 e.0 ∙ ap ordering_reverse p)) (found_first o f fs f.0 (tied_itself o f.0)) (s f.0))

  pub ordered_maps_equal : {C : Type 0} (entries : C → List (K × X))
      → TellsEqual (λ c. IsOrderedMap is_key is_value R (entries c)) (λ b c. SameEntries (eq_by_cmp R) same (entries b) (entries c))
      (λ b c. pointwise (λ e f. eq e.0 f.0 && eq_value e.1 f.1) (entries b) (entries c))
  ordered_maps_equal entries b c h i = entries_equal (entries b) (entries c) h.each i.each h.ascending i.ascending

-- ---- keys, as those of entries without values

module _ {T : Type 0} {R : T → T → Ordering} (o : IsTotalOrder R) {eq : T → T → Bool} (tied : (t u : T) → eq t u ≡ is_eq (R t u)) (is_value : T → Type 0) where
  -- for entries whose values hold no data
  abbrev eq_key : T × Unit {0} → T × Unit {0} → Bool
  eq_key e f = eq e.0 f.0 && true

  and_nothing : (b : Bool) → b && true ≡ b
  and_nothing true = refl
  and_nothing _ = refl

  eq_alone : (ts us : List T) → pointwise eq_key (map alone ts) (map alone us) ≡ pointwise eq ts us
  eq_alone [] [] = refl
  eq_alone [] (u ∷ us) = refl
  eq_alone (t ∷ ts) [] = refl
  eq_alone (t ∷ ts) (u ∷ us) = ap (λ b. b && pointwise eq_key (map alone ts) (map alone us)) (and_nothing (eq t u)) ∙ ap (λ b. eq t u && b) (eq_alone ts us)

  found_alone : (q : T) (ts : List T) → is_some (lookup (eq_by_cmp R q) (map alone ts)) ≡ is_member (eq_by_cmp R) ts q
  found_alone q ts = is_some-lookup (eq_by_cmp R q) (map alone ts) ∙ ap (λ ks. is_member (eq_by_cmp R) ks q) (keys_alone ts)

  found_alike : (a b : Option (Unit {0})) → is_some a ≡ is_some b → SameFound (λ u v. Unit {0}) a b
  found_alike None None e = tt
  found_alike None (Some v) e = absurd (true≢false (sym e))
  found_alike (Some u) None e = absurd (true≢false e)
  found_alike (Some u) (Some v) e = tt

  each_alone : (ts : List T) → All is_value ts → All (IsPairValue is_value (λ u. Unit {0})) (map alone ts)
  each_alone [] h = All-nil (IsPairValue is_value (λ u. Unit {0}))
  each_alone (t ∷ ts) h =
      All-cons (IsPairValue is_value (λ u. Unit {0})) (alone t) (map alone ts) (All-head is_value t ts h, tt) (each_alone ts (All-tail is_value t ts h))

  ascending_alone : (ts : List T) → IsStrictlySortedBy R ts → IsStrictlySortedBy R (keys_of (map alone ts))
  ascending_alone ts up = subst (IsStrictlySortedBy R) (sym (keys_alone ts)) up

  pub ordered_sets_equal : {C : Type 0} (keys : C → List T)
      → TellsEqual (λ c. IsOrderedSet is_value R (keys c)) (λ b c. SameMembers (eq_by_cmp R) (keys b) (keys c)) (λ b c. pointwise eq (keys b) (keys c))
  ordered_sets_equal keys b c h i s =
      sym (eq_alone (keys b) (keys c))
      ∙ entries_equal o tied is_value {is_value = λ u. Unit {0}} (λ u v g j r. refl) (map alone (keys b)) (map alone (keys c)) (each_alone (keys b) h.each) (each_alone (keys c) i.each)
      (ascending_alone (keys b) h.ascending) (ascending_alone (keys c) i.ascending)
      (λ q. found_alike (lookup (eq_by_cmp R q) (map alone (keys b))) (lookup (eq_by_cmp R q) (map alone (keys c)))
      (found_alone q (keys b) ∙ s q ∙ sym (found_alone q (keys c))))
