-- Maps between lawful types are lawful: those with their entries in the order of the keys, and those with an internal
-- order.
use Rattle.std.proofs.Common.{◌≡◌, suc, Bool, true, false, cond, Option, Some, None, List, [], ◌∷◌, refl, sym, ◌∙◌, ap, subst, arith}
use Rattle.std.specs.Prelude.{◌&&◌, All, IfSome}
use Rattle.std.specs.declared.alloc.Global.{Global}
use Rattle.std.specs.Cmp.{IsEquivalence}
use Rattle.std.specs.List.{AllZip, IsDistinct}
use Rattle.std.specs.List.Sorted.{IsPermutation}
use Rattle.std.specs.Map.{lookup, keys_of, update, update_all}
use Rattle.std.specs.List.{Contains}
use Rattle.std.specs.HashMap.Eq.{lookup_congr}
use Rattle.std.proofs.lemmas.List.Elements.{All-nil, All-cons, All-head, All-tail}
use Rattle.std.proofs.lemmas.List.Sorted.{All-permutation, Contains-permutation, IsPermutation-map, IsPermutation-sym}
use Rattle.std.proofs.lemmas.Map.Entries.{All-lookup}
use Rattle.std.proofs.lemmas.Map.Keys.{IsDistinct-IsPermutation}
use Rattle.std.proofs.lemmas.Map.Views.{lookup-from_Contains}
use Rattle.std.proofs.lemmas.Map.Made.{update_all_none}
use Rattle.bitcode_shapes.specs.Datum.{Datum}
use Rattle.bitcode_shapes.specs.Shape.{Shape, map_shape, pair_shape}
use Rattle.bitcode_shapes.specs.Lawful.{Lawful, Makeable}
use Rattle.bitcode_shapes.specs.Pairs.{IsPairValue, ListsPair, MakesPair, SamePair}
use Rattle.bitcode_shapes.specs.LawfulPairs.{pair_lawful, pair_makeable}
use Rattle.bitcode_shapes.specs.Lists.{ListsSequence, MakesSequence}
use Rattle.bitcode_shapes.specs.LawfulLists.{sequence_lawful, seq_makeable, each_once, each_remade, elements_once}
use Rattle.bitcode_shapes.specs.AnyOrder.{ListsInAnyOrder}
use Rattle.bitcode_shapes.specs.LawfulAnyOrder.{any_order_lawful}
use Rattle.bitcode_shapes.specs.DataOf.{TellsEqual}
use Rattle.bitcode_shapes.specs.LawfulSets.{under_equality}
use Rattle.bitcode_shapes.specs.Maps.{SameFound, SameEntries, MakesMap}

-- ---- looking up

module _ {K X : Type 0} {eq : K → K → Bool} (laws : IsEquivalence eq) where
  -- the entry that is found has an equal key
  pub record FindsAt (k : K) (v : X) (es : List (K × X)) : Type 0 where
    pub stored : K
    pub entry : Contains es (stored, v)
    pub equal : eq k stored ≡ true

  found_at : (k : K) (v : X) (es : List (K × X)) → lookup (eq k) es ≡ Some v → FindsAt k v es
  found_at k v [] e = absurd cc
  found_at k v (x ∷ xs) e = by (eq k x.0) refl (λ g. found_at k v xs g) e
    where
      by : (b : Bool) → eq k x.0 ≡ b → (lookup (eq k) xs ≡ Some v → FindsAt k v xs) → cond b (Some x.1) (lookup (eq k) xs) ≡ Some v → FindsAt k v (x ∷ xs)
      by true p later g = let here : x.1 ≡ v = cc in record { stored = x.0; entry = (0, omega arith, ap (λ w. (x.0, w)) here); equal = p }
      by false p later g = let f = later g in record { stored = f.stored; entry = (suc f.entry.0, omega (arith, f.entry.1), f.entry.2); equal = f.equal }

  found_reordered : (k : K) (v : X) (es fs : List (K × X)) → IsPermutation es fs → IsDistinct eq (keys_of fs) → lookup (eq k) es ≡ Some v → lookup (eq k) fs ≡ Some v
  found_reordered k v es fs moved distinct e =
      let f = found_at k v es e in
      lookup_congr eq laws.congr fs k f.stored f.equal
      ∙ lookup-from_Contains laws f.stored v fs distinct (Contains-permutation es fs (f.stored, v) moved f.entry)

  -- entries whose keys are distinct are found in any order
  pub lookup_reordered : (k : K) (es fs : List (K × X)) → IsPermutation es fs → IsDistinct eq (keys_of es) → lookup (eq k) es ≡ lookup (eq k) fs
  lookup_reordered k es fs moved distinct =
      by (lookup (eq k) es) (lookup (eq k) fs) refl refl
    where
      others : IsDistinct eq (keys_of fs)
      others = IsDistinct-IsPermutation eq laws.symm (keys_of es) (keys_of fs) (IsPermutation-map (λ e. e.0) es fs moved) distinct

      by : (o p : Option X) → lookup (eq k) es ≡ o → lookup (eq k) fs ≡ p → o ≡ p
      by None None e g = refl
      by (Some v) p e g = sym (found_reordered k v es fs moved others e) ∙ g
      by None (Some v) e g = sym e ∙ found_reordered k v fs es (IsPermutation-sym es fs moved) distinct g

module _ {K X : Type 0} (key value : Shape) (is_key : K → Type 0) (is_value : X → Type 0) (lists_key : K → Datum → Type 0) (lists_value : X → Datum → Type 0)
    (same_key : K → K → Type 0) (same_value : X → X → Type 0) (eq : K → K → Bool) where
  abbrev IsEntry : K × X → Type 0
  IsEntry = IsPairValue is_key is_value

  values_are : (es : List (K × X)) → All IsEntry es → All (λ e. is_value e.1) es
  values_are [] h = All-nil (λ e. is_value e.1)
  values_are (e ∷ es) h = All-cons (λ e. is_value e.1) e es (All-head IsEntry e es h).1 (values_are es (All-tail IsEntry e es h))

  found_is : (es : List (K × X)) (k : K) → All IsEntry es → IfSome (lookup (eq k) es) is_value
  found_is es k h = All-lookup is_value (eq k) es (values_are es h)

  -- ---- equality

  module _ {order : Bool} (of_value : Lawful value is_value lists_value same_value order) where
    found_reflexive : (o : Option X) → IfSome o is_value → SameFound same_value o o
    found_reflexive None h = tt
    found_reflexive (Some x) h = of_value.reflexive x h

    found_symmetric : (o p : Option X) → IfSome o is_value → IfSome p is_value → SameFound same_value o p → SameFound same_value p o
    found_symmetric None None h i s = tt
    found_symmetric None (Some y) h i s = absurd s
    found_symmetric (Some x) None h i s = absurd s
    found_symmetric (Some x) (Some y) h i s = of_value.symmetric x y h i s

    found_transitive : (o p q : Option X) → IfSome o is_value → IfSome p is_value → IfSome q is_value
        → SameFound same_value o p → SameFound same_value p q → SameFound same_value o q
    found_transitive None None q h i j s r = r
    found_transitive None (Some y) q h i j s r = absurd s
    found_transitive (Some x) None q h i j s r = absurd s
    found_transitive (Some x) (Some y) None h i j s r = absurd r
    found_transitive (Some x) (Some y) (Some z) h i j s r = of_value.transitive x y z h i j s r

  -- ---- a container of entries: `entries` lists them, and `is_whole` is the container's invariant

  module _ {C : Type 0} (entries : C → List (K × X)) (is_whole : C → Type 0) (each : (c : C) → is_whole c → All IsEntry (entries c)) where
    by_entries : {order order_value : Bool} {lists_whole : C → Datum → Type 0} {same_whole : C → C → Type 0} → Lawful value is_value lists_value same_value order_value
        → Lawful (map_shape key value) is_whole lists_whole same_whole order
        → Lawful (map_shape key value) is_whole lists_whole (λ b c. SameEntries eq same_value (entries b) (entries c)) order
    by_entries of_value whole =
        under_equality whole (λ b c. SameEntries eq same_value (entries b) (entries c))
        (λ c h k. found_reflexive of_value (lookup (eq k) (entries c)) (found_is (entries c) k (each c h)))
        (λ b c h i s k.
        found_symmetric of_value (lookup (eq k) (entries b)) (lookup (eq k) (entries c)) (found_is (entries b) k (each b h)) (found_is (entries c) k (each c i)) (s k))
        (λ a b c h i j s r k.
        found_transitive of_value (lookup (eq k) (entries a)) (lookup (eq k) (entries b)) (lookup (eq k) (entries c)) (found_is (entries a) k (each a h))
        (found_is (entries b) k (each b i)) (found_is (entries c) k (each c j)) (s k) (r k))

    module _ (order_key order_value : Bool) (of_key : Lawful key is_key lists_key same_key order_key) (of_value : Lawful value is_value lists_value same_value order_value) where
      -- the order of the entries is that of the listing
      pub ordered_map_lawful : Lawful (map_shape key value) is_whole (λ c d. ListsSequence (ListsPair lists_key lists_value) (entries c) d)
          (λ b c. SameEntries eq same_value (entries b) (entries c)) (order_key && order_value)
      ordered_map_lawful =
          by_entries of_value
          (sequence_lawful (pair_shape key value) IsEntry (ListsPair lists_key lists_value) (SamePair same_key same_value) entries is_whole each
          (map_shape key value) (λ n. Unit {0}) (order_key && order_value) (λ s. s) (λ d l. l) (λ c h. tt)
          (pair_lawful key value is_key is_value lists_key lists_value same_key same_value order_key order_value of_key of_value))

      -- the map has an internal order
      pub hashed_map_lawful : Lawful (map_shape key value) is_whole (λ c d. ListsInAnyOrder (ListsPair lists_key lists_value) (entries c) d)
          (λ b c. SameEntries eq same_value (entries b) (entries c)) false
      hashed_map_lawful =
          by_entries of_value
          (any_order_lawful (pair_shape key value) IsEntry (ListsPair lists_key lists_value) (SamePair same_key same_value) (order_key && order_value)
          (pair_lawful key value is_key is_value lists_key lists_value same_key same_value order_key order_value of_key of_value)
          entries is_whole each (map_shape key value) (λ s. s) (λ d l. l))

  -- ---- making

  module _ (laws : IsEquivalence eq) (tells : TellsEqual is_key same_key eq) where
    -- inserting pairs that match one by one gives the same map
    same_updates : (k : K) (f g : K → Option X) (xs ys : List (K × X)) → All IsEntry xs → All IsEntry ys → AllZip (SamePair same_key same_value) xs ys
        → SameFound same_value (f k) (g k) → SameFound same_value (update_all eq f xs k) (update_all eq g ys k)
    same_updates k f g [] [] h i z s = s
    same_updates k f g [] (y ∷ ys) h i z s = absurd z
    same_updates k f g (x ∷ xs) [] h i z s = absurd z
    same_updates k f g (x ∷ xs) (y ∷ ys) h i z s =
        same_updates k (update eq f x.0 (Some x.1)) (update eq g y.0 (Some y.1)) xs ys (All-tail IsEntry x xs h) (All-tail IsEntry y ys i) z.1
        (by (eq x.0 k) (eq y.0 k) (laws.congr x.0 y.0 k (tells x.0 y.0 (All-head IsEntry x xs h).0 (All-head IsEntry y ys i).0 z.0.0)))
      where
        by : (a b : Bool) → a ≡ b → SameFound same_value (cond a (Some x.1) (f k)) (cond b (Some y.1) (g k))
        by true true e = z.0.1
        by true false e = absurd cc
        by false true e = absurd cc
        by false false e = s

    module _ {C : Type 0} (entries : C → List (K × X)) (is_whole : C → Type 0) (each : (c : C) → is_whole c → All IsEntry (entries c))
        (distinct : (c : C) → is_whole c → IsDistinct eq (keys_of (entries c))) (makes_key : Datum → K → Type 0) (makes_value : Datum → X → Type 0)
        (of_key : Makeable key is_key lists_key same_key makes_key) (of_value : Makeable value is_value lists_value same_value makes_value) where
      of_pair : Makeable (pair_shape key value) IsEntry (ListsPair lists_key lists_value) (SamePair same_key same_value) (MakesPair makes_key makes_value)
      of_pair = pair_makeable key value is_key is_value lists_key lists_value same_key same_value makes_key makes_value of_key of_value

      -- entries in an order that lists the elements from which the pairs are made
      relisted : (order pairs : List (K × X)) (d : Datum) (k : K) → All IsEntry order → All IsEntry pairs → IsDistinct eq (keys_of order)
          → ListsSequence (ListsPair lists_key lists_value) order d → MakesSequence (MakesPair makes_key makes_value) d pairs
          → SameFound same_value (lookup (eq k) order) (update_all eq (λ _. None) pairs k)
      relisted order pairs d k h i apart l m =
          let one = elements_once l.elements m.elements (sym l.is ∙ m.is) in
          let alike = each_remade (pair_shape key value) IsEntry (ListsPair lists_key lists_value) (SamePair same_key same_value) (MakesPair makes_key makes_value) of_pair
          order pairs m.elements h i (subst (λ ds. AllZip (ListsPair lists_key lists_value) order ds) one l.each) m.each in
          subst (λ o. SameFound same_value o (update_all eq (λ _. None) pairs k)) (update_all_none laws eq (λ x y. refl) order k apart)
          (same_updates k (λ _. None) (λ _. None) order pairs h i alike tt)

      map_makeable : {lists_whole : C → Datum → Type 0}
          → (Global → (pairs : List (K × X)) → All IsEntry pairs → (c : C) × (is_whole c × ((k : K) → lookup (eq k) (entries c) ≡ update_all eq (λ _. None) pairs k)))
          → ((c : C) (d : Datum) (pairs : List (K × X)) (k : K) → is_whole c → All IsEntry pairs → lists_whole c d → MakesSequence (MakesPair makes_key makes_value) d pairs
          → SameFound same_value (lookup (eq k) (entries c)) (update_all eq (λ _. None) pairs k))
          → Makeable (map_shape key value) is_whole lists_whole (λ b c. SameEntries eq same_value (entries b) (entries c))
          (λ d c. MakesMap is_key is_value eq makes_key makes_value d (entries c))
      map_makeable build listed =
          let in_order = seq_makeable (pair_shape key value) IsEntry (ListsPair lists_key lists_value) (SamePair same_key same_value) (λ (pairs : List (K × X)). pairs)
          (MakesPair makes_key makes_value) (λ g pairs small. (pairs, refl)) of_pair in
          record {
            made = λ g d o s.
                let found = in_order.made g d o s in
                let built = build g found.0 found.1.0 in
                (built.0, (built.1.0, record { pairs = found.0; are = found.1.0; making = found.1.1; found = built.1.1 }));
            unambiguous = λ d b c h i m n k.
                let one = elements_once m.making.elements n.making.elements (sym m.making.is ∙ n.making.is) in
                let alike = each_once (pair_shape key value) IsEntry (ListsPair lists_key lists_value) (SamePair same_key same_value) (MakesPair makes_key makes_value) of_pair
                n.making.elements m.pairs n.pairs m.are n.are (subst (λ ds. AllZip (MakesPair makes_key makes_value) ds m.pairs) one m.making.each) n.making.each in
                subst (λ o. SameFound same_value o (lookup (eq k) (entries c))) (sym (m.found k))
                (subst (SameFound same_value (update_all eq (λ _. None) m.pairs k)) (sym (n.found k))
                (same_updates k (λ _. None) (λ _. None) m.pairs n.pairs m.are n.are alike tt));
            remade = λ b c d h i l m k.
                subst (SameFound same_value (lookup (eq k) (entries b))) (sym (m.found k)) (listed b d m.pairs k h m.are l m.making);
          }

      pub ordered_map_makeable : (Global → (pairs : List (K × X)) → All IsEntry pairs → (c : C) × (is_whole c × ((k : K) → lookup (eq k) (entries c) ≡ update_all eq (λ _. None) pairs k)))
          → Makeable (map_shape key value) is_whole (λ c d. ListsSequence (ListsPair lists_key lists_value) (entries c) d)
          (λ b c. SameEntries eq same_value (entries b) (entries c)) (λ d c. MakesMap is_key is_value eq makes_key makes_value d (entries c))
      ordered_map_makeable build = map_makeable build (λ c d pairs k h i l m. relisted (entries c) pairs d k (each c h) i (distinct c h) l m)

      pub hashed_map_makeable : (Global → (pairs : List (K × X)) → All IsEntry pairs → (c : C) × (is_whole c × ((k : K) → lookup (eq k) (entries c) ≡ update_all eq (λ _. None) pairs k)))
          → Makeable (map_shape key value) is_whole (λ c d. ListsInAnyOrder (ListsPair lists_key lists_value) (entries c) d)
          (λ b c. SameEntries eq same_value (entries b) (entries c)) (λ d c. MakesMap is_key is_value eq makes_key makes_value d (entries c))
      hashed_map_makeable build =
          map_makeable build (λ c d pairs k h i l m.
          subst (λ o. SameFound same_value o (update_all eq (λ _. None) pairs k)) (sym (lookup_reordered laws k (entries c) l.order l.reordered (distinct c h)))
          (relisted l.order pairs d k (All-permutation IsEntry (entries c) l.order l.reordered (each c h)) i
          (IsDistinct-IsPermutation eq laws.symm (keys_of (entries c)) (keys_of l.order) (IsPermutation-map (λ e. e.0) (entries c) l.order l.reordered) (distinct c h))
          l.listing m))
