-- Values that hold elements of a lawful type in an internal order are lawful.
use Rattle.std.proofs.Common.{◌≡◌, ℕ, zero, suc, ◌^◌, ◌<◌, Bool, false, None, List, [], ◌∷◌, length, get_or, refl, sym, ◌∙◌, subst, arith}
use Rattle.std.specs.Prelude.{All, slice_set}
use Rattle.std.specs.declared.alloc.Global.{Global}
use Rattle.std.specs.List.{AllZip, swap}
use Rattle.std.specs.List.Sorted.{IsPermutation}
use Rattle.std.proofs.lemmas.List.Sorted.{IsPermutation-refl, IsPermutation-sym, IsPermutation-trans, IsPermutation-swap, IsPermutation-keeps, All-permutation}
use Rattle.bitcode_shapes.specs.Datum.{Datum, list, data_of}
use Rattle.bitcode_shapes.specs.Shape.{Shape, IsOf, IsListOf, IsSound, seq_shape}
use Rattle.bitcode_shapes.specs.Lawful.{Lawful, Makeable}
use Rattle.bitcode_shapes.specs.LawfulLists.{zip_length, each_listed, each_of_shape, each_reflexive, each_symmetric, each_transitive, each_once, each_remade, elements_once, seq_makeable}
use Rattle.bitcode_shapes.specs.AnyOrder.{ListsInAnyOrder, MakesInAnyOrder, SameInAnyOrder}

-- ---- two lists that match one by one, if one is reordered

module _ {A B : Type 0} (R : A → B → Type 0) where
  zip_at : (xs : List A) (ys : List B) (i : ℕ) (d : A) (e : B) → AllZip R xs ys → i < length xs → R (get_or xs i d) (get_or ys i e)
  zip_at [] ys i d e z inside = absurd (omega arith)
  zip_at (x ∷ xs) [] i d e z inside = absurd z
  zip_at (x ∷ xs) (y ∷ ys) zero d e z inside = z.0
  zip_at (x ∷ xs) (y ∷ ys) (suc i) d e z inside = zip_at xs ys i d e z.1 (omega arith)

  zip_set : (xs : List A) (ys : List B) (i : ℕ) (x : A) (y : B) → AllZip R xs ys → R x y → AllZip R (slice_set xs i x) (slice_set ys i y)
  zip_set [] [] i x y z r = tt
  zip_set [] (b ∷ bs) i x y z r = absurd z
  zip_set (a ∷ rest) [] i x y z r = absurd z
  zip_set (a ∷ rest) (b ∷ bs) zero x y z r = (r, z.1)
  zip_set (a ∷ rest) (b ∷ bs) (suc i) x y z r = (z.0, zip_set rest bs i x y z.1 r)

  zip_swap : (xs : List A) (ys : List B) (i j : ℕ) → i < length xs → j < length xs → AllZip R xs ys → AllZip R (swap xs i j) (swap ys i j)
  zip_swap [] ys i j hi hj z = absurd (omega arith)
  zip_swap (x ∷ xs) [] i j hi hj z = absurd z
  zip_swap (x ∷ xs) (y ∷ ys) i j hi hj z =
      zip_set (slice_set (x ∷ xs) i (get_or (x ∷ xs) j x)) (slice_set (y ∷ ys) i (get_or (y ∷ ys) j y)) j (get_or (x ∷ xs) i x) (get_or (y ∷ ys) i y)
      (zip_set (x ∷ xs) (y ∷ ys) i (get_or (x ∷ xs) j x) (get_or (y ∷ ys) j y) z (zip_at (x ∷ xs) (y ∷ ys) j x y z hj))
      (zip_at (x ∷ xs) (y ∷ ys) i x y z hi)

  -- the others follow
  pub record Follows (reordered : List A) (ys : List B) : Type 0 where
    pub others : List B
    pub moved : IsPermutation ys others
    pub zipped : AllZip R reordered others

  pub zip_follows : (xs reordered : List A) (ys : List B) → IsPermutation xs reordered → AllZip R xs ys → Follows reordered ys
  zip_follows xs reordered ys moved z =
      IsPermutation-keeps xs (λ l. Follows l ys) (record { others = ys; moved = IsPermutation-refl ys; zipped = z })
      (λ l i j hi hj f. record {
        others = swap f.others i j;
        moved = IsPermutation-trans ys f.others (swap f.others i j) f.moved
            (IsPermutation-swap f.others (swap f.others i j) i j (in_others l i f hi) (in_others l j f hj) refl);
        zipped = zip_swap l f.others i j hi hj f.zipped;
      }) reordered moved
    where
      in_others : (l : List A) (i : ℕ) (f : Follows l ys) → i < length l → i < length f.others
      in_others l i f h = subst (λ n. i < n) (zip_length R l f.others f.zipped) h

zip_flip : {A B : Type 0} (R : A → B → Type 0) (xs : List A) (ys : List B) → AllZip R xs ys → AllZip (λ y x. R x y) ys xs
zip_flip R [] [] z = tt
zip_flip R [] (y ∷ ys) z = absurd z
zip_flip R (x ∷ xs) [] z = absurd z
zip_flip R (x ∷ xs) (y ∷ ys) z = (z.0, zip_flip R xs ys z.1)

-- ---- the elements of a lawful type

module _ {T : Type 0} (shape : Shape) (is_value : T → Type 0) (lists : T → Datum → Type 0) (same : T → T → Type 0) where
  -- orders of two lists that match one by one
  same_orders : (values order others order_too : List T) → IsPermutation values order → IsPermutation others order_too
      → AllZip same order order_too → SameInAnyOrder same values others
  same_orders values order others order_too moved moved_too z =
      let back = zip_follows (λ u t. same t u) order_too others order (IsPermutation-sym others order_too moved_too) (zip_flip same order order_too z) in
      record {
        order = back.others;
        reordered = IsPermutation-trans values order back.others moved back.moved;
        each = zip_flip (λ u t. same t u) others back.others back.zipped;
      }

  module _ (order : Bool) (element : Lawful shape is_value lists same order) where
    any_reflexive : (values : List T) → All is_value values → SameInAnyOrder same values values
    any_reflexive values h = record {
      order = values;
      reordered = IsPermutation-refl values;
      each = each_reflexive shape is_value lists same order element values h;
    }

    any_symmetric : (ts us : List T) → All is_value ts → All is_value us → SameInAnyOrder same ts us → SameInAnyOrder same us ts
    any_symmetric ts us h i s =
        same_orders us us ts s.order (IsPermutation-refl us) s.reordered
        (each_symmetric shape is_value lists same order element s.order us (All-permutation is_value ts s.order s.reordered h) i s.each)

    any_transitive : (ts us vs : List T) → All is_value ts → All is_value us → All is_value vs
        → SameInAnyOrder same ts us → SameInAnyOrder same us vs → SameInAnyOrder same ts vs
    any_transitive ts us vs h i j s r =
        let back = zip_follows (λ u t. same t u) us r.order s.order r.reordered (zip_flip same s.order us s.each) in
        record {
          order = back.others;
          reordered = IsPermutation-trans ts s.order back.others s.reordered back.moved;
          each = each_transitive shape is_value lists same order element back.others r.order vs
              (All-permutation is_value s.order back.others back.moved (All-permutation is_value ts s.order s.reordered h))
              (All-permutation is_value us r.order r.reordered i) j
              (zip_flip (λ u t. same t u) r.order back.others back.zipped) r.each;
        }

    -- a container of elements: `items` lists them, `is_whole` is the container's invariant, and `whole` is the shape of
    -- lists of them
    pub any_order_lawful : {C : Type 0} (items : C → List T) (is_whole : C → Type 0) → ((c : C) → is_whole c → All is_value (items c))
        → (whole : Shape) → (IsSound shape → IsSound whole)
        → ((d : Datum) → IsListOf (IsOf shape) (λ n. Unit {0}) d → IsOf whole d)
        → Lawful whole is_whole (λ c d. ListsInAnyOrder lists (items c) d) (λ b c. SameInAnyOrder same (items b) (items c)) false
    any_order_lawful items is_whole each whole sound into = record {
      sound = sound element.sound;
      listed = λ c h.
          let found = each_listed shape is_value lists same order element (items c) (each c h) in (
            list (data_of found.0),
            record {
              order = items c;
              reordered = IsPermutation-refl (items c);
              listing = record { elements = found.0; is = refl; each = found.1 };
            },
          );
      of_shape = λ c d h l. into d (record {
        elements = l.listing.elements;
        is = l.listing.is;
        each = each_of_shape shape is_value lists same order element l.order l.listing.elements
            (All-permutation is_value (items c) l.order l.reordered (each c h)) l.listing.each;
        count = tt;
      });
      one_listing = λ o c d e h l m. absurd cc;
      reflexive = λ c h. any_reflexive (items c) (each c h);
      symmetric = λ b c h i s. any_symmetric (items b) (items c) (each b h) (each c i) s;
      transitive = λ a b c h i j s r. any_transitive (items a) (items b) (items c) (each a h) (each b i) (each c j) s r;
    }

  -- a container of any number of elements, with no further condition
  pub any_heap_lawful : (order : Bool) → Lawful shape is_value lists same order → {C : Type 0} (items : C → List T)
      → Lawful (seq_shape None shape) (λ c. All is_value (items c)) (λ c d. ListsInAnyOrder lists (items c) d) (λ b c. SameInAnyOrder same (items b) (items c)) false
  any_heap_lawful order element items =
      any_order_lawful order element items (λ c. All is_value (items c)) (λ c h. h) (seq_shape None shape) (λ s. s) (λ d l. l)

  pub any_order_makeable : {C : Type 0} (items : C → List T) (makes : Datum → T → Type 0)
      → (Global → (values : List T) → length values < 2 ^ 63 → (c : C) × (items c ≡ values))
      → Makeable shape is_value lists same makes
      → Makeable (seq_shape None shape) (λ c. All is_value (items c)) (λ c d. ListsInAnyOrder lists (items c) d)
      (λ b c. SameInAnyOrder same (items b) (items c)) (λ d c. MakesInAnyOrder makes d (items c))
  any_order_makeable items makes build element =
      let in_order = seq_makeable shape is_value lists same items makes build element in
      record {
        made = λ g d o s.
            let found = in_order.made g d o s in
            (found.0, (found.1.0, record { order = items found.0; reordered = IsPermutation-refl (items found.0); making = found.1.1 }));
        unambiguous = λ d b c h i m n.
            let one = elements_once m.making.elements n.making.elements (sym m.making.is ∙ n.making.is) in
            same_orders (items b) m.order (items c) n.order m.reordered n.reordered
            (each_once shape is_value lists same makes element n.making.elements m.order n.order
            (All-permutation is_value (items b) m.order m.reordered h) (All-permutation is_value (items c) n.order n.reordered i)
            (subst (λ ds. AllZip makes ds m.order) one m.making.each) n.making.each);
        remade = λ b c d h i l m.
            let one = elements_once l.listing.elements m.making.elements (sym l.listing.is ∙ m.making.is) in
            same_orders (items b) l.order (items c) m.order l.reordered m.reordered
            (each_remade shape is_value lists same makes element l.order m.order m.making.elements
            (All-permutation is_value (items b) l.order l.reordered h) (All-permutation is_value (items c) m.order m.reordered i)
            (subst (λ ds. AllZip lists l.order ds) one l.listing.each) m.making.each);
      }
