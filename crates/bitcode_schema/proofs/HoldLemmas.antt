-- What each of several items holds.
use Rattle.std.proofs.Common.{◌≡◌, Option, Some, None, List, [], ◌∷◌, ◌++◌, length, map, refl, sym, ap, ap₂, ◌∙◌}
use Rattle.bitcode_shapes.specs.Datum.{Datum, list, data_of}
use Rattle.bitcode_shapes.specs.LawfulLists.{zip_length}
use Rattle.bitcode_schema.specs.Forms.{changed, both, contents, list_content}
use Rattle.bitcode_schema.specs.Views.{Hold, under}

pub some_same : {A : Type 0} {x y : A} → Some x ≡ Some y → x ≡ y
some_same e = cc

module _ {A B : Type 0} (view : A → Option B) where
  pub hold-append : (xs ys : List A) (us vs : List B) → Hold view xs us → Hold view ys vs → Hold view (xs ++ ys) (us ++ vs)
  hold-append [] ys [] vs h k = k
  hold-append [] ys (u ∷ us) vs h k = absurd h
  hold-append (x ∷ xs) ys [] vs h k = absurd h
  hold-append (x ∷ xs) ys (u ∷ us) vs h k = (h.0, hold-append xs ys us vs h.1 k)

  -- the items are the front and the back of several
  pub record HoldsParts (xs ys : List A) (held : List B) : Type 0 where
    pub front : List B
    pub back : List B
    pub whole : held ≡ front ++ back
    pub first : Hold view xs front
    pub second : Hold view ys back

  pub hold_parts : (xs ys : List A) (held : List B) → Hold view (xs ++ ys) held → HoldsParts xs ys held
  hold_parts [] ys held h = record { front = []; back = held; whole = refl; first = tt; second = h }
  hold_parts (x ∷ xs) ys [] h = absurd h
  hold_parts (x ∷ xs) ys (u ∷ us) h =
      let r = hold_parts xs ys us h.1 in
      record { front = u ∷ r.front; back = r.back; whole = ap (λ vs. u ∷ vs) r.whole; first = (h.0, r.first); second = r.second }

  pub hold_once : (xs : List A) (us vs : List B) → Hold view xs us → Hold view xs vs → us ≡ vs
  hold_once [] [] [] h k = refl
  hold_once [] [] (v ∷ vs) h k = absurd k
  hold_once [] (u ∷ us) vs h k = absurd h
  hold_once (x ∷ xs) [] vs h k = absurd h
  hold_once (x ∷ xs) (u ∷ us) [] h k = absurd k
  hold_once (x ∷ xs) (u ∷ us) (v ∷ vs) h k = ap₂ (λ a rest. a ∷ rest) (some_same (sym h.0 ∙ k.0)) (hold_once xs us vs h.1 k.1)

  pub hold_length : (xs : List A) (us : List B) → Hold view xs us → length xs ≡ length us
  hold_length xs us h = zip_length (λ x u. view x ≡ Some u) xs us h

pub hold_same : {A B : Type 0} (view other : A → Option B) → ((a : A) → view a ≡ other a) → (xs : List A) (us : List B) → Hold view xs us → Hold other xs us
hold_same view other same [] [] h = tt
hold_same view other same [] (u ∷ us) h = absurd h
hold_same view other same (x ∷ xs) [] h = absurd h
hold_same view other same (x ∷ xs) (u ∷ us) h = (sym (same x) ∙ h.0, hold_same view other same xs us h.1)

pub hold_map : {A B C : Type 0} (view : B → Option C) (f : A → B) (xs : List A) (us : List C) → Hold view (map f xs) us → Hold (λ x. view (f x)) xs us
hold_map view f [] [] h = tt
hold_map view f [] (u ∷ us) h = absurd h
hold_map view f (x ∷ xs) [] h = absurd h
hold_map view f (x ∷ xs) (u ∷ us) h = (h.0, hold_map view f xs us h.1)

pub map_hold : {A B C : Type 0} (view : B → Option C) (f : A → B) (xs : List A) (us : List C) → Hold (λ x. view (f x)) xs us → Hold view (map f xs) us
map_hold view f [] [] h = tt
map_hold view f [] (u ∷ us) h = absurd h
map_hold view f (x ∷ xs) [] h = absurd h
map_hold view f (x ∷ xs) (u ∷ us) h = (h.0, map_hold view f xs us h.1)

-- ---- one view after another

module _ {A B C : Type 0} (view : A → Option B) (f : B → Option C) where
  pub hold_under : (xs : List A) (us : List B) (ds : List C) → Hold view xs us → Hold f us ds → Hold (λ x. under (view x) f) xs ds
  hold_under [] [] [] h k = tt
  hold_under [] [] (d ∷ ds) h k = absurd k
  hold_under [] (u ∷ us) ds h k = absurd h
  hold_under (x ∷ xs) [] ds h k = absurd h
  hold_under (x ∷ xs) (u ∷ us) [] h k = absurd k
  hold_under (x ∷ xs) (u ∷ us) (d ∷ ds) h k = (ap (λ o. under o f) h.0 ∙ k.0, hold_under xs us ds h.1 k.1)

  record Sees (o : Option B) (d : C) : Type 0 where
    one : B
    is : o ≡ Some one
    gives : f one ≡ Some d

  sees : (o : Option B) (d : C) → under o f ≡ Some d → Sees o d
  sees (Some b) d e = record { one = b; is = refl; gives = e }
  sees None d e = cc

  -- what the items hold in between
  pub record HoldBetween (xs : List A) (ds : List C) : Type 0 where
    pub between : List B
    pub first : Hold view xs between
    pub second : Hold f between ds

  pub hold_between : (xs : List A) (ds : List C) → Hold (λ x. under (view x) f) xs ds → HoldBetween xs ds
  hold_between [] [] h = record { between = []; first = tt; second = tt }
  hold_between [] (d ∷ ds) h = absurd h
  hold_between (x ∷ xs) [] h = absurd h
  hold_between (x ∷ xs) (d ∷ ds) h =
      let s = sees (view x) d h.0 in
      let r = hold_between xs ds h.1 in
      record { between = s.one ∷ r.between; first = (s.is, r.first); second = (s.gives, r.second) }

-- ---- contents

module _ {A : Type 0} (content : A → Option Datum) where
  pub contents_held : (xs : List A) (ds : List Datum) → Hold content xs ds → contents content xs ≡ Some ds
  contents_held [] [] h = refl
  contents_held [] (d ∷ ds) h = absurd h
  contents_held (x ∷ xs) [] h = absurd h
  contents_held (x ∷ xs) (d ∷ ds) h = ap₂ (both (λ e es. e ∷ es)) h.0 (contents_held xs ds h.1)

  cons_of : (o : Option Datum) (os : Option (List Datum)) (ds : List Datum) → both (λ e es. e ∷ es) o os ≡ Some ds
      → (d : Datum) × ((es : List Datum) × ((o ≡ Some d) × (os ≡ Some es) × (ds ≡ d ∷ es)))
  cons_of (Some d) (Some es) ds e = (d, (es, (refl, refl, sym (some_same e))))
  cons_of (Some d) None ds e = cc
  cons_of None os ds e = cc

  pub held_contents : (xs : List A) (ds : List Datum) → contents content xs ≡ Some ds → Hold content xs ds
  held_contents [] [] e = tt
  held_contents [] (d ∷ ds) e = cc
  held_contents (x ∷ xs) [] e = let c = cons_of (content x) (contents content xs) [] e in let never : [] ≡ c.0 ∷ c.1.0 = c.1.1.2 in cc
  held_contents (x ∷ xs) (d ∷ ds) e =
      let c = cons_of (content x) (contents content xs) (d ∷ ds) e in
      let same : d ∷ ds ≡ c.0 ∷ c.1.0 = c.1.1.2 in
      let first : c.0 ≡ d = cc in
      let rest : c.1.0 ≡ ds = cc in
      (c.1.1.0 ∙ ap Some first, held_contents xs ds (c.1.1.1 ∙ ap Some rest))

  pub list_held : (xs : List A) (ds : List Datum) → Hold content xs ds → list_content content xs ≡ Some (list (data_of ds))
  list_held xs ds h = ap (changed (λ es. list (data_of es))) (contents_held xs ds h)

  changed_of : {C D : Type 0} (f : C → D) (o : Option C) (d : D) → changed f o ≡ Some d → (c : C) × ((o ≡ Some c) × (d ≡ f c))
  changed_of f (Some c) d e = (c, (refl, sym (some_same e)))
  changed_of f None d e = cc

  pub held_list : (xs : List A) (d : Datum) → list_content content xs ≡ Some d → (es : List Datum) × (Hold content xs es × (d ≡ list (data_of es)))
  held_list xs d e = let c = changed_of (λ es. list (data_of es)) (contents content xs) d e in (c.0, (held_contents xs c.0 c.1.0, c.1.1))
