-- Values that hold elements of a lawful type one by one, front to back, are lawful.
use Rattle.std.proofs.Common.{◌≡◌, ℕ, suc, ◌^◌, ◌<◌, ◌≤◌, Bool, None, List, [], ◌∷◌, length, refl, sym, ◌∙◌, ap, subst, arith}
use Rattle.std.specs.Prelude.{IsTrue, All}
use Rattle.std.specs.List.{AllZip}
use Rattle.std.proofs.lemmas.List.Elements.{All-nil, All-cons, All-head, All-tail, All-same}
use Rattle.std.specs.declared.alloc.Global.{Global}
use Rattle.std.specs.declared.vec.Vec.{Vec}
use Rattle.std.specs.Vec.{vec_items}
use denote.RawPtr.{block_ptr}
use Rattle.bitcode_shapes.specs.Datum.{Datum, Data, list, data_of, list_of, elements_in}
use Rattle.bitcode_shapes.specs.Shape.{Shape, IsOf, IsSound, IsListOf, IsWithin, seq_shape}
use Rattle.bitcode_shapes.specs.Lawful.{Lawful, Makeable}
use Rattle.bitcode_shapes.specs.Storable.{IsStorable, IsStorableSize}
use Rattle.bitcode_shapes.specs.Lists.{ListsSequence, MakesSequence, SameSequence}

-- ---- lists of data, in a datum and out of it

pub list_of_data : (ds : List Datum) → list_of (data_of ds) ≡ ds
list_of_data [] = refl
list_of_data (d ∷ ds) = ap (λ es. d ∷ es) (list_of_data ds)

data_once : {ds es : Data} → list ds ≡ list es → ds ≡ es
data_once e = cc

pub elements_once : (ds es : List Datum) → list (data_of ds) ≡ list (data_of es) → ds ≡ es
elements_once ds es e = sym (list_of_data ds) ∙ ap list_of (data_once e) ∙ list_of_data es

-- ---- of two lists, one by one

pub zip_length : {A B : Type 0} (R : A → B → Type 0) (xs : List A) (ys : List B) → AllZip R xs ys → length xs ≡ length ys
zip_length R [] [] z = refl
zip_length R [] (y ∷ ys) z = absurd z
zip_length R (x ∷ xs) [] z = absurd z
zip_length R (x ∷ xs) (y ∷ ys) z = ap suc (zip_length R xs ys z.1)

-- ---- the elements of a lawful type

module _ {T : Type 0} (shape : Shape) (is_value : T → Type 0) (lists : T → Datum → Type 0) (same : T → T → Type 0) where
  module _ (order : Bool) (element : Lawful shape is_value lists same order) where
    pub each_listed : (values : List T) → All is_value values → (ds : List Datum) × AllZip lists values ds
    each_listed [] h = ([], tt)
    each_listed (t ∷ ts) h =
        let first = element.listed t (All-head is_value t ts h) in
        let rest = each_listed ts (All-tail is_value t ts h) in
        (first.0 ∷ rest.0, (first.1, rest.1))

    pub each_of_shape : (values : List T) (ds : List Datum) → All is_value values → AllZip lists values ds → All (IsOf shape) ds
    each_of_shape [] [] h z = All-nil (IsOf shape)
    each_of_shape [] (d ∷ ds) h z = absurd z
    each_of_shape (t ∷ ts) [] h z = absurd z
    each_of_shape (t ∷ ts) (d ∷ ds) h z =
        All-cons (IsOf shape) d ds
        (element.of_shape t d (All-head is_value t ts h) z.0)
        (each_of_shape ts ds (All-tail is_value t ts h) z.1)

    each_one_listing : IsTrue order → (values : List T) (ds es : List Datum) → All is_value values
        → AllZip lists values ds → AllZip lists values es → ds ≡ es
    each_one_listing o [] [] [] h y z = refl
    each_one_listing o [] [] (e ∷ es) h y z = absurd z
    each_one_listing o [] (d ∷ ds) es h y z = absurd y
    each_one_listing o (t ∷ ts) [] es h y z = absurd y
    each_one_listing o (t ∷ ts) (d ∷ ds) [] h y z = absurd z
    each_one_listing o (t ∷ ts) (d ∷ ds) (e ∷ es) h y z =
        let first : d ≡ e = element.one_listing o t d e (All-head is_value t ts h) y.0 z.0 in
        let rest : ds ≡ es = each_one_listing o ts ds es (All-tail is_value t ts h) y.1 z.1 in
        cc

    pub each_reflexive : (values : List T) → All is_value values → AllZip same values values
    each_reflexive [] h = tt
    each_reflexive (t ∷ ts) h =
        (element.reflexive t (All-head is_value t ts h), each_reflexive ts (All-tail is_value t ts h))

    pub each_symmetric : (ts us : List T) → All is_value ts → All is_value us → AllZip same ts us → AllZip same us ts
    each_symmetric [] [] h i z = tt
    each_symmetric [] (u ∷ us) h i z = absurd z
    each_symmetric (t ∷ ts) [] h i z = absurd z
    each_symmetric (t ∷ ts) (u ∷ us) h i z = (
      element.symmetric t u (All-head is_value t ts h) (All-head is_value u us i) z.0,
      each_symmetric ts us (All-tail is_value t ts h) (All-tail is_value u us i) z.1,
    )

    pub each_transitive : (ts us vs : List T) → All is_value ts → All is_value us → All is_value vs
        → AllZip same ts us → AllZip same us vs → AllZip same ts vs
    each_transitive [] [] vs h i j y z = z
    each_transitive [] (u ∷ us) vs h i j y z = absurd y
    each_transitive (t ∷ ts) [] vs h i j y z = absurd y
    each_transitive (t ∷ ts) (u ∷ us) [] h i j y z = absurd z
    each_transitive (t ∷ ts) (u ∷ us) (v ∷ vs) h i j y z = (
      element.transitive t u v (All-head is_value t ts h) (All-head is_value u us i) (All-head is_value v vs j) y.0 z.0,
      each_transitive ts us vs (All-tail is_value t ts h) (All-tail is_value u us i) (All-tail is_value v vs j) y.1 z.1,
    )

  module _ (makes : Datum → T → Type 0) (element : Makeable shape is_value lists same makes) where
    each_made : Global → (ds : List Datum) → All (IsOf shape) ds → All (IsStorable shape) ds
        → (values : List T) × (All is_value values × AllZip makes ds values)
    each_made g [] h s = ([], (All-nil is_value, tt))
    each_made g (d ∷ ds) h s =
        let first = element.made g d (All-head (IsOf shape) d ds h) (All-head (IsStorable shape) d ds s) in
        let rest = each_made g ds (All-tail (IsOf shape) d ds h) (All-tail (IsStorable shape) d ds s) in
        (first.0 ∷ rest.0, (All-cons is_value first.0 rest.0 first.1.0 rest.1.0, (first.1.1, rest.1.1)))

    pub each_once : (ds : List Datum) (ts us : List T) → All is_value ts → All is_value us
        → AllZip makes ds ts → AllZip makes ds us → AllZip same ts us
    each_once [] [] [] h i y z = tt
    each_once [] [] (u ∷ us) h i y z = absurd z
    each_once [] (t ∷ ts) us h i y z = absurd y
    each_once (d ∷ ds) [] us h i y z = absurd y
    each_once (d ∷ ds) (t ∷ ts) [] h i y z = absurd z
    each_once (d ∷ ds) (t ∷ ts) (u ∷ us) h i y z = (
      element.unambiguous d t u (All-head is_value t ts h) (All-head is_value u us i) y.0 z.0,
      each_once ds ts us (All-tail is_value t ts h) (All-tail is_value u us i) y.1 z.1,
    )

    pub each_remade : (ts us : List T) (ds : List Datum) → All is_value ts → All is_value us
        → AllZip lists ts ds → AllZip makes ds us → AllZip same ts us
    each_remade [] [] ds h i y z = tt
    each_remade [] (u ∷ us) [] h i y z = absurd z
    each_remade [] (u ∷ us) (d ∷ ds) h i y z = absurd y
    each_remade (t ∷ ts) us [] h i y z = absurd y
    each_remade (t ∷ ts) [] (d ∷ ds) h i y z = absurd z
    each_remade (t ∷ ts) (u ∷ us) (d ∷ ds) h i y z = (
      element.remade t u d (All-head is_value t ts h) (All-head is_value u us i) y.0 z.0,
      each_remade ts us ds (All-tail is_value t ts h) (All-tail is_value u us i) y.1 z.1,
    )

  -- ---- A container of elements in order: `items` lists them, `is_whole` is the container's invariant, and `whole` is
  -- the shape of lists whose length satisfies `is_count`.
  module _ {C : Type 0} (items : C → List T) (is_whole : C → Type 0) (each : (c : C) → is_whole c → All is_value (items c))
      (whole : Shape) (is_count : ℕ → Type 0) where
    pub sequence_lawful : (order : Bool) → (IsSound shape → IsSound whole)
        → ((d : Datum) → IsListOf (IsOf shape) is_count d → IsOf whole d)
        → ((c : C) → is_whole c → is_count (length (items c)))
        → Lawful shape is_value lists same order
        → Lawful whole is_whole (λ c d. ListsSequence lists (items c) d) (λ b c. SameSequence same (items b) (items c)) order
    sequence_lawful order sound into counted element = record {
      sound = sound element.sound;
      listed = λ c h.
          let found = each_listed order element (items c) (each c h) in
          (list (data_of found.0), record { elements = found.0; is = refl; each = found.1 });
      of_shape = λ c d h l. into d (record {
        elements = l.elements;
        is = l.is;
        each = each_of_shape order element (items c) l.elements (each c h) l.each;
        count = subst is_count (zip_length lists (items c) l.elements l.each) (counted c h);
      });
      one_listing = λ o c d e h l m.
          let one = each_one_listing order element o (items c) l.elements m.elements (each c h) l.each m.each in
          l.is ∙ ap (λ ds. list (data_of ds)) one ∙ sym m.is;
      reflexive = λ c h. each_reflexive order element (items c) (each c h);
      symmetric = λ b c h i s. each_symmetric order element (items b) (items c) (each b h) (each c i) s;
      transitive = λ a b c h i j s r. each_transitive order element (items a) (items b) (items c) (each a h) (each b i) (each c j) s r;
    }

    -- a container of the values that a datum's elements make is made from the datum
    made_whole : (makes : Datum → T → Type 0) (d : Datum) (elements : List Datum) → d ≡ list (data_of elements) → (values : List T) → AllZip makes elements values
        → (c : C) × (is_whole c × (items c ≡ values)) → (c : C) × (is_whole c × MakesSequence makes d (items c))
    made_whole makes d elements is values making built = (
      built.0,
      (built.1.0, record { elements = elements; is = is; each = subst (AllZip makes elements) (sym built.1.1) making }),
    )

    -- `is_size` is the container's condition on the number of its elements
    pub sequence_makeable : (makes : Datum → T → Type 0) (is_size : ℕ → Type 0)
        → ((d : Datum) → IsOf whole d → IsListOf (IsOf shape) is_count d)
        → ((d : Datum) → IsStorable whole d → is_size (length (elements_in d)) × All (IsStorable shape) (elements_in d))
        → (Global → (values : List T) → is_size (length values) → All is_value values → is_count (length values)
        → (c : C) × (is_whole c × (items c ≡ values)))
        → Makeable shape is_value lists same makes
        → Makeable whole is_whole (λ c d. ListsSequence lists (items c) d) (λ b c. SameSequence same (items b) (items c))
        (λ d c. MakesSequence makes d (items c))
    sequence_makeable makes is_size out_of held build element = record {
      made = λ g d o s.
          let l = out_of d o in
          let elements : elements_in d ≡ l.elements = ap elements_in l.is ∙ list_of_data l.elements in
          let stored = held d s in
          let found = each_made makes element g l.elements l.each (subst (All (IsStorable shape)) elements stored.1) in
          let as_many : length l.elements ≡ length found.0 = zip_length makes l.elements found.0 found.1.1 in
          let size : is_size (length found.0) = subst is_size (ap length elements ∙ as_many) stored.0 in
          made_whole makes d l.elements l.is found.0 found.1.1 (build g found.0 size found.1.0 (subst is_count as_many l.count));
      unambiguous = λ d b c h i m n.
          let one = elements_once m.elements n.elements (sym m.is ∙ n.is) in
          each_once makes element n.elements (items b) (items c) (each b h) (each c i)
          (subst (λ ds. AllZip makes ds (items b)) one m.each) n.each;
      remade = λ b c d h i l m.
          let one = elements_once l.elements m.elements (sym l.is ∙ m.is) in
          each_remade makes element (items b) (items c) m.elements (each b h) (each c i)
          (subst (λ ds. AllZip lists (items b) ds) one l.each) m.each;
    }

  -- ---- A container of any number of elements, with no further condition
  module _ {C : Type 0} (items : C → List T) where
    pub seq_lawful : (order : Bool) → Lawful shape is_value lists same order
        → Lawful (seq_shape None shape) (λ c. All is_value (items c)) (λ c d. ListsSequence lists (items c) d)
        (λ b c. SameSequence same (items b) (items c)) order
    seq_lawful order element = sequence_lawful items (λ c. All is_value (items c)) (λ c h. h) (seq_shape None shape) (IsWithin None)
        order (λ s. s) (λ d l. l) (λ c h. tt) element

    pub seq_makeable : (makes : Datum → T → Type 0)
        → (Global → (values : List T) → length values < 2 ^ 63 → (c : C) × (items c ≡ values))
        → Makeable shape is_value lists same makes
        → Makeable (seq_shape None shape) (λ c. All is_value (items c)) (λ c d. ListsSequence lists (items c) d)
        (λ b c. SameSequence same (items b) (items c)) (λ d c. MakesSequence makes d (items c))
    seq_makeable makes build element = sequence_makeable items (λ c. All is_value (items c)) (λ c h. h) (seq_shape None shape) (IsWithin None)
        makes (IsStorableSize None) (λ d o. o) (λ d s. s)
        (λ g values small h n.
        let built = build g values small in
        (built.0, (All-same is_value (items built.0) values built.1 h, built.1)))
        element

-- ---- vectors

at_most_itself : (n : ℕ) → n ≤ n
at_most_itself n = omega arith

pub vec_built : {T : Type 0} → Global → (values : List T) → length values < 2 ^ 63 → (v : Vec T Global) × (vec_items v ≡ values)
vec_built g values small = (
  record {
    ptr = block_ptr 0 0;
    len = length values;
    cap = length values;
    alloc = g;
    items = values;
    ok = (refl, at_most_itself (length values));
    small = small;
  },
  refl,
)
