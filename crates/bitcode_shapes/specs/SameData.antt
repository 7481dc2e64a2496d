-- Values that are the same hold the same data, and a value lists the data that make it, for each type without sets,
-- maps and heaps. Two sets that are the same may keep different ones of equal keys, and data that repeat a key make a
-- set, too.
use Rattle.std.proofs.Common.{◌≡◌, ℕ, zero, suc, Bool, true, false, ℤ, List, [], ◌∷◌, inl, inr, refl, sym, ◌∙◌, ap, ap₂}
use Rattle.std.specs.Prelude.{All, IsTrue, ◌&&◌, ◌⊎◌, ◌↔◌}
use Rattle.std.specs.List.{AllZip}
use Rattle.std.proofs.lemmas.List.Elements.{All-head, All-tail}
use Rattle.bitcode_shapes.specs.Choices.{IsVariantValue, ListsChoice, ListsLast, ListsVariant, MakesChoice, MakesLast, MakesVariant, SameVariant}
use Rattle.bitcode_shapes.specs.Datum.{Datum, choice, data_of, list, number, pair}
use Rattle.bitcode_shapes.specs.Ints.{ListsNumber, MakesNumber, SameNumber}
use Rattle.bitcode_shapes.specs.LawfulPairs.{both}
use Rattle.bitcode_shapes.specs.Lists.{ListsSequence, MakesSequence, SameSequence}
use Rattle.bitcode_shapes.specs.Pairs.{IsPairValue, ListsPair, MakesPair, SamePair}

-- if the mark is true, values that are the same have the same listing, and a value lists the datum that makes it
pub record HoldSameData {T : Type 0} (determined : Bool) (is_value : T → Type 0) (lists : T → Datum → Type 0) (same : T → T → Type 0) (makes : Datum → T → Type 0) : Type 0 where
  pub at : IsTrue determined → (t u : T) (d e : Datum) → is_value t → is_value u → same t u → lists t d → lists u e → d ≡ e
  pub made : IsTrue determined → (t : T) (d : Datum) → is_value t → lists t d ↔ makes d t

-- for values that are listed by an index and a datum
pub record VariantsHoldSameData {T : Type 0} (determined : Bool) (is_value : T → Type 0) (lists : T → ℕ → Datum → Type 0) (same : T → T → Type 0)
    (makes : ℕ → Datum → T → Type 0) : Type 0 where
  pub at : IsTrue determined → (t u : T) (i j : ℕ) (d e : Datum) → is_value t → is_value u → same t u → lists t i d → lists u j e → (i ≡ j) × (d ≡ e)
  pub made : IsTrue determined → (t : T) (i : ℕ) (d : Datum) → is_value t → lists t i d ↔ makes i d t

pub undetermined : {T : Type 0} {is_value : T → Type 0} {lists : T → Datum → Type 0} {same : T → T → Type 0} {makes : Datum → T → Type 0}
    → HoldSameData false is_value lists same makes
undetermined = record { at = λ o t u d e h i s l m. absurd cc; made = λ o t d h. absurd cc }

-- ---- values with one datum, and values that correspond to others

pub one_datum : {T : Type 0} {is_value : T → Type 0} {same : T → T → Type 0} (datum : T → Datum) → ((t u : T) → same t u → datum t ≡ datum u)
    → HoldSameData true is_value (λ t d. d ≡ datum t) same (λ d t. d ≡ datum t)
one_datum datum alike = record { at = λ o t u d e h i s l m. l ∙ alike t u s ∙ sym m; made = λ o t d h. (λ l. l, λ m. m) }

pub numbers_same_data : {T : Type 0} {is_value : T → Type 0} (value : T → ℤ) → HoldSameData true is_value (ListsNumber value) (SameNumber value) (MakesNumber value)
numbers_same_data value = one_datum (λ t. number (value t)) (λ t u s. ap number s)

-- for a type without values
pub never_same_data : {T : Type 0} {is_value : T → Type 0} {same : T → T → Type 0} → HoldSameData true is_value (λ t d. ⊥) same (λ d t. ⊥)
never_same_data = record { at = λ o t u d e h i s l m. absurd l; made = λ o t d h. (λ l. l, λ m. m) }

pub images_same_data : {T U : Type 0} (stands_for : T → U) {determined : Bool} {is_value : U → Type 0} {lists : U → Datum → Type 0} {same : U → U → Type 0}
    {makes : Datum → U → Type 0} → HoldSameData determined is_value lists same makes
    → HoldSameData determined (λ t. is_value (stands_for t)) (λ t d. lists (stands_for t) d) (λ t u. same (stands_for t) (stands_for u)) (λ d t. makes d (stands_for t))
images_same_data stands_for of = record {
  at = λ o t u d e h i s l m. of.at o (stands_for t) (stands_for u) d e h i s l m;
  made = λ o t d h. of.made o (stands_for t) d h;
}

-- ---- pairs

pub pairs_same_data : {A B : Type 0} {a b : Bool} {is_a : A → Type 0} {is_b : B → Type 0} {lists_a : A → Datum → Type 0} {lists_b : B → Datum → Type 0}
    {same_a : A → A → Type 0} {same_b : B → B → Type 0} {makes_a : Datum → A → Type 0} {makes_b : Datum → B → Type 0}
    → HoldSameData a is_a lists_a same_a makes_a → HoldSameData b is_b lists_b same_b makes_b
    → HoldSameData (a && b) (IsPairValue is_a is_b) (ListsPair lists_a lists_b) (SamePair same_a same_b) (MakesPair makes_a makes_b)
pairs_same_data {a = a} {b = b} first second = record {
  at = λ o t u d e h i s l m.
      l.is
      ∙ ap₂ pair (first.at (both a b o).0 t.0 u.0 l.first m.first h.0 i.0 s.0 l.lists_first m.lists_first)
      (second.at (both a b o).1 t.1 u.1 l.second m.second h.1 i.1 s.1 l.lists_second m.lists_second)
      ∙ sym m.is;
  made = λ o t d h. (
    λ l. record {
      first = l.first;
      second = l.second;
      is = l.is;
      makes_first = (first.made (both a b o).0 t.0 l.first h.0).0 l.lists_first;
      makes_second = (second.made (both a b o).1 t.1 l.second h.1).0 l.lists_second;
    },
    λ m. record {
      first = m.first;
      second = m.second;
      is = m.is;
      lists_first = (first.made (both a b o).0 t.0 m.first h.0).1 m.makes_first;
      lists_second = (second.made (both a b o).1 t.1 m.second h.1).1 m.makes_second;
    },
  );
}

-- ---- values that hold elements: `items` lists them, and `is_whole` is the invariant

module _ {T : Type 0} {determined : Bool} {is_value : T → Type 0} {lists : T → Datum → Type 0} {same : T → T → Type 0} {makes : Datum → T → Type 0}
    (element : HoldSameData determined is_value lists same makes) where
  each_same_data : IsTrue determined → (ts us : List T) (ds es : List Datum) → All is_value ts → All is_value us
      → AllZip same ts us → AllZip lists ts ds → AllZip lists us es → ds ≡ es
  each_same_data o [] [] [] [] h i s l m = refl
  each_same_data o [] [] [] (e ∷ es) h i s l m = absurd m
  each_same_data o [] [] (d ∷ ds) es h i s l m = absurd l
  each_same_data o [] (u ∷ us) ds es h i s l m = absurd s
  each_same_data o (t ∷ ts) [] ds es h i s l m = absurd s
  each_same_data o (t ∷ ts) (u ∷ us) [] es h i s l m = absurd l
  each_same_data o (t ∷ ts) (u ∷ us) (d ∷ ds) [] h i s l m = absurd m
  each_same_data o (t ∷ ts) (u ∷ us) (d ∷ ds) (e ∷ es) h i s l m =
      ap₂ (λ first rest. first ∷ rest) (element.at o t u d e (All-head is_value t ts h) (All-head is_value u us i) s.0 l.0 m.0)
      (each_same_data o ts us ds es (All-tail is_value t ts h) (All-tail is_value u us i) s.1 l.1 m.1)

  each_made : IsTrue determined → (ts : List T) (ds : List Datum) → All is_value ts → AllZip lists ts ds ↔ AllZip makes ds ts
  each_made o [] [] h = (λ l. l, λ m. m)
  each_made o [] (d ∷ ds) h = (λ l. l, λ m. m)
  each_made o (t ∷ ts) [] h = (λ l. l, λ m. m)
  each_made o (t ∷ ts) (d ∷ ds) h =
      let first = element.made o t d (All-head is_value t ts h) in
      let rest = each_made o ts ds (All-tail is_value t ts h) in
      (λ l. (first.0 l.0, rest.0 l.1), λ m. (first.1 m.0, rest.1 m.1))

  pub sequences_same_data : {C : Type 0} (items : C → List T) (is_whole : C → Type 0) → ((c : C) → is_whole c → All is_value (items c))
      → HoldSameData determined is_whole (λ c d. ListsSequence lists (items c) d) (λ b c. SameSequence same (items b) (items c)) (λ d c. MakesSequence makes d (items c))
  sequences_same_data items is_whole each = record {
    at = λ o b c d e h i s l m.
        l.is
        ∙ ap (λ elements. list (data_of elements)) (each_same_data o (items b) (items c) l.elements m.elements (each b h) (each c i) s l.each m.each)
        ∙ sym m.is;
    made = λ o c d h. (
      λ l. record { elements = l.elements; is = l.is; each = (each_made o (items c) l.elements (each c h)).0 l.each },
      λ m. record { elements = m.elements; is = m.is; each = (each_made o (items c) m.elements (each c h)).1 m.each },
    );
  }

-- ---- choices

module _ {A : Type 0} {a : Bool} {is_a : A → Type 0} {lists_a : A → Datum → Type 0} {same_a : A → A → Type 0} {makes_a : Datum → A → Type 0}
    (last : HoldSameData a is_a lists_a same_a makes_a) where
  in_last : IsTrue a → (t u : A) (i j : ℕ) (d e : Datum) → is_a t → is_a u → same_a t u → ListsLast lists_a t i d → ListsLast lists_a u j e → (i ≡ j) × (d ≡ e)
  in_last o t u zero zero d e h k s l m = (refl, last.at o t u d e h k s l m)
  in_last o t u zero (suc j) d e h k s l m = absurd m
  in_last o t u (suc i) j d e h k s l m = absurd l

  last_made : IsTrue a → (t : A) (i : ℕ) (d : Datum) → is_a t → ListsLast lists_a t i d ↔ MakesLast makes_a i d t
  last_made o t zero d h = last.made o t d h
  last_made o t (suc i) d h = (λ l. l, λ m. m)

  pub last_same_data : VariantsHoldSameData a is_a (ListsLast lists_a) same_a (MakesLast makes_a)
  last_same_data = record { at = in_last; made = last_made }

module _ {A B : Type 0} {a b : Bool} {is_a : A → Type 0} {is_b : B → Type 0} {lists_a : A → Datum → Type 0} {lists_b : B → ℕ → Datum → Type 0}
    {same_a : A → A → Type 0} {same_b : B → B → Type 0} {makes_a : Datum → A → Type 0} {makes_b : ℕ → Datum → B → Type 0}
    (first : HoldSameData a is_a lists_a same_a makes_a) (rest : VariantsHoldSameData b is_b lists_b same_b makes_b) where
  in_variant : IsTrue (a && b) → (t u : A ⊎ B) (i j : ℕ) (d e : Datum) → IsVariantValue is_a is_b t → IsVariantValue is_a is_b u → SameVariant same_a same_b t u
      → ListsVariant lists_a lists_b t i d → ListsVariant lists_a lists_b u j e → (i ≡ j) × (d ≡ e)
  in_variant o (inl x) (inl y) zero zero d e h k s l m = (refl, first.at (both a b o).0 x y d e h k s l m)
  in_variant o (inl x) (inl y) zero (suc j) d e h k s l m = absurd m
  in_variant o (inl x) (inl y) (suc i) j d e h k s l m = absurd l
  in_variant o (inl x) (inr y) i j d e h k s l m = absurd s
  in_variant o (inr x) (inl y) i j d e h k s l m = absurd s
  in_variant o (inr x) (inr y) zero j d e h k s l m = absurd l
  in_variant o (inr x) (inr y) (suc i) zero d e h k s l m = absurd m
  in_variant o (inr x) (inr y) (suc i) (suc j) d e h k s l m =
      let found = rest.at (both a b o).1 x y i j d e h k s l m in
      (ap suc found.0, found.1)

  variant_made : IsTrue (a && b) → (t : A ⊎ B) (i : ℕ) (d : Datum) → IsVariantValue is_a is_b t → ListsVariant lists_a lists_b t i d ↔ MakesVariant makes_a makes_b i d t
  variant_made o (inl x) zero d h = first.made (both a b o).0 x d h
  variant_made o (inl x) (suc i) d h = (λ l. l, λ m. m)
  variant_made o (inr x) zero d h = (λ l. l, λ m. m)
  variant_made o (inr x) (suc i) d h = rest.made (both a b o).1 x i d h

  pub first_same_data : VariantsHoldSameData (a && b) (IsVariantValue is_a is_b) (ListsVariant lists_a lists_b) (SameVariant same_a same_b) (MakesVariant makes_a makes_b)
  first_same_data = record { at = in_variant; made = variant_made }

pub choices_same_data : {T : Type 0} {determined : Bool} {is_value : T → Type 0} {lists : T → ℕ → Datum → Type 0} {same : T → T → Type 0} {makes : ℕ → Datum → T → Type 0}
    → VariantsHoldSameData determined is_value lists same makes → HoldSameData determined is_value (ListsChoice lists) same (MakesChoice makes)
choices_same_data variants = record {
  at = λ o t u d e h i s l m.
      let found = variants.at o t u l.index m.index l.payload m.payload h i s l.lists_payload m.lists_payload in
      l.is ∙ ap₂ choice found.0 found.1 ∙ sym m.is;
  made = λ o t d h. (
    λ l. record { index = l.index; payload = l.payload; is = l.is; makes_payload = (variants.made o t l.index l.payload h).0 l.lists_payload },
    λ m. record { index = m.index; payload = m.payload; is = m.is; lists_payload = (variants.made o t m.index m.payload h).1 m.makes_payload },
  );
}
