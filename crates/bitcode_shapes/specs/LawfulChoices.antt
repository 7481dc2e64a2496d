-- A value of one of several variants is lawful if each payload is. For a user-defined type with variants A, B and C,
-- whose values correspond to those of A ⊎ (B ⊎ C):
--
--     image_lawful stands_for (choice_lawful (lit≤ tt) (lit≤ tt) (first_lawful a_lawful (first_lawful b_lawful (last_lawful c_lawful))))
use Rattle.std.proofs.Common.{◌≡◌, ℕ, zero, suc, ◌≤◌, Bool, Option, Some, None, Result, Ok, Err, refl, sym, ◌∙◌, ap, subst, inl, inr, lit≤}
use Rattle.std.specs.Prelude.{◌&&◌, IsTrue, ◌⊎◌}
use Rattle.std.specs.declared.alloc.Global.{Global}
use Rattle.bitcode_shapes.specs.Datum.{Datum, choice}
use Rattle.bitcode_shapes.specs.Shape.{Shape, Shapes, no_shapes, shape_and, choice_shape, variant_count, IsOfVariant, AreSound, unit_shape}
use Rattle.bitcode_shapes.specs.Lawful.{Lawful, Makeable}
use Rattle.bitcode_shapes.specs.Storable.{IsStorable, IsStorableVariant}
use Rattle.bitcode_shapes.specs.LawfulImages.{image_lawful, image_makeable}
use Rattle.bitcode_shapes.specs.LawfulEmpty.{unit_lawful, unit_makeable}
use Rattle.bitcode_shapes.specs.LawfulPairs.{both}
use Rattle.bitcode_shapes.specs.Empty.{ListsUnit, MakesUnit}
use Rattle.bitcode_shapes.specs.Choices.{ListsChoice, MakesChoice, ListsLast, MakesLast, IsVariantValue, ListsVariant, MakesVariant, SameVariant, option_variant, result_variant}

-- The laws of a lawful type, for values that are listed by an index and a datum.
pub record LawfulVariants {T : Type 0} (shapes : Shapes) (is_value : T → Type 0) (lists : T → ℕ → Datum → Type 0) (same : T → T → Type 0) (in_order : Bool) : Type 0 where
  pub sound : AreSound shapes
  pub listed : (t : T) → is_value t → (index : ℕ) × ((d : Datum) × lists t index d)
  pub of_shape : (t : T) (index : ℕ) (d : Datum) → is_value t → lists t index d → IsOfVariant shapes index d
  pub one_listing : IsTrue in_order → (t : T) (i j : ℕ) (d e : Datum) → is_value t → lists t i d → lists t j e → (i ≡ j) × (d ≡ e)
  pub reflexive : (t : T) → is_value t → same t t
  pub symmetric : (t u : T) → is_value t → is_value u → same t u → same u t
  pub transitive : (t u v : T) → is_value t → is_value u → is_value v → same t u → same u v → same t v

pub record MakeableVariants {T : Type 0} (shapes : Shapes) (is_value : T → Type 0) (lists : T → ℕ → Datum → Type 0) (same : T → T → Type 0) (makes : ℕ → Datum → T → Type 0) : Type 0 where
  pub made : Global → (index : ℕ) (d : Datum) → IsOfVariant shapes index d → IsStorableVariant shapes index d → (t : T) × (is_value t × makes index d t)
  pub unambiguous : (index : ℕ) (d : Datum) (t u : T) → is_value t → is_value u → makes index d t → makes index d u → same t u
  pub remade : (t u : T) (index : ℕ) (d : Datum) → is_value t → is_value u → lists t index d → makes index d u → same t u

-- ---- the last variant alone

module _ {A : Type 0} {s : Shape} {is_a : A → Type 0} {lists_a : A → Datum → Type 0} {same_a : A → A → Type 0} where
  module _ {order : Bool} (last : Lawful s is_a lists_a same_a order) where
    last_of_shape : (t : A) (index : ℕ) (d : Datum) → is_a t → ListsLast lists_a t index d → IsOfVariant (shape_and s no_shapes) index d
    last_of_shape t zero d h l = last.of_shape t d h l
    last_of_shape t (suc index) d h l = absurd l

    last_one_listing : IsTrue order → (t : A) (i j : ℕ) (d e : Datum) → is_a t → ListsLast lists_a t i d → ListsLast lists_a t j e → (i ≡ j) × (d ≡ e)
    last_one_listing o t zero zero d e h l m = (refl, last.one_listing o t d e h l m)
    last_one_listing o t zero (suc j) d e h l m = absurd m
    last_one_listing o t (suc i) j d e h l m = absurd l

    pub last_lawful : LawfulVariants (shape_and s no_shapes) is_a (ListsLast lists_a) same_a order
    last_lawful = record {
      sound = (last.sound, tt);
      listed = λ t h. let l = last.listed t h in (0, (l.0, l.1));
      of_shape = last_of_shape;
      one_listing = last_one_listing;
      reflexive = last.reflexive;
      symmetric = last.symmetric;
      transitive = last.transitive;
    }

  module _ {makes_a : Datum → A → Type 0} (last : Makeable s is_a lists_a same_a makes_a) where
    last_made : Global → (index : ℕ) (d : Datum) → IsOfVariant (shape_and s no_shapes) index d → IsStorableVariant (shape_and s no_shapes) index d → (t : A) × (is_a t × MakesLast makes_a index d t)
    last_made g zero d o stored = last.made g d o stored
    last_made g (suc index) d o stored = absurd o

    last_once : (index : ℕ) (d : Datum) (t u : A) → is_a t → is_a u → MakesLast makes_a index d t → MakesLast makes_a index d u → same_a t u
    last_once zero d t u h i m n = last.unambiguous d t u h i m n
    last_once (suc index) d t u h i m n = absurd m

    last_remade : (t u : A) (index : ℕ) (d : Datum) → is_a t → is_a u → ListsLast lists_a t index d → MakesLast makes_a index d u → same_a t u
    last_remade t u zero d h i l m = last.remade t u d h i l m
    last_remade t u (suc index) d h i l m = absurd m

    pub last_makeable : MakeableVariants (shape_and s no_shapes) is_a (ListsLast lists_a) same_a (MakesLast makes_a)
    last_makeable = record { made = last_made; unambiguous = last_once; remade = last_remade }

-- ---- the first variant and the rest

module _ {A B : Type 0} {s : Shape} {ss : Shapes} {is_a : A → Type 0} {is_b : B → Type 0} {lists_a : A → Datum → Type 0} {lists_b : B → ℕ → Datum → Type 0}
    {same_a : A → A → Type 0} {same_b : B → B → Type 0} where
  module _ {order_a order_b : Bool} (first : Lawful s is_a lists_a same_a order_a) (rest : LawfulVariants ss is_b lists_b same_b order_b) where
    variant_listed : (t : A ⊎ B) → IsVariantValue is_a is_b t → (index : ℕ) × ((d : Datum) × ListsVariant lists_a lists_b t index d)
    variant_listed (inl a) h = let l = first.listed a h in (0, (l.0, l.1))
    variant_listed (inr b) h = let l = rest.listed b h in (suc l.0, (l.1.0, l.1.1))

    variant_of_shape : (t : A ⊎ B) (index : ℕ) (d : Datum) → IsVariantValue is_a is_b t → ListsVariant lists_a lists_b t index d → IsOfVariant (shape_and s ss) index d
    variant_of_shape (inl a) zero d h l = first.of_shape a d h l
    variant_of_shape (inl a) (suc index) d h l = absurd l
    variant_of_shape (inr b) zero d h l = absurd l
    variant_of_shape (inr b) (suc index) d h l = rest.of_shape b index d h l

    variant_one_listing : IsTrue (order_a && order_b) → (t : A ⊎ B) (i j : ℕ) (d e : Datum) → IsVariantValue is_a is_b t
        → ListsVariant lists_a lists_b t i d → ListsVariant lists_a lists_b t j e → (i ≡ j) × (d ≡ e)
    variant_one_listing o (inl a) zero zero d e h l m = (refl, first.one_listing (both order_a order_b o).0 a d e h l m)
    variant_one_listing o (inl a) zero (suc j) d e h l m = absurd m
    variant_one_listing o (inl a) (suc i) j d e h l m = absurd l
    variant_one_listing o (inr b) zero j d e h l m = absurd l
    variant_one_listing o (inr b) (suc i) zero d e h l m = absurd m
    variant_one_listing o (inr b) (suc i) (suc j) d e h l m =
        let found = rest.one_listing (both order_a order_b o).1 b i j d e h l m in
        (ap suc found.0, found.1)

    variant_reflexive : (t : A ⊎ B) → IsVariantValue is_a is_b t → SameVariant same_a same_b t t
    variant_reflexive (inl a) h = first.reflexive a h
    variant_reflexive (inr b) h = rest.reflexive b h

    variant_symmetric : (t u : A ⊎ B) → IsVariantValue is_a is_b t → IsVariantValue is_a is_b u → SameVariant same_a same_b t u → SameVariant same_a same_b u t
    variant_symmetric (inl a) (inl b) h i e = first.symmetric a b h i e
    variant_symmetric (inl a) (inr b) h i e = absurd e
    variant_symmetric (inr a) (inl b) h i e = absurd e
    variant_symmetric (inr a) (inr b) h i e = rest.symmetric a b h i e

    variant_transitive : (t u v : A ⊎ B) → IsVariantValue is_a is_b t → IsVariantValue is_a is_b u → IsVariantValue is_a is_b v
        → SameVariant same_a same_b t u → SameVariant same_a same_b u v → SameVariant same_a same_b t v
    variant_transitive (inl a) (inl b) (inl c) h i j e f = first.transitive a b c h i j e f
    variant_transitive (inl a) (inl b) (inr c) h i j e f = absurd f
    variant_transitive (inl a) (inr b) v h i j e f = absurd e
    variant_transitive (inr a) (inl b) v h i j e f = absurd e
    variant_transitive (inr a) (inr b) (inl c) h i j e f = absurd f
    variant_transitive (inr a) (inr b) (inr c) h i j e f = rest.transitive a b c h i j e f

    pub first_lawful : LawfulVariants (shape_and s ss) (IsVariantValue is_a is_b) (ListsVariant lists_a lists_b) (SameVariant same_a same_b) (order_a && order_b)
    first_lawful = record {
      sound = (first.sound, rest.sound);
      listed = variant_listed;
      of_shape = variant_of_shape;
      one_listing = variant_one_listing;
      reflexive = variant_reflexive;
      symmetric = variant_symmetric;
      transitive = variant_transitive;
    }

  module _ {makes_a : Datum → A → Type 0} {makes_b : ℕ → Datum → B → Type 0} (first : Makeable s is_a lists_a same_a makes_a)
      (rest : MakeableVariants ss is_b lists_b same_b makes_b) where
    variant_made : Global → (index : ℕ) (d : Datum) → IsOfVariant (shape_and s ss) index d → IsStorableVariant (shape_and s ss) index d
        → (t : A ⊎ B) × (IsVariantValue is_a is_b t × MakesVariant makes_a makes_b index d t)
    variant_made g zero d o stored = let found = first.made g d o stored in (inl found.0, found.1)
    variant_made g (suc index) d o stored = let found = rest.made g index d o stored in (inr found.0, found.1)

    variant_once : (index : ℕ) (d : Datum) (t u : A ⊎ B) → IsVariantValue is_a is_b t → IsVariantValue is_a is_b u
        → MakesVariant makes_a makes_b index d t → MakesVariant makes_a makes_b index d u → SameVariant same_a same_b t u
    variant_once zero d (inl a) (inl b) h i m n = first.unambiguous d a b h i m n
    variant_once zero d (inl a) (inr b) h i m n = absurd n
    variant_once zero d (inr a) u h i m n = absurd m
    variant_once (suc index) d (inl a) u h i m n = absurd m
    variant_once (suc index) d (inr a) (inl b) h i m n = absurd n
    variant_once (suc index) d (inr a) (inr b) h i m n = rest.unambiguous index d a b h i m n

    variant_remade : (t u : A ⊎ B) (index : ℕ) (d : Datum) → IsVariantValue is_a is_b t → IsVariantValue is_a is_b u
        → ListsVariant lists_a lists_b t index d → MakesVariant makes_a makes_b index d u → SameVariant same_a same_b t u
    variant_remade (inl a) (inl b) zero d h i l m = first.remade a b d h i l m
    variant_remade (inl a) (inr b) zero d h i l m = absurd m
    variant_remade (inl a) u (suc index) d h i l m = absurd l
    variant_remade (inr a) u zero d h i l m = absurd l
    variant_remade (inr a) (inl b) (suc index) d h i l m = absurd m
    variant_remade (inr a) (inr b) (suc index) d h i l m = rest.remade a b index d h i l m

    pub first_makeable : MakeableVariants (shape_and s ss) (IsVariantValue is_a is_b) (ListsVariant lists_a lists_b) (SameVariant same_a same_b) (MakesVariant makes_a makes_b)
    first_makeable = record { made = variant_made; unambiguous = variant_once; remade = variant_remade }

-- ---- choices

choice_once : {i j : ℕ} {d e : Datum} → choice i d ≡ choice j e → (i ≡ j) × (d ≡ e)
choice_once h = (cc, cc)

module _ {T : Type 0} {shapes : Shapes} {is_value : T → Type 0} {lists : T → ℕ → Datum → Type 0} {same : T → T → Type 0} where
  pub choice_lawful : {order : Bool} → 2 ≤ variant_count shapes → variant_count shapes ≤ 256 → LawfulVariants shapes is_value lists same order
      → Lawful (choice_shape shapes) is_value (ListsChoice lists) same order
  choice_lawful several few variants = record {
    sound = (several, few, variants.sound);
    listed = λ t h.
        let l = variants.listed t h in
        (choice l.0 l.1.0, record { index = l.0; payload = l.1.0; is = refl; lists_payload = l.1.1 });
    of_shape = λ t d h l. record { index = l.index; payload = l.payload; is = l.is; is_variant = variants.of_shape t l.index l.payload h l.lists_payload };
    one_listing = λ o t d e h l m.
        let found = variants.one_listing o t l.index m.index l.payload m.payload h l.lists_payload m.lists_payload in
        cc (l.is, m.is, found.0, found.1);
    reflexive = variants.reflexive;
    symmetric = variants.symmetric;
    transitive = variants.transitive;
  }

  pub choice_makeable : {makes : ℕ → Datum → T → Type 0} → MakeableVariants shapes is_value lists same makes
      → Makeable (choice_shape shapes) is_value (ListsChoice lists) same (MakesChoice makes)
  choice_makeable {makes = makes} variants = record {
    made = λ g d o stored.
        let found = variants.made g o.index o.payload o.is_variant (subst (IsStorable (choice_shape shapes)) o.is stored) in
        (found.0, (found.1.0, record { index = o.index; payload = o.payload; is = o.is; makes_payload = found.1.1 }));
    unambiguous = λ d t u h i m n.
        let e = choice_once (sym m.is ∙ n.is) in
        variants.unambiguous n.index n.payload t u h i (subst (λ x. makes n.index x t) e.1 (subst (λ x. makes x m.payload t) e.0 m.makes_payload)) n.makes_payload;
    remade = λ t u d h i l m.
        let e = choice_once (sym l.is ∙ m.is) in
        variants.remade t u m.index m.payload h i (subst (λ x. lists t m.index x) e.1 (subst (λ x. lists t x l.payload) e.0 l.lists_payload)) m.makes_payload;
  }

-- ---- options and results

pub option_found : {A : Type 0} (u : Unit {0} ⊎ A) → (o : Option A) × (option_variant o ≡ u)
option_found (inl t) = (None, refl)
option_found (inr a) = (Some a, refl)

pub option_again : {A : Type 0} (o : Option A) → (option_found (option_variant o)).0 ≡ o
unfolding option_found
option_again None = refl
option_again (Some a) = refl

pub result_found : {A B : Type 0} (u : A ⊎ B) → (r : Result A B) × (result_variant r ≡ u)
result_found (inl a) = (Ok a, refl)
result_found (inr b) = (Err b, refl)

pub result_again : {A B : Type 0} (r : Result A B) → (result_found (result_variant r)).0 ≡ r
unfolding result_found
result_again (Ok a) = refl
result_again (Err b) = refl

module _ {A : Type 0} {s : Shape} {is_a : A → Type 0} {lists_a : A → Datum → Type 0} {same_a : A → A → Type 0} where
  pub option_lawful : {order : Bool} → Lawful s is_a lists_a same_a order
      → Lawful (choice_shape (shape_and unit_shape (shape_and s no_shapes))) (λ (o : Option A). IsVariantValue (λ t. Unit {0}) is_a (option_variant o))
      (λ o d. ListsChoice (ListsVariant ListsUnit (ListsLast lists_a)) (option_variant o) d)
      (λ o p. SameVariant (λ t u. Unit {0}) same_a (option_variant o) (option_variant p)) order
  option_lawful some = image_lawful option_variant (choice_lawful (lit≤ tt) (lit≤ tt) (first_lawful unit_lawful (last_lawful some)))

  pub option_makeable : {makes_a : Datum → A → Type 0} → Makeable s is_a lists_a same_a makes_a
      → Makeable (choice_shape (shape_and unit_shape (shape_and s no_shapes))) (λ (o : Option A). IsVariantValue (λ t. Unit {0}) is_a (option_variant o))
      (λ o d. ListsChoice (ListsVariant ListsUnit (ListsLast lists_a)) (option_variant o) d)
      (λ o p. SameVariant (λ t u. Unit {0}) same_a (option_variant o) (option_variant p))
      (λ d o. MakesChoice (MakesVariant MakesUnit (MakesLast makes_a)) d (option_variant o))
  option_makeable some = image_makeable option_variant (λ g u h. option_found u) (choice_makeable (first_makeable (unit_makeable tt) (last_makeable some)))

module _ {A B : Type 0} {s t : Shape} {is_a : A → Type 0} {is_b : B → Type 0} {lists_a : A → Datum → Type 0} {lists_b : B → Datum → Type 0}
    {same_a : A → A → Type 0} {same_b : B → B → Type 0} where
  pub result_lawful : {order_a order_b : Bool} → Lawful s is_a lists_a same_a order_a → Lawful t is_b lists_b same_b order_b
      → Lawful (choice_shape (shape_and s (shape_and t no_shapes))) (λ (r : Result A B). IsVariantValue is_a is_b (result_variant r))
      (λ r d. ListsChoice (ListsVariant lists_a (ListsLast lists_b)) (result_variant r) d)
      (λ q r. SameVariant same_a same_b (result_variant q) (result_variant r)) (order_a && order_b)
  result_lawful ok err = image_lawful result_variant (choice_lawful (lit≤ tt) (lit≤ tt) (first_lawful ok (last_lawful err)))

  pub result_makeable : {makes_a : Datum → A → Type 0} {makes_b : Datum → B → Type 0} → Makeable s is_a lists_a same_a makes_a → Makeable t is_b lists_b same_b makes_b
      → Makeable (choice_shape (shape_and s (shape_and t no_shapes))) (λ (r : Result A B). IsVariantValue is_a is_b (result_variant r))
      (λ r d. ListsChoice (ListsVariant lists_a (ListsLast lists_b)) (result_variant r) d)
      (λ q r. SameVariant same_a same_b (result_variant q) (result_variant r))
      (λ d r. MakesChoice (MakesVariant makes_a (MakesLast makes_b)) d (result_variant r))
  result_makeable ok err = image_makeable result_variant (λ g u h. result_found u) (choice_makeable (first_makeable ok (last_makeable err)))
