-- Sets of a lawful type are lawful: those with their keys in order, and those with an internal order.
use Rattle.std.proofs.Common.{◌≡◌, Bool, true, false, None, List, [], ◌∷◌, refl, sym, ◌∙◌, ap₂, subst}
use Rattle.std.specs.Prelude.{All, ◌||◌}
use Rattle.std.specs.declared.alloc.Global.{Global}
use Rattle.std.specs.declared.cmp.Ordering.{Ordering}
use Rattle.std.specs.Ordering.{is_eq, eq_by_cmp}
use Rattle.std.specs.Cmp.{IsEquivalence}
use Rattle.std.specs.List.{AllZip}
use Rattle.std.proofs.lemmas.List.Elements.{All-head, All-tail}
use Rattle.std.proofs.lemmas.List.Sorted.{list_any-IsPermutation, All-permutation}
use Rattle.bitcode_shapes.specs.Datum.{Datum}
use Rattle.bitcode_shapes.specs.Shape.{Shape, IsWithin, seq_shape}
use Rattle.bitcode_shapes.specs.Lawful.{Lawful, Makeable}
use Rattle.bitcode_shapes.specs.Lists.{ListsSequence, MakesSequence}
use Rattle.bitcode_shapes.specs.LawfulLists.{sequence_lawful, seq_makeable, each_once, each_remade, elements_once}
use Rattle.bitcode_shapes.specs.AnyOrder.{ListsInAnyOrder}
use Rattle.bitcode_shapes.specs.LawfulAnyOrder.{any_order_lawful}
use Rattle.bitcode_shapes.specs.Sets.{SameMembers, MakesSet}
use Rattle.bitcode_shapes.specs.DataOf.{TellsEqual}

-- a lawful type under another equality
pub under_equality : {T : Type 0} {shape : Shape} {is_value : T → Type 0} {lists : T → Datum → Type 0} {same : T → T → Type 0} {order : Bool}
    → Lawful shape is_value lists same order → (equal : T → T → Type 0)
    → ((t : T) → is_value t → equal t t)
    → ((t u : T) → is_value t → is_value u → equal t u → equal u t)
    → ((t u v : T) → is_value t → is_value u → is_value v → equal t u → equal u v → equal t v)
    → Lawful shape is_value lists equal order
under_equality l equal reflexive symmetric transitive = record {
  sound = l.sound;
  listed = l.listed;
  of_shape = l.of_shape;
  one_listing = l.one_listing;
  reflexive = reflexive;
  symmetric = symmetric;
  transitive = transitive;
}

module _ {T : Type 0} (shape : Shape) (is_value : T → Type 0) (lists : T → Datum → Type 0) (same : T → T → Type 0) where
  module _ {C : Type 0} (keys : C → List T) (is_whole : C → Type 0) (each : (c : C) → is_whole c → All is_value (keys c)) (eq : T → T → Bool) where
    by_members : {order : Bool} {lists_whole : C → Datum → Type 0} {same_whole : C → C → Type 0} → Lawful (seq_shape None shape) is_whole lists_whole same_whole order
        → Lawful (seq_shape None shape) is_whole lists_whole (λ b c. SameMembers eq (keys b) (keys c)) order
    by_members whole =
        under_equality whole (λ b c. SameMembers eq (keys b) (keys c)) (λ c h key. refl) (λ b c h i s key. sym (s key)) (λ a b c h i j s r key. s key ∙ r key)

    -- the order of the keys is that of the listing
    pub ordered_set_lawful : (order : Bool) → Lawful shape is_value lists same order
        → Lawful (seq_shape None shape) is_whole (λ c d. ListsSequence lists (keys c) d) (λ b c. SameMembers eq (keys b) (keys c)) order
    ordered_set_lawful order element =
        by_members (sequence_lawful shape is_value lists same keys is_whole each (seq_shape None shape) (IsWithin None) order (λ s. s) (λ d l. l) (λ c h. tt) element)

    -- the set has an internal order
    pub hashed_set_lawful : (order : Bool) → Lawful shape is_value lists same order
        → Lawful (seq_shape None shape) is_whole (λ c d. ListsInAnyOrder lists (keys c) d) (λ b c. SameMembers eq (keys b) (keys c)) false
    hashed_set_lawful order element =
        by_members (any_order_lawful shape is_value lists same order element keys is_whole each (seq_shape None shape) (λ s. s) (λ d l. l))

  module _ (eq : T → T → Bool) (laws : IsEquivalence eq) (tells : TellsEqual is_value same eq) where
    -- values that match one by one have the same members
    pub members_alike : (ts us : List T) → All is_value ts → All is_value us → AllZip same ts us → SameMembers eq ts us
    members_alike [] [] h i z key = refl
    members_alike [] (u ∷ us) h i z key = absurd z
    members_alike (t ∷ ts) [] h i z key = absurd z
    members_alike (t ∷ ts) (u ∷ us) h i z key =
        let equal : eq t u ≡ true = tells t u (All-head is_value t ts h) (All-head is_value u us i) z.0 in
        let one : eq key t ≡ eq key u = laws.symm key t ∙ laws.congr t u key equal ∙ laws.symm u key in
        ap₂ (λ here more. here || more) one (members_alike ts us (All-tail is_value t ts h) (All-tail is_value u us i) z.1 key)

    module _ {C : Type 0} (keys : C → List T) (is_whole : C → Type 0) (each : (c : C) → is_whole c → All is_value (keys c)) (makes : Datum → T → Type 0) where
      set_makeable : {lists_whole : C → Datum → Type 0} → (Global → (values : List T) → All is_value values → (c : C) × (is_whole c × SameMembers eq (keys c) values))
          → ((c : C) (d : Datum) (values : List T) → is_whole c → All is_value values → lists_whole c d → MakesSequence makes d values → SameMembers eq (keys c) values)
          → Makeable shape is_value lists same makes
          → Makeable (seq_shape None shape) is_whole lists_whole (λ b c. SameMembers eq (keys b) (keys c)) (λ d c. MakesSet is_value eq makes d (keys c))
      set_makeable build relisted element =
          let in_order = seq_makeable shape is_value lists same (λ (values : List T). values) makes (λ g values small. (values, refl)) element in
          record {
            made = λ g d o s.
                let found = in_order.made g d o s in
                let built = build g found.0 found.1.0 in
                (built.0, (built.1.0, record { values = found.0; are = found.1.0; making = found.1.1; members = built.1.1 }));
            unambiguous = λ d b c h i m n key.
                let one = elements_once m.making.elements n.making.elements (sym m.making.is ∙ n.making.is) in
                let alike = each_once shape is_value lists same makes element n.making.elements m.values n.values m.are n.are
                (subst (λ ds. AllZip makes ds m.values) one m.making.each) n.making.each in
                m.members key ∙ members_alike m.values n.values m.are n.are alike key ∙ sym (n.members key);
            remade = λ b c d h i l m key. relisted b d m.values h m.are l m.making key ∙ sym (m.members key);
          }

      relisted_in_order : Makeable shape is_value lists same makes → (order : List T) (d : Datum) (values : List T) → All is_value order → All is_value values
          → ListsSequence lists order d → MakesSequence makes d values → SameMembers eq order values
      relisted_in_order element order d values h i l m =
          let one = elements_once l.elements m.elements (sym l.is ∙ m.is) in
          members_alike order values h i
          (each_remade shape is_value lists same makes element order values m.elements h i (subst (λ ds. AllZip lists order ds) one l.each) m.each)

      pub ordered_set_makeable : (Global → (values : List T) → All is_value values → (c : C) × (is_whole c × SameMembers eq (keys c) values))
          → Makeable shape is_value lists same makes
          → Makeable (seq_shape None shape) is_whole (λ c d. ListsSequence lists (keys c) d) (λ b c. SameMembers eq (keys b) (keys c)) (λ d c. MakesSet is_value eq makes d (keys c))
      ordered_set_makeable build element =
          set_makeable build (λ c d values h i l m. relisted_in_order element (keys c) d values (each c h) i l m) element

      pub hashed_set_makeable : (Global → (values : List T) → All is_value values → (c : C) × (is_whole c × SameMembers eq (keys c) values))
          → Makeable shape is_value lists same makes
          → Makeable (seq_shape None shape) is_whole (λ c d. ListsInAnyOrder lists (keys c) d) (λ b c. SameMembers eq (keys b) (keys c)) (λ d c. MakesSet is_value eq makes d (keys c))
      hashed_set_makeable build element =
          set_makeable build (λ c d values h i l m key.
          list_any-IsPermutation (eq key) (keys c) l.order l.reordered
          ∙ relisted_in_order element l.order d values (All-permutation is_value (keys c) l.order l.reordered (each c h)) i l.listing m key) element

-- if a function decides whether two values are the same, the order decides it too
pub tells_by_order : {T : Type 0} (is_value : T → Type 0) (same : T → T → Type 0) (eq : T → T → Bool) (cmp : T → T → Ordering)
    → ((x y : T) → eq x y ≡ is_eq (cmp x y)) → TellsEqual is_value same eq → TellsEqual is_value same (eq_by_cmp cmp)
tells_by_order is_value same eq cmp tied tells t u h i s = sym (tied t u) ∙ tells t u h i s
