-- A value has no fault just where it has the cases of its shape, and a datum of it: level by level.
use Rattle.std.proofs.Common.{◌≡◌, ℕ, zero, suc, ◌≤◌, ◌<◌, Bool, true, false, ◌&&◌, List, [], ◌∷◌, ◌++◌, map, Some, None, slice_get, inl, inr, nat_lt, if◌then◌else◌, refl, sym, ap, subst, ◌∙◌, arith}
use Rattle.std.specs.List.{flat_map, list_all, AllByRecursion}
use Rattle.std.proofs.lemmas.Bool.{cases_Bool, ltb-true, ltb-false}
use Rattle.bitcode_memory.specs.declared.error.Reason.{Reason}
use Rattle.bitcode_memory.specs.declared.error.Reason.TheVariants.{TooManyVariants, NotOfTheShape, NestedTooDeep}
use Rattle.bitcode_shapes.specs.Datum.{Datum, list, pair, data_of, list_of}
use Rattle.bitcode_coder.specs.Spelling.{natural}
use Rattle.bitcode_untyped.specs.Cases.{Comparison, fields_agree, agrees_if_there, agrees_by, agrees_at, agrees_step, agrees_with, IsOfItsType, FaultsTell}
use Rattle.bitcode_untyped.specs.Faults.{Followed, stands, too_deep, nowhere, follow, Judge, faults_of, faults_at, faults_by, faults_of_fields, faults_of_leaf, faults_of_variant, value_faults}
use Rattle.bitcode_untyped.specs.Leaves.{leaf_of_node, entry_of, is_of}
use Rattle.bitcode_untyped.specs.ShapeTree.{IsOf, AreOf, IsOfVariant, IsPair, natural_tree}
use Rattle.bitcode_untyped.specs.View.{datum_of, datum_step, tree_of, tree_of_node, trees_of, entry_tree, followed, reference_limit}
use Rattle.bitcode_untyped.specs.declared.shape.Shape.{Shape}
use Rattle.bitcode_untyped.specs.declared.shape.ShapeNode.{ShapeNode}
use Rattle.bitcode_untyped.specs.declared.shape.ShapeNode.TheOpen.{ShapeNode-F}
use Rattle.bitcode_untyped.specs.declared.value.Value.{Value, out-Value}
use Rattle.bitcode_untyped.specs.declared.value.Value.TheOpen.{Value-F}
use Rattle.bitcode_untyped.specs.declared.value.Value.TheViews.{roll-Value, out-roll-Value}
use Rattle.bitcode_untyped.specs.declared.value.Value.TheFolds.{fold_out-Value, map-Value, ind-Value, every-Value, every_held-Value, every_here-Value}
use Rattle.bitcode_untyped.proofs.ContentLemmas.{no_first, no_last}
use Rattle.bitcode_untyped.proofs.FaultLemmas.{faults_at-follow}
use Rattle.bitcode_untyped.proofs.FollowedLemmas.{followed-suc}
use Rattle.bitcode_untyped.proofs.LeafLemmas.{entry_kept, datum_there, leaf_layer}
use Rattle.bitcode_untyped.proofs.ReadLemmas.{list_of-data_of}
use Rattle.bitcode_untyped.proofs.ThereLemmas.{layer_tree, tree_there, tree_of_follow}
use Rattle.bitcode_untyped.proofs.TypedLemmas.{all_bytes, IsEntry, entry_is, leaf_one}

-- ---- what is told of a value

-- whether the cases agree, whether the datum is of the tree, whether the value is of its types, and the faults
pub record Tells (agrees : Bool) (IsOne IsTyped : Type 0) (faults : List Reason) : Type 0 where
  pub none : agrees ≡ true → IsOne → faults ≡ []
  pub cases : faults ≡ [] → agrees ≡ true
  pub is_one : IsTyped → faults ≡ [] → IsOne

and_first : (a b : Bool) → (a && b) ≡ true → a ≡ true
and_first true b h = refl
and_first false b h = h

and_second : (a b : Bool) → (a && b) ≡ true → b ≡ true
and_second true b h = h
and_second false b h = cc

both_true : (a b : Bool) → a ≡ true → b ≡ true → (a && b) ≡ true
both_true a b h k = rw (h, k) refl

nothing : (xs ys : List Reason) → xs ≡ [] → ys ≡ [] → xs ++ ys ≡ []
nothing xs ys h k = rw (h, k) refl

both : (a b : Bool) (O P T U : Type 0) (f g : List Reason) → Tells a O T f → Tells b P U g → Tells (a && b) (O × P) (T × U) (f ++ g)
both a b O P T U f g s t = record {
  none = λ h o. nothing f g (s.none (and_first a b h) o.0) (t.none (and_second a b h) o.1);
  cases = λ h. both_true a b (s.cases (no_first f g h)) (t.cases (no_last f g h));
  is_one = λ u h. (s.is_one u.0 (no_first f g h), t.is_one u.1 (no_last f g h));
}

-- the same of what is told otherwise
told_as : (a : Bool) (O P T U : Type 0) (f : List Reason) → (P → O) → (O → P) → (U → T) → Tells a O T f → Tells a P U f
told_as a O P T U f there back typed s = record {
  none = λ h p. s.none h (there p);
  cases = s.cases;
  is_one = λ u h. back (s.is_one (typed u) h);
}

-- a leaf of the same case
same : (O T : Type 0) → (T → O) → Tells true O T []
same O T is = record { none = λ h o. refl; cases = λ h. refl; is_one = λ t h. is t }

-- another case
other : (O T : Type 0) (reason : Reason) → Tells false O T (reason ∷ [])
other O T reason = record { none = λ h o. cc; cases = λ h. cc; is_one = λ t h. cc }

told_if : (b : Bool) (O T : Type 0) → (b ≡ true → T → O) → Tells b O T (faults_of_leaf b)
told_if true O T is = same O T (is refl)
told_if false O T is = other O T NotOfTheShape

-- nothing is of such a shape
apart : (a : Bool) (O T : Type 0) (reason : Reason) → a ≡ true → (O → ⊥) → Tells a O T (reason ∷ [])
apart a O T reason agrees none = record { none = λ h o. absurd (none o); cases = λ h. agrees; is_one = λ t h. cc }

-- ---- the values inside a value

abbrev parts_in : {A : Type 0} → Value-F A → List A
parts_in (Value-F.Option (Some b)) = b.value ∷ []
parts_in (Value-F.Seq v) = v.items
parts_in (Value-F.Map v) = flat_map (λ e. e.0 ∷ e.1 ∷ []) v.items
parts_in (Value-F.Tuple v) = v.items
parts_in (Value-F.Enum i b) = b.value ∷ []
parts_in _ = []

pairs_of : {A B : Type 0} (f : A → B) (es : List (A × A))
    → flat_map (λ (e : B × B). e.0 ∷ e.1 ∷ []) (map (λ (e : A × A). (f e.0, f e.1)) es) ≡ map f (flat_map (λ (e : A × A). e.0 ∷ e.1 ∷ []) es)
pairs_of f [] = refl
pairs_of f (e ∷ es) = ap (λ xs. f e.0 ∷ f e.1 ∷ xs) (pairs_of f es)

parts_kept : {A B : Type 0} (f : A → B) (y : Value-F A) → parts_in (map-Value A B f y) ≡ map f (parts_in y)
parts_kept f (Value-F.Option None) = refl
parts_kept f (Value-F.Option (Some b)) = refl
parts_kept f (Value-F.Map v) = pairs_of f v.items
parts_kept f _ = refl

abbrev IsTyped : Value → Type 0
IsTyped = every-Value IsOfItsType

each_known : (ks : List ((v : Value) × IsTyped v)) → AllByRecursion IsTyped (map (λ e. e.0) ks)
each_known [] = tt
each_known (k ∷ ks) = (k.1, each_known ks)

parts_typed : (v : Value) → IsTyped v → AllByRecursion IsTyped (parts_in (out-Value v))
parts_typed v h =
    let k = every_held-Value IsOfItsType v h in
    subst (AllByRecursion IsTyped) (sym (parts_kept (λ e. e.0) k.0) ∙ ap parts_in k.1) (each_known (parts_in k.0))

-- ---- lists and maps by their elements

each_map : {A B : Type 0} (P : B → Type 0) (f : A → B) (xs : List A) → AllByRecursion (λ x. P (f x)) xs → AllByRecursion P (map f xs)
each_map P f [] h = tt
each_map P f (x ∷ xs) h = (h.0, each_map P f xs h.1)

is_list : (ds : List Datum) → list (data_of ds) ≡ list (data_of (list_of (data_of ds)))
is_list ds = sym (ap (λ xs. list (data_of xs)) (list_of-data_of ds))

module _ (P : Datum → Type 0) (ds : List Datum) where
  elements_are : AllByRecursion P (list_of (data_of ds)) → AllByRecursion P ds
  elements_are h = subst (AllByRecursion P) (list_of-data_of ds) h

  are_elements : AllByRecursion P ds → AllByRecursion P (list_of (data_of ds))
  are_elements h = subst (AllByRecursion P) (sym (list_of-data_of ds)) h

-- ---- what is known of the parts

module _ (table : List ShapeNode) where
  abbrev judge : Value → Judge
  judge = faults_of table

  abbrev compare : Value → Comparison
  compare = agrees_with table

  -- what is told of the value at any node
  abbrev pub Told : Value → Type 0
  Told v = (left : ℕ) (n : ShapeNode) → Tells (compare v left n) (IsOf (tree_of_node left table n) (datum_of v)) (IsTyped v) (judge v left n)

  abbrev Known : Type 0
  Known = (v : Value) × Told v

  abbrev value_of : Known → Value
  value_of e = e.0

  each_told : (left : ℕ) (n : ShapeNode) (ks : List Known)
      → Tells (list_all (λ (c : Comparison). c left n) (map compare (map value_of ks))) (AllByRecursion (IsOf (tree_of_node left table n)) (map datum_of (map value_of ks)))
      (AllByRecursion IsTyped (map value_of ks)) (flat_map (λ (j : Judge). j left n) (map judge (map value_of ks)))
  each_told left n [] = same _ _ (λ t. tt)
  each_told left n (k ∷ ks) = both _ _ _ _ _ _ _ _ (k.1 left n) (each_told left n ks)

  fields_told : (left : ℕ) (ns : List ShapeNode) (ks : List Known)
      → Tells (fields_agree (map compare (map value_of ks)) left ns) (AreOf (trees_of (map (tree_of_node left table) ns)) (data_of (map datum_of (map value_of ks))))
      (AllByRecursion IsTyped (map value_of ks)) (faults_of_fields (map judge (map value_of ks)) left ns)
  fields_told left [] [] = same _ _ (λ t. tt)
  fields_told left (n ∷ ns) [] = apart _ _ _ NotOfTheShape refl (λ o. o)
  fields_told left [] (k ∷ ks) = apart _ _ _ NotOfTheShape refl (λ o. o)
  fields_told left (n ∷ ns) (k ∷ ks) = both _ _ _ _ _ _ _ _ (k.1 left n) (fields_told left ns ks)

  abbrev judge_pair : Value × Value → Judge × Judge
  judge_pair e = (judge e.0, judge e.1)

  abbrev compare_pair : Value × Value → Comparison × Comparison
  compare_pair e = (compare e.0, compare e.1)

  abbrev datum_pair : Value × Value → Datum × Datum
  datum_pair e = (datum_of e.0, datum_of e.1)

  abbrev values_of : Known × Known → Value × Value
  values_of e = (value_of e.0, value_of e.1)

  pairs_told : (left : ℕ) (key value : ShapeNode) (ks : List (Known × Known))
      → Tells (list_all (λ (c : Comparison × Comparison). c.0 left key && c.1 left value) (map compare_pair (map values_of ks)))
      (AllByRecursion (IsPair (IsOf (tree_of_node left table key)) (IsOf (tree_of_node left table value))) (map (λ (e : Datum × Datum). pair e.0 e.1) (map datum_pair (map values_of ks))))
      (AllByRecursion IsTyped (map value_of (flat_map (λ (e : Known × Known). e.0 ∷ e.1 ∷ []) ks)))
      (flat_map (λ (j : Judge × Judge). j.0 left key ++ j.1 left value) (map judge_pair (map values_of ks)))
  pairs_told left key value [] = same _ _ (λ t. tt)
  pairs_told left key value (k ∷ ks) =
      told_as _ _ _ _ _ _ (λ o. ((o.0.1, o.0.2), o.1)) (λ o. ((refl, o.0.0, o.0.1), o.1)) (λ t. ((t.0, t.1.0), t.1.1))
      (both _ _ _ _ _ _ _ _ (both _ _ _ _ _ _ _ _ (k.0.1 left key) (k.1.1 left value)) (pairs_told left key value ks))

  variant_told : (left : ℕ) (k : Known) (ns : List ShapeNode) (i : ℕ)
      → Tells (agrees_if_there (compare k.0) left (slice_get ns i)) (IsOfVariant (trees_of (map (tree_of_node left table) ns)) i (datum_of k.0)) (IsTyped k.0)
      (faults_of_variant (judge k.0) left (slice_get ns i))
  variant_told left k [] i = apart _ _ _ NotOfTheShape refl (λ o. o)
  variant_told left k (n ∷ ns) zero = k.1 left n
  variant_told left k (n ∷ ns) (suc i) = variant_told left k ns i

  root_told : (left : ℕ) (k : Known) (ns : List ShapeNode) (i : ℕ)
      → Tells (agrees_if_there (compare k.0) left (slice_get ns i)) (IsOf (entry_tree (followed left table) ns i) (datum_of k.0)) (IsTyped k.0)
      (faults_of_variant (judge k.0) left (slice_get ns i))
  root_told left k [] i = apart _ _ _ NotOfTheShape refl (λ o. o)
  root_told left k (n ∷ ns) zero = k.1 left n
  root_told left k (n ∷ ns) (suc i) = root_told left k ns i

  -- ---- one level

  -- an index over 255 is a fault of its own, and no datum has one
  enum_told : (i : ℕ) (agrees : Bool) (O T : Type 0) (f : List Reason) → Tells agrees O T f
      → Tells agrees ((i ≤ 255) × O) T (if nat_lt 255 i then TooManyVariants ∷ [] else f)
  enum_told i agrees O T f s =
      elim (cases_Bool (nat_lt 255 i)) [
        | inl e ↦ rw e (record {
          none = λ h o. let above : 255 < i = ltb-true 255 i e in absurd (omega (arith, above, o.0));
          cases = λ h. cc;
          is_one = λ t h. cc;
        })
        | inr e ↦ rw e (record {
          none = λ h o. s.none h o.1;
          cases = s.cases;
          is_one = λ t h. let small : i ≤ 255 = omega (arith, ltb-false 255 i e) in (small, s.is_one t h);
        })
      ]

  abbrev values_in : Value-F Known → Value-F Value
  values_in y = map-Value Known Value value_of y

  abbrev faults_in : Value-F Known → Value-F Judge
  faults_in y = map-Value Value Judge judge (values_in y)

  abbrev cases_in : Value-F Known → Value-F Comparison
  cases_in y = map-Value Value Comparison compare (values_in y)

  abbrev datum_in : Value-F Known → Datum
  datum_in y = datum_step (map-Value Value Datum datum_of (values_in y))

  abbrev IsTypedLevel : Value-F Known → Type 0
  IsTypedLevel y = IsOfItsType (values_in y) × AllByRecursion IsTyped (map value_of (parts_in y))

  -- a value of a leaf, or a node that is one
  leaf_told : (left : ℕ) (y : Value-F Known) (n : ShapeNode-F ShapeNode)
      → Tells (is_of (entry_of y) (leaf_of_node n)) (IsOf (layer_tree table left n) (datum_in y)) (IsTypedLevel y) (faults_of_leaf (is_of (entry_of y) (leaf_of_node n)))
  leaf_told left y n =
      told_if (is_of (entry_of y) (leaf_of_node n)) _ _ (λ is t.
      leaf_one (entry_of y) (leaf_of_node n) _ _ is (subst IsEntry (entry_kept value_of y) (entry_is (values_in y) t.0))
      (λ leaf h. leaf_layer (tree_of_node left table) (followed left table) n leaf h)
      (λ e h. datum_there _ e (entry_kept datum_of (values_in y) ∙ entry_kept value_of y ∙ h)))

  level : (y : Value-F Known) (left : ℕ) (n : ShapeNode-F ShapeNode)
      → Tells (agrees_by (cases_in y) left n) (IsOf (layer_tree table left n) (datum_in y)) (IsTypedLevel y) (faults_by (faults_in y) left n)
  level Value-F.Unit left ShapeNode-F.Unit = same _ _ (λ t. refl)
  level (Value-F.Bytes v) left ShapeNode-F.Bytes =
      same _ _ (λ t. (is_list (map natural v.items), are_elements (IsOf (natural_tree 1)) (map natural v.items) (each_map (IsOf (natural_tree 1)) natural v.items (all_bytes v.items t.0))))
  level (Value-F.Option None) left (ShapeNode-F.Option n) = same _ _ (λ t. (refl, (omega arith), refl))
  level (Value-F.Option (Some k)) left (ShapeNode-F.Option n) =
      told_as _ _ _ _ _ _ (λ o. o.2) (λ o. (refl, (omega arith), o)) (λ t. t.1.0) (k.value.1 left n.value)
  level (Value-F.Seq ks) left (ShapeNode-F.Seq n) =
      let ds = map datum_of (map value_of ks.items) in
      let P : Datum → Type 0 = IsOf (tree_of_node left table n.value) in
      told_as _ _ _ _ _ _ (λ o. elements_are P ds o.1) (λ o. (is_list ds, are_elements P ds o)) (λ t. t.1) (each_told left n.value ks.items)
  level (Value-F.Map ks) left (ShapeNode-F.Map key value) =
      let ds = map (λ (e : Datum × Datum). pair e.0 e.1) (map datum_pair (map values_of ks.items)) in
      let P : Datum → Type 0 = IsPair (IsOf (tree_of_node left table key.value)) (IsOf (tree_of_node left table value.value)) in
      told_as _ _ _ _ _ _ (λ o. elements_are P ds o.1) (λ o. (is_list ds, are_elements P ds o)) (λ t. t.1) (pairs_told left key.value value.value ks.items)
  level (Value-F.Tuple ks) left (ShapeNode-F.Tuple ns) =
      told_as _ _ _ _ _ _ (λ o. o.1) (λ o. (refl, o)) (λ t. t.1) (fields_told left ns.items ks.items)
  level (Value-F.Enum i k) left (ShapeNode-F.Enum ns) =
      told_as _ _ _ _ _ _ (λ o. (o.1, o.2)) (λ o. (refl, o.0, o.1)) (λ t. t.1.0) (enum_told i _ _ _ _ (variant_told left k.value ns.items i))
  level (Value-F.Option None) left n = other _ _ NotOfTheShape
  level (Value-F.Option (Some k)) left n = other _ _ NotOfTheShape
  level y left n = leaf_told left y n

  -- ---- all levels

  at_node : (f : Followed) (y : Value-F Known)
      → Tells (agrees_at (cases_in y) f) (IsOf (tree_there table f) (datum_in y)) (IsTypedLevel y) (faults_at (faults_in y) f)
  at_node (stands left n) y = level y left n
  at_node too_deep y = apart _ _ _ NestedTooDeep refl (λ o. o)
  at_node nowhere y = apart _ _ _ NotOfTheShape refl (λ o. o)

  pub told : (v : Value) → Told v
  told = ind-Value Told (λ x y is left n.
      let f = follow left table n in
      let layer : out-Value (roll-Value x) ≡ values_in y = out-roll-Value x ∙ sym is in
      let agrees : compare (roll-Value x) left n ≡ agrees_at (cases_in y) f =
      ap (λ (c : Comparison). c left n) (fold_out-Value Comparison (agrees_step table) (roll-Value x)) ∙ ap (λ z. agrees_at (map-Value Value Comparison compare z) f) layer in
      let faults : judge (roll-Value x) left n ≡ faults_at (faults_in y) f =
      faults_at-follow table (roll-Value x) left n ∙ ap (λ z. faults_at (map-Value Value Judge judge z) f) layer in
      let datum : datum_of (roll-Value x) ≡ datum_in y =
      fold_out-Value Datum datum_step (roll-Value x) ∙ ap (λ z. datum_step (map-Value Value Datum datum_of z)) layer in
      let typed : IsTyped (roll-Value x) → IsTypedLevel y = λ t. (
        subst IsOfItsType layer (every_here-Value IsOfItsType (roll-Value x) t),
        subst (AllByRecursion IsTyped) (ap parts_in layer ∙ parts_kept value_of y) (parts_typed (roll-Value x) t),
      ) in
      rw (agrees, faults, datum, tree_of_follow table left n) (told_as _ _ _ _ _ _ (λ o. o) (λ o. o) typed (at_node f y)))

-- ---- the root

pub root_tells : (shape : Shape) (v : Value) → Tells (agrees_if_there (agrees_with shape.table.items v) reference_limit (slice_get shape.table.items shape.root))
    (IsOf (tree_of shape) (datum_of v)) (IsTyped v) (value_faults shape v)
root_tells shape v =
    let table = shape.table.items in
    let is_root : tree_of shape ≡ entry_tree (followed reference_limit table) table shape.root = followed-suc reference_limit table shape.root in
    rw is_root (root_told table reference_limit (v, told table v) table shape.root)

pub faults_tell : (shape : Shape) → FaultsTell shape
faults_tell shape = record {
  cases = λ v h. (root_tells shape v).cases h;
  datum = λ v typed h. (root_tells shape v).is_one typed h;
  none = λ v cases is_one. (root_tells shape v).none cases is_one;
}
