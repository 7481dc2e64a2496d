-- The shape and the datum decide what a value holds, and its cases.
use Rattle.std.proofs.Common.{◌≡◌, ℕ, ◌+◌, ◌≤◌, List, [], ◌∷◌, ◌++◌, map, Option, Some, None, slice_get, inl, inr, nat_lt, if◌then◌else◌, refl, sym, ap, subst, ◌∙◌, arith}
use Rattle.std.specs.List.{flat_map}
use Rattle.std.proofs.lemmas.Bool.{cases_Bool}
use Rattle.bitcode_memory.specs.declared.error.Reason.{Reason}
use Rattle.bitcode_memory.specs.declared.error.Reason.TheVariants.{TooManyVariants, NotOfTheShape}
use Rattle.bitcode_shapes.specs.Datum.{Datum, list, tuple, choice, pair, data_of, list_of, elements_in, fields_in, first_in, second_in, variant_in, payload_in}
use Rattle.bitcode_untyped.specs.Content.{number_of_entry, case_number, content_step, content_of, DatumDecides}
use Rattle.bitcode_untyped.specs.Faults.{Followed, stands, too_deep, nowhere, follow, Judge, faults_of, faults_at, faults_by, faults_of_fields, faults_of_leaf, faults_of_variant}
use Rattle.bitcode_untyped.specs.Leaves.{Leaf, Entry, leaf_of_node, entry_of, is_of, leaf_number}
use Rattle.bitcode_untyped.specs.View.{datum_of, datum_step, reference_limit}
use Rattle.bitcode_untyped.specs.declared.shape.Shape.{Shape}
use Rattle.bitcode_untyped.specs.declared.shape.ShapeNode.{ShapeNode}
use Rattle.bitcode_untyped.specs.declared.shape.ShapeNode.TheOpen.{ShapeNode-F}
use Rattle.bitcode_untyped.specs.declared.value.Value.{Value, out-Value}
use Rattle.bitcode_untyped.specs.declared.value.Value.TheOpen.{Value-F}
use Rattle.bitcode_untyped.specs.declared.value.Value.TheViews.{roll-Value, out-roll-Value}
use Rattle.bitcode_untyped.specs.declared.value.Value.TheFolds.{fold_out-Value, map-Value, ind-Value}
use Rattle.bitcode_untyped.proofs.FaultLemmas.{faults_at-follow}
use Rattle.bitcode_untyped.proofs.LeafLemmas.{is_leaf, entry_kept, datum_there}
use Rattle.bitcode_untyped.proofs.ReadLemmas.{list_of-data_of}

-- ---- no faults

pub no_first : {A : Type 0} (xs ys : List A) → xs ++ ys ≡ [] → xs ≡ []
no_first [] ys h = refl
no_first (x ∷ xs) ys h = cc

pub no_last : {A : Type 0} (xs ys : List A) → xs ++ ys ≡ [] → ys ≡ []
no_last [] ys h = h
no_last (x ∷ xs) ys h = cc

-- ---- the case of a node

abbrev case_of_leaf : Option Leaf → ℕ
case_of_leaf (Some leaf) = 7 + leaf_number leaf
case_of_leaf None = 0

abbrev case_of_node : ShapeNode-F ShapeNode → ℕ
case_of_node ShapeNode-F.Unit = 0
case_of_node ShapeNode-F.Bytes = 1
case_of_node (ShapeNode-F.Option n) = 2
case_of_node (ShapeNode-F.Seq n) = 3
case_of_node (ShapeNode-F.Map k n) = 4
case_of_node (ShapeNode-F.Tuple ns) = 5
case_of_node (ShapeNode-F.Enum ns) = 6
case_of_node (ShapeNode-F.Ref i) = 7
case_of_node node = case_of_leaf (leaf_of_node node)

leaf_case : (e : Entry) (l : Option Leaf) → faults_of_leaf (is_of (Some e) l) ≡ [] → number_of_entry (Some e) ≡ case_of_leaf l
leaf_case e None h = cc
leaf_case e (Some leaf) h =
    elim (cases_Bool (is_of (Some e) (Some leaf))) [
      | inl same ↦ ap (λ l. 7 + leaf_number l) (is_leaf e leaf same)
      | inr other ↦ let bad : NotOfTheShape ∷ [] ≡ [] = (rw other at h) in cc
    ]

-- of a value of a leaf
entry_case : (o : Option Entry) (n : ShapeNode-F ShapeNode) → faults_of_leaf (is_of o (leaf_of_node n)) ≡ [] → number_of_entry o ≡ case_of_node n
entry_case None n h = cc
entry_case (Some e) ShapeNode-F.Unit h = cc
entry_case (Some e) ShapeNode-F.Bytes h = cc
entry_case (Some e) (ShapeNode-F.Option n) h = cc
entry_case (Some e) (ShapeNode-F.Seq n) h = cc
entry_case (Some e) (ShapeNode-F.Map k n) h = cc
entry_case (Some e) (ShapeNode-F.Tuple ns) h = cc
entry_case (Some e) (ShapeNode-F.Enum ns) h = cc
entry_case (Some e) (ShapeNode-F.Ref i) h = cc
entry_case (Some e) n h = leaf_case e (leaf_of_node n) h

same_case : (z : Value-F Judge) (left : ℕ) (n : ShapeNode-F ShapeNode) → faults_by z left n ≡ [] → case_number z ≡ case_of_node n
same_case Value-F.Unit left ShapeNode-F.Unit h = refl
same_case (Value-F.Bytes v) left ShapeNode-F.Bytes h = refl
same_case (Value-F.Option None) left (ShapeNode-F.Option n) h = refl
same_case (Value-F.Option (Some j)) left (ShapeNode-F.Option n) h = refl
same_case (Value-F.Seq v) left (ShapeNode-F.Seq n) h = refl
same_case (Value-F.Map v) left (ShapeNode-F.Map k n) h = refl
same_case (Value-F.Tuple v) left (ShapeNode-F.Tuple ns) h = refl
same_case (Value-F.Enum i j) left (ShapeNode-F.Enum ns) h = refl
same_case (Value-F.Option None) left n h = cc
same_case (Value-F.Option (Some j)) left n h = cc
same_case Value-F.Unit left n h = cc
same_case (Value-F.Bytes v) left n h = cc
same_case (Value-F.Seq v) left n h = cc
same_case (Value-F.Map v) left n h = cc
same_case (Value-F.Tuple v) left n h = cc
same_case (Value-F.Enum i j) left n h = cc
same_case z left n h = entry_case (entry_of z) n h

pub case_kept : {A B : Type 0} (f : A → B) (y : Value-F A) → case_number (map-Value A B f y) ≡ case_number y
case_kept f (Value-F.Option None) = refl
case_kept f (Value-F.Option (Some b)) = refl
case_kept f _ = refl

entry_by_number : (z : Value-F Value) → 7 ≤ case_number z → (e : Entry) × (entry_of z ≡ Some e)
entry_by_number Value-F.Unit h = absurd (omega (arith, h))
entry_by_number (Value-F.Bytes v) h = absurd (omega (arith, h))
entry_by_number (Value-F.Option None) h = absurd (omega (arith, h))
entry_by_number (Value-F.Option (Some b)) h = absurd (omega (arith, h))
entry_by_number (Value-F.Seq v) h = absurd (omega (arith, h))
entry_by_number (Value-F.Map v) h = absurd (omega (arith, h))
entry_by_number (Value-F.Tuple v) h = absurd (omega (arith, h))
entry_by_number (Value-F.Enum i b) h = absurd (omega (arith, h))
entry_by_number _ h = (_, refl)

-- ---- what is known of the parts

module _ (table : List ShapeNode) where
  -- the content of the value is that of any other with its datum, at any node
  abbrev Decided : Value → Type 0
  Decided v = (w : Value) (left : ℕ) (n : ShapeNode) → faults_of table v left n ≡ [] → faults_of table w left n ≡ [] → datum_of v ≡ datum_of w
      → content_of v ≡ content_of w

  abbrev Known : Type 0
  Known = (v : Value) × Decided v

  abbrev value_of : Known → Value
  value_of e = e.0

  abbrev judge : Value → Judge
  judge = faults_of table

  -- one after another
  each_decided : (left : ℕ) (n : ShapeNode) (ks : List Known) (ws : List Value)
      → flat_map (λ (j : Judge). j left n) (map judge (map value_of ks)) ≡ [] → flat_map (λ (j : Judge). j left n) (map judge ws) ≡ []
      → map datum_of (map value_of ks) ≡ map datum_of ws → map content_of (map value_of ks) ≡ map content_of ws
  each_decided left n [] [] h k d = refl
  each_decided left n [] (w ∷ ws) h k d = cc
  each_decided left n (v ∷ ks) [] h k d = cc
  each_decided left n (v ∷ ks) (w ∷ ws) h k d =
      let first : datum_of v.0 ≡ datum_of w = cc in
      let others : map datum_of (map value_of ks) ≡ map datum_of ws = cc in
      let one = v.1 w left n (no_first (judge v.0 left n) _ h) (no_first (judge w left n) _ k) first in
      let more = each_decided left n ks ws (no_last (judge v.0 left n) _ h) (no_last (judge w left n) _ k) others in
      ap (λ x. x ∷ map content_of (map value_of ks)) one ∙ ap (λ xs. content_of w ∷ xs) more

  fields_decided : (left : ℕ) (ns : List ShapeNode) (ks : List Known) (ws : List Value)
      → faults_of_fields (map judge (map value_of ks)) left ns ≡ [] → faults_of_fields (map judge ws) left ns ≡ []
      → map datum_of (map value_of ks) ≡ map datum_of ws → map content_of (map value_of ks) ≡ map content_of ws
  fields_decided left ns [] [] h k d = refl
  fields_decided left ns [] (w ∷ ws) h k d = cc
  fields_decided left ns (v ∷ ks) [] h k d = cc
  fields_decided left [] (v ∷ ks) (w ∷ ws) h k d = cc
  fields_decided left (n ∷ ns) (v ∷ ks) (w ∷ ws) h k d =
      let first : datum_of v.0 ≡ datum_of w = cc in
      let others : map datum_of (map value_of ks) ≡ map datum_of ws = cc in
      let one = v.1 w left n (no_first (judge v.0 left n) _ h) (no_first (judge w left n) _ k) first in
      let more = fields_decided left ns ks ws (no_last (judge v.0 left n) _ h) (no_last (judge w left n) _ k) others in
      ap (λ x. x ∷ map content_of (map value_of ks)) one ∙ ap (λ xs. content_of w ∷ xs) more

  abbrev faults_of_pair : ℕ → ShapeNode → ShapeNode → Judge × Judge → List Reason
  faults_of_pair left key value j = j.0 left key ++ j.1 left value

  abbrev values_of : Known × Known → Value × Value
  values_of e = (value_of e.0, value_of e.1)

  abbrev judge_pair : Value × Value → Judge × Judge
  judge_pair e = (judge e.0, judge e.1)

  abbrev datum_pair : Value × Value → Datum × Datum
  datum_pair e = (datum_of e.0, datum_of e.1)

  abbrev content_pair : Value × Value → Datum × Datum
  content_pair e = (content_of e.0, content_of e.1)

  abbrev pair_of : Datum × Datum → Datum
  pair_of e = pair e.0 e.1

  pairs_decided : (left : ℕ) (key value : ShapeNode) (ks : List (Known × Known)) (ws : List (Value × Value))
      → flat_map (faults_of_pair left key value) (map judge_pair (map values_of ks)) ≡ []
      → flat_map (faults_of_pair left key value) (map judge_pair ws) ≡ []
      → map pair_of (map datum_pair (map values_of ks)) ≡ map pair_of (map datum_pair ws)
      → map pair_of (map content_pair (map values_of ks)) ≡ map pair_of (map content_pair ws)
  pairs_decided left key value [] [] h k d = refl
  pairs_decided left key value [] (w ∷ ws) h k d = cc
  pairs_decided left key value (v ∷ ks) [] h k d = cc
  pairs_decided left key value (v ∷ ks) (w ∷ ws) h k d =
      let both : pair (datum_of v.0.0) (datum_of v.1.0) ≡ pair (datum_of w.0) (datum_of w.1) = cc in
      let others : map pair_of (map datum_pair (map values_of ks)) ≡ map pair_of (map datum_pair ws) = cc in
      let here = no_first (judge v.0.0 left key ++ judge v.1.0 left value) _ h in
      let there = no_first (judge w.0 left key ++ judge w.1 left value) _ k in
      let one = v.0.1 w.0 left key (no_first (judge v.0.0 left key) _ here) (no_first (judge w.0 left key) _ there) (ap first_in both) in
      let two = v.1.1 w.1 left value (no_last (judge v.0.0 left key) _ here) (no_last (judge w.0 left key) _ there) (ap second_in both) in
      let more = pairs_decided left key value ks ws (no_last (judge v.0.0 left key ++ judge v.1.0 left value) _ h) (no_last (judge w.0 left key ++ judge w.1 left value) _ k) others in
      ap (λ x. pair x (content_of v.1.0) ∷ map pair_of (map content_pair (map values_of ks))) one
      ∙ ap (λ x. pair (content_of w.0) x ∷ map pair_of (map content_pair (map values_of ks))) two
      ∙ ap (λ xs. pair (content_of w.0) (content_of w.1) ∷ xs) more

  -- ---- one level

  abbrev known_faults : Value-F Known → Value-F Judge
  known_faults y = map-Value Value Judge judge (map-Value Known Value value_of y)

  abbrev known_datum : Value-F Known → Datum
  known_datum y = datum_step (map-Value Value Datum datum_of (map-Value Known Value value_of y))

  abbrev known_content : Value-F Known → Datum
  known_content y = datum_step (map-Value Value Datum content_of (map-Value Known Value value_of y))

  abbrev plain_faults : Value-F Value → Value-F Judge
  plain_faults z = map-Value Value Judge judge z

  abbrev plain_datum : Value-F Value → Datum
  plain_datum z = datum_step (map-Value Value Datum datum_of z)

  abbrev plain_content : Value-F Value → Datum
  plain_content z = datum_step (map-Value Value Datum content_of z)

  variant_decided : (left : ℕ) (v : Known) (w : Value) (o : Option ShapeNode) → faults_of_variant (judge v.0) left o ≡ []
      → faults_of_variant (judge w) left o ≡ [] → datum_of v.0 ≡ datum_of w → content_of v.0 ≡ content_of w
  variant_decided left v w None h k d = cc
  variant_decided left v w (Some n) h k d = v.1 w left n h k d

  enum_decided : (i left : ℕ) (v : Known) (w : Value) (o : Option ShapeNode)
      → (if nat_lt 255 i then TooManyVariants ∷ [] else faults_of_variant (judge v.0) left o) ≡ []
      → (if nat_lt 255 i then TooManyVariants ∷ [] else faults_of_variant (judge w) left o) ≡ []
      → datum_of v.0 ≡ datum_of w → content_of v.0 ≡ content_of w
  enum_decided i left v w o h k d =
      elim (cases_Bool (nat_lt 255 i)) [
        | inl e ↦ let bad : TooManyVariants ∷ [] ≡ [] = (rw e at h) in cc
        | inr e ↦ variant_decided left v w o (rw e at h) (rw e at k) d
      ]

  -- a value of a leaf has its datum as content
  leaf_level : (y : Value-F Known) (z : Value-F Value) (e : Entry) → entry_of y ≡ Some e → case_number y ≡ case_number z → 7 ≤ case_number y
      → known_datum y ≡ plain_datum z → known_content y ≡ plain_content z
  leaf_level y z e there same leaf d =
      let other = entry_by_number z (subst (λ n. 7 ≤ n) same leaf) in
      datum_there _ e (entry_kept content_of (map-Value Known Value value_of y) ∙ entry_kept value_of y ∙ there)
      ∙ sym (datum_there _ e (entry_kept datum_of (map-Value Known Value value_of y) ∙ entry_kept value_of y ∙ there)) ∙ d
      ∙ datum_there _ other.0 (entry_kept datum_of z ∙ other.1) ∙ sym (datum_there _ other.0 (entry_kept content_of z ∙ other.1))

  level : (y : Value-F Known) (z : Value-F Value) (left : ℕ) (n : ShapeNode-F ShapeNode) → faults_by (known_faults y) left n ≡ []
      → faults_by (plain_faults z) left n ≡ [] → case_number y ≡ case_number z → known_datum y ≡ plain_datum z → known_content y ≡ plain_content z
  level Value-F.Unit Value-F.Unit left node h k e d = d
  level (Value-F.Bytes v) (Value-F.Bytes v1) left node h k e d = d
  level (Value-F.Option None) (Value-F.Option None) left n h k e d = refl
  level (Value-F.Option None) (Value-F.Option (Some w)) left n h k e d = let bad : 0 ≡ 1 = ap variant_in d in cc
  level (Value-F.Option (Some v)) (Value-F.Option None) left n h k e d = let bad : 1 ≡ 0 = ap variant_in d in cc
  level (Value-F.Option (Some v)) (Value-F.Option (Some w)) left (ShapeNode-F.Option n) h k e d =
      ap (choice 1) (v.value.1 w.value left n.value h k (ap payload_in d))
  level (Value-F.Option (Some v)) (Value-F.Option (Some w)) left n h k e d = cc
  level (Value-F.Seq v) (Value-F.Seq w) left (ShapeNode-F.Seq n) h k e d =
      ap (λ ds. list (data_of ds)) (each_decided left n.value v.items w.items h k
      (sym (list_of-data_of _) ∙ ap elements_in d ∙ list_of-data_of _))
  level (Value-F.Seq v) (Value-F.Seq w) left n h k e d = cc
  level (Value-F.Map v) (Value-F.Map w) left (ShapeNode-F.Map key value) h k e d =
      ap (λ ds. list (data_of ds)) (pairs_decided left key.value value.value v.items w.items h k
      (sym (list_of-data_of _) ∙ ap elements_in d ∙ list_of-data_of _))
  level (Value-F.Map v) (Value-F.Map w) left n h k e d = cc
  level (Value-F.Tuple v) (Value-F.Tuple w) left (ShapeNode-F.Tuple ns) h k e d =
      ap (λ ds. tuple (data_of ds)) (fields_decided left ns.items v.items w.items h k
      (sym (list_of-data_of _) ∙ ap (λ x. list_of (fields_in x)) d ∙ list_of-data_of _))
  level (Value-F.Tuple v) (Value-F.Tuple w) left n h k e d = cc
  level (Value-F.Enum i v) (Value-F.Enum j w) left (ShapeNode-F.Enum ns) h k e d =
      let same : i ≡ j = ap variant_in d in
      let inside = subst (λ m. (if nat_lt 255 m then TooManyVariants ∷ [] else faults_of_variant (judge w.value) left (slice_get ns.items m)) ≡ []) (sym same) k in
      ap (λ m. choice m (content_of v.value.0)) same
      ∙ ap (choice j) (enum_decided i left v.value w.value (slice_get ns.items i) h inside (ap payload_in d))
  level (Value-F.Enum i v) (Value-F.Enum j w) left n h k e d = cc
  level Value-F.Unit z left n h k e d = cc
  level (Value-F.Bytes v) z left n h k e d = cc
  level (Value-F.Option None) z left n h k e d = cc
  level (Value-F.Option (Some v)) z left n h k e d = cc
  level (Value-F.Seq v) z left n h k e d = cc
  level (Value-F.Map v) z left n h k e d = cc
  level (Value-F.Tuple v) z left n h k e d = cc
  level (Value-F.Enum i v) z left n h k e d = cc
  level y z left n h k e d = leaf_level y z _ refl e (omega arith) d

  -- ---- all levels

  at_node : (f : Followed) (y : Value-F Known) (z : Value-F Value) → faults_at (known_faults y) f ≡ [] → faults_at (plain_faults z) f ≡ []
      → known_datum y ≡ plain_datum z → choice (case_number y) (known_content y) ≡ choice (case_number z) (plain_content z)
  at_node too_deep y z h k d = cc
  at_node nowhere y z h k d = cc
  at_node (stands left n) y z h k d =
      let case_y : case_number (known_faults y) ≡ case_number y = case_kept judge (map-Value Known Value value_of y) ∙ case_kept value_of y in
      let case_z : case_number (plain_faults z) ≡ case_number z = case_kept judge z in
      let same : case_number y ≡ case_number z =
      sym case_y ∙ same_case (known_faults y) left n h ∙ sym (same_case (plain_faults z) left n k) ∙ case_z in
      ap (λ i. choice i (known_content y)) same ∙ ap (choice (case_number z)) (level y z left n h k same d)

  decided : (v : Value) → Decided v
  decided = ind-Value Decided (λ x y is. λ w left n h k d.
      let layer : out-Value (roll-Value x) ≡ map-Value Known Value value_of y = out-roll-Value x ∙ sym is in
      let faults : faults_at (known_faults y) (follow left table n) ≡ [] =
      subst (λ z. faults_at (map-Value Value Judge judge z) (follow left table n) ≡ []) layer (sym (faults_at-follow table (roll-Value x) left n) ∙ h) in
      let others : faults_at (plain_faults (out-Value w)) (follow left table n) ≡ [] = sym (faults_at-follow table w left n) ∙ k in
      let datum : datum_of (roll-Value x) ≡ known_datum y =
      fold_out-Value Datum datum_step (roll-Value x) ∙ ap (λ z. datum_step (map-Value Value Datum datum_of z)) layer in
      let content : content_of (roll-Value x) ≡ choice (case_number y) (known_content y) =
      fold_out-Value Datum content_step (roll-Value x) ∙ ap (λ z. content_step (map-Value Value Datum content_of z)) layer
      ∙ ap (λ i. choice i (known_content y)) (case_kept content_of (map-Value Known Value value_of y) ∙ case_kept value_of y) in
      let other : content_of w ≡ choice (case_number (out-Value w)) (plain_content (out-Value w)) =
      fold_out-Value Datum content_step w ∙ ap (λ i. choice i (plain_content (out-Value w))) (case_kept content_of (out-Value w)) in
      content ∙ at_node (follow left table n) y (out-Value w) faults others (sym datum ∙ d ∙ fold_out-Value Datum datum_step w) ∙ sym other)

pub datum_decides : (shape : Shape) → DatumDecides shape
datum_decides shape v w h k d =
    variant_decided shape.table.items reference_limit (v, decided shape.table.items v) w (slice_get shape.table.items shape.root) h k d
