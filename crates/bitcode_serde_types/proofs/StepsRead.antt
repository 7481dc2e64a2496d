-- What each step of a function that `scripts/second_format` writes proves: an exit of a `?`, a field, an element, a variant.
use Rattle.std.proofs.Common.{◌≡◌, ℕ, ◌+◌, ◌≤◌, ◌<◌, length, List, [], ◌∷◌, ◌++◌, map, false, refl, ap, sym, subst, ◌∙◌}
use Rattle.std.specs.Prelude.{Result, IfErr, IsErrAnd}
use Rattle.std.proofs.lemmas.Bool.{false≢true}
use Rattle.std.proofs.lemmas.Result.{err_from_is_err_and}
use Rattle.bitcode_memory.specs.declared.error.Error.{Error}
use Rattle.bitcode_memory.specs.declared.error.Reason.{Reason}
use Rattle.bitcode_memory.specs.declared.error.Reason.TheVariants.{NestedTooDeep}
use Rattle.bitcode_shapes.specs.Datum.{Datum, Data, unit, list, tuple, choice, data_of, list_of}
use Rattle.bitcode_coder.specs.Spelling.{natural}
use Rattle.bitcode_untyped.specs.Bounds.{column_free}
use Rattle.bitcode_untyped.specs.Reads.{ReadsNoDatum}
use Rattle.bitcode_untyped.specs.ShapeTree.{ShapeTree, ShapeTrees, never_tree, unit_tree, seq_tree, tuple_tree, choice_tree, no_trees, tree_and, tree_at}
use Rattle.bitcode_untyped.specs.Walk.{variant, index_kind}
use Rattle.bitcode_untyped.proofs.ReadLemmas.{never_read}
use Rattle.bitcode_serde.specs.Budget.{spend, IsLeft}
use Rattle.bitcode_serde.specs.ReadingValues.{IsSteady, Continues, Enters, EntersList, ReadsAt, ReadsFieldAt, HasNone}
use Rattle.bitcode_serde.specs.Serializing.{Outcome}
use Rattle.bitcode_serde.specs.declared.budget.Budget.{Budget}
use Rattle.bitcode_serde.specs.declared.reader.Reader.{Reader}
use Rattle.bitcode_serde.specs.declared.writer.state.Writer.{Writer}
use Rattle.bitcode_serde.proofs.ColumnLemmas.{passed_on}
use Rattle.bitcode_serde.proofs.SerializeLemmas.{one_fault}
use Rattle.bitcode_serde_types.specs.DeepFaults.{deep_faults}
use Rattle.bitcode_serde_types.specs.FieldsWritten.{tree_count}
use Rattle.bitcode_serde_types.specs.Joined.{joined}
use Rattle.bitcode_serde_types.specs.ReadingAs.{KeepsAs, ReadsAs, ReadsEachAs, ReadsFieldsAs, FieldFound}
use Rattle.bitcode_serde_types.specs.Restates.{Restates}
use Rattle.bitcode_serde_types.proofs.FieldsRead.{FieldsKept, field_kept, field_not_kept, field_kept_at, field_not_kept_at, tuple_kept}
use Rattle.bitcode_serde_types.proofs.RefusalLemmas.{seq_refused}
use Rattle.bitcode_serde_types.proofs.SomeFields.{some_kept, some_not_kept}
use Rattle.bitcode_serde_types.proofs.KeptLemmas.{no_elements, elements_more, element_refused, elements_there, list_kept, unit_kept, choice_kept, payload_refused}
-- what these functions cite of other modules
pub use Rattle.bitcode_serde.proofs.ValueLemmas.{continues_on, still_there}
use Rattle.bitcode_serde_types.specs.Refusals.{IsReasonOf, IsRefusalAt, IsFieldRefusalAt, IsFieldsRefusalAt}
pub use Rattle.bitcode_serde_types.proofs.EnteringLemmas.{columns_first, columns_behind}
pub use Rattle.bitcode_serde_types.proofs.FieldsRead.{no_fields_kept, place_there}
pub use Rattle.bitcode_serde_types.proofs.KeptLemmas.{kept_otherwise}
pub use Rattle.bitcode_serde_types.proofs.PairLemmas.{PairsKept, no_memory, no_pairs, pairs_more, keys_there, values_there, key_not_kept, value_not_kept, pairs_kept, map_kept, entries_mapped}

-- ---- an exit of a `?`

pub refused_on : {T : Type 0} (s : ShapeTree) (place : ℕ) (old : Reader) (r : Result T Error) (e : Error) → IsErrAnd r (λ y. y ≡ e) → IsRefusalAt s place old e.reason
    → IfErr r (λ y. IsRefusalAt s place old y.reason)
refused_on s place old r e was refused =
    let y = err_from_is_err_and {Q = λ y. y ≡ e} r was in passed_on (λ y. IsRefusalAt s place old y.reason) r e y.0 y.1 y.2 refused

-- ---- one reference too many

module _ {T : Type 0} (tree : ℕ → ShapeTree) (none : tree 0 ≡ never_tree) (left place : ℕ) (r : Result T Error) (e : Error) (was : IsErrAnd r (λ y. y ≡ e))
    (deep : (left ≡ 0) × (e.reason ≡ NestedTooDeep)) where
  never : tree left ≡ never_tree
  never = ap tree deep.0 ∙ none

  pub too_deep : (old : Reader) → IfErr r (λ y. IsRefusalAt (tree left) place old y.reason)
  too_deep old =
      refused_on (tree left) place old r e was
      (subst (IsReasonOf (tree left)) (sym deep.1) tt, λ other. subst (λ s. HasNone old place (ReadsNoDatum s)) (sym never) (λ p at a st. never_read p a))

  pub too_deep_written : (w : Writer) (d : Datum) → Outcome w (tree left) place d (deep_faults (tree left) d) r w
  too_deep_written w d =
      let y = err_from_is_err_and {Q = λ y. y ≡ e} r was in
      subst (λ s. Outcome w s place d (deep_faults s d) r w) (sym never)
      (one_fault w never_tree place d (deep_faults never_tree d) NestedTooDeep r y.0 w y.1 (ap (λ (z : Error). z.reason) y.2 ∙ deep.1) refl)

-- ---- fields

module _ {trees : ShapeTrees} {place : ℕ} {old : Reader} {before : Budget} {i : ℕ} {content : List Datum} where
  module _ {s : ShapeTree} {left : ShapeTrees} {mid : Reader} {between : Budget} (k : FieldsKept trees place old before i content (tree_and s left) mid between) where
    pub and_field : {A : Type 0} {datum : A → Datum} {t : A} {new : Reader} {after : Budget} → Continues mid new
        → KeepsAs (Restates s) datum (λ d. ReadsFieldAt s place i (tree_count trees) mid d new) between t after
        → FieldsKept trees place old before (i + 1) (content ++ datum t ∷ []) left new after
    and_field {datum = datum} {t = t} {new = new} {after = after} c one = field_kept trees place old before k datum t new after c one

    pub field_refused : {T : Type 0} (r : Result T Error) (e : Error) → IsErrAnd r (λ y. y ≡ e) → IsFieldRefusalAt s place i (tree_count trees) mid e.reason
        → IfErr r (λ y. IsRefusalAt (tuple_tree trees) place old y.reason)
    field_refused r e was h = refused_on (tuple_tree trees) place old r e was (field_not_kept trees place old before k e.reason h)

    module _ {below : Reader} {inside : ℕ} (f : FieldFound mid place i (tree_count trees) below inside) where
      pub and_found : {A : Type 0} {datum : A → Datum} {t : A} {new : Reader} {after : Budget} → Continues below new
          → KeepsAs (Restates s) datum (λ d. ReadsAt s inside below d new) between t after
          → FieldsKept trees place old before (i + 1) (content ++ datum t ∷ []) left new after
      and_found {datum = datum} {t = t} {new = new} {after = after} c one =
          field_kept_at trees place old before k below inside f.continues f.found f.stands datum t new after c one

      pub found_refused : {T : Type 0} (r : Result T Error) (e : Error) → IsErrAnd r (λ y. y ≡ e) → IsRefusalAt s inside below e.reason
          → IfErr r (λ y. IsRefusalAt (tuple_tree trees) place old y.reason)
      found_refused r e was h =
          refused_on (tuple_tree trees) place old r e was
          (field_not_kept_at trees place old before k below inside f.continues f.found f.stands e.reason h)

  pub all_fields_kept : {mid : Reader} {after : Budget} → FieldsKept trees place old before i content no_trees mid after → (first : Budget) → before ≡ spend 1 first
      → {B : Type 0} (datum : B → Datum) (t : B) → datum t ≡ tuple (data_of content) → ReadsAs datum (tuple_tree trees) place old first t mid after
  all_fields_kept k first taken datum t is = tuple_kept trees place old before k datum t first is taken

-- ---- several fields at once

module _ (trees : ShapeTrees) {place : ℕ} {old : Reader} {before : Budget} {i : ℕ} {content : List Datum} {mid : Reader} {between : Budget} where
  pub and_fields : {ss left : ShapeTrees} {A : Type 0} {held : A → Data} {t : A} {new : Reader} {after : Budget}
      → ReadsFieldsAs held ss place i (tree_count trees) mid between t new after → FieldsKept trees place old before i content (joined ss left) mid between
      → Continues mid new → FieldsKept trees place old before (i + tree_count ss) (content ++ list_of (held t)) left new after
  and_fields {ss = ss} {left = left} {held = held} {t = t} {new = new} {after = after} some k c = some_kept trees place old before ss left k held t new after c some

  pub fields_refused : (ss left : ShapeTrees) → FieldsKept trees place old before i content (joined ss left) mid between → {T : Type 0} (r : Result T Error) (e : Error)
      → IsErrAnd r (λ y. y ≡ e) → IsFieldsRefusalAt ss place i (tree_count trees) mid e.reason → IfErr r (λ y. IsRefusalAt (tuple_tree trees) place old y.reason)
  fields_refused ss left k r e was h = refused_on (tuple_tree trees) place old r e was (some_not_kept trees place old before ss left k e.reason h)

-- ---- elements

-- So many elements of a list were read, and are kept as far as a budget keeps them.
pub record ItemsKept {A : Type 0} (f : A → Datum) (s : ShapeTree) (place : ℕ) (old : Reader) (before : Budget) (i : ℕ) (xs : List A) (mid : Reader)
    (between : Budget) : Type 0 where
  pub continues : Continues old mid
  pub read : ReadsEachAs f s place old before i xs mid between

pub no_items : {A : Type 0} (f : A → Datum) (s : ShapeTree) (place : ℕ) (r : Reader) (b : Budget) (xs : List A) → IsSteady r → xs ≡ []
    → ItemsKept f s place r b 0 xs r b
no_items f s place r b xs steady empty =
    let h = no_elements f s place r b steady in
    subst (λ ys. ItemsKept f s place r b 0 ys r b) (sym empty) (record { continues = h.0; read = h.1 })

module _ {A : Type 0} {f : A → Datum} {s : ShapeTree} {place : ℕ} {old : Reader} {before : Budget} {i : ℕ} {xs : List A} {mid : Reader} {between : Budget}
    (k : ItemsKept f s place old before i xs mid between) where
  pub items_there : place ≤ length old.places.below.items → place ≤ length mid.places.below.items
  items_there h = elements_there f s place old mid before between i xs (k.continues, k.read) h

  pub and_item : {x : A} {new : Reader} {after : Budget} → Continues mid new → KeepsAs (Restates s) f (λ d. ReadsAt s place mid d new) between x after → (ys : List A)
      → (IsLeft after → ys ≡ xs ++ x ∷ []) → ItemsKept f s place old before (i + 1) ys new after
  and_item {x = x} {new = new} {after = after} c one ys pushed =
      let h = elements_more f s place old mid before between i xs (k.continues, k.read) new after ys x c one pushed in
      record { continues = h.0; read = h.1 }

  module _ {outer : Reader} {at n : ℕ} (enters : EntersList outer old at place n) where
    pub item_not_kept : i < n → (why : Reason) → IsRefusalAt s place mid why → IsRefusalAt (seq_tree s) at outer why
    item_not_kept lt why h =
        seq_refused s outer old at place n why enters (element_refused f s place old mid before between i xs (k.continues, k.read) n why lt h)

    pub item_refused : i < n → {T : Type 0} (r : Result T Error) (e : Error) → IsErrAnd r (λ y. y ≡ e) → IsRefusalAt s place mid e.reason
        → IfErr r (λ y. IsRefusalAt (seq_tree s) at outer y.reason)
    item_refused lt r e was h = refused_on (seq_tree s) at outer r e was (item_not_kept lt e.reason h)

    pub items_kept : i ≡ n → false ≡ column_free s → (first : Budget) → before ≡ spend 1 first → {B : Type 0} (g : B → Datum) (b : B)
        → g b ≡ list (data_of (map f xs)) → ReadsAs g (seq_tree s) at outer first b mid between
    items_kept all columns first taken g b is =
        list_kept f g s outer old mid at place n first before between xs b is taken enters
        (λ free. absurd (false≢true (columns ∙ free)))
        (subst (λ m. ReadsEachAs f s place old before m xs mid between) all k.read)

-- ---- a list among fields

module _ {trees : ShapeTrees} {place : ℕ} {old : Reader} {before : Budget} {j : ℕ} {content : List Datum} {s : ShapeTree} {left : ShapeTrees} {mid : Reader}
    {between : Budget} (k : FieldsKept trees place old before j content (tree_and (seq_tree s) left) mid between) {below : Reader} {inside : ℕ}
    (found : FieldFound mid place j (tree_count trees) below inside) {A : Type 0} {f : A → Datum} {inner : ℕ} {start : Reader} {spent : Budget} {i : ℕ} {xs : List A}
    {now : Reader} {rest : Budget} (items : ItemsKept f s inner start spent i xs now rest) {n : ℕ} (enters : EntersList below start inside inner n) where
  pub item_stuck : i < n → {T : Type 0} (r : Result T Error) (e : Error) → IsErrAnd r (λ y. y ≡ e) → IsRefusalAt s inner now e.reason
      → IfErr r (λ y. IsRefusalAt (tuple_tree trees) place old y.reason)
  item_stuck lt r e was h = found_refused k found r e was (item_not_kept items enters lt e.reason h)

  pub and_list : Continues below start → i ≡ n → false ≡ column_free s → spent ≡ spend 1 between → {B : Type 0} (g : B → Datum) (b : B)
      → g b ≡ list (data_of (map f xs)) → FieldsKept trees place old before (j + 1) (content ++ g b ∷ []) left now rest
  and_list c all columns taken g b is =
      and_found k found (continues_on below start now c items.continues) (items_kept items enters all columns between taken g b is)

-- ---- variants

module _ (ss : ShapeTrees) (j : ℕ) {i : ℕ} {old mid : Reader} {place inside : ℕ} (enters : Enters (variant i) index_kind (natural i) old mid place inside)
    (this : i ≡ j) where
  pub variant_refused : {T : Type 0} (r : Result T Error) (e : Error) → IsErrAnd r (λ y. y ≡ e) → IsRefusalAt (tree_at ss j) inside mid e.reason
      → IfErr r (λ y. IsRefusalAt (choice_tree ss) place old y.reason)
  variant_refused r e was h =
      refused_on (choice_tree ss) place old r e was (payload_refused ss i j (tree_at ss j) old mid place inside e.reason enters this refl h)

  pub variant_kept : (before : Budget) {between : Budget} → between ≡ spend 1 before → {A : Type 0} {f : A → Datum} {a : A} {new : Reader} {after : Budget}
      → KeepsAs (Restates (tree_at ss j)) f (λ d. ReadsAt (tree_at ss j) inside mid d new) between a after → {B : Type 0} (g : B → Datum) (b : B)
      → g b ≡ choice j (f a) → ReadsAs g (choice_tree ss) place old before b new after
  variant_kept before {between = between} taken {f = f} {a = a} {new = new} {after = after} k g b is =
      choice_kept f g ss i j (tree_at ss j) old mid place inside enters this refl new before between after a b is taken k

  pub unit_variant_kept : tree_at ss j ≡ unit_tree → (before : Budget) {between : Budget} → between ≡ spend 1 before → {after : Budget} → after ≡ spend 1 between
      → {B : Type 0} (g : B → Datum) (b : B) → g b ≡ choice j unit → ReadsAs g (choice_tree ss) place old before b mid after
  unit_variant_kept at before {between = between} taken {after = after} again g b is =
      choice_kept (λ (d : Datum). d) g ss i j unit_tree old mid place inside enters this at mid before between after unit b is taken
      (unit_kept (λ (d : Datum). d) inside mid between after unit refl again)
