-- What holds of each kind of column holds of each shape.
use Rattle.std.proofs.Common.{◌≡◌, ℕ, zero, suc, ◌+◌, ◌*◌, ◌≤◌, ◌<◌, Bool, Option, None, List, [], ◌++◌, length, map, replicate, All, refl, sym, ◌∙◌, ap, ap₂, subst, ⊎_elim, eq-or-lt_of_le, append_assoc, arith, length-append}
use Rattle.std.proofs.lemmas.List.Elements.{All-map, All-weaker}
use Rattle.bitcode_columns.specs.Laws.{IsReadOnce}
use Rattle.bitcode_shapes.specs.Datum.{Datum, unit, elements_in, first_in, second_in, variant_in}
use Rattle.bitcode_shapes.specs.Shape.{Shape, Shapes, unit_shape, never_shape, bool_shape, number_shape, float_shape, text_shape, raw_shape, seq_shape, map_shape, array_shape, pair_shape, choice_shape, admitted_shape, no_shapes, shape_and, IsOf, IsOfVariant, IsSound, AreSound, IsWithin, IsListOf, IsPairOf, IsChoiceOf, IsNumberOf, any_number, variant_count}
use Rattle.bitcode_coder.specs.Columns.{Kind, Columns, bools, ints, floats, lengths, texts, raws, variants, no_columns, one, two, arrays, emptied, CountsFit, IsSoundKind, IsEntryOf, entry_count}
use Rattle.bitcode_coder.specs.Transposition.{columns_of, payload_columns, array_columns, joined, payloads, length_entry, variant_entry}
use Rattle.bitcode_coder.specs.Spelling.{Spells, SpellsColumns, columns_bytes, LengthsBelowLimit}
use Rattle.bitcode_coder.proofs.ColumnLemmas.{SpellsColumn-unambiguous, SpellsColumn-nothing, SpellsColumn-size_bound, column_bytes-spells}
use Rattle.bitcode_coder.proofs.TranspositionLemmas.{columns_of-none}
use Rattle.bitcode_coder.proofs.DatumLemmas.{All-replicated, length-mapped, none_never, elements_count, joined_each, same_lists, length-joined, same_array_lengths, firsts_each, seconds_each, same_pairs, IsPayloadFrom, payloads_from_0, variant_below, first_payloads, later_payloads, length-payloads, same_choices}

-- ---- one reading

-- two pieces of one input, each in two parts
regroup : (p f b q g c rest left : List ℕ) → p ≡ f ++ b → q ≡ g ++ c → p ++ rest ≡ q ++ left → f ++ (b ++ rest) ≡ g ++ (c ++ left)
regroup p f b q g c rest left u v h = sym (append_assoc f b rest) ∙ ap (λ l. l ++ rest) (sym u) ∙ h ∙ ap (λ l. l ++ left) v ∙ append_assoc g c left

nothing_once : (piece other rest left : List ℕ) → piece ≡ [] → other ≡ [] → piece ++ rest ≡ other ++ left → rest ≡ left
nothing_once piece other rest left p q h = ap (λ l. l ++ rest) (sym p) ∙ h ∙ ap (λ l. l ++ left) q

elements_spelled : (size count : ℕ) (a : Columns) (piece : List ℕ) → SpellsColumns (array_columns size count a) piece → SpellsColumns a piece
elements_spelled zero count a piece s = s
elements_spelled (suc size) count a piece s = s

-- the columns of two lists of data stand at the front of one input
record Fronts (a b : Columns) (rest left : List ℕ) : Type 0 where
  piece : List ℕ
  other : List ℕ
  spelled : SpellsColumns a piece
  also : SpellsColumns b other
  same : piece ++ rest ≡ other ++ left

column_once : (kind : Kind) (ds es : List Datum) (rest left : List ℕ) → length ds ≡ length es → Fronts (one kind ds) (one kind es) rest left
    → (ds ≡ es) × (rest ≡ left)
column_once kind ds es rest left n f = (SpellsColumn-unambiguous kind).unambiguous f.piece f.other ds es rest left f.spelled f.also n f.same

-- the front of the input goes to the first part, and the rest to the second
in_turn : {a b c d : Columns} {rest left : List ℕ} (Known : Type 0) (f : Fronts (two a b) (two c d) rest left)
    → ((more behind : List ℕ) → Fronts a c more behind → Known × (more ≡ behind)) → Known × Fronts b d rest left
in_turn {a} {b} {c} {d} {rest} {left} Known f known =
    let first : Known × (f.spelled.back ++ rest ≡ f.also.back ++ left) =
    known (f.spelled.back ++ rest) (f.also.back ++ left)
    (record {
      piece = f.spelled.front;
      other = f.also.front;
      spelled = f.spelled.first;
      also = f.also.first;
      same = regroup f.piece f.spelled.front f.spelled.back f.other f.also.front f.also.back rest left f.spelled.whole f.also.whole f.same;
    }) in
    (first.0, record { piece = f.spelled.back; other = f.also.back; spelled = f.spelled.second; also = f.also.second; same = first.1 })

elements_fronts : (size m n : ℕ) (a b : Columns) (rest left : List ℕ) → Fronts (array_columns size m a) (array_columns size n b) rest left → Fronts a b rest left
elements_fronts size m n a b rest left f = record {
  piece = f.piece;
  other = f.other;
  spelled = elements_spelled size m a f.piece f.spelled;
  also = elements_spelled size n b f.other f.also;
  same = f.same;
}

entries_once : (kind : Kind) (g : Datum → Datum) (ds es : List Datum) (rest left : List ℕ) → length ds ≡ length es
    → Fronts (one kind (map g ds)) (one kind (map g es)) rest left → (map g ds ≡ map g es) × (rest ≡ left)
entries_once kind g ds es rest left n f = column_once kind (map g ds) (map g es) rest left (length-mapped g ds es n) f

-- what a check admits is of the shape
pub admitted_each : (admits : Datum → Bool) (shape : Shape) (ds : List Datum) → All (IsOf (admitted_shape admits shape)) ds → All (IsOf shape) ds
admitted_each admits shape ds h = All-weaker (IsOf (admitted_shape admits shape)) (IsOf shape) (λ d is. is.0) ds h

mutual
  data_once : (shape : Shape) (ds es : List Datum) (rest left : List ℕ) → All (IsOf shape) ds → All (IsOf shape) es → length ds ≡ length es
      → Fronts (columns_of shape ds) (columns_of shape es) rest left → (ds ≡ es) × (rest ≡ left)
  data_once unit_shape ds es rest left h i n f =
      let a : ds ≡ replicate (length ds) unit = All-replicated unit ds h in
      let b : es ≡ replicate (length es) unit = All-replicated unit es i in
      (cc, nothing_once f.piece f.other rest left f.spelled f.also f.same)
  data_once never_shape ds es rest left h i n f =
      (none_never ds h ∙ sym (none_never es i), nothing_once f.piece f.other rest left f.spelled f.also f.same)
  data_once bool_shape ds es rest left h i n f = column_once bools ds es rest left n f
  data_once (number_shape width signed allowed) ds es rest left h i n f = column_once (ints width signed) ds es rest left n f
  data_once (float_shape format) ds es rest left h i n f = column_once (floats format) ds es rest left n f
  data_once (text_shape limit) ds es rest left h i n f = column_once (texts limit) ds es rest left n f
  data_once raw_shape ds es rest left h i n f = column_once raws ds es rest left n f
  data_once (seq_shape limit element) ds es rest left h i n f =
      let a : (map length_entry ds ≡ map length_entry es) × Fronts (columns_of element (joined ds)) (columns_of element (joined es)) rest left =
      in_turn (map length_entry ds ≡ map length_entry es) f (λ r l g. entries_once (lengths limit) length_entry ds es r l n g) in
      let b : (joined ds ≡ joined es) × (rest ≡ left) =
      data_once element (joined ds) (joined es) rest left (joined_each (IsOf element) (IsWithin limit) ds h)
      (joined_each (IsOf element) (IsWithin limit) es i) (length-joined ds es a.0) a.1 in
      (same_lists (IsOf element) (IsWithin limit) ds es h i a.0 b.0, b.1)
  data_once (map_shape key value) ds es rest left h i n f =
      let a : (map length_entry ds ≡ map length_entry es)
      × Fronts (two (columns_of key (map first_in (joined ds))) (columns_of value (map second_in (joined ds))))
      (two (columns_of key (map first_in (joined es))) (columns_of value (map second_in (joined es)))) rest left =
      in_turn (map length_entry ds ≡ map length_entry es) f (λ r l g. entries_once (lengths None) length_entry ds es r l n g) in
      let p : All (IsPairOf (IsOf key) (IsOf value)) (joined ds) = joined_each (IsPairOf (IsOf key) (IsOf value)) (λ _. Unit {0}) ds h in
      let q : All (IsPairOf (IsOf key) (IsOf value)) (joined es) = joined_each (IsPairOf (IsOf key) (IsOf value)) (λ _. Unit {0}) es i in
      let m : length (joined ds) ≡ length (joined es) = length-joined ds es a.0 in
      let b : (map first_in (joined ds) ≡ map first_in (joined es))
      × Fronts (columns_of value (map second_in (joined ds))) (columns_of value (map second_in (joined es))) rest left =
      in_turn (map first_in (joined ds) ≡ map first_in (joined es)) a.1
      (λ r l g.
      data_once key (map first_in (joined ds)) (map first_in (joined es)) r l (firsts_each (IsOf key) (IsOf value) (joined ds) p)
      (firsts_each (IsOf key) (IsOf value) (joined es) q) (length-mapped first_in (joined ds) (joined es) m) g) in
      let c : (map second_in (joined ds) ≡ map second_in (joined es)) × (rest ≡ left) =
      data_once value (map second_in (joined ds)) (map second_in (joined es)) rest left (seconds_each (IsOf key) (IsOf value) (joined ds) p)
      (seconds_each (IsOf key) (IsOf value) (joined es) q) (length-mapped second_in (joined ds) (joined es) m) b.1 in
      let d : joined ds ≡ joined es = same_pairs (IsOf key) (IsOf value) (joined ds) (joined es) p q b.0 c.0 in
      (same_lists (IsPairOf (IsOf key) (IsOf value)) (λ _. Unit {0}) ds es h i a.0 d, c.1)
  data_once (array_shape size element) ds es rest left h i n f =
      let a : map length_entry ds ≡ map length_entry es = same_array_lengths (IsOf element) size ds es h i n in
      let b : (joined ds ≡ joined es) × (rest ≡ left) =
      data_once element (joined ds) (joined es) rest left (joined_each (IsOf element) (λ m. m ≡ size) ds h)
      (joined_each (IsOf element) (λ m. m ≡ size) es i) (length-joined ds es a)
      (elements_fronts size (length ds) (length es) (columns_of element (joined ds)) (columns_of element (joined es)) rest left f) in
      (same_lists (IsOf element) (λ m. m ≡ size) ds es h i a b.0, b.1)
  data_once (pair_shape first second) ds es rest left h i n f =
      let a : (map first_in ds ≡ map first_in es) × Fronts (columns_of second (map second_in ds)) (columns_of second (map second_in es)) rest left =
      in_turn (map first_in ds ≡ map first_in es) f
      (λ r l g.
      data_once first (map first_in ds) (map first_in es) r l (firsts_each (IsOf first) (IsOf second) ds h)
      (firsts_each (IsOf first) (IsOf second) es i) (length-mapped first_in ds es n) g) in
      let b : (map second_in ds ≡ map second_in es) × (rest ≡ left) =
      data_once second (map second_in ds) (map second_in es) rest left (seconds_each (IsOf first) (IsOf second) ds h)
      (seconds_each (IsOf first) (IsOf second) es i) (length-mapped second_in ds es n) a.1 in
      (same_pairs (IsOf first) (IsOf second) ds es h i a.0 b.0, b.1)
  data_once (choice_shape choices) ds es rest left h i n f =
      let a : (map variant_entry ds ≡ map variant_entry es) × Fronts (payload_columns choices 0 ds) (payload_columns choices 0 es) rest left =
      in_turn (map variant_entry ds ≡ map variant_entry es) f (λ r l g. entries_once (variants (variant_count choices)) variant_entry ds es r l n g) in
      let b : ((k : ℕ) → 0 ≤ k → k < 0 + variant_count choices → payloads k ds ≡ payloads k es) × (rest ≡ left) =
      payloads_once choices 0 ds es rest left (payloads_from_0 choices ds h) (payloads_from_0 choices es i) a.0 a.1 in
      (same_choices choices ds es h i a.0 (λ k below. b.0 k (omega arith) (omega arith)), b.1)
  data_once (admitted_shape admits shape) ds es rest left h i n f =
      data_once shape ds es rest left (admitted_each admits shape ds h) (admitted_each admits shape es i) n f

  payloads_once : (shapes : Shapes) (index : ℕ) (ds es : List Datum) (rest left : List ℕ) → All (IsPayloadFrom shapes index) ds
      → All (IsPayloadFrom shapes index) es → map variant_entry ds ≡ map variant_entry es
      → Fronts (payload_columns shapes index ds) (payload_columns shapes index es) rest left
      → ((k : ℕ) → index ≤ k → k < index + variant_count shapes → payloads k ds ≡ payloads k es) × (rest ≡ left)
  payloads_once no_shapes index ds es rest left h i n f =
      (λ k low high. absurd (omega arith), nothing_once f.piece f.other rest left f.spelled f.also f.same)
  payloads_once (shape_and s ss) index ds es rest left h i n f =
      let a : (payloads index ds ≡ payloads index es) × Fronts (payload_columns ss (suc index) ds) (payload_columns ss (suc index) es) rest left =
      in_turn (payloads index ds ≡ payloads index es) f
      (λ r l g.
      data_once s (payloads index ds) (payloads index es) r l (first_payloads s ss index ds h) (first_payloads s ss index es i)
      (length-payloads index ds es n) g) in
      let b : ((k : ℕ) → suc index ≤ k → k < suc index + variant_count ss → payloads k ds ≡ payloads k es) × (rest ≡ left) =
      payloads_once ss (suc index) ds es rest left (later_payloads s ss index ds h) (later_payloads s ss index es i) n a.1 in (
        λ k low high.
            ⊎_elim (λ e. subst (λ j. payloads j ds ≡ payloads j es) e a.0) (λ after. b.0 k after (omega arith)) (eq-or-lt_of_le low),
        b.1,
      )

pub Spells-unambiguous : (shape : Shape) → IsReadOnce (Spells shape)
Spells-unambiguous shape = record {
  unambiguous = λ piece other ds es rest left s t n same.
      data_once shape ds es rest left s.of_shape t.of_shape n
      (record { piece = piece; other = other; spelled = s.columns; also = t.columns; same = same });
}

-- ---- the laws of columns

-- the kinds of the columns are sound
abbrev pub AreSoundKinds : Columns → Type 0
AreSoundKinds no_columns = Unit {0}
AreSoundKinds (one kind entries) = IsSoundKind kind
AreSoundKinds (two first second) = AreSoundKinds first × AreSoundKinds second
AreSoundKinds (arrays size count elements) = AreSoundKinds elements

-- the entries of the columns are entries of their kinds
abbrev pub AreEntries : Columns → Type 0
AreEntries no_columns = Unit {0}
AreEntries (one kind entries) = All (IsEntryOf kind) entries
AreEntries (two first second) = AreEntries first × AreEntries second
AreEntries (arrays size count elements) = AreEntries elements

pub SpellsColumns-nothing : (a : Columns) → AreSoundKinds a → (bytes : List ℕ) → SpellsColumns (emptied a) bytes → bytes ≡ []
SpellsColumns-nothing no_columns sound bytes s = s
SpellsColumns-nothing (one kind entries) sound bytes s = SpellsColumn-nothing kind sound bytes s
SpellsColumns-nothing (two first second) sound bytes s =
    s.whole ∙ ap₂ (λ x y. x ++ y) (SpellsColumns-nothing first sound.0 s.front s.first) (SpellsColumns-nothing second sound.1 s.back s.second)
SpellsColumns-nothing (arrays size count elements) sound bytes s = SpellsColumns-nothing elements sound bytes s

pub SpellsColumns-size_bound : (a : Columns) → AreSoundKinds a → (bytes : List ℕ) → SpellsColumns a bytes → entry_count a ≤ 8 * length bytes
SpellsColumns-size_bound no_columns sound bytes s = omega arith
SpellsColumns-size_bound (one kind entries) sound bytes s = SpellsColumn-size_bound kind sound bytes entries s
SpellsColumns-size_bound (two first second) sound bytes s =
    let a : entry_count first ≤ 8 * length s.front = SpellsColumns-size_bound first sound.0 s.front s.first in
    let b : entry_count second ≤ 8 * length s.back = SpellsColumns-size_bound second sound.1 s.back s.second in
    let c : length bytes ≡ length s.front + length s.back = ap length s.whole ∙ length-append s.front s.back in
    omega arith
SpellsColumns-size_bound (arrays size count elements) sound bytes s = SpellsColumns-size_bound elements sound bytes s

pub SpellsColumns-text : (a : Columns) → AreSoundKinds a → AreEntries a → LengthsBelowLimit a → SpellsColumns a (columns_bytes a)
SpellsColumns-text no_columns sound each below = refl
SpellsColumns-text (one kind entries) sound each below = column_bytes-spells kind sound entries each below
SpellsColumns-text (two first second) sound each below = record {
  front = columns_bytes first;
  back = columns_bytes second;
  whole = refl;
  first = SpellsColumns-text first sound.0 each.0 below.0;
  second = SpellsColumns-text second sound.1 each.1 below.1;
}
SpellsColumns-text (arrays size count elements) sound each below = SpellsColumns-text elements sound each below

-- ---- the columns of a shape

sound_arrays : (size count : ℕ) (a : Columns) → AreSoundKinds a → AreSoundKinds (array_columns size count a)
sound_arrays zero count a h = h
sound_arrays (suc size) count a h = h

mutual
  pub AreSoundKinds-columns_of : (shape : Shape) → IsSound shape → (ds : List Datum) → AreSoundKinds (columns_of shape ds)
  AreSoundKinds-columns_of unit_shape sound ds = tt
  AreSoundKinds-columns_of never_shape sound ds = tt
  AreSoundKinds-columns_of bool_shape sound ds = tt
  AreSoundKinds-columns_of (number_shape width signed allowed) sound ds = sound
  AreSoundKinds-columns_of (float_shape format) sound ds = tt
  AreSoundKinds-columns_of (text_shape limit) sound ds = tt
  AreSoundKinds-columns_of raw_shape sound ds = tt
  AreSoundKinds-columns_of (seq_shape limit element) sound ds = (tt, AreSoundKinds-columns_of element sound (joined ds))
  AreSoundKinds-columns_of (map_shape key value) sound ds =
      (tt, (AreSoundKinds-columns_of key sound.0 (map first_in (joined ds)), AreSoundKinds-columns_of value sound.1 (map second_in (joined ds))))
  AreSoundKinds-columns_of (array_shape size element) sound ds =
      sound_arrays size (length ds) (columns_of element (joined ds)) (AreSoundKinds-columns_of element sound (joined ds))
  AreSoundKinds-columns_of (pair_shape first second) sound ds =
      (AreSoundKinds-columns_of first sound.0 (map first_in ds), AreSoundKinds-columns_of second sound.1 (map second_in ds))
  AreSoundKinds-columns_of (choice_shape choices) sound ds = ((sound.0, sound.1), AreSoundKinds-payload_columns choices sound.2 0 ds)
  AreSoundKinds-columns_of (admitted_shape admits shape) sound ds = AreSoundKinds-columns_of shape sound ds

  AreSoundKinds-payload_columns : (shapes : Shapes) → AreSound shapes → (index : ℕ) (ds : List Datum) → AreSoundKinds (payload_columns shapes index ds)
  AreSoundKinds-payload_columns no_shapes sound index ds = tt
  AreSoundKinds-payload_columns (shape_and s ss) sound index ds =
      (AreSoundKinds-columns_of s sound.0 (payloads index ds), AreSoundKinds-payload_columns ss sound.1 (suc index) ds)

length_entries : (P : Datum → Type 0) (limit : Option ℕ) (Q : ℕ → Type 0) → ((n : ℕ) → Q n → IsWithin limit n) → (ds : List Datum)
    → All (IsListOf P Q) ds → All (IsEntryOf (lengths limit)) (map length_entry ds)
length_entries P limit Q within ds h =
    All-map (IsEntryOf (lengths limit)) length_entry ds
    (All-weaker (IsListOf P Q) (λ d. IsEntryOf (lengths limit) (length_entry d))
    (λ d i. (length (elements_in d), (refl, within (length (elements_in d)) (elements_count P Q d i)))) ds h)

variant_entries : (shapes : Shapes) (ds : List Datum) → All (IsChoiceOf (IsOfVariant shapes)) ds
    → All (IsEntryOf (variants (variant_count shapes))) (map variant_entry ds)
variant_entries shapes ds h =
    All-map (IsEntryOf (variants (variant_count shapes))) variant_entry ds
    (All-weaker (IsChoiceOf (IsOfVariant shapes)) (λ d. IsEntryOf (variants (variant_count shapes)) (variant_entry d))
    (λ d i. record { value = variant_in d; is = refl; below = variant_below shapes d i }) ds h)

entries_arrays : (size count : ℕ) (a : Columns) → AreEntries a → AreEntries (array_columns size count a)
entries_arrays zero count a h = h
entries_arrays (suc size) count a h = h

mutual
  pub AreEntries-columns_of : (shape : Shape) (ds : List Datum) → All (IsOf shape) ds → AreEntries (columns_of shape ds)
  AreEntries-columns_of unit_shape ds h = tt
  AreEntries-columns_of never_shape ds h = tt
  AreEntries-columns_of bool_shape ds h = h
  AreEntries-columns_of (number_shape width signed allowed) ds h =
      All-weaker (IsNumberOf width signed allowed) (IsNumberOf width signed any_number)
      (λ d i. record { value = i.value; is = i.is; in_width = i.in_width; in_allowed = tt }) ds h
  AreEntries-columns_of (float_shape format) ds h = h
  AreEntries-columns_of (text_shape limit) ds h = h
  AreEntries-columns_of raw_shape ds h = h
  AreEntries-columns_of (seq_shape limit element) ds h = (
    length_entries (IsOf element) limit (IsWithin limit) (λ n w. w) ds h,
    AreEntries-columns_of element (joined ds) (joined_each (IsOf element) (IsWithin limit) ds h),
  )
  AreEntries-columns_of (map_shape key value) ds h =
      let each : All (IsPairOf (IsOf key) (IsOf value)) (joined ds) = joined_each (IsPairOf (IsOf key) (IsOf value)) (λ _. Unit {0}) ds h in (
        length_entries (IsPairOf (IsOf key) (IsOf value)) None (λ _. Unit {0}) (λ n w. w) ds h,
        (
          AreEntries-columns_of key (map first_in (joined ds)) (firsts_each (IsOf key) (IsOf value) (joined ds) each),
          AreEntries-columns_of value (map second_in (joined ds)) (seconds_each (IsOf key) (IsOf value) (joined ds) each),
        ),
      )
  AreEntries-columns_of (array_shape size element) ds h =
      entries_arrays size (length ds) (columns_of element (joined ds))
      (AreEntries-columns_of element (joined ds) (joined_each (IsOf element) (λ m. m ≡ size) ds h))
  AreEntries-columns_of (pair_shape first second) ds h = (
    AreEntries-columns_of first (map first_in ds) (firsts_each (IsOf first) (IsOf second) ds h),
    AreEntries-columns_of second (map second_in ds) (seconds_each (IsOf first) (IsOf second) ds h),
  )
  AreEntries-columns_of (choice_shape choices) ds h =
      (variant_entries choices ds h, AreEntries-payload_columns choices 0 ds (payloads_from_0 choices ds h))
  AreEntries-columns_of (admitted_shape admits shape) ds h = AreEntries-columns_of shape ds (admitted_each admits shape ds h)

  AreEntries-payload_columns : (shapes : Shapes) (index : ℕ) (ds : List Datum) → All (IsPayloadFrom shapes index) ds → AreEntries (payload_columns shapes index ds)
  AreEntries-payload_columns no_shapes index ds h = tt
  AreEntries-payload_columns (shape_and s ss) index ds h = (
    AreEntries-columns_of s (payloads index ds) (first_payloads s ss index ds h),
    AreEntries-payload_columns ss (suc index) ds (later_payloads s ss index ds h),
  )

-- no data take no bytes
pub Spells-nothing : (shape : Shape) → IsSound shape → (bytes : List ℕ) → Spells shape bytes [] → bytes ≡ []
Spells-nothing shape sound bytes s =
    SpellsColumns-nothing (columns_of shape []) (AreSoundKinds-columns_of shape sound []) bytes
    (subst (λ a. SpellsColumns a bytes) (columns_of-none shape []) s.columns)

-- the entries of all columns together are at most eight times the bytes
pub Spells-size_bound : (shape : Shape) → IsSound shape → (bytes : List ℕ) (ds : List Datum) → Spells shape bytes ds
    → entry_count (columns_of shape ds) ≤ 8 * length bytes
Spells-size_bound shape sound bytes ds s = SpellsColumns-size_bound (columns_of shape ds) (AreSoundKinds-columns_of shape sound ds) bytes s.columns

-- what is written is read back
pub columns_bytes-spells : (shape : Shape) → IsSound shape → (ds : List Datum) → All (IsOf shape) ds → CountsFit (columns_of shape ds)
    → LengthsBelowLimit (columns_of shape ds) → Spells shape (columns_bytes (columns_of shape ds)) ds
columns_bytes-spells shape sound ds each counts below = record {
  of_shape = each;
  counts = counts;
  columns = SpellsColumns-text (columns_of shape ds) (AreSoundKinds-columns_of shape sound ds) (AreEntries-columns_of shape ds each) below;
}
