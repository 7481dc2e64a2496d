-- Lengths are short where there are none, and where few bytes hold elements that all have entries.
use Rattle.std.proofs.Common.{◌≡◌, ℕ, zero, suc, ◌+◌, ◌*◌, ◌≤◌, ◌<◌, ◌^◌, Bool, true, false, None, List, [], ◌∷◌, ◌++◌, length, map, All, refl, sym, ◌∙◌, ap, subst, arith, length-append}
use Rattle.std.specs.Prelude.{◌||◌, ◌&&◌, sum}
use Rattle.std.specs.List.{flat_map}
use Rattle.std.proofs.lemmas.List.{length-map}
use Rattle.std.proofs.lemmas.List.Concat.{length-flat_map}
use Rattle.std.proofs.lemmas.List.Sums.{sum-map}
use Rattle.std.proofs.lemmas.Simd.{map-map}
use Rattle.std.proofs.lemmas.List.Elements.{All-cons, All-head, All-nil, All-tail}
use Rattle.bitcode_shapes.specs.Datum.{Datum, elements_in, first_in, second_in, natural_in, text_in}
use Rattle.bitcode_shapes.specs.Lawful.{Lawful}
use Rattle.bitcode_shapes.specs.LawfulPairs.{both}
use Rattle.bitcode_shapes.specs.Shape.{Shape, Shapes, unit_shape, never_shape, bool_shape, number_shape, float_shape, text_shape, raw_shape, seq_shape, map_shape, array_shape, pair_shape, choice_shape, admitted_shape, no_shapes, shape_and, variant_count, IsOf, IsSound, AreSound, IsWithin, IsListOf, IsPairOf}
use Rattle.bitcode_coder.specs.Columns.{Kind, Columns, bools, ints, floats, lengths, texts, raws, variants, IsEntryOf, IsSoundKind, entry_count_of}
use Rattle.bitcode_coder.specs.ColumnFree.{has_entry}
use Rattle.bitcode_coder.specs.Transposition.{columns_of, payload_columns, array_columns, joined, payloads, length_entry, variant_entry}
use Rattle.bitcode_coder.specs.Spelling.{column_bytes, columns_bytes, LengthsBelowLimit, LengthsBelowLimitOf}
use Rattle.bitcode_coder.specs.LengthColumn.{length_bytes, length_limit}
use Rattle.bitcode_coder.specs.TextColumn.{texts_bytes}
use Rattle.bitcode_coder.proofs.LawLemmas.{texts_of-spread}
use Rattle.bitcode_coder.proofs.ColumnLemmas.{SpellsColumn-size_bound, column_bytes-spells}
use Rattle.bitcode_coder.proofs.DatumLemmas.{none_never, elements_count, joined_each, firsts_each, seconds_each, IsPayloadFrom, payloads_from_0, first_payloads, later_payloads}
use Rattle.bitcode_coder.proofs.SpellingLemmas.{AreEntries-columns_of, admitted_each}
use Rattle.bitcode_derive.specs.Whole.{IsEncodingOf, columns_of_one}
use Rattle.bitcode_derive.specs.ShortLengths.{elements_have_entries, payloads_have_entries, has_no_lengths, payloads_have_no_lengths}

-- ---- one column

at_least_each : (kind : Kind) (ds : List Datum) → length ds ≤ entry_count_of kind ds
at_least_each bools ds = omega arith
at_least_each (ints width signed) ds = omega arith
at_least_each (floats format) ds = omega arith
at_least_each (lengths limit) ds = omega arith
at_least_each (texts limit) ds = omega arith
at_least_each raws ds = omega arith
at_least_each (variants count) ds = omega arith

entries_bound : (kind : Kind) → IsSoundKind kind → (ds : List Datum) → All (IsEntryOf kind) ds → LengthsBelowLimitOf kind ds
    → length ds ≤ 8 * length (column_bytes kind ds)
entries_bound kind sound ds each below =
    let bound = SpellsColumn-size_bound kind sound (column_bytes kind ds) ds (column_bytes-spells kind sound ds each below) in
    omega (arith, bound, at_least_each kind ds)

-- ---- sums of lengths

sum_of_lengths : (ds : List Datum) → sum (map natural_in (map length_entry ds)) ≡ length (joined ds)
sum_of_lengths ds =
    ap sum (map-map natural_in length_entry ds) ∙ sum-map (λ d. length (elements_in d)) ds ∙ sym (length-flat_map elements_in ds)

sum_of_texts : (ds : List Datum) → sum (map (λ d. length (text_in d)) ds) ≡ length (flat_map (λ t. t) (map text_in ds))
sum_of_texts ds =
    sym (ap sum (map-map (λ t. length t) text_in ds)) ∙ sum-map (λ t. length t) (map text_in ds) ∙ sym (length-flat_map (λ t. t) (map text_in ds))

texts_below : (ds : List Datum) → length (texts_bytes (map text_in ds)) < 2 ^ 48 → sum (map (λ d. length (text_in d)) ds) < length_limit
unfolding texts_bytes
texts_below ds few =
    let parts = length-append (length_bytes (map (λ text. length text) (map text_in ds))) (flat_map (λ t. t) (map text_in ds)) in
    omega (arith, parts, sum_of_texts ds, few)

-- ---- each datum has an entry

array_holds : (P : Datum → Type 0) (size : ℕ) (ds : List Datum) → All (IsListOf P (λ n. n ≡ suc size)) ds → length ds ≤ length (joined ds)
array_holds P size [] h = omega arith
array_holds P size (d ∷ ds) h =
    let one : length (elements_in d) ≡ suc size = elements_count P (λ n. n ≡ suc size) d (All-head (IsListOf P (λ n. n ≡ suc size)) d ds h) in
    let more = array_holds P size ds (All-tail (IsListOf P (λ n. n ≡ suc size)) d ds h) in
    let whole : length (joined (d ∷ ds)) ≡ length (elements_in d) + length (joined ds) = length-append (elements_in d) (joined ds) in
    omega (arith, one, more, whole)

-- the count of a front or of a back piece
in_front : (n : ℕ) (front back : List ℕ) → n ≤ 8 * length front → n ≤ 8 * length (front ++ back)
in_front n front back bound = omega (arith, bound, length-append front back)

in_back : (n : ℕ) (front back : List ℕ) → n ≤ 8 * length back → n ≤ 8 * length (front ++ back)
in_back n front back bound = omega (arith, bound, length-append front back)

few_in_front : (front back : List ℕ) → length (front ++ back) < 2 ^ 48 → length front < 2 ^ 48
few_in_front front back few = omega (arith, few, length-append front back)

few_in_back : (front back : List ℕ) → length (front ++ back) < 2 ^ 48 → length back < 2 ^ 48
few_in_back front back few = omega (arith, few, length-append front back)

one_of : (a b : Bool) → (a || b) ≡ true → (C : Type 0) → (a ≡ true → C) → (b ≡ true → C) → C
one_of true b h C first second = first refl
one_of false b h C first second = second h

each_entry : (shape : Shape) → has_entry shape ≡ true → IsSound shape → (ds : List Datum) → All (IsOf shape) ds → LengthsBelowLimit (columns_of shape ds)
    → length ds ≤ 8 * length (columns_bytes (columns_of shape ds))
each_entry unit_shape has sound ds h below = absurd cc
each_entry never_shape has sound ds h below = omega (arith, ap length (none_never ds h))
each_entry bool_shape has sound ds h below = entries_bound bools tt ds h tt
each_entry (number_shape width signed allowed) has sound ds h below =
    entries_bound (ints width signed) sound ds (AreEntries-columns_of (number_shape width signed allowed) ds h) tt
each_entry (float_shape format) has sound ds h below = entries_bound (floats format) tt ds h tt
each_entry (text_shape limit) has sound ds h below = entries_bound (texts limit) tt ds h below
each_entry raw_shape has sound ds h below = entries_bound raws tt ds h tt
each_entry (seq_shape limit element) has sound ds h below =
    in_front (length ds) (column_bytes (lengths limit) (map length_entry ds)) (columns_bytes (columns_of element (joined ds)))
    (omega (arith, length-map ds length_entry, entries_bound (lengths limit) tt (map length_entry ds) (AreEntries-columns_of (seq_shape limit element) ds h).0 below.0))
each_entry (map_shape key value) has sound ds h below =
    in_front (length ds) (column_bytes (lengths None) (map length_entry ds))
    (columns_bytes (columns_of key (map first_in (joined ds))) ++ columns_bytes (columns_of value (map second_in (joined ds))))
    (omega (arith, length-map ds length_entry, entries_bound (lengths None) tt (map length_entry ds) (AreEntries-columns_of (map_shape key value) ds h).0 below.0))
each_entry (array_shape zero element) has sound ds h below = absurd cc
each_entry (array_shape (suc size) element) has sound ds h below =
    let inner = each_entry element has sound (joined ds) (joined_each (IsOf element) (λ m. m ≡ suc size) ds h) below in
    omega (arith, inner, array_holds (IsOf element) size ds h)
each_entry (pair_shape first second) has sound ds h below =
    one_of (has_entry first) (has_entry second) has (length ds ≤ 8 * length (columns_bytes (columns_of (pair_shape first second) ds)))
    (λ one. in_front (length ds) (columns_bytes (columns_of first (map first_in ds))) (columns_bytes (columns_of second (map second_in ds)))
    (omega (arith, length-map ds first_in, each_entry first one sound.0 (map first_in ds) (firsts_each (IsOf first) (IsOf second) ds h) below.0)))
    (λ one. in_back (length ds) (columns_bytes (columns_of first (map first_in ds))) (columns_bytes (columns_of second (map second_in ds)))
    (omega (arith, length-map ds second_in, each_entry second one sound.1 (map second_in ds) (seconds_each (IsOf first) (IsOf second) ds h) below.1)))
each_entry (choice_shape choices) has sound ds h below =
    in_front (length ds) (column_bytes (variants (variant_count choices)) (map variant_entry ds)) (columns_bytes (payload_columns choices 0 ds))
    (omega (
      arith,
      length-map ds variant_entry,
      entries_bound (variants (variant_count choices)) (sound.0, sound.1) (map variant_entry ds) (AreEntries-columns_of (choice_shape choices) ds h).0 tt,
    ))
each_entry (admitted_shape admits shape) has sound ds h below = each_entry shape has sound ds (admitted_each admits shape ds h) below

-- ---- all columns

below_arrays : (size count : ℕ) (a : Columns) → LengthsBelowLimit a → LengthsBelowLimit (array_columns size count a)
below_arrays zero count a h = h
below_arrays (suc size) count a h = h

bytes_of_arrays : (size count : ℕ) (a : Columns) → columns_bytes (array_columns size count a) ≡ columns_bytes a
bytes_of_arrays zero count a = refl
bytes_of_arrays (suc size) count a = refl

list_below : (ds : List Datum) (bytes : List ℕ) → length (joined ds) ≤ 8 * length bytes → length bytes < 2 ^ 48 → sum (map natural_in (map length_entry ds)) < length_limit
list_below ds bytes bound few = omega (arith, bound, few, sum_of_lengths ds)

mutual
  pub short_lengths : (shape : Shape) → elements_have_entries shape ≡ true → IsSound shape → (ds : List Datum) → All (IsOf shape) ds
      → length (columns_bytes (columns_of shape ds)) < 2 ^ 48 → LengthsBelowLimit (columns_of shape ds)
  short_lengths unit_shape have sound ds h few = tt
  short_lengths never_shape have sound ds h few = tt
  short_lengths bool_shape have sound ds h few = tt
  short_lengths (number_shape width signed allowed) have sound ds h few = tt
  short_lengths (float_shape format) have sound ds h few = tt
  short_lengths (text_shape limit) have sound ds h few = texts_below ds few
  short_lengths raw_shape have sound ds h few = tt
  short_lengths (seq_shape limit element) have sound ds h few =
      let has = both (has_entry element) (elements_have_entries element) have in
      let bytes = columns_bytes (columns_of element (joined ds)) in
      let few_inside : length bytes < 2 ^ 48 = few_in_back (column_bytes (lengths limit) (map length_entry ds)) bytes few in
      let each : All (IsOf element) (joined ds) = joined_each (IsOf element) (IsWithin limit) ds h in
      let below = short_lengths element has.1 sound (joined ds) each few_inside in
      (list_below ds bytes (each_entry element has.0 sound (joined ds) each below) few_inside, below)
  short_lengths (map_shape key value) have sound ds h few =
      let has = both (has_entry key || has_entry value) (elements_have_entries key && elements_have_entries value) have in
      let inside = both (elements_have_entries key) (elements_have_entries value) has.1 in
      let key_bytes = columns_bytes (columns_of key (map first_in (joined ds))) in
      let value_bytes = columns_bytes (columns_of value (map second_in (joined ds))) in
      let few_inside : length (key_bytes ++ value_bytes) < 2 ^ 48 = few_in_back (column_bytes (lengths None) (map length_entry ds)) (key_bytes ++ value_bytes) few in
      let each : All (IsPairOf (IsOf key) (IsOf value)) (joined ds) = joined_each (IsPairOf (IsOf key) (IsOf value)) (λ _. Unit {0}) ds h in
      let keys = firsts_each (IsOf key) (IsOf value) (joined ds) each in
      let values = seconds_each (IsOf key) (IsOf value) (joined ds) each in
      let below_keys = short_lengths key inside.0 sound.0 (map first_in (joined ds)) keys (few_in_front key_bytes value_bytes few_inside) in
      let below_values = short_lengths value inside.1 sound.1 (map second_in (joined ds)) values (few_in_back key_bytes value_bytes few_inside) in
      let bound : length (joined ds) ≤ 8 * length (key_bytes ++ value_bytes) =
      one_of (has_entry key) (has_entry value) has.0 (length (joined ds) ≤ 8 * length (key_bytes ++ value_bytes))
      (λ one. in_front (length (joined ds)) key_bytes value_bytes (omega (arith, length-map (joined ds) first_in, each_entry key one sound.0 (map first_in (joined ds)) keys below_keys)))
      (λ one. in_back (length (joined ds)) key_bytes value_bytes (omega (arith, length-map (joined ds) second_in, each_entry value one sound.1 (map second_in (joined ds)) values below_values))) in
      (list_below ds (key_bytes ++ value_bytes) bound few_inside, (below_keys, below_values))
  short_lengths (array_shape size element) have sound ds h few =
      below_arrays size (length ds) (columns_of element (joined ds))
      (short_lengths element have sound (joined ds) (joined_each (IsOf element) (λ m. m ≡ size) ds h)
      (omega (arith, few, ap length (bytes_of_arrays size (length ds) (columns_of element (joined ds))))))
  short_lengths (pair_shape first second) have sound ds h few =
      let inside = both (elements_have_entries first) (elements_have_entries second) have in
      let first_bytes = columns_bytes (columns_of first (map first_in ds)) in
      let second_bytes = columns_bytes (columns_of second (map second_in ds)) in (
        short_lengths first inside.0 sound.0 (map first_in ds) (firsts_each (IsOf first) (IsOf second) ds h) (few_in_front first_bytes second_bytes few),
        short_lengths second inside.1 sound.1 (map second_in ds) (seconds_each (IsOf first) (IsOf second) ds h) (few_in_back first_bytes second_bytes few),
      )
  short_lengths (choice_shape choices) have sound ds h few = (
    tt,
    short_payloads choices have sound.2 0 ds (payloads_from_0 choices ds h)
        (few_in_back (column_bytes (variants (variant_count choices)) (map variant_entry ds)) (columns_bytes (payload_columns choices 0 ds)) few),
  )
  short_lengths (admitted_shape admits shape) have sound ds h few = short_lengths shape have sound ds (admitted_each admits shape ds h) few

  short_payloads : (shapes : Shapes) → payloads_have_entries shapes ≡ true → AreSound shapes → (index : ℕ) (ds : List Datum) → All (IsPayloadFrom shapes index) ds
      → length (columns_bytes (payload_columns shapes index ds)) < 2 ^ 48 → LengthsBelowLimit (payload_columns shapes index ds)
  short_payloads no_shapes have sound index ds h few = tt
  short_payloads (shape_and s ss) have sound index ds h few =
      let inside = both (elements_have_entries s) (payloads_have_entries ss) have in
      let first_bytes = columns_bytes (columns_of s (payloads index ds)) in
      let rest_bytes = columns_bytes (payload_columns ss (suc index) ds) in (
        short_lengths s inside.0 sound.0 (payloads index ds) (first_payloads s ss index ds h) (few_in_front first_bytes rest_bytes few),
        short_payloads ss inside.1 sound.1 (suc index) ds (later_payloads s ss index ds h) (few_in_back first_bytes rest_bytes few),
      )

-- of the listing that was written
pub written_short : {T : Type 0} {shape : Shape} {is_value : T → Type 0} {lists : T → Datum → Type 0} {same : T → T → Type 0} {in_order : Bool}
    → Lawful shape is_value lists same in_order → (t : T) (bytes : List ℕ) → is_value t → elements_have_entries shape ≡ true
    → (e : IsEncodingOf lists shape t bytes) → length bytes < 2 ^ 48 → LengthsBelowLimit (columns_of_one shape e.datum)
written_short {shape = shape} lawful t bytes v have e few =
    let is_of : IsOf shape e.datum = lawful.of_shape t e.datum v e.listing in
    short_lengths shape have lawful.sound (e.datum ∷ []) (All-cons (IsOf shape) e.datum [] is_of (All-nil (IsOf shape)))
    (subst (λ b. length b < 2 ^ 48) (e.written ∙ sym (texts_of-spread shape (e.datum ∷ []))) few)

-- ---- no lengths

mutual
  pub no_lengths_below : (shape : Shape) → has_no_lengths shape ≡ true → (ds : List Datum) → LengthsBelowLimit (columns_of shape ds)
  no_lengths_below unit_shape none ds = tt
  no_lengths_below never_shape none ds = tt
  no_lengths_below bool_shape none ds = tt
  no_lengths_below (number_shape width signed allowed) none ds = tt
  no_lengths_below (float_shape format) none ds = tt
  no_lengths_below (text_shape limit) none ds = absurd cc
  no_lengths_below raw_shape none ds = tt
  no_lengths_below (seq_shape limit element) none ds = absurd cc
  no_lengths_below (map_shape key value) none ds = absurd cc
  no_lengths_below (array_shape size element) none ds =
      below_arrays size (length ds) (columns_of element (joined ds)) (no_lengths_below element none (joined ds))
  no_lengths_below (pair_shape first second) none ds =
      let inside = both (has_no_lengths first) (has_no_lengths second) none in
      (no_lengths_below first inside.0 (map first_in ds), no_lengths_below second inside.1 (map second_in ds))
  no_lengths_below (choice_shape choices) none ds = (tt, no_lengths_in_payloads choices none 0 ds)
  no_lengths_below (admitted_shape admits shape) none ds = no_lengths_below shape none ds

  no_lengths_in_payloads : (shapes : Shapes) → payloads_have_no_lengths shapes ≡ true → (index : ℕ) (ds : List Datum) → LengthsBelowLimit (payload_columns shapes index ds)
  no_lengths_in_payloads no_shapes none index ds = tt
  no_lengths_in_payloads (shape_and s ss) none index ds =
      let inside = both (has_no_lengths s) (payloads_have_no_lengths ss) none in
      (no_lengths_below s inside.0 (payloads index ds), no_lengths_in_payloads ss inside.1 (suc index) ds)
