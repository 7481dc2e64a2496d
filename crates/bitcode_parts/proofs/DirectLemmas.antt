-- One value that is read straight from the input: of an option or a result its variant and the value that it may have,
-- of an enum without payloads its variant, of a list its length and its elements.
use Rattle.std.proofs.Common.{◌≡◌, ℕ, zero, suc, ◌<◌, ◌/◌, ◌%◌, slice_index, List, [], ◌∷◌, length, map, take, sum, None, refl, sym, ◌∙◌, ap, subst, lit<, arith}
use Rattle.std.specs.Prelude.{Option, Some, IfSome, Result, Ok, Err}
use Rattle.std.specs.declared.alloc.Global.{Global}
use Rattle.std.proofs.Common.{Vec}
use Rattle.std.proofs.lemmas.List.Elements.{All-nil, All-cons, All-head}
use Rattle.std.proofs.Math.Nat.{div-one}
use Rattle.std.proofs.Math.Seq.{take-length}
use Rattle.bitcode_columns.specs.Digits.{digit, radix, digits_in_byte, base_for}
use Rattle.bitcode_columns.specs.Reading.{Reads}
use Rattle.bitcode_columns.specs.VariantColumn.{SpellsVariants}
use Rattle.bitcode_shapes.specs.Datum.{Datum, unit, choice, list, data_of}
use Rattle.bitcode_shapes.specs.Empty.{MakesUnit}
use Rattle.bitcode_shapes.specs.Choices.{MakesChoice, MakesLast, MakesVariant, option_variant, result_variant}
use Rattle.bitcode_shapes.specs.BareVariants.{bare_shape, MakesBare}
use Rattle.bitcode_shapes.specs.Lists.{MakesSequence}
use Rattle.bitcode_shapes.specs.Shape.{Shape, choice_shape, seq_shape, shape_and, no_shapes, unit_shape, IsOf, IsSound}
use Rattle.bitcode_coder.specs.Columns.{Kind, Columns, bools, ints, floats, lengths, texts, raws, variants, no_columns, one, two, arrays, emptied, CountsFit}
use Rattle.bitcode_coder.specs.Coder.{ReadsValue, ReadsValues}
use Rattle.bitcode_coder.specs.LengthColumn.{SpellsLengths}
use Rattle.bitcode_coder.specs.Spelling.{Spells, LengthsBelowLimit, LengthsBelowLimitOf}
use Rattle.bitcode_coder.specs.Transposition.{columns_of}
use Rattle.bitcode_coder.proofs.CuttingLemmas.{cut-enough}
use Rattle.bitcode_coder.proofs.SpellingLemmas.{columns_bytes-spells, Spells-nothing}
use Rattle.bitcode_coder.proofs.TranspositionLemmas.{columns_of-none}
use Rattle.bitcode_parts.specs.Lists.{lists_of}
use Rattle.bitcode_parts.proofs.BareVariantLemmas.{known_choices, reads_bare}
use Rattle.bitcode_parts.proofs.ChoiceReadingLemmas.{reads_choices}
use Rattle.bitcode_parts.proofs.ListLemmas.{reads_sequence}

-- ---- of no data nothing is read

pub CountsFit-emptied : (a : Columns) → CountsFit (emptied a)
CountsFit-emptied no_columns = tt
CountsFit-emptied (one kind entries) = tt
CountsFit-emptied (two first second) = (CountsFit-emptied first, CountsFit-emptied second)
CountsFit-emptied (arrays size count elements) = (omega arith, CountsFit-emptied elements)

below_limit_of : (kind : Kind) → LengthsBelowLimitOf kind []
below_limit_of bools = tt
below_limit_of (ints width signed) = tt
below_limit_of (floats format) = tt
below_limit_of (lengths limit) = lit< tt
below_limit_of (texts limit) = lit< tt
below_limit_of raws = tt
below_limit_of (variants count) = tt

below_limit : (a : Columns) → LengthsBelowLimit (emptied a)
below_limit no_columns = tt
below_limit (one kind entries) = below_limit_of kind
below_limit (two first second) = (below_limit first, below_limit second)
below_limit (arrays size count elements) = below_limit elements

pub reads_nothing : (shape : Shape) → IsSound shape → (input : List ℕ) → Reads (Spells shape) 0 input [] input
reads_nothing shape sound input =
    let none = columns_of-none shape [] in
    let spelled = columns_bytes-spells shape sound [] (All-nil (IsOf shape)) (subst CountsFit (sym none) (CountsFit-emptied (columns_of shape [])))
    (subst LengthsBelowLimit (sym none) (below_limit (columns_of shape []))) in
    record { size = refl; piece = []; whole = refl; spelled = subst (λ bytes. Spells shape bytes []) (Spells-nothing shape sound _ spelled) spelled }

reads_unit : (input : List ℕ) → Reads (Spells unit_shape) 1 input (unit ∷ []) input
reads_unit input = record {
  size = refl;
  piece = [];
  whole = refl;
  spelled = record { of_shape = All-cons (IsOf unit_shape) unit [] refl (All-nil (IsOf unit_shape)); counts = tt; columns = refl };
}

reads_no_unit : (input : List ℕ) → Reads (Spells unit_shape) 0 input [] input
reads_no_unit input = record { size = refl; piece = []; whole = refl; spelled = record { of_shape = All-nil (IsOf unit_shape); counts = tt; columns = refl } }

-- ---- options and results

is_one : (v : ℕ) → (v ≡ 0 → ⊥) → v < 2 → v ≡ 1
is_one zero h below = absurd (h refl)
is_one (suc zero) h below = refl
is_one (suc (suc v)) h below = absurd (omega (arith, below))

-- a byte is the column of one variant of two: its lowest digit
pub one_variant : (byte : ℕ) {old rest : List ℕ} → old ≡ byte ∷ rest → Reads (SpellsVariants 2) 1 old (byte % 2 ∷ []) rest
one_variant byte whole = record {
  size = refl;
  piece = byte ∷ [];
  whole = whole;
  spelled = record {
    digits = record { size = refl; each = λ i below. lowest i (omega (arith, below)) };
    known = All-cons (λ entry. entry < 2) (byte % 2) [] (omega arith) (All-nil (λ entry. entry < 2));
  };
}
  where
    lowest : (i : ℕ) → i ≡ 0 → slice_index (byte % 2 ∷ []) i ≡ digit (radix (base_for 1)) (slice_index (byte ∷ []) (i / digits_in_byte (base_for 1))) (i % digits_in_byte (base_for 1))
    lowest i is = subst (λ n. slice_index (byte % 2 ∷ []) n ≡ digit (radix (base_for 1)) (slice_index (byte ∷ []) (n / digits_in_byte (base_for 1))) (n % digits_in_byte (base_for 1))) (sym is)
        (ap (λ n. n % 2) (sym (div-one byte)))

module _ {T : Type 0} (makes : Datum → T → Type 0) (shape : Shape) {old middle : List ℕ} {variant : ℕ}
    (read : Reads (SpellsVariants 2) 1 old (variant ∷ []) middle) where
  abbrev pub of_option : Shape
  of_option = choice_shape (shape_and unit_shape (shape_and shape no_shapes))

  abbrev pub makes_option : Datum → Option T → Type 0
  makes_option d o = MakesChoice (MakesVariant MakesUnit (MakesLast makes)) d (option_variant o)

  pub none_read : IsSound shape → variant ≡ 0 → ReadsValue makes_option of_option old None middle
  none_read sound is =
      let q : Reads (SpellsVariants 2) 1 old (0 ∷ []) middle = subst (λ v. Reads (SpellsVariants 2) 1 old (v ∷ []) middle) is read in
      record {
        datum = choice 0 unit;
        read = reads_choices (shape_and unit_shape (shape_and shape no_shapes)) ((unit ∷ []) ∷ ([] ∷ [])) middle q (record {
          middle = middle;
          first = reads_unit middle;
          behind = record { middle = middle; first = reads_nothing shape sound middle; behind = refl };
        });
        made = record { index = 0; payload = unit; is = refl; makes_payload = refl };
      }

  pub some_read : {new : List ℕ} {t : T} → (variant ≡ 0 → ⊥) → ReadsValue makes shape middle t new → ReadsValue makes_option of_option old (Some t) new
  some_read {new} {t} other r =
      let is : variant ≡ 1 = is_one variant other (All-head (λ entry. entry < 2) variant [] read.spelled.known) in
      let q : Reads (SpellsVariants 2) 1 old (1 ∷ []) middle = subst (λ v. Reads (SpellsVariants 2) 1 old (v ∷ []) middle) is read in
      record {
        datum = choice 1 r.datum;
        read = reads_choices (shape_and unit_shape (shape_and shape no_shapes)) ([] ∷ ((r.datum ∷ []) ∷ [])) new q (record {
          middle = middle;
          first = reads_no_unit middle;
          behind = record { middle = new; first = r.read; behind = refl };
        });
        made = record { index = 1; payload = r.datum; is = refl; makes_payload = r.made };
      }

abbrev makes_result : {A B : Type 0} → (Datum → A → Type 0) → (Datum → B → Type 0) → Datum → Result A B → Type 0
makes_result makes_ok makes_err d r = MakesChoice (MakesVariant makes_ok (MakesLast makes_err)) d (result_variant r)

module _ {A B : Type 0} (makes_ok : Datum → A → Type 0) (makes_err : Datum → B → Type 0) (ok err : Shape) {old middle new : List ℕ} {variant : ℕ}
    (read : Reads (SpellsVariants 2) 1 old (variant ∷ []) middle) where
  pub ok_read : {t : A} → IsSound err → variant ≡ 0 → ReadsValue makes_ok ok middle t new
      → ReadsValue (makes_result makes_ok makes_err) (choice_shape (shape_and ok (shape_and err no_shapes))) old (Ok t) new
  ok_read sound is r =
      let q : Reads (SpellsVariants 2) 1 old (0 ∷ []) middle = subst (λ v. Reads (SpellsVariants 2) 1 old (v ∷ []) middle) is read in
      record {
        datum = choice 0 r.datum;
        read = reads_choices (shape_and ok (shape_and err no_shapes)) ((r.datum ∷ []) ∷ ([] ∷ [])) new q (record {
          middle = new;
          first = r.read;
          behind = record { middle = new; first = reads_nothing err sound new; behind = refl };
        });
        made = record { index = 0; payload = r.datum; is = refl; makes_payload = r.made };
      }

  pub err_read : {t : B} → IsSound ok → (variant ≡ 0 → ⊥) → ReadsValue makes_err err middle t new
      → ReadsValue (makes_result makes_ok makes_err) (choice_shape (shape_and ok (shape_and err no_shapes))) old (Err t) new
  err_read sound other r =
      let is : variant ≡ 1 = is_one variant other (All-head (λ entry. entry < 2) variant [] read.spelled.known) in
      let q : Reads (SpellsVariants 2) 1 old (1 ∷ []) middle = subst (λ v. Reads (SpellsVariants 2) 1 old (v ∷ []) middle) is read in
      record {
        datum = choice 1 r.datum;
        read = reads_choices (shape_and ok (shape_and err no_shapes)) ([] ∷ ((r.datum ∷ []) ∷ [])) new q (record {
          middle = middle;
          first = reads_nothing ok sound middle;
          behind = record { middle = new; first = r.read; behind = refl };
        });
        made = record { index = 1; payload = r.datum; is = refl; makes_payload = r.made };
      }

-- ---- one variant without a payload

pub bare_read : {T : Type 0} (variant : T → ℕ) (makes : Datum → T → Type 0) → ((d : Datum) (t : T) → MakesBare variant d t → makes d t)
    → (count : ℕ) {old new : List ℕ} {index : ℕ} → Reads (SpellsVariants count) 1 old (index ∷ []) new → (t : T) → variant t ≡ index
    → ReadsValue makes (bare_shape count) old t new
bare_read variant makes makes_bare count {old} {new} {index} read t is = record {
  datum = choice index unit;
  read = subst (λ ds. Reads (Spells (bare_shape count)) 1 old ds new) (known_choices count (index ∷ []) read.spelled.known)
      (reads_bare count 1 old new (index ∷ []) read);
  made = makes_bare (choice index unit) t (ap (λ n. choice n unit) (sym is));
}

-- ---- lists

list_read : {T : Type 0} (makes : Datum → T → Type 0) (shape : Shape) {old middle new lengths : List ℕ} {count : ℕ} {items : List T}
    → Reads (SpellsLengths None) 1 old lengths middle → count ≡ sum lengths → ReadsValues makes shape count middle items new
    → ReadsValue (λ d (ts : List T). MakesSequence makes d ts) (seq_shape None shape) old items new
list_read makes shape {lengths = []} {items = items} q is r = absurd (omega (arith, q.size))
list_read {T} makes shape {old} {middle} {new} {lengths = n ∷ []} {count} {items} q is r =
    let size : length r.parts ≡ n = omega (arith, r.read.size, is) in
    let whole : lists_of (n ∷ []) r.parts ≡ list (data_of r.parts) ∷ [] =
    ap (map (λ ds. list (data_of ds))) (cut-enough n [] r.parts (omega (arith, size)))
    ∙ ap (λ m. list (data_of (take m r.parts)) ∷ []) (sym size) ∙ ap (λ ds. list (data_of ds) ∷ []) (take-length r.parts) in
    record {
      datum = list (data_of r.parts);
      read = subst (λ ds. Reads (Spells (seq_shape None shape)) 1 old ds new) whole
          (reads_sequence None shape 1 new r.parts q (subst (λ m. Reads (Spells shape) m middle r.parts new) is r.read));
      made = record { elements = r.parts; is = refl; each = r.made };
    }
list_read makes shape {lengths = n ∷ m ∷ ns} {items = items} q is r = absurd (omega (arith, q.size))

pub list_read_if : {T : Type 0} (makes : Datum → T → Type 0) (shape : Shape) {old middle lengths : List ℕ} {count : ℕ} (new : List ℕ) (result : Option (Vec T Global))
    → Reads (SpellsLengths None) 1 old lengths middle → count ≡ sum lengths → IfSome result (λ items. ReadsValues makes shape count middle items.items new)
    → IfSome result (λ t. ReadsValue (λ d (ts : Vec T Global). MakesSequence makes d ts.items) (seq_shape None shape) old t new)
list_read_if makes shape new None q is r = tt
list_read_if makes shape new (Some items) q is r =
    let whole = list_read makes shape q is r in
    record { datum = whole.datum; read = whole.read; made = whole.made }
