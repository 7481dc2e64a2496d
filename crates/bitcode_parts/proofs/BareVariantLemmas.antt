-- Variants without payloads are read and written as their column alone.
use Rattle.std.proofs.Common.{◌≡◌, Bool, true, false, ◌&&◌, IsTrue, Result, Ok, Err, OnOk, IfOk, ℕ, zero, suc, ◌<◌, List, [], ◌∷◌, ◌++◌, length, map, All, refl, sym, ap, ap₂, subst, ◌∙◌, arith, ⊎_elim, inl}
use Rattle.std.proofs.lemmas.Bool.{cases_lt, cond-true, cond-false, lt-ltb, le-ltb}
use Rattle.std.proofs.lemmas.List.{length-map, append-nil, map-append}
use Rattle.std.proofs.lemmas.List.Elements.{All-map, All-weaker, All-head, All-tail}
use Rattle.std.specs.List.{AllZip}
use Rattle.std.specs.Prelude.{◌↔◌}
use Rattle.bitcode_memory.specs.declared.error.Reason.{Reason}
use Rattle.bitcode_columns.specs.Reading.{Reads, NamesVariantFault}
use Rattle.bitcode_coder.specs.Faults.{NamesVariantsFault}
use Rattle.bitcode_coder.specs.FirstFault.{IsFirstFault}
use Rattle.bitcode_columns.specs.VariantColumn.{SpellsVariants, variant_text}
use Rattle.bitcode_shapes.specs.Datum.{Datum, choice, unit, natural_in}
use Rattle.bitcode_shapes.specs.Shape.{Shape, IsChoiceOf, IsOfVariant, variant_count}
use Rattle.bitcode_coder.specs.Columns.{CountsFit, no_columns, one, two, variants, plain, beside, emptied}
use Rattle.bitcode_coder.specs.Coder.{IsReadingRefusal, JoinsListing, JoinsEach, TakesDatum}
use Rattle.bitcode_coder.specs.Spelling.{Spells, SpellsColumns, natural, columns_bytes}
use Rattle.bitcode_coder.specs.Strict.{Judges, JudgesData}
use Rattle.bitcode_coder.specs.Transposition.{payload_columns, variant_entry}
use Rattle.bitcode_coder.proofs.LengthPartLemmas.{naturals_in}
use Rattle.bitcode_coder.proofs.StrictLemmas.{judges_column}
use Rattle.bitcode_shapes.specs.BareVariants.{unit_shapes, bare_shape, ListsBare, MakesBare}
use Rattle.bitcode_shapes.specs.LawfulBareVariants.{count-unit_shapes, of_bare_variant}
use Rattle.bitcode_parts.specs.BareVariants.{bare_choices, bare_payloads, bare_columns, emptied-bare_payloads, written-bare_payloads}
use Rattle.bitcode_parts.proofs.ChoiceReadingLemmas.{refuses_variants}

-- ---- the choices of variants

-- of variants that are known
pub known_choices : (count : ℕ) (them : List ℕ) → All (λ variant. variant < count) them → bare_choices count them ≡ map (λ variant. choice variant unit) them
known_choices count [] known = refl
known_choices count (variant ∷ more) known =
    cond-true _ _ _ (lt-ltb variant count (All-head (λ v. v < count) variant more known))
    ∙ ap (λ ds. choice variant unit ∷ ds) (known_choices count more (All-tail (λ v. v < count) variant more known))

-- ---- their payloads have no columns

payloads_fit : (count index : ℕ) (ds : List Datum) → CountsFit (payload_columns (unit_shapes count) index ds)
payloads_fit zero index ds = tt
payloads_fit (suc count) index ds = (tt, payloads_fit count (suc index) ds)

payloads_spelled : (count index : ℕ) (ds : List Datum) → SpellsColumns (payload_columns (unit_shapes count) index ds) []
payloads_spelled zero index ds = refl
payloads_spelled (suc count) index ds = record { front = []; back = []; whole = refl; first = refl; second = payloads_spelled count (suc index) ds }

payloads_judged : (count index : ℕ) (ds : List Datum) (rest : List ℕ) → Judges (plain (payload_columns (unit_shapes count) index ds)) true rest rest
payloads_judged zero index ds rest = (refl, refl)
payloads_judged (suc count) index ds rest = record {
  middle = rest;
  first_written = true;
  second_written = true;
  both = refl;
  first = (refl, refl);
  second = payloads_judged count (suc index) ds rest;
}

and_true : (a : Bool) → a ≡ (a && true)
and_true true = refl
and_true false = refl

entries_are : (them : List ℕ) → map variant_entry (map (λ variant. choice variant unit) them) ≡ map natural them
entries_are [] = refl
entries_are (variant ∷ more) = ap (λ entries. natural variant ∷ entries) (entries_are more)

-- ---- reading

module _ (count k : ℕ) (old : List ℕ) where
  reads_known : (new them : List ℕ) → Reads (SpellsVariants count) k old them new
      → Reads (Spells (bare_shape count)) k old (map (λ variant. choice variant unit) them) new
  reads_known new them r = record {
    size = length-map them (λ variant. choice variant unit) ∙ r.size;
    piece = r.piece;
    whole = r.whole;
    spelled = record {
      of_shape =
          All-map (IsChoiceOf (IsOfVariant (unit_shapes count))) (λ variant. choice variant unit) them
          (All-weaker (λ variant. variant < count) (λ variant. IsChoiceOf (IsOfVariant (unit_shapes count)) (choice variant unit))
          (λ variant below. record { index = variant; payload = unit; is = refl; is_variant = of_bare_variant count variant below }) them r.spelled.known);
      counts = (tt, payloads_fit count 0 (map (λ variant. choice variant unit) them));
      columns = record {
        front = r.piece;
        back = [];
        whole = sym (append-nil r.piece);
        first = record {
          entries = them;
          are = entries_are them;
          spelled = subst (λ n. SpellsVariants n r.piece them) (sym (count-unit_shapes count)) r.spelled;
        };
        second = payloads_spelled count 0 (map (λ variant. choice variant unit) them);
      };
    };
  }

  pub reads_bare : (new them : List ℕ) → Reads (SpellsVariants count) k old them new → Reads (Spells (bare_shape count)) k old (bare_choices count them) new
  reads_bare new them r =
      subst (λ ds. Reads (Spells (bare_shape count)) k old ds new) (sym (known_choices count them r.spelled.known)) (reads_known new them r)

  judges_known : (new them : List ℕ) (written : Bool) → Reads (SpellsVariants count) k old them new → (IsTrue written ↔ (old ≡ variant_text count them ++ new))
      → JudgesData (bare_shape count) (map (λ variant. choice variant unit) them) written old new
  judges_known new them written r answer =
      let ds = map (λ variant. choice variant unit) them in
      let n = variant_count (unit_shapes count) in
      record {
        middle = new;
        first_written = written;
        second_written = true;
        both = and_true written;
        first = judges_column (variants n) written (map variant_entry ds) old new r.piece (variant_text count them) r.whole
            (record { entries = them; are = entries_are them; spelled = subst (λ m. SpellsVariants m r.piece them) (sym (count-unit_shapes count)) r.spelled })
            (ap (λ xs. variant_text n (map natural_in xs)) (entries_are them) ∙ ap (variant_text n) (naturals_in them) ∙ ap (λ m. variant_text m them) (count-unit_shapes count)) answer;
        second = payloads_judged count 0 ds new;
      }

  pub judges_bare : {E : Type 0} (new them : List ℕ) (r : Result Bool E) → OnOk r (Reads (SpellsVariants count) k old them new)
      → IfOk r (λ written. IsTrue written ↔ (old ≡ variant_text count them ++ new)) → IfOk r (λ written. JudgesData (bare_shape count) (bare_choices count them) written old new)
  judges_bare new them (Ok written) read answer =
      subst (λ ds. JudgesData (bare_shape count) ds written old new) (sym (known_choices count them read.spelled.known)) (judges_known new them written read answer)
  judges_bare new them (Err e) read answer = tt

  pub fault_of_bare : (reason : Reason) → NamesVariantsFault count reason k old → IsFirstFault (bare_shape count) reason k old
  fault_of_bare reason fault = inl (subst (λ n. NamesVariantsFault n reason k old) (sym (count-unit_shapes count)) fault)

  pub refuses_bare : (reason : Reason) → NamesVariantsFault count reason k old → IsReadingRefusal (bare_shape count) reason k old
  refuses_bare reason fault =
      refuses_variants (unit_shapes count) reason k old (subst (λ n. NamesVariantFault reason n k old) (sym (count-unit_shapes count)) fault.named)

-- ---- making a value

-- where a choice is left, its variant is known
pub bare_next : (count variant : ℕ) (more : List ℕ) → 0 < length (bare_choices count (variant ∷ more))
    → (variant < count) × (bare_choices count (variant ∷ more) ≡ choice variant unit ∷ bare_choices count more)
bare_next count variant more left = ⊎_elim
    (λ below. (below, cond-true _ _ _ (lt-ltb variant count below)))
    (λ past.
    let none : bare_choices count (variant ∷ more) ≡ [] = cond-false _ _ _ (le-ltb variant count past) in
    absurd (omega (arith, left, ap length none)))
    (cases_lt variant count)

pub some_variant : (count : ℕ) (entries : List ℕ) → 0 < length (bare_choices count entries) → 0 < length entries
some_variant count [] left = left
some_variant count (variant ∷ more) left = omega arith

module _ (count : ℕ) {index : ℕ} {old new : List ℕ} (taken : old ≡ index ∷ new) (left : 0 < length (bare_choices count old)) where
  next_here : (index < count) × (bare_choices count (index ∷ new) ≡ choice index unit ∷ bare_choices count new)
  next_here = bare_next count index new (subst (λ entries. 0 < length (bare_choices count entries)) taken left)

  pub bare_known : index < count
  bare_known = next_here.0

  pub takes_bare : {T : Type 0} (variant : T → ℕ) (makes : Datum → T → Type 0) → ((d : Datum) (t : T) → MakesBare variant d t → makes d t)
      → (t : T) → variant t ≡ index → TakesDatum makes t (bare_choices count old) (bare_choices count new)
  takes_bare variant makes makes_bare t is = record {
    datum = choice index unit;
    taken = ap (bare_choices count) taken ∙ next_here.1;
    made = makes_bare (choice index unit) t (ap (λ i. choice i unit) (sym is));
  }

-- ---- writing a value

beside-bare_payloads : (count : ℕ) → beside (bare_payloads count) (bare_payloads count) ≡ bare_payloads count
beside-bare_payloads zero = refl
beside-bare_payloads (suc count) = ap (two no_columns) (beside-bare_payloads count)

bare_payloads_fit : (count : ℕ) → CountsFit (bare_payloads count)
bare_payloads_fit zero = tt
bare_payloads_fit (suc count) = (tt, bare_payloads_fit count)

pub bytes-bare_payloads : (count : ℕ) → columns_bytes (bare_payloads count) ≡ []
bytes-bare_payloads zero = refl
bytes-bare_payloads (suc count) = bytes-bare_payloads count

pub bare_bytes : (count : ℕ) (entries : List ℕ) → columns_bytes (bare_columns count entries) ≡ columns_bytes (one (variants count) (map natural entries))
bare_bytes count entries =
    ap (λ bytes. columns_bytes (one (variants count) (map natural entries)) ++ bytes) (bytes-bare_payloads count) ∙ append-nil _

-- the column of the variants was emptied
pub bare_cleared : (count : ℕ) (old new : List ℕ) → one (variants count) (map natural new) ≡ one (variants count) [] → bare_columns count new ≡ emptied (bare_columns count old)
bare_cleared count old new empty = ap₂ two empty (sym (emptied-bare_payloads count))

module _ {T : Type 0} (variant : T → ℕ) (lists : T → Datum → Type 0) (lists_bare : (t : T) (d : Datum) → ListsBare variant t d → lists t d)
    (shape : Shape) (count : ℕ) (has_shape : shape ≡ bare_shape count) where
  pub joins_bare : (t : T) (old new : List ℕ) → new ≡ old ++ variant t ∷ [] → JoinsListing lists shape t (bare_columns count old) (bare_columns count new)
  joins_bare t old new pushed = subst (λ s. JoinsListing lists s t (bare_columns count old) (bare_columns count new)) (sym has_shape) (record {
    datum = choice (variant t) unit;
    listing = lists_bare t (choice (variant t) unit) refl;
    joined = ap₂ two
        (ap (λ entries. one (variants count) (map natural entries)) pushed ∙ ap (one (variants count)) (map-append natural old (variant t ∷ [])))
        (sym (ap (beside (bare_payloads count)) (written-bare_payloads count 0 (choice (variant t) unit ∷ [])) ∙ beside-bare_payloads count));
    fits = λ f. (tt, bare_payloads_fit count);
  })

  -- and those of several
  data_of_bare : List T → List Datum
  data_of_bare ts = map (λ u. choice (variant u) unit) ts

  bare_listed : (ts : List T) → AllZip lists ts (data_of_bare ts)
  unfolding data_of_bare
  bare_listed [] = tt
  bare_listed (u ∷ ts) = (lists_bare u (choice (variant u) unit) refl, bare_listed ts)

  bare_entries : (ts : List T) → map variant_entry (data_of_bare ts) ≡ map natural (map variant ts)
  unfolding data_of_bare
  bare_entries [] = refl
  bare_entries (u ∷ ts) = ap (λ rest. natural (variant u) ∷ rest) (bare_entries ts)

  pub joins_each_bare : (ts : List T) (old new : List ℕ) → new ≡ old ++ map variant ts → JoinsEach lists shape ts (bare_columns count old) (bare_columns count new)
  joins_each_bare ts old new pushed = subst (λ s. JoinsEach lists s ts (bare_columns count old) (bare_columns count new)) (sym has_shape) (record {
    parts = data_of_bare ts;
    listings = bare_listed ts;
    joined = ap₂ two
        (ap (λ entries. one (variants count) (map natural entries)) pushed
        ∙ ap (one (variants count)) (map-append natural old (map variant ts) ∙ ap (λ rest. map natural old ++ rest) (sym (bare_entries ts))))
        (sym (ap (beside (bare_payloads count)) (written-bare_payloads count 0 (data_of_bare ts)) ∙ beside-bare_payloads count));
    fits = λ f. (tt, bare_payloads_fit count);
  })
