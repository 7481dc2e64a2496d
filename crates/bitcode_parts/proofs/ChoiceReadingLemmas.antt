-- Choices are read as their variants, and then the payloads of each variant.
use Rattle.std.proofs.Common.{◌≡◌, ◌≢◌, ℕ, zero, suc, ◌+◌, ◌-◌, ◌<◌, cond, ltb, Option, Some, None, List, [], ◌∷◌, ◌++◌, length, map, All, refl, sym, ap, subst, ◌∙◌, inl, inr, arith, append_assoc}
use Rattle.std.specs.Int.{div_ceil}
use Rattle.std.specs.List.{list_all, range_with_len}
use Rattle.std.proofs.lemmas.Bool.{cond_both}
use Rattle.std.proofs.lemmas.List.{length-map}
use Rattle.std.proofs.lemmas.List.Elements.{All-nil}
use Rattle.std.proofs.lemmas.Simd.{map-map}
use Rattle.bitcode_memory.specs.declared.error.Reason.{Reason}
use Rattle.bitcode_memory.specs.declared.error.Reason.TheVariants.{Eof, InvalidPacking, OutOfMemory}
use Rattle.bitcode_columns.specs.Histogram.{count_of}
use Rattle.bitcode_columns.specs.Reading.{Reads, NamesVariantFault, variants_fault, is_variant_at}
use Rattle.bitcode_columns.specs.Digits.{digits_in_byte, base_for}
use Rattle.bitcode_columns.specs.VariantColumn.{SpellsVariants}
use Rattle.bitcode_shapes.specs.Datum.{Datum, variant_in, natural_in}
use Rattle.bitcode_shapes.specs.Shape.{Shape, Shapes, no_shapes, shape_and, choice_shape, variant_count, IsOfVariant}
use Rattle.bitcode_coder.specs.Columns.{CountsFit}
use Rattle.bitcode_coder.specs.Transposition.{columns_of, payload_columns, payloads, variant_entry}
use Rattle.bitcode_coder.specs.Spelling.{Spells, SpellsColumns, natural}
use Rattle.bitcode_coder.specs.Coder.{IsReadingReason, IsReadingRefusal}
use Rattle.bitcode_coder.proofs.DatumLemmas.{IsPayloadFrom, payloads_from_0, first_payloads, later_payloads}
use Rattle.bitcode_coder.proofs.SpellingLemmas.{Spells-unambiguous}
use Rattle.bitcode_coder.proofs.OneColumnLemmas.{IsReadingFault}
use Rattle.bitcode_coder.proofs.LengthPartLemmas.{naturals_in}
use Rattle.bitcode_columns.proofs.VariantColumnLemmas.{SpellsVariants-unambiguous, variants_fault-refuses}
use Rattle.bitcode_parts.specs.Payloads.{payloads_of, choices_of, ReadsPayloads, IsPayloadsRefusal}
use Rattle.bitcode_parts.proofs.ChoiceLemmas.{Recovers, recovers, choices_each, length-payloads_of}

-- ---- payloads that were read

-- as many lists as variants, and in each as many payloads as there are of the variant
pub length-lists : (shapes : Shapes) (index : ℕ) (entries old : List ℕ) (lists : List (List Datum)) (new : List ℕ) → ReadsPayloads shapes index entries old lists new
    → length lists ≡ variant_count shapes
length-lists no_shapes index entries old [] new r = refl
length-lists no_shapes index entries old (ds ∷ lists) new r = absurd r
length-lists (shape_and s ss) index entries old [] new r = absurd r
length-lists (shape_and s ss) index entries old (ds ∷ lists) new r = ap suc (length-lists ss (suc index) entries r.middle lists new r.behind)

pub length-lists_at : (shapes : Shapes) (index : ℕ) (entries old : List ℕ) (lists : List (List Datum)) (new : List ℕ) → ReadsPayloads shapes index entries old lists new
    → (v : ℕ) → v < variant_count shapes → length (payloads_of v lists) ≡ count_of (index + v) entries
length-lists_at no_shapes index entries old lists new r v below = absurd (omega arith)
length-lists_at (shape_and s ss) index entries old [] new r v below = absurd r
length-lists_at (shape_and s ss) index entries old (ds ∷ lists) new r zero below =
    r.first.size ∙ ap (λ i. count_of i entries) (let e : index ≡ index + 0 = omega arith in e)
length-lists_at (shape_and s ss) index entries old (ds ∷ lists) new r (suc v) below =
    length-lists_at ss (suc index) entries r.middle lists new r.behind v (omega arith)
    ∙ ap (λ i. count_of i entries) (let e : suc index + v ≡ index + suc v = omega arith in e)

-- each payload is of its variant's shape
pub payloads_of_shape : (shapes : Shapes) (index : ℕ) (entries old : List ℕ) (lists : List (List Datum)) (new : List ℕ) → ReadsPayloads shapes index entries old lists new
    → (v : ℕ) → All (IsOfVariant shapes v) (payloads_of v lists)
payloads_of_shape no_shapes index entries old [] new r v = All-nil (IsOfVariant no_shapes v)
payloads_of_shape no_shapes index entries old (ds ∷ lists) new r v = absurd r
payloads_of_shape (shape_and s ss) index entries old [] new r v = absurd r
payloads_of_shape (shape_and s ss) index entries old (ds ∷ lists) new r zero = r.first.spelled.of_shape
payloads_of_shape (shape_and s ss) index entries old (ds ∷ lists) new r (suc v) = payloads_of_shape ss (suc index) entries r.middle lists new r.behind v

-- the bytes of the payloads of some data
record SpellsPayloads (shapes : Shapes) (index : ℕ) (ds : List Datum) (old new : List ℕ) : Type 0 where
  pub piece : List ℕ
  pub whole : old ≡ piece ++ new
  pub counts : CountsFit (payload_columns shapes index ds)
  pub columns : SpellsColumns (payload_columns shapes index ds) piece

spells_payloads : (shapes : Shapes) (index : ℕ) (entries old : List ℕ) (lists : List (List Datum)) (new : List ℕ) (ds : List Datum)
    → ReadsPayloads shapes index entries old lists new
    → ((v : ℕ) → v < variant_count shapes → payloads (index + v) ds ≡ payloads_of v lists)
    → SpellsPayloads shapes index ds old new
spells_payloads no_shapes index entries old [] new ds r are = record { piece = []; whole = r; counts = tt; columns = refl }
spells_payloads no_shapes index entries old (ps ∷ lists) new ds r are = absurd r
spells_payloads (shape_and s ss) index entries old [] new ds r are = absurd r
spells_payloads (shape_and s ss) index entries old (ps ∷ lists) new ds r are =
    let later = spells_payloads ss (suc index) entries r.middle lists new ds r.behind
    (λ v below. ap (λ i. payloads i ds) (let e : suc index + v ≡ index + suc v = omega arith in e) ∙ are (suc v) (omega arith)) in
    let here : ps ≡ payloads index ds = sym (ap (λ i. payloads i ds) (let e : index ≡ index + 0 = omega arith in e) ∙ are 0 (omega arith)) in
    record {
      piece = r.first.piece ++ later.piece;
      whole = r.first.whole ∙ ap (λ x. r.first.piece ++ x) later.whole ∙ sym (append_assoc r.first.piece later.piece new);
      counts = (subst (λ xs. CountsFit (columns_of s xs)) here r.first.spelled.counts, later.counts);
      columns = record {
        front = r.first.piece;
        back = later.piece;
        whole = refl;
        first = subst (λ xs. SpellsColumns (columns_of s xs) r.first.piece) here r.first.spelled.columns;
        second = later.columns;
      };
    }

-- ---- choices that were read

-- The variants and then their payloads were read: so the choices of them were.
pub reads_choices : (shapes : Shapes) {k : ℕ} {old middle entries : List ℕ} (lists : List (List Datum)) (new : List ℕ)
    → Reads (SpellsVariants (variant_count shapes)) k old entries middle → ReadsPayloads shapes 0 entries middle lists new
    → Reads (Spells (choice_shape shapes)) k old (choices_of entries lists) new
reads_choices shapes {entries = entries} lists new q r =
    let ds = choices_of entries lists in
    let found : Recovers (variant_count shapes) entries lists ds = recovers (variant_count shapes) entries lists (record {
      lists_are = length-lists shapes 0 entries _ lists new r;
      known = q.spelled.known;
      enough = λ v below. length-lists_at shapes 0 entries _ lists new r v below ∙ ap (λ i. count_of i entries) (let e : 0 + v ≡ v = omega arith in e);
    }) in
    let spelled = spells_payloads shapes 0 entries _ lists new ds r
    (λ v below. ap (λ i. payloads i ds) (let e : 0 + v ≡ v = omega arith in e) ∙ found.payloads_are v below) in
    let are : map variant_entry ds ≡ map natural entries = sym (map-map natural variant_in ds) ∙ ap (map natural) found.variants_are in
    record {
      size = sym (length-map ds variant_in) ∙ ap length found.variants_are ∙ q.size;
      piece = q.piece ++ spelled.piece;
      whole = q.whole ∙ ap (λ x. q.piece ++ x) spelled.whole ∙ sym (append_assoc q.piece spelled.piece new);
      spelled = record {
        of_shape = choices_each (IsOfVariant shapes) entries lists (payloads_of_shape shapes 0 entries _ lists new r);
        counts = (tt, spelled.counts);
        columns = record {
          front = q.piece;
          back = spelled.piece;
          whole = refl;
          first = record { entries = entries; are = are; spelled = q.spelled };
          second = spelled.columns;
        };
      };
    }

-- ---- choices that were refused

payloads_read : (shapes : Shapes) (index : ℕ) (entries old new piece : List ℕ) (ds : List Datum) → All (IsPayloadFrom shapes index) ds → map variant_in ds ≡ entries
    → CountsFit (payload_columns shapes index ds) → SpellsColumns (payload_columns shapes index ds) piece → old ≡ piece ++ new
    → (lists : List (List Datum)) × ReadsPayloads shapes index entries old lists new
payloads_read no_shapes index entries old new piece ds each are counts c whole = ([], whole ∙ ap (λ x. x ++ new) c)
payloads_read (shape_and s ss) index entries old new piece ds each are counts c whole =
    let later = payloads_read ss (suc index) entries (c.back ++ new) new c.back ds (later_payloads s ss index ds each) are counts.1 c.second refl in (
      payloads index ds ∷ later.0,
      record {
        middle = c.back ++ new;
        first = record {
          size = length-payloads_of index ds ∙ ap (count_of index) are;
          piece = c.front;
          whole = whole ∙ ap (λ x. x ++ new) c.whole ∙ append_assoc c.front c.back new;
          spelled = record { of_shape = first_payloads s ss index ds each; counts = counts.0; columns = c.first };
        };
        behind = later.1;
      },
    )

-- a reading of choices is one of their variants and one of the payloads behind them
pub record ReadsBehindVariants (shapes : Shapes) (k : ℕ) (old new : List ℕ) (ds : List Datum) : Type 0 where
  pub middle : List ℕ
  pub lists : List (List Datum)
  pub first : Reads (SpellsVariants (variant_count shapes)) k old (map variant_in ds) middle
  pub behind : ReadsPayloads shapes 0 (map variant_in ds) middle lists new

pub reads_behind_variants : (shapes : Shapes) (k : ℕ) (old new : List ℕ) (ds : List Datum) → Reads (Spells (choice_shape shapes)) k old ds new
    → ReadsBehindVariants shapes k old new ds
reads_behind_variants shapes k old new ds r =
    let c = r.spelled.columns in
    let are : c.first.entries ≡ map variant_in ds =
    sym (naturals_in c.first.entries)
    ∙ ap (map natural_in) (sym c.first.are)
    ∙ map-map natural_in variant_entry ds in
    let found = payloads_read shapes 0 (map variant_in ds) (c.back ++ new) new c.back ds (payloads_from_0 shapes ds r.spelled.of_shape) refl
    r.spelled.counts.1 c.second refl in
    record {
      middle = c.back ++ new;
      lists = found.0;
      first = record {
        size = length-map ds variant_in ∙ r.size;
        piece = c.front;
        whole = r.whole ∙ ap (λ x. x ++ new) c.whole ∙ append_assoc c.front c.back new;
        spelled = subst (SpellsVariants (variant_count shapes) c.front) are c.first.spelled;
      };
      behind = found.1;
    }

variants_known : (count k : ℕ) (input : List ℕ) → IsReadingFault (variants_fault count k input)
variants_known count k input =
    let unknown : Option Reason = cond (list_all (is_variant_at count input) (range_with_len 0 k)) None (Some InvalidPacking) in
    cond_both (ltb (length input) (div_ceil k (digits_in_byte (base_for (count - 1))))) (Some Eof) unknown IsReadingFault (λ short. tt) λ enough.
    cond_both (list_all (is_variant_at count input) (range_with_len 0 k)) None (Some InvalidPacking) IsReadingFault (λ all. tt) (λ some. tt)

-- the variants were refused
module _ (shapes : Shapes) where
  pub refuses_variants : (reason : Reason) (k : ℕ) (old : List ℕ) → NamesVariantFault reason (variant_count shapes) k old
      → IsReadingRefusal (choice_shape shapes) reason k old
  refuses_variants reason k old (inl memory) = (subst IsReadingReason (sym memory.0) tt, λ other ds rest r. absurd (other memory.0))
  refuses_variants reason k old (inr named) = (
    subst IsReadingFault named (variants_known (variant_count shapes) k old),
    λ other ds rest r.
        let v = (reads_behind_variants shapes k old rest ds r).first in
        (variants_fault-refuses (variant_count shapes)).refused k old reason named v.piece (map variant_in ds) _ v.spelled v.size v.whole,
  )

-- the variants were read, and the payloads were refused
pub refuses_payloads : (shapes : Shapes) (reason : Reason) {k : ℕ} {old middle entries : List ℕ} → Reads (SpellsVariants (variant_count shapes)) k old entries middle
    → IsPayloadsRefusal shapes 0 entries reason middle → IsReadingRefusal (choice_shape shapes) reason k old
refuses_payloads shapes reason {k} {old} {middle} {entries} q h = (
  h.0,
  λ other ds rest r.
      let v = reads_behind_variants shapes k old rest ds r in
      let same = (SpellsVariants-unambiguous (variant_count shapes)).unambiguous v.first.piece q.piece (map variant_in ds) entries v.middle middle v.first.spelled q.spelled
      (v.first.size ∙ sym q.size) (sym v.first.whole ∙ q.whole) in
      h.1 other v.lists rest
      (subst (λ x. ReadsPayloads shapes 0 entries x v.lists rest) same.1
      (subst (λ x. ReadsPayloads shapes 0 x v.middle v.lists rest) same.0 v.behind)),
)

module _ (s : Shape) (ss : Shapes) (index : ℕ) (entries : List ℕ) (reason : Reason) where
  -- the first of the variants refused its payloads
  pub refuses_first : {input : List ℕ} → IsReadingRefusal s reason (count_of index entries) input → IsPayloadsRefusal (shape_and s ss) index entries reason input
  refuses_first {input} h = (h.0, refused)
    where
      refused : reason ≢ OutOfMemory → (lists : List (List Datum)) (rest : List ℕ) → ReadsPayloads (shape_and s ss) index entries input lists rest → ⊥
      refused other [] rest r = r
      refused other (ds ∷ lists) rest r = h.1 other ds r.middle r.first

  -- the payloads of the first were read, and those of a later one refused
  pub refuses_later : {input middle : List ℕ} {ds : List Datum} → Reads (Spells s) (count_of index entries) input ds middle
      → IsPayloadsRefusal ss (suc index) entries reason middle → IsPayloadsRefusal (shape_and s ss) index entries reason input
  refuses_later {input} {middle} {ds} q h = (h.0, refused)
    where
      refused : reason ≢ OutOfMemory → (lists : List (List Datum)) (rest : List ℕ) → ReadsPayloads (shape_and s ss) index entries input lists rest → ⊥
      refused other [] rest r = r
      refused other (es ∷ lists) rest r =
          let same = (Spells-unambiguous s).unambiguous r.first.piece q.piece es ds r.middle middle r.first.spelled q.spelled (r.first.size ∙ sym q.size) (sym r.first.whole ∙ q.whole) in
          h.1 other lists rest (subst (λ x. ReadsPayloads ss (suc index) entries x lists rest) same.1 r.behind)
