-- Shapes with a note: what is written and read of the shape in it, and what the note refuses.
use Rattle.std.proofs.Common.{◌≡◌, ◌⊎◌, inl, inr, ℕ, ◌≤◌, ◌<◌, true, List, length, map, refl, ap, sym, subst, ◌∙◌, arith}
use Rattle.std.specs.Prelude.{Result, nat_le}
use Rattle.std.specs.List.Sorted.{IsPermutation}
use Rattle.std.proofs.lemmas.Bool.{and_from, and_parts, le-leb, leb-true}
use Rattle.std.proofs.lemmas.List.{length-map}
use Rattle.std.proofs.lemmas.List.Sorted.{IsPermutation-map}
use Rattle.bitcode_memory.specs.declared.error.Error.{Error}
use Rattle.bitcode_memory.specs.declared.error.Reason.{Reason}
use Rattle.bitcode_memory.specs.declared.error.Reason.TheVariants.{InvalidArrayString}
use Rattle.bitcode_shapes.specs.Datum.{Datum, text, elements_in}
use Rattle.bitcode_coder.specs.Spelling.{natural}
use Rattle.bitcode_coder.specs.Transposition.{length_entry}
use Rattle.bitcode_untyped.specs.Machine.{State, Takes}
use Rattle.bitcode_untyped.specs.Nodes.{node_count}
use Rattle.bitcode_untyped.specs.Reads.{ReadsDatum}
use Rattle.bitcode_untyped.specs.ShapeTree.{Note, any_order, admits, ShapeTree, seq_tree, noted_tree, text_tree}
use Rattle.bitcode_untyped.specs.Walk.{Place, use_at, length_kind}
use Rattle.bitcode_untyped.proofs.OnceLemmas.{takes_one}
use Rattle.bitcode_untyped.proofs.ReadLemmas.{noted_read}
use Rattle.bitcode_serde.specs.Budget.{spend}
use Rattle.bitcode_serde.specs.ReadingValues.{EntersList, ReadsAt}
use Rattle.bitcode_serde.specs.Serializing.{Outcome}
use Rattle.bitcode_serde.specs.declared.budget.Budget.{Budget}
use Rattle.bitcode_serde.specs.declared.reader.Reader.{Reader}
use Rattle.bitcode_serde.specs.declared.writer.state.Writer.{Writer}
use Rattle.bitcode_serde.proofs.SerializeLemmas.{listed}
use Rattle.bitcode_serde.proofs.ValueLemmas.{noted_read_at, none_noted, none_admitted}
use Rattle.bitcode_serde.proofs.WalkLemmas.{noted_outcome}
use Rattle.bitcode_serde_types.specs.DeepFaults.{deep_faults}
use Rattle.bitcode_serde_types.specs.Heaps.{heap_tree}
use Rattle.bitcode_serde_types.specs.Limited.{is_within, has_length, limited_tree, fits_in, array_string_tree}
use Rattle.bitcode_serde_types.specs.Lists.{list_datum}
use Rattle.bitcode_serde_types.specs.ReadingAs.{ReadsAs}
use Rattle.bitcode_serde_types.specs.Refusals.{Refuses, IsReasonOf, IsRefusalAt}
use Rattle.bitcode_serde_types.proofs.KeptLemmas.{one_kept}
use Rattle.bitcode_serde_types.proofs.RefusalLemmas.{reason_up}

-- what is refused without the note is refused with it
pub note_refuses : (note : Note) (s : ShapeTree) (why : Reason) → Refuses s why → Refuses (noted_tree note s) why
note_refuses any_order s why h = h
note_refuses (admits check reason) s why h = inr h

pub noted_refused_too : (note : Note) (s : ShapeTree) (place : ℕ) (old : Reader) (why : Reason) → IsRefusalAt s place old why
    → IsRefusalAt (noted_tree note s) place old why
noted_refused_too note s place old why h = (
  reason_up s (noted_tree note s) why (note_refuses note s why) h.0,
  λ other. none_noted note s place old (h.1 other),
)

-- ---- lists of limited length

pub within : (least most n : ℕ) → least ≤ n → n ≤ most → is_within least most n ≡ true
within least most n low high = and_from (nat_le least n) (nat_le n most) (le-leb least n low) (le-leb n most high)

pub not_within : (least most n : ℕ) → (n < least) ⊎ (most < n) → is_within least most n ≡ true → ⊥
not_within least most n out h =
    let both = and_parts (nat_le least n) (nat_le n most) h in
    let low = leb-true least n both.0 in
    let high = leb-true n most both.1 in
    elim out [
      | inl less ↦ omega (arith, low, less)
      | inr more ↦ omega (arith, high, more)
    ]

-- the length that was taken is that of the list
taken_length : (s : ShapeTree) (p : Place) (a b c : State) (n : ℕ) (d : Datum) → Takes a (use_at p length_kind (natural n)) b → ReadsDatum (seq_tree s) p a d c
    → n ≡ length (elements_in d)
taken_length s p a b c n d taken r =
    let h = takes_one a b r.runs.0 p length_kind (natural n) (length_entry d) taken r.runs.1 in
    cc

module _ (s : ShapeTree) {old mid : Reader} {place inside n : ℕ} (least most : ℕ) (reason : Reason) (enters : EntersList old mid place inside n) where
  pub limited_refused : (n < least) ⊎ (most < n) → IsReasonOf (limited_tree least most reason s) reason → IsRefusalAt (limited_tree least most reason s) place old reason
  limited_refused out known = (
    known,
    λ other p at a st d c r.
        let entered = enters.goes p at a st in
        let same = taken_length s p a entered.0 c n d entered.2.0 (record { is = (r.is.0.0, r.is.1); runs = r.runs }) in
        not_within least most n out (subst (λ m. is_within least most m ≡ true) (sym same) r.is.0.1),
  )

  pub limited_kept : {A : Type 0} (f : A → Datum) (before after : Budget) (t : A) (new : Reader) → least ≤ n → n ≤ most
      → ReadsAs f (seq_tree s) place old before t new after → ReadsAs f (limited_tree least most reason s) place old before t new after
  limited_kept f before after t new low high k = record {
    datum = k.datum;
    read = λ p at a st.
        let r = k.read p at a st in
        let entered = enters.goes p at a st in
        let same = taken_length s p a entered.0 r.0 n k.datum entered.2.0 r.2 in (
          r.0,
          r.1,
          noted_read (has_length least most reason) (seq_tree s) p a k.datum r.0
              (subst (λ m. is_within least most m ≡ true) same (within least most n low high)) r.2,
        );
    taken = k.taken;
    same = k.same;
  }

pub limited_written : {A B : Type 0} (s : ShapeTree) (f : A → Datum) (least most : ℕ) (reason : Reason) (old : Writer) (n : ℕ) (xs ys : List A)
    (r : Result B Error) (new : Writer) → xs ≡ ys → least ≤ length ys → length ys ≤ most
    → Outcome old (seq_tree s) n (list_datum f xs) (deep_faults (seq_tree s) (list_datum f xs)) r new
    → Outcome old (limited_tree least most reason s) n (list_datum f ys) (deep_faults (seq_tree s) (list_datum f ys)) r new
limited_written s f least most reason old n xs ys r new same low high o =
    let size : length ys ≡ length (elements_in (list_datum f ys)) = sym (ap length (listed (map f ys)) ∙ length-map ys f) in
    noted_outcome (has_length least most reason) old new (seq_tree s) n (list_datum f ys) (deep_faults (seq_tree s) (list_datum f ys)) r
    (subst (λ m. is_within least most m ≡ true) size (within least most (length ys) low high))
    (subst (λ zs. Outcome old (seq_tree s) n (list_datum f zs) (deep_faults (seq_tree s) (list_datum f zs)) r new) same o)

-- ---- texts of limited length

module _ (capacity place : ℕ) (old new : Reader) (bytes : List ℕ) (read : ReadsAt text_tree place old (text bytes) new) where
  pub short_text_kept : {A : Type 0} (f : A → Datum) (before after : Budget) (a : A) → f a ≡ text bytes → after ≡ spend 1 before → length bytes ≤ capacity
      → ReadsAs f (array_string_tree capacity) place old before a new after
  short_text_kept f before after a is taken fits =
      one_kept f (λ d. ReadsAt (array_string_tree capacity) place old d new) before after a (ap node_count is) taken
      (subst (λ d. ReadsAt (array_string_tree capacity) place old d new) (sym is)
      (noted_read_at (fits_in capacity) text_tree place old (text bytes) new (le-leb (length bytes) capacity fits) read))

  pub long_text_refused : (length bytes ≤ capacity → ⊥) → IsRefusalAt (array_string_tree capacity) place old InvalidArrayString
  long_text_refused long = (
    inl refl,
    λ other. none_admitted (fits_in capacity) text_tree place old (text bytes) new read (λ h. long (leb-true (length bytes) capacity h)),
  )

-- ---- heaps

pub heap_written : {A B : Type 0} (s : ShapeTree) (f : A → Datum) (old : Writer) (n : ℕ) (xs ys : List A) (r : Result B Error) (new : Writer) → xs ≡ ys
    → Outcome old (seq_tree s) n (list_datum f xs) (deep_faults (seq_tree s) (list_datum f xs)) r new
    → Outcome old (heap_tree s) n (list_datum f ys) (deep_faults (seq_tree s) (list_datum f ys)) r new
heap_written s f old n xs ys r new same o =
    noted_outcome any_order old new (seq_tree s) n (list_datum f ys) (deep_faults (seq_tree s) (list_datum f ys)) r tt
    (subst (λ zs. Outcome old (seq_tree s) n (list_datum f zs) (deep_faults (seq_tree s) (list_datum f zs)) r new) same o)

pub heap_kept : {A B : Type 0} (f : A → Datum) (s : ShapeTree) (place : ℕ) (old new : Reader) (before after : Budget) (values : B → List A) (b : B) {C : Type 0}
    (items : C → List A) (c : C) → IsPermutation (values b) (items c) → ReadsAs (λ b. list_datum f (values b)) (seq_tree s) place old before b new after
    → ReadsAs (λ c. list_datum f (items c)) (heap_tree s) place old before c new after
heap_kept f s place old new before after values b items c moved k = record {
  datum = k.datum;
  read = noted_read_at any_order (seq_tree s) place old k.datum new tt k.read;
  taken = k.taken;
  same = λ left. (
    list_datum f (values b),
    k.same left,
    record { first = map f (values b); second = map f (items c); of_first = refl; of_second = refl; reordered = IsPermutation-map f (values b) (items c) moved },
  );
}
