-- Choices are written as their variants, and then the payloads of each variant.
use Rattle.std.proofs.Common.{◌≡◌, ℕ, zero, suc, ◌+◌, ◌<◌, Bool, true, false, ◌==◌, Option, Some, None, List, [], ◌∷◌, ◌++◌, length, map, filter, slice_get, refl, sym, ap, ap₂, subst, ◌∙◌, inl, inr, append_assoc, append-nil, arith, All}
use Rattle.std.proofs.lemmas.List.Elements.{All-nil, All-cons, All-head, All-tail}
use Rattle.std.proofs.lemmas.Bool.{cases_Bool, eq-eqb, eqb-true}
use Rattle.bitcode_shapes.specs.Datum.{Datum, choice, variant_in, payload_in, natural_in}
use Rattle.bitcode_shapes.specs.Shape.{choice_shape, variant_count, IsOf, IsOfVariant, IsChoiceOf}
use Rattle.bitcode_columns.specs.VariantColumn.{variant_text}
use Rattle.bitcode_coder.specs.Columns.{CountsFit}
use Rattle.bitcode_coder.specs.Spelling.{natural, columns_bytes}
use Rattle.bitcode_coder.specs.Transposition.{columns_of, payload_columns, payloads, variant_entry}
use Rattle.bitcode_coder.proofs.LengthPartLemmas.{naturals_in}
use Rattle.bitcode_schema.specs.Choosing.{Payload, shapes_from, payload_of, chosen, of_variant, WritesPayloads}
use Rattle.bitcode_schema.specs.Forms.{changed}
use Rattle.bitcode_schema.specs.Views.{Hold}
use Rattle.bitcode_schema.specs.Writing.{AreOf, Writes, HasStranger}
use Rattle.bitcode_schema.proofs.HoldLemmas.{some_same, hold_once}

-- ---- numbers

pub is_itself : (n : ℕ) → (n == n) ≡ true
is_itself n = eq-eqb n n refl

pub same_number : (m n : ℕ) → (m == n) ≡ true → m ≡ n
same_number m n e = eqb-true m n e

-- ---- the first of some items

module _ {A : Type 0} (test : A → Bool) where
  pub filter-first : (a : A) (items : List A) → test a ≡ true → filter test (a ∷ items) ≡ a ∷ filter test items
  filter-first a items e = rw e refl

  pub filter-not_first : (a : A) (items : List A) → test a ≡ false → filter test (a ∷ items) ≡ filter test items
  filter-not_first a items e = rw e refl

-- ---- the payloads of variants

pub variant_count-from : {A : Type 0} (ps : List (Payload A)) → variant_count (shapes_from ps) ≡ length ps
variant_count-from [] = refl
variant_count-from (p ∷ ps) = ap suc (variant_count-from ps)

variant_shape : {A : Type 0} (ps : List (Payload A)) (i : ℕ) (p : Payload A) (d : Datum) → slice_get ps i ≡ Some p → IsOf p.shape d → IsOfVariant (shapes_from ps) i d
variant_shape [] i p d there is = cc
variant_shape (q ∷ ps) zero p d there is = let e : q ≡ p = cc in subst (λ r. IsOf r.shape d) (sym e) is
variant_shape (q ∷ ps) (suc i) p d there is = variant_shape ps i p d there is

shape_variant : {A : Type 0} (ps : List (Payload A)) (i : ℕ) (p : Payload A) (d : Datum) → slice_get ps i ≡ Some p → IsOfVariant (shapes_from ps) i d → IsOf p.shape d
shape_variant [] i p d there is = cc
shape_variant (q ∷ ps) zero p d there is = let e : q ≡ p = cc in subst (λ r. IsOf r.shape d) e is
shape_variant (q ∷ ps) (suc i) p d there is = shape_variant ps i p d there is

pub there_below : {A : Type 0} (ps : List A) (i : ℕ) → i < length ps → (p : A) × (slice_get ps i ≡ Some p)
there_below [] i below = absurd (omega arith)
there_below (p ∷ ps) zero below = (p, refl)
there_below (p ∷ ps) (suc i) below = there_below ps i (let k : suc i < suc (length ps) = below in omega arith)

pub below_there : {A : Type 0} (ps : List A) (i : ℕ) (p : A) → slice_get ps i ≡ Some p → i < length ps
below_there [] i p there = cc
below_there (q ∷ ps) zero p there = omega arith
below_there (q ∷ ps) (suc i) p there = let k = below_there ps i p there in omega arith

record IsPayload {A : Type 0} (o : Option (Payload A)) (i : ℕ) (item : A) (d : Datum) : Type 0 where
  payload : Payload A
  held : Datum
  there : o ≡ Some payload
  gives : payload.content item ≡ Some held
  is : d ≡ choice i held

is_payload : {A : Type 0} (o : Option (Payload A)) (i : ℕ) (item : A) (d : Datum) → payload_of o i item ≡ Some d → IsPayload o i item d
is_payload (Some p) i item d e = split (p.content item) refl
  where
    split : (o : Option Datum) → p.content item ≡ o → IsPayload (Some p) i item d
    split (Some held) h = record { payload = p; held = held; there = refl; gives = h; is = sym (some_same (sym (ap (changed (choice i)) h) ∙ e)) }
    split None h = let never : None ≡ Some d = sym (ap (changed (choice i)) h) ∙ e in cc
is_payload None i item d e = cc

module _ {A : Type 0} (variant : A → ℕ) (ps : List (Payload A)) where
  variants_held : (items : List A) (ds : List Datum) → Hold (chosen variant ps) items ds → map variant_entry ds ≡ map natural (map variant items)
  variants_held [] [] h = refl
  variants_held [] (d ∷ ds) h = absurd h
  variants_held (a ∷ items) [] h = absurd h
  variants_held (a ∷ items) (d ∷ ds) h =
      let p = is_payload (slice_get ps (variant a)) (variant a) a d h.0 in
      ap₂ (λ x xs. x ∷ xs) (ap variant_entry p.is) (variants_held items ds h.1)

  pub variants_below : (items : List A) (ds : List Datum) → Hold (chosen variant ps) items ds → All (λ a. variant a < length ps) items
  variants_below [] ds h = All-nil (λ a. variant a < length ps)
  variants_below (a ∷ items) [] h = absurd h
  variants_below (a ∷ items) (d ∷ ds) h =
      let p = is_payload (slice_get ps (variant a)) (variant a) a d h.0 in
      All-cons (λ b. variant b < length ps) a items (below_there ps (variant a) p.payload p.there) (variants_below items ds h.1)

  -- the payloads of one variant are those of its items
  payloads_held : (i : ℕ) (p : Payload A) → slice_get ps i ≡ Some p → (items : List A) (ds : List Datum) → Hold (chosen variant ps) items ds
      → Hold p.content (of_variant variant i items) (payloads i ds)
  payloads_held i p there [] [] h = tt
  payloads_held i p there [] (d ∷ ds) h = absurd h
  payloads_held i p there (a ∷ items) [] h = absurd h
  payloads_held i p there (a ∷ items) (d ∷ ds) h =
      let q = is_payload (slice_get ps (variant a)) (variant a) a d h.0 in
      let rest = payloads_held i p there items ds h.1 in
      elim (cases_Bool (variant a == i)) [
        | inl same_one ↦
            let here : variant a ≡ i = same_number (variant a) i same_one in
            let mine : q.payload ≡ p = some_same (sym q.there ∙ ap (slice_get ps) here ∙ there) in
            let of_d : (variant_in d == i) ≡ true = ap (λ e. variant_in e == i) q.is ∙ same_one in
            let held : p.content a ≡ Some (payload_in d) = ap (λ r. r.content a) (sym mine) ∙ q.gives ∙ ap (λ e. Some (payload_in e)) (sym q.is) in
            subst (λ xs. Hold p.content xs (payloads i (d ∷ ds))) (sym (filter-first (λ b. variant b == i) a items same_one))
            (subst (λ es. Hold p.content (a ∷ of_variant variant i items) (map payload_in es)) (sym (filter-first (λ e. variant_in e == i) d ds of_d)) (held, rest))
        | inr other_one ↦
            let of_d : (variant_in d == i) ≡ false = ap (λ e. variant_in e == i) q.is ∙ other_one in
            subst (λ xs. Hold p.content xs (payloads i (d ∷ ds))) (sym (filter-not_first (λ b. variant b == i) a items other_one))
            (subst (λ es. Hold p.content (of_variant variant i items) (map payload_in es)) (sym (filter-not_first (λ e. variant_in e == i) d ds of_d)) rest)
      ]

  payloads_are : (i : ℕ) (p : Payload A) → slice_get ps i ≡ Some p → (ds : List Datum) → All (IsChoiceOf (IsOfVariant (shapes_from ps))) ds → All (IsOf p.shape) (payloads i ds)
  payloads_are i p there [] each = All-nil (IsOf p.shape)
  payloads_are i p there (d ∷ ds) each =
      let is = All-head (IsChoiceOf (IsOfVariant (shapes_from ps))) d ds each in
      let rest = payloads_are i p there ds (All-tail (IsChoiceOf (IsOfVariant (shapes_from ps))) d ds each) in
      elim (cases_Bool (variant_in d == i)) [
        | inl same_one ↦
            let here : is.index ≡ i = sym (ap variant_in is.is) ∙ same_number (variant_in d) i same_one in
            let one : IsOf p.shape (payload_in d) = subst (IsOf p.shape) (sym (ap payload_in is.is))
            (shape_variant ps i p is.payload there (subst (λ n. IsOfVariant (shapes_from ps) n is.payload) here is.is_variant)) in
            subst (λ es. All (IsOf p.shape) (map payload_in es)) (sym (filter-first (λ e. variant_in e == i) d ds same_one)) (All-cons (IsOf p.shape) (payload_in d) (payloads i ds) one rest)
        | inr other_one ↦ subst (λ es. All (IsOf p.shape) (map payload_in es)) (sym (filter-not_first (λ e. variant_in e == i) d ds other_one)) rest
      ]

  pub stranger_of_variant : (items : List A) (i : ℕ) (p : Payload A) → slice_get ps i ≡ Some p → HasStranger p.content p.shape (of_variant variant i items)
      → HasStranger (chosen variant ps) (choice_shape (shapes_from ps)) items
  stranger_of_variant items i p there stranger ds are =
      stranger (payloads i ds) (record { held = payloads_held i p there items ds are.held; of_shape = payloads_are i p there ds are.of_shape })

  pub stranger_variant : (items : List A) → (All (λ a. variant a < length ps) items → ⊥) → HasStranger (chosen variant ps) (choice_shape (shapes_from ps)) items
  stranger_variant items out ds are = out (variants_below items ds are.held)

  -- ---- the data of choices, of whose payloads there are data

  -- some items have data of a payload
  abbrev HaveData : Payload A → List A → Type 0
  HaveData p items = (ds : List Datum) × AreOf p.content p.shape items ds

  abbrev Listings : List A → Type 0
  Listings items = (i : ℕ) (p : Payload A) → slice_get ps i ≡ Some p → HaveData p (of_variant variant i items)

  without_first : (p : Payload A) (a : A) (items : List A) (ds : List Datum) → AreOf p.content p.shape (a ∷ items) ds → HaveData p items
  without_first p a items [] are = absurd are.held
  without_first p a items (d ∷ ds) are = (ds, record { held = are.held.1; of_shape = All-tail (IsOf p.shape) d ds are.of_shape })

  first_of_all : (p : Payload A) (a : A) (items : List A) (ds : List Datum) → AreOf p.content p.shape (a ∷ items) ds
      → (d : Datum) × ((p.content a ≡ Some d) × IsOf p.shape d)
  first_of_all p a items [] are = absurd are.held
  first_of_all p a items (d ∷ ds) are = (d, (are.held.0, All-head (IsOf p.shape) d ds are.of_shape))

  rest_listings : (a : A) (items : List A) → Listings (a ∷ items) → Listings items
  rest_listings a items all i p there =
      let mine = all i p there in
      elim (cases_Bool (variant a == i)) [
        | inl same_one ↦
            let whole = filter-first (λ b. variant b == i) a items same_one in
            without_first p a (of_variant variant i items) mine.0 (subst (λ xs. AreOf p.content p.shape xs mine.0) whole mine.1)
        | inr other_one ↦ (mine.0, subst (λ xs. AreOf p.content p.shape xs mine.0) (filter-not_first (λ b. variant b == i) a items other_one) mine.1)
      ]

  deal : (items : List A) → All (λ a. variant a < length ps) items → Listings items
      → (ds : List Datum) × AreOf (chosen variant ps) (choice_shape (shapes_from ps)) items ds
  deal [] below all = ([], record { held = tt; of_shape = All-nil (IsChoiceOf (IsOfVariant (shapes_from ps))) })
  deal (a ∷ items) below all =
      let i = variant a in
      let there = there_below ps i (All-head (λ b. variant b < length ps) a items below) in
      let mine = all i there.0 there.1 in
      let whole = filter-first (λ b. variant b == i) a items (is_itself i) in
      let one = first_of_all there.0 a (of_variant variant i items) mine.0 (subst (λ xs. AreOf there.0.content there.0.shape xs mine.0) whole mine.1) in
      let rest = deal items (All-tail (λ b. variant b < length ps) a items below) (rest_listings a items all) in (
        choice i one.0 ∷ rest.0,
        record {
          held = (ap (λ o. payload_of o i a) there.1 ∙ ap (changed (choice i)) one.1.0, rest.1.held);
          of_shape = All-cons (IsChoiceOf (IsOfVariant (shapes_from ps))) (choice i one.0) rest.0
              (record { index = i; payload = one.0; is = refl; is_variant = variant_shape ps i there.0 one.0 there.1 one.1.1 }) rest.1.of_shape;
        },
      )

  listings_of : (qs : List (Payload A)) (k : ℕ) (items : List A) (old new : List ℕ) → WritesPayloads variant qs k items old new
      → (i : ℕ) (p : Payload A) → slice_get qs i ≡ Some p → HaveData p (of_variant variant (k + i) items)
  listings_of [] k items old new w i p there = cc
  listings_of (q ∷ qs) k items old new w zero p there =
      let e : q ≡ p = cc in
      let here : k ≡ k + zero = omega arith in
      subst (λ r. HaveData r (of_variant variant (k + zero) items)) e
      (subst (λ n. HaveData q (of_variant variant n items)) here (w.1.0.contents, w.1.0.are))
  listings_of (q ∷ qs) k items old new w (suc i) p there =
      let here : suc k + i ≡ k + suc i = omega arith in
      subst (λ n. HaveData p (of_variant variant n items)) here (listings_of qs (suc k) items w.0 new w.1.1 i p there)

  payloads_written : (qs : List (Payload A)) (k : ℕ) → ((i : ℕ) (p : Payload A) → slice_get qs i ≡ Some p → slice_get ps (k + i) ≡ Some p)
      → (items : List A) (ds : List Datum) → Hold (chosen variant ps) items ds → (old new : List ℕ) → WritesPayloads variant qs k items old new
      → CountsFit (payload_columns (shapes_from qs) k ds) × (new ≡ old ++ columns_bytes (payload_columns (shapes_from qs) k ds))
  payloads_written [] k suffix items ds h old new w = (tt, w ∙ sym (append-nil old))
  payloads_written (q ∷ qs) k suffix items ds h old new w =
      let first = w.1.0 in
      let here : k + zero ≡ k = omega arith in
      let there : slice_get ps k ≡ Some q = subst (λ n. slice_get ps n ≡ Some q) here (suffix zero q refl) in
      let same : first.contents ≡ payloads k ds =
      hold_once q.content (of_variant variant k items) first.contents (payloads k ds) first.are.held (payloads_held k q there items ds h) in
      let rest = payloads_written qs (suc k) (λ i p e. let next : k + suc i ≡ suc k + i = omega arith in subst (λ n. slice_get ps n ≡ Some p) next (suffix (suc i) p e)) items ds h w.0 new w.1.1 in
      let text = columns_bytes (columns_of q.shape first.contents) in
      let more = columns_bytes (payload_columns (shapes_from qs) (suc k) ds) in (
        (subst (λ es. CountsFit (columns_of q.shape es)) same first.counts, rest.0),
        rest.1 ∙ ap (λ bytes. bytes ++ more) first.written ∙ append_assoc old text more
            ∙ ap (λ es. old ++ (columns_bytes (columns_of q.shape es) ++ more)) same,
      )

  pub writes_choices : (items : List A) (old middle new : List ℕ) → All (λ a. variant a < length ps) items
      → middle ≡ old ++ variant_text (length ps) (map variant items) → WritesPayloads variant ps 0 items middle new
      → Writes (chosen variant ps) (choice_shape (shapes_from ps)) items old new
  writes_choices items old middle new below written w =
      let dealt = deal items below (λ i p there. let here : 0 + i ≡ i = omega arith in subst (λ n. HaveData p (of_variant variant n items)) here (listings_of ps 0 items middle new w i p there)) in
      let rest = payloads_written ps 0 (λ i p e. let here : i ≡ 0 + i = omega arith in subst (λ n. slice_get ps n ≡ Some p) here e) items dealt.0 dealt.1.held middle new w in
      let more = columns_bytes (payload_columns (shapes_from ps) 0 dealt.0) in
      let entries = ap (map natural_in) (variants_held items dealt.0 dealt.1.held) ∙ naturals_in (map variant items) in
      record {
        contents = dealt.0;
        are = dealt.1;
        counts = (tt, rest.0);
        written = rest.1 ∙ ap (λ bytes. bytes ++ more) written ∙ append_assoc old (variant_text (length ps) (map variant items)) more
            ∙ ap (λ text. old ++ (text ++ more)) (ap₂ variant_text (sym (variant_count-from ps)) (sym entries));
      }
