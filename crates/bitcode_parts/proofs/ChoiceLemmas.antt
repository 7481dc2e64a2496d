-- Choices are known by their variants and by the payloads of each variant.
use Rattle.std.proofs.Common.{◌≡◌, ◌≢◌, ℕ, suc, ◌+◌, ◌<◌, cond, eqb, List, [], ◌∷◌, length, map, filter, set, All, refl, sym, ap, subst, ◌∙◌, arith, ⊎_elim, eq-eqb, length-set, get_or-set_same, get_or-set_other}
use Rattle.std.specs.List.{sum}
use Rattle.std.proofs.lemmas.Bool.{cases_eq, cases_lt, ne_eqb, cond-true, cond-false}
use Rattle.std.proofs.lemmas.List.{nil_from_length, get_or_past, length-map}
use Rattle.std.proofs.lemmas.List.Elements.{All-nil, All-cons, All-head, All-tail}
use Rattle.std.proofs.lemmas.List.Sums.{sum_by-cons, sum-map, length-filter}
use Rattle.std.proofs.lemmas.Simd.{map-map}
use Rattle.bitcode_columns.specs.Histogram.{count_of}
use Rattle.bitcode_shapes.specs.Datum.{Datum, choice, variant_in, payload_in}
use Rattle.bitcode_shapes.specs.Shape.{IsChoiceOf}
use Rattle.bitcode_coder.specs.Transposition.{payloads}
use Rattle.bitcode_parts.specs.Payloads.{payloads_of, next_choice, choices_of}

-- ---- counts

count_of-cons : (value entry : ℕ) (entries : List ℕ) → count_of value (entry ∷ entries) ≡ cond (eqb entry value) 1 0 + count_of value entries
count_of-cons value entry entries = sum_by-cons (λ e. cond (eqb e value) 1 0) entry entries

pub count_of-same : (value : ℕ) (entries : List ℕ) → count_of value (value ∷ entries) ≡ suc (count_of value entries)
count_of-same value entries =
    let one : cond {A = ℕ} (eqb value value) 1 0 ≡ 1 = cond-true _ _ _ (eq-eqb value value refl) in
    count_of-cons value value entries ∙ ap (λ n. n + count_of value entries) one ∙ omega arith

pub count_of-other : (value entry : ℕ) (entries : List ℕ) → entry ≢ value → count_of value (entry ∷ entries) ≡ count_of value entries
count_of-other value entry entries other =
    let none : cond {A = ℕ} (eqb entry value) 1 0 ≡ 0 = cond-false _ _ _ (ne_eqb entry value other) in
    count_of-cons value entry entries ∙ ap (λ n. n + count_of value entries) none ∙ omega arith

-- ---- payloads of a variant

pub payloads-same : (variant : ℕ) (d : Datum) (ds : List Datum) → payloads variant (choice variant d ∷ ds) ≡ d ∷ payloads variant ds
payloads-same variant d ds = ap (map payload_in) (cond-true _ _ _ (eq-eqb variant variant refl))

pub payloads-other : (variant other : ℕ) (d : Datum) (ds : List Datum) → other ≢ variant → payloads variant (choice other d ∷ ds) ≡ payloads variant ds
payloads-other variant other d ds ne = ap (map payload_in) (cond-false _ _ _ (ne_eqb other variant ne))

-- as many as there are of the variant
pub length-payloads_of : (variant : ℕ) (ds : List Datum) → length (payloads variant ds) ≡ count_of variant (map variant_in ds)
length-payloads_of variant ds =
    length-map (filter (λ d. eqb (variant_in d) variant) ds) payload_in
    ∙ length-filter (λ d. eqb (variant_in d) variant) ds
    ∙ sym (sum-map (λ d. cond (eqb (variant_in d) variant) 1 0) ds)
    ∙ ap sum (sym (map-map (λ e. cond (eqb e variant) 1 0) variant_in ds))
    ∙ sum-map (λ e. cond (eqb e variant) 1 0) (map variant_in ds)

-- ---- choices of variants and payloads

-- the variant that comes has a payload
pub choices_of-next : (variant : ℕ) (variants : List ℕ) (lists : List (List Datum)) (first : Datum) (rest : List Datum) → payloads_of variant lists ≡ first ∷ rest
    → choices_of (variant ∷ variants) lists ≡ choice variant first ∷ choices_of variants (set lists variant rest)
choices_of-next variant variants lists first rest is = ap (λ ds. next_choice variant ds (λ left. choices_of variants (set lists variant left))) is

-- no payload is left of it
pub choices_of-none : (variant : ℕ) (variants : List ℕ) (lists : List (List Datum)) → payloads_of variant lists ≡ [] → choices_of (variant ∷ variants) lists ≡ []
choices_of-none variant variants lists is = ap (λ ds. next_choice variant ds (λ left. choices_of variants (set lists variant left))) is

-- a variant of which a payload is left has a list
list_is_there : (variant : ℕ) (lists : List (List Datum)) (first : Datum) (rest : List Datum) → payloads_of variant lists ≡ first ∷ rest → variant < length lists
list_is_there variant lists first rest is =
    ⊎_elim (λ there. there)
    (λ past. let none : payloads_of variant lists ≡ [] = get_or_past lists variant [] past in absurd (cc))
    (cases_lt variant (length lists))

-- where one payload was taken
left_same : (variant : ℕ) (lists : List (List Datum)) (rest : List Datum) → variant < length lists → payloads_of variant (set lists variant rest) ≡ rest
left_same variant lists rest there = get_or-set_same lists variant rest [] there

left_other : (variant other : ℕ) (lists : List (List Datum)) (rest : List Datum) → other ≢ variant → payloads_of other (set lists variant rest) ≡ payloads_of other lists
left_other variant other lists rest ne = get_or-set_other lists variant other rest [] ne

-- payloads of each variant, as many as there are of it
pub record AreEnough (count : ℕ) (variants : List ℕ) (lists : List (List Datum)) : Type 0 where
  pub lists_are : length lists ≡ count
  pub known : All (λ variant. variant < count) variants
  pub enough : (variant : ℕ) → variant < count → length (payloads_of variant lists) ≡ count_of variant variants

-- what choices are made of is found in them
pub record Recovers (count : ℕ) (variants : List ℕ) (lists : List (List Datum)) (ds : List Datum) : Type 0 where
  pub variants_are : map variant_in ds ≡ variants
  pub payloads_are : (variant : ℕ) → variant < count → payloads variant ds ≡ payloads_of variant lists

recovers_none : (count : ℕ) (lists : List (List Datum)) → AreEnough count [] lists → Recovers count [] lists []
recovers_none count lists h = record {
  variants_are = refl;
  payloads_are = λ variant below. sym (nil_from_length (payloads_of variant lists) (h.enough variant below));
}

module _ (count variant : ℕ) (variants : List ℕ) (lists : List (List Datum)) (first : Datum) (rest : List Datum)
    (h : AreEnough count (variant ∷ variants) lists) (is : payloads_of variant lists ≡ first ∷ rest) where
  there : variant < length lists
  there = list_is_there variant lists first rest is

  enough_left : AreEnough count variants (set lists variant rest)
  enough_left = record {
    lists_are = length-set lists variant rest ∙ h.lists_are;
    known = All-tail (λ v. v < count) variant variants h.known;
    enough = λ other below.
        ⊎_elim
        (λ same.
        let at : length (payloads_of variant (set lists variant rest)) ≡ count_of variant variants =
        ap length (left_same variant lists rest there)
        ∙ (let size : length rest ≡ count_of variant variants =
        omega (arith, ap length is, h.enough variant (subst (λ v. v < count) same below), count_of-same variant variants) in
        size) in
        subst (λ v. length (payloads_of v (set lists variant rest)) ≡ count_of v variants) (sym same) at)
        (λ ne.
        ap length (left_other variant other lists rest ne) ∙ h.enough other below ∙ count_of-other other variant variants (λ e. ne (sym e)))
        (cases_eq other variant);
  }

  recovers_more : (ds : List Datum) → Recovers count variants (set lists variant rest) ds → Recovers count (variant ∷ variants) lists (choice variant first ∷ ds)
  recovers_more ds r = record {
    variants_are = ap (λ vs. variant ∷ vs) r.variants_are;
    payloads_are = λ other below.
        ⊎_elim
        (λ same.
        let at : payloads variant (choice variant first ∷ ds) ≡ payloads_of variant lists =
        payloads-same variant first ds
        ∙ ap (λ xs. first ∷ xs) (r.payloads_are variant (subst (λ v. v < count) same below) ∙ left_same variant lists rest there)
        ∙ sym is in
        subst (λ v. payloads v (choice variant first ∷ ds) ≡ payloads_of v lists) (sym same) at)
        (λ ne.
        payloads-other other variant first ds (λ e. ne (sym e)) ∙ r.payloads_are other below ∙ left_other variant other lists rest ne)
        (cases_eq other variant);
  }

-- what is there of a variant that comes
first_payload : (variant : ℕ) (lists : List (List Datum)) → 0 < length (payloads_of variant lists)
    → (first : Datum) × ((rest : List Datum) × (payloads_of variant lists ≡ first ∷ rest))
first_payload variant lists some = split (payloads_of variant lists) some refl
  where
    split : (ds : List Datum) → 0 < length ds → payloads_of variant lists ≡ ds
        → (first : Datum) × ((rest : List Datum) × (payloads_of variant lists ≡ first ∷ rest))
    split [] none is = absurd (omega arith)
    split (d ∷ ds) more is = (d, (ds, is))

pub recovers : (count : ℕ) (variants : List ℕ) (lists : List (List Datum)) → AreEnough count variants lists → Recovers count variants lists (choices_of variants lists)
recovers count [] lists h = recovers_none count lists h
recovers count (variant ∷ variants) lists h =
    let below : variant < count = All-head (λ v. v < count) variant variants h.known in
    let some : 0 < length (payloads_of variant lists) = omega (arith, h.enough variant below, count_of-same variant variants) in
    let found = first_payload variant lists some in
    let left = enough_left count variant variants lists found.0 found.1.0 h found.1.1 in
    let more = recovers_more count variant variants lists found.0 found.1.0 h found.1.1 (choices_of variants (set lists variant found.1.0))
    (recovers count variants (set lists variant found.1.0) left) in
    subst (Recovers count (variant ∷ variants) lists) (sym (choices_of-next variant variants lists found.0 found.1.0 found.1.1)) more

-- choices of payloads that are each of their variant
module _ (P : ℕ → Datum → Type 0) where
  each_left : (variant : ℕ) (lists : List (List Datum)) (first : Datum) (rest : List Datum) → payloads_of variant lists ≡ first ∷ rest
      → ((v : ℕ) → All (P v) (payloads_of v lists)) → (v : ℕ) → All (P v) (payloads_of v (set lists variant rest))
  each_left variant lists first rest is h v =
      ⊎_elim
      (λ same.
      let at : All (P variant) (payloads_of variant (set lists variant rest)) =
      subst (All (P variant)) (sym (left_same variant lists rest (list_is_there variant lists first rest is)))
      (All-tail (P variant) first rest (subst (All (P variant)) is (h variant))) in
      subst (λ w. All (P w) (payloads_of w (set lists variant rest))) (sym same) at)
      (λ ne. subst (All (P v)) (sym (left_other variant v lists rest ne)) (h v))
      (cases_eq v variant)

  next_each : (variant : ℕ) (variants : List ℕ) (lists : List (List Datum)) → ((v : ℕ) → All (P v) (payloads_of v lists))
      → ((left : List (List Datum)) → ((v : ℕ) → All (P v) (payloads_of v left)) → All (IsChoiceOf P) (choices_of variants left))
      → (ds : List Datum) → payloads_of variant lists ≡ ds → All (IsChoiceOf P) (choices_of (variant ∷ variants) lists)
  next_each variant variants lists h later [] is = subst (All (IsChoiceOf P)) (sym (choices_of-none variant variants lists is)) (All-nil (IsChoiceOf P))
  next_each variant variants lists h later (d ∷ ds) is =
      subst (All (IsChoiceOf P)) (sym (choices_of-next variant variants lists d ds is))
      (All-cons (IsChoiceOf P) (choice variant d) (choices_of variants (set lists variant ds))
      (record { index = variant; payload = d; is = refl; is_variant = All-head (P variant) d ds (subst (All (P variant)) is (h variant)) })
      (later (set lists variant ds) (each_left variant lists d ds is h)))

  pub choices_each : (variants : List ℕ) (lists : List (List Datum)) → ((v : ℕ) → All (P v) (payloads_of v lists)) → All (IsChoiceOf P) (choices_of variants lists)
  choices_each [] lists h = All-nil (IsChoiceOf P)
  choices_each (variant ∷ variants) lists h =
      next_each variant variants lists h (λ left each. choices_each variants left each) (payloads_of variant lists) refl
