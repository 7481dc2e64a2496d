-- Lists of data are known by the parts that their columns hold.
use Rattle.std.proofs.Common.{◌≡◌, ℕ, zero, suc, ◌+◌, ◌<◌, pos, Bool, true, false, cond, List, [], ◌∷◌, length, map, filter, replicate, All, ◌==◌, refl, sym, ◌∙◌, ap, ap₂, subst, arith, length-append, eq-eqb, eqb-true}
use Rattle.std.proofs.lemmas.List.{length-map}
use Rattle.std.proofs.lemmas.List.Elements.{All-nil, All-head, All-tail, All-same, All-append, All-map, All-filter, All-weaker, filter_passes}
use Rattle.bitcode_columns.proofs.FrontLemmas.{append_split}
use Rattle.bitcode_shapes.specs.Datum.{Datum, list, choice, number, pair, data_of, list_of, elements_in, first_in, second_in, payload_in, variant_in}
use Rattle.bitcode_shapes.specs.Shape.{Shape, Shapes, IsOf, no_shapes, shape_and, IsListOf, IsPairOf, IsChoiceOf, IsOfVariant, variant_count}
use Rattle.bitcode_coder.specs.Transposition.{length_entry, variant_entry, joined, payloads}

-- ---- data that are all the same

pub All-replicated : (u : Datum) (ds : List Datum) → All (λ d. d ≡ u) ds → ds ≡ replicate (length ds) u
All-replicated u [] h = refl
All-replicated u (d ∷ ds) h =
    ap₂ (λ x xs. x ∷ xs) (All-head (λ d. d ≡ u) d ds h) (All-replicated u ds (All-tail (λ d. d ≡ u) d ds h))

pub length-mapped : (f : Datum → Datum) (ds es : List Datum) → length ds ≡ length es → length (map f ds) ≡ length (map f es)
length-mapped f ds es n = length-map ds f ∙ n ∙ sym (length-map es f)

pub none_never : (ds : List Datum) → All (λ d. ⊥) ds → ds ≡ []
none_never [] h = refl
none_never (d ∷ ds) h = absurd (All-head (λ d. ⊥) d ds h)

-- ---- lists

list_of-data_of : (xs : List Datum) → list_of (data_of xs) ≡ xs
list_of-data_of [] = refl
list_of-data_of (x ∷ xs) = ap (λ l. x ∷ l) (list_of-data_of xs)

module _ (P : Datum → Type 0) (Q : ℕ → Type 0) where
  elements_are : (d : Datum) (h : IsListOf P Q d) → elements_in d ≡ h.elements
  elements_are d h = ap elements_in h.is ∙ list_of-data_of h.elements

  list_again : (d : Datum) → IsListOf P Q d → d ≡ list (data_of (elements_in d))
  list_again d h = h.is ∙ ap (λ l. list (data_of l)) (sym (elements_are d h))

  elements_each : (d : Datum) → IsListOf P Q d → All P (elements_in d)
  elements_each d h = All-same P (elements_in d) h.elements (elements_are d h) h.each

  pub elements_count : (d : Datum) → IsListOf P Q d → Q (length (elements_in d))
  elements_count d h = subst Q (ap length (sym (elements_are d h))) h.count

  pub joined_each : (ds : List Datum) → All (IsListOf P Q) ds → All P (joined ds)
  joined_each [] h = All-nil P
  joined_each (d ∷ ds) h =
      All-append P (elements_in d) (joined ds) (elements_each d (All-head (IsListOf P Q) d ds h)) (joined_each ds (All-tail (IsListOf P Q) d ds h))

  -- lists are known by their lengths and their elements
  pub same_lists : (ds es : List Datum) → All (IsListOf P Q) ds → All (IsListOf P Q) es → map length_entry ds ≡ map length_entry es → joined ds ≡ joined es
      → ds ≡ es
  same_lists [] [] h i lengths elements = refl
  same_lists [] (e ∷ es) h i lengths elements = cc
  same_lists (d ∷ ds) [] h i lengths elements = cc
  same_lists (d ∷ ds) (e ∷ es) h i lengths elements =
      let one : length (elements_in d) ≡ length (elements_in e) = cc in
      let more : map length_entry ds ≡ map length_entry es = cc in
      let parts : (elements_in d ≡ elements_in e) × (joined ds ≡ joined es) = append_split (elements_in d) (elements_in e) (joined ds) (joined es) one elements in
      let first : d ≡ e =
      list_again d (All-head (IsListOf P Q) d ds h) ∙ ap (λ l. list (data_of l)) parts.0 ∙ sym (list_again e (All-head (IsListOf P Q) e es i)) in
      let rest : ds ≡ es = same_lists ds es (All-tail (IsListOf P Q) d ds h) (All-tail (IsListOf P Q) e es i) more parts.1 in
      ap₂ (λ x xs. x ∷ xs) first rest

pub length-joined : (ds es : List Datum) → map length_entry ds ≡ map length_entry es → length (joined ds) ≡ length (joined es)
length-joined [] [] lengths = refl
length-joined [] (e ∷ es) lengths = cc
length-joined (d ∷ ds) [] lengths = cc
length-joined (d ∷ ds) (e ∷ es) lengths =
    let one : length (elements_in d) ≡ length (elements_in e) = cc in
    let more : length (joined ds) ≡ length (joined es) = length-joined ds es cc in
    length-append (elements_in d) (joined ds) ∙ ap₂ (λ m n. m + n) one more ∙ sym (length-append (elements_in e) (joined es))

-- arrays of one size
pub array_lengths : (P : Datum → Type 0) (size : ℕ) (ds : List Datum) → All (IsListOf P (λ n. n ≡ size)) ds
    → All (λ d. d ≡ number (pos size)) (map length_entry ds)
array_lengths P size ds h =
    All-map (λ d. d ≡ number (pos size)) length_entry ds
    (All-weaker (IsListOf P (λ n. n ≡ size)) (λ d. length_entry d ≡ number (pos size)) (λ d i. ap (λ n. number (pos n)) (elements_count P (λ n. n ≡ size) d i)) ds h)

pub same_array_lengths : (P : Datum → Type 0) (size : ℕ) (ds es : List Datum) → All (IsListOf P (λ n. n ≡ size)) ds
    → All (IsListOf P (λ n. n ≡ size)) es → length ds ≡ length es → map length_entry ds ≡ map length_entry es
same_array_lengths P size ds es h i e =
    let a : map length_entry ds ≡ replicate (length (map length_entry ds)) (number (pos size)) = All-replicated (number (pos size)) (map length_entry ds) (array_lengths P size ds h) in
    let b : map length_entry es ≡ replicate (length (map length_entry es)) (number (pos size)) = All-replicated (number (pos size)) (map length_entry es) (array_lengths P size es i) in
    let l : length (map length_entry ds) ≡ length (map length_entry es) = length-map ds length_entry ∙ e ∙ sym (length-map es length_entry) in
    cc

-- ---- pairs

module _ (P Q : Datum → Type 0) where
  pub firsts_each : (ds : List Datum) → All (IsPairOf P Q) ds → All P (map first_in ds)
  firsts_each ds h = All-map P first_in ds (All-weaker (IsPairOf P Q) (λ d. P (first_in d)) (λ d i. subst P (sym (ap first_in i.is)) i.is_first) ds h)

  pub seconds_each : (ds : List Datum) → All (IsPairOf P Q) ds → All Q (map second_in ds)
  seconds_each ds h = All-map Q second_in ds (All-weaker (IsPairOf P Q) (λ d. Q (second_in d)) (λ d i. subst Q (sym (ap second_in i.is)) i.is_second) ds h)

  pair_again : (d : Datum) → IsPairOf P Q d → d ≡ pair (first_in d) (second_in d)
  pair_again d h = h.is ∙ sym (ap₂ pair (ap first_in h.is) (ap second_in h.is))

  -- pairs are known by their first and their second parts
  pub same_pairs : (ds es : List Datum) → All (IsPairOf P Q) ds → All (IsPairOf P Q) es → map first_in ds ≡ map first_in es → map second_in ds ≡ map second_in es
      → ds ≡ es
  same_pairs [] [] h i firsts seconds = refl
  same_pairs [] (e ∷ es) h i firsts seconds = cc
  same_pairs (d ∷ ds) [] h i firsts seconds = cc
  same_pairs (d ∷ ds) (e ∷ es) h i firsts seconds =
      let a : first_in d ≡ first_in e = cc in
      let b : second_in d ≡ second_in e = cc in
      let one : d ≡ e = pair_again d (All-head (IsPairOf P Q) d ds h) ∙ ap₂ pair a b ∙ sym (pair_again e (All-head (IsPairOf P Q) e es i)) in
      let k : map first_in ds ≡ map first_in es = cc in
      let l : map second_in ds ≡ map second_in es = cc in
      let rest : ds ≡ es = same_pairs ds es (All-tail (IsPairOf P Q) d ds h) (All-tail (IsPairOf P Q) e es i) k l in
      ap₂ (λ x xs. x ∷ xs) one rest

-- ---- choices

-- the first of the shapes is that of the variant of this index
abbrev pub IsPayloadFrom : Shapes → ℕ → Datum → Type 0
IsPayloadFrom shapes index d = (k : ℕ) → variant_in d ≡ index + k → IsOfVariant shapes k (payload_in d)

payload_from_0 : (shapes : Shapes) (d : Datum) → IsChoiceOf (IsOfVariant shapes) d → IsPayloadFrom shapes 0 d
payload_from_0 shapes d h k e =
    let same : h.index ≡ k = omega (arith, ap variant_in h.is) in
    let at : IsOfVariant shapes k h.payload = subst (λ i. IsOfVariant shapes i h.payload) same h.is_variant in
    subst (IsOfVariant shapes k) (sym (ap payload_in h.is)) at

pub payloads_from_0 : (shapes : Shapes) (ds : List Datum) → All (IsChoiceOf (IsOfVariant shapes)) ds → All (IsPayloadFrom shapes 0) ds
payloads_from_0 shapes ds h = All-weaker (IsChoiceOf (IsOfVariant shapes)) (IsPayloadFrom shapes 0) (payload_from_0 shapes) ds h

IsOfVariant-below : (shapes : Shapes) (index : ℕ) (d : Datum) → IsOfVariant shapes index d → index < variant_count shapes
IsOfVariant-below no_shapes index d h = absurd h
IsOfVariant-below (shape_and s ss) zero d h = omega arith
IsOfVariant-below (shape_and s ss) (suc index) d h = omega (arith, IsOfVariant-below ss index d h)

pub variant_below : (shapes : Shapes) (d : Datum) → IsChoiceOf (IsOfVariant shapes) d → variant_in d < variant_count shapes
variant_below shapes d h = omega (arith, ap variant_in h.is, IsOfVariant-below shapes h.index h.payload h.is_variant)

payloads_each : (P : Datum → Type 0) (index : ℕ) (ds : List Datum) → All (λ d. variant_in d ≡ index → P (payload_in d)) ds → All P (payloads index ds)
payloads_each P index ds h =
    All-map P payload_in (filter (λ d. variant_in d == index) ds)
    (λ k x l.
    All-filter (λ d. variant_in d == index) (λ d. variant_in d ≡ index → P (payload_in d)) ds h k x l
    (eqb-true _ _ (filter_passes (λ d. variant_in d == index) ds k x l)))

pub first_payloads : (s : Shape) (ss : Shapes) (index : ℕ) (ds : List Datum) → All (IsPayloadFrom (shape_and s ss) index) ds → All (IsOf s) (payloads index ds)
first_payloads s ss index ds h =
    payloads_each (IsOf s) index ds
    (All-weaker (IsPayloadFrom (shape_and s ss) index) (λ d. variant_in d ≡ index → IsOf s (payload_in d)) (λ d i e. i 0 (omega arith)) ds h)

pub later_payloads : (s : Shape) (ss : Shapes) (index : ℕ) (ds : List Datum) → All (IsPayloadFrom (shape_and s ss) index) ds → All (IsPayloadFrom ss (suc index)) ds
later_payloads s ss index ds h =
    All-weaker (IsPayloadFrom (shape_and s ss) index) (IsPayloadFrom ss (suc index)) (λ d i k e. i (suc k) (omega arith)) ds h

-- the payloads, by whether the first datum is of the variant
payloads_if : Bool → ℕ → Datum → List Datum → List Datum
payloads_if b index d ds = cond b (payload_in d ∷ payloads index ds) (payloads index ds)

payloads-cons : (b : Bool) (index : ℕ) (d : Datum) (ds : List Datum) → (variant_in d == index) ≡ b → payloads index (d ∷ ds) ≡ payloads_if b index d ds
unfolding payloads_if
payloads-cons true index d ds e = ap (λ t. map payload_in (cond t (d ∷ filter (λ d. variant_in d == index) ds) (filter (λ d. variant_in d == index) ds))) e
payloads-cons false index d ds e = ap (λ t. map payload_in (cond t (d ∷ filter (λ d. variant_in d == index) ds) (filter (λ d. variant_in d == index) ds))) e

length-payloads_if : (b : Bool) (index : ℕ) (d e : Datum) (ds es : List Datum) → length (payloads index ds) ≡ length (payloads index es)
    → length (payloads_if b index d ds) ≡ length (payloads_if b index e es)
unfolding payloads_if
length-payloads_if true index d e ds es h = ap suc h
length-payloads_if false index d e ds es h = h

pub length-payloads : (index : ℕ) (ds es : List Datum) → map variant_entry ds ≡ map variant_entry es → length (payloads index ds) ≡ length (payloads index es)
length-payloads index [] [] h = refl
length-payloads index [] (e ∷ es) h = cc
length-payloads index (d ∷ ds) [] h = cc
length-payloads index (d ∷ ds) (e ∷ es) h =
    let same : variant_in e ≡ variant_in d = cc in
    let more : length (payloads index ds) ≡ length (payloads index es) = length-payloads index ds es cc in
    ap length (payloads-cons (variant_in d == index) index d ds refl)
    ∙ length-payloads_if (variant_in d == index) index d e ds es more
    ∙ ap length (sym (payloads-cons (variant_in d == index) index e es (ap (λ v. v == index) same)))

payloads_if_rest : (b : Bool) (index : ℕ) (d e : Datum) (ds es : List Datum) → payloads_if b index d ds ≡ payloads_if b index e es
    → payloads index ds ≡ payloads index es
unfolding payloads_if
payloads_if_rest true index d e ds es h = cc
payloads_if_rest false index d e ds es h = h

payloads_if_first : (index : ℕ) (d e : Datum) (ds es : List Datum) → payloads_if true index d ds ≡ payloads_if true index e es → payload_in d ≡ payload_in e
unfolding payloads_if
payloads_if_first index d e ds es h = cc

same_payloads_if : (b : Bool) (index : ℕ) (d e : Datum) (ds es : List Datum) → variant_in e ≡ variant_in d → (variant_in d == index) ≡ b
    → payloads index (d ∷ ds) ≡ payloads index (e ∷ es) → payloads_if b index d ds ≡ payloads_if b index e es
same_payloads_if b index d e ds es same test h =
    sym (payloads-cons b index d ds test) ∙ h ∙ payloads-cons b index e es (ap (λ v. v == index) same ∙ test)

choice_again : (P : ℕ → Datum → Type 0) (d : Datum) → IsChoiceOf P d → d ≡ choice (variant_in d) (payload_in d)
choice_again P d h = h.is ∙ sym (ap₂ choice (ap variant_in h.is) (ap payload_in h.is))

module _ (shapes : Shapes) where
  -- choices are known by their variants and the payloads of each variant
  pub same_choices : (ds es : List Datum) → All (IsChoiceOf (IsOfVariant shapes)) ds → All (IsChoiceOf (IsOfVariant shapes)) es
      → map variant_entry ds ≡ map variant_entry es → ((index : ℕ) → index < variant_count shapes → payloads index ds ≡ payloads index es) → ds ≡ es
  same_choices [] [] h i variants payload = refl
  same_choices [] (e ∷ es) h i variants payload = cc
  same_choices (d ∷ ds) [] h i variants payload = cc
  same_choices (d ∷ ds) (e ∷ es) h i variants payload =
      let same : variant_in e ≡ variant_in d = cc in
      let is : IsChoiceOf (IsOfVariant shapes) d = All-head (IsChoiceOf (IsOfVariant shapes)) d ds h in
      let also : IsChoiceOf (IsOfVariant shapes) e = All-head (IsChoiceOf (IsOfVariant shapes)) e es i in
      let a : payload_in d ≡ payload_in e =
      payloads_if_first (variant_in d) d e ds es
      (same_payloads_if true (variant_in d) d e ds es same (eq-eqb (variant_in d) (variant_in d) refl)
      (payload (variant_in d) (variant_below shapes d is))) in
      let one : d ≡ e = choice_again (IsOfVariant shapes) d is ∙ ap₂ choice (sym same) a ∙ sym (choice_again (IsOfVariant shapes) e also) in
      let more : map variant_entry ds ≡ map variant_entry es = cc in
      let rest : ds ≡ es =
      same_choices ds es (All-tail (IsChoiceOf (IsOfVariant shapes)) d ds h) (All-tail (IsChoiceOf (IsOfVariant shapes)) e es i) more
      (λ index below.
      payloads_if_rest (variant_in d == index) index d e ds es
      (same_payloads_if (variant_in d == index) index d e ds es same refl (payload index below))) in
      ap₂ (λ x xs. x ∷ xs) one rest
