-- How many nodes data have that are made of others.
use Rattle.std.proofs.Common.{◌≡◌, ◌≢◌, ℕ, zero, suc, ◌+◌, ◌-◌, ◌*◌, ◌<◌, ◌≤◌, leb, cond, map, replicate, List, [], ◌∷◌, ◌++◌, length, take, drop, sum, All, ◌==◌, refl, sym, ap, subst, ◌∙◌, arith, inl, inr, get_or-set_same, length-drop}
use Rattle.std.specs.Prelude.{slice_set}
use Rattle.std.proofs.Math.Nat.{suc-mul}
use Rattle.std.proofs.lemmas.Bool.{cases_Bool, cond-true, cond-false, le-leb}
use Rattle.std.proofs.lemmas.List.{take-append-drop, get_or-set_other}
use Rattle.std.proofs.lemmas.List.Elements.{All-head, All-tail}
use Rattle.std.proofs.lemmas.List.Sums.{sum_by-cons}
use Rattle.bitcode_columns.specs.Histogram.{count_of}
use Rattle.bitcode_shapes.specs.Datum.{Datum, list, pair, choice, data_of}
use Rattle.bitcode_coder.proofs.LengthPartLemmas.{taken_from}
use Rattle.bitcode_parts.specs.Lists.{lists_of}
use Rattle.bitcode_parts.specs.Payloads.{payloads_of, next_choice, choices_of}
use Rattle.bitcode_tuples.specs.Pairs.{pairs_of}
use Rattle.bitcode_untyped.specs.Nodes.{node_count, node_counts}
use Rattle.bitcode_schema.proofs.ChoiceWritingLemmas.{is_itself, same_number}
use Rattle.bitcode_schema.proofs.DealLemmas.{cases_same}

abbrev pub total : List Datum → ℕ
total ds = node_counts (data_of ds)

pub total-each : (n : ℕ) (ds : List Datum) → All (λ d. node_count d ≡ n) ds → total ds ≡ length ds * n
total-each n [] each = omega arith
total-each n (d ∷ ds) each =
    let h = total-each n ds (All-tail (λ e. node_count e ≡ n) d ds each) in
    let one = All-head (λ e. node_count e ≡ n) d ds each in
    let more : suc (length ds) * n ≡ length ds * n + n = suc-mul (length ds) n in
    omega (arith, one, h, more)

pub total-append : (xs ys : List Datum) → total (xs ++ ys) ≡ total xs + total ys
total-append [] ys = omega arith
total-append (x ∷ xs) ys = let h = total-append xs ys in omega (arith, h)

pub total-pairs : (ds es : List Datum) → length ds ≡ length es → total (pairs_of ds es) ≡ length ds + (total ds + total es)
total-pairs [] [] same = refl
total-pairs [] (e ∷ es) same = absurd (omega (arith, same))
total-pairs (d ∷ ds) [] same = absurd (omega (arith, same))
total-pairs (d ∷ ds) (e ∷ es) same =
    let h = total-pairs ds es (let k : suc (length ds) ≡ suc (length es) = same in omega (arith, k)) in
    let one : node_count (pair d e) ≡ 1 + (node_count d + node_count e) = omega arith in
    omega (arith, h, one)

pub total-lists : (ns : List ℕ) (ds : List Datum) → sum ns ≡ length ds → total (lists_of ns ds) ≡ length ns + total ds
total-lists [] [] whole = refl
total-lists [] (d ∷ ds) whole = absurd (omega (arith, whole))
total-lists (n ∷ ns) ds whole =
    let front = (taken_from (n ∷ ns) n ns refl).0 in
    let all : n + sum ns ≡ length ds = omega (arith, front, whole) in
    let within : n ≤ length ds = omega (arith, all) in
    let left : length (drop n ds) ≡ length ds - n = length-drop n ds in
    let h = total-lists ns (drop n ds) (omega (arith, left, all)) in
    let parts = total-append (take n ds) (drop n ds) in
    let whole_again : total (take n ds ++ drop n ds) ≡ total ds = ap total (take-append-drop n ds) in
    let first : node_count (list (data_of (take n ds))) ≡ 1 + total (take n ds) = omega arith in
    ap (λ pieces. total (map (λ es. list (data_of es)) pieces)) (cond-true (leb n (length ds)) _ _ (le-leb n (length ds) within))
    ∙ (let e : node_count (list (data_of (take n ds))) + total (lists_of ns (drop n ds)) ≡ suc (length ns) + total ds
    = omega (arith, h, parts, whole_again, first) in e)

-- ---- choices

abbrev pub totals : List (List Datum) → ℕ
totals [] = 0
totals (ds ∷ lists) = total ds + totals lists

pub totals-none : (n : ℕ) → totals (replicate n []) ≡ 0
totals-none zero = refl
totals-none (suc n) = let h = totals-none n in omega (arith, h)

-- of one variant, other payloads
pub totals-set : (lists : List (List Datum)) (v : ℕ) (ds : List Datum) → v < length lists
    → totals (slice_set lists v ds) + total (payloads_of v lists) ≡ totals lists + total ds
totals-set [] v ds below = absurd (omega (arith, below))
totals-set (xs ∷ lists) zero ds below = omega arith
totals-set (xs ∷ lists) (suc v) ds below = let h = totals-set lists v ds (let k : suc v < suc (length lists) = below in omega arith) in omega (arith, h)

totals-empty : (lists : List (List Datum)) → ((v : ℕ) → length (payloads_of v lists) ≡ 0) → totals lists ≡ 0
totals-empty [] none = refl
totals-empty ([] ∷ lists) none = let h = totals-empty lists (λ v. none (suc v)) in omega (arith, h)
totals-empty ((d ∷ ds) ∷ lists) none = let never : suc (length ds) ≡ 0 = none 0 in absurd (omega (arith, never))

payloads_there : (lists : List (List Datum)) (v : ℕ) → 0 < length (payloads_of v lists) → v < length lists
payloads_there [] v some = absurd (omega (arith, some))
payloads_there (xs ∷ lists) zero some = omega arith
payloads_there (xs ∷ lists) (suc v) some = let h = payloads_there lists v some in omega (arith, h)

count_first : (v : ℕ) (vs : List ℕ) → count_of v (v ∷ vs) ≡ suc (count_of v vs)
count_first v vs =
    let whole : count_of v (v ∷ vs) ≡ cond {A = ℕ} (v == v) 1 0 + count_of v vs = sum_by-cons (λ e. cond (e == v) 1 0) v vs in
    let one : cond {A = ℕ} (v == v) 1 0 ≡ 1 = cond-true (v == v) 1 0 (is_itself v) in
    omega (arith, whole, one)

count_other : (u v : ℕ) (vs : List ℕ) → u ≢ v → count_of u (v ∷ vs) ≡ count_of u vs
count_other u v vs other =
    let whole : count_of u (v ∷ vs) ≡ cond {A = ℕ} (v == u) 1 0 + count_of u vs = sum_by-cons (λ e. cond (e == u) 1 0) v vs in
    elim (cases_Bool (v == u)) [
      | inl same ↦ absurd (other (sym (same_number v u same)))
      | inr not ↦ let none : cond {A = ℕ} (v == u) 1 0 ≡ 0 = cond-false (v == u) 1 0 not in omega (arith, whole, none)
    ]

pub total-choices : (variants : List ℕ) (lists : List (List Datum)) → ((v : ℕ) → length (payloads_of v lists) ≡ count_of v variants)
    → total (choices_of variants lists) ≡ length variants + totals lists
total-choices [] lists each = let none = totals-empty lists each in omega (arith, none)
total-choices (v ∷ vs) lists each = next (payloads_of v lists) refl (λ left all. total-choices vs left all)
  where
    next : (ps : List Datum) → payloads_of v lists ≡ ps
        → ((left : List (List Datum)) → ((u : ℕ) → length (payloads_of u left) ≡ count_of u vs) → total (choices_of vs left) ≡ length vs + totals left)
        → total (next_choice v ps (λ left. choices_of vs (slice_set lists v left))) ≡ suc (length vs) + totals lists
    next [] is later = let never : 0 ≡ suc (count_of v vs) = ap length (sym is) ∙ each v ∙ count_first v vs in absurd (omega (arith, never))
    next (d ∷ ds) is later =
        let left = slice_set lists v ds in
        let many : suc (length ds) ≡ suc (count_of v vs) = ap length (sym is) ∙ each v ∙ count_first v vs in
        let long = ap length is in
        let below = payloads_there lists v (omega (arith, long)) in
        let rest = later left
        (λ u.
        elim (cases_same u v) [
          | inl same ↦
              subst (λ n. length (payloads_of n left) ≡ count_of n vs) (sym same)
              (ap length (get_or-set_same lists v ds [] below) ∙ (let e : length ds ≡ count_of v vs = omega (arith, many) in e))
          | inr other ↦ ap length (get_or-set_other lists v u ds [] other) ∙ each u ∙ count_other u v vs other
        ]) in
        let set = totals-set lists v ds below in
        let here : total (payloads_of v lists) ≡ node_count d + total ds = ap total is in
        let one : node_count (choice v d) ≡ 1 + node_count d = omega arith in
        omega (arith, rest, set, here, one)

-- entries below a number
pub count_none : (n v : ℕ) (entries : List ℕ) → n ≤ v → All (λ e. e < n) entries → count_of v entries ≡ 0
count_none n v [] past below = refl
count_none n v (e ∷ entries) past below =
    let less : e < n = All-head (λ x. x < n) e entries below in
    count_other v e entries (λ same. absurd (omega (arith, same, less, past))) ∙ count_none n v entries past (All-tail (λ x. x < n) e entries below)

pub none_there : (n i : ℕ) → payloads_of i (replicate n []) ≡ []
none_there zero i = refl
none_there (suc n) zero = refl
none_there (suc n) (suc i) = none_there n i
