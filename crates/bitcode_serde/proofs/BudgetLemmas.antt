-- Taking nodes from a budget, and what is kept under it.
use Rattle.std.proofs.Common.{◌≡◌, ℕ, zero, suc, ◌+◌, ◌-◌, ◌<◌, ◌≤◌, List, [], ◌∷◌, ◌++◌, map, refl, ap, sym, subst, ◌∙◌, arith}
use Rattle.std.proofs.lemmas.List.{map-append}
use Rattle.bitcode_shapes.specs.Datum.{Datum, Data, choice, pair, data_of}
use Rattle.bitcode_untyped.specs.Nodes.{node_count, node_counts}
use Rattle.bitcode_untyped.specs.View.{datum_of}
use Rattle.bitcode_untyped.specs.declared.value.Value.{Value}
use Rattle.bitcode_untyped.proofs.NodeLemmas.{node_counts-push}
use Rattle.bitcode_serde.specs.Budget.{spend, spend_one, IsLeft, Keeps, KeepsEach}
use Rattle.bitcode_serde.specs.declared.budget.Budget.{Budget}
use Rattle.bitcode_serde.specs.declared.budget.Budget.TheVariants.{Endless, Nodes, Spent}

-- ---- so many at once

pub spend-then : (m n : ℕ) (b : Budget) → spend n (spend m b) ≡ spend (m + n) b
spend-then zero n b = let e : n ≡ 0 + n = omega arith in ap (λ k. spend k b) e
spend-then (suc m) n b = let e : suc (m + n) ≡ suc m + n = omega arith in spend-then m n (spend_one b) ∙ ap (λ k. spend k b) e

pub spend-Endless : (n : ℕ) → spend n Endless ≡ Endless
spend-Endless zero = refl
spend-Endless (suc n) = spend-Endless n

pub spend-Spent : (n : ℕ) → spend n Spent ≡ Spent
spend-Spent zero = refl
spend-Spent (suc n) = spend-Spent n

pub spend-within : (n left : ℕ) → n ≤ left → spend n (Nodes left) ≡ Nodes (left - n)
spend-within zero left h = ap (λ k. Nodes k) (omega arith)
spend-within (suc n) zero h = absurd (omega arith)
spend-within (suc n) (suc left) h = spend-within n left (omega arith) ∙ ap (λ k. Nodes k) (omega arith)

pub spend-over : (n left : ℕ) → left < n → spend n (Nodes left) ≡ Spent
spend-over zero left h = absurd (omega arith)
spend-over (suc n) zero h = spend-Spent n
spend-over (suc n) (suc left) h = spend-over n left (omega arith)

-- ---- what is left

pub left_before : (n : ℕ) (b : Budget) → IsLeft (spend n b) → IsLeft b
left_before n Endless h = tt
left_before n (Nodes left) h = tt
left_before n Spent h = subst IsLeft (spend-Spent n) h

pub within_limit : (n limit : ℕ) → IsLeft (spend n (Nodes limit)) → n ≤ limit
within_limit zero limit h = omega arith
within_limit (suc n) zero h = absurd (subst IsLeft (spend-Spent n) h)
within_limit (suc n) (suc limit) h = let k = within_limit n limit h in omega (arith, k)

pub over_limit : (n limit : ℕ) → spend n (Nodes limit) ≡ Spent → limit < n
over_limit zero limit h = cc
over_limit (suc n) zero h = omega arith
over_limit (suc n) (suc limit) h = let k = over_limit n limit h in omega (arith, k)

-- ---- what is kept

-- one more behind the others
pub keeps_more : {A : Type 0} (content : A → Datum) (R S : List Datum → Type 0) (before mid after : Budget) (xs ys : List A) (x : A) (d : Datum)
    → (k : KeepsEach content R before xs mid) → S (k.listing ++ d ∷ []) → after ≡ spend (node_count d) mid → (IsLeft after → content x ≡ d)
    → (IsLeft after → ys ≡ xs ++ x ∷ []) → KeepsEach content S before ys after
keeps_more content R S before mid after xs ys x d k read taken same pushed = record {
  listing = k.listing ++ d ∷ [];
  read = read;
  taken = taken ∙ ap (spend (node_count d)) k.taken ∙ spend-then (node_counts (data_of k.listing)) (node_count d) before
      ∙ ap (λ n. spend n before) (sym (node_counts-push k.listing d));
  same = λ h.
      let first = k.same (left_before (node_count d) mid (subst IsLeft taken h)) in
      ap (map content) (pushed h) ∙ map-append content xs (x ∷ []) ∙ ap (λ ds. ds ++ content x ∷ []) first ∙ ap (λ e. k.listing ++ e ∷ []) (same h);
}

-- a list, a map or a tuple of what was kept
pub keeps_all : {A : Type 0} (content : A → Datum) (R : List Datum → Type 0) (S : Datum → Type 0) (before mid after : Budget) (xs : List A) (v : Value)
    (made : Data → Datum) → ((ds : Data) → node_count (made ds) ≡ 1 + node_counts ds) → datum_of v ≡ made (data_of (map content xs)) → mid ≡ spend 1 before
    → (k : KeepsEach content R mid xs after) → S (made (data_of k.listing)) → Keeps datum_of S before v after
keeps_all content R S before mid after xs v made size is taken k read = record {
  datum = made (data_of k.listing);
  read = read;
  taken = k.taken ∙ ap (spend (node_counts (data_of k.listing))) taken ∙ spend-then 1 (node_counts (data_of k.listing)) before
      ∙ ap (λ n. spend n before) (sym (size (data_of k.listing)));
  same = λ h. is ∙ ap (λ ds. made (data_of ds)) (k.same h);
}

-- a choice of what was kept
pub keeps_choice : (R S : Datum → Type 0) (before mid after : Budget) (i : ℕ) (v w : Value) → datum_of w ≡ choice i (datum_of v) → mid ≡ spend 1 before
    → (k : Keeps datum_of R mid v after) → S (choice i k.datum) → Keeps datum_of S before w after
keeps_choice R S before mid after i v w is taken k read = record {
  datum = choice i k.datum;
  read = read;
  taken = k.taken ∙ ap (spend (node_count k.datum)) taken ∙ spend-then 1 (node_count k.datum) before;
  same = λ h. is ∙ ap (choice i) (k.same h);
}

-- a pair is a node of its own
pub pair_taken : (before mid between after : Budget) (x y : Datum) → mid ≡ spend 1 before → between ≡ spend (node_count x) mid → after ≡ spend (node_count y) between
    → after ≡ spend (node_count (pair x y)) before
pair_taken before mid between after x y a b c =
    let e : 1 + node_count x + node_count y ≡ node_count (pair x y) = omega arith in
    c ∙ ap (spend (node_count y)) (b ∙ ap (spend (node_count x)) a ∙ spend-then 1 (node_count x) before)
    ∙ spend-then (1 + node_count x) (node_count y) before ∙ ap (λ n. spend n before) e

-- an endless budget keeps all
pub all_kept : (R : Datum → Type 0) (v : Value) (after : Budget) → Keeps datum_of R Endless v after → IsLeft after × R (datum_of v)
all_kept R v after k =
    let left : IsLeft after = subst IsLeft (sym (k.taken ∙ spend-Endless (node_count k.datum))) tt in (left, subst R (sym (k.same left)) k.read)
