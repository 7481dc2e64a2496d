-- Pieces that are cut at lengths.
use Rattle.std.proofs.Common.{◌≡◌, ℕ, ◌+◌, ◌<◌, ◌≤◌, leb, List, [], ◌∷◌, ◌++◌, length, take, drop, map, sum, refl, sym, ◌∙◌, ap, ap₂, arith, length-append, ⊎_elim}
use Rattle.std.specs.List.{flat_map}
use Rattle.std.proofs.Math.Seq.{take-append_seam, drop-append_seam}
use Rattle.std.proofs.lemmas.Bool.{cond-true, cond-false, cases_lt, le-leb, lt-leb}
use Rattle.std.proofs.lemmas.List.Sums.{sum_by-cons}
use Rattle.std.proofs.lemmas.List.{take-append-drop, length-take-le, length-drop, nil_from_length}
use Rattle.bitcode_coder.specs.Cutting.{cut}

module _ {A : Type 0} where
  pub cut-enough : (n : ℕ) (ns : List ℕ) (items : List A) → n ≤ length items → cut (n ∷ ns) items ≡ take n items ∷ cut ns (drop n items)
  cut-enough n ns items enough = cond-true (leb n (length items)) _ _ (le-leb n (length items) enough)

  pub cut-few : (n : ℕ) (ns : List ℕ) (items : List A) → length items < n → cut (n ∷ ns) items ≡ []
  cut-few n ns items few = cond-false (leb n (length items)) _ _ (lt-leb n (length items) few)

  -- joined lists are cut into the lists again
  pub cut-joined : (lists : List (List A)) → cut (map (λ l. length l) lists) (flat_map (λ l. l) lists) ≡ lists
  cut-joined [] = refl
  cut-joined (l ∷ ls) =
      let rest = flat_map (λ l. l) ls in
      cut-enough (length l) (map (λ l. length l) ls) (l ++ rest) (omega (arith, length-append l rest))
      ∙ ap₂ (λ first more. first ∷ cut (map (λ l. length l) ls) more) (take-append_seam l rest) (drop-append_seam l rest)
      ∙ ap (λ ls. l ∷ ls) (cut-joined ls)

  -- where the lengths take all items, the pieces are these items, joined
  pub joined-cut : (ns : List ℕ) (items : List A) → sum ns ≡ length items → flat_map (λ l. l) (cut ns items) ≡ items
  joined-cut [] items all = sym (nil_from_length items (omega arith))
  joined-cut (n ∷ ns) items all =
      let total : sum (n ∷ ns) ≡ n + sum ns = sum_by-cons (λ x. x) n ns in
      ap (flat_map (λ l. l)) (cut-enough n ns items (omega arith))
      ∙ ap (λ more. take n items ++ more) (joined-cut ns (drop n items) (omega (arith, length-drop n items)))
      ∙ take-append-drop n items

  -- where there are enough items, the pieces have the lengths
  pub lengths-cut : (ns : List ℕ) (items : List A) → sum ns ≤ length items → map (λ l. length l) (cut ns items) ≡ ns
  lengths-cut [] items enough = refl
  lengths-cut (n ∷ ns) items enough =
      let total : sum (n ∷ ns) ≡ n + sum ns = sum_by-cons (λ x. x) n ns in
      ap (map (λ l. length l)) (cut-enough n ns items (omega arith))
      ∙ ap₂ (λ first more. first ∷ more) (length-take-le n items (omega arith)) (lengths-cut ns (drop n items) (omega (arith, length-drop n items)))

  -- there are no more pieces than lengths
  pub length-cut : (ns : List ℕ) (items : List A) → length (cut ns items) ≤ length ns
  length-cut [] items = omega arith
  length-cut (n ∷ ns) items =
      ⊎_elim
      (λ few. omega (arith, ap length (cut-few n ns items few)))
      (λ enough. omega (arith, ap length (cut-enough n ns items enough), length-cut ns (drop n items)))
      (cases_lt (length items) n)
