-- The first items of places, after writes behind them.
use Rattle.std.proofs.Common.{◌≡◌, refl, ◌⊎◌, inl, inr, subst, ℕ, suc, ◌+◌, ◌≤◌, List, [], ◌∷◌, ◌++◌, length, take, drop, sym, ap, ◌∙◌, arith, append_assoc, length-append, take_at, take-append-drop}
use Rattle.std.specs.List.{refill}
use Rattle.std.proofs.lemmas.List.{take_all, take-take, length-take, length-drop, drop-take, nil_from_length}

module _ {X : Type 0} where
  -- nothing lies behind the item that was written last
  pub last_written : (items : List X) (n : ℕ) (x : X) → n ≤ length items → take (n + 1) (take n items ++ x ∷ []) ≡ take n items ++ x ∷ []
  last_written items n x within =
      let front = length-take n items in
      take_all (n + 1) (take n items ++ x ∷ []) (omega (arith, front, length-append (take n items) (x ∷ [])))

  -- as many items were written as there were
  pub all_written : (items ws : List X) (n : ℕ) → n ≤ length items → length ws ≡ length (take n items) → take n (refill n items ws) ≡ ws
  all_written items ws n within same =
      let long : length ws ≡ n = omega (arith, length-take n items) in
      let written : refill n items ws ≡ ws = take_at ws (drop (length ws) items) n long in
      ap (take n) written ∙ take_all n ws (omega arith)

  pub length_front : (n : ℕ) (items : List X) → n ≤ length items → length (take n items) ≡ n
  length_front n items within = omega (arith, length-take n items)

  -- a front that goes on with the first items of a list
  front_more : (xs ys : List X) (n m : ℕ) → length xs ≡ n → take (n + m) (xs ++ ys) ≡ xs ++ take m ys
  front_more [] ys n m size = ap (λ k. take k ys) (omega arith)
  front_more (x ∷ xs) ys n m size =
      let more : n + m ≡ suc (length xs + m) = omega arith in
      ap (λ k. take k (x ∷ xs ++ ys)) more ∙ ap (λ l. x ∷ l) (front_more xs ys (length xs) m refl)

  -- a front of a list was written, and then its end, over a part of the front
  pub both_written : (old first last src front back : List X) (n m k : ℕ) → front ≡ take k src → back ≡ drop m src
      → m ≤ k → k ≤ length src → n ≤ length old → take (n + length front) first ≡ take n old ++ front
      → take (n + m + length back) last ≡ take (n + m) first ++ back → take (n + length src) last ≡ take n old ++ src
  both_written old first last src front back n m k is_front is_back inside fits within written after =
      let size : length (take n old) ≡ n = omega (arith, length-take n old) in
      let long : length front ≡ k = omega (arith, ap length is_front, length-take k src) in
      let all : n + length src ≡ n + m + length back = omega (arith, ap length is_back, length-drop m src) in
      let kept : take (n + m) first ≡ take n old ++ take m src =
      sym (take-take (n + m) (n + length front) first (omega arith)) ∙ ap (take (n + m)) written ∙ front_more (take n old) front n m size
      ∙ ap (λ ys. take n old ++ ys) (ap (take m) is_front ∙ take-take m k src inside) in
      ap (λ j. take j last) all ∙ after ∙ ap (λ ys. ys ++ back) kept ∙ append_assoc (take n old) (take m src) back
      ∙ ap (λ ys. take n old ++ ys) (ap (λ ys. take m src ++ ys) is_back ∙ take-append-drop m src)

  -- 16 items of a list were written behind those before them, of which k were written
  pub block_written : (old now new src : List X) (n k m : ℕ) → n ≤ length old → m ≤ k → take (n + k) now ≡ take n old ++ take k src
      → take (n + (m + 16)) new ≡ take (n + m) now ++ take 16 (drop m src) → take (n + (m + 16)) new ≡ take n old ++ take (m + 16) src
  block_written old now new src n k m fits inside written after =
      let size : length (take n old) ≡ n = omega (arith, length-take n old) in
      let kept : take (n + m) now ≡ take n old ++ take m src =
      sym (take-take (n + m) (n + k) now (omega arith)) ∙ ap (take (n + m)) written ∙ front_more (take n old) (take k src) n m size
      ∙ ap (λ ys. take n old ++ ys) (take-take m k src inside) in
      let all = take (m + 16) src in
      let joined : take m src ++ take 16 (drop m src) ≡ all =
      ap (λ ys. ys ++ take 16 (drop m src)) (sym (take-take m (m + 16) src (omega arith)))
      ∙ ap (λ ys. take m all ++ ys) (sym (drop-take m 16 src)) ∙ take-append-drop m all in
      after ∙ ap (λ ys. ys ++ take 16 (drop m src)) kept ∙ append_assoc (take n old) (take m src) (take 16 (drop m src))
      ∙ ap (λ ys. take n old ++ ys) joined

  -- what lies before the items that were written is what was there
  pub front_kept : (old new block : List X) (n k : ℕ) → n ≤ length old → take (n + k) new ≡ take n old ++ block → take (n + 0) new ≡ take n old ++ []
  front_kept old new block n k fits written =
      sym (take-take (n + 0) (n + k) new (omega arith)) ∙ ap (take (n + 0)) written
      ∙ front_more (take n old) block n 0 (omega (arith, length-take n old))

  -- all items were written, or others where there are none
  pub written_or : (old new block src : List X) (n k : ℕ) → (length src ≡ k) ⊎ (length src ≡ 0) → (k ≤ length src → block ≡ take k src)
      → n ≤ length old → take (n + length block) new ≡ take n old ++ block → take (n + length src) new ≡ take n old ++ src
  written_or old new block src n k (inl all) is_front fits written =
      let same : block ≡ src = is_front (omega arith) ∙ take_all k src (omega arith) in
      subst (λ items. take (n + length items) new ≡ take n old ++ items) same written
  written_or old new block src n k (inr none) is_front fits written =
      subst (λ items. take (n + length items) new ≡ take n old ++ items) (sym (nil_from_length src none))
      (front_kept old new block n (length block) fits written)
