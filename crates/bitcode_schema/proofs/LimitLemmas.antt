-- A limit below 255 applies to the short bytes, which are the lengths where none of them is an escape.
use Rattle.std.proofs.Common.{◌≡◌, ◌≢◌, ℕ, ◌<◌, ◌≤◌, Bool, true, false, cond, eqb, MatchBool, Some, List, [], ◌∷◌, All, refl, sym, subst, arith}
use Rattle.std.specs.Prelude.{count_by}
use Rattle.std.proofs.lemmas.Bool.{lt-ltb, le-ltb, ne_eqb, cond-false}
use Rattle.std.proofs.lemmas.List.Sums.{sum_by-cons}
use Rattle.std.proofs.lemmas.List.Elements.{All-head, All-tail}
use Rattle.bitcode_coder.specs.LengthColumn.{escape, KeepsCap, lengths_from}
use Rattle.bitcode_coder.proofs.LengthLemmas.{no_escapes}

few_escapes : (bytes : List ℕ) → All (λ byte. byte ≤ 254) bytes → count_by (λ byte. eqb byte escape) bytes ≡ 0
few_escapes [] below = refl
few_escapes (byte ∷ bytes) below =
    let low : byte ≤ 254 = All-head (λ byte. byte ≤ 254) byte bytes below in
    let other : byte ≢ escape = λ is. omega (arith, low, is) in
    let counted = sum_by-cons (λ b. cond (eqb b escape) 1 0) byte bytes in
    omega (arith, counted, cond-false {A = ℕ} (eqb byte escape) 1 0 (ne_eqb byte escape other), few_escapes bytes (All-tail (λ byte. byte ≤ 254) byte bytes below))

module _ (limit : ℕ) (short lengths : List ℕ) where
  abbrev Cap : Bool → Type 0
  Cap b = MatchBool b (All (λ byte. byte ≤ limit) short) (All (λ n. n ≤ limit) lengths)

  short_cap : limit < escape → KeepsCap (Some limit) short lengths → All (λ byte. byte ≤ limit) short
  short_cap small keeps = subst Cap (lt-ltb limit escape small) keeps

  cap_short : limit < escape → All (λ byte. byte ≤ limit) short → KeepsCap (Some limit) short lengths
  cap_short small within = subst Cap (sym (lt-ltb limit escape small)) within

  pub long_cap : escape ≤ limit → KeepsCap (Some limit) short lengths → All (λ n. n ≤ limit) lengths
  long_cap large keeps = subst Cap (le-ltb limit escape large) keeps

  pub cap_long : escape ≤ limit → All (λ n. n ≤ limit) lengths → KeepsCap (Some limit) short lengths
  cap_long large within = subst Cap (sym (le-ltb limit escape large)) within

module _ (limit : ℕ) (short large : List ℕ) (small : limit < escape) where
  -- where each short byte is below 255, they are the lengths
  none_large : KeepsCap (Some 254) short (lengths_from short large) → lengths_from short large ≡ short
  none_large low = no_escapes short large (few_escapes short low)

  pub cap_from_both : KeepsCap (Some 254) short (lengths_from short large) × All (λ n. n ≤ limit) (lengths_from short large)
      → KeepsCap (Some limit) short (lengths_from short large)
  cap_from_both (low, within) = cap_short limit short (lengths_from short large) small (subst (All (λ n. n ≤ limit)) (none_large low) within)

  pub both_from_cap : KeepsCap (Some limit) short (lengths_from short large)
      → KeepsCap (Some 254) short (lengths_from short large) × All (λ n. n ≤ limit) (lengths_from short large)
  both_from_cap keeps =
      let within = short_cap limit short (lengths_from short large) small keeps in
      let low : All (λ byte. byte ≤ 254) short = λ k d inside. let h = within k d inside in omega (arith, h, small) in
      (low, subst (All (λ n. n ≤ limit)) (sym (none_large low)) within)

-- ---- answers

pub both_judged : (A B : Type 0) (b : Bool) → A → MatchBool b (B → ⊥) B → MatchBool b (A × B → ⊥) (A × B)
both_judged A B true a broken = λ all. broken all.1
both_judged A B false a kept = (a, kept)

pub judged_as : (b : Bool) {A B : Type 0} → (A → B) → (B → A) → MatchBool b (A → ⊥) A → MatchBool b (B → ⊥) B
judged_as true to from broken = λ kept. broken (from kept)
judged_as false to from kept = to kept
