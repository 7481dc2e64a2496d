-- Worked examples: what the definitions accept, and what they reject.
use Rattle.std.specs.Prelude.{◌≡◌, ℕ, zero, suc, ◌/◌, ◌%◌, ◌<◌, [], ◌∷◌, refl, slice_index}
use Rattle.std.proofs.Common.{arith, inl, lit<, lit≤, sym}
use Rattle.std.proofs.lemmas.List.Elements.{All-nil, All-cons}
use Rattle.bitcode_columns.specs.declared.pack.Base.TheVariants.{Six}
use Rattle.bitcode_columns.specs.Digits.{SpellsDigits, digit}
use Rattle.bitcode_columns.specs.VariantColumn.{SpellsVariants}
use Rattle.bitcode_columns.specs.IntColumn.{SpellsInts}

digit_at : (byte entry : ℕ) → digit 6 byte 0 ≡ entry → (i : ℕ) → i < 1 → slice_index (entry ∷ []) i ≡ digit 6 (slice_index (byte ∷ []) (i / 3)) (i % 3)
digit_at byte entry e zero h = sym e
digit_at byte entry e (suc i) h = absurd (omega arith)

-- one digit in base 6
one_in_six : (byte entry : ℕ) → digit 6 byte 0 ≡ entry → SpellsDigits Six (byte ∷ []) (entry ∷ [])
one_in_six byte entry e = record { size = refl; each = digit_at byte entry e }

-- the last of six variants
last_of_six : SpellsVariants 6 (5 ∷ []) (5 ∷ [])
last_of_six = record { digits = one_in_six 5 5 refl; known = All-cons (λ (n : ℕ). n < 6) 5 [] (lit< tt) (All-nil (λ (n : ℕ). n < 6)) }

-- a byte above them is read by its digit
first_of_six : SpellsVariants 6 (6 ∷ []) (0 ∷ [])
first_of_six = record { digits = one_in_six 6 0 refl; known = All-cons (λ (n : ℕ). n < 6) 0 [] (lit< tt) (All-nil (λ (n : ℕ). n < 6)) }

-- there is no sixth of five variants
no_sixth_of_five : (entry : ℕ) → SpellsVariants 5 (5 ∷ []) (entry ∷ []) → ⊥
no_sixth_of_five entry s =
    let below : entry < 5 = s.known 0 0 (lit< tt) in
    let is : entry ≡ 5 = s.digits.each 0 (lit< tt) in
    absurd (omega arith)

-- a shifted word: 254 and 1
shifted_word : SpellsInts 4 (3 ∷ 1 ∷ 0 ∷ 0 ∷ 0 ∷ 254 ∷ []) (255 ∷ [])
shifted_word = record {
  tag = 3;
  least_bytes = 1 ∷ 0 ∷ 0 ∷ 0 ∷ [];
  body = 254 ∷ [];
  narrow = 254 ∷ [];
  known = lit≤ tt;
  least_size = refl;
  whole = refl;
  narrowed = inl (lit≤ tt, refl);
  widened = refl;
}

-- a shifted word that wraps: 2 and 4294967295
wrapped_word : SpellsInts 4 (3 ∷ 255 ∷ 255 ∷ 255 ∷ 255 ∷ 2 ∷ []) (1 ∷ [])
wrapped_word = record {
  tag = 3;
  least_bytes = 255 ∷ 255 ∷ 255 ∷ 255 ∷ [];
  body = 2 ∷ [];
  narrow = 2 ∷ [];
  known = lit≤ tt;
  least_size = refl;
  whole = refl;
  narrowed = inl (lit≤ tt, refl);
  widened = refl;
}
