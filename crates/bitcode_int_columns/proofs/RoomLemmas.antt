-- The raw bytes and one more are room for every form of a column, and only numbers of one byte take scratch.
use Rattle.std.proofs.Common.{◌≡◌, ℕ, ◌+◌, ◌-◌, ◌*◌, ◌<◌, ◌≤◌, Bool, true, false, eqb, ◌||◌, ◌&&◌, ℤ, List, [], ◌∷◌, length, map, All, Result, Ok, Err, OnErr, IsOk, refl, sym, ap, ◌∙◌, subst, arith, inl, inr}
use Rattle.std.specs.Prelude.{nat_lt}
use Rattle.std.proofs.Math.Nat.{mul-add, mul-le-mul_left, mul-le-mul_right}
use Rattle.std.proofs.lemmas.Bool.{cond-true, cond-false, eq-eqb, ne_eqb, and_parts, ltb-true}
use Rattle.std.proofs.lemmas.List.{length-map}
use Rattle.std.proofs.lemmas.List.Elements.{All-map}
use Rattle.bitcode_memory.specs.Ints.{IsNumber, least, greatest}
use Rattle.bitcode_memory.specs.IntWidths.{IsWidth}
use Rattle.bitcode_columns.specs.ByteColumn.{byte_text}
use Rattle.bitcode_int_columns.specs.Narrowing.{plain_width, shifted_width, narrow_width, numbers_width, numbers_width_as}
use Rattle.bitcode_int_columns.proofs.WrittenLemmas.{Entries, shifted_fits, plain_fits}

-- a refusal that cannot be is none
pub ok_unless : {T E P : Type 0} (r : Result T E) → OnErr r P → (P → ⊥) → IsOk r
ok_unless (Ok v) refused never = refl
ok_unless (Err e) refused never = absurd (never refused)

pub no_bytes : (entries : List ℤ) → length entries ≡ 0 → length (byte_text entries) ≡ 0
unfolding byte_text
no_bytes [] none = refl
no_bytes (e ∷ entries) none = absurd (omega arith)

half_width : (narrow width : ℕ) → IsWidth narrow → IsWidth width → narrow < width → 2 * narrow ≤ width
half_width narrow width n w less = elim n [
  | inl a ↦ omega arith
  | inr (inl a) ↦ elim w [ inl b ↦ omega arith | inr (inl b) ↦ omega arith | inr (inr (inl b)) ↦ omega arith | inr (inr (inr (inl b))) ↦ omega arith | inr (inr (inr (inr b))) ↦ omega arith ]
  | inr (inr (inl a)) ↦ elim w [ inl b ↦ omega arith | inr (inl b) ↦ omega arith | inr (inr (inl b)) ↦ omega arith | inr (inr (inr (inl b))) ↦ omega arith | inr (inr (inr (inr b))) ↦ omega arith ]
  | inr (inr (inr (inl a))) ↦ elim w [ inl b ↦ omega arith | inr (inl b) ↦ omega arith | inr (inr (inl b)) ↦ omega arith | inr (inr (inr (inl b))) ↦ omega arith | inr (inr (inr (inr b))) ↦ omega arith ]
  | inr (inr (inr (inr a))) ↦ elim w [ inl b ↦ omega arith | inr (inl b) ↦ omega arith | inr (inr (inl b)) ↦ omega arith | inr (inr (inr (inl b))) ↦ omega arith | inr (inr (inr (inr b))) ↦ omega arith ]
]

-- of more than five entries, halving the width spares the room of one whole number
half_room : (count narrow width : ℕ) → 5 < count → 2 * narrow ≤ width → width + count * narrow ≤ count * width
half_room count narrow width many half =
    let whole : count * width ≡ count * (narrow + (width - narrow)) = ap (λ w. count * w) (omega arith) in
    let twice : 2 * (width - narrow) ≤ count * (width - narrow) = mul-le-mul_right (width - narrow) (omega arith) in
    omega (arith, whole, mul-add count narrow (width - narrow), twice)

pub shifted_takes : {X : Type 0} (f : X → ℤ) (xs : List X) (width plain shifted : ℕ) (signed : Bool) (low high : ℤ)
    → IsWidth width → 1 ≤ length xs → All (λ x. IsNumber width signed (f x)) xs → low ≡ least (map f xs) → high ≡ greatest (map f xs)
    → plain ≡ plain_width width low high → shifted ≡ shifted_width low high → (nat_lt 5 (length xs) && nat_lt shifted plain) ≡ true
    → (width + length xs * shifted ≤ length xs * width)
    × (narrow_width (length xs) (plain_width width (least (map f xs)) (greatest (map f xs))) (shifted_width (least (map f xs)) (greatest (map f xs))) ≡ shifted)
shifted_takes f xs width plain shifted signed low high is_width some numbers is_low is_high is_plain is_shifted test =
    let entries : List ℤ = map f xs in
    let e : Entries width signed entries =
    record { is_width = is_width; some = omega (arith, length-map xs f); numbers = All-map (IsNumber width signed) f xs numbers } in
    let same_shifted : shifted ≡ shifted_width (least entries) (greatest entries) =
    is_shifted ∙ ap (λ z. shifted_width z high) is_low ∙ ap (shifted_width (least entries)) is_high in
    let same_plain : plain ≡ plain_width width (least entries) (greatest entries) =
    is_plain ∙ ap (λ z. plain_width width z high) is_low ∙ ap (plain_width width (least entries)) is_high in
    let parts = and_parts _ _ test in
    let narrower : shifted < plain = ltb-true _ _ parts.1 in
    let plain_is : (IsWidth plain) × (plain ≤ width) = subst (λ w. IsWidth w × (w ≤ width)) (sym same_plain) (plain_fits width signed entries e) in
    let shifted_is : IsWidth shifted = subst IsWidth (sym same_shifted) (shifted_fits width signed entries e).0 in (
      half_room (length xs) shifted width (ltb-true _ _ parts.0) (half_width shifted width shifted_is is_width (omega (arith, narrower, plain_is.1))),
      ap (λ p. narrow_width (length xs) p (shifted_width (least entries) (greatest entries))) (sym same_plain)
          ∙ ap (narrow_width (length xs) plain) (sym same_shifted) ∙ cond-true _ _ _ test,
    )

pub plain_takes : {X : Type 0} (f : X → ℤ) (xs : List X) (width plain shifted : ℕ) (signed : Bool) (low high : ℤ)
    → IsWidth width → 1 ≤ length xs → All (λ x. IsNumber width signed (f x)) xs → low ≡ least (map f xs) → high ≡ greatest (map f xs)
    → plain ≡ plain_width width low high → shifted ≡ shifted_width low high → (nat_lt 5 (length xs) && nat_lt shifted plain) ≡ false
    → (length xs * plain ≤ length xs * width)
    × (narrow_width (length xs) (plain_width width (least (map f xs)) (greatest (map f xs))) (shifted_width (least (map f xs)) (greatest (map f xs))) ≡ plain)
plain_takes f xs width plain shifted signed low high is_width some numbers is_low is_high is_plain is_shifted test =
    let entries : List ℤ = map f xs in
    let e : Entries width signed entries =
    record { is_width = is_width; some = omega (arith, length-map xs f); numbers = All-map (IsNumber width signed) f xs numbers } in
    let same_shifted : shifted ≡ shifted_width (least entries) (greatest entries) =
    is_shifted ∙ ap (λ z. shifted_width z high) is_low ∙ ap (shifted_width (least entries)) is_high in
    let same_plain : plain ≡ plain_width width (least entries) (greatest entries) =
    is_plain ∙ ap (λ z. plain_width width z high) is_low ∙ ap (plain_width width (least entries)) is_high in
    let at_most : plain ≤ width = subst (λ w. w ≤ width) (sym same_plain) (plain_fits width signed entries e).1 in (
      mul-le-mul_left (length xs) at_most,
      ap (λ p. narrow_width (length xs) p (shifted_width (least entries) (greatest entries))) (sym same_plain)
          ∙ ap (narrow_width (length xs) plain) (sym same_shifted) ∙ cond-false _ _ _ test,
    )

-- ---- the width of the numbers, form by form

pub numbers_width_bytes : (width : ℕ) (entries : List ℤ) → width ≡ 1 → numbers_width width entries ≡ 1
unfolding numbers_width
numbers_width_bytes width entries one =
    ap (λ form. numbers_width_as form width entries) (cond-true _ _ _ (eq-eqb width 1 one))

pub numbers_width_tagged : {X : Type 0} (f : X → ℤ) (xs : List X) (width : ℕ) → (width ≡ 1 → ⊥)
    → (eqb (length (map f xs)) 0 || (eqb width 2 && eqb (length (map f xs)) 1)) ≡ false
    → numbers_width width (map f xs)
    ≡ narrow_width (length xs) (plain_width width (least (map f xs)) (greatest (map f xs))) (shifted_width (least (map f xs)) (greatest (map f xs)))
unfolding numbers_width
numbers_width_tagged f xs width more bare =
    ap (λ form. numbers_width_as form width (map f xs)) (cond-false _ _ _ (ne_eqb width 1 more) ∙ cond-false _ _ _ bare)
    ∙ ap (λ n. narrow_width n (plain_width width (least (map f xs)) (greatest (map f xs))) (shifted_width (least (map f xs)) (greatest (map f xs)))) (length-map xs f)
