-- Places by number, and their links.
use Rattle.std.proofs.Common.{◌≡◌, ◌≢◌, true, ℕ, zero, suc, ◌+◌, ◌<◌, ◌≤◌, ◌⊎◌, inl, inr, List, [], ◌∷◌, ◌++◌, length, Some, slice_get, refl, ap, sym, subst, ◌∙◌, arith, length-append}
use Rattle.std.specs.Prelude.{IsSomeAnd}
use Rattle.std.proofs.lemmas.List.{append-nil}
use Rattle.bitcode_untyped.specs.Walk.{Place}
use Rattle.bitcode_serde.specs.Links.{is_among, IsUpTo, children, last_field}
use Rattle.bitcode_serde.specs.Places.{step_of, place_at, places_from, places, IsPlace, LieBelow, AreApart, AreLinked, LinkBelow, IsNew, IsGrown}
use Rattle.bitcode_serde.specs.declared.links.Links.{Links}
use Rattle.bitcode_serde.specs.declared.places.Below.{Below}
use Rattle.bitcode_serde.specs.declared.step.Step.{Step}
use Rattle.bitcode_serde.specs.declared.step.Step.TheVariants as step
use Rattle.bitcode_serde.proofs.LinkLemmas.{among_last, among_more, among_new}

-- ---- lists

pub at_front : (ps qs : List Place) (i : ℕ) → i < length ps → place_at (ps ++ qs) i ≡ place_at ps i
at_front [] qs i h = absurd (omega (arith, h))
at_front (p ∷ ps) qs zero h = refl
at_front (p ∷ ps) qs (suc i) h = at_front ps qs i (omega (arith, h))

pub at_last : (ps : List Place) (q : Place) → place_at (ps ++ q ∷ []) (length ps) ≡ q
at_last [] q = refl
at_last (p ∷ ps) q = at_last ps q

pub within_or_last : (i n : ℕ) → i < n + 1 → (i < n) ⊎ (i ≡ n)
within_or_last i zero h = inr (omega (arith, h))
within_or_last zero (suc n) h = inl (omega arith)
within_or_last (suc i) (suc n) h =
    elim (within_or_last i n (omega (arith, h))) [ inl k ↦ inl (omega (arith, k)) | inr e ↦ inr (ap (λ m. suc m) e) ]

some_at : (bs : List Below) (k : ℕ) → k < length bs → (b : Below) × (slice_get bs k ≡ Some b)
some_at [] k h = absurd (omega (arith, h))
some_at (b ∷ bs) zero h = (b, refl)
some_at (b ∷ bs) (suc k) h = some_at bs k (omega (arith, h))

got_within : (bs : List Below) (i : ℕ) (b : Below) → slice_get bs i ≡ Some b → i < length bs
got_within [] i b h = cc
got_within (c ∷ bs) zero b h = omega arith
got_within (c ∷ bs) (suc i) b h = let k = got_within bs i b h in omega (arith, k)

got_more : (bs : List Below) (b : Below) (i : ℕ) (c : Below) → slice_get (bs ++ b ∷ []) i ≡ Some c → (slice_get bs i ≡ Some c) ⊎ ((i ≡ length bs) × (c ≡ b))
got_more [] b zero c h = let e : b ≡ c = cc in inr (refl, sym e)
got_more [] b (suc i) c h = cc
got_more (x ∷ bs) b zero c h = inl h
got_more (x ∷ bs) b (suc i) c h = elim (got_more bs b i c h) [ inl e ↦ inl e | inr e ↦ inr (ap (λ k. suc k) e.0, e.1) ]

-- ---- places

abbrev pub below_place : List Place → Below → Place
below_place ps b = step_of b.step ∷ place_at ps b.above

places_from-length : (ps : List Place) (bs : List Below) → length (places_from ps bs) ≡ length ps + length bs
places_from-length ps [] = omega arith
places_from-length ps (b ∷ bs) =
    let h = places_from-length (ps ++ below_place ps b ∷ []) bs in
    let l = length-append ps (below_place ps b ∷ []) in
    omega (arith, h, l)

pub places-length : (bs : List Below) → length (places bs) ≡ suc (length bs)
places-length bs = let h = places_from-length ([] ∷ []) bs in omega (arith, h)

pub inside_places : (bs : List Below) (n : ℕ) → n ≤ length bs → n < length (places bs)
inside_places bs n h = let e = places-length bs in omega (arith, e, h)

places_from-last : (ps : List Place) (bs : List Below) (b : Below) → places_from ps (bs ++ b ∷ []) ≡ places_from ps bs ++ below_place (places_from ps bs) b ∷ []
places_from-last ps [] b = refl
places_from-last ps (c ∷ bs) b = places_from-last (ps ++ below_place ps c ∷ []) bs b

pub places-last : (bs : List Below) (b : Below) → places (bs ++ b ∷ []) ≡ places bs ++ below_place (places bs) b ∷ []
places-last = places_from-last ([] ∷ [])

places_from-front : (ps : List Place) (bs : List Below) (i : ℕ) → i < length ps → place_at (places_from ps bs) i ≡ place_at ps i
places_from-front ps [] i h = refl
places_from-front ps (b ∷ bs) i h =
    let l = length-append ps (below_place ps b ∷ []) in
    places_from-front (ps ++ below_place ps b ∷ []) bs i (omega (arith, h, l)) ∙ at_front ps (below_place ps b ∷ []) i h

pub root_first : (bs : List Below) → place_at (places bs) 0 ≡ []
root_first bs = places_from-front ([] ∷ []) bs 0 (omega arith)

-- each place lies below one before it; so many are before the first
abbrev LieFrom : ℕ → List Below → Type 0
LieFrom n [] = Unit {0}
LieFrom n (b ∷ bs) = (b.above < n) × LieFrom (suc n) bs

lie_each : (n : ℕ) (bs : List Below) → ((i : ℕ) (b : Below) → slice_get bs i ≡ Some b → b.above < n + i) → LieFrom n bs
lie_each n [] h = tt
lie_each n (b ∷ bs) h = (
  let g = h 0 b refl in omega (arith, g),
  lie_each (suc n) bs (λ i c e. let g = h (suc i) c e in omega (arith, g)),
)

lie_first : (bs : List Below) → LieBelow bs → LieFrom 1 bs
lie_first bs h = lie_each 1 bs (λ i b e. let g = h i b e in omega (arith, g))

-- each is a step below the place above it
place_unfolds : (ps : List Place) (n : ℕ) (bs : List Below) (k : ℕ) (b : Below) → length ps ≡ n → LieFrom n bs → slice_get bs k ≡ Some b
    → place_at (places_from ps bs) (n + k) ≡ below_place (places_from ps bs) b
place_unfolds ps n [] k b e lie h = cc
place_unfolds ps n (c ∷ bs) zero b e lie h =
    let same : c ≡ b = cc in
    let x = below_place ps c in
    let l : length (ps ++ x ∷ []) ≡ length ps + 1 = length-append ps (x ∷ []) in
    let at : n + 0 ≡ length ps = omega (arith, e) in
    let over = lie.0 in
    ap (place_at (places_from (ps ++ x ∷ []) bs)) at
    ∙ places_from-front (ps ++ x ∷ []) bs (length ps) (omega (arith, l))
    ∙ at_last ps x
    ∙ ap (λ q. step_of c.step ∷ q) (sym (places_from-front (ps ++ x ∷ []) bs c.above (omega (arith, l, e, over)) ∙ at_front ps (x ∷ []) c.above (omega (arith, e, over))))
    ∙ ap (below_place (places_from (ps ++ x ∷ []) bs)) same
place_unfolds ps n (c ∷ bs) (suc k) b e lie h =
    let x = below_place ps c in
    let l : length (ps ++ x ∷ []) ≡ length ps + 1 = length-append ps (x ∷ []) in
    let at : n + suc k ≡ suc n + k = omega arith in
    ap (place_at (places_from (ps ++ x ∷ []) bs)) at ∙ place_unfolds (ps ++ x ∷ []) (suc n) bs k b (omega (arith, l, e)) lie.1 h

pub place_is : (bs : List Below) (i : ℕ) (b : Below) → LieBelow bs → slice_get bs i ≡ Some b → place_at (places bs) (suc i) ≡ below_place (places bs) b
place_is bs i b lie h =
    let at : suc i ≡ 1 + i = omega arith in
    ap (place_at (places bs)) at ∙ place_unfolds ([] ∷ []) 1 bs i b refl (lie_first bs lie) h

-- ---- a child is the place

pub child_place : (bs : List Below) (ls : List Links) (above i : ℕ) (step : Step) → LieBelow bs → LinkBelow bs ls → is_among i (children ls above) ≡ true
    → IsSomeAnd (slice_get bs i) (λ b. b.step ≡ step) → IsPlace bs (i + 1) (step_of step ∷ place_at (places bs) above)
child_place bs ls above i step lie below among here =
    let h = below above i among in
    let within = h.0 in
    let b = some_at bs i within in
    let is = (h.1 b.0 b.1).0 in
    let same : b.0.step ≡ step = subst (λ o. IsSomeAnd o (λ x. x.step ≡ step)) b.1 here in
    let at : i + 1 ≡ suc i = omega arith in (
      omega (arith, within),
      ap (place_at (places bs)) at ∙ place_is bs i b.0 lie b.1 ∙ ap (λ s. step_of s ∷ place_at (places bs) b.0.above) same
          ∙ ap (λ j. step_of step ∷ place_at (places bs) j) is,
    )

pub step_place : (bs : List Below) (i above : ℕ) (step : Step) → LieBelow bs → slice_get bs i ≡ Some (record { above = above; step = step })
    → IsPlace bs (i + 1) (step_of step ∷ place_at (places bs) above)
step_place bs i above step lie here =
    let b : Below = record { above = above; step = step } in
    let within = got_within bs i b here in
    let at : i + 1 ≡ suc i = omega arith in
    (omega (arith, within), ap (place_at (places bs)) at ∙ place_is bs i b lie here)

-- Where none of the children is that step below, no place is.
pub none_below : (bs : List Below) (ls : List Links) (above : ℕ) (step : Step) → AreLinked bs ls
    → ((i : ℕ) → is_among i (children ls above) ≡ true → (b : Below) → slice_get bs i ≡ Some b → b.step ≢ step) → IsNew bs (record { above = above; step = step })
none_below bs ls above step linked none i h = none i (linked i _ h) _ h refl

-- ---- one more place

same_step : (s t : Step) → step_of s ≡ step_of t → s ≡ t
same_step step.Element step.Element e = refl
same_step step.Key step.Key e = refl
same_step step.Value step.Value e = refl
same_step (step.Variant i) (step.Variant j) e = let h : i ≡ j = cc in ap (λ n. step.Variant n) h
same_step (step.Field i) (step.Field j) e = let h : i ≡ j = cc in ap (λ n. step.Field n) h
same_step _ _ e = cc

apart_more : (ps : List Place) (q : Place) → AreApart ps → ((i : ℕ) → i < length ps → place_at ps i ≡ q → ⊥) → AreApart (ps ++ q ∷ [])
apart_more ps q apart fresh i j high_i high_j e =
    let l : length (ps ++ q ∷ []) ≡ length ps + 1 = length-append ps (q ∷ []) in
    elim (within_or_last i (length ps) (omega (arith, l, high_i))) [
      | inl in_i ↦ elim (within_or_last j (length ps) (omega (arith, l, high_j))) [
        | inl in_j ↦ apart i j in_i in_j (sym (at_front ps (q ∷ []) i in_i) ∙ e ∙ at_front ps (q ∷ []) j in_j)
        | inr last_j ↦ absurd (fresh i in_i (sym (at_front ps (q ∷ []) i in_i) ∙ e ∙ ap (place_at (ps ++ q ∷ [])) last_j ∙ at_last ps q))
      ]
      | inr last_i ↦ elim (within_or_last j (length ps) (omega (arith, l, high_j))) [
        | inl in_j ↦ absurd (fresh j in_j (sym (at_front ps (q ∷ []) j in_j) ∙ sym e ∙ ap (place_at (ps ++ q ∷ [])) last_i ∙ at_last ps q))
        | inr last_j ↦ last_i ∙ sym last_j
      ]
    ]

same_below : (b c : Below) → b.above ≡ c.above → b.step ≡ c.step → b ≡ c
same_below b c above step = ap (λ n. record { above = n; step = b.step }) above ∙ ap (λ s. record { above = c.above; step = s }) step

pub length_more : (bs more : List Below) (b : Below) (n : ℕ) → more ≡ bs ++ b ∷ [] → n ≡ length bs → n + 1 ≡ length more
length_more bs more b n is e = let s = ap length is in let l = length-append bs (b ∷ []) in omega (arith, s, l, e)

module _ (bs more : List Below) (b : Below) (is : more ≡ bs ++ b ∷ []) (lie : LieBelow bs) (inside : b.above ≤ length bs) where
  size : length more ≡ suc (length bs)
  size = let e = ap length is in let l = length-append bs (b ∷ []) in omega (arith, e, l)

  pub places_grown : places more ≡ places bs ++ below_place (places bs) b ∷ []
  places_grown = ap places is ∙ places-last bs b

  pub below_grown : LieBelow more
  below_grown i c h =
      elim (got_more bs b i c (subst (λ xs. slice_get xs i ≡ Some c) is h)) [
        | inl e ↦ lie i c e
        | inr e ↦ let at = e.0 in let same : c.above ≡ b.above = ap (λ z. z.above) e.1 in omega (arith, at, same, inside)
      ]

  pub new_place : (n : ℕ) → n ≡ length more → IsPlace more n (below_place (places bs) b)
  new_place n e =
      let l = places-length bs in
      let s = size in
      let at : n ≡ length (places bs) = omega (arith, e, l, s) in
      (omega (arith, e), ap (λ ps. place_at ps n) places_grown ∙ ap (place_at (places bs ++ below_place (places bs) b ∷ [])) at ∙ at_last (places bs) _)

  -- each place so far is another
  fresh : IsNew bs b → AreApart (places bs) → (j : ℕ) → j < length (places bs) → place_at (places bs) j ≡ below_place (places bs) b → ⊥
  fresh new apart zero h e =
      let root : place_at (places bs) 0 ≡ [] = root_first bs in
      let same : [] ≡ below_place (places bs) b = sym root ∙ e in cc
  fresh new apart (suc k) h e =
      let l = places-length bs in
      let c = some_at bs k (omega (arith, h, l)) in
      let same : below_place (places bs) c.0 ≡ below_place (places bs) b = sym (place_is bs k c.0 lie c.1) ∙ e in
      let steps : step_of c.0.step ≡ step_of b.step = cc in
      let aboves : place_at (places bs) c.0.above ≡ place_at (places bs) b.above = cc in
      let under = lie k c.0 c.1 in
      let numbers : c.0.above ≡ b.above = apart c.0.above b.above (omega (arith, l, under, h)) (omega (arith, l, inside)) aboves in
      new k (c.1 ∙ ap Some (same_below c.0 b numbers (same_step c.0.step b.step steps)))

  pub apart_grown : IsNew bs b → AreApart (places bs) → AreApart (places more)
  apart_grown new apart = subst AreApart (sym places_grown) (apart_more (places bs) _ apart (fresh new apart))

  module _ (ls after : List Links) (there : children after b.above ≡ children ls b.above ++ length bs ∷ [])
      (others : (a : ℕ) → (children after a ≡ children ls a) ⊎ (a ≡ b.above)) where
    kept_child : (a i : ℕ) → is_among i (children ls a) ≡ true → is_among i (children after a) ≡ true
    kept_child a i h = elim (others a) [
      | inl e ↦ subst (λ cs. is_among i cs ≡ true) (sym e) h
      | inr e ↦ subst (λ z. is_among i (children after z) ≡ true) (sym e) (subst (λ cs. is_among i cs ≡ true) (sym there)
          (among_more i (length bs) (children ls b.above) (subst (λ z. is_among i (children ls z) ≡ true) e h)))
    ]

    pub linked_grown : AreLinked bs ls → AreLinked more after
    linked_grown linked i c h =
        elim (got_more bs b i c (subst (λ xs. slice_get xs i ≡ Some c) is h)) [
          | inl e ↦ kept_child c.above i (linked i c e)
          | inr e ↦ subst (λ z. is_among i (children after z.above) ≡ true) (sym e.1) (subst (λ cs. is_among i cs ≡ true) (sym there)
              (subst (λ k. is_among k (children ls b.above ++ length bs ∷ []) ≡ true) (sym e.0) (among_new (length bs) (children ls b.above))))
        ]

    module _ (last : IsUpTo (last_field after b.above) b.step) (grows : (a : ℕ) → last_field ls a ≤ last_field after a) where
      old_child : LinkBelow bs ls → (a i : ℕ) → is_among i (children ls a) ≡ true
          → (i < length more) × ((c : Below) → slice_get more i ≡ Some c → (c.above ≡ a) × IsUpTo (last_field after a) c.step)
      old_child below a i h =
          let g = below a i h in
          let within = g.0 in
          let z = size in (
            omega (arith, within, z),
            λ c e. elim (got_more bs b i c (subst (λ xs. slice_get xs i ≡ Some c) is e)) [
              | inl f ↦
                  let k = g.1 c f in
                  (k.0, λ j s. let up = k.1 j s in let more_up = grows a in omega (arith, up, more_up))
              | inr f ↦ let at = f.0 in absurd (omega (arith, within, at))
            ],
          )

      new_child : (a i : ℕ) → a ≡ b.above → i ≡ length bs
          → (i < length more) × ((c : Below) → slice_get more i ≡ Some c → (c.above ≡ a) × IsUpTo (last_field after a) c.step)
      new_child a i above at =
          let z = size in (
            omega (arith, at, z),
            λ c e. elim (got_more bs b i c (subst (λ xs. slice_get xs i ≡ Some c) is e)) [
              | inl f ↦ let k = got_within bs i c f in absurd (omega (arith, k, at))
              | inr f ↦ (
                ap (λ x. x.above) f.1 ∙ sym above,
                subst (λ z. IsUpTo (last_field after z) c.step) (sym above) (subst (λ x. IsUpTo (last_field after b.above) x.step) (sym f.1) last),
              )
            ],
          )

      pub others_grown : LinkBelow bs ls → LinkBelow more after
      others_grown below a i h =
          elim (others a) [
            | inl e ↦ old_child below a i (subst (λ cs. is_among i cs ≡ true) e h)
            | inr e ↦ elim (among_last i (length bs) (children ls b.above) (subst (λ cs. is_among i cs ≡ true) there
                (subst (λ z. is_among i (children after z) ≡ true) e h))) [
                  | inl f ↦ old_child below a i (subst (λ z. is_among i (children ls z) ≡ true) (sym e) f)
                  | inr f ↦ new_child a i e f
                ]
          ]

-- ---- places that may have grown

pub grown_size : (old new : List Below) (b : Below) (n : ℕ) → IsGrown old b new n → length old ≤ length new
grown_size old new b n (inl e) = let h = ap length e in omega (arith, h)
grown_size old new b n (inr e) = let h = ap length e.0 in let l = length-append old (b ∷ []) in omega (arith, h, l)

pub grown_within : (old new : List Below) (b : Below) (n : ℕ) → IsGrown old b new n → n ≤ length new → n ≤ length old + 1
grown_within old new b n (inl e) h = let s = ap length e in omega (arith, h, s)
grown_within old new b n (inr e) h = let s = ap length e.0 in let l = length-append old (b ∷ []) in omega (arith, h, s, l)

pub grown_places : (old new : List Below) (b : Below) (n : ℕ) → IsGrown old b new n → (more : List Place) × (places new ≡ places old ++ more)
grown_places old new b n (inl e) = ([], ap places e ∙ sym (append-nil (places old)))
grown_places old new b n (inr e) = (below_place (places old) b ∷ [], ap places e.0 ∙ places-last old b)
