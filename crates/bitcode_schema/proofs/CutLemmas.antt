-- Items are made one by one, and cut into pieces one by one.
use Rattle.std.proofs.Common.{◌≡◌, ℕ, List, [], ◌∷◌, ◌++◌, length, take, drop, sym, ap, ap₂, subst, ◌∙◌, arith, append_assoc, length-append}
use Rattle.std.specs.List.{AllZip}
use Rattle.std.proofs.lemmas.Bool.{cond-true, le-leb}
use Rattle.std.proofs.lemmas.List.{append-nil, nil_from_length}
use Rattle.std.proofs.Math.Seq.{take-append_seam, drop-append_seam}
use Rattle.bitcode_coder.specs.Cutting.{cut}

module _ {A B : Type 0} (P : B → A → Type 0) where
  -- items were made of the first ones, and with items for those that are left, of all
  pub record MadeTo (all left : List A) (made : List B) : Type 0 where
    pub more : (behind : List B) → AllZip P behind left → AllZip P (made ++ behind) all

  pub made_none : (all : List A) (made : List B) → made ≡ [] → MadeTo all all made
  made_none all made none = record { more = λ behind each. subst (λ ms. AllZip P (ms ++ behind) all) (sym none) each }

  pub made_next : (all old left : List A) (made after : List B) (a : A) (b : B) → MadeTo all old made → old ≡ a ∷ left → P b a → after ≡ made ++ b ∷ []
      → MadeTo all left after
  made_next all old left made after a b before first is grown = record {
    more = λ behind each.
        let here : AllZip P (b ∷ behind) old = subst (AllZip P (b ∷ behind)) (sym first) (is, each) in
        subst (λ ms. AllZip P ms all) (sym (ap (λ ms. ms ++ behind) grown ∙ append_assoc made (b ∷ []) behind)) (before.more (b ∷ behind) here);
  }

  pub made_all : (all left : List A) (made : List B) → MadeTo all left made → length left ≡ 0 → AllZip P made all
  made_all all left made done none =
      subst (λ ms. AllZip P ms all) (append-nil made) (done.more [] (subst (AllZip P []) (sym (nil_from_length left none)) tt))

pub cut_one : {A : Type 0} (n : ℕ) (ns : List ℕ) (front rest : List A) → length front ≡ n → cut (n ∷ ns) (front ++ rest) ≡ front ∷ cut ns rest
cut_one n ns front rest is =
    cond-true _ _ _ (le-leb n (length (front ++ rest)) (omega (arith, is, length-append front rest)))
    ∙ ap₂ (λ xs ys. xs ∷ cut ns ys) (ap (λ m. take m (front ++ rest)) (sym is) ∙ take-append_seam front rest)
    (ap (λ m. drop m (front ++ rest)) (sym is) ∙ drop-append_seam front rest)

-- ---- pieces

module _ {A B : Type 0} (P : B → List A → Type 0) (ns : List ℕ) (items : List A) where
  pub pieces_next : (n : ℕ) (old left : List ℕ) (now front rest : List A) (made after : List B) (b : B)
      → MadeTo P (cut ns items) (cut old now) made → old ≡ n ∷ left → now ≡ front ++ rest → length front ≡ n → P b front → after ≡ made ++ b ∷ []
      → MadeTo P (cut ns items) (cut left rest) after
  pieces_next n old left now front rest made after b before lengths taken size is grown =
      made_next P (cut ns items) (cut old now) (cut left rest) made after front b before (ap₂ cut lengths taken ∙ cut_one n left front rest size) is grown

  pub pieces_all : (left : List ℕ) (rest : List A) (made : List B) → MadeTo P (cut ns items) (cut left rest) made → length left ≡ 0
      → AllZip P made (cut ns items)
  pieces_all left rest made done none =
      let is : left ≡ [] = nil_from_length left none in
      made_all P (cut ns items) (cut left rest) made done (ap (λ ls. length (cut ls rest)) is)
