-- Two values are equal exactly if they have the same content.
use Rattle.std.proofs.Common.{unsigned_abs, ◌≡◌, ◌≢◌, ℕ, zero, suc, ◌+◌, ◌<◌, pos, Bool, true, false, ◌==◌, ◌&&◌, List, [], ◌∷◌, map, take, length, get_or, Vec, Global, refl, sym, ap, subst, add-one, ◌∙◌, arith}
use Rattle.std.specs.Prelude.{MatchBool}
use Rattle.std.proofs.Math.Seq.{take-length}
use Rattle.std.specs.Ordering.{int_eq}
use Rattle.std.specs.Bool.{one_answer}
use Rattle.std.specs.Cmp.{signed_Decides, unsigned_Decides}
use Rattle.std.specs.Cmp.Lexicographic.{pointwise}
use Rattle.std.proofs.lemmas.Bool.Decides.{Decides-like}
use Rattle.bitcode_shapes.specs.Datum.{Datum, choice, pair, data_of}
use Rattle.bitcode_coder.specs.Spelling.{natural}
use Rattle.bitcode_untyped.specs.Content.{case_number, content_step, content_of}
use Rattle.bitcode_untyped.specs.Same.{same_datum, same_data, same_values, same_pairs}
use Rattle.bitcode_untyped.specs.SameLaws.{same_datum_decides}
use Rattle.bitcode_untyped.specs.View.{datum_step}
use Rattle.bitcode_untyped.specs.declared.value.Value.{Value}
use Rattle.bitcode_untyped.specs.declared.value.Value.TheOpen.{Value-F}
use Rattle.bitcode_untyped.specs.declared.value.Value.TheViews.{roll-Value}
use Rattle.bitcode_untyped.specs.declared.value.Value.TheVariants as value
use Rattle.bitcode_untyped.specs.declared.value.Value.TheFolds.{fold-roll-Value, map-Value}
use Rattle.bitcode_untyped.proofs.ContentLemmas.{case_kept}

-- ---- the answer

pub same_content : (v w : Value) (answer : Bool) → answer ≡ same_values v w → MatchBool answer (content_of v ≡ content_of w) (content_of v ≢ content_of w)
same_content v w true is = (same_datum_decides (content_of v) (content_of w)).0 (sym is)
same_content v w false is = λ h. let bad : false ≡ true = is ∙ (same_datum_decides (content_of v) (content_of w)).1 h in cc

-- ---- by the layer that a value rolls up

content_rolled : (x : Value-F Value) (v : Value) → roll-Value x ≡ v → content_of v ≡ choice (case_number x) (datum_step (map-Value Value Datum content_of x))
content_rolled x v is =
    ap content_of (sym is) ∙ fold-roll-Value Datum content_step x
    ∙ ap (λ i. choice i (datum_step (map-Value Value Datum content_of x))) (case_kept content_of x)

same_rolled : (x y : Value-F Value) (v w : Value) → roll-Value x ≡ v → roll-Value y ≡ w
    → same_values v w ≡ same_datum (choice (case_number x) (datum_step (map-Value Value Datum content_of x)))
    (choice (case_number y) (datum_step (map-Value Value Datum content_of y)))
same_rolled x y v w is are = ap (λ d. same_datum d (content_of w)) (content_rolled x v is) ∙ ap (same_datum (choice (case_number x) (datum_step (map-Value Value Datum content_of x)))) (content_rolled y w are)

-- ---- lists

and_true : (a : Bool) → (a && true) ≡ a
and_true true = refl
and_true false = refl

same_list : (vs ws : List Value) → same_data (data_of (map content_of vs)) (data_of (map content_of ws)) ≡ pointwise same_values vs ws
same_list [] [] = refl
same_list [] (w ∷ ws) = refl
same_list (v ∷ vs) [] = refl
same_list (v ∷ vs) (w ∷ ws) = ap (λ more. same_values v w && more) (same_list vs ws)

abbrev content_pair : Value × Value → Datum × Datum
content_pair e = (content_of e.0, content_of e.1)

same_entries : (vs ws : List (Value × Value))
    → same_data (data_of (map (λ (e : Datum × Datum). pair e.0 e.1) (map content_pair vs))) (data_of (map (λ (e : Datum × Datum). pair e.0 e.1) (map content_pair ws)))
    ≡ pointwise same_pairs vs ws
same_entries [] [] = refl
same_entries [] (w ∷ ws) = refl
same_entries (v ∷ vs) [] = refl
same_entries (v ∷ vs) (w ∷ ws) =
    ap (λ second. (same_values v.0 w.0 && second) && same_data (data_of (map (λ (e : Datum × Datum). pair e.0 e.1) (map content_pair vs))) (data_of (map (λ (e : Datum × Datum). pair e.0 e.1) (map content_pair ws))))
    (and_true (same_values v.1 w.1))
    ∙ ap (λ more. same_pairs v w && more) (same_entries vs ws)

same_naturals : (x y : ℕ) → int_eq (pos x) (pos y) ≡ (x == y)
same_naturals x y =
    one_answer (int_eq (pos x) (pos y)) (x == y) (signed_Decides (pos x) (pos y)) (Decides-like (x == y) (ap pos) (ap unsigned_abs) (unsigned_Decides x y))

same_bytes : (xs ys : List ℕ) → same_data (data_of (map natural xs)) (data_of (map natural ys)) ≡ pointwise ◌==◌ xs ys
same_bytes [] [] = refl
same_bytes [] (y ∷ ys) = refl
same_bytes (x ∷ xs) [] = refl
same_bytes (x ∷ xs) (y ∷ ys) =
    ap (λ first. first && same_data (data_of (map natural xs)) (data_of (map natural ys))) (same_naturals x y)
    ∙ ap (λ more. (x == y) && more) (same_bytes xs ys)

-- ---- two values of one variant

pub same-Bytes : (a b : Vec ℕ Global) → same_values (value.Bytes a) (value.Bytes b) ≡ pointwise ◌==◌ a.items b.items
same-Bytes a b =
    same_rolled (Value-F.Bytes a) (Value-F.Bytes b) (value.Bytes a) (value.Bytes b) (value.rolls-Bytes a) (value.rolls-Bytes b)
    ∙ same_bytes a.items b.items

pub same-Seq : (a b : Vec Value Global) → same_values (value.Seq a) (value.Seq b) ≡ pointwise same_values a.items b.items
same-Seq a b =
    same_rolled (Value-F.Seq a) (Value-F.Seq b) (value.Seq a) (value.Seq b) (value.rolls-Seq a) (value.rolls-Seq b) ∙ same_list a.items b.items

pub same-Map : (a b : Vec (Value × Value) Global) → same_values (value.Map a) (value.Map b) ≡ pointwise same_pairs a.items b.items
same-Map a b =
    same_rolled (Value-F.Map a) (Value-F.Map b) (value.Map a) (value.Map b) (value.rolls-Map a) (value.rolls-Map b) ∙ same_entries a.items b.items

pub same-Tuple : (a b : Vec Value Global) → same_values (value.Tuple a) (value.Tuple b) ≡ pointwise same_values a.items b.items
same-Tuple a b =
    same_rolled (Value-F.Tuple a) (Value-F.Tuple b) (value.Tuple a) (value.Tuple b) (value.rolls-Tuple a) (value.rolls-Tuple b)
    ∙ same_list a.items b.items

-- ---- a loop over two lists

and_false : (a : Bool) → (a && false) ≡ false
and_false true = refl
and_false false = refl

and_next : (first before after : Bool) → (before ≡ true → after ≡ true) → (first && before) ≡ true → (first && after) ≡ true
and_next true before after f h = f h
and_next false before after f h = h

module _ {A : Type 0} (E : A → A → Bool) where
  differs : (xs ys : List A) (i : ℕ) (x y : A) → i < length xs → E (get_or xs i x) (get_or ys i y) ≡ false → pointwise E xs ys ≡ false
  differs [] ys i x y inside e = absurd (omega (arith, inside))
  differs (z ∷ xs) [] i x y inside e = refl
  differs (z ∷ xs) (u ∷ ys) zero x y inside e = ap (λ first. first && pointwise E xs ys) e
  differs (z ∷ xs) (u ∷ ys) (suc i) x y inside e =
      ap (λ more. E z u && more) (differs xs ys i x y (let j : suc i < suc (length xs) = inside in omega arith) e) ∙ and_false (E z u)

  one_more : (xs ys : List A) (i : ℕ) (x y : A) → i < length xs → i < length ys → E (get_or xs i x) (get_or ys i y) ≡ true
      → pointwise E (take i xs) (take i ys) ≡ true → pointwise E (take (suc i) xs) (take (suc i) ys) ≡ true
  one_more [] ys i x y inside within e p = absurd (omega (arith, inside))
  one_more (z ∷ xs) [] i x y inside within e p = absurd (omega (arith, within))
  one_more (z ∷ xs) (u ∷ ys) zero x y inside within e p = ap (λ first. first && true) e
  one_more (z ∷ xs) (u ∷ ys) (suc i) x y inside within e p =
      and_next (E z u) (pointwise E (take i xs) (take i ys)) (pointwise E (take (suc i) xs) (take (suc i) ys))
      (one_more xs ys i x y (let j : suc i < suc (length xs) = inside in omega arith) (let j : suc i < suc (length ys) = within in omega arith) e) p

  -- what is read of two lists at one index
  module _ (xs ys : List A) (i : ℕ) (x y : A) (inside : i < length xs) (first : x ≡ get_or xs i x) (second : y ≡ get_or ys i y) where
    there : (answer : Bool) → E x y ≡ answer → E (get_or xs i x) (get_or ys i y) ≡ answer
    there answer e = ap (λ z. E z (get_or ys i y)) (sym first) ∙ ap (E x) (sym second) ∙ e

    pub differs_at : E x y ≡ false → pointwise E xs ys ≡ false
    differs_at e = differs xs ys i x y inside (there false e)

    pub same_so_far : length xs ≡ length ys → E x y ≡ true → pointwise E (take i xs) (take i ys) ≡ true → pointwise E (take (i + 1) xs) (take (i + 1) ys) ≡ true
    same_so_far long e p = rw add-one (one_more xs ys i x y inside (omega (arith, inside, long)) (there true e) p)

  pub all_met : (xs ys : List A) (i : ℕ) → i ≡ length xs → length xs ≡ length ys → pointwise E (take i xs) (take i ys) ≡ true → true ≡ pointwise E xs ys
  all_met xs ys i last long p =
      let first : take i xs ≡ xs = ap (λ k. take k xs) last ∙ take-length xs in
      let second : take i ys ≡ ys = ap (λ k. take k ys) (last ∙ long) ∙ take-length ys in
      sym (subst (λ l. pointwise E l ys ≡ true) first (subst (λ l. pointwise E (take i xs) l ≡ true) second p))

pub other_key : (v w : Value × Value) → same_values v.0 w.0 ≡ false → same_pairs v w ≡ false
other_key v w key = ap (λ first. first && same_values v.1 w.1) key

pub other_entry : (v w : Value × Value) → same_values v.1 w.1 ≡ false → same_pairs v w ≡ false
other_entry v w entry = ap (λ second. same_values v.0 w.0 && second) entry ∙ and_false (same_values v.0 w.0)

pub same_pair : (v w : Value × Value) → same_values v.0 w.0 ≡ true → same_values v.1 w.1 ≡ true → same_pairs v w ≡ true
same_pair v w key entry = ap (λ first. first && same_values v.1 w.1) key ∙ entry
