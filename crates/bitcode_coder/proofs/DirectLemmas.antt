-- What a decoder that was just made reads and makes is a reading of values.
use Rattle.std.proofs.Common.{◌≡◌, ℕ, suc, ◌+◌, List, [], ◌∷◌, ◌++◌, length, refl, sym, ◌∙◌, ap, subst, arith}
use Rattle.std.specs.List.{AllZip}
use Rattle.bitcode_columns.specs.Reading.{Reads}
use Rattle.bitcode_shapes.specs.Datum.{Datum}
use Rattle.bitcode_shapes.specs.LawfulLists.{zip_length}
use Rattle.bitcode_shapes.specs.Shape.{Shape}
use Rattle.bitcode_coder.specs.Spelling.{Spells}
use Rattle.bitcode_coder.specs.Coder.{TakesDatum, TakesEach, ReadsValue, ReadsValues}

none_left : (d : Datum) (ds : List Datum) → length (d ∷ ds) ≡ 1 → ds ≡ []
none_left d [] h = refl
none_left d (e ∷ ds) h = absurd (omega arith)

pub one_read : {T : Type 0} (makes : Datum → T → Type 0) (shape : Shape) {old : List ℕ} {held : List Datum} {new : List ℕ} {t : T} {left : List Datum}
    → Reads (Spells shape) 1 old held new → TakesDatum makes t held left → ReadsValue makes shape old t new
one_read makes shape {old} {held} {new} {t} {left} r k =
    let none : left ≡ [] = none_left k.datum left (ap length (sym k.taken) ∙ r.size) in
    let whole : held ≡ k.datum ∷ [] = k.taken ∙ ap (λ xs. k.datum ∷ xs) none in
    record { datum = k.datum; read = subst (λ xs. Reads (Spells shape) 1 old xs new) whole r; made = k.made }

-- a list is its front, if that is as long
is_front : (whole front back : List Datum) → whole ≡ front ++ back → length whole ≡ length front → whole ≡ front
is_front whole [] [] h k = h
is_front whole [] (e ∷ back) h k = absurd (omega (arith, k, ap length h))
is_front [] (d ∷ front) back h k = absurd (omega (arith, ap length h))
is_front (e ∷ whole) (d ∷ front) back h k =
    let same = is_front whole front back (ap rest_of h) (omega (arith, k)) in
    ap (λ x. x ∷ whole) (ap (first_of e) h) ∙ ap (λ xs. d ∷ xs) same
  where
    first_of : Datum → List Datum → Datum
    first_of e [] = e
    first_of e (x ∷ xs) = x

    rest_of : List Datum → List Datum
    rest_of [] = []
    rest_of (x ∷ xs) = xs

pub each_read : {T : Type 0} (makes : Datum → T → Type 0) (shape : Shape) (count : ℕ) {old : List ℕ} {held : List Datum} {new : List ℕ} {items : List T}
    {left : List Datum} → Reads (Spells shape) count old held new → TakesEach makes count items held left → ReadsValues makes shape count old items new
each_read makes shape count {old} {held} {new} {items} {left} r k =
    let whole : held ≡ k.parts = is_front held k.parts left k.taken (r.size ∙ sym k.size ∙ sym (zip_length makes k.parts items k.made)) in
    record { parts = k.parts; read = subst (λ xs. Reads (Spells shape) count old xs new) whole r; made = k.made }
