-- Parts of lists that are appended.
use Rattle.std.proofs.Common.{◌≡◌, ℕ, zero, suc, ◌+◌, ◌-◌, List, [], ◌∷◌, ◌++◌, length, take, drop, All, refl, ap, ◌∙◌, arith, length-append}
use Rattle.std.proofs.lemmas.List.Elements.{All-nil, All-cons, All-head, All-tail}

pub All-left : {X : Type 0} (P : X → Type 0) (xs ys : List X) → All P (xs ++ ys) → All P xs
All-left P [] ys h = All-nil P
All-left P (x ∷ xs) ys h = All-cons P x xs (All-head P x (xs ++ ys) h) (All-left P xs ys (All-tail P x (xs ++ ys) h))

pub All-right : {X : Type 0} (P : X → Type 0) (xs ys : List X) → All P (xs ++ ys) → All P ys
All-right P [] ys h = h
All-right P (x ∷ xs) ys h = All-right P xs ys (All-tail P x (xs ++ ys) h)

pub take-append : {X : Type 0} (n : ℕ) (xs ys : List X) → take n (xs ++ ys) ≡ take n xs ++ take (n - length xs) ys
take-append zero xs ys = let e : 0 - length xs ≡ 0 = omega arith in rw e refl
take-append (suc n) [] ys = let e : suc n - 0 ≡ suc n = omega arith in rw e refl
take-append (suc n) (x ∷ xs) ys = let e : suc n - suc (length xs) ≡ n - length xs = omega arith in rw e (ap (λ l. x ∷ l) (take-append n xs ys))

pub drop-append : {X : Type 0} (n : ℕ) (xs ys : List X) → drop n (xs ++ ys) ≡ drop n xs ++ drop (n - length xs) ys
drop-append zero xs ys = let e : 0 - length xs ≡ 0 = omega arith in rw e refl
drop-append (suc n) [] ys = let e : suc n - 0 ≡ suc n = omega arith in rw e refl
drop-append (suc n) (x ∷ xs) ys = let e : suc n - suc (length xs) ≡ n - length xs = omega arith in rw e (drop-append n xs ys)

-- a front of three parts in a row, and the rest of them
pub take_three : {X : Type 0} (n : ℕ) (a b c : List X)
    → take n (a ++ b ++ c) ≡ take n a ++ take (n - length a) b ++ take (n - (length a + length b)) c
take_three n a b c =
    take-append n (a ++ b) c
    ∙ ap (λ l. l ++ take (n - length (a ++ b)) c) (take-append n a b)
    ∙ ap (λ k. take n a ++ take (n - length a) b ++ take (n - k) c) (length-append a b)

pub drop_three : {X : Type 0} (n : ℕ) (a b c : List X)
    → drop n (a ++ b ++ c) ≡ drop n a ++ drop (n - length a) b ++ drop (n - (length a + length b)) c
drop_three n a b c =
    drop-append n (a ++ b) c
    ∙ ap (λ l. l ++ drop (n - length (a ++ b)) c) (drop-append n a b)
    ∙ ap (λ k. drop n a ++ drop (n - length a) b ++ drop (n - k) c) (length-append a b)
