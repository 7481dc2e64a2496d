-- The least and the greatest number, found in one pass.
use Rattle.std.proofs.Common.{◌≡◌, ℕ, suc, ◌+◌, ◌<◌, ◌≤◌, Bool, cond, ℤ, List, [], ◌∷◌, ◌++◌, length, map, take, get_or, All, subst, sym, ap, ◌∙◌, arith}
use Rattle.std.specs.Prelude.{int_lt}
use Rattle.std.specs.List.{fold}
use Rattle.std.specs.Int.{int_min, int_max}
use Rattle.std.proofs.lemmas.List.{map-append, take_all}
use Rattle.std.proofs.lemmas.List.Sums.{fold_push}
use Rattle.std.proofs.lemmas.Int.{ints}
use Rattle.std.proofs.lemmas.List.Elements.{All-cons}
use Rattle.std.proofs.Math.Seq.{take-suc}
use Rattle.bitcode_memory.specs.Ints.{least, greatest}

fold_mapped : {X : Type 0} (op : ℤ → ℤ → ℤ) (f : X → ℤ) (first : ℤ) (xs : List X) (i : ℕ) (d : X) → i < length xs
    → fold op first (map f (take (i + 1) xs)) ≡ op (fold op first (map f (take i xs))) (f (get_or xs i d))
fold_mapped op f first xs i d h =
    let more : map f (take (i + 1) xs) ≡ map f (take i xs) ++ (f (get_or xs i d) ∷ []) =
    ap (λ n. map f (take n xs)) {y = suc i} (omega arith) ∙ ap (map f) (take-suc xs i d h) ∙ map-append f (take i xs) (get_or xs i d ∷ []) in
    rw more (fold_push op first (map f (take i xs)) (f (get_or xs i d)))

pub least_more : {X : Type 0} (f : X → ℤ) (first : ℤ) (xs : List X) (i : ℕ) (d entry : X) (old new : ℤ) (test : Bool) → i < length xs
    → entry ≡ get_or xs i d → old ≡ fold int_min first (map f (take i xs)) → test ≡ int_lt (f entry) old → new ≡ cond test (f entry) old
    → new ≡ fold int_min first (map f (take (i + 1) xs))
least_more f first xs i d entry old new test h at so_far tested chosen =
    chosen ∙ ap (λ b. cond b (f entry) old) tested ∙ ap (λ e. int_min old (f e)) at ∙ ap (λ a. int_min a (f (get_or xs i d))) so_far
    ∙ sym (fold_mapped int_min f first xs i d h)

max_of : (a b : ℤ) → cond (int_lt a b) b a ≡ int_max a b
max_of a b = grind (arith, ints)

pub greatest_more : {X : Type 0} (f : X → ℤ) (first : ℤ) (xs : List X) (i : ℕ) (d entry : X) (old new : ℤ) (test : Bool) → i < length xs
    → entry ≡ get_or xs i d → old ≡ fold int_max first (map f (take i xs)) → test ≡ int_lt old (f entry) → new ≡ cond test (f entry) old
    → new ≡ fold int_max first (map f (take (i + 1) xs))
greatest_more f first xs i d entry old new test h at so_far tested chosen =
    chosen ∙ ap (λ b. cond b (f entry) old) tested ∙ max_of old (f entry) ∙ ap (λ e. int_max old (f e)) at ∙ ap (λ a. int_max a (f (get_or xs i d))) so_far
    ∙ sym (fold_mapped int_max f first xs i d h)

pub least_of : {X : Type 0} (f : X → ℤ) (first : X) (rest entries : List X) (i : ℕ) (found : ℤ) → entries ≡ first ∷ rest → length rest ≤ i
    → found ≡ fold int_min (f first) (map f (take i rest)) → found ≡ least (map f entries)
least_of f first rest entries i found e h is = is ∙ ap (λ r. fold int_min (f first) (map f r)) (take_all i rest h) ∙ ap (λ l. least (map f l)) (sym e)

pub greatest_of : {X : Type 0} (f : X → ℤ) (first : X) (rest entries : List X) (i : ℕ) (found : ℤ) → entries ≡ first ∷ rest → length rest ≤ i
    → found ≡ fold int_max (f first) (map f (take i rest)) → found ≡ greatest (map f entries)
greatest_of f first rest entries i found e h is = is ∙ ap (λ r. fold int_max (f first) (map f r)) (take_all i rest h) ∙ ap (λ l. greatest (map f l)) (sym e)

pub all_of : {X : Type 0} (P : X → Type 0) (first : X) (rest entries : List X) (i : ℕ) → entries ≡ first ∷ rest → length rest ≤ i
    → P first → All P (take i rest) → All P entries
all_of P first rest entries i e h here there =
    subst (All P) (sym e) (All-cons P first rest here (subst (All P) (take_all i rest h) there))
