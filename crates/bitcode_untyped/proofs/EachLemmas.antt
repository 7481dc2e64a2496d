-- What holds of each element of a list.
use Rattle.std.proofs.Common.{List, [], ◌∷◌, ◌++◌, flat_map}
use Rattle.std.specs.List.{AllByRecursion}

pub each_if : {A : Type 0} (P Q : A → Type 0) → ((x : A) → P x → Q x) → (xs : List A) → AllByRecursion P xs → AllByRecursion Q xs
each_if P Q f [] h = tt
each_if P Q f (x ∷ xs) h = (f x h.0, each_if P Q f xs h.1)

pub each_append : {A : Type 0} (P : A → Type 0) (xs ys : List A) → AllByRecursion P xs → AllByRecursion P ys → AllByRecursion P (xs ++ ys)
each_append P [] ys h k = k
each_append P (x ∷ xs) ys h k = (h.0, each_append P xs ys h.1 k)

pub each_front : {A : Type 0} (P : A → Type 0) (xs ys : List A) → AllByRecursion P (xs ++ ys) → AllByRecursion P xs
each_front P [] ys h = tt
each_front P (x ∷ xs) ys h = (h.0, each_front P xs ys h.1)

pub each_back : {A : Type 0} (P : A → Type 0) (xs ys : List A) → AllByRecursion P (xs ++ ys) → AllByRecursion P ys
each_back P [] ys h = h
each_back P (x ∷ xs) ys h = each_back P xs ys h.1

pub each_flat : {A B : Type 0} (P : B → Type 0) (f : A → List B) → ((x : A) → AllByRecursion P (f x)) → (xs : List A) → AllByRecursion P (flat_map f xs)
each_flat P f h [] = tt
each_flat P f h (x ∷ xs) = each_append P (f x) (flat_map f xs) (h x) (each_flat P f h xs)

pub each_flat_of : {A B : Type 0} (P : B → Type 0) (Q : A → Type 0) (f : A → List B) → ((x : A) → Q x → AllByRecursion P (f x))
    → (xs : List A) → AllByRecursion Q xs → AllByRecursion P (flat_map f xs)
each_flat_of P Q f h [] all = tt
each_flat_of P Q f h (x ∷ xs) all = each_append P (f x) (flat_map f xs) (h x all.0) (each_flat_of P Q f h xs all.1)

pub each_both : {A : Type 0} (P Q : A → Type 0) (xs : List A) → AllByRecursion P xs → AllByRecursion Q xs → AllByRecursion (λ x. P x × Q x) xs
each_both P Q [] h k = tt
each_both P Q (x ∷ xs) h k = ((h.0, k.0), each_both P Q xs h.1 k.1)
