-- Lists that the laws of columns take apart.
use Rattle.std.proofs.Common.{◌≡◌, List, [], ◌∷◌, ◌++◌, length, map, All, refl, sym, arith}
use Rattle.std.proofs.lemmas.List.Elements.{All-head, All-tail}

-- two fronts of one list that are equally long are equal, and so are the rests
pub append_split : {X : Type 0} (a b r s : List X) → length a ≡ length b → a ++ r ≡ b ++ s → (a ≡ b) × (r ≡ s)
append_split [] [] r s e h = (refl, h)
append_split [] (y ∷ b) r s e h = absurd (omega arith)
append_split (x ∷ a) [] r s e h = absurd (omega arith)
append_split (x ∷ a) (y ∷ b) r s e h = let i : (a ≡ b) × (r ≡ s) = append_split a b r s (omega arith) cc in (cc, i.1)

-- each image under f is that under g, taken further by h
pub map_further : {X Y Z : Type 0} (f : X → Z) (g : X → Y) (h : Y → Z) (xs : List X) → All (λ x. h (g x) ≡ f x) xs → map f xs ≡ map h (map g xs)
map_further f g h [] each = refl
map_further f g h (x ∷ xs) each =
    let first : f x ≡ h (g x) = sym (All-head (λ x. h (g x) ≡ f x) x xs each) in
    let later : map f xs ≡ map h (map g xs) = map_further f g h xs (All-tail (λ x. h (g x) ≡ f x) x xs each) in
    cc
