-- The decoders of a few variants read payloads of the variants' shapes.
use Rattle.std.proofs.Common.{◌≡◌, ℕ, ◌+◌, [], ◌∷◌, refl, sym, ap, ◌∙◌, arith}
use Rattle.bitcode_shapes.specs.Shape.{Shape, Shapes}
use Rattle.bitcode_enums.specs.ByNumber.{shape_at, AreShapesOf}
use Rattle.bitcode_enums.specs.ByNumberLaws.{first_and}

-- a decoder reads payloads of the shape of the variant with a number, also where the number is written otherwise
placed : (shapes : Shapes) {s p : Shape} (number same : ℕ) → number ≡ same → shape_at number shapes ≡ p → s ≡ p → s ≡ shape_at same shapes
placed shapes number same is has_p is_s = is_s ∙ sym has_p ∙ ap (λ n. shape_at n shapes) is

module _ (shapes : Shapes) (first : ℕ) {a b p q : Shape} (has_p : shape_at first shapes ≡ p) (is_a : a ≡ p) (has_q : shape_at (first + 1) shapes ≡ q) (is_b : b ≡ q) where
  pub shapes_of_2 : AreShapesOf shapes first (a ∷ b ∷ [])
  shapes_of_2 = first_and (is_a ∙ sym has_p) (first_and (is_b ∙ sym has_q) refl)

  module _ {c r : Shape} (has_r : shape_at (first + 2) shapes ≡ r) (is_c : c ≡ r) where
    pub shapes_of_3 : AreShapesOf shapes first (a ∷ b ∷ c ∷ [])
    shapes_of_3 =
        first_and (is_a ∙ sym has_p) (first_and (is_b ∙ sym has_q)
        (first_and (placed shapes (first + 2) (first + 1 + 1) (omega arith) has_r is_c) refl))

    module _ {d s : Shape} (has_s : shape_at (first + 3) shapes ≡ s) (is_d : d ≡ s) where
      pub shapes_of_4 : AreShapesOf shapes first (a ∷ b ∷ c ∷ d ∷ [])
      shapes_of_4 =
          first_and (is_a ∙ sym has_p) (first_and (is_b ∙ sym has_q)
          (first_and (placed shapes (first + 2) (first + 1 + 1) (omega arith) has_r is_c)
          (first_and (placed shapes (first + 3) (first + 1 + 1 + 1) (omega arith) has_s is_d) refl)))
