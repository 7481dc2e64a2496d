-- The fields of rows are written by halves, down to one.
use Rattle.std.proofs.Common.{◌≡◌, ◌<◌, ◌≤◌, ◌+◌, ◌/◌, ◌++◌, ℕ, zero, suc, List, [], ◌∷◌, length, map, take, drop, get_or, sym, ap, ap₂, subst, ◌∙◌, arith}
use Rattle.std.specs.List.{take-map, drop-map}
use Rattle.std.proofs.lemmas.List.{map-append, length-map, length-take-le, take-append-drop}
use Rattle.bitcode_shapes.specs.Shape.{Shape, unit_shape, pair_shape}
use Rattle.bitcode_untyped.specs.declared.value.Value.{Value}
use Rattle.bitcode_schema.specs.Depth.{depth, greatest}
use Rattle.bitcode_schema.specs.Forms.{Content, content_under, shape_of, fields_shape}
use Rattle.bitcode_schema.specs.Parts.{contents_of, row_content}
use Rattle.bitcode_schema.specs.Writing.{Writes, HasStranger}
use Rattle.bitcode_schema.specs.declared.schema.SchemaNode.{SchemaNode}
use Rattle.bitcode_schema.proofs.HalfLemmas.{halved_pair}
use Rattle.bitcode_schema.proofs.SeenLemmas.{writes_as, stranger_as}
use Rattle.bitcode_schema.proofs.WholeLemmas.{writes_halves, stranger_front, stranger_back}

-- ---- the greatest depth

pub greatest_front : (n : ℕ) (ns : List ℕ) → greatest (take n ns) ≤ greatest ns
greatest_front zero ns = omega arith
greatest_front (suc n) [] = omega arith
greatest_front (suc n) (m ∷ ns) = let rest = greatest_front n ns in grind (arith, rest)

pub greatest_back : (n : ℕ) (ns : List ℕ) → greatest (drop n ns) ≤ greatest ns
greatest_back zero ns = omega arith
greatest_back (suc n) [] = omega arith
greatest_back (suc n) (m ∷ ns) = let rest = greatest_back n ns in grind (arith, rest)

module _ {R : Type 0} (seen : R → SchemaNode) (refs front back : List R) (is_front : front ≡ take (length refs / 2) refs)
    (is_back : back ≡ drop (length refs / 2) refs) where
  abbrev deep : List R → ℕ
  deep rs = greatest (map depth (map seen rs))

  pub front_deep : deep front ≤ deep refs
  front_deep =
      let same = ap (λ rs. map depth (map seen rs)) is_front
      ∙ ap (map depth) (sym (take-map seen (length refs / 2) refs)) ∙ sym (take-map depth (length refs / 2) (map seen refs)) in
      subst (λ ns. greatest ns ≤ deep refs) (sym same) (greatest_front (length refs / 2) (map depth (map seen refs)))

  pub back_deep : deep back ≤ deep refs
  back_deep =
      let same = ap (λ rs. map depth (map seen rs)) is_back
      ∙ ap (map depth) (sym (drop-map seen (length refs / 2) refs)) ∙ sym (drop-map depth (length refs / 2) (map seen refs)) in
      subst (λ ns. greatest ns ≤ deep refs) (sym same) (greatest_back (length refs / 2) (map depth (map seen refs)))

  module _ (some : 1 < length refs) (at : ℕ) (rows : List (List Value)) where
    abbrev content : List R → List Content
    content rs = contents_of (map seen rs)

    abbrev shape : List R → Shape
    shape rs = fields_shape (map shape_of (map seen rs))

    join : content front ++ content back ≡ content refs
    join =
        sym (map-append content_under (map seen front) (map seen back))
        ∙ ap contents_of (sym (map-append seen front back) ∙ ap (map seen) (ap₂ (λ f b. f ++ b) is_front is_back ∙ take-append-drop (length refs / 2) refs))

    size : (rs : List R) → length (content rs) ≡ length rs
    size rs = length-map (map seen rs) content_under ∙ length-map rs seen

    front_size : length front ≡ length refs / 2
    front_size = ap length is_front ∙ length-take-le (length refs / 2) refs (omega arith)

    all_size : length (content front ++ content back) ≡ length refs
    all_size = ap length join ∙ size refs

    several : 1 < length (content front ++ content back)
    several = subst (λ n. 1 < n) (sym all_size) some

    half : length (content front) ≡ length (content front ++ content back) / 2
    half = size front ∙ front_size ∙ ap (λ n. n / 2) (sym all_size)

    next : at + length (content front) ≡ at + length refs / 2
    next = ap (λ n. at + n) (size front ∙ front_size)

    shapes_size : length (map shape_of (map seen refs)) ≡ length refs
    shapes_size = length-map (map seen refs) shape_of ∙ length-map refs seen

    shapes : pair_shape (shape front) (shape back) ≡ shape refs
    shapes =
        let ss = map shape_of (map seen refs) in
        let n = length refs / 2 in
        let first = ap (λ k. take (k / 2) ss) shapes_size ∙ take-map shape_of n (map seen refs) ∙ ap (map shape_of) (take-map seen n refs)
        ∙ ap (λ rs. map shape_of (map seen rs)) (sym is_front) in
        let second = ap (λ k. drop (k / 2) ss) shapes_size ∙ drop-map shape_of n (map seen refs) ∙ ap (map shape_of) (drop-map seen n refs)
        ∙ ap (λ rs. map shape_of (map seen rs)) (sym is_back) in
        sym (halved_pair unit_shape pair_shape ss (subst (λ k. 1 < k) (sym shapes_size) some)
        ∙ ap₂ (λ f b. pair_shape (fields_shape f) (fields_shape b)) first second)

    pub fields_written : (old middle new : List ℕ) → Writes (row_content (content front) at) (shape front) rows old middle
        → Writes (row_content (content back) (at + length refs / 2)) (shape back) rows middle new → Writes (row_content (content refs) at) (shape refs) rows old new
    fields_written old middle new w x =
        writes_as (row_content (content front ++ content back) at) (row_content (content refs) at) (λ row. ap (λ cs. row_content cs at row) join)
        (pair_shape (shape front) (shape back)) (shape refs) shapes rows old new
        (writes_halves (content front) (content back) (shape front) (shape back) at rows several half old middle new w
        (subst (λ n. Writes (row_content (content back) n) (shape back) rows middle new) (sym next) x))

    pub front_stranger : HasStranger (row_content (content front) at) (shape front) rows → HasStranger (row_content (content refs) at) (shape refs) rows
    front_stranger stranger =
        stranger_as (row_content (content front ++ content back) at) (row_content (content refs) at) (λ row. ap (λ cs. row_content cs at row) join)
        (pair_shape (shape front) (shape back)) (shape refs) shapes rows
        (stranger_front (content front) (content back) (shape front) (shape back) at rows several half stranger)

    pub back_stranger : HasStranger (row_content (content back) (at + length refs / 2)) (shape back) rows → HasStranger (row_content (content refs) at) (shape refs) rows
    back_stranger stranger =
        stranger_as (row_content (content front ++ content back) at) (row_content (content refs) at) (λ row. ap (λ cs. row_content cs at row) join)
        (pair_shape (shape front) (shape back)) (shape refs) shapes rows
        (stranger_back (content front) (content back) (shape front) (shape back) at rows several half
        (subst (λ n. HasStranger (row_content (content back) n) (shape back) rows) (sym next) stranger))

-- ---- one

pub only_one : {R : Type 0} (refs : List R) (r : R) → 0 < length refs → length refs ≤ 1 → r ≡ get_or refs 0 r → refs ≡ r ∷ []
only_one [] r some most is = absurd (omega (arith, some))
only_one (s ∷ []) r some most is = ap (λ x. x ∷ []) (sym is)
only_one (s ∷ t ∷ rs) r some most is = absurd (omega (arith, most))
