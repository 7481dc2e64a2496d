-- The nodes inside a node are less deep, and have few variants as it has.
use Rattle.std.proofs.Common.{◌≡◌, ℕ, zero, suc, ◌<◌, ◌≤◌, ◌&&◌, Bool, true, false, Some, List, [], ◌∷◌, length, map, max, Vec, Global, get_or, refl, sym, ap, subst, ◌∙◌, arith}
use Rattle.std.specs.Prelude.{slice_get, option_map}
use Rattle.std.specs.List.{list_all}
use Rattle.std.specs.declared.string.String.{String}
use Rattle.std.proofs.lemmas.Bool.{leb-true}
use Rattle.std.proofs.lemmas.List.{length-map}
use Rattle.std.proofs.lemmas.List.Sums.{AllPass-from_list_all}
use Rattle.std.proofs.lemmas.Option.{slice_get_within, get_or_from_slice_get, slice_get-map, slice_get_read}
use Rattle.bitcode_shapes.specs.Shape.{Shape}
use Rattle.bitcode_enums.specs.ByNumber.{shape_at}
use Rattle.bitcode_schema.specs.Depth.{depth, has_few_variants, greatest, most_variants}
use Rattle.bitcode_schema.specs.Forms.{shape_of, shapes_of, parts_of}
use Rattle.bitcode_schema.specs.Reading.{fields_of, variant_shapes}
use Rattle.bitcode_schema.specs.declared.schema.SchemaNode.{SchemaNode}
use Rattle.bitcode_schema.specs.declared.schema.SchemaNode.TheVariants as node
use Rattle.bitcode_schema.proofs.NodeLemmas.{few-Tuple, few-Struct, few-Enum, depth-Tuple, depth-Struct, depth-Enum}
use Rattle.bitcode_schema.proofs.ShapeLemmas.{fields-Tuple, fields-Struct, variants-Enum, length-Enum}

-- ---- an element

module _ {A : Type 0} where
  pub element : (xs : List A) (i : ℕ) (x : A) → i < length xs → x ≡ get_or xs i x → slice_get xs i ≡ Some x
  element xs i x inside is = slice_get_read xs (length xs) i x refl inside is

  greatest_above : (f : A → ℕ) (xs : List A) (i : ℕ) (x : A) → slice_get xs i ≡ Some x → f x ≤ greatest (map f xs)
  greatest_above f [] i x is = absurd cc
  greatest_above f (y ∷ xs) zero x is = subst (λ z. f z ≤ max (f y) (greatest (map f xs))) (let e : y ≡ x = cc in e) (omega arith)
  greatest_above f (y ∷ xs) (suc i) x is = let h = greatest_above f xs i x is in omega (arith, h)

  passes : (p : A → Bool) (xs : List A) (i : ℕ) (x : A) → list_all p xs ≡ true → slice_get xs i ≡ Some x → p x ≡ true
  passes p xs i x all is =
      subst (λ y. p y ≡ true) (get_or_from_slice_get xs i x x is) (AllPass-from_list_all p xs all i x (slice_get_within xs i x is))

-- the second part of a pair
pub part_at : {N A : Type 0} (named : List (N × A)) (i : ℕ) (part : N × A) → slice_get named i ≡ Some part → slice_get (parts_of named) i ≡ Some part.1
part_at named i part is = slice_get-map (λ p. p.1) named i ∙ ap (λ found. option_map (λ p. p.1) found) is

shape_found : (ss : List Shape) (i : ℕ) (s : Shape) → slice_get ss i ≡ Some s → shape_at i (shapes_of ss) ≡ s
shape_found [] i s is = absurd cc
shape_found (t ∷ ss) zero s is = cc
shape_found (t ∷ ss) (suc i) s is = shape_found ss i s is

-- ---- fields

module _ (v : Vec SchemaNode Global) (i : ℕ) (field : SchemaNode) (is : slice_get v.items i ≡ Some field) where
  pub found-Tuple : slice_get (fields_of (node.Tuple v)) i ≡ Some field
  found-Tuple = ap (λ fields. slice_get fields i) (fields-Tuple v) ∙ is

  pub deeper-Tuple : depth field < depth (node.Tuple v)
  deeper-Tuple = let h = greatest_above depth v.items i field is in let e = depth-Tuple v in omega (arith, h, e)

  pub few_in-Tuple : has_few_variants (node.Tuple v) ≡ true → has_few_variants field ≡ true
  few_in-Tuple few = passes has_few_variants v.items i field (sym (few-Tuple v) ∙ few) is

module _ (v : Vec (String Global × SchemaNode) Global) (i : ℕ) (part : String Global × SchemaNode) (is : slice_get v.items i ≡ Some part) where
  pub found-Struct : slice_get (fields_of (node.Struct v)) i ≡ Some part.1
  found-Struct = ap (λ fields. slice_get fields i) (fields-Struct v) ∙ part_at v.items i part is

  pub deeper-Struct : depth part.1 < depth (node.Struct v)
  deeper-Struct = let h = greatest_above (λ p. depth p.1) v.items i part is in let e = depth-Struct v in omega (arith, h, e)

  pub few_in-Struct : has_few_variants (node.Struct v) ≡ true → has_few_variants part.1 ≡ true
  few_in-Struct few = passes (λ p. has_few_variants p.1) v.items i part (sym (few-Struct v) ∙ few) is

  -- ---- payloads

  pub found-Enum : shape_at i (shapes_of (variant_shapes (node.Enum v))) ≡ shape_of part.1
  found-Enum =
      ap (λ ss. shape_at i (shapes_of ss)) (variants-Enum v)
      ∙ shape_found (map shape_of (parts_of v.items)) i (shape_of part.1)
      (slice_get-map shape_of (parts_of v.items) i ∙ ap (λ found. option_map shape_of found) (part_at v.items i part is))

  pub deeper-Enum : depth part.1 < depth (node.Enum v)
  deeper-Enum = let h = greatest_above (λ p. depth p.1) v.items i part is in let e = depth-Enum v in omega (arith, h, e)

  pub few_in-Enum : has_few_variants (node.Enum v) ≡ true → has_few_variants part.1 ≡ true
  few_in-Enum few = passes (λ p. has_few_variants p.1) v.items i part (second_true _ _ (sym (few-Enum v) ∙ few)) is
    where
      second_true : (a b : Bool) → (a && b) ≡ true → b ≡ true
      second_true true b h = h
      second_true false b h = absurd cc

-- a field that is there has a node
pub field_there : (v : Vec (String Global × SchemaNode) Global) (i : ℕ) → i < length (fields_of (node.Struct v)) → length v.items ≤ i → ⊥
field_there v i below past =
    let e : length (fields_of (node.Struct v)) ≡ length v.items = ap length (fields-Struct v) ∙ length-map v.items (λ p. p.1) in
    omega (arith, below, past, e)

-- an enum has few variants
pub few_payloads : (v : Vec (String Global × SchemaNode) Global) → has_few_variants (node.Enum v) ≡ true → length v.items ≤ most_variants
few_payloads v few = leb-true (length v.items) most_variants (first_true _ _ (sym (few-Enum v) ∙ few))
  where
    first_true : (a b : Bool) → (a && b) ≡ true → a ≡ true
    first_true true b h = refl
    first_true false b h = absurd cc

-- a variant that is there has a payload
pub payload_there : (v : Vec (String Global × SchemaNode) Global) (i : ℕ) → i < length (variant_shapes (node.Enum v)) → length v.items ≤ i → ⊥
payload_there v i below past = let e = length-Enum v in omega (arith, below, past, e)
