-- Values whose cases are those of their nodes.
use Rattle.std.proofs.Common.{◌≡◌, ℕ, zero, suc, ◌+◌, ◌-◌, ◌<◌, ◌≤◌, List, [], ◌∷◌, ◌++◌, length, map, take, Some, slice_get, refl, ap, subst, ◌∙◌, arith, add-one, sub-one, Box, Vec, Global}
use Rattle.std.specs.List.{flat_map}
use Rattle.std.proofs.lemmas.Bool.{le-ltb}
use Rattle.std.proofs.lemmas.Grind.{flat_map-append}
use Rattle.std.proofs.lemmas.List.{map-append}
use Rattle.std.proofs.Math.Seq.{take-length}
use Rattle.bitcode_untyped.specs.Faults.{Judge, faults_of, faults_of_fields}
use Rattle.bitcode_untyped.specs.declared.shape.ShapeNode.{ShapeNode}
use Rattle.bitcode_untyped.specs.declared.shape.ShapeNode.TheVariants as node
use Rattle.bitcode_untyped.specs.declared.value.Value.{Value}
use Rattle.bitcode_untyped.specs.declared.value.Value.TheVariants as value
use Rattle.bitcode_untyped.proofs.ContentLemmas.{no_first, no_last}
use Rattle.bitcode_untyped.proofs.FaultLemmas.{faults-Enum, faults-Ref}

-- ---- lists of faults

pub nothing : {A : Type 0} (xs ys : List A) → xs ≡ [] → ys ≡ [] → xs ++ ys ≡ []
nothing xs ys h k = rw (h, k) refl

pub one_more_whole : {A B : Type 0} (f : A → List B) (xs : List A) (x : A) → flat_map f xs ≡ [] → f x ≡ [] → flat_map f (xs ++ x ∷ []) ≡ []
one_more_whole f xs x h k = flat_map-append f xs (x ∷ []) ∙ nothing (flat_map f xs) (f x ++ []) h (nothing (f x) [] k refl)

-- ---- a value of one case

pub of_case : {A : Type 0} (table : List ShapeNode) (left : ℕ) (n : ShapeNode) (v : Value) (made : A → Value)
    → ((a : A) → faults_of table (made a) left n ≡ []) → (a : A) × (v ≡ made a) → faults_of table v left n ≡ []
of_case table left n v made each h = ap (λ w. faults_of table w left n) h.1 ∙ each h.0

-- ---- fields

field_whole : (judges : List Judge) (left : ℕ) (ns : List ShapeNode) (i : ℕ) (judge : Judge) (n : ShapeNode)
    → faults_of_fields judges left (take i ns) ≡ [] → slice_get ns i ≡ Some n → judge left n ≡ []
    → faults_of_fields (judges ++ judge ∷ []) left (take (suc i) ns) ≡ []
field_whole judges left [] i judge n h there k = cc
field_whole [] left (m ∷ ns) zero judge n h there k =
    let e : m ≡ n = cc in nothing (judge left m) [] (ap (judge left) e ∙ k) refl
field_whole (j ∷ judges) left (m ∷ ns) zero judge n h there k = cc
field_whole [] left (m ∷ ns) (suc i) judge n h there k = cc
field_whole (j ∷ judges) left (m ∷ ns) (suc i) judge n h there k =
    nothing (j left m) (faults_of_fields (judges ++ judge ∷ []) left (take (suc i) ns))
    (no_first (j left m) (faults_of_fields judges left (take i ns)) h)
    (field_whole judges left ns i judge n (no_last (j left m) (faults_of_fields judges left (take i ns)) h) there k)

module _ (table : List ShapeNode) (left : ℕ) (ns : List ShapeNode) where
  -- the fields that were read, from the first on, are without fault
  abbrev pub AreWhole : ℕ → List Value → Type 0
  AreWhole i vs = faults_of_fields (map (faults_of table) vs) left (take i ns) ≡ []

  pub one_more_field_whole : (vs : List Value) (i : ℕ) (v : Value) (n : ShapeNode) → AreWhole i vs → slice_get ns i ≡ Some n
      → faults_of table v left n ≡ [] → AreWhole (i + 1) (vs ++ v ∷ [])
  one_more_field_whole vs i v n h there k =
      rw (add-one, map-append) (field_whole (map (faults_of table) vs) left ns i (faults_of table v) n h there k)

  pub all_fields_whole : (vs : List Value) (i : ℕ) → i ≡ length ns → AreWhole i vs → faults_of_fields (map (faults_of table) vs) left ns ≡ []
  all_fields_whole vs i last h =
      subst (λ ms. faults_of_fields (map (faults_of table) vs) left ms ≡ []) (ap (λ k. take k ns) last ∙ take-length ns) h

-- ---- enums and references

pub enum_whole : (table : List ShapeNode) (left i : ℕ) (w : Box Value Global) (ns : Vec ShapeNode Global) (n : ShapeNode) → i ≤ 255
    → slice_get ns.items i ≡ Some n → faults_of table w.value left n ≡ [] → faults_of table (value.Enum i w) left (node.Enum ns) ≡ []
enum_whole table left i w ns n small there h = faults-Enum table left i w ns ∙ rw (le-ltb 255 i small, there) h

pub reference_whole : (table : List ShapeNode) (v : Value) (left i : ℕ) (n : ShapeNode) → 0 < left → slice_get table i ≡ Some n
    → faults_of table v (left - 1) n ≡ [] → faults_of table v left (node.Ref i) ≡ []
reference_whole table v zero i n some there h = absurd (omega arith)
reference_whole table v (suc left) i n some there h =
    faults-Ref table v left i n there ∙ (rw sub-one at h)
