-- Fields are read by halves.
use Rattle.std.proofs.Common.{◌≡◌, ℕ, zero, suc, ◌+◌, ◌-◌, ◌/◌, ◌<◌, ◌≤◌, Bool, ◌&&◌, List, [], ◌∷◌, length, map, take, drop, Some, slice_get, refl, ap, ap₂, ◌∙◌, inr, arith, length-drop}
use Rattle.std.proofs.lemmas.List.{length-take-le, drop-take, drop-drop, take-take, length-map}
use Rattle.std.specs.List.{take-map, drop-map}
use Rattle.std.proofs.Math.Seq.{take-length}
use Rattle.bitcode_memory.specs.declared.error.Reason.{Reason}
use Rattle.bitcode_shapes.specs.Shape.{Shape, unit_shape, pair_shape}
use Rattle.bitcode_coder.specs.FirstFault.{IsFirstFault}
use Rattle.bitcode_tuples.specs.Pairs.{pairs_of}
use Rattle.bitcode_tuples.proofs.ReadingLemmas.{reads_pairs, judges_pairs}
use Rattle.bitcode_schema.proofs.HalfLemmas.{halved_pair, half_less}
use Rattle.bitcode_schema.specs.Forms.{shape_of, fields_shape}
use Rattle.bitcode_schema.specs.Reading.{ReadsData, shape_of_fields}
use Rattle.bitcode_schema.specs.declared.schema.SchemaNode.{SchemaNode}

-- ---- the shapes of fields

fields_pair : (fields : List SchemaNode) → 1 < length fields
    → shape_of_fields fields ≡ pair_shape (shape_of_fields (take (length fields / 2) fields)) (shape_of_fields (drop (length fields / 2) fields))
fields_pair fields some =
    let same : length (map shape_of fields) ≡ length fields = length-map fields shape_of in
    halved_pair unit_shape pair_shape (map shape_of fields) (omega (arith, some, same))
    ∙ ap (λ n. pair_shape (fields_shape (take (n / 2) (map shape_of fields))) (fields_shape (drop (n / 2) (map shape_of fields)))) same
    ∙ ap₂ (λ front back. pair_shape (fields_shape front) (fields_shape back)) (take-map shape_of (length fields / 2) fields) (drop-map shape_of (length fields / 2) fields)

-- the fields from one to another
abbrev pub range : (from to : ℕ) → List SchemaNode → List SchemaNode
range from to fields = take (to - from) (drop from fields)

-- those in the middle of a range cut it
module _ (fields : List SchemaNode) (from to : ℕ) (some : 1 < to - from) (within : to ≤ length fields) where
  abbrev half : ℕ
  half = (to - from) / 2

  pub range_size : length (range from to fields) ≡ to - from
  range_size =
      let there : length (drop from fields) ≡ length fields - from = length-drop from fields in
      length-take-le (to - from) (drop from fields) (omega (arith, there, within, some))

  pub range_front : take half (range from to fields) ≡ range from (from + half) fields
  range_front =
      let less : half < to - from = half_less (to - from) some in
      take-take half (to - from) (drop from fields) (omega (arith, less))
      ∙ ap (λ n. take n (drop from fields)) (let e : half ≡ (from + half) - from = omega arith in e)

  pub range_back : drop half (range from to fields) ≡ range (from + half) to fields
  range_back =
      let less : half < to - from = half_less (to - from) some in
      let whole : to - from ≡ half + (to - from - half) = omega (arith, less) in
      ap (λ n. drop half (take n (drop from fields))) whole
      ∙ drop-take half (to - from - half) (drop from fields)
      ∙ ap (take (to - from - half)) (drop-drop half from fields)
      ∙ ap (λ n. take n (drop (from + half) fields)) (let e : to - from - half ≡ to - (from + half) = omega (arith, some) in e)

  pub range_pair : shape_of_fields (range from to fields)
      ≡ pair_shape (shape_of_fields (range from (from + (to - from) / 2) fields)) (shape_of_fields (range (from + (to - from) / 2) to fields))
  range_pair =
      let size = range_size in
      fields_pair (range from to fields) (omega (arith, size, some))
      ∙ ap (λ n. pair_shape (shape_of_fields (take (n / 2) (range from to fields))) (shape_of_fields (drop (n / 2) (range from to fields)))) size
      ∙ ap₂ (λ f b. pair_shape (shape_of_fields f) (shape_of_fields b)) range_front range_back

pub no_fields : (fields : List SchemaNode) → length fields ≡ 0 → shape_of_fields fields ≡ unit_shape
no_fields [] none = refl
no_fields (f ∷ fields) none = absurd (omega (arith, none))

pub whole_range : (fields : List SchemaNode) (count : ℕ) → count ≡ length fields → range 0 count fields ≡ fields
whole_range fields count is = ap (λ n. take n fields) (let e : count - 0 ≡ length fields = omega (arith, is) in e) ∙ take-length fields

-- a range of one field
pub only_field : (fields : List SchemaNode) (from to : ℕ) (field : SchemaNode) → to - from ≡ 1 → slice_get fields from ≡ Some field → range from to fields ≡ field ∷ []
only_field fields from to field one is = ap (λ n. take n (drop from fields)) one ∙ first fields from is
  where
    first : (fs : List SchemaNode) (i : ℕ) → slice_get fs i ≡ Some field → take 1 (drop i fs) ≡ field ∷ []
    first [] i h = cc
    first (f ∷ fs) zero h = ap (λ g. g ∷ []) (let e : f ≡ field = cc in e)
    first (f ∷ fs) (suc i) h = first fs i h

pub one_field : (fields : List SchemaNode) (from to : ℕ) (field : SchemaNode) → to - from ≡ 1 → slice_get fields from ≡ Some field → shape_of_fields (range from to fields) ≡ shape_of field
one_field fields from to field one is = ap shape_of_fields (only_field fields from to field one is)

-- ---- pairs

module _ (k : ℕ) (s t : Shape) (strict : Bool) where
  pub reads_both : {old middle new : List ℕ} {a b : Bool} → ReadsData s k strict old middle a → ReadsData t k strict middle new b
      → ReadsData (pair_shape s t) k strict old new (a && b)
  reads_both {new = new} {a = a} {b = b} first second = record {
    found = pairs_of first.found second.found;
    read = reads_pairs s t k new second.found first.read second.read;
    judged = λ asked. judges_pairs s t k new second.found a b first.read second.read (first.judged asked) (second.judged asked);
  }

  pub fault_of_second : (reason : Reason) {old middle : List ℕ} {a : Bool} → ReadsData s k strict old middle a → IsFirstFault t reason k middle
      → IsFirstFault (pair_shape s t) reason k old
  fault_of_second reason {middle = middle} first fault = inr (record { entries = first.found; rest = middle; read = first.read; fault = fault })
