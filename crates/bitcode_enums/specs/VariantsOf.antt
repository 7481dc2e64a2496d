-- What is stated about the values of several variants, and the laws of these statements: for the last variant, for the
-- first one and the rest, and for a type whose values correspond to payloads. And what is stated about the variant with
-- a number.
use Rattle.std.proofs.Common.{◌≡◌, ℕ, ◌<◌, Bool}
use Rattle.std.specs.Prelude.{◌&&◌, List, ◌⊎◌}
use Rattle.bitcode_shapes.specs.Datum.{Datum}
use Rattle.bitcode_shapes.specs.Shape.{Shape, Shapes, no_shapes, shape_and, variant_count}
use Rattle.bitcode_shapes.specs.Choices.{IsVariantValue, ListsLast, ListsVariant, MakesLast, MakesVariant, SameVariant}
use Rattle.bitcode_shapes.specs.ArrayCounts.{VariantsListSameArrays}
use Rattle.bitcode_shapes.specs.SameArrays.{first_same_arrays, last_same_arrays}
use Rattle.bitcode_shapes.specs.DataOf.{DataOf}
use Rattle.bitcode_shapes.specs.SameData.{VariantsHoldSameData, first_same_data, last_same_data}
use Rattle.bitcode_shapes.specs.SameIsOne.{AreExact, images_exact, variants_exact}
use Rattle.bitcode_shapes.specs.LawfulChoices.{LawfulVariants, MakeableVariants, first_lawful, first_makeable, last_lawful, last_makeable}
use Rattle.bitcode_coder.specs.Columns.{Columns}
use Rattle.bitcode_coder.specs.Coder.{JoinsListing, OverflowsWithListing, TakesDatum}
use Rattle.bitcode_enums.specs.Told.{IsTold, told_exact, told_lawful, told_makeable, told_same_arrays, told_same_data}
use Rattle.bitcode_enums.specs.LawfulVariants.{below_last, below_either, variants_image_lawful, variants_image_makeable, variants_image_same_arrays, variants_image_same_data}
use Rattle.bitcode_enums.specs.ByNumber.{shape_at, index_either, joins_either, overflows_either, takes_either}
use Rattle.bitcode_enums.specs.ByNumberLaws.{last_joined, last_overflowed, last_taken, either_joined, either_overflowed, either_taken, image_joined, image_overflowed, image_taken}

-- values of several variants: the variant of a value, what its payload holds and is made from, and how it is written
-- and read
pub record VariantsOf (T : Type 0) : Type 1 where
  pub shapes : Shapes
  pub is_value : T → Type 0
  pub lists : T → ℕ → Datum → Type 0
  pub same : T → T → Type 0
  pub in_order : Bool
  pub determined : Bool
  pub exact : Bool
  pub index : T → ℕ
  pub makes : ℕ → Datum → T → Type 0
  -- the payload was added to the columns of its variant
  pub joins : T → Columns → Columns → Type 0
  -- with the payload some number of arrays in those columns does not fit in a length
  pub overflows : T → Columns → Type 0
  -- the payload was taken from the data of its variant
  pub takes : T → List Datum → List Datum → Type 0

-- their laws
pub record VariantLaws {T : Type 0} (vs : VariantsOf T) : Type 0 where
  pub below : (t : T) → vs.index t < variant_count vs.shapes
  pub lawful : LawfulVariants vs.shapes vs.is_value vs.lists vs.same vs.in_order
  pub makeable : MakeableVariants vs.shapes vs.is_value vs.lists vs.same vs.makes
  pub same_arrays : VariantsListSameArrays vs.shapes vs.is_value vs.lists
  pub same_data : VariantsHoldSameData vs.determined vs.is_value vs.lists vs.same vs.makes
  pub are_exact : AreExact vs.exact vs.is_value vs.same
  pub joined : (t : T) (old new : Columns) → vs.joins t old new → JoinsListing (λ u d. vs.lists u (vs.index u) d) (shape_at (vs.index t) vs.shapes) t old new
  pub overflowed : (t : T) (old : Columns) → vs.overflows t old → OverflowsWithListing (λ u d. vs.lists u (vs.index u) d) (shape_at (vs.index t) vs.shapes) t old
  pub taken : (t : T) (old new : List Datum) → vs.takes t old new → TakesDatum (λ d u. vs.makes (vs.index t) d u) t old new

-- ---- the last variant

abbrev pub last_variant : {A : Type 0} → DataOf A → VariantsOf A
last_variant a = record {
  shapes = shape_and a.shape no_shapes;
  is_value = IsTold a.is_value;
  lists = ListsLast a.lists;
  same = a.same;
  in_order = a.in_order;
  determined = a.determined;
  exact = a.exact;
  index = λ v. 0;
  makes = MakesLast a.makes;
  joins = JoinsListing a.lists a.shape;
  overflows = OverflowsWithListing a.lists a.shape;
  takes = TakesDatum a.makes;
}

pub last_variant_laws : {A : Type 0} (a : DataOf A) → VariantLaws (last_variant a)
last_variant_laws a = record {
  below = λ v. below_last a.shape;
  lawful = last_lawful (told_lawful a);
  makeable = last_makeable (told_makeable a);
  same_arrays = last_same_arrays (told_same_arrays a);
  same_data = last_same_data (told_same_data a);
  are_exact = told_exact a;
  joined = last_joined;
  overflowed = last_overflowed;
  taken = last_taken a.makes;
}

-- ---- the first variant, or one of the rest

abbrev pub first_variant : {A R : Type 0} → DataOf A → VariantsOf R → VariantsOf (A ⊎ R)
first_variant a r = record {
  shapes = shape_and a.shape r.shapes;
  is_value = IsVariantValue (IsTold a.is_value) r.is_value;
  lists = ListsVariant a.lists r.lists;
  same = SameVariant a.same r.same;
  in_order = a.in_order && r.in_order;
  determined = a.determined && r.determined;
  exact = a.exact && r.exact;
  index = index_either r.index;
  makes = MakesVariant a.makes r.makes;
  joins = joins_either (JoinsListing a.lists a.shape) r.joins;
  overflows = overflows_either (OverflowsWithListing a.lists a.shape) r.overflows;
  takes = takes_either (TakesDatum a.makes) r.takes;
}

pub first_variant_laws : {A R : Type 0} (a : DataOf A) (r : VariantsOf R) → VariantLaws r → VariantLaws (first_variant a r)
first_variant_laws a r laws = record {
  below = below_either a.shape r.shapes r.index laws.below;
  lawful = first_lawful (told_lawful a) laws.lawful;
  makeable = first_makeable (told_makeable a) laws.makeable;
  same_arrays = first_same_arrays (told_same_arrays a) laws.same_arrays;
  same_data = first_same_data (told_same_data a) laws.same_data;
  are_exact = variants_exact (told_exact a) laws.are_exact;
  joined = either_joined a.shape r.shapes a.lists r.lists r.index r.joins laws.joined;
  overflowed = either_overflowed a.shape r.shapes a.lists r.lists r.index r.overflows laws.overflowed;
  taken = either_taken r.index a.makes r.makes r.takes laws.taken;
}

-- ---- a type whose values correspond to such payloads, one to one

abbrev pub variants_of : {T V : Type 0} → VariantsOf V → (payload : T → V) → VariantsOf T
variants_of v payload = record {
  shapes = v.shapes;
  is_value = λ t. v.is_value (payload t);
  lists = λ t i d. v.lists (payload t) i d;
  same = λ t u. v.same (payload t) (payload u);
  in_order = v.in_order;
  determined = v.determined;
  exact = v.exact;
  index = λ t. v.index (payload t);
  makes = λ i d t. v.makes i d (payload t);
  joins = λ t. v.joins (payload t);
  overflows = λ t. v.overflows (payload t);
  takes = λ t. v.takes (payload t);
}

pub laws_of : {T V : Type 0} (v : VariantsOf V) (payload : T → V) (find : (p : V) → (t : T) × (payload t ≡ p)) → ((t : T) → (find (payload t)).0 ≡ t)
    → VariantLaws v → VariantLaws (variants_of v payload)
laws_of v payload find one_to_one laws = record {
  below = λ t. laws.below (payload t);
  lawful = variants_image_lawful payload laws.lawful;
  makeable = variants_image_makeable payload find laws.makeable;
  same_arrays = variants_image_same_arrays payload laws.same_arrays;
  same_data = variants_image_same_data payload laws.same_data;
  are_exact = images_exact payload (λ p. (find p).0) one_to_one laws.are_exact;
  joined = λ t old new h. image_joined payload v.index v.lists t (laws.joined (payload t) old new h);
  overflowed = λ t old h. image_overflowed payload v.index v.lists t (laws.overflowed (payload t) old h);
  taken = λ t old new h. image_taken payload v.makes t (laws.taken (payload t) old new h);
}

-- ---- the variant with a number

-- the variant with a number has payloads of such a shape; `value` is its value with a payload, and a statement about
-- the payload holds for that value
pub record IsVariant {T P : Type 0} (vs : VariantsOf T) (number : ℕ) (shape : Shape) (lists : P → Datum → Type 0) (makes : Datum → P → Type 0) (value : P → T) : Type 0 where
  pub has_shape : shape_at number vs.shapes ≡ shape
  pub is_of : (p : P) → vs.index (value p) ≡ number
  pub joins : (p : P) (old new : Columns) → JoinsListing lists shape p old new → vs.joins (value p) old new
  pub overflows : (p : P) (old : Columns) → OverflowsWithListing lists shape p old → vs.overflows (value p) old
  pub takes : (p : P) (old new : List Datum) → TakesDatum makes p old new → vs.takes (value p) old new

abbrev pub is_variant : {T P : Type 0} {vs : VariantsOf T} {number : ℕ} {shape : Shape} {lists : P → Datum → Type 0} {makes : Datum → P → Type 0} {value : P → T}
    → shape_at number vs.shapes ≡ shape → ((p : P) → vs.index (value p) ≡ number)
    → ((p : P) (old new : Columns) → JoinsListing lists shape p old new → vs.joins (value p) old new)
    → ((p : P) (old : Columns) → OverflowsWithListing lists shape p old → vs.overflows (value p) old)
    → ((p : P) (old new : List Datum) → TakesDatum makes p old new → vs.takes (value p) old new) → IsVariant vs number shape lists makes value
is_variant has_shape is_of joins overflows takes = record {
  has_shape = has_shape;
  is_of = is_of;
  joins = joins;
  overflows = overflows;
  takes = takes;
}
