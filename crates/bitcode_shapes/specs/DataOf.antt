-- What is known of a type, as one record: the data of its values, its laws, and its order.
use Rattle.std.proofs.Common.{Bool, true, ◌≡◌, refl, ◌∙◌}
use Rattle.std.specs.declared.alloc.Global.{Global}
use Rattle.std.specs.declared.cmp.Ordering.{Ordering}
use Rattle.bitcode_shapes.specs.Datum.{Datum}
use Rattle.bitcode_shapes.specs.Shape.{Shape}
use Rattle.bitcode_shapes.specs.ArrayCounts.{ListsSameArrays}
use Rattle.bitcode_shapes.specs.CompareAlike.{CompareAlike, alike_as, images_alike, ones_alike}
use Rattle.bitcode_shapes.specs.Lawful.{Lawful, Makeable}
use Rattle.bitcode_shapes.specs.LawfulImages.{image_lawful, image_makeable}
use Rattle.bitcode_shapes.specs.OwnInvariants.{whole_exact, whole_lawful, whole_makeable, whole_same_arrays, whole_same_data}
use Rattle.bitcode_shapes.specs.SameArrays.{image_same_arrays}
use Rattle.bitcode_shapes.specs.SameData.{HoldSameData, images_same_data}
use Rattle.bitcode_shapes.specs.SameIsOne.{AreExact, SameIsOne, images_exact, inexact}

-- `==` calls values equal that are the same
abbrev pub TellsEqual : {T : Type 0} → (T → Type 0) → (T → T → Type 0) → (T → T → Bool) → Type 0
TellsEqual {T} is_value same eq = (t u : T) → is_value t → is_value u → same t u → eq t u ≡ true

pub record DataOf (T : Type 0) : Type 1 where
  -- which data its values hold
  pub shape : Shape
  -- the invariant: the numbers and chars of the value are within the ranges of their types
  pub is_value : T → Type 0
  -- what a value holds; a hashed container or a heap may be listed in more than one order
  pub lists : T → Datum → Type 0
  -- two values are equal
  pub same : T → T → Type 0
  -- nothing in a value is kept in an order of its own, so that it has one listing
  pub in_order : Bool
  -- there is no set, map or heap in a value, so that values that are the same have the same listing, and a value lists
  -- the datum that makes it
  pub determined : Bool
  -- values that are the same are equal in every respect, as numbers are; texts may differ in their capacities
  pub exact : Bool
  -- the value is made of the datum
  pub makes : Datum → T → Type 0
  -- the `==` and the order of keys; of a type that is no key, all values are equal
  pub eq : T → T → Bool
  pub cmp : T → T → Ordering
  pub lawful : Lawful shape is_value lists same in_order
  pub makeable : Makeable shape is_value lists same makes
  -- all listings of a value hold the same numbers of arrays
  pub same_arrays : ListsSameArrays shape is_value lists
  pub same_data : HoldSameData determined is_value lists same makes
  pub are_exact : AreExact exact is_value same
  pub alike : CompareAlike eq cmp
  pub tells : TellsEqual is_value same eq

-- for a key
abbrev pub data_of : {T : Type 0} {shape : Shape} {is_value : T → Type 0} {lists : T → Datum → Type 0} {same : T → T → Type 0} {in_order determined exact : Bool}
    {makes : Datum → T → Type 0} {eq : T → T → Bool} {cmp : T → T → Ordering}
    → Lawful shape is_value lists same in_order → Makeable shape is_value lists same makes → ListsSameArrays shape is_value lists
    → HoldSameData determined is_value lists same makes → AreExact exact is_value same
    → CompareAlike eq cmp → TellsEqual is_value same eq → DataOf T
data_of {shape = shape} {is_value} {lists} {same} {in_order} {determined} {exact} {makes} {eq} {cmp} lawful makeable same_arrays same_data are_exact alike tells = record {
  shape = shape;
  is_value = is_value;
  lists = lists;
  same = same;
  in_order = in_order;
  determined = determined;
  exact = exact;
  makes = makes;
  eq = eq;
  cmp = cmp;
  lawful = lawful;
  makeable = makeable;
  same_arrays = same_arrays;
  same_data = same_data;
  are_exact = are_exact;
  alike = alike;
  tells = tells;
}

-- for a type that is no key
abbrev pub plain_data : {T : Type 0} {shape : Shape} {is_value : T → Type 0} {lists : T → Datum → Type 0} {same : T → T → Type 0} {in_order determined exact : Bool}
    {makes : Datum → T → Type 0}
    → Lawful shape is_value lists same in_order → Makeable shape is_value lists same makes → ListsSameArrays shape is_value lists
    → HoldSameData determined is_value lists same makes → AreExact exact is_value same → DataOf T
plain_data lawful makeable same_arrays same_data are_exact = data_of lawful makeable same_arrays same_data are_exact ones_alike (λ t u h i s. refl)

-- for a type whose values correspond to those of another type, such as a pointer with what it owns, given an allocator
abbrev pub pointed_data : {T P : Type 0} (value : T → P) → (Global → (p : P) → (t : T) × (value t ≡ p)) → DataOf P → DataOf T
pointed_data value build of =
    data_of (image_lawful value of.lawful) (image_makeable value (λ g p h. build g p) of.makeable) (image_same_arrays value of.same_arrays)
    (images_same_data value of.same_data) inexact
    (images_alike value of.alike) (λ t u h i s. of.tells (value t) (value u) h i s)

-- for a type whose values correspond one to one to those of another type, such as a struct with the tuple of its fields
abbrev pub data_as : {T P : Type 0} (parts : T → P) (of_parts : (p : P) → (t : T) × (parts t ≡ p)) → ((t : T) → (of_parts (parts t)).0 ≡ t) → DataOf P → DataOf T
data_as parts of_parts one_to_one of =
    data_of (image_lawful parts of.lawful) (image_makeable parts (λ g p h. of_parts p) of.makeable) (image_same_arrays parts of.same_arrays)
    (images_same_data parts of.same_data) (images_exact parts (λ p. (of_parts p).0) one_to_one of.are_exact)
    (images_alike parts of.alike) (λ t u h i s. of.tells (parts t) (parts u) h i s)

-- for a type with an invariant of its own, under which its values correspond one to one to those of another type, such as
-- an address with its number; its `==` and order are given
abbrev pub data_where : {T P : Type 0} {eq : T → T → Bool} {cmp : T → T → Ordering} (parts : T → P) (is_whole : T → Type 0) (of : DataOf P)
    → ((t : T) → is_whole t → of.is_value (parts t)) → ((p : P) → of.is_value p → (t : T) × (is_whole t × (parts t ≡ p))) → SameIsOne is_whole (λ t u. parts t ≡ parts u)
    → CompareAlike eq cmp → TellsEqual is_whole (λ t u. of.same (parts t) (parts u)) eq → DataOf T
data_where parts is_whole of fits of_parts one_to_one alike tells =
    data_of (whole_lawful parts is_whole fits of.lawful) (whole_makeable parts is_whole fits of_parts of.makeable) (whole_same_arrays parts is_whole fits of.same_arrays)
    (whole_same_data parts is_whole fits of.same_data) (whole_exact parts is_whole fits one_to_one of.are_exact) alike tells

-- for a key whose `==` and order give the answers of the record's, but are written differently
abbrev pub key_as : {T : Type 0} (of : DataOf T) (eq : T → T → Bool) (cmp : T → T → Ordering) → ((t u : T) → eq t u ≡ of.eq t u) → ((t u : T) → cmp t u ≡ of.cmp t u) → DataOf T
key_as of eq cmp same_eq same_cmp =
    data_of {eq = eq} {cmp = cmp} of.lawful of.makeable of.same_arrays of.same_data of.are_exact
    (alike_as of.alike same_eq same_cmp) (λ t u h i s. same_eq t u ∙ of.tells t u h i s)
