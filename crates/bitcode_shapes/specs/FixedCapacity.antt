-- Vectors and texts with a fixed capacity are lawful, and can be built up to that capacity.
use Rattle.std.proofs.Common.{ℕ, ◌≤◌, Bool, true, Some, List, [], length, refl}
use Rattle.std.specs.Prelude.{All, IsUtf8}
use Rattle.arrayvec.specs.ArrayVec.{ArrayVec}
use Rattle.arrayvec.specs.ArrayString.{ArrayString}
use Rattle.bitcode_shapes.specs.Datum.{Datum}
use Rattle.bitcode_shapes.specs.Shape.{Shape, seq_shape, text_shape, IsWithin}
use Rattle.bitcode_shapes.specs.Lawful.{Lawful, Makeable}
use Rattle.bitcode_shapes.specs.Storable.{IsStorableSize}
use Rattle.bitcode_shapes.specs.Lists.{ListsSequence, MakesSequence, SameSequence}
use Rattle.bitcode_shapes.specs.LawfulLists.{sequence_lawful, sequence_makeable}
use Rattle.bitcode_shapes.specs.Texts.{ListsText, MakesText, SameText}
use Rattle.bitcode_shapes.specs.LawfulTexts.{limited_lawful, limited_makeable}

-- the elements satisfy their invariant, and there are no more than fit
pub record IsWithinCapacity {T : Type 0} (capacity : ℕ) (is_value : T → Type 0) (values : List T) : Type 0 where
  pub each : All is_value values
  pub count : length values ≤ capacity

module _ {T : Type 0} (capacity : ℕ) (shape : Shape) (is_value : T → Type 0) (lists : T → Datum → Type 0) (same : T → T → Type 0) where
  pub array_vec_lawful : (order : Bool) → Lawful shape is_value lists same order
      → Lawful (seq_shape (Some capacity) shape) (λ (v : ArrayVec T). IsWithinCapacity capacity is_value v.items) (λ v d. ListsSequence lists v.items d)
      (λ v w. SameSequence same v.items w.items) order
  array_vec_lawful order element =
      sequence_lawful shape is_value lists same (λ (v : ArrayVec T). v.items) (λ v. IsWithinCapacity capacity is_value v.items) (λ v h. h.each)
      (seq_shape (Some capacity) shape) (IsWithin (Some capacity)) order (λ sound. sound) (λ d l. l) (λ v h. h.count) element

  pub array_vec_makeable : (makes : Datum → T → Type 0) → Makeable shape is_value lists same makes
      → Makeable (seq_shape (Some capacity) shape) (λ (v : ArrayVec T). IsWithinCapacity capacity is_value v.items) (λ v d. ListsSequence lists v.items d)
      (λ v w. SameSequence same v.items w.items) (λ d v. MakesSequence makes d v.items)
  array_vec_makeable makes element =
      sequence_makeable shape is_value lists same (λ (v : ArrayVec T). v.items) (λ v. IsWithinCapacity capacity is_value v.items) (λ v h. h.each)
      (seq_shape (Some capacity) shape) (IsWithin (Some capacity)) makes (IsStorableSize (Some capacity)) (λ d is. is) (λ d s. s)
      (λ g values any each count. (record { items = values }, (record { each = each; count = count }, refl))) element

-- the bytes are those of a text, and there are no more than fit
pub record IsTextWithin (capacity : ℕ) (bytes : List ℕ) : Type 0 where
  pub utf8 : IsUtf8 bytes
  pub size : length bytes ≤ capacity

module _ (capacity : ℕ) where
  pub array_string_lawful : Lawful (text_shape (Some capacity)) (λ (s : ArrayString). IsTextWithin capacity s.bytes) (ListsText (λ s. s.bytes)) (SameText (λ s. s.bytes)) true
  array_string_lawful = limited_lawful (λ s. s.bytes) (Some capacity) (λ s. IsTextWithin capacity s.bytes) (λ s h. (h.utf8, h.size))

  pub array_string_makeable : Makeable (text_shape (Some capacity)) (λ (s : ArrayString). IsTextWithin capacity s.bytes) (ListsText (λ s. s.bytes))
      (SameText (λ s. s.bytes)) (MakesText (λ s. s.bytes))
  array_string_makeable =
      limited_makeable (λ s. s.bytes) (Some capacity) (λ s. IsTextWithin capacity s.bytes)
      (λ g whole any utf8 size. (record { bytes = whole; spare = [] }, (record { utf8 = utf8; size = size }, refl)))
