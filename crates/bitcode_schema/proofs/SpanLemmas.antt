-- Durations are rows of seconds and nanoseconds.
use Rattle.std.proofs.Common.{◌≡◌, ℕ, Some, List, [], ◌∷◌, ◌<◌, length, slice_get, false, All, refl, arith}
use Rattle.bitcode_shapes.specs.Checked.{nanosecond_shape}
use Rattle.bitcode_shapes.specs.Ints.{int_shape}
use Rattle.bitcode_shapes.specs.Shape.{Shape, pair_shape}
use Rattle.bitcode_untyped.specs.declared.value.Value.{Value}
use Rattle.bitcode_schema.specs.Forms.{Content, fields_content, leaf_content, span_contents}
use Rattle.bitcode_schema.specs.Leaves.{int_leaf}
use Rattle.bitcode_schema.specs.Parts.{row_content}
use Rattle.bitcode_schema.specs.Views.{Hold, HasOther, fields_of, under}
use Rattle.bitcode_schema.specs.Writing.{Writes, HasStranger}
use Rattle.bitcode_schema.specs.declared.schema.IntKind.TheVariants as int
use Rattle.bitcode_schema.proofs.SeenLemmas.{stranger_other}
use Rattle.bitcode_schema.proofs.WholeLemmas.{writes_field, stranger_field, stranger_without, writes_halves, stranger_front, stranger_back, writes_rows, stranger_in_rows, stranger_of_size}

abbrev pub seconds : Content
seconds = leaf_content (Some (int_leaf int.U64))

abbrev pub nanoseconds : Content
nanoseconds = leaf_content (Some (int_leaf int.U32))

abbrev pub span_shape : Shape
span_shape = pair_shape (int_shape 8 false) nanosecond_shape

abbrev pub span : Content
span v = under (fields_of v) (fields_content span_contents)

module _ (vs : List Value) where
  pub no_row : HasOther fields_of vs → HasStranger span span_shape vs
  no_row other = stranger_other fields_of (fields_content span_contents) span_shape vs other

  module _ (rows : List (List Value)) (h : Hold fields_of vs rows) where
    pub other_size : (All (λ row. length row ≡ 2) rows → ⊥) → HasStranger span span_shape vs
    other_size other = stranger_of_size span_contents span_shape vs rows h other

    module _ (sized : All (λ row. length row ≡ 2) rows) where
      some : 1 < 2
      some = omega arith

      abbrev halves : HasStranger (row_content span_contents 0) span_shape rows → HasStranger span span_shape vs
      halves stranger = stranger_in_rows span_contents span_shape vs rows h sized stranger

      pub no_seconds : HasOther (λ row. slice_get row 0) rows → HasStranger span span_shape vs
      no_seconds other =
          halves (stranger_front (seconds ∷ []) (nanoseconds ∷ []) (int_shape 8 false) nanosecond_shape 0 rows some refl
          (stranger_without seconds (int_shape 8 false) 0 rows other))

      pub no_nanoseconds : HasOther (λ row. slice_get row 1) rows → HasStranger span span_shape vs
      no_nanoseconds other =
          halves (stranger_back (seconds ∷ []) (nanoseconds ∷ []) (int_shape 8 false) nanosecond_shape 0 rows some refl
          (stranger_without nanoseconds nanosecond_shape 1 rows other))

      pub other_seconds : (parts : List Value) → Hold (λ row. slice_get row 0) rows parts → HasStranger seconds (int_shape 8 false) parts → HasStranger span span_shape vs
      other_seconds parts held stranger =
          halves (stranger_front (seconds ∷ []) (nanoseconds ∷ []) (int_shape 8 false) nanosecond_shape 0 rows some refl
          (stranger_field seconds (int_shape 8 false) 0 rows parts held stranger))

      pub other_nanoseconds : (parts : List Value) → Hold (λ row. slice_get row 1) rows parts → HasStranger nanoseconds nanosecond_shape parts
          → HasStranger span span_shape vs
      other_nanoseconds parts held stranger =
          halves (stranger_back (seconds ∷ []) (nanoseconds ∷ []) (int_shape 8 false) nanosecond_shape 0 rows some refl
          (stranger_field nanoseconds nanosecond_shape 1 rows parts held stranger))

      pub whole_spans : (firsts seconds_of : List Value) → Hold (λ row. slice_get row 0) rows firsts → Hold (λ row. slice_get row 1) rows seconds_of
          → (old middle new : List ℕ) → Writes seconds (int_shape 8 false) firsts old middle → Writes nanoseconds nanosecond_shape seconds_of middle new
          → Writes span span_shape vs old new
      whole_spans firsts seconds_of first second old middle new w x =
          writes_rows span_contents span_shape vs rows h sized old new
          (writes_halves (seconds ∷ []) (nanoseconds ∷ []) (int_shape 8 false) nanosecond_shape 0 rows some refl old middle new
          (writes_field seconds (int_shape 8 false) 0 rows firsts first old middle w)
          (writes_field nanoseconds nanosecond_shape 1 rows seconds_of second middle new x))
