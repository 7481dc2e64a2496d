-- Values of nodes with parts hold the data that were read.
use Rattle.std.proofs.Common.{◌≡◌, ℕ, zero, suc, ◌<◌, ◌≤◌, ◌+◌, ◌-◌, ◌/◌, Option, Some, None, List, [], ◌∷◌, ◌++◌, length, map, slice_get, Box, Vec, Global, refl, sym, ap, ap₂, subst, ◌∙◌, arith}
use Rattle.std.specs.List.{AllZip}
use Rattle.std.specs.declared.string.String.{String}
use Rattle.std.specs.Prelude.{option_map}
use Rattle.std.proofs.lemmas.List.{length-map, length-take-le, map-append, nil_from_length, take-append-drop}
use Rattle.std.proofs.lemmas.Option.{slice_get-map}
use Rattle.bitcode_shapes.specs.Datum.{Datum, unit, choice, pair}
use Rattle.bitcode_shapes.specs.Shape.{Shape, unit_shape, pair_shape, choice_shape}
use Rattle.bitcode_enums.specs.ByNumber.{shape_at}
use Rattle.bitcode_schema.specs.Forms.{Content, changed, both, choice_content, content_under, enum_content, enum_shape, fields_content, parts_of, shape_of, shapes_of}
use Rattle.bitcode_schema.specs.Making.{MakesData, MakesPayloads, optional, payload_unit, variant_contents, variant_contents_step}
use Rattle.bitcode_schema.specs.Parts.{choice_under, contents_of, enum_under, option_content, unit_content}
use Rattle.bitcode_schema.specs.Reading.{fields_of as nodes_of, shape_of_fields, variant_shapes, variants_step}
use Rattle.bitcode_schema.specs.Views.{enum_of, fields_of, option_of, under}
use Rattle.bitcode_schema.specs.declared.schema.SchemaNode.{SchemaNode, out-SchemaNode}
use Rattle.bitcode_schema.specs.declared.schema.SchemaNode.TheOpen.{SchemaNode-F}
use Rattle.bitcode_schema.specs.declared.schema.SchemaNode.TheViews.{out-roll-SchemaNode}
use Rattle.bitcode_schema.specs.declared.schema.SchemaNode.TheVariants as node
use Rattle.bitcode_schema.proofs.ContentLemmas.{content-Tuple, content-Struct, content-Option, content-Result, content-Enum}
use Rattle.bitcode_schema.proofs.FieldLemmas.{range, range_size, range_front, range_back, range_pair, only_field}
use Rattle.bitcode_schema.proofs.HalfLemmas.{half_less}
use Rattle.bitcode_schema.proofs.HeldLemmas.{makes_as, makes_through, makes_pairs, one_row, two_rows}
use Rattle.bitcode_schema.proofs.HoldLemmas.{some_same}
use Rattle.bitcode_schema.proofs.PartLemmas.{part_at}
use Rattle.bitcode_schema.proofs.ShapeLemmas.{fields-Tuple, fields-Struct, shape-Option, shape-Result, shape-Enum, only_variant, several_variants}
use Rattle.bitcode_untyped.specs.declared.value.Value.{Value, out-Value}
use Rattle.bitcode_untyped.specs.declared.value.Value.TheOpen.{Value-F}

-- what a unit holds
unit_only : (w : Value-F Value) (d : Datum) → unit_content w ≡ Some d → d ≡ unit
unit_only Value-F.Unit d e = sym (some_same e)
unit_only _ d e = cc

-- ---- rows of fields

abbrev row_of : List SchemaNode → Vec Value Global → Option Datum
row_of fields row = fields_content (contents_of fields) row.items

module _ (fields : List SchemaNode) (from to k : ℕ) (old new : List ℕ) (rows : List (Vec Value Global)) where
  pub makes_halves : (middle : List ℕ) (xs ys : List (Vec Value Global)) (pairs : List (Vec Value Global × Vec Value Global)) → 1 < to - from → to ≤ length fields
      → MakesData (shape_of_fields (range from (from + (to - from) / 2) fields)) (row_of (range from (from + (to - from) / 2) fields)) k old middle xs
      → MakesData (shape_of_fields (range (from + (to - from) / 2) to fields)) (row_of (range (from + (to - from) / 2) to fields)) k middle new ys
      → map (λ p. p.0) pairs ≡ xs → map (λ p. p.1) pairs ≡ ys → AllZip (λ row parts. row.items ≡ parts.0.items ++ parts.1.items) rows pairs
      → MakesData (shape_of_fields (range from to fields)) (row_of (range from to fields)) k old new rows
  makes_halves middle xs ys pairs some within first second firsts seconds each =
      let half = (to - from) / 2 in
      let less : half < to - from = half_less (to - from) some in
      let whole = range from to fields in
      let front = range from (from + half) fields in
      let back = range (from + half) to fields in
      let size = range_size fields from to some within in
      let joined : front ++ back ≡ whole =
      ap₂ (λ f b. f ++ b) (sym (range_front fields from to some within)) (sym (range_back fields from to some within)) ∙ take-append-drop half whole in
      let contents : contents_of front ++ contents_of back ≡ contents_of whole = sym (map-append content_under front back) ∙ ap contents_of joined in
      let all : length (contents_of front ++ contents_of back) ≡ to - from = ap length contents ∙ length-map whole content_under ∙ size in
      let ahead : length (contents_of front) ≡ half =
      length-map front content_under ∙ ap length (sym (range_front fields from to some within))
      ∙ length-take-le half whole (omega (arith, size, less)) in
      subst (λ s. MakesData s (row_of whole) k old new rows) (sym (range_pair fields from to some within))
      (makes_through (λ row parts. row.items ≡ parts.0.items ++ parts.1.items) (λ parts. both pair (row_of front parts.0) (row_of back parts.1)) (row_of whole)
      (λ row parts d is h.
      subst (λ cs. fields_content cs row.items ≡ Some d) contents
      (two_rows (contents_of front) (contents_of back) row.items parts.0.items parts.1.items d (omega (arith, all, some))
      (ahead ∙ ap (λ n. n / 2) (sym all)) is h))
      (pair_shape (shape_of_fields front) (shape_of_fields back)) k old new rows pairs each
      (makes_pairs (row_of front) (row_of back) (shape_of_fields front) (shape_of_fields back) k old middle new xs ys first second pairs firsts seconds))

  pub makes_one_field : (field : SchemaNode) (values : List Value) → to - from ≡ 1 → slice_get fields from ≡ Some field
      → AllZip (λ row value. row.items ≡ value ∷ []) rows values → MakesData (shape_of field) (content_under field) k old new values
      → MakesData (shape_of_fields (range from to fields)) (row_of (range from to fields)) k old new rows
  makes_one_field field values one there each m =
      subst (λ fs. MakesData (shape_of_fields fs) (row_of fs) k old new rows) (sym (only_field fields from to field one there))
      (makes_through (λ row value. row.items ≡ value ∷ []) (content_under field) (row_of (field ∷ []))
      (λ row value d is h. one_row (content_under field) row.items value d is h) (shape_of field) k old new rows values each m)

-- ---- tuples

module _ (fields : List SchemaNode) (k : ℕ) (old new : List ℕ) (values : List Value) where
  abbrev tuple_content : Value → Option Datum
  tuple_content v = under (fields_of v) (fields_content (contents_of fields))

  pub makes_no_fields : (units : List Value) → length fields ≡ 0 → AllZip (λ value one. fields_of value ≡ Some []) values units
      → MakesData unit_shape payload_unit k old new units → MakesData (shape_of_fields fields) tuple_content k old new values
  makes_no_fields units none each m =
      subst (λ fs. MakesData (shape_of_fields fs) (λ v. under (fields_of v) (fields_content (contents_of fs))) k old new values) (sym (nil_from_length fields none))
      (makes_through (λ value one. fields_of value ≡ Some []) payload_unit (λ v. under (fields_of v) (fields_content []))
      (λ value one d is h. ap (λ o. under o (fields_content [])) is ∙ ap Some (sym (unit_only (out-Value one) d h)))
      unit_shape k old new values units each m)

  pub makes_tuples : (part : List SchemaNode) (rows : List (Vec Value Global)) → part ≡ fields → AllZip (λ value row. fields_of value ≡ Some row.items) values rows
      → MakesData (shape_of_fields part) (row_of part) k old new rows → MakesData (shape_of_fields fields) tuple_content k old new values
  makes_tuples part rows is each m =
      makes_through (λ value row. fields_of value ≡ Some row.items) (row_of fields) tuple_content
      (λ value row d seen h. ap (λ o. under o (fields_content (contents_of fields))) seen ∙ h)
      (shape_of_fields fields) k old new values rows each (subst (λ fs. MakesData (shape_of_fields fs) (row_of fs) k old new rows) is m)

-- ---- the contents of variants

pub contents-Option : (b : Box SchemaNode Global) → variant_contents (node.Option b) ≡ payload_unit ∷ content_under b.value ∷ []
contents-Option b = ap variant_contents (sym (node.rolls-Option b)) ∙ ap variant_contents_step (out-roll-SchemaNode (SchemaNode-F.Option b))

pub contents-Result : (a b : Box SchemaNode Global) → variant_contents (node.Result a b) ≡ content_under a.value ∷ content_under b.value ∷ []
contents-Result a b = ap variant_contents (sym (node.rolls-Result a b)) ∙ ap variant_contents_step (out-roll-SchemaNode (SchemaNode-F.Result a b))

pub contents-Enum : (v : Vec (String Global × SchemaNode) Global) → variant_contents (node.Enum v) ≡ contents_of (parts_of v.items)
contents-Enum v = ap variant_contents (sym (node.rolls-Enum v)) ∙ ap variant_contents_step (out-roll-SchemaNode (SchemaNode-F.Enum v))

pub as_many_contents : (n : SchemaNode) → length (variant_contents n) ≡ length (variant_shapes n)
as_many_contents n = step (out-SchemaNode n)
  where
    step : (w : SchemaNode-F SchemaNode) → length (variant_contents_step w) ≡ length (variants_step w)
    step (SchemaNode-F.Option b) = refl
    step (SchemaNode-F.Result a b) = refl
    step (SchemaNode-F.Enum v) = length-map (parts_of v.items) content_under ∙ sym (length-map (parts_of v.items) shape_of)
    step _ = refl

-- the payload of a variant that is there
pub content_found : (v : Vec (String Global × SchemaNode) Global) (i : ℕ) (part : String Global × SchemaNode) → slice_get v.items i ≡ Some part
    → slice_get (variant_contents (node.Enum v)) i ≡ Some (content_under part.1)
content_found v i part is =
    ap (λ cs. slice_get cs i) (contents-Enum v) ∙ slice_get-map content_under (parts_of v.items) i
    ∙ ap (λ found. option_map content_under found) (part_at v.items i part is)

-- ---- choices as values

module _ (k : ℕ) (old new : List ℕ) (values : List Value) (choices : List (ℕ × Value)) where
  pub makes_options : (content : Content) (s : Shape) → AllZip (λ value choice. option_of value ≡ Some (optional choice.0 choice.1)) values choices
      → MakesData s (choice_under (payload_unit ∷ content ∷ [])) k old new choices → MakesData s (λ v. under (option_of v) (option_content content)) k old new values
  makes_options content s each m =
      makes_through (λ value chosen. option_of value ≡ Some (optional chosen.0 chosen.1)) (choice_under (payload_unit ∷ content ∷ [])) (λ v. under (option_of v) (option_content content))
      (λ value chosen d is h. ap (λ o. under o (option_content content)) is ∙ held chosen.0 chosen.1 d h) s k old new values choices each m
    where
      none_held : (o : Option Datum) (d : Datum) → ((e : Datum) → o ≡ Some e → e ≡ unit) → changed (choice 0) o ≡ Some d → Some (choice 0 unit) ≡ Some d
      none_held (Some e) d only h = ap (λ x. Some (choice 0 x)) (sym (only e refl)) ∙ h
      none_held None d only h = cc

      held : (i : ℕ) (payload : Value) (d : Datum) → choice_content (payload_unit ∷ content ∷ []) i payload ≡ Some d → option_content content (optional i payload) ≡ Some d
      held zero payload d h = none_held (payload_unit payload) d (λ e. unit_only (out-Value payload) e) h
      held (suc zero) payload d h = h
      held (suc (suc i)) payload d h = cc

  module _ (contents : List Content) (s : Shape) (each : AllZip (λ value choice. enum_of value ≡ Some (choice.0, choice.1)) values choices)
      (m : MakesData s (choice_under contents) k old new choices) where
    pub makes_results : MakesData s (λ v. under (enum_of v) (choice_under contents)) k old new values
    makes_results =
        makes_through (λ value chosen. enum_of value ≡ Some (chosen.0, chosen.1)) (choice_under contents) (λ v. under (enum_of v) (choice_under contents))
        (λ value chosen d is h. ap (λ o. under o (choice_under contents)) is ∙ h) s k old new values choices each m

    pub makes_enums : 2 ≤ length contents → MakesData s (λ v. under (enum_of v) (enum_under contents)) k old new values
    makes_enums several =
        makes_through (λ value chosen. enum_of value ≡ Some (chosen.0, chosen.1)) (choice_under contents) (λ v. under (enum_of v) (enum_under contents))
        (λ value chosen d is h. ap (λ o. under o (enum_under contents)) is ∙ as_choice contents several chosen.0 chosen.1 ∙ h) s k old new values choices each m
      where
        as_choice : (cs : List Content) → 2 ≤ length cs → (i : ℕ) (payload : Value) → enum_content cs i payload ≡ choice_content cs i payload
        as_choice [] some i payload = absurd (omega (arith, some))
        as_choice (c ∷ []) some i payload = absurd (omega (arith, some))
        as_choice (c ∷ e ∷ cs) some i payload = refl

-- an enum of one variant
pub makes_single : (contents : List Content) (s : Shape) (k : ℕ) (old new : List ℕ) (values payloads : List Value) → length contents ≡ 1
    → AllZip (λ value payload. enum_of value ≡ Some (0, payload)) values payloads
    → ((content : Content) → slice_get contents 0 ≡ Some content → MakesData s content k old new payloads)
    → MakesData s (λ v. under (enum_of v) (enum_under contents)) k old new values
makes_single [] s k old new values payloads one each m = absurd (omega (arith, one))
makes_single (c ∷ []) s k old new values payloads one each m =
    makes_through (λ value payload. enum_of value ≡ Some (0, payload)) c (λ v. under (enum_of v) (enum_under (c ∷ [])))
    (λ value payload d is h. ap (λ o. under o (enum_under (c ∷ []))) is ∙ h) s k old new values payloads each (m c refl)
makes_single (c ∷ e ∷ cs) s k old new values payloads one each m = absurd (omega (arith, one))

-- ---- whole nodes

pub tuple_contents : (v : Vec SchemaNode Global) (value : Value)
    → under (fields_of value) (fields_content (contents_of (nodes_of (node.Tuple v)))) ≡ content_under (node.Tuple v) value
tuple_contents v value = ap (λ fs. under (fields_of value) (fields_content (contents_of fs))) (fields-Tuple v) ∙ sym (content-Tuple v value)

pub struct_contents : (v : Vec (String Global × SchemaNode) Global) (value : Value)
    → under (fields_of value) (fields_content (contents_of (nodes_of (node.Struct v)))) ≡ content_under (node.Struct v) value
struct_contents v value = ap (λ fs. under (fields_of value) (fields_content (contents_of fs))) (fields-Struct v) ∙ sym (content-Struct v value)

-- the shape of the choices of a node
abbrev choices_shape : SchemaNode → Shape
choices_shape n = choice_shape (shapes_of (variant_shapes n))

module _ (k : ℕ) (old new : List ℕ) (values : List Value) where
  pub makes_option_node : (b : Box SchemaNode Global) (choices : List (ℕ × Value)) → AllZip (λ value choice. option_of value ≡ Some (optional choice.0 choice.1)) values choices
      → MakesData (choices_shape (node.Option b)) (choice_under (variant_contents (node.Option b))) k old new choices
      → MakesData (shape_of (node.Option b)) (content_under (node.Option b)) k old new values
  makes_option_node b choices each m =
      makes_as (λ v. under (option_of v) (option_content (content_under b.value))) (content_under (node.Option b)) (λ v. sym (content-Option b v))
      (choices_shape (node.Option b)) (shape_of (node.Option b)) (sym (shape-Option b)) k old new values
      (makes_options k old new values choices (content_under b.value) (choices_shape (node.Option b)) each
      (subst (λ cs. MakesData (choices_shape (node.Option b)) (choice_under cs) k old new choices) (contents-Option b) m))

  pub makes_result_node : (a b : Box SchemaNode Global) (choices : List (ℕ × Value)) → AllZip (λ value choice. enum_of value ≡ Some (choice.0, choice.1)) values choices
      → MakesData (choices_shape (node.Result a b)) (choice_under (variant_contents (node.Result a b))) k old new choices
      → MakesData (shape_of (node.Result a b)) (content_under (node.Result a b)) k old new values
  makes_result_node a b choices each m =
      makes_as (λ v. under (enum_of v) (choice_under (variant_contents (node.Result a b)))) (content_under (node.Result a b))
      (λ v. ap (λ cs. under (enum_of v) (choice_under cs)) (contents-Result a b) ∙ sym (content-Result a b v))
      (choices_shape (node.Result a b)) (shape_of (node.Result a b)) (sym (shape-Result a b)) k old new values
      (makes_results k old new values choices (variant_contents (node.Result a b)) (choices_shape (node.Result a b)) each m)

  pub makes_enum_node : (v : Vec (String Global × SchemaNode) Global)
      → MakesData (enum_shape (variant_shapes (node.Enum v))) (λ value. under (enum_of value) (enum_under (variant_contents (node.Enum v)))) k old new values
      → MakesData (shape_of (node.Enum v)) (content_under (node.Enum v)) k old new values
  makes_enum_node v m =
      makes_as (λ value. under (enum_of value) (enum_under (variant_contents (node.Enum v)))) (content_under (node.Enum v))
      (λ value. ap (λ cs. under (enum_of value) (enum_under cs)) (contents-Enum v) ∙ sym (content-Enum v value))
      (enum_shape (variant_shapes (node.Enum v))) (shape_of (node.Enum v)) (sym (shape-Enum v)) k old new values m

  pub makes_single_enum : (n : SchemaNode) (payloads : List Value) → length (variant_shapes n) ≡ 1 → AllZip (λ value payload. enum_of value ≡ Some (0, payload)) values payloads
      → MakesPayloads n 0 k old new payloads → MakesData (enum_shape (variant_shapes n)) (λ v. under (enum_of v) (enum_under (variant_contents n))) k old new values
  makes_single_enum n payloads one each m =
      makes_single (variant_contents n) (enum_shape (variant_shapes n)) k old new values payloads (as_many_contents n ∙ one) each
      (λ content there. subst (λ s. MakesData s content k old new payloads) (sym (only_variant (variant_shapes n) one)) (m content there))

  pub makes_several_enum : (n : SchemaNode) (choices : List (ℕ × Value)) → 2 ≤ length (variant_shapes n)
      → AllZip (λ value choice. enum_of value ≡ Some (choice.0, choice.1)) values choices
      → MakesData (choices_shape n) (choice_under (variant_contents n)) k old new choices
      → MakesData (enum_shape (variant_shapes n)) (λ v. under (enum_of v) (enum_under (variant_contents n))) k old new values
  makes_several_enum n choices several each m =
      subst (λ s. MakesData s (λ v. under (enum_of v) (enum_under (variant_contents n))) k old new values) (sym (several_variants (variant_shapes n) several))
      (makes_enums k old new values choices (variant_contents n) (choices_shape n) each m (subst (λ c. 2 ≤ c) (sym (as_many_contents n)) several))

-- ---- payloads

pub makes_payloads : (n : SchemaNode) (variant : ℕ) (content : Content) (s : Shape) (k : ℕ) (old new : List ℕ) (values : List Value)
    → slice_get (variant_contents n) variant ≡ Some content → shape_at variant (shapes_of (variant_shapes n)) ≡ s
    → MakesData s content k old new values → MakesPayloads n variant k old new values
makes_payloads n variant content s k old new values there is m other at =
    subst (λ t. MakesData t other k old new values) (sym is) (subst (λ c. MakesData s c k old new values) (some_same (sym there ∙ at)) m)
